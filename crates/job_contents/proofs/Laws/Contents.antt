-- The laws of the contents: each answer is given exactly where it says so of the file, and the bodies lie inside the file and end with it.
-- Assumes nothing.
pub mod Cut
use Rattle.std.specs.Prelude.{ℕ, ◌%◌, ◌≤◌, ◌<◌, ◌≡◌, refl, ◌↔◌, List, Bool, true, false, not, ◌||◌, ltb, eqb, length, get_or, Ok, Err, Result}
use Rattle.std.proofs.Math.Path.{sym}
use Rattle.std.proofs.Common.{◌∙◌, subst, arith, lit≤}
use borrow.Author.Tests.{ltb-true, ltb-false, lt-ltb, le-ltb, eqb-true, eq-eqb, not-false}
use Rattle.ground.proofs.Laws.OnAnswers.{one_answer}
use Rattle.ground.proofs.Laws.Choice.{clash, must, either, if_true, if_false, neither}
use Rattle.constants.specs.Refusals.{refusal, file_too_long, wrong_contents}
use Rattle.constants.specs.Sizes.{file_most, contents_bytes, settings_bytes, record_bytes, row_bytes}
use Rattle.job_contents.specs.declared.Entry.{Entry}
use Rattle.job_contents.specs.declared.Bodies.{Bodies}
use Rattle.job_contents.specs.Contents.{first, second, third, end_of, wrong_entry, uneven, entries_of, contents_of, OnFound}
use Rattle.job_contents.specs.Contents.{Headed, Right, FirstRight, SecondRight, ThirdRight, Whole, refusal_of, ContentsSay, ContentsTold, Lies}
use Rattle.ground.specs.declared.Refusal.{Refusal}

-- ---- each test is met exactly where what it asks for does not hold

-- a test that fails exactly where something holds is met exactly where it does not
record Tests (b : Bool) (P : Type 0) : Type 0 where
  unmet_holds : b ≡ false → P
  holds_unmet : P → b ≡ false

met : {b : Bool} {P : Type 0} → Tests b P → (P → ⊥) → b ≡ true
met {b} t f = must b (λ e. f (t.unmet_holds e))

unmet : {b : Bool} {P : Type 0} → Tests b P → b ≡ true → P → ⊥
unmet t e p = clash e (t.holds_unmet p)

-- two numbers that should be one, a number that should be no greater, and two tests one after the other
tests_equal : (m n : ℕ) → Tests (not (eqb m n)) (m ≡ n)
tests_equal m n = record { unmet_holds = λ e. eqb-true m n (not-false _ e); holds_unmet = λ e. rw (eq-eqb m n e) }

tests_at_most : (m n : ℕ) → Tests (ltb n m) (m ≤ n)
tests_at_most m n = record { unmet_holds = ltb-false n m; holds_unmet = le-ltb n m }

tests_both : {a b : Bool} {P Q : Type 0} → Tests a P → Tests b Q → Tests (a || b) (P × Q)
tests_both {a} {b} s t =
    record {
      unmet_holds = λ e. let h = neither a b e in (s.unmet_holds h.0, t.unmet_holds h.1);
      holds_unmet = λ h. simp (s.holds_unmet h.0, t.holds_unmet h.1);
    }

tests_record : {b : Bool} {P Q : Type 0} → Tests b P → (P → Q) → (Q → P) → Tests b Q
tests_record t f g = record { unmet_holds = λ e. f (t.unmet_holds e); holds_unmet = λ h. t.holds_unmet (g h) }

entry_tests : (size kind begin : ℕ) (e : Entry) → Tests (wrong_entry size kind begin e) (Right size kind begin e)
unfolding wrong_entry
entry_tests size kind begin e =
    tests_record (tests_both (tests_both (tests_equal e.kind kind) (tests_equal e.offset begin)) (tests_at_most (end_of e) size))
    (λ h. record { its_kind = h.0.0; its_offset = h.0.1; inside = h.1 }) (λ h. ((h.its_kind, h.its_offset), h.inside))

module _ (job : List ℕ) where
  abbrev size : ℕ
  size = length job

  -- what the four chains of tests ask, in their order
  abbrev no_head : Bool
  no_head = not (eqb (get_or job 0 0) 1) || not (eqb (get_or job 1 0) 3)

  abbrev no_first : Bool
  no_first = wrong_entry size 1 contents_bytes (first job) || not (eqb (first job).length settings_bytes)

  abbrev no_second : Bool
  no_second = wrong_entry size 2 (end_of (first job)) (second job) || uneven record_bytes (second job)

  abbrev no_third : Bool
  no_third = wrong_entry size 3 (end_of (second job)) (third job) || uneven row_bytes (third job) || not (eqb (end_of (third job)) size)

  head_tests : contents_bytes ≤ size → Tests no_head (Headed job)
  head_tests h =
      tests_record (tests_both (tests_equal (get_or job 0 0) 1) (tests_equal (get_or job 1 0) 3))
      (λ k. record { long = h; byte_0 = k.0; byte_1 = k.1 }) (λ k. (k.byte_0, k.byte_1))

  first_tests : Tests no_first (FirstRight job)
  first_tests =
      tests_record (tests_both (entry_tests size 1 contents_bytes (first job)) (tests_equal (first job).length settings_bytes))
      (λ h. record { entry = h.0; twelve = h.1 }) (λ h. (h.entry, h.twelve))

  second_tests : Tests no_second (SecondRight job)
  second_tests =
      tests_record (tests_both (entry_tests size 2 (end_of (first job)) (second job)) (tests_equal ((second job).length % record_bytes) 0))
      (λ h. record { entry = h.0; whole = h.1 }) (λ h. (h.entry, h.whole))

  third_tests : Tests no_third (ThirdRight job)
  third_tests =
      let kind = entry_tests size 3 (end_of (second job)) (third job) in
      tests_record (tests_both (tests_both kind (tests_equal ((third job).length % row_bytes) 0)) (tests_equal (end_of (third job)) size))
      (λ h. record { entry = h.0.0; even = h.0.1; last = h.1 }) (λ h. ((h.entry, h.even), h.last))

  -- ---- so that each answer is what it says

  abbrev Said : Result Bodies Refusal → Type 0
  Said c = ContentsSay job c

  entries_say : size ≤ file_most → Headed job → ContentsSay job (entries_of size (first job) (second job) (third job))
  unfolding entries_of
  entries_say h k =
      either Said no_first (λ e. ContentsSay.first_wrong h k (unmet first_tests e)) λ e1.
      either Said no_second (λ e. ContentsSay.second_wrong h k (first_tests.unmet_holds e1) (unmet second_tests e)) λ e2.
      either Said no_third (λ e. ContentsSay.third_wrong h k (first_tests.unmet_holds e1) (second_tests.unmet_holds e2) (unmet third_tests e)) λ e3.
      ContentsSay.right (record {
        few = h;
        headed = k;
        first_right = first_tests.unmet_holds e1;
        second_right = second_tests.unmet_holds e2;
        third_right = third_tests.unmet_holds e3;
      })

  pub says : ContentsSay job (contents_of job)
  unfolding contents_of
  says =
      either Said (ltb file_most size) (λ e. ContentsSay.over (ltb-true file_most size e)) λ a.
      let few = ltb-false file_most size a in
      either Said (ltb size contents_bytes) (λ e. ContentsSay.unheaded few (λ h. let z : ⊥ = omega (arith, h.long, ltb-true size contents_bytes e) in z)) λ b.
      let long = ltb-false size contents_bytes b in
      either Said no_head (λ e. ContentsSay.unheaded few (unmet (head_tests long) e)) λ c.
      entries_say few ((head_tests long).unmet_holds c)

  -- and what says so of the file is the answer
  to_entries : size ≤ file_most → Headed job → entries_of size (first job) (second job) (third job) ≡ contents_of job
  unfolding contents_of
  to_entries h k =
      if_false _ _ ((head_tests k.long).holds_unmet k) ∙ if_false _ _ (le-ltb size contents_bytes k.long) ∙ if_false _ _ (le-ltb file_most size h)

  is_unheaded : size ≤ file_most → (Headed job → ⊥) → contents_of job ≡ Err (refusal wrong_contents 0)
  unfolding contents_of
  is_unheaded h f =
      sym (if_false _ _ (le-ltb file_most size h))
      ∙ either (λ (c : Result Bodies Refusal). c ≡ Err (refusal wrong_contents 0)) (ltb size contents_bytes) (λ _. refl)
      (λ b. sym (if_true _ _ (met (head_tests (ltb-false size contents_bytes b)) f)))

  is_over : file_most < size → contents_of job ≡ Err (refusal file_too_long 0)
  unfolding contents_of
  is_over h = sym (if_true _ _ (lt-ltb file_most size h))

  answer : {c : Result Bodies Refusal} → ContentsSay job c → c ≡ contents_of job
  unfolding entries_of
  answer (ContentsSay.over h) = sym (is_over h)
  answer (ContentsSay.unheaded h f) = sym (is_unheaded h f)
  answer (ContentsSay.first_wrong h k f) = if_true _ _ (met first_tests f) ∙ to_entries h k
  answer (ContentsSay.second_wrong h k a f) = if_true _ _ (met second_tests f) ∙ if_false _ _ (first_tests.holds_unmet a) ∙ to_entries h k
  answer (ContentsSay.third_wrong h k a b f) =
      if_true _ _ (met third_tests f) ∙ if_false _ _ (second_tests.holds_unmet b) ∙ if_false _ _ (first_tests.holds_unmet a) ∙ to_entries h k
  answer (ContentsSay.right w) =
      if_false _ _ (third_tests.holds_unmet w.third_right) ∙ if_false _ _ (second_tests.holds_unmet w.second_right)
      ∙ if_false _ _ (first_tests.holds_unmet w.first_right) ∙ to_entries w.few w.headed

  -- "1 … 2 … Given exactly when": each answer exactly where it says so of the file
  pub contents_exactly : (c : Result Bodies Refusal) → contents_of job ≡ c ↔ ContentsSay job c
  contents_exactly c = (λ e. subst Said e says, λ w. sym (answer w))

  -- so that the answer says what it promises, and no other answer is promised
  pub contents_number : {c : Result Bodies Refusal} → ContentsSay job c → (refusal_of c).number ≤ wrong_contents
  contents_number (ContentsSay.over h) = lit≤ tt
  contents_number (ContentsSay.unheaded h f) = lit≤ tt
  contents_number (ContentsSay.first_wrong h k f) = lit≤ tt
  contents_number (ContentsSay.second_wrong h k a f) = lit≤ tt
  contents_number (ContentsSay.third_wrong h k a b f) = lit≤ tt
  contents_number (ContentsSay.right w) = lit≤ tt

  pub contents_told : {c : Result Bodies Refusal} → c ≡ contents_of job → ContentsTold job c
  contents_told {c} e = let t = (contents_exactly c).0 (sym e) in record { is = e; says = t; number = contents_number t }

  pub one_contents : {c d : Result Bodies Refusal} → ContentsTold job c → ContentsTold job d → c ≡ d
  one_contents t u = one_answer t.is u.is

  pub one_said : {c d : Result Bodies Refusal} → ContentsSay job c → ContentsSay job d → c ≡ d
  one_said {c} {d} t u = sym ((contents_exactly c).1 t) ∙ (contents_exactly d).1 u

  -- a file whose bodies were found is right in all of it, and they lie where the entries state
  record Found (b : Bodies) : Type 0 where
    whole : Whole job
    lies : Lies job b

  found_in : {c : Result Bodies Refusal} → ContentsSay job c → OnFound Found c
  found_in (ContentsSay.over h) = tt
  found_in (ContentsSay.unheaded h f) = tt
  found_in (ContentsSay.first_wrong h k f) = tt
  found_in (ContentsSay.second_wrong h k a f) = tt
  found_in (ContentsSay.third_wrong h k a b f) = tt
  found_in (ContentsSay.right w) =
      record {
        whole = w;
        lies = record {
          first = refl;
          gains = refl;
          triple = omega (arith, w.first_right.entry.its_offset, w.first_right.twelve);
          settings = omega (arith, w.first_right.entry.its_offset, w.first_right.twelve);
          records = omega (arith, w.second_right.entry.its_offset);
          rows = omega (arith, w.third_right.entry.its_offset, w.third_right.last);
        };
      }

  pub contents_lie : {b : Bodies} → contents_of job ≡ Ok b → Lies job b
  contents_lie e = (subst (OnFound Found) e (found_in says)).lies

  pub contents_whole : {b : Bodies} → contents_of job ≡ Ok b → Whole job
  contents_whole e = (subst (OnFound Found) e (found_in says)).whole

-- The laws of a part of records: it is taken exactly where every record keeps every rule and no id comes twice.
-- Assumes nothing.
pub mod Examples
pub mod Faults
use Prim.Native.Nat.{ℕ, zero, suc, ◌+◌, ◌-◌, ◌≤◌, ◌<◌}
use Rattle.std.specs.Prelude.{◌≡◌, ◌↔◌, ◌⊎◌, List, false, ◌||◌, ltb, eqb, get_or, Result, Option, Some, None}
use Rattle.std.proofs.Math.Path.{refl, ap, subst}
use Rattle.std.proofs.Common.{sym, ◌∙◌, ap₂, inr, zero-add, add-zero, lit<, Ok, Err}
use Rattle.std.proofs.Math.Logic.{inl}
use Rattle.std.proofs.Math.Bool.{Bool, true, or-true, or-false, or_assoc}
use Rattle.std.proofs.Math.Numerals.{add-one}
use native.Mathlib.Omega.{arith}
use borrow.Author.Tests.{ltb-true, ltb-false, lt-ltb, le-ltb, eqb-true, eq-eqb}
use Rattle.ground.specs.declared.Refusal.{Refusal}
use Rattle.ground.proofs.Laws.OnAnswers.{one_answer}
use Rattle.ground.specs.Choice.{when◌then◌else◌}
use Rattle.ground.proofs.Laws.Ranges.{last_or_before, first_or_after}
use Rattle.ground.proofs.Laws.Choice.{clash, alike, either}
use Rattle.constants.specs.Sizes.{record_bytes, records_most}
use Rattle.constants.specs.Refusals.{refusal, too_many_records, repeated_id}
use Rattle.gap_records.specs.declared.Sequence.{Sequence}
use Rattle.gap_records.proofs.Laws.Records.Faults.{fault_sound, sound_fault, fault_at, at_fault}
use Rattle.gap_records.specs.Records.{sequence_at, record_of, sequences_from, count_of, record_at, record_fault, some, or_broken, checked_from}
use Rattle.gap_records.specs.Records.{checked_of, Sound, RecordsFine, refusal_of, RecordsSay, Taken, CheckTold}

-- a record is its twelve bytes, wherever they stand
pub record_moved : (s t : List ℕ) (a b : ℕ) → ((j : ℕ) → j < record_bytes → get_or s (a + j) 0 ≡ get_or t (b + j) 0) → sequence_at s a ≡ sequence_at t b
unfolding sequence_at
record_moved s t a b f =
    let byte : (i k j : ℕ) → j < record_bytes → i ≡ a + j → k ≡ b + j → get_or s i 0 ≡ get_or t k 0 = λ i k j l p q. rw (p, q) (f j l) in
    rw (
      byte a b 0 (lit< tt) (sym (add-zero a)) (sym (add-zero b)),
      f 1 (lit< tt),
      f 2 (lit< tt),
      f 3 (lit< tt),
      f 4 (lit< tt),
      f 5 (lit< tt),
      f 6 (lit< tt),
      byte (a + 6 + 1) (b + 6 + 1) 7 (lit< tt) (omega arith) (omega arith),
      f 8 (lit< tt),
      byte (a + 8 + 1) (b + 8 + 1) 9 (lit< tt) (omega arith) (omega arith),
      f 10 (lit< tt),
      byte (a + 10 + 1) (b + 10 + 1) 11 (lit< tt) (omega arith) (omega arith),
    )

-- a record that the part has is handed out as it stands there
pub record_there : (s : List ℕ) (k : ℕ) → k < count_of s → record_at s k ≡ record_of s k
unfolding record_at
record_there s k h = rw (lt-ltb k (count_of s) h)

-- ---- some record of a part

module _ (test : Sequence → Bool) (s : List ℕ) where
  -- one more at the end: for a loop that goes from record to record
  pub some_last : (left k : ℕ) → (some test (sequences_from s left k) || test (record_of s (k + left))) ≡ some test (sequences_from s (suc left) k)
  unfolding some sequences_from
  some_last zero k = rw (add-zero k) (sym (or-false (test (record_of s k))))
  some_last (suc left) k =
      let e : k + suc left ≡ k + 1 + left = omega arith in
      rw (e, or_assoc) (ap (λ (b : Bool). test (record_of s k) || b) (some_last left (k + 1)))

  -- one that passes the test is found
  pub some_is : (left k i : ℕ) → k ≤ i → i < k + left → test (record_of s i) ≡ true → some test (sequences_from s left k) ≡ true
  unfolding some sequences_from
  some_is zero k i a b e = let z : ⊥ = omega arith in absurd z
  some_is (suc left) k i a b e =
      first_or_after (λ (i : ℕ). test (record_of s i) ≡ true → test (record_of s k) || some test (sequences_from s left (k + 1)) ≡ true) a
      (λ e. rw e) (λ l e. rw (some_is left (k + 1) i (omega arith) (omega arith) e) (or-true (test (record_of s k)))) e

  -- and where one is found, it is one of these
  pub is_some : (left k : ℕ) → some test (sequences_from s left k) ≡ true → (i : ℕ) × (k ≤ i) × (i < k + left) × (test (record_of s i) ≡ true)
  unfolding some sequences_from
  is_some zero k e = absurd (clash e refl)
  is_some (suc left) k e = by (test (record_of s k)) refl e (is_some left (k + 1))
    where
      rest : Bool
      rest = some test (sequences_from s left (k + 1))

      by : (t : Bool) → test (record_of s k) ≡ t → t || rest ≡ true →
          (rest ≡ true → (i : ℕ) × (k + 1 ≤ i) × (i < k + 1 + left) × (test (record_of s i) ≡ true)) →
          (i : ℕ) × (k ≤ i) × (i < k + suc left) × (test (record_of s i) ≡ true)
      by true p h later = (k, omega arith, omega arith, p)
      by false p h later = let w = later h in (w.0, omega (arith, w.1), omega (arith, w.2), w.3)

  some_none : (left k : ℕ) → ((i : ℕ) → k ≤ i → i < k + left → test (record_of s i) ≡ true → ⊥) → some test (sequences_from s left k) ≡ false
  some_none left k f = alike _ false (λ e. let w = is_some left k e in absurd (f w.0 w.1 w.2 w.3)) (λ e. refl)

-- ---- every record in turn

module _ (s : List ℕ) where
  -- whether a record has the id of record k
  abbrev own : ℕ → Sequence → Bool
  own k q = eqb q.id (record_of s k).id

  one_more : (k : ℕ) → RecordsFine s k → Sound (record_of s k) → some (own k) (sequences_from s k 0) ≡ false → RecordsFine s (k + 1)
  one_more k f h n =
      record {
        each = λ i a. last_or_before (λ (i : ℕ). Sound (record_of s i)) {i = i} {k = k} (omega arith) h (f.each i);
        apart = λ j i l a.
            last_or_before (λ (i : ℕ). j < i → (record_of s j).id ≡ (record_of s i).id → ⊥) {i = i} {k = k} (omega arith)
            (λ l e. clash (some_is (own k) s k 0 j (omega arith) (omega arith) (eq-eqb _ _ e)) n) (λ a l. f.apart j i l a) l;
      }

  -- the check goes on after records that are fine
  goes_on_lem : (good : Result ℕ Refusal) (k left : ℕ) → RecordsFine s k → checked_from good s (k + left) 0 ≡ checked_from good s left k
  unfolding checked_from
  goes_on_lem good zero left f = ap (λ (n : ℕ). checked_from good s n 0) (zero-add left)
  goes_on_lem good (suc k) left f =
      let before : RecordsFine s k = record { each = λ i a. f.each i (omega arith); apart = λ j i l a. f.apart j i l (omega arith) } in
      let e : suc k + left ≡ k + suc left = omega arith in
      let w = sound_fault (record_of s k) (f.each k (omega arith)) in
      let n = some_none (own k) s k 0 (λ i a b e. f.apart i k (omega arith) (omega arith) (eqb-true _ _ e)) in
      ap (λ (n : ℕ). checked_from good s n 0) e ∙ goes_on_lem good k (suc left) before ∙ rw (w, n, add-one k)

  -- and says what it finds
  finds : (k left : ℕ) → k + left ≡ count_of s → count_of s ≤ records_most → RecordsFine s k → RecordsSay s (checked_from (Ok (count_of s)) s left k)
  unfolding checked_from
  finds k zero e few f = let c : k ≡ count_of s = omega arith in record { all = refl; few = few; fine = subst (RecordsFine s) c f }
  finds k (suc left) e few f = by (record_fault (record_of s k)) refl (finds (k + 1) left (omega arith) few)
    where
      rest : Result ℕ Refusal
      rest = checked_from (Ok (count_of s)) s left (k + 1)

      unbroken : record_fault (record_of s k) ≡ None → (t : Bool) → some (own k) (sequences_from s k 0) ≡ t → (RecordsFine s (k + 1) → RecordsSay s rest) →
          RecordsSay s (when t then Err (refusal repeated_id k) else rest)
      unbroken w true p later =
          let i = is_some (own k) s k 0 p in
          inr (inr (record {
            number = refl;
            few = few;
            which = k;
            among = omega arith;
            before = f;
            sound = fault_sound (record_of s k) w;
            earlier = i.0;
            less = omega (arith, i.2);
            same = eqb-true _ _ i.3;
            place = refl;
          }))
      unbroken w false p later = later (one_more k f (fault_sound (record_of s k) w) p)

      by : (fault : Option ℕ) → record_fault (record_of s k) ≡ fault → (RecordsFine s (k + 1) → RecordsSay s rest) →
          RecordsSay s (or_broken k fault (when some (own k) (sequences_from s k 0) then Err (refusal repeated_id k) else rest))
      by None p later = unbroken p (some (own k) (sequences_from s k 0)) refl later
      by (Some byte) p later =
          inr (inl (record {
            number = refl;
            few = few;
            which = k;
            among = omega arith;
            before = f;
            at_byte = byte;
            broken = (fault_at (record_of s k)).broken byte p;
            place = refl;
          }))

  nothing : RecordsFine s 0
  nothing = record { each = λ i a. let z : ⊥ = omega arith in absurd z; apart = λ j i l a. let z : ⊥ = omega arith in absurd z }

  says : RecordsSay s (checked_of s)
  unfolding checked_of
  says =
      either (RecordsSay s) (ltb records_most (count_of s))
      (λ e. inl (record { number = refl; many = ltb-true records_most (count_of s) e; place = refl }))
      (λ e. finds 0 (count_of s) (zero-add (count_of s)) (ltb-false records_most (count_of s) e) nothing)

  same_refusal : {number place : ℕ} {r : Refusal} → r.number ≡ number → r.place ≡ place →
      ◌≡◌ {A = Result ℕ Refusal} (Err (refusal number place)) (Err r)
  same_refusal e f = ap₂ (λ (n p : ℕ). Err (refusal n p)) (sym e) (sym f)

  -- the check at record k, where those before it are fine
  at_record : (k : ℕ) → count_of s ≤ records_most → k < count_of s → RecordsFine s k → checked_of s ≡ checked_from (Ok (count_of s)) s (suc (count_of s - (k + 1))) k
  unfolding checked_of
  at_record k few l f =
      let e : count_of s ≡ k + suc (count_of s - (k + 1)) = omega arith in
      let good = Ok (count_of s) in
      rw (le-ltb records_most (count_of s) few) (ap (λ (n : ℕ). checked_from good s n 0) e ∙ goes_on_lem good k (suc (count_of s - (k + 1))) f)

  said : (c : Result ℕ Refusal) → RecordsSay s c → checked_of s ≡ c
  unfolding checked_of checked_from
  said (Ok n) t =
      let c = t.all in
      let f : RecordsFine s (count_of s) = subst (RecordsFine s) c t.fine in
      let e : count_of s ≡ count_of s + 0 = omega arith in
      rw (le-ltb records_most (count_of s) (omega (arith, t.few)))
      (ap (λ (n : ℕ). checked_from (Ok (count_of s)) s n 0) e ∙ goes_on_lem (Ok (count_of s)) (count_of s) 0 f ∙ ap Ok (sym c))
  said (Err r) (inl t) = rw (lt-ltb records_most (count_of s) t.many) (same_refusal t.number t.place)
  said (Err r) (inr (inl t)) =
      at_record t.which t.few t.among t.before ∙ rw (at_fault (record_of s t.which) t.broken) (same_refusal t.number t.place)
  said (Err r) (inr (inr t)) =
      let k = t.which in
      let i = some_is (own k) s k 0 t.earlier (omega arith) (omega (arith, t.less)) (eq-eqb _ _ t.same) in
      at_record k t.few t.among t.before ∙ rw (sound_fault (record_of s k) t.sound, i) (same_refusal t.number t.place)

  -- every answer is given exactly when the page says so
  pub checked_exactly : (c : Result ℕ Refusal) → checked_of s ≡ c ↔ RecordsSay s c
  checked_exactly c = (λ e. subst (RecordsSay s) e says, said c)

  -- so that the answer says what it promises, and no other answer is promised
  pub check_number : (c : Result ℕ Refusal) → RecordsSay s c →
      ((refusal_of c).number ≡ 0) ⊎ ((too_many_records ≤ (refusal_of c).number) × ((refusal_of c).number ≤ repeated_id))
  check_number (Ok n) t = inl refl
  check_number (Err r) (inl t) = inr (omega (arith, t.number), omega (arith, t.number))
  check_number (Err r) (inr (inl t)) = inr (omega (arith, t.number), omega (arith, t.number))
  check_number (Err r) (inr (inr t)) = inr (omega (arith, t.number), omega (arith, t.number))

  pub check_told : {c : Result ℕ Refusal} → c ≡ checked_of s → CheckTold s c
  check_told {c} e = let t = (checked_exactly c).0 (sym e) in record { is = e; says = t; number = check_number c t }

  pub one_check : {c d : Result ℕ Refusal} → CheckTold s c → CheckTold s d → c ≡ d
  one_check t u = one_answer t.is u.is

  pub one_said : {c d : Result ℕ Refusal} → RecordsSay s c → RecordsSay s d → c ≡ d
  one_said {c} {d} t u = sym ((checked_exactly c).1 t) ∙ (checked_exactly d).1 u

  -- a part is taken whole, or not at all
  pub taken_exactly : (n : ℕ) → checked_of s ≡ Ok n ↔ Taken s n
  taken_exactly n = checked_exactly (Ok n)

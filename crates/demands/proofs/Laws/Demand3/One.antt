-- Demands 2 and 3 leave one reference: what its run tells, every number of the buffer, and what a row gives that is offered to any state.
-- Assumes nothing.
use Prim.Native.Nat.{ℕ, zero, suc, ◌+◌, ◌*◌, ◌/◌, ◌%◌, ◌≤◌, ◌<◌}
use Rattle.std.specs.Prelude.{◌≡◌, refl, Bool, true, false, List, [], ◌∷◌, ltb, ℤ, pos, length, get_or, Ok, Err}
use Rattle.std.proofs.Common.{sym, ap, ap₂, subst, ◌∙◌, le_refl, ltb-true, ltb-false}
use native.Mathlib.Omega.{arith}
use Rattle.ground.specs.declared.Refusal.{Refusal}
use Rattle.ground.proofs.Laws.Choice.{clash}
use Rattle.constants.specs.Sizes.{answer_numbers}
use Rattle.row_state.specs.declared.State.{State}
use Rattle.row_values.specs.declared.Row.{Row}
use Rattle.row_values.specs.declared.Answer.{Answer}
use Rattle.row_values.specs.Answers.{answer_from}
use Rattle.row_rules.specs.Stepping.{Stepped}
use Rattle.row_rules.specs.declared.Ran.{Ran}
use Rattle.row_rules.specs.Runs.{End}
use Rattle.row_rules.specs.History.{History, Accepted, answer_of, state_at}
use Rattle.row_rules.specs.Refusing.{IsF64}
use Rattle.row_rules.specs.Says.{RowSays, StepSays}
use Rattle.row_rules.proofs.Laws.Theorems.All.{theorems as rules}
use Rattle.job.specs.Load.{Loaded}
use Rattle.job.specs.Load.{records_body, loaded_of}
use Rattle.job.specs.Jobs.{stepped_of}
use Rattle.job.proofs.Laws.Theorems.All.{theorems as jobs}
use Rattle.exports.specs.Calls.{callers_rows}
use Rattle.demands.specs.Rows.{TakenJob, job_gains, part_rows, Test, history, RoomAfter, CameTo}
use Rattle.demands.proofs.Laws.Rows.{reaches, same_rows, offered, shorter}
use Rattle.demands.specs.Refusals.{slot_offered, gain_offered, MayFollow, AnyRowJudged}
use Rattle.demands.specs.Demand1.{Leaves}
use Rattle.demands.proofs.Laws.Demand1.Proved.{leaves}
use Rattle.demands.specs.Demand2.{Reference, Works, answer_by, Meets, this_reference}
use Rattle.demands.proofs.Laws.Demand2.Met.{few_rows, row_test, place_of, meets}
use Rattle.demands.specs.Demand3.{Balanced, KeepsBooks}
use Rattle.demands.proofs.Laws.Demand3.Rows.{books, one_row}

-- ---- this reference keeps books

step_books : {job : List ℕ} (t : Test job) (k : ℕ) → k < t.n → {next : State} {a : Answer} →
    stepped_of job (state_at (history t) k) (t.row k) ≡ Ok (next, a) → Balanced (history t) k a
unfolding answer_of
step_books t k l e =
    subst (Balanced (history t) k) (ap answer_of (sym (offered (shorter t k (omega arith)) (omega (arith, t.few))) ∙ e)) (books t k l)

pub keeps : KeepsBooks this_reference
keeps =
    record {
      of_runs = λ job rows out k w. subst (Balanced (part_rows w.taken rows) k) (sym (place_of job rows out k w))
          (books (row_test job rows out k w) k (le_refl (suc k)));
      of_steps = step_books;
    }

-- ---- lists that are alike number by number

same_list : (xs ys : List ℤ) → length xs ≡ length ys → ((i : ℕ) → get_or xs i (pos 0) ≡ get_or ys i (pos 0)) → xs ≡ ys
same_list [] [] e f = refl
same_list [] (y ∷ ys) e f = absurd (omega (arith, e))
same_list (x ∷ xs) [] e f = absurd (omega (arith, e))
same_list (x ∷ xs) (y ∷ ys) e f = ap₂ (λ (z : ℤ) (zs : List ℤ). z ∷ zs) (f 0) (same_list xs ys (omega (arith, e)) (λ i. f (suc i)))

-- the numbers of an answer that stands in both
in_answer : (xs ys : List ℤ) (at o : ℕ) → answer_from xs at ≡ answer_from ys at → o < answer_numbers → get_or xs (at + o) (pos 0) ≡ get_or ys (at + o) (pos 0)
in_answer xs ys at o e l = by o l
  where
    by : (o : ℕ) → o < answer_numbers → get_or xs (at + o) (pos 0) ≡ get_or ys (at + o) (pos 0)
    by zero l = let z : at + 0 ≡ at = omega arith in rw z (ap (λ (a : Answer). a.state) e)
    by (suc zero) l = ap (λ (a : Answer). a.command) e
    by (suc (suc zero)) l = ap (λ (a : Answer). a.dpcch) e
    by (suc (suc (suc zero))) l = ap (λ (a : Answer). a.dpdch) e
    by (suc (suc (suc (suc zero)))) l = ap (λ (a : Answer). a.total) e
    by (suc (suc (suc (suc (suc zero))))) l = ap (λ (a : Answer). a.held) e
    by (suc (suc (suc (suc (suc (suc zero)))))) l = ap (λ (a : Answer). a.uplink) e
    by (suc (suc (suc (suc (suc (suc (suc zero))))))) l = ap (λ (a : Answer). a.downlink) e
    by (suc (suc (suc (suc (suc (suc (suc (suc o)))))))) l = absurd (omega arith)

is_taken : Loaded → Bool
is_taken (Ok (t, b)) = true
is_taken (Err r) = false

-- ---- the run of a reference that meets both

module _ (ref : Reference) (m : Meets ref) (b : KeepsBooks ref) (job rows : List ℕ) (out : List ℤ) where
  -- an accepted row's answer is the one that stands there
  same_answer : (k : ℕ) (w : Works job rows out k) → answer_by ref job rows out k ≡ answer_by this_reference job rows out k
  same_answer k w =
      one_row (row_test job rows out k w) k (le_refl (suc k)) _ (m.said job rows out k w) (b.of_runs job rows out k w) ∙ sym (place_of job rows out k w)

  abbrev Alike : ℕ → Type 0
  Alike i = get_or (ref.run job rows out).out i (pos 0) ≡ get_or (callers_rows job rows out).out i (pos 0)

  -- a number past the accepted rows
  after_rows : (i : ℕ) → ((k : ℕ) → Works job rows out k → answer_numbers * suc k ≤ i) → Alike i
  after_rows i f = m.rest job rows out i f ∙ sym (meets.rest job rows out i f)

  -- a number of row i / 8
  in_row : (i : ℕ) → Works job rows out (i / answer_numbers) → Alike i
  in_row i w =
      let e : answer_numbers * (i / answer_numbers) + i % answer_numbers ≡ i = omega arith in
      subst Alike e
      (in_answer (ref.run job rows out).out (callers_rows job rows out).out (answer_numbers * (i / answer_numbers)) (i % answer_numbers)
      (same_answer (i / answer_numbers) w) (omega arith))

  alike : (i : ℕ) → Alike i
  unfolding is_taken
  alike i = by (callers_rows job rows out) (leaves job rows out)
    where
      -- the accepted rows reach to this one
      past_rows : (j : TakenJob job) {n : ℕ} {x : Ran} → CameTo (part_rows j rows) rows n x → answer_numbers * n ≤ i →
          (k : ℕ) → Works job rows out k → answer_numbers * suc k ≤ i
      past_rows j {n} c q k w =
          let d = reaches (part_rows j rows) rows c w.among (subst (λ (h : History). Accepted h (suc k)) (same_rows w.taken j rows) w.accepted) in
          omega arith

      inside : (j : TakenJob job) → RoomAfter 0 rows out → {n : ℕ} {x : Ran} → CameTo (part_rows j rows) rows n x →
          (t : Bool) → ltb i (answer_numbers * n) ≡ t → Alike i
      inside j room {n} c true f =
          let q = ltb-true i (answer_numbers * n) f in
          in_row i (record {
            taken = j;
            room = room;
            among = omega (arith, few_rows job rows out j c);
            accepted = λ k d. c.accepted k (omega arith);
          })
      inside j room {n} c false f = after_rows i (past_rows j c (ltb-false i (answer_numbers * n) f))

      by : (e : End) → Leaves job rows out e → Alike i
      by e (Leaves.answered j {n} room c) = inside j room c (ltb i (answer_numbers * n)) refl
      by e (Leaves.many j l) = after_rows i (λ k w. absurd (omega (arith, w.room.few)))
      by e (Leaves.short j l d) = after_rows i (λ k w. absurd (omega (arith, w.room.long)))
      by e (Leaves.file f) = after_rows i (λ k w. absurd (clash refl (ap is_taken (sym w.taken.is_taken ∙ f))))

  pub one_run : ref.run job rows out ≡ this_reference.run job rows out
  one_run =
      let mine = this_reference.run job rows out in
      let e : (ref.run job rows out).refusal ≡ mine.refusal = (m.refusals job rows out _).1 ((meets.refusals job rows out _).0 refl) in
      let f = same_list (ref.run job rows out).out mine.out (m.size job rows out ∙ sym (meets.size job rows out)) alike in
      ap₂ (λ (r : Refusal) (l : List ℤ). record { refusal = r; out = l }) e f

-- ---- a row that is offered to any state

module _ (ref : Reference) (m : Meets ref) (job : List ℕ) (st : State) (row : Row) where
  -- what is judged of it allows one answer
  one_judged : (j : TakenJob job) {x y : Stepped} → AnyRowJudged j st row y →
      StepSays j.settings (job_gains j) (records_body job j.bodies) st row x → y ≡ x
  one_judged j p (StepSays.seven h) = p.seven.1 h
  one_judged j p (StepSays.eleven h n) = p.eleven.1 (h, n)
  one_judged j {y = y} p (StepSays.by_row h r w) = by w
    where
      may : MayFollow j st row
      may = record { few = h; ranged = r }

      by : {x : Stepped} → RowSays j.settings (gain_offered j st row) (slot_offered j st row) st row x → y ≡ x
      by (RowSays.eight n) = (p.eight may).1 n
      by (RowSays.nine k u l) = (p.nine may).1 (k, u, l)
      by (RowSays.gap k u) = p.gap may k u
      by (RowSays.sent k u l) = p.sent may k u l

  pub one_step : IsF64 st → ref.step job st row ≡ stepped_of job st row
  one_step f = by (loaded_of job) refl
    where
      by : (l : Loaded) → loaded_of job ≡ l → ref.step job st row ≡ stepped_of job st row
      by (Err r) e = m.file_refused job st row ((jobs.load job (Err r)).0 e) ∙ sym (jobs.refused_step job st row e)
      by (Ok (s, b)) e =
          let j : TakenJob job = record { settings = s; bodies = b; is_taken = e } in
          one_judged j (m.row_offered job j st row f) ((rules.step_said s (job_gains j) (records_body job b) st row f _).0 refl)
          ∙ sym ((jobs.steps job e).step st row)

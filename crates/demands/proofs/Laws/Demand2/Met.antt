-- This reference meets demand 2: refusals exactly when stated, each accepted row's answer at its place, and the rest of the buffer as it was.
-- Assumes nothing.
use Rattle.std.specs.Prelude.{ℕ, zero, suc, ◌+◌, ◌-◌, ◌*◌, ◌≤◌, ◌<◌, ◌≡◌, ◌↔◌, true, false, List, ◌++◌, ℤ, pos, ◌+ℤ◌, ◌<ℤ◌, length, get_or, drop, Ok, Err}
use Rattle.std.proofs.Math.Path.{refl, ap}
use Rattle.std.proofs.Common.{sym, subst, ◌∙◌, le_refl, arith, length-append, length-drop, get_or-append-add, get_or-drop}
use Rattle.ground.specs.declared.Refusal.{Refusal}
use Rattle.ground.proofs.Laws.Choice.{clash}
use Rattle.constants.specs.Sizes.{rows_most, power_least, answer_numbers}
use Rattle.constants.specs.Refusals.{refusal, too_many_rows, wrong_row, power_too_low, wrong_state}
use Rattle.gap_slots.specs.Slots.{opens_uplink}
use Rattle.row_state.specs.declared.State.{State}
use Rattle.row_state.specs.States.{state_start}
use Rattle.row_values.specs.declared.Row.{Row}
use Rattle.row_values.specs.declared.Answer.{Answer}
use Rattle.row_values.specs.Rows.{whole_rows, is_cut, rows_offered}
use Rattle.row_values.proofs.Laws.Rows.{offered_at, with_cut_lem}
use Rattle.row_values.specs.Answers.{all_numbers, answer_from}
use Rattle.row_rules.specs.Stepping.{Stepped}
use Rattle.row_rules.specs.declared.Ran.{Ran}
use Rattle.row_rules.specs.Rules.{row_of}
use Rattle.row_rules.specs.Runs.{refusal_by, End, ended}
use Rattle.row_rules.specs.History.{accepted, state_after, answer_of, Accepted, state_at, stepped_at, answer_at}
use Rattle.row_rules.specs.Refusing.{IsF64, StateRanged}
use Rattle.row_rules.specs.Says.{RowSays}
use Rattle.row_rules.specs.Theorems.{answers_of, Ends}
use Rattle.row_rules.proofs.Laws.Theorems.All.{theorems as rules}
use Rattle.job.specs.Load.{Loaded}
use Rattle.job.specs.Load.{records_body, loaded_of}
use Rattle.job.specs.Jobs.{stepped_of}
use Rattle.job.proofs.Laws.Theorems.All.{theorems}
use Rattle.exports.specs.Calls.{callers_rows_by, callers_rows}
use Rattle.exports.specs.Steps.{lent_of, NextTold, next_of}
use Rattle.exports.proofs.Laws.Steps.{next_after}
use Rattle.demands.specs.Rows.{TakenJob, job_gains, part_rows, row_triple, Test, history, part_test, RoomAfter, CameTo}
use Rattle.demands.proofs.Laws.Rows.{answers_length, reaches, came, offered, shorter}
use Rattle.demands.specs.Refusals.{slot_offered, gain_offered, KeepsOffered, change_offered, MayFollow, AnyRowJudged, RunTells}
use Rattle.demands.proofs.Laws.Live.{of_first_call}
use Rattle.demands.specs.Demand1.{Leaves}
use Rattle.demands.proofs.Laws.Demand1.Runs.{its, start_handed_lem, stands_at_lem}
use Rattle.demands.proofs.Laws.Demand1.Proved.{prints, leaves}
use Rattle.demands.specs.Demand2.{RowSaid, Works, Meets, this_reference}
use Rattle.demands.proofs.Laws.Demand2.Said.{row_said_lem}

-- ---- a run from the start of a job: refused whole, or row by row

module _ (job rows : List ℕ) (out : List ℤ) where
  run_cases : (P : End → Type 0) → ((r : Refusal) → P (ended (Ran.Refused r) out)) →
      ((j : TakenJob job) → RoomAfter 0 rows out → (n : ℕ) (x : Ran) → CameTo (part_rows j rows) rows n x →
      P (ended x (all_numbers (answers_of (part_rows j rows) 0 n) ++ drop (answer_numbers * n) out))) → P (callers_rows job rows out)
  run_cases P whole by_rows = by (callers_rows job rows out) (leaves job rows out)
    where
      by : (e : End) → Leaves job rows out e → P e
      by e (Leaves.answered j {n} {x} room c) = by_rows j room n x c
      by e (Leaves.many j l) = whole _
      by e (Leaves.short j l m) = whole _
      by e (Leaves.file f) = whole _

  -- "(1 to 11 are given exactly when stated)": a run tells what a call tells that begins a live test
  as_call : (j : TakenJob job) → refusal_by (callers_rows job rows out).result ≡ (next_of job rows (lent_of (state_start j.settings)) out).refusal
  as_call j =
      ap (λ (e : End). refusal_by e.result) (its j rows out)
      ∙ sym (ap (λ (t : NextTold). t.refusal) (next_after job j.is_taken rows (state_start j.settings) out (start_handed_lem j).ranged))

  refusals : (r : Refusal) → refusal_by (callers_rows job rows out).result ≡ r ↔ RunTells job rows out r
  unfolding callers_rows refusal_by
  refusals r = (stated (loaded_of job) refl, given)
    where
      stated : (l : Loaded) → loaded_of job ≡ l → refusal_by (callers_rows job rows out).result ≡ r → RunTells job rows out r
      stated (Err q) e f =
          let same : q ≡ r = ap (λ (l : Loaded). refusal_by (callers_rows_by l job rows out).result) (sym e) ∙ f in
          RunTells.file ((theorems.load job (Err r)).0 (e ∙ ap Err same))
      stated (Ok (s, b)) e f =
          let j : TakenJob job = record { settings = s; bodies = b; is_taken = e } in
          RunTells.run j ((of_first_call j rows out r).0 (sym (as_call j) ∙ f))

      given : {q : Refusal} → RunTells job rows out q → refusal_by (callers_rows job rows out).result ≡ q
      given (RunTells.file {r = q} w) =
          ap (λ (l : Loaded). refusal_by (callers_rows_by l job rows out).result) ((theorems.load job (Err q)).1 w)
      given (RunTells.run j {r = q} w) = as_call j ∙ (of_first_call j rows out q).1 w

  -- ---- the buffer

  pub few_rows : (j : TakenJob job) {n : ℕ} {x : Ran} → CameTo (part_rows j rows) rows n x → n ≤ whole_rows rows
  few_rows j {n} c = by c.ends
    where
      by : {x : Ran} → Ends (part_rows j rows) rows n x → n ≤ whole_rows rows
      by (Ends.done w k) = omega (arith, w)
      by (Ends.stopped l f) = omega arith
      by (Ends.short w k) = omega (arith, w)

  pub whole_few : whole_rows rows ≤ rows_offered rows
  whole_few = let c = with_cut_lem (whole_rows rows) (is_cut rows) in let o = offered_at rows (is_cut rows) refl in omega arith

  size : length (callers_rows job rows out).out ≡ length out
  size = run_cases (λ y. length y.out ≡ length out) (λ r. refl) (λ j room n x c.
      let m = few_rows j c in
      let w = whole_few in
      omega (
        arith,
        length-append (all_numbers (answers_of (part_rows j rows) 0 n)) (drop (answer_numbers * n) out),
        answers_length (part_rows j rows) 0 n,
        length-drop (answer_numbers * n) out,
        room.long,
      ))

  -- past so many numbers of a list
  past : (l : List ℤ) (n i : ℕ) → length l ≡ n → n ≤ i → get_or (l ++ drop n out) i (pos 0) ≡ get_or out i (pos 0)
  past l n i e m =
      let f : i ≡ length l + (i - n) = omega (arith, e) in
      let g : n + (i - n) ≡ i = omega arith in
      ap (λ (k : ℕ). get_or (l ++ drop n out) k (pos 0)) f
      ∙ get_or-append-add l (drop n out) (i - n) (pos 0)
      ∙ get_or-drop n out (i - n) (pos 0)
      ∙ ap (λ (k : ℕ). get_or out k (pos 0)) g

  rest : (i : ℕ) → ((k : ℕ) → Works job rows out k → answer_numbers * suc k ≤ i) → get_or (callers_rows job rows out).out i (pos 0) ≡ get_or out i (pos 0)
  rest i f =
      run_cases (λ y. get_or y.out i (pos 0) ≡ get_or out i (pos 0)) (λ r. refl) (λ j room n x c.
      past (all_numbers (answers_of (part_rows j rows) 0 n)) (answer_numbers * n) i (answers_length (part_rows j rows) 0 n)
      (after j room n c.accepted (few_rows j c)))
    where
      after : (j : TakenJob job) → RoomAfter 0 rows out → (n : ℕ) → Accepted (part_rows j rows) n → n ≤ whole_rows rows → answer_numbers * n ≤ i
      after j room zero a m = omega arith
      after j room (suc n) a m = f n (record { taken = j; room = room; among = m; accepted = a })

  -- ---- an accepted row's place

  abbrev pub row_test : (k : ℕ) (w : Works job rows out k) → Test job
  row_test k w = let f = whole_few in part_test w.taken rows {n = suc k} (omega (arith, w.among, w.room.few)) w.accepted

  pub place_of : (k : ℕ) (w : Works job rows out k) → answer_from (callers_rows job rows out).out (answer_numbers * k) ≡ answer_at (part_rows w.taken rows) k
  place_of k w =
      let j = w.taken in
      let c = (came j rows).came_to in
      stands_at_lem j rows out w.room c k (reaches (part_rows j rows) rows c w.among w.accepted)

-- ---- a row of a test, by a step

stepped : {job : List ℕ} (t : Test job) (k : ℕ) → k < t.n →
    (a : Answer) × (stepped_of job (state_at (history t) k) (t.row k) ≡ Ok ((state_at (history t) (suc k)), a)) ×
    RowSaid (history t) (row_triple t.taken k) k a
unfolding state_at state_after answer_of accepted
stepped {job} t k l =
    (answer_at (history t) k, offered (shorter t k (omega arith)) (omega (arith, t.few)) ∙ by (stepped_at (history t) k) refl (t.accepted k l), row_said_lem t k l)
  where
    by : (x : Stepped) → stepped_at (history t) k ≡ x → accepted x ≡ true →
        stepped_at (history t) k ≡ Ok ((state_after (state_at (history t) k) (stepped_at (history t) k)), (answer_of (stepped_at (history t) k)))
    by (Ok (next, a)) e f = e ∙ sym (ap (λ (y : Stepped). Ok ((state_after (state_at (history t) k) y), (answer_of y))) e)
    by (Err r) e f = absurd (clash f refl)

-- ---- any row that is offered to any state

row_offered : (job : List ℕ) (j : TakenJob job) (st : State) (row : Row) → IsF64 st → AnyRowJudged j st row (stepped_of job st row)
row_offered job j st row f =
    let s = j.settings in
    let gains = job_gains j in
    let slot = slot_offered j st row in
    let gain = gain_offered j st row in
    let same = (theorems.steps job j.is_taken).step st row in
    let q = rules.step_refused s gains (records_body job j.bodies) st row f in
    let r = rules.row_refused s gain slot st row in
    let K = KeepsOffered j st row in
    let formed = st.power +ℤ change_offered j st row in
    let by : (number place : ℕ) → Stepped → Type 0 = λ number place x. x ≡ Err (refusal number place) in
    let its : MayFollow j st row → stepped_of job st row ≡ row_of s gain slot st row = λ m. same ∙ q.by_row m.few m.ranged in
    record {
      seven = subst (λ (x : Stepped). by too_many_rows rows_most x ↔ rows_most ≤ st.row) (sym same) q.seven;
      eleven = subst (λ (x : Stepped). by wrong_state 0 x ↔ ((st.row < rows_most) × (StateRanged s gains st → ⊥))) (sym same) q.eleven;
      eight = λ m. subst (λ (x : Stepped). by wrong_row st.row x ↔ (K → ⊥)) (sym (its m)) r.eight;
      nine = λ m. subst (λ (x : Stepped). by power_too_low st.row x ↔ (K × (opens_uplink slot ≡ false) × (formed <ℤ power_least))) (sym (its m)) r.nine;
      gap = λ m k u. its m ∙ (rules.row_said s gain slot st row _).1 (RowSays.gap k u);
      sent = λ m k u l. its m ∙ (rules.row_said s gain slot st row _).1 (RowSays.sent k u l);
    }

pub meets : Meets this_reference
meets =
    record {
      refusals = refusals;
      file_refused = λ job st row {r} w. theorems.refused_step job st row ((theorems.load job (Err r)).1 w);
      row_offered = row_offered;
      stepped = stepped;
      said = λ job rows out k w. subst (RowSaid (part_rows w.taken rows) (row_triple w.taken k) k) (sym (place_of job rows out k w))
          (row_said_lem (row_test job rows out k w) k (le_refl (suc k)));
      size = size;
      rest = rest;
      prints = prints;
    }

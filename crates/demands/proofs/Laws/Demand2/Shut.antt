-- What demand 2 shuts out: the page's own job tells each of them from a reference of which demand 2 holds.
-- DECISIONS: promises-any-reference
-- Assumes nothing.
use Rattle.std.specs.Prelude.{ℕ, ◌+◌, ◌*◌, ◌≤◌, ◌<◌, ◌≡◌, false, ℤ, length, replicate, Err}
use Rattle.std.proofs.Math.Path.{sym, ap}
use Rattle.std.proofs.Common.{subst, ◌∙◌, arith, lit≤, lit<}
use mathlib.Core.List.{List, []}
use Rattle.std.proofs.Math.IntN.{pos}
use Rattle.ground.specs.declared.Refusal.{Refusal}
use Rattle.ground.proofs.Laws.Integers.Signs.{signs}
use Rattle.constants.specs.Sizes.{answer_numbers}
use Rattle.constants.specs.Refusals.{no_refusal}
use Rattle.gap_slots.specs.Slots.{opens_uplink}
use Rattle.gap_slots.proofs.Laws.Slots.{no_records, none_uplink}
use Rattle.row_values.specs.declared.Answer.{Answer}
use Rattle.row_values.specs.Rows.{whole_rows, is_cut}
use Rattle.row_values.specs.Answers.{all_numbers, answer_from}
use Rattle.row_rules.specs.declared.Ran.{Ran}
use Rattle.row_rules.specs.Runs.{Rows, End, ended, then_rest}
use Rattle.row_rules.specs.History.{History, Accepted, answer_at, change_on}
use Rattle.job.specs.Load.{Loaded}
use Rattle.job.specs.Load.{LoadSays}
use Rattle.job.proofs.Laws.Load.Examples.{cases}
use Rattle.job.specs.Jobs.{ran_of}
use Rattle.job.proofs.Laws.Theorems.All.{theorems}
use Rattle.listing_theorems.proofs.Laws.Theorems.All.{theorems as listings}
use Rattle.listing_theorems.specs.Marked.{page_job}
use Rattle.listing_theorems.proofs.Laws.Marked.Page.{s, four, page_answers, page_run}
use Rattle.demands.specs.Rows.{TakenJob, file_bytes, part_rows, file_rows, part_test, RoomAfter}
use Rattle.demands.proofs.Laws.Rows.{answers_count, own}
use Rattle.demands.specs.Refusals.{CallTells, RunTells}
use Rattle.demands.proofs.Laws.Demand1.Runs.{own_rows}
use Rattle.demands.specs.Demand2.{Reference, Works, answer_by, Meets}
use Rattle.demands.proofs.Laws.Demand2.Said.{named, row_said_lem, same_state}
use Rattle.demands.proofs.Laws.Demand2.Met.{place_of}

-- ---- the page's job, with room for its four rows

abbrev blank : List ℤ
blank = replicate (answer_numbers * 4) (pos 0)

abbrev page : TakenJob page_job
page = record { settings = s; bodies = record { settings = 29; gains = 34; records = 41; rows = 41 }; is_taken = cases.page }

abbrev h : History
h = file_rows page

page_ran : ran_of page_job blank ≡ ended (Ran.Done four) (all_numbers page_answers)
unfolding all_numbers
page_ran = (theorems.runs page_job blank cases.page).rows_run (lit≤ tt) ∙ ap (then_rest blank) page_run

page_accepted : Accepted h 4
page_accepted =
    let q = (theorems.runs page_job blank cases.page).history in
    let e : 4 ≡ q.n = ap length (sym (ap (λ (r : Rows). r.answers) page_run) ∙ q.answers) ∙ answers_count h 0 q.n in
    subst (Accepted h) (sym e) q.all

abbrev own_bytes : List ℕ
own_bytes = file_bytes page

room : RoomAfter 0 own_bytes blank
room = let o = (own page).offered in record { few = omega (arith, o); long = omega (arith, o) }

works : (k : ℕ) → k < 4 → Works page_job own_bytes blank k
works k l = record { taken = page; room = room; among = omega (arith, (own page).rows); accepted = λ i m. page_accepted i (omega arith) }

-- its rows are sent, and a run answers them as the page lists them
page_sent : (k : ℕ) → opens_uplink (h.slot k) ≡ false
page_sent k = ap opens_uplink (no_records [] k (lit< tt)) ∙ none_uplink

abbrev page_answer : ℕ → Answer
page_answer k = answer_from (all_numbers page_answers) (answer_numbers * k)

page_answer_lem : (k : ℕ) → k < 4 → answer_at h k ≡ page_answer k
unfolding works
page_answer_lem k l =
    sym (place_of page_job own_bytes blank k (works k l))
    ∙ ap (λ (y : End). answer_from y.out (answer_numbers * k)) (sym (own_rows page blank) ∙ page_ran)

-- ---- what is shut out

module _ (ref : Reference) (m : Meets ref) where
  pub done : (job : List ℕ) (j : TakenJob job) (rows : List ℕ) (out : List ℤ) → RoomAfter 0 rows out → is_cut rows ≡ false →
      Accepted (part_rows j rows) (whole_rows rows) → (ref.run job rows out).refusal ≡ no_refusal
  done job j rows out room c a =
      let e : whole_rows rows ≡ 0 + whole_rows rows = omega arith in
      (m.refusals job rows out no_refusal).1 (RunTells.run j (CallTells.none room c (subst (Accepted (part_rows j rows)) e a)))

  pub refuses_everything : ((job rows : List ℕ) (out : List ℤ) → (ref.run job rows out).refusal ≡ no_refusal → ⊥) → ⊥
  refuses_everything f =
      f page_job own_bytes blank (done page_job page own_bytes blank room (own page).uncut (subst (Accepted h) (sym (own page).rows) page_accepted))

  pub takes_damaged : (job rows : List ℕ) (out : List ℤ) {r : Refusal} → LoadSays job (Err r) → (ref.run job rows out).refusal ≡ no_refusal → ⊥
  takes_damaged job rows out {r} w e =
      let n = (listings.alone job ((theorems.load job (Err r)).1 w)).1.0 in
      let z : r.number ≡ 0 = ap (λ (q : Refusal). q.number) (sym ((m.refusals job rows out r).1 (RunTells.file w)) ∙ e) in
      omega (arith, z)

  -- the state of a row of the page's job, whatever reference answers: rows 0 and 1 are sent, the second is limited
  page_state : (k : ℕ) → k < 4 → (answer_by ref page_job own_bytes blank k).state ≡ (page_answer k).state
  unfolding works
  page_state k l =
      let t = part_test page own_bytes {n = 4} (omega arith) page_accepted in
      let z = change_on h k in
      let c = (named t k (omega arith)).change (page_sent k) in
      same_state ((m.said page_job own_bytes blank k (works k l)).sent (page_sent k) z c) ((row_said_lem t k l).sent (page_sent k) z c)
      ∙ ap (λ (x : Answer). x.state) (page_answer_lem k l)

  pub same_row_always : (a : Answer) → ((job rows : List ℕ) (out : List ℤ) (k : ℕ) → Works job rows out k → answer_by ref job rows out k ≡ a) → ⊥
  unfolding all_numbers
  same_row_always a f =
      let its : (k : ℕ) → k < 4 → (answer_by ref page_job own_bytes blank k).state ≡ a.state =
      λ k l. ap (λ (x : Answer). x.state) (f page_job own_bytes blank k (works k l)) in
      let same : (k : ℕ) → k < 4 → (page_answer k).state ≡ a.state = λ k l. sym (page_state k l) ∙ its k l in
      let e : pos 1 ≡ pos 2 = same 0 (lit≤ tt) ∙ sym (same 1 (lit≤ tt)) in
      omega (signs, e)

  pub no_answers : ((job rows : List ℕ) (out : List ℤ) → (ref.run job rows out).out ≡ out) → ⊥
  unfolding all_numbers
  no_answers f =
      let e : pos 0 ≡ pos 1 = ap (λ (out : List ℤ). (answer_from out 0).state) (sym (f page_job own_bytes blank)) ∙ page_state 0 (lit≤ tt) in
      omega (signs, e)

  pub row_0_copied : ((job rows : List ℕ) (out : List ℤ) (k : ℕ) → Works job rows out k →
      answer_by ref job rows out k ≡ answer_by ref job rows out 0) → ⊥
  unfolding all_numbers
  row_0_copied f =
      let same = ap (λ (x : Answer). x.state) (f page_job own_bytes blank 1 (works 1 (lit≤ tt))) in
      let e : pos 2 ≡ pos 1 = sym (page_state 1 (lit≤ tt)) ∙ same ∙ page_state 0 (lit≤ tt) in
      omega (signs, e)

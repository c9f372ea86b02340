-- The laws of a run: one run after another, how many answers it gives, where, and that what it hands out is in its ranges.
-- Assumes nothing.
use Rattle.std.specs.Prelude.{ℕ, suc, ◌+◌, ◌-◌, ◌*◌, ◌≤◌, ◌<◌, ◌≡◌, Bool, ltb, ℤ, Ok, Err, Option, Some, None}
use Rattle.std.proofs.Math.Path.{refl, sym, ap}
use Rattle.std.proofs.Common.{◌∙◌, zero-add}
use Rattle.std.proofs.Math.Logic.{inl, inr}
use Rattle.std.proofs.Math.Bool.{true, false}
use mathlib.Core.List.{List, [], ◌∷◌, ◌++◌}
use native.Mathlib.Omega.{arith}
use borrow.Author.Tests.{ltb-true, ltb-false}
use Rattle.std.proofs.Math.ListN.{length}
use Rattle.std.proofs.lemmas.List.Edits.{sets-eq}
use Rattle.ground.specs.declared.Refusal.{Refusal}
use Rattle.ground.proofs.Laws.OnAnswers.{one_answer}
use Rattle.ground.proofs.Laws.Choice.{either}
use Rattle.constants.specs.Sizes.{rows_most, answer_numbers}
use Rattle.constants.specs.Refusals.{refusal, too_many_rows, short_answers, wrong_state}
use Rattle.gap_slots.specs.declared.Slot.{Slot}
use Rattle.power.specs.declared.Gain.{Gain}
use Rattle.job_settings.specs.declared.Settings.{Settings}
use Rattle.row_state.specs.declared.State.{State}
use Rattle.power.specs.Gain.{GainIn}
use Rattle.job_settings.specs.Settings.{SettingsIn}
use Rattle.row_state.specs.States.{StateIn}
use Rattle.row_values.specs.declared.Row.{Row}
use Rattle.row_values.specs.declared.Answer.{Answer}
use Rattle.row_values.specs.Rows.{with_cut}
use Rattle.row_values.specs.Answers.{all_numbers}
use Rattle.row_values.proofs.Laws.OnAnswers.{numbers_length}
use Rattle.row_rules.specs.Stepping.{Stepped}
use Rattle.row_rules.specs.declared.Ran.{Ran}
use Rattle.row_rules.specs.Ranges.{InRanges}
use Rattle.row_rules.specs.Rules.{row_of, gap_next, sent_next}
use Rattle.row_rules.proofs.Laws.Rules.{row_cases, row_closed, row_counted, on_taken}
use Rattle.row_rules.specs.Runs.{Rows, answered, followed, closing, go, refused_by, AtRow, OnStopped, OnRun, Counted}
use Rattle.row_rules.specs.Runs.{onward, and_then, written, then_rest, End, ended, run_refusal}

-- ---- one run after another

-- what a row answered first comes first
onward_answered : (a : Answer) (r : Rows) (next : State → Rows) → and_then (answered a r) next ≡ answered a (and_then r next)
unfolding onward
onward_answered a r next = by r.result
  where
    by : (x : Ran) → onward x (a ∷ r.answers) next ≡ answered a (onward x r.answers next)
    by (Ran.Done st) = refl
    by (Ran.Stopped st x) = refl
    by (Ran.Refused x) = refl

module _ (s : Settings) (g : Gain) (slots : ℕ → Slot) where
  -- a run over rows and then over more is the run over rows, then the run from there
  pub run_append : (st : State) (rows more : List Row) (cut : Bool) →
      go s g slots st (rows ++ more) cut ≡ and_then (go s g slots st rows false) (λ next. go s g slots next more cut)
  unfolding go closing onward
  run_append st [] more cut = refl
  run_append st (row ∷ rows) more cut =
      by (row_of s g (slots st.row) st row) (λ next. run_append next rows more cut)
    where
      by : (x : Stepped) → ((next : State) → go s g slots next (rows ++ more) cut ≡
          and_then (go s g slots next rows false) (λ n. go s g slots n more cut)) →
          followed st x (λ next. go s g slots next (rows ++ more) cut) ≡
          and_then (followed st x (λ next. go s g slots next rows false)) (λ n. go s g slots n more cut)
      by (Ok (next, a)) f =
          ap (answered a) (f next) ∙ sym (onward_answered a (go s g slots next rows false) (λ n. go s g slots n more cut))
      by (Err r) f = refl

  -- ---- the answers it gives

  -- one for each row at most
  pub answers_few : (st : State) (rows : List Row) (cut : Bool) → length (go s g slots st rows cut).answers ≤ length rows
  unfolding go
  answers_few st [] cut = omega arith
  answers_few st (row ∷ rows) cut = by (row_of s g (slots st.row) st row) (λ next. answers_few next rows cut)
    where
      by : (x : Stepped) → ((next : State) → length (go s g slots next rows cut).answers ≤ length rows) →
          length (followed st x (λ next. go s g slots next rows cut)).answers ≤ length (row ∷ rows)
      by (Ok (next, a)) f = let l = f next in omega arith
      by (Err r) f = omega arith

  -- no row refuses the whole run
  pub rows_unrefused : (st : State) (rows : List Row) (cut : Bool) → refused_by (go s g slots st rows cut).result ≡ 0
  unfolding go closing refused_by
  rows_unrefused st [] true = refl
  rows_unrefused st [] false = refl
  rows_unrefused st (row ∷ rows) cut = by (row_of s g (slots st.row) st row) (λ next. rows_unrefused next rows cut)
    where
      by : (x : Stepped) → ((next : State) → refused_by (go s g slots next rows cut).result ≡ 0) →
          refused_by (followed st x (λ next. go s g slots next rows cut)).result ≡ 0
      by (Ok (next, a)) f = f next
      by (Err r) f = refl

  -- and one that stops it is refused by 8 or 9, at its row
  pub rows_stopped : (st : State) (rows : List Row) (cut : Bool) → OnStopped AtRow (go s g slots st rows cut).result
  unfolding go closing OnStopped
  rows_stopped st [] true = record { its_number = inl refl; its_place = refl }
  rows_stopped st [] false = tt
  rows_stopped st (row ∷ rows) cut =
      row_cases s g (slots st.row) st row (λ (x : Stepped). OnStopped AtRow (followed st x (λ next. go s g slots next rows cut)).result)
      (λ _. record { its_number = inl refl; its_place = refl }) (λ _ _. rows_stopped (gap_next s (slots st.row) st row) rows cut)
      (λ _ _ _. record { its_number = inr refl; its_place = refl }) (λ _ _ _. rows_stopped (sent_next s g (slots st.row) st row) rows cut)

  -- one for each row that is taken, and the state stands so many rows on
  pub rows_counted : (st : State) (rows : List Row) (cut : Bool) →
      Counted st (with_cut (length rows) cut) (go s g slots st rows cut).answers (go s g slots st rows cut).result
  unfolding go closing with_cut
  rows_counted st [] true = Counted.stopped {after = st} 0 (omega arith) refl (omega arith)
  rows_counted st [] false = Counted.done {after = st} 0 refl refl (omega arith)
  rows_counted st (row ∷ rows) cut = by (row_of s g (slots st.row) st row) refl (λ next. rows_counted next rows cut)
    where
      one_more : (c : Bool) → with_cut (length (row ∷ rows)) c ≡ with_cut (length rows) c + 1
      one_more true = omega arith
      one_more false = omega arith

      more : (next : State) (a : Answer) → next.row ≡ st.row + 1 → (answers : List Answer) (x : Ran) →
          Counted next (with_cut (length rows) cut) answers x → Counted st (with_cut (length (row ∷ rows)) cut) (a ∷ answers) x
      more next a h answers x (Counted.done {after} n l m k) =
          Counted.done {after = after} (suc n) (omega (arith, one_more cut)) (omega arith) (omega arith)
      more next a h answers x (Counted.stopped {after} n l m k) =
          Counted.stopped {after = after} (suc n) (omega (arith, one_more cut)) (omega arith) (omega arith)

      by : (x : Stepped) → row_of s g (slots st.row) st row ≡ x →
          ((next : State) → Counted next (with_cut (length rows) cut) (go s g slots next rows cut).answers (go s g slots next rows cut).result) →
          Counted st (with_cut (length (row ∷ rows)) cut) (followed st x (λ next. go s g slots next rows cut)).answers
          (followed st x (λ next. go s g slots next rows cut)).result
      by (Ok (next, a)) e f =
          more next a (on_taken (λ n z. n.row ≡ st.row + 1) e (row_counted s g (slots st.row) st row))
          (go s g slots next rows cut).answers (go s g slots next rows cut).result (f next)
      by (Err r) e f = Counted.stopped {after = st} 0 (omega (arith, one_more cut)) refl (omega arith)

  -- ---- what it hands out

  pub rows_closed : (st : State) (rows : List Row) (cut : Bool) → SettingsIn s → GainIn g → StateIn s.links g.ceiling st →
      st.row + length rows ≤ rows_most → OnRun (StateIn s.links g.ceiling) (go s g slots st rows cut).result
  unfolding go closing OnRun
  rows_closed st [] true a b h l = h
  rows_closed st [] false a b h l = h
  rows_closed st (row ∷ rows) cut a b h l =
      by (row_of s g (slots st.row) st row) refl (λ next. rows_closed next rows cut a b)
    where
      fine : InRanges s g st
      fine = record { settings = a; gain = b; state = h; room = omega arith }

      by : (x : Stepped) → row_of s g (slots st.row) st row ≡ x →
          ((next : State) → StateIn s.links g.ceiling next → next.row + length rows ≤ rows_most →
          OnRun (StateIn s.links g.ceiling) (go s g slots next rows cut).result) →
          OnRun (StateIn s.links g.ceiling) (followed st x (λ next. go s g slots next rows cut)).result
      by (Ok (next, y)) e f =
          let n : next.row ≡ st.row + 1 = on_taken (λ n z. n.row ≡ st.row + 1) e (row_counted s g (slots st.row) st row) in
          f next (on_taken (λ n z. StateIn s.links g.ceiling n) e (row_closed (slots st.row) row fine)) (omega arith)
      by (Err r) e f = h

-- ---- the buffer

-- the buffer afterwards: the answers, then what stood there
pub buffer : (out : List ℤ) (r : Rows) → answer_numbers * length r.answers ≤ length out → written out 0 r ≡ then_rest out r
buffer out r h =
    let n = numbers_length r.answers in
    ap (ended r.result) (rw (zero-add (length (all_numbers r.answers))) at (sets-eq (all_numbers r.answers) out 0 (omega arith)))

-- two ends that a promise allows are one: the same result, and the same numbers in the buffer
pub one_end : {r t : Ran} {o p : List ℤ} {meant : End} → ended r o ≡ meant → ended t p ≡ meant → (r ≡ t) × (o ≡ p)
one_end e f = let q = one_answer e f in (ap (λ (x : End). x.result) q, ap (λ (x : End). x.out) q)

-- ---- the refusals of a whole run

module _ (row rows room : ℕ) (sound : Bool) where
  -- what holds in each case, holds of the chain
  pub refusal_cases : (P : Option Refusal → Type 0) → (rows_most - row < rows → P (Some (refusal too_many_rows rows_most))) →
      (rows ≤ rows_most - row → room < answer_numbers * rows → P (Some (refusal short_answers (answer_numbers * rows)))) →
      (rows ≤ rows_most - row → answer_numbers * rows ≤ room → sound ≡ true → P None) →
      (rows ≤ rows_most - row → answer_numbers * rows ≤ room → sound ≡ false → P (Some (refusal wrong_state 0))) →
      P (run_refusal row rows room sound)
  unfolding run_refusal
  refusal_cases P many few on off =
      either P (ltb (rows_most - row) rows) (λ e. many (ltb-true _ _ e)) (λ e.
      let m = ltb-false (rows_most - row) rows e in
      either P (ltb room (answer_numbers * rows)) (λ f. few m (ltb-true _ _ f)) (λ f.
      let k = ltb-false room (answer_numbers * rows) f in
      either P sound (on m k) (off m k)))

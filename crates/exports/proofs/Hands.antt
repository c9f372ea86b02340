-- What the exported functions say of a state that is lent as numbers.
-- Assumes nothing.
use Rattle.std.proofs.Common.{Some, None, Option}
use Rattle.std.specs.Option.{unwrap_or}
use Prim.Native.Nat.{ℕ}
use mathlib.Core.Path.{◌≡◌, sym, ap, ◌∙◌}
use mathlib.Core.Bool.{Bool, true, false}
use mathlib.Core.List.{List}
use lib.Dec.{eqb}
use lib.IntN.{ℤ}
use lib.ListN.{length}
use borrow.Author.Tests.{eq-eqb}
use Rattle.ground.specs.declared.Refusal.{Refusal}
use Rattle.ground.specs.Choice.{when◌then◌else◌}
use Rattle.ground.proofs.Laws.Choice.{clash, if_true}
use Rattle.constants.specs.Refusals.{refusal, no_refusal, wrong_state}
use Rattle.job_settings.specs.declared.Settings.{Settings}
use Rattle.row_values.specs.Rows.{rows_offered}
use Rattle.row_state.specs.declared.State.{State}
use Rattle.row_rules.specs.declared.Ran.{Ran}
use Rattle.row_rules.specs.Runs.{refusal_by, End, ended, run_refusal, run_of}
use Rattle.exports_state.specs.Packed.{state_numbers, numbers_of, Packed, packed, packed_of, unpacked_of, row_said}
use Rattle.exports.specs.Steps.{Lent, lent, lent_of, lent_by, LentStart, handed, start_handed, start_told, NextTold, next_told, lent_after, after_lent}

-- ---- a state handed out

-- its numbers are as many as were lent, or nothing was written
module _ (st : State) (before : Lent) {w : Bool} {ns : List ℤ} where
  pub packed_handed : packed w ns ≡ packed_of st before.numbers → w ≡ true → handed no_refusal (lent ns st.filter.level) ≡ start_handed st before
  unfolding packed_of start_handed lent_of
  packed_handed e t = by (eqb (length before.numbers) state_numbers) e
    where
      by : (b : Bool) → packed w ns ≡ (when b then packed true (numbers_of st) else packed false before.numbers) →
          handed no_refusal (lent ns st.filter.level) ≡ (when b then handed no_refusal (lent_of st) else handed (refusal wrong_state 0) before)
      by true f = ap (λ (x : Packed). handed no_refusal (lent x.numbers st.filter.level)) f
      by false f = absurd (clash t (ap (λ (x : Packed). x.written) f))

  pub unpacked_handed : packed w ns ≡ packed_of st before.numbers → w ≡ false →
      handed (refusal wrong_state 0) (lent ns before.level) ≡ start_handed st before
  unfolding packed_of start_handed
  unpacked_handed e t = by (eqb (length before.numbers) state_numbers) e
    where
      by : (b : Bool) → packed w ns ≡ (when b then packed true (numbers_of st) else packed false before.numbers) →
          handed (refusal wrong_state 0) (lent ns before.level) ≡ (when b then handed no_refusal (lent_of st) else handed (refusal wrong_state 0) before)
      by true f = absurd (clash (ap (λ (x : Packed). x.written) f) t)
      by false f = ap (λ (x : Packed). handed (refusal wrong_state 0) (lent x.numbers before.level)) f

-- its refusal, by its number and its place
pub start_told_lem : {n p : ℕ} {r : Refusal} (after : Lent) {x : LentStart} → refusal n p ≡ r → handed r after ≡ x → start_told n p after ≡ x
start_told_lem after a h = ap (λ (r : Refusal). handed r after) a ∙ h

-- a state handed out where there is room for it
pub handed_out : (before : Lent) {r : Refusal} {after : Lent} (st : State) → length before.numbers ≡ state_numbers →
    handed r after ≡ start_handed st before → after ≡ lent_of st
unfolding start_handed
handed_out before st all e = ap (λ (x : LentStart). x.state) (e ∙ sym (if_true _ _ (eq-eqb _ _ all)))

-- ---- the state that a run hands out, by how it ended

module _ (ran : Ran) (before : Lent) where
  pub done_lent : {after : Lent} {st : State} → ran ≡ Ran.Done st → after ≡ lent_of st → after ≡ lent_by ran before
  unfolding lent_by
  done_lent e h = rw e h

  pub stopped_lent : {after : Lent} {st : State} {r : Refusal} → ran ≡ Ran.Stopped st r → after ≡ lent_of st → after ≡ lent_by ran before
  unfolding lent_by
  stopped_lent e h = rw e h

  pub refused_lent : {r : Refusal} → ran ≡ Ran.Refused r → before ≡ lent_by ran before
  unfolding lent_by
  refused_lent e = rw e

  -- its refusal, its state and its answers
  pub ran_next : {n p : ℕ} {r : Refusal} (after : Lent) {out : List ℤ} {e : End} → refusal n p ≡ r → r ≡ refusal_by ran → after ≡ lent_by ran before →
      ended ran out ≡ e → next_told n p after out ≡ lent_after before e
  ran_next after {out = out} a b h f =
      ap (λ (x : Refusal). record { refusal = x; state = after; out = out }) (a ∙ b)
      ∙ ap (λ (x : Lent). record { refusal = refusal_by ran; state = x; out = out }) h
      ∙ ap (lent_after before) f

-- ---- rows after lent numbers

module _ (s : Settings) (gains records rows : List ℕ) (before : Lent) (out : List ℤ) {u : Option State} (e : u ≡ unpacked_of before.numbers before.level) where
  pub after_none : {n p row offered : ℕ} {o : Option Refusal} → u ≡ None → row ≡ row_said before.numbers → offered ≡ rows_offered rows →
      refusal n p ≡ unwrap_or o no_refusal → o ≡ run_refusal row offered (length out) false → next_told n p before out ≡ after_lent s gains records rows before out
  unfolding after_lent
  after_none g f h a b =
      let same = a ∙ (λ i. unwrap_or ((b ∙ (λ k. run_refusal (f k) (h k) (length out) false)) i) no_refusal) in
      rw (← e, g) (ap (λ (x : Refusal). record { refusal = x; state = before; out = out }) same)

  pub after_kept : {told : NextTold} {st : State} → u ≡ Some st → told ≡ lent_after before (run_of s gains records st rows out) →
      told ≡ after_lent s gains records rows before out
  unfolding after_lent
  after_kept g h = rw (← e, g) h

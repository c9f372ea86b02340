-- `exports_state::row_said` meets its contract: numbers of this form say their row.
use Rattle.std.specs.Prelude.{ℕ, ◌≡◌, refl, true, false, ℤ, pos, negsuc, unsigned_abs, FitsSigned, Ok, Err, Result, OkIff}
use Rattle.std.specs.Int.{FitsUnsignedBits}
use Rattle.std.specs.Result.{result_unwrap_or}
use Rattle.std.proofs.Common.{sym, ap, ◌∙◌, rules, w64, eq-eqb, ne_eqb, arith}
use mir.Val.{of_z}
use Rattle.std.proofs.lemmas.Int.{to_z-of_z}
use Rattle.ground.specs.Integers.{pz, within}
use Rattle.ground.proofs.Laws.Choice.{if_true, if_false}
use Rattle.exports_state.specs.Packed.{nth, of_this_form, row_number, row_said, state_version}
use Rattle.exports_state.proofs.Laws.Packed.{version_is}
use Rattle.exports_state.proofs.Reading.{not_so, number_of}
use Rattle.exports_state.proofs.row_said.Goals as goal
use Rattle.exports_state.proofs.row_said.Goals.{else-numbers-eq-STATE_NUMBERS-via-then-numbers-eq-STATE_NUMBERS+else-numbers-eq-STATE_VERSION, else-numbers-eq-STATE_NUMBERS-via-else-numbers-eq-STATE_NUMBERS}

-- a row that fits is the number, and one below 0 is row 0
row_read : {E : Type 0} (z : ℤ) → FitsSigned w64 z → (r : Result ℕ E) → OkIff r (FitsUnsignedBits 64 z) (unsigned_abs z) → result_unwrap_or r 0 ≡ pz z
row_read (pos n) fit (Ok x) h = h.1
row_read (pos n) fit (Err e) h = absurd (h (omega (arith, fit.sfits)))
row_read (negsuc n) fit (Ok x) h = absurd h.0
row_read (negsuc n) fit (Err e) h = refl

other_version : (z : ℤ) → (of_z w64 z ≡ 1 → ⊥) → within (pos state_version) (pos state_version) z ≡ false
other_version z n = not_so _ (λ e. n (ap (of_z w64) (sym (version_is z e))))

pub returns-then-numbers-eq-STATE_VERSION : goal.returns-then-numbers-eq-STATE_VERSION
unfolding row_said of_this_form row_number
returns-then-numbers-eq-STATE_VERSION c =
    let ns = c.args.numbers.now in
    let first : FitsSigned w64 (nth ns 0) = search rules in
    let second : FitsSigned w64 (nth ns 1) = search rules in
    let version : of_this_form ns ≡ true =
    sym (if_true _ _ (eq-eqb _ _ c.if-numbers-eq-STATE_NUMBERS.true)) ∙ ap (within (pos state_version) (pos state_version)) (number_of _ first c.if-numbers-eq-STATE_VERSION.true) in
    c.unwrap_or.ensures ∙ row_read (nth ns 1) second _ (rw (to_z-of_z w64 _ second) at c.try_from.ensures) ∙ if_true _ _ version

pub returns : goal.returns
unfolding row_said of_this_form
returns c =
    let ns = c.args.numbers.now in
    let other = if_false (row_number ns) 0 in
    let version = within (pos state_version) (pos state_version) (nth ns 0) in
    elim c.else-numbers-eq-STATE_NUMBERS.branch [
      | else-numbers-eq-STATE_NUMBERS-via-then-numbers-eq-STATE_NUMBERS+else-numbers-eq-STATE_VERSION w ↦
          other (sym (if_true version false (eq-eqb _ _ w.if-numbers-eq-STATE_NUMBERS.true)) ∙ other_version (nth ns 0) w.if-numbers-eq-STATE_VERSION.false)
      | else-numbers-eq-STATE_NUMBERS-via-else-numbers-eq-STATE_NUMBERS w ↦
          other (sym (if_false version false (ne_eqb _ _ w.if-numbers-eq-STATE_NUMBERS.false)))
    ]

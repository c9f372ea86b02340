-- `words::digits_of` meets its contract: what the digits so far have made, and those that are left.
use Rattle.std.proofs.Common.{sym, ◌∙◌, get_or, eqb-true, arith}
use Rattle.std.proofs.lemmas.Grind.{common_steps}
use Rattle.std.proofs.Math.Dec.{lit<}
use Rattle.words.proofs.Values.{digits_few, digits_many, digits_start, digit_none, digit_on, digits_end, digit_more, digit_fits}
use Rattle.words.proofs.digits_of.Goals as goal
use Rattle.words.proofs.digits_of.Goals.{then-is_empty-via-then-is_empty, then-is_empty-via-else-is_empty+then-word-gt-DIGITS_MOST}

pub returns-then-is_empty : goal.returns-then-is_empty
returns-then-is_empty c =
    elim c.then-is_empty.branch [
      | then-is_empty-via-then-is_empty w ↦ digits_few _ (eqb-true _ _ (sym c.is_empty.ensures ∙ w.if-is_empty.true))
      | then-is_empty-via-else-is_empty+then-word-gt-DIGITS_MOST w ↦ digits_many _ (omega arith)
    ]

pub loop-b-init : goal.loop-b-init
loop-b-init c = (lit< tt, digits_start _ (grind (arith, common_steps)) (omega arith))

pub returns-then-not-is_ascii_digit : goal.returns-then-not-is_ascii_digit
returns-then-not-is_ascii_digit c =
    digit_none _ _ _ c.loop-b.invariant.1 c.loop-b-test.true (sym c.if-not-is_ascii_digit.ensures.value)

pub overflow_mul-value : goal.overflow_mul-value
overflow_mul-value c =
    omega (arith, digit_fits _ _ (get_or c.args.word.now c.loop-b.b-index 0) c.loop-b.invariant.0 (omega arith) c.if-not-is_ascii_digit.ensures.cases.1)

pub overflow_add-value : goal.overflow_add-value
overflow_add-value c =
    omega (arith, digit_fits _ _ (get_or c.args.word.now c.loop-b.b-index 0) c.loop-b.invariant.0 (omega arith) c.if-not-is_ascii_digit.ensures.cases.1)

pub loop-b-preserved : goal.loop-b-preserved
loop-b-preserved c =
    rw c.from.ensures (
      digit_more _ _ _ c.loop-b.invariant.0 c.if-not-is_ascii_digit.ensures.cases.1,
      digit_on _ _ _ c.loop-b.invariant.1 c.loop-b-test.true (sym c.if-not-is_ascii_digit.ensures.value),
    )

pub returns : goal.returns
returns c = digits_end _ _ _ c.loop-b.invariant.1 c.loop-b-test.false (omega arith) c.loop-b.invariant.0

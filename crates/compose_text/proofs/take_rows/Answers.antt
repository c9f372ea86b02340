-- `compose_text::take_rows` meets its contract.
use Rattle.std.proofs.Common.{sym, ◌∙◌, ltb-true, ltb-false, arith}
use Rattle.compose_text.proofs.Taking.{rows_taken_lem, rows_grow, rows_early}
use Rattle.compose_text.proofs.take_rows.Goals as goal

pub returns-then-not-has_gain : goal.returns-then-not-has_gain
returns-then-not-has_gain c =
    let e = ltb-false _ _ (sym c.has_gain.ensures ∙ c.if-not-has_gain.true) in
    record { stands = λ p s. rows_early p s _ _ _ e; grows = tt }

pub returns : goal.returns
returns c =
    let e = ltb-true _ _ (sym c.has_gain.ensures ∙ c.if-not-has_gain.false) in
    let a = c.append_rows-used.ensures in
    record { stands = λ p s. rows_taken_lem p s _ _ _ e a; grows = rows_grow _ _ _ (omega arith) a }

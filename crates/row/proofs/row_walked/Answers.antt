-- `row::row_walked` meets its contract: what the bytes break, or the row that they make in its slot.
use Rattle.std.proofs.Common.{sym, ◌∙◌}
use Rattle.ground.proofs.Laws.Choice.{if_true, if_false}
use Rattle.row_change.proofs.Laws.Change.{here_up}
use Rattle.row_rules.specs.Rules.{row_of}
use Rattle.row_rules.proofs.Laws.Rules.{bytes_right}
use Rattle.row.proofs.row_walked.Goals as goal

pub returns-then-row_wrong : goal.returns-then-row_wrong
unfolding row_of
returns-then-row_wrong c = c.refused_at.ensures ∙ if_true _ _ (sym c.row_wrong.ensures ∙ c.if-row_wrong.true)

pub row_in-requires : goal.row_in-requires
row_in-requires c =
    rw (c.stand-here.ensures, here_up)
    (record { fine = c.requires; pilots_in = (bytes_right _ _ _ (sym c.row_wrong.ensures ∙ c.if-row_wrong.false)).1 })

pub returns : goal.returns
unfolding row_of
returns c =
    (rw c.walk-walked.ensures.is at (rw c.stand-here.ensures at c.row_in.ensures))
    ∙ if_false _ _ (sym c.row_wrong.ensures ∙ c.if-row_wrong.false)

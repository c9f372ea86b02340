-- `has_id` meets its contract: every earlier record is looked at.
use Rattle.std.proofs.Common.{◌∙◌, sym}
use Rattle.gap_records.specs.Records.{sequence_at}
use Rattle.gap_records.proofs.Turns.{id_there, id_not_there, no_id}
use Rattle.gap_records.proofs.has_id.Goals as goal

pub returns-then-records-j : goal.returns-then-records-j
unfolding sequence_at
returns-then-records-j c = sym (c.loop-j.invariant ∙ id_there _ _ _ _ c.loop-j-test.true c.if-records-j.true)

pub loop-j-preserved : goal.loop-j-preserved
unfolding sequence_at
loop-j-preserved c = c.loop-j.invariant ∙ id_not_there _ _ _ _ c.loop-j-test.true c.if-records-j.false

pub returns : goal.returns
returns c = sym (c.loop-j.invariant ∙ no_id _ _ _ _ c.loop-j-test.false)

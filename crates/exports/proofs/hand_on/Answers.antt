-- `exports::hand_on` meets its contract: by how the run ended.
use Rattle.exports.proofs.Hands.{handed_out, done_lent, stopped_lent, refused_lent}
use Rattle.exports.proofs.hand_on.Goals as goal

pub returns-in-Done : goal.returns-in-Done
returns-in-Done c = done_lent _ _ c.in-Done.is (handed_out _ _ c.requires c.hand_out.ensures)

pub returns-in-Stopped : goal.returns-in-Stopped
returns-in-Stopped c = stopped_lent _ _ c.in-Stopped.is (handed_out _ _ c.requires c.hand_out-in-Stopped.ensures)

pub returns-in-Refused : goal.returns-in-Refused
returns-in-Refused c = refused_lent _ _ c.in-Refused.is

-- `exports::hand_out` meets its contract: the numbers are as many as were lent, or nothing was written.
use Rattle.exports.proofs.Hands.{packed_handed, unpacked_handed}
use Rattle.exports.proofs.hand_out.Goals as goal

pub returns-then-pack : goal.returns-then-pack
returns-then-pack c = packed_handed _ _ c.pack.ensures c.if-pack.true

pub returns : goal.returns
returns c = unpacked_handed _ _ c.pack.ensures c.if-pack.false

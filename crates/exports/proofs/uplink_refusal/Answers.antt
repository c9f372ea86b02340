-- `exports::uplink_refusal` meets its contract: by what the load says.
use Rattle.exports.proofs.Tells.{load_told}
use Rattle.exports.proofs.uplink_refusal.Goals as goal

pub returns : goal.returns
returns c = load_told c.load.ensures c.leave.ensures c.err.ensures.value

-- `exports_state::flag_in` meets its contract: 0 and 1 are in the range of a flag, and no other number is.
use Rattle.exports_state.proofs.Reading.{zero_flag, one_flag, no_flag}
use Rattle.exports_state.proofs.flag_in.Goals as goal

pub returns-in-0 : goal.returns-in-0
returns-in-0 c = search (zero_flag, c.ranges.number)

pub returns-in-1 : goal.returns-in-1
returns-in-1 c = search (one_flag, c.ranges.number)

pub returns-in_default : goal.returns-in_default
returns-in_default c = search (no_flag)

-- `exports::writing::put` meets its contract: twelve bytes are refused where fewer are lent, and else stored.
use Rattle.std.proofs.Common.{rules}
use Rattle.exports.proofs.Writes.{put_told, part_short, part_put}
use Rattle.exports.proofs.writing.put.Goals as goal

pub returns-then-bytes-lt12 : goal.returns-then-bytes-lt12
returns-then-bytes-lt12 c = put_told _ c.leave.ensures (part_short _ _ (search rules) (search rules))

pub returns : goal.returns
returns c = put_told _ c.leave-2.ensures (part_put _ _ (search rules) (search rules) c.copy_from_slice.ensures.after)

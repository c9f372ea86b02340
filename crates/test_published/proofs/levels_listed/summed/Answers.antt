-- The level of each number is at most 2,046.
use Rattle.std.proofs.Common.{arith}
use Rattle.levels.proofs.Laws.Level.{level_le}
use Rattle.test_published.proofs.levels_listed.summed.Goals as goal

pub loop-x-preserved : goal.loop-x-preserved
loop-x-preserved c = omega (arith, level_le c.loop-x.x)

use Rattle.std.proofs.Common.{◌-◌, length}
use Rattle.compose_text.proofs.Along.{Along}
use Rattle.compose_text.proofs.read_lines.Given as goal

abbrev pub invariant-loop-at : goal.invariant-loop-at
invariant-loop-at l = Along l.text l.st l.bodies l.at l.n

abbrev pub decreases-loop-at : goal.decreases-loop-at
decreases-loop-at l = length l.text - l.at

-- `levels_listed::summed` is safe: no level is above 2,046, so that neither sum can overflow.
use Rattle.std.proofs.Common.{◌*◌, ◌≤◌}
use Rattle.test_published.proofs.levels_listed.summed.Given as goal

abbrev pub invariant-loop-x : goal.invariant-loop-x
invariant-loop-x l = (l.plain ≤ 2046 * l.x) × (l.placed ≤ 3224496 * l.x)

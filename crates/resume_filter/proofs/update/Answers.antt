-- `resume_filter::update` meets its contract: the bracket is read from its bits as it is, and one more update is counted.
use Rattle.std.proofs.Common.{ℕ, ◌+◌, ◌-◌, ◌^◌, ◌≤◌, ◌≡◌, min, to_z-of_z, arith}
use Rattle.std.proofs.lemmas.Grind.{common_steps}
use Rattle.std.specs.Float.Ieee.{of_bits}
use Rattle.resume_filter.specs.Update.{counted, next, updated_of}
use Rattle.resume_filter.proofs.update.Goals as goal

counted_lem : (n : ℕ) → n ≤ 4294967295 → min (n + 1) (2 ^ 32 - 1) ≡ counted n
unfolding counted
counted_lem n h = grind (arith, common_steps)

pub returns : goal.returns
unfolding of_bits next updated_of
returns c = simp (to_z-of_z c.ranges.bracket, c.saturating_add.ensures, counted_lem c.args.f.count (omega arith))

-- `levels::level` meets its contract: each entry of the code's own table passes the test, and outside the range the level is 0.
-- Assumes nothing.
use Rattle.std.proofs.Common.{sym, refl, arith}
use Rattle.levels.proofs.Laws.Level.{level_outside}
use Rattle.levels.specs.declared.table.TheConstants.{LEVELS}
use Rattle.levels.proofs.Entries.{between, right, entries}
use Rattle.levels.proofs.level.Goals as goal

pub returns-in-1-to-1575 : goal.returns-in-1-to-1575
unfolding between right
returns-in-1-to-1575 c = entries LEVELS refl refl c.args.x (record { least = omega arith; most = omega arith })

pub returns-in_default : goal.returns-in_default
returns-in_default c = sym (level_outside c.args.x (λ h. omega (arith, h.least, h.most)))

pub returns-in_default-2 : goal.returns-in_default-2
returns-in_default-2 c = sym (level_outside c.args.x (λ h. omega (arith, h.least, h.most)))

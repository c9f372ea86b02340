-- `command_algorithms::algorithm1` meets its contract: the byte's lowest bits are compared with as many ones at once.
use Rattle.std.proofs.Common.{◌∙◌, sym, arith, eq-eqb, ne_eqb}
use Rattle.command_algorithms.specs.Algorithms.{algorithm1}
use Rattle.command_algorithms.proofs.Masks.{beyond, mask_tested}
use Rattle.command_algorithms.proofs.algorithm1.Goals as goal

pub returns-then-links-gt8 : goal.returns-then-links-gt8
unfolding algorithm1
returns-then-links-gt8 c = rw (beyond c.args.commands c.args.links 0 (omega arith) (omega arith) (omega arith))

pub returns-then-commands-all : goal.returns-then-commands-all
unfolding algorithm1
returns-then-commands-all c =
    rw (sym (mask_tested c.args.commands c.args.links (omega arith) (omega arith)).is ∙ eq-eqb _ _ c.if-commands-all.true)

pub returns : goal.returns
unfolding algorithm1
returns c =
    rw (sym (mask_tested c.args.commands c.args.links (omega arith) (omega arith)).is ∙ ne_eqb _ _ c.if-commands-all.false)

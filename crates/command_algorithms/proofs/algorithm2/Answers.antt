-- `command_algorithms::algorithm2` meets its contract: each link set passed is counted or settles the command, and after the last the votes decide.
use Rattle.std.proofs.Common.{◌∙◌, sym, lt-ltb, le-ltb, rules}
use Rattle.std.proofs.Math.Nat.{sub-zero}
use Rattle.command_algorithms.specs.Algorithms.{algorithm2}
use Rattle.command_algorithms.proofs.Votes.{no_shift, none_yet, settled, next_shift, counted, decided}
use Rattle.command_algorithms.proofs.algorithm2.Goals as goal

pub loop-link-init : goal.loop-link-init
loop-link-init c = (search rules, search rules, no_shift _, rw sub-zero (none_yet _ _))

pub returns-then-o-lt1 : goal.returns-then-o-lt1
unfolding algorithm2
returns-then-o-lt1 c =
    let l = c.loop-link.invariant in
    sym (l.3 ∙ settled _ _ _ _ c.loop-link-test.true l.2 c.ones-o.ensures c.if-o-lt1.true)

pub loop-link-preserved : goal.loop-link-preserved
loop-link-preserved c =
    let l = c.loop-link.invariant in
    let o = c.ones-o.ensures in
    (search rules, search rules, next_shift _ _ l.2 c.half-rest.ensures, l.3 ∙ counted _ _ _ _ c.loop-link-test.true l.2 o c.if-o-lt1.false)

pub returns-then-from-ups : goal.returns-then-from-ups
unfolding algorithm2
returns-then-from-ups c = sym (c.loop-link.invariant.3 ∙ decided _ _ _ _ c.loop-link-test.false ∙ rw (lt-ltb _ _ (rw c.from.ensures at c.if-from-ups.true)))

pub returns : goal.returns
unfolding algorithm2
returns c = sym (c.loop-link.invariant.3 ∙ decided _ _ _ _ c.loop-link-test.false ∙ rw (le-ltb _ _ (rw c.from.ensures at c.if-from-ups.false)))

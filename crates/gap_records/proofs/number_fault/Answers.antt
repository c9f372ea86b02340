-- `number_fault` meets its contract: the rule's chain of tests is the code's.
use Rattle.std.proofs.Common.{rules, ◌≡◌, true, false, le-ltb}
use Rattle.ground.specs.Outside.{outside}
use Rattle.gap_records.specs.Records.{number_fault}
use Rattle.gap_records.proofs.number_fault.Goals as goal

pub returns-then-not-contains-4 : goal.returns-then-not-contains-4
unfolding number_fault
returns-then-not-contains-4 c =
    let q = c.args.q in
    let e0 : outside 1 6 q.id ≡ false = search rules in
    let e1 : outside 1 3 q.direction ≡ false = search rules in
    let e3 : outside 1 14 q.tgl1 ≡ false = search rules in
    let e5 : outside 1 144 q.tgpl ≡ true = search rules in
    simp (e0, e1, e3, e5, le-ltb 14 q.tgsn c.if-q-gt14.false, le-ltb 14 q.tgl2 c.if-q-gt14-2.false)

-- What a write takes stands after what was written before.
use Rattle.std.proofs.Common.{ℕ, ◌+◌, ◌-◌, ◌≡◌, ◌≤◌, ◌++◌, length, take, drop, sym, ap, subst, ◌∙◌, arith, length-take, length-drop, take-add, take-take}
use Rattle.std.specs.Io.KnownBytes.{Appends}
use Rattle.std.proofs.KnownBytes.{Appends-kept, Appends-trans}
use Rattle.printing.specs.Asks.{Begun}
use Rattle.printing.proofs.Steps.{where_failed}
use Rattle.printing.proofs.write_whole.Goals as goal

pub loop-done-preserved : goal.loop-done-preserved
loop-done-preserved g c =
    let done = c.loop-done.done in
    let n = c.in_ok-n.n in
    let xs = c.args.bytes.now in
    let fits : n ≤ length xs - done = omega (arith, c.in_ok-n.ensures.count.1, length-take {A = ℕ}, length-drop {A = ℕ}) in
    let joined : take done xs ++ take n (take (length xs - done) (drop done xs)) ≡ take (done + n) xs =
    ap (λ l. take done xs ++ l) (take-take n (length xs - done) (drop done xs) fits) ∙ sym (take-add done n xs) in
    (omega arith, subst (Appends _ _) joined (Appends-trans _ _ _ _ _ c.loop-done.invariant.1 c.in_ok-n.ensures.written))

pub returns-in_err-n-clause-failed : goal.returns-in_err-n-clause-failed
returns-in_err-n-clause-failed g c =
    let begun : Begun _ _ c.args.bytes.now = (c.loop-done.done, omega arith, Appends-kept _ _ _ _ c.loop-done.invariant.1 c.in_err-n.ensures.failed) in
    where_failed _ begun

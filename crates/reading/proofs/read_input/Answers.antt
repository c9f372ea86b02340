-- What a read gives stands after what was read before.
use Rattle.std.proofs.Common.{rules, ◌≡◌, ◌≤◌, ℕ, ◌+◌, take, length, List, ◌++◌, Option, Some, None, sym, ap, subst, ◌∙◌, arith}
use Rattle.std.proofs.Math.Seq.{take-append-add}
use Rattle.std.proofs.lemmas.List.{take-append-le, length-take-le}
use Rattle.std.specs.Io.KnownBytes.{Consumes}
use Rattle.std.proofs.KnownBytes.{Consumes-trans}
use Rattle.reading.proofs.read_input.Goals as goal

more : (a b c : Option (List ℕ)) (space part rest : List ℕ) (done n : ℕ) → done ≤ length space → n ≤ length part →
    Consumes a b (take done space) → Consumes b c (take n part) → Consumes a c (take (done + n) (take done space ++ (part ++ rest)))
more a b c space part rest done n within fits before read =
    let long = length-take-le done space within in
    let seam : take (done + n) (take done space ++ (part ++ rest)) ≡ take done space ++ take n part =
    ap (λ k. take (k + n) (take done space ++ (part ++ rest))) (sym long) ∙ take-append-add (take done space) (part ++ rest) n
    ∙ ap (λ l. take done space ++ l) (take-append-le n part rest fits) in
    subst (Consumes a c) (sym seam) (Consumes-trans a b c _ _ before read)

pub loop-done-preserved : goal.loop-done-preserved
loop-done-preserved g c =
    (search rules, more _ _ _ c.loop-done.space c.read.new.buf _ c.loop-done.done c.in_ok-n.n c.loop-done.invariant.0 c.in_ok-n.ensures.bound.0 c.loop-done.invariant.1 c.in_ok-n.ensures.bytes.0)

-- `words::number_of` meets its contract: the digits after a minus, or all of the word.
use Rattle.std.proofs.Common.{◌≡◌, pos, sym, ◌∙◌, arith}
use Rattle.std.proofs.Math.IntN.{neg_ℤ}
use Rattle.std.proofs.lemmas.Int.{ints}
use Rattle.words.proofs.Values.{number_below, number_above, neg_is, told_below, told_above}
use Rattle.words.proofs.number_of.Goals as goal

pub returns-in-Some : goal.returns-in-Some
returns-in-Some c =
    let e = c.in-Some.ensures.cases in
    told_below (rw e.1 at c.digits_of.ensures) _ c.map.ensures.cases
    (λ n z h p. let q : z ≡ neg_ℤ (pos n) = omega (arith, ints) in q ∙ neg_is n) ∙ sym (number_below _ e.0)

pub returns-in-None : goal.returns-in-None
returns-in-None c =
    told_above c.digits_of-in-None.ensures _ c.map-in-None.ensures.cases (λ n z h p. omega (arith, ints)) ∙
    sym (number_above _ c.in-None.ensures.cases)

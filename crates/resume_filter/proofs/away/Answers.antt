-- `resume_filter::away` meets its contract: on which side of zero x lies, and what `half_up` says of its size.
use Rattle.std.proofs.Common.{◌≡◌, ◌≤◌, ℤ, pos, ◌-ℤ◌, neg_ℤ, nat_abs, sym, ap, ◌∙◌, w32, SFits, to_z, of_z, to_z-of_z}
use Rattle.std.proofs.Math.IntN.{+ℤ_idl, neg_ℤ-neg_ℤ}
use Rattle.std.specs.Prelude.{Float}
use Rattle.std.specs.Float.Ieee.{neg, of_bits}
use Rattle.ground.proofs.Laws.Integers.Parts as parts
use Rattle.ground.proofs.Laws.Integers.Signs.{signs}
use Rattle.ground.proofs.Laws.Integers.Products.{abs_in}
use Rattle.resume_filter.specs.Scaled.{scaled, largest, Bounded}
use Rattle.resume_filter.specs.Resuming.{half_up, away}
use Rattle.resume_filter.proofs.Laws.Resuming.{away_neg, away_most}
use Rattle.resume_filter.proofs.Middle.{scaled_neg, level_neg, above_zero, below_zero, at_zero}
use Rattle.resume_filter.proofs.away.Goals as goal

-- the result of `half_up` of -x, negated: it is a size of at most 1,984, and so fits
module _ (x : Float) (h : Bounded x) (r : ℤ) (e : r ≡ away (scaled (neg x))) where
  small : nat_abs r ≤ largest
  small = rw e (away_most (scaled (neg x)) largest (level_neg h).most)

  as_it_is : to_z w32 (of_z w32 r) ≡ r
  as_it_is = let i = abs_in r small in to_z-of_z {w = w32} {z = r} (omega signs)

  fits_negated : SFits w32 (pos 0 -ℤ to_z w32 (of_z w32 r))
  fits_negated = let i = abs_in r small in rw as_it_is (omega (signs, parts.dif (pos 0) r))

  negated : to_z w32 (of_z w32 (pos 0 -ℤ to_z w32 (of_z w32 r))) ≡ away (scaled x)
  negated =
      to_z-of_z {w = w32} {z = pos 0 -ℤ to_z w32 (of_z w32 r)} fits_negated
      ∙ rw as_it_is (+ℤ_idl (neg_ℤ r))
      ∙ ap neg_ℤ (e ∙ ap away (scaled_neg h) ∙ away_neg (scaled x))
      ∙ neg_ℤ-neg_ℤ (away (scaled x))

pub half_up-requires : goal.half_up-requires
unfolding of_bits
half_up-requires c = (above_zero c.requires c.if-x.true, c.requires)

pub half_up-requires-then-x-2 : goal.half_up-requires-then-x-2
unfolding of_bits
half_up-requires-then-x-2 c = (below_zero c.requires c.if-x-2.true, level_neg c.requires)

pub overflow_sub-result : goal.overflow_sub-result
overflow_sub-result c = fits_negated c.args.x c.requires c.half_up-then-x-2.result c.half_up-then-x-2.ensures

pub returns-then-x-2 : goal.returns-then-x-2
returns-then-x-2 c = negated c.args.x c.requires c.half_up-then-x-2.result c.half_up-then-x-2.ensures

pub returns : goal.returns
unfolding of_bits away half_up
returns c = sym (ap away (at_zero c.requires c.if-x.false c.if-x-2.false))

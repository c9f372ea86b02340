-- `power::step_change` meets its contract: a signed byte times a byte, and a difference of two levels.
-- Assumes nothing.
use Rattle.std.specs.Prelude.{◌≡◌, ◌≤◌, ℤ, pos, nat_abs, ◌+ℤ◌, ◌*ℤ◌}
use Rattle.std.proofs.Common.{rules, ap}
use Rattle.std.specs.Int.{w32}
use Rattle.std.proofs.lemmas.Int.{to_z-of_z}
use Rattle.ground.proofs.Laws.Integers.Fits.{same}
use Rattle.ground.proofs.Laws.Integers.Products.{times_byte_fits}
use Rattle.power.specs.Steps.{step_change_of}
use Rattle.power.proofs.Laws.Steps.{pilots_any}
use Rattle.power.proofs.Sizes.{step_fits}
use Rattle.power.proofs.step_change.Goals as goal

small : (c : goal.After-pilot_change) → nat_abs c.pilot_change.result ≤ 2046
small c = rw c.pilot_change.ensures (pilots_any _ _)

pub overflow_add-result : goal.overflow_add-result
overflow_add-result c =
    let f = c.ranges in
    let p = c.pilot_change in
    let a : c.from.result ≡ c.args.command = search rules in
    let b : c.from-2.result ≡ pos c.args.step = search rules in
    simp (same w32 c.from.result c.from.type_inv, same w32 c.from-2.result c.from-2.type_inv, same w32 p.result p.type_inv)
    (simp (a, b, to_z-of_z w32 _ (times_byte_fits _ _ f.command f.step.fits)) (step_fits p.result f.command f.step (small c)))

pub returns : goal.returns
unfolding step_change_of
returns c =
    let f = c.ranges in
    let p = c.pilot_change in
    let a : c.from.result ≡ c.args.command = search rules in
    let b : c.from-2.result ≡ pos c.args.step = search rules in
    let z = step_fits p.result f.command f.step (small c) in
    simp (same w32 c.from.result c.from.type_inv, same w32 c.from-2.result c.from-2.type_inv, same w32 p.result p.type_inv)
    (simp (a, b, to_z-of_z w32 _ (times_byte_fits _ _ f.command f.step.fits), to_z-of_z w32 _ z)
    (ap (λ (z : ℤ). c.args.command *ℤ pos c.args.step +ℤ z) p.ensures))

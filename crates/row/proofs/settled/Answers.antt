-- `row::settled` meets its contract: power is the lesser of the two, and what is cut off, which may be nothing, fits.
use Rattle.std.proofs.Common.{◌≡◌, ◌∙◌, refl, Bool, true, false, cond, ℤ, ◌+ℤ◌, ◌-ℤ◌}
use Rattle.std.specs.Int.Signed.{lt_z}
use Rattle.std.specs.Int.{w32, int_min}
use Rattle.std.proofs.lemmas.Int.{to_z-of_z}
use mir.Val.{SFits}
use Rattle.ground.specs.Integers.{lesser}
use Rattle.ground.proofs.Laws.Integers.Fits.{same}
use Rattle.ground.proofs.Laws.Integers.Parts.{sum, dif}
use Rattle.ground.proofs.Laws.Integers.Signs.{signs, lesser_of}
use Rattle.row.specs.Asks.{Settling}
use Rattle.row_rules.specs.Rules.{settled_of}
use Rattle.row.proofs.settled.Goals as goal

module _ {held a b : ℤ} (h : Settling held a b) where
  over_fits : SFits w32 (a -ℤ lesser a b)
  over_fits = omega (signs, lesser_of a b, dif a (lesser a b))

  held_fits : SFits w32 (held +ℤ (a -ℤ lesser a b))
  held_fits = omega (signs, lesser_of a b, dif a (lesser a b), sum held (a -ℤ lesser a b))

-- std's lesser is the rule's
least : (a b : ℤ) → int_min a b ≡ lesser a b
least a b = by (lt_z b a) refl
  where
    by : (t : Bool) → lt_z b a ≡ t → cond t b a ≡ lesser a b
    by true e = omega (signs, lesser_of a b)
    by false e = omega (signs, lesser_of a b)

pub returns : goal.returns
unfolding settled_of
returns c =
    let a = c.args in
    let r = c.min-power in
    let s = to_z-of_z w32 _ c.ranges.sum in
    let t = to_z-of_z w32 _ c.ranges.ceiling in
    let m : r.result ≡ lesser a.sum a.ceiling = (simp (s, t) at r.ensures.value) ∙ least a.sum a.ceiling in
    let over = to_z-of_z w32 _ (over_fits c.requires) in
    let held = to_z-of_z w32 _ (held_fits c.requires) in
    let read = rw m at (same w32 r.result r.type_inv) in
    simp (m, read, s, t, to_z-of_z w32 _ c.ranges.held, over, held)

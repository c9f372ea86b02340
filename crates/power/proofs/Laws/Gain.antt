-- The laws of what a triple makes of a power: the ranges, and that total power at the ceiling is the allowed maximum.
-- Assumes nothing.
use Rattle.std.specs.Prelude.{◌+◌, ◌≤◌, ◌≡◌, true, ◌↔◌, ltb, ℤ, negsuc, nat_abs, ◌+ℤ◌, ◌-ℤ◌, ◌*ℤ◌}
use Rattle.std.proofs.Math.Path.{refl}
use Rattle.std.proofs.Math.Nat.{mul-le-mul}
use native.Mathlib.Omega.{arith}
use borrow.Author.Tests.{ltb-true, ltb-false, lt-ltb}
use Rattle.std.proofs.Common.{lit≤}
use Rattle.std.proofs.Math.IntN.{pos}
use Rattle.ground.proofs.Laws.Choice.{either}
use Rattle.ground.specs.Integers.{Within}
use Rattle.ground.proofs.Laws.Integers.Parts.{sum, dif, mul}
use Rattle.ground.proofs.Laws.Integers.Signs.{signs}
use Rattle.levels.specs.Level.{Ranged, ranged, is_level, level}
use Rattle.levels.proofs.Laws.Level.{level_at, level_mono, level_within, level_difference}
use Rattle.power.specs.declared.Triple.{Triple}
use Rattle.power.specs.Gain.{triple, control_square, data_square, gain_bracket, data_offset, ceiling_of, gain_of, MaximumIn, GainIn}
use Rattle.power.specs.Triples.{TripleRanged}

module _ (t : Triple) where
  -- ---- the parts of a gain

  module _ (maximum : ℤ) where
    pub gain_bracket_lem : (gain_of t maximum).bracket ≡ gain_bracket t
    unfolding gain_of
    gain_bracket_lem = refl

    pub gain_ceiling : (gain_of t maximum).ceiling ≡ ceiling_of t maximum
    unfolding gain_of
    gain_ceiling = refl

    pub gain_offset : (gain_of t maximum).offset ≡ data_offset t
    unfolding gain_of
    gain_offset = refl

    -- data are carried exactly where βd is not 0
    pub gain_carries : (gain_of t maximum).carries_data ≡ true ↔ 1 ≤ t.betad
    unfolding gain_of
    gain_carries = (ltb-true 0 t.betad, lt-ltb 0 t.betad)

    -- "Total = DPCCH + that same bracket": at the ceiling total power is the allowed maximum
    pub total_is : ceiling_of t maximum +ℤ gain_bracket t ≡ pos 64 *ℤ maximum
    unfolding ceiling_of
    total_is =
        let m = pos 64 *ℤ maximum in
        let b = gain_bracket t in
        omega (signs, dif m b, sum (m -ℤ b) b)

  -- for any triple the bracket is at most 2,046 in size
  pub bracket_any : nat_abs (gain_bracket t) ≤ 2046
  unfolding gain_bracket
  bracket_any = level_difference (control_square t + data_square t) (control_square t)

-- ---- for triples in their ranges

module _ {t : Triple} (g : TripleRanged t) where
  control_ranged : (1 ≤ control_square t) × (control_square t ≤ 225)
  control_ranged = (mul-le-mul g.control.0 g.control.0, mul-le-mul g.control.1 g.control.1)

  data_most : data_square t ≤ 1350
  data_most = mul-le-mul g.count.1 (mul-le-mul g.data_most g.data_most)

  -- the bracket is from 0 to 2,004
  pub bracket_in : Within (pos 0) (pos 2004) (gain_bracket t)
  unfolding gain_bracket
  bracket_in =
      let own = control_square t in
      let all = own + data_square t in
      let c = control_ranged in
      let m = data_most in
      let p : Ranged all = record { least = omega arith; most = omega arith } in
      let q : Ranged own = record { least = omega arith; most = omega arith } in
      let h : own ≤ all = omega arith in
      let low = level_mono p q h in
      let high = level_within 1351 2004 (lit≤ tt) p q h (omega arith) in
      let d = dif (pos (level all)) (pos (level own)) in
      record { low = omega (signs, d); high = omega (signs, d) }

  -- the offset from −1,505 to 2,003
  pub offset_in : Within (negsuc 1504) (pos 2003) (data_offset t)
  unfolding data_offset ranged is_level
  offset_in =
      either (Within (negsuc 1504) (pos 2003)) (ltb t.betad 1)
      (λ e. record { low = omega signs; high = omega signs })
      (λ e.
      let own = control_square t in
      let sent = data_square t in
      let c = control_ranged in
      let m = data_most in
      let b = ltb-false t.betad 1 e in
      let s : 1 ≤ sent = mul-le-mul g.count.0 (mul-le-mul b b) in
      let p : Ranged own = record { least = omega arith; most = omega arith } in
      let q : Ranged sent = record { least = omega arith; most = omega arith } in
      let l = level_mono (record { least = omega arith; most = omega arith }) p c.1 in
      let h = level_mono (record { least = omega arith; most = omega arith }) q m in
      let d = dif (pos (level sent)) (pos (level own)) in
      record { low = omega (signs, d, l, level_at 225 1505 refl refl); high = omega (signs, d, h, level_at 1350 2003 refl refl) })

  module _ {maximum : ℤ} (h : MaximumIn maximum) where
    -- and the ceiling from −5,204 to 2,112
    pub ceiling_in : Within (negsuc 5203) (pos 2112) (ceiling_of t maximum)
    unfolding ceiling_of
    ceiling_in =
        let b = bracket_in in
        let d = dif (pos 64 *ℤ maximum) (gain_bracket t) in
        record { low = omega (signs, d, mul 64 maximum); high = omega (signs, d, mul 64 maximum) }

    -- all of a gain
    pub gain_in : GainIn (gain_of t maximum)
    unfolding gain_of
    gain_in = record { ceiling_in = ceiling_in; bracket_in = bracket_in; offset_in = offset_in }

-- ---- each end of these ranges is reached

bracket_reached : (gain_bracket (triple 15 0 1) ≡ pos 0) × (gain_bracket (triple 1 15 6) ≡ pos 2004)
unfolding gain_bracket ranged is_level
bracket_reached = (rw (level_at 225 1505 refl refl), rw (level_at 1351 2004 refl refl, level_at 1 0 refl refl))

offset_reached : (data_offset (triple 15 1 1) ≡ negsuc 1504) × (data_offset (triple 1 15 6) ≡ pos 2003)
unfolding data_offset ranged is_level
offset_reached = (rw (level_at 1 0 refl refl, level_at 225 1505 refl refl), rw (level_at 1350 2003 refl refl, level_at 1 0 refl refl))

ceiling_reached : (ceiling_of (triple 1 15 6) (negsuc 49) ≡ negsuc 5203) × (ceiling_of (triple 15 0 1) (pos 33) ≡ pos 2112)
unfolding ceiling_of
ceiling_reached = (rw bracket_reached.1, rw bracket_reached.0)

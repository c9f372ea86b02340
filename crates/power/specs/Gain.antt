-- "Ceiling = 64·maximum − (L(βc² + n·βd²) − L(βc²)). Total = DPCCH + that same bracket. DPDCH = DPCCH + L(n·βd²) −
-- L(βc²), none when βd is 0."
-- RULES: power
-- Definitions, to be believed.
use Rattle.std.specs.Prelude.{ℕ, ◌+◌, ◌*◌, ltb, ℤ, pos, negsuc, ◌-ℤ◌, ◌*ℤ◌}
use Rattle.ground.specs.Choice.{when◌then◌else◌}
use Rattle.ground.specs.Integers.{Within}
use Rattle.levels.specs.Level.{level}
use Rattle.power.specs.declared.Triple.{Triple}
use Rattle.power.specs.declared.Gain.{Gain}

-- gain factors βc and βd, and the DPDCH count n
abbrev pub triple : (betac betad channels : ℕ) → Triple
triple betac betad channels = record { betac = betac; betad = betad; channels = channels }

-- "βc²"
abbrev pub control_square : Triple → ℕ
control_square t = t.betac * t.betac

-- "n·βd²"
abbrev pub data_square : Triple → ℕ
data_square t = t.channels * (t.betad * t.betad)

-- "L(βc² + n·βd²) − L(βc²)"
unfoldable pub gain_bracket : Triple → ℤ
gain_bracket t = pos (level (control_square t + data_square t)) -ℤ pos (level (control_square t))

-- "L(n·βd²) − L(βc²), none when βd is 0"
-- DECISIONS: power-no-data
unfoldable pub data_offset : Triple → ℤ
data_offset t = when ltb t.betad 1 then pos 0 else pos (level (data_square t)) -ℤ pos (level (control_square t))

-- "64·maximum − (L(βc² + n·βd²) − L(βc²))"
unfoldable pub ceiling_of : Triple → (maximum : ℤ) → ℤ
ceiling_of t maximum = pos 64 *ℤ maximum -ℤ gain_bracket t

-- all that a triple and the allowed maximum give; data are carried where βd is not 0
-- DECISIONS: power-no-data
unfoldable pub gain_of : Triple → (maximum : ℤ) → Gain
gain_of t maximum =
    record {
      bracket = gain_bracket t;
      ceiling = ceiling_of t maximum;
      carries_data = ltb 0 t.betad;
      offset = data_offset t;
    }

-- "allowed maximum in dBm, signed, -50 to 33"
abbrev pub MaximumIn : ℤ → Type 0
MaximumIn maximum = Within (negsuc 49) (pos 33) maximum

-- the ranges of a gain whose triple and maximum are in theirs
pub record GainIn (g : Gain) : Type 0 where
  pub ceiling_in : Within (negsuc 5203) (pos 2112) g.ceiling
  pub bracket_in : Within (pos 0) (pos 2004) g.bracket
  pub offset_in : Within (negsuc 1504) (pos 2003) g.offset

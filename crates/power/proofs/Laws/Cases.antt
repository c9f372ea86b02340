-- "On both sides of each edge": the marked cases of this layer, as one statement, and that the rules give them all.
-- And one that is not marked.
-- Assumes nothing.
-- RULES: cases
use Rattle.std.specs.Prelude.{◌≡◌, refl, pos, negsuc}
use Rattle.levels.specs.Level.{ranged, is_level}
use Rattle.levels.proofs.Laws.Level.{level_at}
use Rattle.power.specs.Steps.{step_units, recovery_step_of, pilot_change_of}
use Rattle.power.specs.Gain.{triple, gain_bracket, data_offset}

pub record Cases : Type 0 where
  -- "βc 15, βd 15, n 1: ceiling bracket 193"
  pub like : gain_bracket (triple 15 15 1) ≡ pos 193
  -- "βc 8, βd 15: 419, DPDCH 349 above DPCCH"
  pub unlike : gain_bracket (triple 8 15 1) ≡ pos 419
  pub above : data_offset (triple 8 15 1) ≡ pos 349
  -- "Pilots 8 then 4: +193"
  pub fewer : pilot_change_of 8 4 ≡ pos 193
  -- "4 then 8: −193"
  pub more : pilot_change_of 4 8 ≡ negsuc 192
  -- "Recovery step for PCA 1: step 1 dB 128, step 2 dB 192"
  pub one : recovery_step_of 1 (step_units 1) ≡ 128
  pub two : recovery_step_of 1 (step_units 2) ≡ 192

pub cases : Cases
unfolding ranged is_level step_units recovery_step_of pilot_change_of gain_bracket data_offset
cases =
    record {
      like = rw (level_at 450 1698 refl refl, level_at 225 1505 refl refl);
      unlike = rw (level_at 289 1575 refl refl, level_at 64 1156 refl refl);
      above = rw (level_at 225 1505 refl refl, level_at 64 1156 refl refl);
      fewer = rw (level_at 8 578 refl refl, level_at 4 385 refl refl);
      more = rw (level_at 8 578 refl refl, level_at 4 385 refl refl);
      one = refl;
      two = refl;
    }

-- "64 for PCA 2"
second : recovery_step_of 2 (step_units 1) ≡ 64
unfolding step_units recovery_step_of
second = refl

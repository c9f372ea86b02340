-- The numbers of the settings and of a gap record as the bytes of a job file.
-- RULES: settings, records, writing
-- Definitions, to be believed.
use Rattle.std.specs.Prelude.{ℕ, suc, ◌-◌, ◌*◌, ◌<◌, List, ◌∷◌, ◌++◌, ltb, ℤ, pos, negsuc, ◌+ℤ◌, ◌≤ℤ◌, ◌<ℤ◌}
use Rattle.ground.specs.Choice.{when◌then◌else◌}
use Rattle.power.specs.declared.Triple.{Triple}
use Rattle.gap_records.specs.declared.Sequence.{Sequence}
use Rattle.job_settings.specs.declared.Settings.{Settings}
use Rattle.job_file.specs.File.{pair_bytes}

-- "signed": a number in two's complement, of which half the bit patterns are below zero. One that they cannot hold is
-- held as the nearest that they can
-- DECISIONS: settings-signed, writing-nearest
unfoldable pub signed_bits : (half : ℕ) → ℤ → ℕ
signed_bits half (pos n) = when ltb n half then n else half - 1
signed_bits half (negsuc n) = when ltb n half then 2 * half - suc n else half

-- "0 PCA …; 1 step …; 2 ITP …; 3 RPP …; 4 radio link sets N …; 5 βc …; 6 βd …; 7 DPDCH count n …; 8 allowed maximum in
-- dBm, signed …; 9 zero; 10-11 start DPCCH power, signed …"
unfoldable pub settings_bytes_of : Settings → Triple → List ℕ
settings_bytes_of s t =
    s.pca ∷ s.step ∷ s.itp ∷ s.rpp ∷ s.links ∷ t.betac ∷ t.betad ∷ t.channels ∷
    signed_bits 128 s.maximum ∷ 0 ∷ pair_bytes (signed_bits 32768 s.start)

-- "0 id …; 1 direction …; 2 TGSN …; 3 TGL1 …; 4 TGL2 …; 5 TGPL …; 6-7 TGPRC …; 8-9 TGD …; 10-11 start frame"
unfoldable pub record_bytes_of : Sequence → List ℕ
record_bytes_of q =
    q.id ∷ q.direction ∷ q.tgsn ∷ q.tgl1 ∷ q.tgl2 ∷ q.tgpl ∷
    pair_bytes q.tgprc ++ pair_bytes q.tgd ++ pair_bytes q.start

-- ---- what the bytes hold as it is

-- a number from −half up to half − 1
pub record Held (half : ℕ) (z : ℤ) : Type 0 where
  pub low : pos 0 ≤ℤ (z +ℤ pos half)
  pub high : z <ℤ pos half

-- a maximum of one byte and a start power of two
pub record SettingsHeld (s : Settings) : Type 0 where
  pub maximum : Held 128 s.maximum
  pub start : Held 32768 s.start

-- three numbers of two bytes
pub record RecordHeld (q : Sequence) : Type 0 where
  pub tgprc : q.tgprc < 65536
  pub tgd : q.tgd < 65536
  pub start : q.start < 65536

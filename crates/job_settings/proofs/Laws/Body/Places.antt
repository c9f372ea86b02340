-- At which byte settings are refused: each rule broken once, and the first of two.
-- Assumes nothing.
use Rattle.std.specs.Prelude.{ℕ, ◌≡◌, refl, ℤ, pos, negsuc, Option, Some, None}
use Rattle.power.specs.Gain.{triple}
use Rattle.power.specs.Triples.{triple_fault}
use Rattle.job_settings.specs.declared.Settings.{Settings}
use Rattle.job_settings.specs.Settings.{rule_fault, power_fault}
use Rattle.job_settings.specs.Body.{settings_fault}

abbrev settings : (pca step itp rpp links : ℕ) (maximum start : ℤ) → Settings
settings pca step itp rpp links maximum start =
    record { pca = pca; step = step; itp = itp; rpp = rpp; links = links; maximum = maximum; start = start }

abbrev fault : (pca step itp rpp links betac betad channels : ℕ) (maximum start : ℤ) → Option ℕ
fault pca step itp rpp links betac betad channels maximum start =
    settings_fault (settings pca step itp rpp links maximum start) (triple betac betad channels) 0

-- settings at both ends of their ranges, and each rule broken
record Places : Type 0 where
  least : fault 1 1 0 0 1 1 15 1 (negsuc 49) (negsuc 9599) ≡ None
  most : fault 1 2 1 1 6 15 15 6 (pos 33) (pos 2112) ≡ None
  pca : (fault 0 1 0 0 1 15 15 1 (pos 24) (pos 0) ≡ Some 0) × (fault 3 1 0 0 1 15 15 1 (pos 24) (pos 0) ≡ Some 0)
  step : (fault 1 0 0 0 1 15 15 1 (pos 24) (pos 0) ≡ Some 1) × (fault 1 3 0 0 1 15 15 1 (pos 24) (pos 0) ≡ Some 1)
  -- "step against PCA at 1"
  step_against_pca : (fault 2 1 0 0 1 15 15 1 (pos 24) (pos 0) ≡ None) × (fault 2 2 0 0 1 15 15 1 (pos 24) (pos 0) ≡ Some 1)
  itp : fault 1 1 2 0 1 15 15 1 (pos 24) (pos 0) ≡ Some 2
  rpp : fault 1 1 0 2 1 15 15 1 (pos 24) (pos 0) ≡ Some 3
  links : (fault 1 1 0 0 0 15 15 1 (pos 24) (pos 0) ≡ Some 4) × (fault 1 1 0 0 7 15 15 1 (pos 24) (pos 0) ≡ Some 4)
  betac : (fault 1 1 0 0 1 0 15 1 (pos 24) (pos 0) ≡ Some 5) × (fault 1 1 0 0 1 16 15 1 (pos 24) (pos 0) ≡ Some 5)
  betad : fault 1 1 0 0 1 15 16 1 (pos 24) (pos 0) ≡ Some 6
  -- "no β of 15 at 6"
  no_fifteen : (fault 1 1 0 0 1 14 14 1 (pos 24) (pos 0) ≡ Some 6) × (fault 1 1 0 0 1 15 0 1 (pos 24) (pos 0) ≡ None)
  channels : (fault 1 1 0 0 1 15 15 0 (pos 24) (pos 0) ≡ Some 7) × (fault 1 1 0 0 1 15 15 7 (pos 24) (pos 0) ≡ Some 7)
  maximum : (fault 1 1 0 0 1 15 15 1 (negsuc 50) (pos 0) ≡ Some 8) × (fault 1 1 0 0 1 15 15 1 (pos 34) (pos 0) ≡ Some 8)
  -- "9 zero"
  zero : settings_fault (settings 1 1 0 0 1 (pos 24) (pos 2113)) (triple 15 15 1) 1 ≡ Some 9
  -- "start power at 10"
  start : (fault 1 1 0 0 1 15 15 1 (pos 24) (negsuc 9600) ≡ Some 10) × (fault 1 1 0 0 1 15 15 1 (pos 24) (pos 2113) ≡ Some 10)
  -- "settings bytes … in file order": the first of two, within each group and from group to group
  first : (fault 3 3 2 2 0 0 14 0 (pos 34) (pos 2113) ≡ Some 0) × (fault 2 2 2 2 0 0 14 0 (pos 34) (pos 2113) ≡ Some 1)
  next : (fault 1 1 2 2 0 0 14 0 (pos 34) (pos 2113) ≡ Some 2) × (fault 1 1 0 2 0 0 14 0 (pos 34) (pos 2113) ≡ Some 3)
  then_radio : (fault 1 1 0 0 0 0 14 0 (pos 34) (pos 2113) ≡ Some 4) × (fault 1 1 0 0 1 0 14 0 (pos 34) (pos 2113) ≡ Some 5)
  then_powers : (fault 1 1 0 0 1 14 14 0 (pos 34) (pos 2113) ≡ Some 6) × (fault 1 1 0 0 1 15 14 0 (pos 34) (pos 2113) ≡ Some 7)
  last : (fault 1 1 0 0 1 15 14 1 (pos 34) (pos 2113) ≡ Some 8) × (fault 1 1 0 0 1 15 14 1 (pos 33) (pos 2113) ≡ Some 10)

places : Places
unfolding rule_fault triple_fault power_fault settings_fault
places =
    record {
      least = refl;
      most = refl;
      pca = (refl, refl);
      step = (refl, refl);
      step_against_pca = (refl, refl);
      itp = refl;
      rpp = refl;
      links = (refl, refl);
      betac = (refl, refl);
      betad = refl;
      no_fifteen = (refl, refl);
      channels = (refl, refl);
      maximum = (refl, refl);
      zero = refl;
      start = (refl, refl);
      first = (refl, refl);
      next = (refl, refl);
      then_radio = (refl, refl);
      then_powers = (refl, refl);
      last = (refl, refl);
    }

-- Numbers that fit their ranges, as facts, and what private functions make of numbers.
-- Definitions beside the rules, which need not be believed.
use Rattle.std.specs.Prelude.{◌≡◌, Bool, true, List, [], ◌∷◌, ℤ, length, Some, None, Option}
use Rattle.ground.specs.Choice.{when◌then◌else◌}
use Rattle.exports_state.specs.Packed.{Range, fits_range, part, state_numbers}
use Rattle.exports_state.specs.Packed.{version_ranges, accounts_ranges, run_ranges, opening_ranges, set_ranges}
use Rattle.exports_state.specs.Packed.{filter_ranges}
use Rattle.exports_state.specs.Packed.{accounts_place, run_place, opening_place, set_place, filter_place}

-- as many numbers as ranges, and each in its own
pub data Fits : List Range → List ℤ → Type 0 where
  none : Fits [] []
  one : {r : Range} {rs : List Range} (n : ℤ) {ns : List ℤ} → fits_range r n ≡ true → Fits rs ns → Fits (r ∷ rs) (n ∷ ns)

-- what holds of every part and its ranges
pub record Parts (P : List Range → List ℤ → Type 0) (ns : List ℤ) : Type 0 where
  pub long : length ns ≡ state_numbers
  pub version : P version_ranges (part 0 accounts_place ns)
  pub accounts : P accounts_ranges (part accounts_place run_place ns)
  pub run : P run_ranges (part run_place opening_place ns)
  pub opening : P opening_ranges (part opening_place set_place ns)
  pub set : P set_ranges (part set_place filter_place ns)
  pub filter : P filter_ranges (part filter_place state_numbers ns)

-- a value where a test holds, and nothing where it does not
abbrev pub some_if : {A : Type 0} → Bool → A → Option A
some_if b x = when b then Some x else None

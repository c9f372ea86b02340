-- The levels that the page names, from the rule.
-- Assumes nothing.
use Rattle.std.specs.Prelude.{◌≡◌, refl}
use Rattle.levels.specs.Level.{ranged, is_level, level}
use Rattle.levels.proofs.Laws.Level.{level_at}

-- "L(1) = 0, L(2) = 193, L(10) = 640, L(1,575) = 2,046"
named : (level 1 ≡ 0) × (level 2 ≡ 193) × (level 10 ≡ 640) × (level 1575 ≡ 2046)
unfolding ranged is_level
named = (level_at 1 0 refl refl, level_at 2 193 refl refl, level_at 10 640 refl refl, level_at 1575 2046 refl refl)

-- "L(3) to L(8) = 305, 385, 447, 498, 541, 578"
pilots : (level 3 ≡ 305) × (level 4 ≡ 385) × (level 5 ≡ 447) × (level 6 ≡ 498) × (level 7 ≡ 541) × (level 8 ≡ 578)
unfolding ranged is_level
pilots =
    (level_at 3 305 refl refl, level_at 4 385 refl refl, level_at 5 447 refl refl, level_at 6 498 refl refl, level_at 7 541 refl refl, level_at 8 578 refl refl)

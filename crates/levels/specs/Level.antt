-- The level table: L(x), 640 times the decimal logarithm of x, to the nearest whole number. The rule, and no table.
-- RULES: levels
-- Definitions, to be believed.
use Rattle.std.specs.Prelude.{ℕ, zero, suc, ◌+◌, ◌*◌, ◌^◌, ◌≤◌, ◌<◌, Bool, ◌&&◌, leb, ltb}
use Rattle.ground.specs.Choice.{when◌then◌else◌}

-- "L(x), for x from 1 to 1,575"
pub record Ranged (x : ℕ) : Type 0 where
  pub least : 1 ≤ x
  pub most : x ≤ 1575

-- "the whole number with 10^(2·L) ≤ 10·x^1280 and x^1280 < 10^(2·L+1)"
pub record IsLevel (x r : ℕ) : Type 0 where
  pub low : 10 ^ (2 * r) ≤ 10 * x ^ 1280
  pub high : x ^ 1280 < 10 ^ (2 * r + 1)

-- the same two sentences as tests
unfoldable pub ranged : ℕ → Bool
ranged x = leb 1 x && leb x 1575

unfoldable pub is_level : ℕ → ℕ → Bool
is_level x r = leb (10 ^ (2 * r)) (10 * x ^ 1280) && ltb (x ^ 1280) (10 ^ (2 * r + 1))

-- the number from 0 to n that passes the test, looked for from n down, and 0 where none does
unfoldable pub found : ℕ → ℕ → ℕ
found x zero = 0
found x (suc n) = when is_level x (suc n) then suc n else found x n

-- L(x). The highest is 2,046, so none is missed; a number outside 1 to 1,575 has the level 0
-- DECISIONS: levels-by-search, levels-outside
unfoldable pub level : ℕ → ℕ
level x = when ranged x then found x 2046 else 0

-- "for a ≥ b and d = L(a) − L(b), 10^d·b^640 < 10·a^640 and a^640 < 10^(d+1)·b^640"
pub record IsApart (a b d : ℕ) : Type 0 where
  pub low : 10 ^ d * b ^ 640 < 10 * a ^ 640
  pub high : a ^ 640 < 10 ^ (d + 1) * b ^ 640

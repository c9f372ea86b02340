-- A set of the numbers from 1 to some other as one number: "sums of 2^(id−1)".
-- Definitions, to be believed.
use Rattle.std.specs.Prelude.{ℕ, zero, suc, ◌+◌, ◌/◌, ◌%◌, ◌^◌, Bool, false, eqb}
use Rattle.ground.specs.Choice.{when◌then◌else◌}

-- the sum of 2^(k − 1) over those k of 1 to n that pass a test
unfoldable pub sum_of : (ℕ → Bool) → (n : ℕ) → ℕ
sum_of test zero = 0
sum_of test (suc n) = sum_of test n + (when test (suc n) then 2 ^ n else 0)

-- whether k is in the set that a number stands for: bit k − 1 is 1
unfoldable pub is_in : (set k : ℕ) → Bool
is_in set zero = false
is_in set (suc j) = eqb (set / 2 ^ j % 2) 1

-- Tests as the bits of a number.
-- Definitions, to be believed.
use Rattle.std.specs.Prelude.{ℕ, zero, suc, ◌+◌, ◌*◌, Bool, true, false}

-- a test as a bit
abbrev pub bit : Bool → ℕ
bit true = 1
bit false = 0

-- the tests of 0 to n - 1 as the bits of a number, that of 0 in the lowest
unfoldable pub packed : (ℕ → Bool) → ℕ → ℕ
packed f zero = 0
packed f (suc n) = bit (f 0) + 2 * packed (λ j. f (suc j)) n

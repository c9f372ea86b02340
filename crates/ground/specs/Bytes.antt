-- "Numbers are little-endian.": two bytes, and those at a place of a list.
-- RULES: file
-- Definitions, to be believed.
use Rattle.std.specs.Prelude.{ℕ, ◌+◌, ◌*◌, List, get_or}

abbrev pub pair_of : (low high : ℕ) → ℕ
pair_of low high = low + 256 * high

abbrev pub pair_at : List ℕ → (at : ℕ) → ℕ
pair_at s at = pair_of (get_or s at 0) (get_or s (at + 1) 0)

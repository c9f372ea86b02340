-- A natural number outside its range, as rules that refuse it say it: as a test, and as a fact.
-- Definitions, to be believed.
use Rattle.std.specs.Prelude.{ℕ, ◌≤◌, Bool, ◌||◌, ltb}

abbrev pub outside : (least most x : ℕ) → Bool
outside least most x = ltb x least || ltb most x

abbrev pub Outside : (least most x : ℕ) → Type 0
Outside least most x = (least ≤ x) × (x ≤ most) → ⊥

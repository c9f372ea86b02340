-- A table's rule, proved at all of its entries by one test that the checker computes, one entry after the other.
-- Assumes nothing.
use Rattle.std.specs.Prelude.{◌≡◌, Bool, true, List, [], ◌∷◌, ℕ, zero, suc, ◌+◌, ◌<◌, length, get_or}
use Rattle.std.proofs.Common.{add-zero, add-suc, suc-add, le_of_suc-le-suc, not-suc-le-zero}
use Rattle.ground.proofs.Laws.Choice.{both}
use Rattle.ground.specs.Tables.{every}

-- a test that holds over the whole table holds at every index
pub each : (test : ℕ → ℕ → Bool) (xs : List ℕ) (i : ℕ) → every test i xs ≡ true → (k : ℕ) → k < length xs →
    test (i + k) (get_or xs k 0) ≡ true
each test [] i e k h = absurd (not-suc-le-zero h)
each test (x ∷ xs) i e zero h = rw (add-zero i) (both (test i x) _ e).0
each test (x ∷ xs) i e (suc k) h = rw (add-suc i k, ← (suc-add i k))
    (each test xs (suc i) (both (test i x) _ e).1 k (le_of_suc-le-suc h))

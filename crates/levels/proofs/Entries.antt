-- That the entries of a table are the levels of their places: one test of each by its power inequality, which the checker computes over
-- the whole table, carried to every index.
-- Assumes nothing.
use mathlib.Core.Path.{◌≡◌, sym}
use mathlib.Core.Bool.{Bool, true, ◌&&◌}
use mathlib.Core.List.{List}
use Prim.Native.Nat.{ℕ, ◌+◌, ◌-◌, ◌*◌, ◌^◌}
use native.Mathlib.Nat.{pow-succ'}
use native.Mathlib.Numerals.{add-one}
use native.Mathlib.Omega.{arith}
use borrow.Author.Tests.{leb-true, ltb-true}
use lib.Dec.{leb, ltb}
use lib.ListN.{length, get_or}
use Rattle.ground.proofs.Laws.Choice.{both}
use Rattle.ground.proofs.Laws.Tables.{each}
use Rattle.ground.specs.Tables.{every}
use Rattle.levels.specs.Level.{Ranged, IsLevel, level}
use Rattle.levels.proofs.Laws.Level.{level_unique}

-- the rule as a test of two powers, x^1280 and 10^(2·r), handed over so that each is computed once
unfoldable pub between : ℕ → ℕ → Bool
between p q = leb q (10 * p) && ltb p (10 * q)

unfoldable pub right : ℕ → ℕ → Bool
right x r = between (x ^ 1280) (10 ^ (2 * r))

is_level_lem : {x r : ℕ} → right x r ≡ true → IsLevel x r
unfolding right between
is_level_lem {x} {r} e =
    let t = both (leb (10 ^ (2 * r)) (10 * x ^ 1280)) _ e in
    record { low = leb-true _ _ t.0; high = rw (add-one, pow-succ' 10 (2 * r)) (ltb-true _ _ t.1) }

-- a table of 1,575 entries that all pass is the table of levels
pub entries : (table : List ℕ) → every right 1 table ≡ true → length table ≡ 1575 → (x : ℕ) → Ranged x → get_or table (x - 1) 0 ≡ level x
entries table passed long x h =
    let e : 1 + (x - 1) ≡ x = omega (arith, h.least) in
    sym (level_unique h (is_level_lem (rw e at (each right table 1 passed (x - 1) (omega (arith, h.least, h.most, long))))))

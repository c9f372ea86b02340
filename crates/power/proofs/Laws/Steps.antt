-- The laws of the steps and the pilot change: how large they are, and that a pilot change leaves no remainder behind.
-- Assumes nothing.
use Rattle.std.specs.Prelude.{ℕ, ◌%◌, ◌≤◌, ◌≡◌, refl, eqb, ℤ, pos, nat_abs, ◌+ℤ◌, ◌-ℤ◌, ◌*ℤ◌}
use Rattle.std.proofs.Common.{mul-le-mul, arith}
use Rattle.ground.proofs.Laws.Choice.{either}
use Rattle.ground.proofs.Laws.Integers.Parts.{sum, dif}
use Rattle.ground.proofs.Laws.Integers.Signs.{signs}
use Rattle.ground.proofs.Laws.Integers.Products.{abs_mul, abs_out, abs_sum}
use Rattle.constants.specs.Sizes.{pilots_least, pilots_most}
use Rattle.levels.specs.Level.{Ranged, ranged, is_level, level}
use Rattle.levels.proofs.Laws.Level.{level_at, level_mono, level_difference}
use Rattle.power.specs.Steps.{step_units, recovery_step_of, pilot_change_of, step_change_of}

-- ---- the steps

-- a step is at most 128
pub step_most : (decibels : ℕ) → step_units decibels ≤ 128
unfolding step_units
step_most decibels = either (λ (n : ℕ). n ≤ 128) (eqb decibels 2) (λ e. omega arith) (λ e. omega arith)

-- and a whole number of decibels
pub step_whole : (decibels : ℕ) → step_units decibels % 64 ≡ 0
unfolding step_units
step_whole decibels = either (λ (n : ℕ). n % 64 ≡ 0) (eqb decibels 2) (λ e. refl) (λ e. refl)

-- a recovery step is at most 192, for any step
pub recovery_most : (pca step : ℕ) → recovery_step_of pca step ≤ 192
unfolding recovery_step_of
recovery_most pca step = either (λ (n : ℕ). n ≤ 192) (eqb pca 2) (λ e. omega arith) (λ e. omega arith)

-- ---- the pilot change

-- "subtracting levels": one change after another is the change from the first to the last, so that the pilots cannot drift
pub pilots_add : (a b c : ℕ) → pilot_change_of a b +ℤ pilot_change_of b c ≡ pilot_change_of a c
unfolding pilot_change_of
pilots_add a b c =
    let l = pos (level a) in
    let m = pos (level b) in
    let n = pos (level c) in
    omega (signs, dif l m, dif m n, dif l n, sum (l -ℤ m) (m -ℤ n))

-- the same pilots change nothing
pub pilots_same : (a : ℕ) → pilot_change_of a a ≡ pos 0
unfolding pilot_change_of
pilots_same a = omega (signs, dif (pos (level a)) (pos (level a)))

-- for any two numbers of pilot bits it is at most 2,046 in size
pub pilots_any : (a b : ℕ) → nat_abs (pilot_change_of a b) ≤ 2046
unfolding pilot_change_of
pilots_any a b = level_difference a b

-- the level of the pilot bits that a sent slot can have
pilot_level : {a : ℕ} → pilots_least ≤ a → a ≤ pilots_most → (305 ≤ level a) × (level a ≤ 578)
unfolding ranged is_level
pilot_level {a} h k =
    let r : Ranged a = record { least = omega arith; most = omega arith } in
    let low = level_mono r (record { least = omega arith; most = omega arith }) h in
    let high = level_mono (record { least = omega arith; most = omega arith }) r k in
    omega (arith, low, high, level_at 3 305 refl refl, level_at 8 578 refl refl)

-- so that a change from one sent slot to another is at most L(8) − L(3), 273
pub pilots_most_lem : {a b : ℕ} → pilots_least ≤ a → a ≤ pilots_most → pilots_least ≤ b → b ≤ pilots_most → nat_abs (pilot_change_of a b) ≤ 273
unfolding pilot_change_of
pilots_most_lem {a} {b} h k l m =
    let z = pos (level a) -ℤ pos (level b) in
    let d = dif (pos (level a)) (pos (level b)) in
    let p = pilot_level h k in
    let q = pilot_level l m in
    abs_out z (omega (arith, d)) (omega (arith, d))

-- and a change by a command and a step at most 192 + 273
pub step_change_most : (command : ℤ) {step before now : ℕ} → nat_abs command ≤ 1 → step ≤ 192 →
    pilots_least ≤ before → before ≤ pilots_most → pilots_least ≤ now → now ≤ pilots_most →
    nat_abs (step_change_of command step before now) ≤ 465
unfolding step_change_of
step_change_most command {step} {before} {now} c s h k l m =
    abs_sum (command *ℤ pos step) (pilot_change_of before now) {d = 192} (rw (abs_mul command (pos step)) (mul-le-mul c s)) (pilots_most_lem h k l m)

-- both are reached
most_reached : (pilot_change_of 8 3 ≡ pos 273) × (step_change_of (pos 1) 192 8 3 ≡ pos 465)
unfolding pilot_change_of step_change_of ranged is_level
most_reached = (rw (level_at 8 578 refl refl, level_at 3 305 refl refl), rw (level_at 8 578 refl refl, level_at 3 305 refl refl))

-- Chains of tests that name the byte of the first fault of twelve, or 12 where there is none: which byte they name.
-- `Faults` says the same of chains that name a byte or none.
-- Assumes nothing.
use Rattle.std.specs.Prelude.{ℕ, ◌≤◌, ◌<◌, ◌≡◌, refl, Bool, true, false, not, eqb}
use Rattle.std.proofs.Common.{le_trans, arith, eqb-true, ne_eqb}
use Rattle.std.proofs.lemmas.Bool.{eqb-false}
use Rattle.ground.specs.Choice.{when◌then◌else◌}
use Rattle.ground.proofs.Laws.Choice.{clash, either}

-- ---- none named

-- a byte is not 12
pub byte : (n : ℕ) → n < 12 → n ≡ 12 → ⊥
byte n h e = omega arith

-- no fault found first and then none
pub no_fault : (w g : ℕ) → (when not (eqb w 12) then w else g) ≡ 12 → (w ≡ 12) × (g ≡ 12)
no_fault w g e = by (eqb w 12) refl e
  where
    by : (t : Bool) → eqb w 12 ≡ t → (when not t then w else g) ≡ 12 → (w ≡ 12) × (g ≡ 12)
    by true p h = (eqb-true w 12 p, h)
    by false p h = absurd (eqb-false w 12 p h)

-- ---- none before it

-- a test at a byte that is not too far, and what follows it
pub skip : (b : Bool) {x y n : ℕ} → x ≤ n → y ≤ n → (when b then x else y) ≤ n
skip b {n} h k = either (λ (m : ℕ). m ≤ n) b (λ _. h) (λ _. k)

-- and one that is met
pub hit : {b : Bool} {x n : ℕ} (y : ℕ) → b ≡ true → x ≤ n → (when b then x else y) ≤ n
hit {b} {n} y e h = either (λ (m : ℕ). m ≤ n) b (λ _. h) (λ f. absurd (clash e f))

-- a part of the chain that names a byte ends it
pub named : (w rest : ℕ) {n : ℕ} → w ≤ n → n < 12 → (when not (eqb w 12) then w else rest) ≤ n
named w rest h k = hit {b = not (eqb w 12)} rest (rw (ne_eqb w 12 (omega arith))) h

-- which bytes a part names, if any
pub record UpTo (n w : ℕ) : Type 0 where
  pub up : (w ≡ 12 → ⊥) → w ≤ n

pub either_up : (b : Bool) {x y n : ℕ} → x ≤ n → UpTo n y → UpTo n (when b then x else y)
either_up b {n} h k = either (UpTo n) b (λ _. record { up = λ _. h }) (λ _. k)

pub none_up : {n : ℕ} → UpTo n 12
none_up = record { up = λ f. absurd (f refl) }

-- so that it leads on to a later byte
pub past : (w rest : ℕ) {n m : ℕ} → UpTo n w → n ≤ m → rest ≤ m → (when not (eqb w 12) then w else rest) ≤ m
past w rest {m} u h k = either (λ (x : ℕ). x ≤ m) (not (eqb w 12)) (λ e. le_trans (u.up (λ p. clash e (rw p))) h)
    (λ _. k)

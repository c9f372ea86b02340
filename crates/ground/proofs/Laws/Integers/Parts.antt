-- The laws of an integer as its positive part less its negative part. What is linear over the integers is then linear
-- over the parts, and `omega` proves it: each sum, difference, negation and product by a literal that the goal and the
-- facts have is handed over as one entry, `omega (signs, sum a b, dif c d, mul 64 m)`.
-- Assumes nothing.
use Rattle.std.specs.Prelude.{ℕ, zero, suc, ◌+◌, ◌-◌, ◌*◌, ◌≤◌, ◌<◌, ◌≡◌, Bool, true, false, not, cond, T, ltb, ℤ, pos, negsuc, neg_ℤ, ◌+ℤ◌, ◌-ℤ◌, ◌*ℤ◌}
use Rattle.std.proofs.Common.{arith, ltb→lt, nltb→le}
use Rattle.std.proofs.Math.IntN.{sub_ℕ, *ℤ_comm}
use Rattle.ground.specs.Integers.{pz, nz}

-- two naturals' difference, the step by which a sum of a positive and a negative number computes
difference : (a b : ℕ) → pz (sub_ℕ a b) + b ≡ nz (sub_ℕ a b) + a
difference a b = by (ltb a b) (ltb→lt a b) (nltb→le a b)
  where
    by : (t : Bool) → (T t → a < b) → (T (not t) → b ≤ a) →
        pz (cond t (negsuc (b - suc a)) (pos (a - b))) + b ≡ nz (cond t (negsuc (b - suc a)) (pos (a - b))) + a
    by true f g = let h = f tt in omega arith
    by false f g = let h = g tt in omega arith

-- a sum
pub sum : (a b : ℤ) → pz (a +ℤ b) + (nz a + nz b) ≡ nz (a +ℤ b) + (pz a + pz b)
sum (pos a) (pos b) = omega arith
sum (pos a) (negsuc b) = omega (arith, difference a (suc b))
sum (negsuc a) (pos b) = omega (arith, difference b (suc a))
sum (negsuc a) (negsuc b) = omega arith

-- a negation
pub neg : (a : ℤ) → pz (neg_ℤ a) + pz a ≡ nz (neg_ℤ a) + nz a
neg (pos zero) = omega arith
neg (pos (suc a)) = omega arith
neg (negsuc a) = omega arith

-- a difference
pub dif : (a b : ℤ) → pz (a -ℤ b) + (nz a + pz b) ≡ nz (a -ℤ b) + (pz a + nz b)
dif a b = omega (arith, sum a (neg_ℤ b), neg b)

-- a product by a natural, linear where that is a literal
pub mul : (k : ℕ) (a : ℤ) → pz (pos k *ℤ a) + k * nz a ≡ nz (pos k *ℤ a) + k * pz a
mul k (pos a) = omega arith
mul k (negsuc a) = omega (arith, neg (pos (k * suc a)))

-- a product by a negative number
pub mul_neg : (k : ℕ) (a : ℤ) → pz (negsuc k *ℤ a) + suc k * pz a ≡ nz (negsuc k *ℤ a) + suc k * nz a
mul_neg k (pos a) = omega (arith, neg (pos (suc k * a)))
mul_neg k (negsuc a) = omega arith

-- the literal on the right
pub mul_r : (a : ℤ) (k : ℕ) → pz (a *ℤ pos k) + k * nz a ≡ nz (a *ℤ pos k) + k * pz a
mul_r a k = rw (*ℤ_comm a (pos k)) (mul k a)

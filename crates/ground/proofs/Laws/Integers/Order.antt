-- The order, equality and the tests of integers over their parts, both ways: what is known is read in, and what is to
-- be shown is read out.
-- Assumes nothing.
use Rattle.std.specs.Prelude.{◌+◌, ◌≤◌, ◌<◌, ◌≡◌, refl, Bool, true, false, not, T, ℤ, pos, negsuc, ◌≤ℤ◌, ◌<ℤ◌}
use Rattle.std.proofs.Common.{sym, ap, subst, arith, leb→le, ltb→lt, lt→ltb, le→leb}
use Rattle.std.proofs.Math.Dec.{nleb→lt}
use Rattle.std.specs.Int.Signed.{lt_z, le_z, lt_z_yes, le_z_yes, lt_z_no}
use Rattle.ground.specs.Integers.{pz, nz}

-- at most, read in
pub le_in : {a b : ℤ} → a ≤ℤ b → pz a + nz b ≤ pz b + nz a
le_in {a = pos a} {b = pos b} h = omega (arith, leb→le a b h.le)
le_in {a = pos a} {b = negsuc b} h = absurd h.le
le_in {a = negsuc a} {b = pos b} h = omega arith
le_in {a = negsuc a} {b = negsuc b} h = omega (arith, leb→le b a h.le)

-- below, read in
pub lt_in : {a b : ℤ} → a <ℤ b → pz a + nz b < pz b + nz a
lt_in {a = pos a} {b = pos b} h = omega (arith, ltb→lt a b h.lt)
lt_in {a = pos a} {b = negsuc b} h = absurd h.lt
lt_in {a = negsuc a} {b = pos b} h = omega arith
lt_in {a = negsuc a} {b = negsuc b} h = omega (arith, ltb→lt b a h.lt)

-- equal, read in
pub eq_in : {a b : ℤ} → a ≡ b → pz a + nz b ≡ pz b + nz a
eq_in {a} {b} e = subst (λ (z : ℤ). pz a + nz z ≡ pz z + nz a) e refl

-- at most, read out
pub le_out : {a b : ℤ} → pz a + nz b ≤ pz b + nz a → a ≤ℤ b
le_out {a = pos a} {b = pos b} h = record { le = le→leb a b (omega arith) }
le_out {a = pos a} {b = negsuc b} h = let z : ⊥ = omega arith in absurd z
le_out {a = negsuc a} {b = pos b} h = record { le = tt }
le_out {a = negsuc a} {b = negsuc b} h = record { le = le→leb b a (omega arith) }

-- below, read out
pub lt_out : {a b : ℤ} → pz a + nz b < pz b + nz a → a <ℤ b
lt_out {a = pos a} {b = pos b} h = record { lt = lt→ltb a b (omega arith) }
lt_out {a = pos a} {b = negsuc b} h = let z : ⊥ = omega arith in absurd z
lt_out {a = negsuc a} {b = pos b} h = record { lt = tt }
lt_out {a = negsuc a} {b = negsuc b} h = record { lt = lt→ltb b a (omega arith) }

-- equal, read out
pub eq_out : {a b : ℤ} → pz a + nz b ≡ pz b + nz a → a ≡ b
eq_out {a = pos a} {b = pos b} h = let e : a ≡ b = omega arith in ap pos e
eq_out {a = pos a} {b = negsuc b} h = let z : ⊥ = omega arith in absurd z
eq_out {a = negsuc a} {b = pos b} h = let z : ⊥ = omega arith in absurd z
eq_out {a = negsuc a} {b = negsuc b} h = let e : a ≡ b = omega arith in ap negsuc e

-- two that differ, read in. No rule of `signs`: it is listed with its argument, `omega (signs, ne-in h)`
pub ne_in : {a b : ℤ} → (a ≡ b → ⊥) → pz a + nz b ≡ pz b + nz a → ⊥
ne_in {a} {b} f e = f (eq_out {a = a} {b = b} e)

-- ---- the tests, as a branch on two signed numbers leaves them and as a rule has them

is_true : {b : Bool} → b ≡ true → T b
is_true e = subst T (sym e) tt

is_false : {b : Bool} → b ≡ false → T (not b)
is_false e = subst (λ (t : Bool). T (not t)) (sym e) tt

true_is : {b : Bool} → T b → b ≡ true
true_is {b = true} t = refl
true_is {b = false} t = absurd t

false_is : {b : Bool} → (T b → ⊥) → b ≡ false
false_is {b = true} t = absurd (t tt)
false_is {b = false} t = refl

-- the test for below holds, read in
pub lt_z_true : (a b : ℤ) → lt_z a b ≡ true → pz a + nz b < pz b + nz a
lt_z_true a b e = lt_in {a = a} {b = b} (lt_z_yes (is_true e))

-- it does not
pub lt_z_false : (a b : ℤ) → lt_z a b ≡ false → pz b + nz a ≤ pz a + nz b
lt_z_false a b e = le_in {a = b} {b = a} (lt_z_no (is_false e))

-- the test for at most holds, read in
pub le_z_true : (a b : ℤ) → le_z a b ≡ true → pz a + nz b ≤ pz b + nz a
le_z_true a b e = le_in {a = a} {b = b} (le_z_yes (is_true e))

-- it does not
pub le_z_false : (a b : ℤ) → le_z a b ≡ false → pz b + nz a < pz a + nz b
le_z_false (pos a) (pos b) e = omega (arith, nleb→lt a b (is_false e))
le_z_false (pos a) (negsuc b) e = omega arith
le_z_false (negsuc a) (pos b) e = absurd (is_false e)
le_z_false (negsuc a) (negsuc b) e = omega (arith, nleb→lt b a (is_false e))

-- the test for below holds, read out
pub lt_lt_z : (a b : ℤ) → pz a + nz b < pz b + nz a → lt_z a b ≡ true
lt_lt_z a b h = true_is (lt_out {a = a} {b = b} h).lt

-- the test for at most holds, read out
pub le_le_z : (a b : ℤ) → pz a + nz b ≤ pz b + nz a → le_z a b ≡ true
le_le_z a b h = true_is (le_out {a = a} {b = b} h).le

-- the test for below does not hold, read out
pub le_lt_z : (a b : ℤ) → pz b + nz a ≤ pz a + nz b → lt_z a b ≡ false
le_lt_z a b h = false_is (λ t. let k = lt_in {a = a} {b = b} (lt_z_yes t) in omega arith)

-- the test for at most does not hold, read out
pub lt_le_z : (a b : ℤ) → pz b + nz a < pz a + nz b → le_z a b ≡ false
lt_le_z a b h = false_is (λ t. let k = le_in {a = a} {b = b} (le_z_yes t) in omega arith)

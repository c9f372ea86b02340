-- Products of integers and their sizes: the laws of a ring that bounds on a recursion need, and what `omega` reads of a
-- size.
-- Assumes nothing.
use Rattle.std.specs.Prelude.{ℕ, zero, suc, ◌+◌, ◌-◌, ◌*◌, ◌^◌, ◌≤◌, ◌<◌, ◌≡◌, refl, ℤ, pos, negsuc, neg_ℤ, nat_abs, ◌+ℤ◌, ◌-ℤ◌, ◌*ℤ◌}
use Rattle.std.proofs.Common.{sym, ap, ◌∙◌, lt_of_le_of_lt, mul-add, mul_assoc, mul_comm, mul-le-mul, arith, lit≤, lit<}
use Rattle.std.specs.Int.Signed.{nat_abs-le}
use Rattle.std.specs.Int.{Width, w8, w32}
use mir.Val.{SFits, hbits, to_z, of_z}
use Rattle.std.proofs.lemmas.Int.{to_z_pos}
use Rattle.ground.specs.Integers.{pz, nz}
use Rattle.ground.proofs.Laws.Integers.Parts.{sum, dif, mul}
use Rattle.ground.proofs.Laws.Integers.Order.{eq_in, eq_out}
use Rattle.ground.proofs.Laws.Integers.Fits.{fits_out, widened}

-- ---- sizes

-- a size that is bounded, read in
pub abs_in : (z : ℤ) {e : ℕ} → nat_abs z ≤ e → (pz z ≤ nz z + e) × (nz z ≤ pz z + e)
abs_in (pos n) h = omega arith
abs_in (negsuc n) h = omega arith

-- and read out
pub abs_out : (z : ℤ) {e : ℕ} → pz z ≤ nz z + e → nz z ≤ pz z + e → nat_abs z ≤ e
abs_out (pos n) h k = omega arith
abs_out (negsuc n) h k = omega arith

pub abs_neg : (z : ℤ) → nat_abs (neg_ℤ z) ≡ nat_abs z
abs_neg (pos zero) = refl
abs_neg (pos (suc n)) = refl
abs_neg (negsuc n) = refl

pub abs_mul : (a b : ℤ) → nat_abs (a *ℤ b) ≡ nat_abs a * nat_abs b
abs_mul (pos a) (pos b) = refl
abs_mul (pos a) (negsuc b) = abs_neg (pos (a * suc b))
abs_mul (negsuc a) (pos b) = abs_neg (pos (suc a * b))
abs_mul (negsuc a) (negsuc b) = refl

-- a sum is no larger than its parts together
pub abs_sum : (a b : ℤ) {d e : ℕ} → nat_abs a ≤ d → nat_abs b ≤ e → nat_abs (a +ℤ b) ≤ d + e
abs_sum a b h k =
    let i = abs_in a h in
    let j = abs_in b k in
    abs_out (a +ℤ b) (omega (arith, sum a b)) (omega (arith, sum a b))

-- two are one exactly when their difference has no size
pub abs_same : {a b : ℤ} → a ≡ b → nat_abs (a -ℤ b) ≤ 0
abs_same {a} {b} e = abs_out (a -ℤ b) (omega (arith, dif a b, eq_in e)) (omega (arith, dif a b, eq_in e))

pub same_abs : (a b : ℤ) → nat_abs (a -ℤ b) ≤ 0 → a ≡ b
same_abs a b h = let i = abs_in (a -ℤ b) h in eq_out (omega (arith, dif a b))

-- ---- that a product fits

-- a type with room for the product of two sizes has room for the product
pub mul_fits : (w : Width) (a b : ℤ) (m n : ℕ) → nat_abs a ≤ m → nat_abs b ≤ n → m * n < 2 ^ hbits w → SFits w (a *ℤ b)
mul_fits w a b m n h k l = fits_out (within (a *ℤ b) (lt_of_le_of_lt (rw (abs_mul a b) (mul-le-mul h k)) l))
  where
    within : (z : ℤ) {n : ℕ} → nat_abs z < n → (pz z - nz z) + (nz z - pz z) < n
    within (pos n) h = omega arith
    within (negsuc n) h = omega arith

-- a signed byte times a byte, in 32 bits: what the code's product is, and that it fits whatever the bytes are
pub times_byte : (a : ℤ) (n : ℕ) → SFits w8 a → n < 256 →
    to_z w32 (of_z w32 (to_z w8 (of_z w8 a))) *ℤ to_z w32 n ≡ a *ℤ pos n
times_byte a n h k = rw (to_z_pos w32 n (omega arith), widened w8 w32 (lit≤ tt) h)

pub times_byte_fits : (a : ℤ) (n : ℕ) → SFits w8 a → n < 256 → SFits w32 (a *ℤ pos n)
times_byte_fits a n h k = mul_fits w32 a (pos n) 128 255 (nat_abs-le a h.sfits) (omega arith) (lit< tt)

-- ---- a product by a natural number

pub one-mul : (a : ℤ) → pos 1 *ℤ a ≡ a
one-mul a = eq_out (omega (arith, mul 1 a))

pub mul_dif : (k : ℕ) (a b : ℤ) → pos k *ℤ (a -ℤ b) ≡ pos k *ℤ a -ℤ pos k *ℤ b
mul_dif k a b = eq_out (omega (
  arith,
  mul k (a -ℤ b),
  mul k a,
  mul k b,
  dif (pos k *ℤ a) (pos k *ℤ b),
  simp mul-add at (ap (λ (n : ℕ). k * n) (dif a b)),
))

pub mul_mul : (k l : ℕ) (a : ℤ) → pos k *ℤ (pos l *ℤ a) ≡ pos (k * l) *ℤ a
mul_mul k l a = eq_out (omega (
  arith,
  mul k (pos l *ℤ a),
  mul (k * l) a,
  mul_assoc k l (pz a),
  mul_assoc k l (nz a),
  simp mul-add at (ap (λ (n : ℕ). k * n) (mul l a)),
))

pub mul_swap : (k l : ℕ) (a : ℤ) → pos k *ℤ (pos l *ℤ a) ≡ pos l *ℤ (pos k *ℤ a)
mul_swap k l a = mul_mul k l a ∙ ap (λ (n : ℕ). pos n *ℤ a) (mul_comm k l) ∙ sym (mul_mul l k a)

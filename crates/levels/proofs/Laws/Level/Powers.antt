-- What the laws of the level use of powers: orders of exponents and roots, and that no square is ten times another.
-- Assumes nothing.
use Rattle.std.specs.Prelude.{ℕ, zero, suc, ◌+◌, ◌-◌, ◌*◌, ◌/◌, ◌^◌, ◌≤◌, ◌<◌, ◌≡◌}
use Rattle.std.proofs.Common.{sym, ap, ap₂, ◌∙◌, lt_of_not-le, not-le_of_lt, lt_of_lt_of_le, zero-lt-suc, pow-suc, mul_assoc, mul-le-mul, mul-le-mul_left, lt_of_mul-lt-mul_right, arith, pow-add}
use Rattle.std.proofs.Math.Nat.{one-le-pow, pow-zero, pow-le-pow_left, pow-le-pow_right, mul-mul-mul_comm}

pub ten_pos : (k : ℕ) → 0 < 10 ^ k
ten_pos k = one-le-pow k 10 (zero-lt-suc 9)

-- a larger power of ten has the larger exponent
pub exponent_lt : (i j : ℕ) → 10 ^ i < 10 ^ j → i < j
exponent_lt i j h = lt_of_not-le (λ l. not-le_of_lt h (pow-le-pow_right (zero-lt-suc 9) l))

-- a larger square has the larger root
pub root_lt : (m n : ℕ) → m * m < n * n → m < n
root_lt m n h = lt_of_not-le (λ l. not-le_of_lt h (mul-le-mul l l))

pub square : (x : ℕ) → x ^ 1280 ≡ x ^ 640 * x ^ 640
square x = pow-add x 640 640

pub scaled : (k x : ℕ) → (10 ^ k * x ^ 640) * (10 ^ k * x ^ 640) ≡ 10 ^ (k + k) * x ^ 1280
scaled k x =
    mul-mul-mul_comm (10 ^ k) (x ^ 640) (10 ^ k) (x ^ 640)
    ∙ ap₂ (λ (m n : ℕ). m * n) (sym (pow-add 10 k k)) (sym (square x))

-- an odd number's square is odd
odd_square : (q k : ℕ) → (2 * q + 1) * (2 * q + 1) ≡ 2 * k → ⊥
odd_square q k e = omega arith

-- so that the root of an even square is even
even_root : (m k : ℕ) → m * m ≡ 2 * k → m ≡ 2 * (m / 2)
even_root m k e =
    let g : m < 2 * (m / 2) + 1 =
    lt_of_not-le (λ l. let o : m ≡ 2 * (m / 2) + 1 = omega arith in odd_square (m / 2) k (ap₂ (λ (a b : ℕ). a * b) (sym o) (sym o) ∙ e)) in
    omega arith

-- no square is ten times another: both roots would be even, and so would their halves be, without end
pub no_tenfold : (bound m n : ℕ) → n ≤ bound → 0 < n → m * m ≡ 10 * (n * n) → ⊥
no_tenfold zero m n h p e = omega arith
no_tenfold (suc bound) m n h p e =
    let a = m / 2 in
    let b = n / 2 in
    let f : m ≡ 2 * a = even_root m (5 * (n * n)) (omega arith) in
    let s : m * m ≡ 4 * (a * a) = ap₂ (λ (x y : ℕ). x * y) f f ∙ twice a in
    let g : n ≡ 2 * b = even_root n (a * a - 2 * (n * n)) (omega arith) in
    let t : n * n ≡ 4 * (b * b) = ap₂ (λ (x y : ℕ). x * y) g g ∙ twice b in
    no_tenfold bound a b (omega arith) (omega arith) (omega arith)
  where
    twice : (x : ℕ) → (2 * x) * (2 * x) ≡ 4 * (x * x)
    twice x = omega arith

power_of_product : (k b n : ℕ) → (k * b) ^ n ≡ k ^ n * b ^ n
power_of_product k b zero = rw (pow-zero (k * b), pow-zero k, pow-zero b)
power_of_product k b (suc n) =
    pow-suc (k * b) n ∙ ap (λ (p : ℕ). p * (k * b)) (power_of_product k b n) ∙ mul-mul-mul_comm (k ^ n) (b ^ n) k b
    ∙ sym (rw (pow-suc k n, pow-suc b n))

-- a number at most k times another is apart from it by no more than k is from 1
pub times_most : (k d a b : ℕ) → a ≤ k * b → 10 ^ d * b ^ 640 < 10 * a ^ 640 → 10 ^ d < 10 * k ^ 640
times_most k d a b h l =
    let m : 10 * a ^ 640 ≤ 10 * (k * b) ^ 640 = mul-le-mul_left 10 (pow-le-pow_left h 640) in
    let e : 10 * (k * b) ^ 640 ≡ 10 * k ^ 640 * b ^ 640 = ap (λ (p : ℕ). 10 * p) (power_of_product k b 640) ∙ sym (mul_assoc 10 (k ^ 640) (b ^ 640)) in
    lt_of_mul-lt-mul_right (b ^ 640) (lt_of_lt_of_le l (rw e at m))

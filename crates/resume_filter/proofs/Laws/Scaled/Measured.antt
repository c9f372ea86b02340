-- A float that is a whole number of units of 2^−1074, as every finite one of the format is. Over units a comparison, a negation and a cast
-- are those of the integers.
-- Assumes nothing.
use Rattle.std.specs.Prelude.{◌≡◌, ℕ, zero, suc, ◌+◌, ◌-◌, ◌*◌, ◌/◌, ◌%◌, ◌^◌, ◌<◌, ◌≤◌, Bool, true, false, not, ◌&&◌, ◌||◌, T, ℤ, pos, negsuc, ◌*ℤ◌, neg_ℤ, ◌==◌, ◌≢◌, int_le, int_lt, nat_le, nat_lt, unsigned_abs, refl, Float}
use Rattle.std.proofs.Common.{sym, ap, ◌∙◌, le_trans, le_of_eq, one-mul, le_of_suc-le-suc, lt_of_not-le, not-le_of_lt, mul-one, mul_comm, mul_assoc, mul_right_comm, add-mul, zero-mul, mul-pos, mul-le-mul_right, mul-lt-mul_of_pos_right, lt_of_mul-lt-mul_right, le_of_mul-le-mul_right, mul-div_cancel, sub-add_cancel, arith, ltb-true, ltb-false, eqb-true, leb-true, leb-false, le-leb, leb→le, eqb→eq, lit≤, pow-add, pow_pos}
use Rattle.std.proofs.lemmas.Bool.{eqb-false, lt-leb}
use Rattle.std.proofs.Math.IntN.{neg_ℤ-neg_ℤ}
use Rattle.std.proofs.Math.Pow.{pow-lt}
use Rattle.std.specs.Float.{nan, inf, fin, binary64}
use Rattle.std.specs.Float.Ieee.{up, down, round, neg, lt, le, eq, below, level, of_int, fits}
use Rattle.std.specs.Float.Ieee.Fits.{down_pos, and_l, and_r}
use Rattle.std.specs.Float.Ieee.Exact.{HasValue}
use Rattle.std.specs.Float.Ieee.Back.{round_whole}
use Rattle.std.specs.Float.Ieee.Scale.{finite}
use Rattle.ground.proofs.Laws.Choice.{alike}
use Rattle.ground.proofs.Laws.Integers.Parts as parts
use Rattle.ground.proofs.Laws.Integers.Order.{le_lt_z, le_le_z}
use Rattle.ground.proofs.Laws.Integers.Signs.{signs}
use Rattle.ground.proofs.Laws.Integers.Products.{abs_neg}
use Rattle.resume_filter.specs.Scaled.{with_sign, scaled, largest, Bounded}

-- x is z units
pub record Units (x : Float) (z : ℤ) : Type 0 where
  pub sign : Bool
  pub size : ℕ
  pub at : HasValue x sign size (2 ^ 1074)
  pub is : z ≡ with_sign sign size

-- ---- a finite float of the format is `scaled` units, and no other number of them

fewer : (j : ℕ) → 2 ^ j ≤ 2 ^ 1074 → j ≤ 1074
fewer j h = le_of_suc-le-suc (lt_of_not-le (λ (g : suc 1074 ≤ j). not-le_of_lt (pow-lt g) h))

down_divides : (e : ℤ) → down e ≤ 2 ^ 1074 → (k : ℕ) × (2 ^ 1074 ≡ k * down e)
down_divides (pos j) h = (2 ^ 1074, sym (mul-one (2 ^ 1074)))
down_divides (negsuc j) h = (2 ^ (1074 - suc j), ap (λ (x : ℕ). 2 ^ x) (sym (sub-add_cancel (fewer (suc j) h))) ∙ pow-add 2 (1074 - suc j) (suc j))

down_fits : (s : Bool) (m : ℕ) (e : ℤ) → T (fits binary64 (fin s m e)) → down e ≤ 2 ^ 1074
unfolding fits
down_fits s zero (pos j) t = lit≤ tt
down_fits s zero (negsuc j) t = le_trans (le_of_eq (sym (one-mul (2 ^ suc j)) ∙ eqb→eq (1 * 2 ^ suc j) 1 t)) (lit≤ tt)
down_fits s (suc m) e t =
    leb→le (down e) (2 ^ 1074)
    (and_r (suc m % 2 == 1 && nat_lt (suc m) (2 ^ 53)) (nat_le (down e) (2 ^ 1074))
    (and_l (suc m % 2 == 1 && nat_lt (suc m) (2 ^ 53) && nat_le (down e) (2 ^ 1074)) (nat_lt (suc m * up e) (2 ^ 1024 * down e)) t))

-- x * l in parts of d, where l is k of them: none is left over
whole_part : (x l d k : ℕ) → 0 < d → l ≡ k * d → x * l ≡ x * l / d * d
whole_part x l d k D e =
    let a : x * l ≡ x * k * d = ap (λ (z : ℕ). x * z) e ∙ sym (mul_assoc x k d) in
    a ∙ ap (λ (z : ℕ). z * d) (sym (mul-div_cancel (x * k) D) ∙ ap (λ (z : ℕ). z / d) (sym a))

pub own_units : (x : Float) → T (fits binary64 x) → T (finite x) → Units x (scaled x)
unfolding scaled
own_units nan f p = absurd p
own_units (inf s) f p = absurd p
own_units (fin s m e) f p =
    let k = down_divides e (down_fits s m e f) in
    record { sign = s; size = m * up e * 2 ^ 1074 / down e; at = (refl, whole_part (m * up e) (2 ^ 1074) (down e) k.0 (down_pos e) k.1); is = refl }

pub level_units : {x : Float} → Bounded x → Units x (scaled x)
level_units {x} h = own_units x h.fits h.finite

pub scaled_units : (x : Float) {z : ℤ} → Units x z → scaled x ≡ z
unfolding scaled
scaled_units nan u = absurd u.at
scaled_units (inf s) u = absurd u.at
scaled_units (fin s m e) u =
    ap (λ (t : Bool). with_sign t (m * up e * 2 ^ 1074 / down e)) u.at.0
    ∙ ap (with_sign u.sign) (ap (λ (n : ℕ). n / down e) u.at.1 ∙ mul-div_cancel u.size (down_pos e))
    ∙ sym u.is

pub units_finite : (x : Float) {z : ℤ} → Units x z → T (finite x)
units_finite nan u = absurd u.at
units_finite (inf s) u = absurd u.at
units_finite (fin s m e) u = tt

-- so units that are in the range make a level
pub units_level : (x : Float) {z : ℤ} → T (fits binary64 x) → Units x z → unsigned_abs z ≤ largest * 2 ^ 1074 → Bounded x
units_level x f u h = record { fits = f; finite = units_finite x u; most = rw (scaled_units x u) h }

pub zero_units : Units (fin false 0 (pos 0)) (pos 0)
zero_units = record { sign = false; size = 0; at = (refl, refl); is = refl }

-- ---- a sign and a size

pub signed_abs : (s : Bool) (n : ℕ) → unsigned_abs (with_sign s n) ≡ n
signed_abs true n = abs_neg (pos n)
signed_abs false n = refl

-- the float's own sign with the size is its number of units
pub sized : (s : Bool) (m : ℕ) (e : ℤ) {z : ℤ} (u : Units (fin s m e) z) → with_sign s u.size ≡ z
sized s m e u = ap (λ (t : Bool). with_sign t u.size) u.at.0 ∙ sym u.is

pub units_abs : {x : Float} {z : ℤ} (u : Units x z) → unsigned_abs z ≡ u.size
units_abs u = ap unsigned_abs u.is ∙ signed_abs u.sign u.size

-- ---- a negation, and a whole number as a float

signed_neg : (s : Bool) (n : ℕ) → neg_ℤ (with_sign s n) ≡ with_sign (not s) n
signed_neg true n = neg_ℤ-neg_ℤ (pos n)
signed_neg false n = refl

pub neg_units : (x : Float) {z : ℤ} → Units x z → Units (neg x) (neg_ℤ z)
unfolding neg
neg_units nan u = absurd u.at
neg_units (inf s) u = absurd u.at
neg_units (fin s m e) u =
    record { sign = not u.sign; size = u.size; at = (ap not u.at.0, u.at.1); is = ap neg_ℤ u.is ∙ signed_neg u.sign u.size }

whole_units : (x : Float) (s : Bool) (n : ℕ) → HasValue x s n 1 → HasValue x s (2 ^ 1074 * n) (2 ^ 1074)
whole_units nan s n v = v
whole_units (inf t) s n v = v
whole_units (fin t m e) s n v =
    (v.0, mul_comm (m * up e) (2 ^ 1074) ∙ ap (λ (k : ℕ). 2 ^ 1074 * k) (sym (mul-one (m * up e)) ∙ v.1) ∙ sym (mul_assoc (2 ^ 1074) n (down e)))

pub int_units : (b : ℤ) → unsigned_abs b ≤ 2 ^ 53 → Units (of_int binary64 b) (pos (2 ^ 1074) *ℤ b)
unfolding of_int
int_units (pos n) h =
    record { sign = false; size = 2 ^ 1074 * n; at = whole_units (round binary64 false n 1) false n (round_whole binary64 false n h); is = refl }
int_units (negsuc n) h =
    record {
      sign = true;
      size = 2 ^ 1074 * suc n;
      at = whole_units (round binary64 true (suc n) 1) true (suc n) (round_whole binary64 true (suc n) h);
      is = refl;
    }

-- ---- comparisons. p and q are the sizes that `lt` and `le` compare, a and b the same in units, l of them in k

-- the order of p and q is that of a and b
up_lt : (p q a b l k : ℕ) → 0 < l → p * l ≡ a * k → q * l ≡ b * k → p < q → a < b
up_lt p q a b l k L e f h = lt_of_mul-lt-mul_right k (rw e at (rw f at (mul-lt-mul_of_pos_right h L)))

up_le : (p q a b l k : ℕ) → 0 < k → p * l ≡ a * k → q * l ≡ b * k → p ≤ q → a ≤ b
up_le p q a b l k K e f h = le_of_mul-le-mul_right (rw e at (rw f at (mul-le-mul_right l h))) K

-- `lt` and `eq` on one side of zero are `leb`
lt_or_eq : (l e : Bool) (p q : ℕ) → nat_lt p q ≡ l → (e ≡ true → p ≡ q) → (e ≡ false → p ≢ q) → (l || (e && true)) ≡ nat_le p q
lt_or_eq true e p q h f g = let i = ltb-true p q h in sym (le-leb p q (omega arith))
lt_or_eq false true p q h f g = sym (le-leb p q (le_of_eq (f refl)))
lt_or_eq false false p q h f g = let i = ltb-false p q h in let j = g refl in sym (lt-leb p q (omega arith))

-- across zero they hold where both are zero
eq_across : (e z : Bool) (p q : ℕ) → (p == q) ≡ e → (p == 0) ≡ z → (e && (false || z)) ≡ nat_le (p + q) 0
eq_across true true p q h k = let i = eqb-true p q h in let j = eqb-true p 0 k in sym (le-leb (p + q) 0 (omega arith))
eq_across true false p q h k = let i = eqb-false p 0 k in sym (lt-leb (p + q) 0 (omega arith))
eq_across false z p q h k = let i = eqb-false p q h in sym (lt-leb (p + q) 0 (omega arith))

above_or : (p q : ℕ) → (nat_lt 0 (p + q) || nat_le (p + q) 0) ≡ true
above_or p q = decided (nat_lt 0 (p + q)) refl
  where
    decided : (b : Bool) → nat_lt 0 (p + q) ≡ b → (b || nat_le (p + q) 0) ≡ true
    decided true e = refl
    decided false e = le-leb (p + q) 0 (ltb-false 0 (p + q) e)

module _ (p q a b l k : ℕ) (L : 0 < l) (K : 0 < k) (e : p * l ≡ a * k) (f : q * l ≡ b * k) where
  both_sizes : (p + q) * l ≡ (a + b) * k
  both_sizes = add-mul p q l ∙ ap (λ (n : ℕ). n + q * l) e ∙ ap (λ (n : ℕ). a * k + n) f ∙ sym (add-mul a b k)

  no_sizes : 0 * l ≡ 0 * k
  no_sizes = zero-mul l ∙ sym (zero-mul k)

  below_units : (s t : Bool) → below s p t q ≡ int_lt (with_sign s a) (with_sign t b)
  below_units false false =
      alike _ _ (λ h. let i = up_lt p q a b l k L e f (ltb-true p q h) in omega signs) (λ h. let i = up_le q p b a l k K f e (ltb-false p q h) in omega signs)
  below_units false true = sym (le_lt_z (pos a) (neg_ℤ (pos b)) (omega (arith, parts.neg (pos b))))
  below_units true false =
      alike _ _ (λ h. let i = up_lt 0 (p + q) 0 (a + b) l k L no_sizes both_sizes (ltb-true 0 (p + q) h) in omega (signs, parts.neg (pos a)))
      (λ h. let i = up_le (p + q) 0 (a + b) 0 l k K both_sizes no_sizes (ltb-false 0 (p + q) h) in omega (signs, parts.neg (pos a)))
  below_units true true =
      alike _ _ (λ h. let i = up_lt q p b a l k L f e (ltb-true q p h) in omega (signs, parts.neg (pos a), parts.neg (pos b)))
      (λ h. let i = up_le p q a b l k K e f (ltb-false q p h) in omega (signs, parts.neg (pos a), parts.neg (pos b)))

  at_most_units : (s t : Bool) → (below s p t q || level s p t q) ≡ int_le (with_sign s a) (with_sign t b)
  at_most_units false false =
      lt_or_eq (nat_lt p q) (p == q) p q refl (eqb-true p q) (eqb-false p q)
      ∙ alike _ _ (λ h. let i = up_le p q a b l k K e f (leb-true p q h) in omega signs) (λ h. let i = up_lt q p b a l k L f e (leb-false p q h) in omega signs)
  at_most_units false true =
      eq_across (p == q) (p == 0) p q refl refl
      ∙ alike _ _ (λ h. let i = up_le (p + q) 0 (a + b) 0 l k K both_sizes no_sizes (leb-true (p + q) 0 h) in omega (signs, parts.neg (pos b)))
      (λ h. let i = up_lt 0 (p + q) 0 (a + b) l k L no_sizes both_sizes (leb-false (p + q) 0 h) in omega (signs, parts.neg (pos b)))
  at_most_units true false =
      ap (λ (c : Bool). nat_lt 0 (p + q) || c) (eq_across (p == q) (p == 0) p q refl refl) ∙ above_or p q
      ∙ sym (le_le_z (neg_ℤ (pos a)) (pos b) (omega (arith, parts.neg (pos a))))
  at_most_units true true =
      lt_or_eq (nat_lt q p) (p == q) q p refl (λ h. sym (eqb-true p q h)) (λ h i. eqb-false p q h (sym i))
      ∙ alike _ _ (λ h. let i = up_le q p b a l k K f e (leb-true q p h) in omega (signs, parts.neg (pos a), parts.neg (pos b)))
      (λ h. let i = up_lt p q a b l k L e f (leb-false q p h) in omega (signs, parts.neg (pos a), parts.neg (pos b)))

cross : (x y l a d : ℕ) → x * l ≡ a * y → x * d * l ≡ a * (y * d)
cross x y l a d h = mul_right_comm x d l ∙ ap (λ (n : ℕ). n * d) h ∙ mul_assoc a y d

-- two floats with their units, as the same two sizes over one denominator
module _ (s t : Bool) (m n : ℕ) (e d : ℤ) {a b : ℤ} (u : Units (fin s m e) a) (v : Units (fin t n d) b) where
  pub first : m * up e * down d * 2 ^ 1074 ≡ u.size * (down e * down d)
  first = cross (m * up e) (down e) (2 ^ 1074) u.size (down d) u.at.1

  pub second : n * up d * down e * 2 ^ 1074 ≡ v.size * (down e * down d)
  second = cross (n * up d) (down d) (2 ^ 1074) v.size (down e) v.at.1 ∙ ap (λ (k : ℕ). v.size * k) (mul_comm (down d) (down e))

  lt_fin : lt (fin s m e) (fin t n d) ≡ int_lt a b
  unfolding lt
  lt_fin =
      rw (sized s m e u) at
      (rw (sized t n d v) at
      (below_units (m * up e * down d) (n * up d * down e) u.size v.size (2 ^ 1074) (down e * down d) (pow_pos 1074)
      (mul-pos (down_pos e) (down_pos d)) first second s t))

  le_fin : le (fin s m e) (fin t n d) ≡ int_le a b
  unfolding le lt eq
  le_fin =
      rw (sized s m e u) at
      (rw (sized t n d v) at
      (at_most_units (m * up e * down d) (n * up d * down e) u.size v.size (2 ^ 1074) (down e * down d) (pow_pos 1074)
      (mul-pos (down_pos e) (down_pos d)) first second s t))

pub lt_units : (x y : Float) {a b : ℤ} → Units x a → Units y b → lt x y ≡ int_lt a b
lt_units nan y u v = absurd u.at
lt_units (inf s) y u v = absurd u.at
lt_units (fin s m e) nan u v = absurd v.at
lt_units (fin s m e) (inf t) u v = absurd v.at
lt_units (fin s m e) (fin t n d) u v = lt_fin s t m n e d u v

pub le_units : (x y : Float) {a b : ℤ} → Units x a → Units y b → le x y ≡ int_le a b
le_units nan y u v = absurd u.at
le_units (inf s) y u v = absurd u.at
le_units (fin s m e) nan u v = absurd v.at
le_units (fin s m e) (inf t) u v = absurd v.at
le_units (fin s m e) (fin t n d) u v = le_fin s t m n e d u v

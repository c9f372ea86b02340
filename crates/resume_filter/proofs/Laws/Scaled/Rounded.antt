-- What binary64 makes of a number that it may not hold, over units of 2^−1074: a product by 15 / 16 and a sum, each rounded once.
-- What is at most 2^53 · 2^1032 units is off by half of 2^1032 at most, and a multiple of 2^1032 is not off at all.
-- Assumes nothing.
mod Nearest
use Rattle.std.specs.Prelude.{◌≡◌, ℕ, zero, suc, ◌+◌, ◌-◌, ◌*◌, ◌^◌, ◌<◌, ◌≤◌, Bool, true, false, cond, ◌&&◌, ℤ, pos, negsuc, ◌+ℤ◌, ◌-ℤ◌, ◌*ℤ◌, neg_ℤ, nat_lt, unsigned_abs, Float}
use Rattle.std.proofs.Math.Path.{refl}
use Rattle.std.proofs.Common.{sym, ap, ◌∙◌, subst, le_refl, le_trans, le_of_eq, le_of_lt, lt_of_le_of_lt, lt_of_lt_of_le, zero-lt-suc, mul-zero, mul-one, mul-add, mul_comm, mul_assoc, mul_left_comm, add-mul, mul-pos, mul-le-mul_right, mul-lt-mul_of_pos_right, le_of_mul-le-mul_right, arith, ltb-true, ltb-false, lit≤, pow_pos, shl_lt}
use Rattle.std.proofs.Math.Nat.{mul-sub}
use Rattle.std.specs.Float.{nan, inf, fin, binary64}
use Rattle.std.specs.Float.Ieee.{up, down, size, units, round, sum, add, mul}
use Rattle.std.specs.Float.Ieee.Fits.{round_is, down_pos}
use Rattle.std.specs.Float.Ieee.Exact.{HasValue, units_val}
use Rattle.std.specs.Float.Ieee.Nearest.{closest, closest_same, div_same}
use Rattle.std.specs.Float.Ieee.Order.{drop, kept}
use Rattle.ground.proofs.Laws.Integers.Parts as parts
use Rattle.ground.proofs.Laws.Integers.Order.{eq_out}
use Rattle.ground.proofs.Laws.Integers.Signs.{signs}
use Rattle.ground.proofs.Laws.Integers.Products.{abs_out}
use Rattle.resume_filter.specs.Scaled.{with_sign}
use Rattle.resume_filter.proofs.Laws.Scaled.Measured.{Units, signed_abs, sized, units_abs, first, second}
use Rattle.resume_filter.proofs.Laws.Scaled.Rounded.Nearest.{Near2, units_of, units_near, units_le, units_exact}

-- y is z / d units, rounded; they are at most q · 2^1032
pub record Rounded (y : Float) (z : ℤ) (d q : ℕ) : Type 0 where
  pub units : ℤ
  pub holds : Units y units
  pub most : unsigned_abs units ≤ q * 2 ^ 1032
  pub near : unsigned_abs (pos d *ℤ units -ℤ z) ≤ d * 2 ^ 1031
  pub same : (j : ℕ) → unsigned_abs z ≡ j * 2 ^ 1032 * d → pos d *ℤ units ≡ z

-- ---- `round` of a fraction a / c that is w / d units

-- equal fractions keep the same number of units
units_same : (p n c w d : ℕ) → 0 < c → 0 < d → n * d ≡ w * c → units_of p n c ≡ units_of p w d
units_same p n c w d C D e =
    let k : drop p n c ≡ drop p w d = ap (λ (z : ℕ). size z - p) (div_same n c w d C D e) in
    let j = drop p w d in
    let y : n * (d * 2 ^ j) ≡ w * (c * 2 ^ j) = sym (mul_assoc n d (2 ^ j)) ∙ ap (λ (z : ℕ). z * 2 ^ j) e ∙ mul_assoc w c (2 ^ j) in
    ap (λ (z : ℕ). closest n (c * 2 ^ z) * 2 ^ z) k
    ∙ ap (λ (z : ℕ). z * 2 ^ j) (closest_same n (c * 2 ^ j) w (d * 2 ^ j) (mul-pos C (pow_pos j)) (mul-pos D (pow_pos j)) y)

round_at : (s : Bool) (a c w d : ℕ) → 0 < c → 0 < d → a * 2 ^ 1074 * d ≡ w * c → units_of 53 w d < 2 ^ 2098 →
    HasValue (round binary64 s a c) s (units_of 53 w d) (2 ^ 1074)
round_at s a c w d C D e h =
    let n = a * 2 ^ 1074 in
    let q : units_of 53 n c ≡ units_of 53 w d = units_same 53 n c w d C D e in
    rw (round_is binary64 s a c)
    (subst (λ (z : ℕ). HasValue (units binary64 s (kept 53 n c) (drop 53 n c)) s z (2 ^ 1074)) q
    (units_val binary64 s (kept 53 n c) (drop 53 n c) (subst (λ (z : ℕ). z < 2 ^ 2098) (sym q) h)))

signed_mul : (s : Bool) (d n : ℕ) → pos d *ℤ with_sign s n ≡ with_sign s (d * n)
signed_mul true d zero = rw (mul-zero d)
signed_mul true d (suc n) = refl
signed_mul false d n = refl

signed_near : (s : Bool) (a b e : ℕ) → Near2 a b (e + e) → unsigned_abs (with_sign s a -ℤ with_sign s b) ≤ e
signed_near true a b e h =
    let d = parts.dif (neg_ℤ (pos a)) (neg_ℤ (pos b)) in
    abs_out (neg_ℤ (pos a) -ℤ neg_ℤ (pos b)) (omega (arith, parts.neg (pos a), parts.neg (pos b))) (omega (arith, parts.neg (pos a), parts.neg (pos b)))
signed_near false a b e h = abs_out (pos a -ℤ pos b) (omega (arith, parts.dif (pos a) (pos b))) (omega (arith, parts.dif (pos a) (pos b)))

rounded : (s : Bool) (a c w d q : ℕ) → 0 < c → 0 < d → a * 2 ^ 1074 * d ≡ w * c → q < 2 ^ 53 → w ≤ q * 2 ^ 1032 * d →
    Rounded (round binary64 s a c) (with_sign s w) d q
rounded s a c w d q C D e Q h =
    let r = units_of 53 w d in
    let u : w < 2 ^ 1085 * d = lt_of_le_of_lt h (mul-lt-mul_of_pos_right (shl_lt 53 1032 Q) D) in
    let m : r ≤ q * 2 ^ 1032 = units_le 53 1032 w d D u q h in
    record {
      units = with_sign s r;
      holds =
          record {
            sign = s;
            size = r;
            at = round_at s a c w d C D e (lt_of_le_of_lt m (lt_of_lt_of_le (mul-lt-mul_of_pos_right Q (pow_pos 1032)) (lit≤ tt)));
            is = refl;
          };
      most = rw (signed_abs s r) m;
      near =
          rw (signed_mul s d r)
          (signed_near s (d * r) w (d * 2 ^ 1031) (rw (mul_comm d r) (rw (mul-add d (2 ^ 1031) (2 ^ 1031)) at (units_near 53 1032 w d D u))));
      same = λ j i.
          let o : r ≡ j * 2 ^ 1032 = units_exact 53 1032 w d D u j (sym (signed_abs s w) ∙ i) in
          signed_mul s d r ∙ ap (with_sign s) (mul_comm d r ∙ ap (λ (n : ℕ). n * d) o ∙ sym i ∙ signed_abs s w);
    }

-- ---- 15 / 16 of a float

fifteen : (y l n d : ℕ) → y * l ≡ n * d → 15 * y * l * 16 ≡ 15 * n * (16 * d)
fifteen y l n d h = ap (λ (z : ℕ). z * 16) (mul_assoc 15 y l ∙ ap (λ (z : ℕ). 15 * z) h) ∙ simp (mul_assoc, mul_comm, mul_left_comm)

decay_fin : (s : Bool) (m : ℕ) (e : ℤ) (q : ℕ) {z : ℤ} (u : Units (fin s m e) z) → q < 2 ^ 53 → 15 * unsigned_abs z ≤ q * 2 ^ 1032 * 16
    → Rounded (round binary64 s (15 * (m * up e)) (16 * down e)) (pos 15 *ℤ z) 16 q
decay_fin s m e q {z} u Q h =
    subst (λ (z : ℤ). Rounded (round binary64 s (15 * (m * up e)) (16 * down e)) z 16 q)
    (sym (signed_mul s 15 u.size) ∙ ap (λ (z : ℤ). pos 15 *ℤ z) (sized s m e u))
    (rounded s (15 * (m * up e)) (16 * down e) (15 * u.size) 16 q (mul-pos (zero-lt-suc 15) (down_pos e)) (zero-lt-suc 15)
    (fifteen (m * up e) (2 ^ 1074) u.size (down e) u.at.1) Q (rw (units_abs u) at h))

pub decay_units : (x : Float) {z : ℤ} (q : ℕ) → Units x z → q < 2 ^ 53 → 15 * unsigned_abs z ≤ q * 2 ^ 1032 * 16 →
    Rounded (mul binary64 (fin false 15 (negsuc 3)) x) (pos 15 *ℤ z) 16 q
unfolding mul
decay_units nan q u Q h = absurd u.at
decay_units (inf s) q u Q h = absurd u.at
decay_units (fin true m e) q u Q h = decay_fin true m e q u Q h
decay_units (fin false m e) q u Q h = decay_fin false m e q u Q h

-- ---- a sum: a / c is M units, and b / c is B

sub_mul : (a b k : ℕ) → (a - b) * k ≡ a * k - b * k
sub_mul a b k = mul_comm (a - b) k ∙ mul-sub k a b ∙ ap (λ (z : ℕ). z - k * b) (mul_comm k a) ∙ ap (λ (z : ℕ). a * k - z) (mul_comm k b)

signed_sum : (s : Bool) (M B : ℕ) → with_sign s (M + B) ≡ with_sign s M +ℤ with_sign s B
signed_sum true M B = eq_out (omega (arith, parts.neg (pos (M + B)), parts.neg (pos M), parts.neg (pos B), parts.sum (neg_ℤ (pos M)) (neg_ℤ (pos B))))
signed_sum false M B = refl

module _ (a b c M B q : ℕ) (C : 0 < c) (ea : a * 2 ^ 1074 ≡ M * c) (eb : b * 2 ^ 1074 ≡ B * c) (Q : q < 2 ^ 53) (top : M + B ≤ q * 2 ^ 1032) where
  -- D units with the sign s, which are z
  one : (s : Bool) (n D : ℕ) (z : ℤ) → n * 2 ^ 1074 ≡ D * c → D ≤ M + B → with_sign s D ≡ z → Rounded (round binary64 s n c) z 1 q
  one s n D z e h i =
      subst (λ (z : ℤ). Rounded (round binary64 s n c) z 1 q) i
      (rounded s n c D 1 q C (zero-lt-suc 0) (mul-one (n * 2 ^ 1074) ∙ e) Q (le_trans h (le_trans top (le_of_eq (sym (mul-one (q * 2 ^ 1032)))))))

  together : (a + b) * 2 ^ 1074 ≡ (M + B) * c
  together = add-mul a b (2 ^ 1074) ∙ ap (λ (z : ℕ). z + b * 2 ^ 1074) ea ∙ ap (λ (z : ℕ). M * c + z) eb ∙ sym (add-mul M B c)

  a_less_b : (a - b) * 2 ^ 1074 ≡ (M - B) * c
  a_less_b = sub_mul a b (2 ^ 1074) ∙ ap (λ (z : ℕ). z - b * 2 ^ 1074) ea ∙ ap (λ (z : ℕ). M * c - z) eb ∙ sym (sub_mul M B c)

  b_less_a : (b - a) * 2 ^ 1074 ≡ (B - M) * c
  b_less_a = sub_mul b a (2 ^ 1074) ∙ ap (λ (z : ℕ). z - a * 2 ^ 1074) eb ∙ ap (λ (z : ℕ). B * c - z) ea ∙ sym (sub_mul B M c)

  least_le : a ≤ b → M ≤ B
  least_le h = le_of_mul-le-mul_right (rw ea at (rw eb at (mul-le-mul_right (2 ^ 1074) h))) C

  most_le : b ≤ a → B ≤ M
  most_le h = le_of_mul-le-mul_right (rw ea at (rw eb at (mul-le-mul_right (2 ^ 1074) h))) C

  minus : (x : Bool) → nat_lt a b ≡ x → Rounded (cond x (round binary64 true (b - a) c) (round binary64 false (a - b) c)) (pos M +ℤ neg_ℤ (pos B)) 1 q
  minus true e =
      let h = least_le (le_of_lt (ltb-true a b e)) in
      one true (b - a) (B - M) (pos M +ℤ neg_ℤ (pos B)) b_less_a (omega arith)
      (omega (signs, parts.neg (pos (B - M)), parts.neg (pos B), parts.sum (pos M) (neg_ℤ (pos B))))
  minus false e =
      let h = most_le (ltb-false a b e) in
      one false (a - b) (M - B) (pos M +ℤ neg_ℤ (pos B)) a_less_b (omega arith) (omega (signs, parts.neg (pos B), parts.sum (pos M) (neg_ℤ (pos B))))

  -- a sum of zero is +0
  swapped : (x y : Bool) → nat_lt a b ≡ x → nat_lt b a ≡ y →
      Rounded (cond x (round binary64 false (b - a) c) (round binary64 (true && y) (a - b) c)) (neg_ℤ (pos M) +ℤ pos B) 1 q
  swapped true y e f =
      let h = least_le (le_of_lt (ltb-true a b e)) in
      one false (b - a) (B - M) (neg_ℤ (pos M) +ℤ pos B) b_less_a (omega arith) (omega (signs, parts.neg (pos M), parts.sum (neg_ℤ (pos M)) (pos B)))
  swapped false true e f =
      let h = most_le (ltb-false a b e) in
      one true (a - b) (M - B) (neg_ℤ (pos M) +ℤ pos B) a_less_b (omega arith)
      (omega (signs, parts.neg (pos (M - B)), parts.neg (pos M), parts.sum (neg_ℤ (pos M)) (pos B)))
  swapped false false e f =
      let h = least_le (ltb-false b a f) in
      let i = most_le (ltb-false a b e) in
      one false (a - b) (M - B) (neg_ℤ (pos M) +ℤ pos B) a_less_b (omega arith) (omega (signs, parts.neg (pos M), parts.sum (neg_ℤ (pos M)) (pos B)))

  sum_units : (s t : Bool) → Rounded (sum binary64 s a t b c) (with_sign s M +ℤ with_sign t B) 1 q
  unfolding sum
  sum_units false false = one false (a + b) (M + B) (pos M +ℤ pos B) together (le_refl (M + B)) (signed_sum false M B)
  sum_units false true = minus (nat_lt a b) refl
  sum_units true false = swapped (nat_lt a b) (nat_lt b a) refl refl
  sum_units true true = one true (a + b) (M + B) (neg_ℤ (pos M) +ℤ neg_ℤ (pos B)) together (le_refl (M + B)) (signed_sum true M B)

pub add_units : (x y : Float) {a b : ℤ} (q : ℕ) → Units x a → Units y b → q < 2 ^ 53 → unsigned_abs a + unsigned_abs b ≤ q * 2 ^ 1032 →
    Rounded (add binary64 x y) (a +ℤ b) 1 q
unfolding add
add_units nan y q u v Q h = absurd u.at
add_units (inf s) y q u v Q h = absurd u.at
add_units (fin s m e) nan q u v Q h = absurd v.at
add_units (fin s m e) (inf t) q u v Q h = absurd v.at
add_units (fin s m e) (fin t n d) q u v Q h =
    rw (sized s m e u) at
    (rw (sized t n d v) at
    (sum_units (m * up e * down d) (n * up d * down e) (down e * down d) u.size v.size q (mul-pos (down_pos e) (down_pos d)) (first s t m n e d u v)
    (second s t m n e d u v) Q
    (rw (units_abs u) at (rw (units_abs v) at h)) s t))

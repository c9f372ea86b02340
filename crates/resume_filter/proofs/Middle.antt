-- What `half_up_lem` stands on, for a level x of v units above zero: its whole part, and the middle of that and the next number, to which it is compared.
-- Assumes nothing.
use Rattle.std.proofs.Common.{◌≡◌, ℕ, ◌+◌, ◌*◌, ◌/◌, ◌^◌, ◌<◌, ◌≤◌, min, true, false, T, ltb, ℤ, pos, negsuc, ◌*ℤ◌, neg_ℤ, nat_abs, ◌<ℤ◌, sym, refl, ap, ◌∙◌, subst, le_trans, le_of_eq, mul_assoc, mul_comm, add-mul, mul-le-mul_left, one-mul, mul-one, mul_left_comm, arith, lit<, lit≤, pow_pos, ltb-false, ltb-true}
use Rattle.std.proofs.Math.Nat.{div-le_of_le-mul}
use Rattle.std.specs.Int.Signed.{lt_z}
use Rattle.std.specs.Int.Signed.{yes_non_neg, pos-nat_abs}
use Rattle.std.specs.Prelude.{Float}
use Rattle.std.specs.Float.{nan, inf, fin, binary64}
use Rattle.std.specs.Float.Ieee.{up, down, neg, add, lt, of_int}
use Rattle.std.specs.Float.Ieee.{to_unsigned}
use Rattle.std.specs.Float.Ieee.Fits.{down_pos}
use Rattle.std.specs.Float.Ieee.Fits.{neg-fits}
use Rattle.std.specs.Float.Ieee.Nearest.{div_same}
use Rattle.ground.proofs.Laws.Integers.Parts as parts
use Rattle.ground.proofs.Laws.Integers.Signs.{signs}
use Rattle.ground.proofs.Laws.Integers.Products as ints
use Rattle.resume_filter.specs.Scaled.{scaled, largest, Bounded}
use Rattle.resume_filter.proofs.Laws.Scaled.Measured.{Units, level_units, units_level, scaled_units, zero_units, neg_units, int_units, lt_units, sized, units_abs}
use Rattle.resume_filter.proofs.Laws.Scaled.Rounded.{add_units}
use Rattle.resume_filter.specs.Resuming.{half_up, away}
use Rattle.resume_filter.proofs.Laws.Resuming.{half_down, half_up_lem}

-- ---- constants in units

minus_one : Units (fin true 1 (pos 0)) (neg_ℤ (pos (2 ^ 1074)))
minus_one = record { sign = true; size = 2 ^ 1074; at = (refl, refl); is = refl }

top : Units (fin false 1 (pos 64)) (pos (2 ^ 64 * 2 ^ 1074))
top = record { sign = false; size = 2 ^ 64 * 2 ^ 1074; at = (refl, refl); is = refl }

a_half : Units (fin false 1 (negsuc 0)) (pos (2 ^ 1073))
a_half = record { sign = false; size = 2 ^ 1073; at = (refl, refl); is = refl }

-- ---- v units, above 0 and at most 1,984

above : (v l : ℕ) → 0 < l → lt_z (neg_ℤ (pos l)) (pos v) ≡ true
above v l h = omega (signs, parts.neg (pos l))

under : (v l : ℕ) → 0 < l → v ≤ largest * l → lt_z (pos v) (pos (18446744073709551616 * l)) ≡ true
under v l h k = omega signs

part_le : (v l k : ℕ) → v ≤ k * l → v / l ≤ k
part_le v l k h = div-le_of_le-mul l (le_trans h (le_of_eq (mul_comm k l)))

uncapped : (a : ℕ) → a ≤ largest → min a 18446744073709551615 ≡ a
uncapped a h = omega arith

-- no float with a minus is above zero
no_minus : (n v : ℕ) → 0 < v → neg_ℤ (pos n) ≡ pos v → ⊥
no_minus n v h e = omega (signs, parts.neg (pos n))

-- its whole part
truncated : (x : Float) {v : ℕ} → Units x (pos v) → 0 < v → v ≤ largest * 2 ^ 1074 → to_unsigned 64 x ≡ v / 2 ^ 1074
unfolding to_unsigned
truncated nan u p h = absurd u.at
truncated (inf s) u p h = absurd u.at
truncated (fin true m e) {v} u p h = absurd (no_minus u.size v p (sized true m e u))
truncated (fin false m e) {v} u p h =
    let q : m * up e / down e ≡ v / 2 ^ 1074 =
    div_same (m * up e) (down e) v (2 ^ 1074) (down_pos e) (pow_pos 1074) (u.at.1 ∙ ap (λ (n : ℕ). n * down e) (sym (units_abs u))) in
    uncapped (m * up e / down e) (le_trans (le_of_eq q) (part_le v (2 ^ 1074) largest h)) ∙ q

-- n and a half, which binary64 has
middle_sum : (n t u : ℕ) → 2 * t * u * n + t * u ≡ (n * 2 + 1) * t * u
middle_sum n t u =
    ap (λ (z : ℕ). z + t * u) (simp (mul_assoc, mul_comm, mul_left_comm))
    ∙ sym (ap (λ (z : ℕ). z * u) (add-mul (n * 2) 1 t) ∙ add-mul (n * 2 * t) (1 * t) u ∙ ap (λ (z : ℕ). n * 2 * t * u + z * u) (one-mul t))

small_middle : (n h : ℕ) → n ≤ largest → 2 * h * n + h ≤ 3969 * h
small_middle n h k = omega (arith, mul-le-mul_left (2 * h) k)

middle : (n : ℕ) → n ≤ largest → Units (add binary64 (of_int binary64 (pos n)) (fin false 1 (negsuc 0))) (pos (2 ^ 1074 * n + 2 ^ 1073))
middle n h =
    let r = add_units (of_int binary64 (pos n)) (fin false 1 (negsuc 0)) (3969 * 2 ^ 41) (int_units (pos n) (le_trans h (lit≤ tt))) a_half (lit< tt)
    (small_middle n (2 ^ 1073) h) in
    let e : pos 1 *ℤ r.units ≡ pos (2 ^ 1074 * n + 2 ^ 1073) =
    r.same ((n * 2 + 1) * 2 ^ 41) (middle_sum n (2 ^ 41) (2 ^ 1032) ∙ sym (mul-one ((n * 2 + 1) * 2 ^ 41 * 2 ^ 1032))) in
    subst (λ (z : ℤ). Units (add binary64 (of_int binary64 (pos n)) (fin false 1 (negsuc 0))) z) (sym (ints.one-mul r.units) ∙ e) r.holds

-- ---- `half_up_lem`, of a level x above zero

module _ (x : Float) (h : Bounded x) (p : pos 0 <ℤ scaled x) where
  v : ℕ
  v = nat_abs (scaled x)

  v_is : scaled x ≡ pos v
  unfolding v
  v_is = sym (pos-nat_abs (scaled x) (yes_non_neg {z = scaled x} (omega signs)))

  own : Units x (pos v)
  own = rw v_is at (level_units h)

  positive : 0 < v
  positive = let i : pos 0 <ℤ pos v = rw v_is at p in omega signs

  most : v ≤ largest * 2 ^ 1074
  unfolding v
  most = h.most

  pub above_minus_one : T (lt (fin true 1 (pos 0)) x)
  above_minus_one = rw (lt_units (fin true 1 (pos 0)) x minus_one own ∙ above v (2 ^ 1074) (pow_pos 1074)) tt

  pub below_top : T (lt x (fin false 1 (pos 64)))
  below_top = rw (lt_units x (fin false 1 (pos 64)) own top ∙ under v (2 ^ 1074) (pow_pos 1074) most) tt

  module _ (n : ℕ) (e : n ≡ to_unsigned 64 x) where
    part : n ≡ v / 2 ^ 1074
    part = e ∙ truncated x own positive most

    pub part_most : n ≤ largest
    part_most = le_trans (le_of_eq part) (part_le v (2 ^ 1074) largest most)

    -- what the test compares
    compared : lt x (add binary64 (of_int binary64 (pos n)) (fin false 1 (negsuc 0))) ≡ ltb v (v / 2 ^ 1074 * 2 ^ 1074 + 2 ^ 1073)
    compared =
        lt_units x (add binary64 (of_int binary64 (pos n)) (fin false 1 (negsuc 0))) own (middle n part_most)
        ∙ ap (λ (k : ℕ). ltb v (k + 2 ^ 1073)) (mul_comm (2 ^ 1074) n ∙ ap (λ (k : ℕ). k * 2 ^ 1074) part)

    rounded : (k : ℕ) → k ≡ half_up v → pos k ≡ away (scaled x)
    unfolding away
    rounded k i = ap pos i ∙ ap away (sym v_is)

    pub goes_down : lt x (add binary64 (of_int binary64 (pos n)) (fin false 1 (negsuc 0))) ≡ true → pos n ≡ away (scaled x)
    goes_down t = rounded n (part ∙ sym (half_down v (ltb-true v (v / 2 ^ 1074 * 2 ^ 1074 + 2 ^ 1073) (sym compared ∙ t))))

    pub goes_up : lt x (add binary64 (of_int binary64 (pos n)) (fin false 1 (negsuc 0))) ≡ false → pos (n + 1) ≡ away (scaled x)
    goes_up t = rounded (n + 1) (ap (λ (k : ℕ). k + 1) part ∙ sym (half_up_lem v (ltb-false v (v / 2 ^ 1074 * 2 ^ 1074 + 2 ^ 1073) (sym compared ∙ t))))

-- ---- `away`: on which side of zero a level lies

pub scaled_neg : {x : Float} → Bounded x → scaled (neg x) ≡ neg_ℤ (scaled x)
scaled_neg {x} h = scaled_units (neg x) (neg_units x (level_units h))

pub level_neg : {x : Float} → Bounded x → Bounded (neg x)
level_neg {x} h = units_level (neg x) (neg-fits binary64 x h.fits) (neg_units x (level_units h)) (rw (ints.abs_neg (scaled x)) h.most)

pub above_zero : {x : Float} → Bounded x → lt (fin false 0 (pos 0)) x ≡ true → pos 0 <ℤ scaled x
above_zero {x} h t = let i : lt_z (pos 0) (scaled x) ≡ true = sym (lt_units (fin false 0 (pos 0)) x zero_units (level_units h)) ∙ t in omega signs

pub below_zero : {x : Float} → Bounded x → lt x (fin false 0 (pos 0)) ≡ true → pos 0 <ℤ scaled (neg x)
below_zero {x} h t =
    let i : lt_z (scaled x) (pos 0) ≡ true = sym (lt_units x (fin false 0 (pos 0)) (level_units h) zero_units) ∙ t in
    rw (scaled_neg h) (omega (signs, parts.neg (scaled x)))

pub at_zero : {x : Float} → Bounded x → lt (fin false 0 (pos 0)) x ≡ false → lt x (fin false 0 (pos 0)) ≡ false → scaled x ≡ pos 0
at_zero {x} h s t =
    let i : lt_z (pos 0) (scaled x) ≡ false = sym (lt_units (fin false 0 (pos 0)) x zero_units (level_units h)) ∙ s in
    let j : lt_z (scaled x) (pos 0) ≡ false = sym (lt_units x (fin false 0 (pos 0)) (level_units h) zero_units) ∙ t in
    omega signs

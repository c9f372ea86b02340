-- One update over units of 2^−1074: two roundings, each off by 2^1031 units at most, and by none where all is a multiple of 2^1032.
-- Assumes nothing.
use Rattle.std.specs.Prelude.{◌≡◌, ℕ, ◌+◌, ◌*◌, ◌^◌, ◌≤◌, ℤ, pos, ◌-ℤ◌, ◌*ℤ◌, neg_ℤ, unsigned_abs, Float}
use Rattle.std.proofs.Common.{sym, ap, ◌∙◌, le_trans, mul-one, mul_comm, mul_assoc, mul_left_comm, mul-le-mul_left, arith, lit≤, lit<}
use Rattle.std.specs.Float.{binary64}
use Rattle.std.specs.Float.Ieee.{neg, sub, mul, of_int}
use Rattle.ground.proofs.Laws.Integers.Parts as parts
use Rattle.ground.proofs.Laws.Integers.Signs.{signs}
use Rattle.ground.proofs.Laws.Integers.Products.{abs_in, abs_out, abs_same, same_abs, abs_neg, abs_mul, one-mul, mul_dif, mul_swap}
use Rattle.resume_filter.specs.Scaled.{largest}
use Rattle.resume_filter.proofs.Laws.Scaled.Measured.{Units, neg_units, int_units}
use Rattle.resume_filter.proofs.Laws.Scaled.Rounded.{Rounded, decay_units, add_units}
use Rattle.resume_filter.specs.Update.{decay, next}

-- ---- the two roundings together: m is 15 / 16 of x, and y is m less b. With h = 0: exact

near_both : (x m b y : ℤ) (h : ℕ) → unsigned_abs (pos 16 *ℤ m -ℤ pos 15 *ℤ x) ≤ 16 * h → unsigned_abs (pos 1 *ℤ y -ℤ (m -ℤ b)) ≤ 1 * h
    → unsigned_abs (pos 16 *ℤ y -ℤ (pos 15 *ℤ x -ℤ pos 16 *ℤ b)) ≤ 32 * h
near_both x m b y h j k =
    let i = abs_in (pos 16 *ℤ m -ℤ pos 15 *ℤ x) j in
    let l = abs_in (pos 1 *ℤ y -ℤ (m -ℤ b)) k in
    let o = parts.dif (pos 16 *ℤ m) (pos 15 *ℤ x) in
    let p = parts.dif (pos 1 *ℤ y) (m -ℤ b) in
    let q = parts.dif m b in
    let r = parts.dif (pos 16 *ℤ y) (pos 15 *ℤ x -ℤ pos 16 *ℤ b) in
    let s = parts.dif (pos 15 *ℤ x) (pos 16 *ℤ b) in
    let t = parts.mul 16 m in
    let u = parts.mul 1 y in
    let v = parts.mul 16 y in
    abs_out (pos 16 *ℤ y -ℤ (pos 15 *ℤ x -ℤ pos 16 *ℤ b)) (omega (arith, parts.mul 15 x, parts.mul 16 b)) (omega (arith, parts.mul 15 x, parts.mul 16 b))

same_both : (x m b y : ℤ) → pos 16 *ℤ m ≡ pos 15 *ℤ x → pos 1 *ℤ y ≡ m -ℤ b → pos 16 *ℤ y ≡ pos 15 *ℤ x -ℤ pos 16 *ℤ b
same_both x m b y h k = same_abs (pos 16 *ℤ y) (pos 15 *ℤ x -ℤ pos 16 *ℤ b) (near_both x m b y 0 (abs_same h) (abs_same k))

-- ---- where nothing is lost: the old level is a multiple of 16 · g · 2^1032, and the bracket one of g · 2^1032

-- 15 / 16 of it is such a multiple
sixteenth : (m x t : ℤ) → pos 16 *ℤ m ≡ pos 15 *ℤ x → x ≡ pos 16 *ℤ t → m ≡ pos 15 *ℤ t
sixteenth m x t h k = omega (signs, parts.mul 16 m, parts.mul 15 x, parts.mul 16 t, parts.mul 15 t)

fifteen_size : (x w : ℤ) (g h : ℕ) → x ≡ pos 16 *ℤ (pos (g * h) *ℤ w) → unsigned_abs (pos 15 *ℤ x) ≡ 15 * unsigned_abs w * g * h * 16
fifteen_size x w g h e =
    abs_mul (pos 15) x
    ∙ ap (λ (n : ℕ). 15 * n) (ap unsigned_abs e ∙ abs_mul (pos 16) (pos (g * h) *ℤ w) ∙ ap (λ (n : ℕ). 16 * n) (abs_mul (pos (g * h)) w))
    ∙ simp (mul_assoc, mul_comm, mul_left_comm)

left_over : (m b w c : ℤ) (u : ℕ) → m ≡ pos 15 *ℤ (pos u *ℤ w) → b ≡ pos u *ℤ c → m -ℤ b ≡ pos u *ℤ (pos 15 *ℤ w -ℤ c)
left_over m b w c u e f = rw (e, f, mul_dif u (pos 15 *ℤ w) c, mul_swap u 15 w)

pub record NextNear (y : Float) (x b : ℤ) : Type 0 where
  pub units : ℤ
  pub holds : Units y units
  pub most : unsigned_abs units ≤ largest * 2 ^ 1074
  pub near : unsigned_abs (pos 16 *ℤ units -ℤ (pos 15 *ℤ x -ℤ pos 16 *ℤ b)) ≤ 2 ^ 1036
  pub same : (g : ℕ) (w c : ℤ) → x ≡ pos 16 *ℤ (pos (g * 2 ^ 1032) *ℤ w) → b ≡ pos (g * 2 ^ 1032) *ℤ c
      → (pos 16 *ℤ units ≡ pos 15 *ℤ x -ℤ pos 16 *ℤ b) × (units ≡ pos (g * 2 ^ 1032) *ℤ (pos 15 *ℤ w -ℤ c))

-- 15 / 16 of 1,984 is 1,860, and 124 more is 1,984 again
fifteen : (n l : ℕ) → n ≤ largest * l → 15 * n ≤ 1860 * l * 16
fifteen n l h = omega arith

top_sum : (m b l : ℕ) → m ≤ 1860 * l → b ≤ l * 124 → m + b ≤ largest * l
top_sum m b l h k = omega arith

combined : (p y : Float) (x b : ℤ) (d : Rounded p (pos 15 *ℤ x) 16 (1860 * 2 ^ 42)) → Rounded y (d.units -ℤ b) 1 (largest * 2 ^ 42) → NextNear y x b
combined p y x b d r = record {
  units = r.units;
  holds = r.holds;
  most = r.most;
  near = near_both x d.units b r.units (2 ^ 1031) d.near r.near;
  same = λ g w c e f.
      let u = g * 2 ^ 1032 in
      let v = pos 15 *ℤ w -ℤ c in
      let i : pos 16 *ℤ d.units ≡ pos 15 *ℤ x = d.same (15 * unsigned_abs w * g) (fifteen_size x w g (2 ^ 1032) e) in
      let j : d.units -ℤ b ≡ pos u *ℤ v = left_over d.units b w c u (sixteenth d.units x (pos u *ℤ w) i e) f in
      let k : pos 1 *ℤ r.units ≡ d.units -ℤ b = r.same (g * unsigned_abs v) (ap unsigned_abs j ∙ abs_mul (pos u) v ∙ last g (unsigned_abs v) (2 ^ 1032)) in
      (same_both x d.units b r.units i k, sym (one-mul r.units) ∙ k ∙ j);
}
  where
    last : (g n h : ℕ) → g * h * n ≡ g * n * h * 1
    last g n h = simp (mul-one, mul_assoc, mul_comm)

pub next_near : (level : Float) {x : ℤ} (bracket : ℤ) → Units level x → unsigned_abs x ≤ largest * 2 ^ 1074 → unsigned_abs bracket ≤ 124 →
    NextNear (next level bracket) x (pos (2 ^ 1074) *ℤ bracket)
unfolding next sub
next_near level {x} bracket u h k =
    let b = pos (2 ^ 1074) *ℤ bracket in
    let d = decay_units level (1860 * 2 ^ 42) u (lit< tt) (fifteen (unsigned_abs x) (2 ^ 1074) h) in
    let s : unsigned_abs (neg_ℤ b) ≤ 2 ^ 1074 * 124 = rw (abs_neg b, abs_mul (pos (2 ^ 1074)) bracket) (mul-le-mul_left (2 ^ 1074) k) in
    combined (mul binary64 decay level) (next level bracket) x b d
    (add_units (mul binary64 decay level) (neg (of_int binary64 bracket)) (largest * 2 ^ 42) d.holds
    (neg_units (of_int binary64 bracket) (int_units bracket (le_trans k (lit≤ tt)))) (lit< tt)
    (top_sum (unsigned_abs d.units) (unsigned_abs (neg_ℤ b)) (2 ^ 1074) d.most s))

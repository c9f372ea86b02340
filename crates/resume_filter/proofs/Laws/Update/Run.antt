-- The level after any list of brackets, over units: how far it is from the exact recursion, and that its first eleven values are not off.
-- Assumes nothing.
use Rattle.std.specs.Prelude.{◌≡◌, ℕ, suc, ◌+◌, ◌-◌, ◌*◌, ◌/◌, ◌%◌, ◌^◌, ◌≤◌, List, [], ◌∷◌, length, ℤ, pos, negsuc, ◌+ℤ◌, ◌-ℤ◌, ◌*ℤ◌, neg_ℤ, unsigned_abs, refl, Float}
use Rattle.std.proofs.Common.{sym, ap, ◌∙◌, le_trans, le_of_eq, mul_comm, mul_assoc, mul_left_comm, mul_right_comm, mul-le-mul_left, arith, lit≤, pow-add}
use Rattle.std.proofs.Math.Nat.{pow-succ'}
use Rattle.ground.proofs.Laws.Integers.Parts as parts
use Rattle.ground.proofs.Laws.Integers.Signs.{signs}
use Rattle.ground.proofs.Laws.Integers.Products.{abs_mul, abs_sum, abs_same, mul_dif, mul_mul, mul_swap}
use Rattle.resume_filter.specs.Scaled.{largest}
use Rattle.resume_filter.proofs.Laws.Scaled.Measured.{Units, zero_units}
use Rattle.resume_filter.specs.Update.{start, next, after, empty_of, updated_of, exact, Bracket, Brackets, exacts}
use Rattle.resume_filter.proofs.Laws.Update.Step.{NextNear, next_near}

-- ---- the distance from the exact recursion. p is 16^m and l is 2^1074, x and y the level before and after, e the exact value

-- what the new distance is made of: the update's own error p times, and the old distance 15 times
parted : (py px pb le : ℤ) → pos 16 *ℤ py -ℤ (pos 15 *ℤ le -ℤ pos 16 *ℤ pb) ≡ (pos 16 *ℤ py -ℤ (pos 15 *ℤ px -ℤ pos 16 *ℤ pb)) +ℤ pos 15 *ℤ (px -ℤ le)
parted py px pb le =
    omega (
      signs,
      parts.mul 16 py,
      parts.mul 15 px,
      parts.mul 16 pb,
      parts.mul 15 le,
      parts.mul 15 (px -ℤ le),
      parts.dif px le,
      parts.dif (pos 15 *ℤ le) (pos 16 *ℤ pb),
      parts.dif (pos 15 *ℤ px) (pos 16 *ℤ pb),
      parts.dif (pos 16 *ℤ py) (pos 15 *ℤ le -ℤ pos 16 *ℤ pb),
      parts.dif (pos 16 *ℤ py) (pos 15 *ℤ px -ℤ pos 16 *ℤ pb),
      parts.sum (pos 16 *ℤ py -ℤ (pos 15 *ℤ px -ℤ pos 16 *ℤ pb)) (pos 15 *ℤ (px -ℤ le)),
    )

distance : (p l : ℕ) (x y e b : ℤ) → pos (16 * p) *ℤ y -ℤ pos l *ℤ (pos 15 *ℤ e -ℤ pos (16 * p) *ℤ b)
    ≡ pos p *ℤ (pos 16 *ℤ y -ℤ (pos 15 *ℤ x -ℤ pos 16 *ℤ (pos l *ℤ b))) +ℤ pos 15 *ℤ (pos p *ℤ x -ℤ pos l *ℤ e)
distance p l x y e b =
    rw (
      ← (mul_mul 16 p y),
      ← (mul_mul 16 p b),
      mul_dif l (pos 15 *ℤ e) (pos 16 *ℤ (pos p *ℤ b)),
      mul_swap l 15 e,
      mul_swap l 16 (pos p *ℤ b),
      mul_swap l p b,
      mul_dif p (pos 16 *ℤ y) (pos 15 *ℤ x -ℤ pos 16 *ℤ (pos l *ℤ b)),
      mul_dif p (pos 15 *ℤ x) (pos 16 *ℤ (pos l *ℤ b)),
      mul_swap p 16 y,
      mul_swap p 15 x,
      mul_swap p 16 (pos l *ℤ b),
    )
    (parted (pos p *ℤ y) (pos p *ℤ x) (pos p *ℤ (pos l *ℤ b)) (pos l *ℤ e))

-- within d before and d at the update: within d after. With d = 0: exact
pub near_next : (p l d : ℕ) (x y e b : ℤ) → unsigned_abs (pos p *ℤ x -ℤ pos l *ℤ e) ≤ d * p → unsigned_abs (pos 16 *ℤ y -ℤ (pos 15 *ℤ x -ℤ pos 16 *ℤ (pos l *ℤ b))) ≤ d
    → unsigned_abs (pos (16 * p) *ℤ y -ℤ pos l *ℤ (pos 15 *ℤ e -ℤ pos (16 * p) *ℤ b)) ≤ d * (16 * p)
near_next p l d x y e b h k =
    let u = pos 16 *ℤ y -ℤ (pos 15 *ℤ x -ℤ pos 16 *ℤ (pos l *ℤ b)) in
    let v = pos p *ℤ x -ℤ pos l *ℤ e in
    let i : unsigned_abs (pos p *ℤ u) ≤ p * d = rw (abs_mul (pos p) u) (mul-le-mul_left p k) in
    let j : unsigned_abs (pos 15 *ℤ v) ≤ 15 * (d * p) = rw (abs_mul (pos 15) v) (mul-le-mul_left 15 h) in
    rw (distance p l x y e b) (le_trans (abs_sum (pos p *ℤ u) (pos 15 *ℤ v) i j) (le_of_eq (omega (arith, mul_comm p d, mul_left_comm d 16 p))))

-- ---- the first eleven: after m of them the level is a multiple of 2^(47 − 4·m) · 2^1032 units, which is 2^(5 − 4·m)

finer : (m : ℕ) → suc m ≤ exacts → 2 ^ (47 - 4 * m) ≡ 16 * 2 ^ (47 - 4 * suc m)
finer m h = ap (λ (n : ℕ). 2 ^ n) (four_less m h) ∙ pow-add 2 4 (47 - 4 * suc m)
  where
    four_less : (m : ℕ) → suc m ≤ exacts → 47 - 4 * m ≡ 4 + (47 - 4 * suc m)
    four_less m h = omega arith

level_grain : (m : ℕ) (x w : ℤ) (h : ℕ) → suc m ≤ exacts → x ≡ pos (2 ^ (47 - 4 * m) * h) *ℤ w → x ≡ pos 16 *ℤ (pos (2 ^ (47 - 4 * suc m) * h) *ℤ w)
level_grain m x w h k e =
    e ∙ ap (λ (n : ℕ). pos n *ℤ w) (ap (λ (n : ℕ). n * h) (finer m k) ∙ mul_assoc 16 (2 ^ (47 - 4 * suc m)) h) ∙ sym (mul_mul 16 (2 ^ (47 - 4 * suc m) * h) w)

half : (b : ℤ) → unsigned_abs b % 2 ≡ 0 → (c : ℤ) × (b ≡ pos 2 *ℤ c)
half (pos n) h = (pos (n / 2), omega (signs, parts.mul 2 (pos (n / 2))))
half (negsuc n) h = (neg_ℤ (pos (suc n / 2)), omega (signs, parts.mul 2 (neg_ℤ (pos (suc n / 2))), parts.neg (pos (suc n / 2))))

bracket_grain : (m : ℕ) (b c : ℤ) → suc m ≤ exacts → b ≡ pos 2 *ℤ c → pos (2 ^ 1074) *ℤ b ≡ pos (2 ^ (47 - 4 * suc m) * 2 ^ 1032) *ℤ (pos (2 ^ (4 * m)) *ℤ c)
bracket_grain m b c k e =
    ap (λ (z : ℤ). pos (2 ^ 1074) *ℤ z) e
    ∙ mul_mul (2 ^ 1074) 2 c
    ∙ ap (λ (n : ℕ). pos n *ℤ c) (ap (λ (n : ℕ). n * 2 ^ 1032) (powers m k) ∙ mul_right_comm (2 ^ (47 - 4 * suc m)) (2 ^ (4 * m)) (2 ^ 1032))
    ∙ sym (mul_mul (2 ^ (47 - 4 * suc m) * 2 ^ 1032) (2 ^ (4 * m)) c)
  where
    forty_three : (m : ℕ) → suc m ≤ exacts → 43 ≡ (47 - 4 * suc m) + 4 * m
    forty_three m h = omega arith

    powers : (m : ℕ) → suc m ≤ exacts → 2 ^ 43 ≡ 2 ^ (47 - 4 * suc m) * 2 ^ (4 * m)
    powers m h = ap (λ (n : ℕ). 2 ^ n) (forty_three m h) ∙ pow-add 2 (47 - 4 * suc m) (4 * m)

-- ---- the level after the brackets bs

pub record Level (level : Float) (bs : List ℤ) : Type 0 where
  pub units : ℤ
  pub holds : Units level units
  pub most : unsigned_abs units ≤ largest * 2 ^ 1074
  pub near : unsigned_abs (pos (16 ^ length bs) *ℤ units -ℤ pos (2 ^ 1074) *ℤ exact bs) ≤ 2 ^ 1036 * 16 ^ length bs
  pub same : length bs ≤ exacts → (unsigned_abs (pos (16 ^ length bs) *ℤ units -ℤ pos (2 ^ 1074) *ℤ exact bs) ≤ 0 * 16 ^ length bs) ×
      ((w : ℤ) × (units ≡ pos (2 ^ (47 - 4 * length bs) * 2 ^ 1032) *ℤ w))

at_start : Level start []
unfolding exact
at_start = record {
  units = pos 0;
  holds = zero_units;
  most = lit≤ tt;
  near = lit≤ tt;
  same = λ h. (lit≤ tt, (pos 0, refl));
}

fewer : (m : ℕ) → suc m ≤ exacts → m ≤ exacts
fewer m h = omega arith

one_more : (level : Float) (bs : List ℤ) (b : ℤ) → Bracket b → (v : Level level bs) → NextNear (next level b) v.units (pos (2 ^ 1074) *ℤ b) →
    Level (next level b) (b ∷ bs)
unfolding exact
one_more level bs b k v z =
    let m = length bs in
    let e : 16 ^ suc m ≡ 16 * 16 ^ m = pow-succ' 16 m in
    record {
      units = z.units;
      holds = z.holds;
      most = z.most;
      near = rw e (near_next (16 ^ m) (2 ^ 1074) (2 ^ 1036) v.units z.units (exact bs) b v.near z.near);
      same = λ h.
          let i = v.same (fewer m h) in
          let c = half b k.even in
          let s = z.same (2 ^ (47 - 4 * suc m)) i.1.0 (pos (2 ^ (4 * m)) *ℤ c.0) (level_grain m v.units i.1.0 (2 ^ 1032) h i.1.1)
          (bracket_grain m b c.0 h c.1) in (
            rw e (near_next (16 ^ m) (2 ^ 1074) 0 v.units z.units (exact bs) b i.0 (abs_same s.0)),
            (pos 15 *ℤ i.1.0 -ℤ pos (2 ^ (4 * m)) *ℤ c.0, s.1),
          );
    }

pub level_after : (bs : List ℤ) → Brackets bs → Level (after bs).level bs
unfolding after empty_of updated_of Brackets
level_after [] h = at_start
level_after (b ∷ bs) h =
    let v = level_after bs h.1 in
    one_more (after bs).level bs b h.0 v (next_near (after bs).level b v.holds v.most h.0.most)

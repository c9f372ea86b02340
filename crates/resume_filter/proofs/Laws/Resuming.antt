-- The laws of the resume change: what "to the nearest unit, halves away from zero" is, what a change is under each ITP, and how large.
-- Assumes nothing.
pub mod Examples
use Rattle.std.specs.Prelude.{◌≡◌, ℕ, zero, suc, ◌+◌, ◌-◌, ◌*◌, ◌/◌, ◌%◌, ◌^◌, ◌<◌, ◌≤◌, T, ◌↔◌, ℤ, pos, negsuc, ◌*ℤ◌, neg_ℤ, int_lt, nat_lt, unsigned_abs, refl, Float}
use Rattle.std.proofs.Common.{zero-le, ◌∙◌, subst, le_trans, le_antisymm, lt_of_mul-lt-mul_right, le_of_suc-le-suc, mul-add, add-mul, suc-mul, one-mul, two-mul, mul-le-mul, div-add-mod', mod-lt, div-lt_iff_lt-mul, arith, lit≤, pow_pos}
use Rattle.std.proofs.Math.Path.{sym, ap}
use borrow.Author.Tests.{ltb-true, ltb-false, lt-ltb, le-ltb}
use Rattle.std.proofs.Math.Arith.{digits_div}
use Rattle.std.proofs.Math.IntN.{neg_ℤ-neg_ℤ}
use Rattle.std.specs.Float.{binary64}
use Rattle.std.specs.Float.Ieee.{fits}
use Rattle.ground.proofs.Laws.OnAnswers.{one_answer}
use Rattle.ground.proofs.Laws.Choice.{if_true, if_false, either}
use Rattle.ground.proofs.Laws.Integers.Products.{abs_neg, abs_mul}
use Rattle.resume_filter.specs.declared.Filter.{Filter}
use Rattle.resume_filter.specs.declared.Resume.{Resume}
use Rattle.resume_filter.specs.Scaled.{with_sign, scaled, largest, in_range, Bounded}
use Rattle.resume_filter.proofs.Laws.Scaled.{in_range_lem, range_in}
use Rattle.resume_filter.specs.Update.{IsFilter}
use Rattle.resume_filter.specs.Resuming.{half_up, away, nearest_of, resume_of, ResumeSays, ResumeTold, whole_units_of, IsNearest}

-- ---- v / l to the nearest, a half up; h is half of l

module _ (v l h : ℕ) (e : l ≡ h + h) (L : 0 < l) where
  parted : v / l * l + v % l ≡ v
  parted = div-add-mod' v l

  -- below the middle of its whole part and the next it is the whole part
  down_part : v < v / l * l + h → (v + h) / l ≡ v / l
  down_part k =
      let s : v + h ≡ v / l * l + (v % l + h) = omega (arith, parted) in
      ap (λ (z : ℕ). z / l) s ∙ digits_div (v / l) (omega (arith, parted))

  -- and from there on the next
  up_part : v / l * l + h ≤ v → (v + h) / l ≡ v / l + 1
  up_part k =
      let m : v % l < l = mod-lt v L in
      let s : v + h ≡ (v / l + 1) * l + (v % l - h) = omega (arith, parted, add-mul (v / l) 1 l, one-mul l) in
      ap (λ (z : ℕ). z / l) s ∙ digits_div (v / l + 1) (omega arith)

  -- at most k · l goes to at most k
  most_part : (k : ℕ) → v ≤ k * l → (v + h) / l ≤ k
  most_part k i = le_of_suc-le-suc ((div-lt_iff_lt-mul L).1 (omega (arith, suc-mul k l)))

  between : (2 * ((v + h) / l) * h ≤ v + h) × (v < (2 * ((v + h) / l) + 1) * h)
  between =
      let q = (v + h) / l in
      let d : q * l + (v + h) % l ≡ v + h = div-add-mod' (v + h) l in
      let m : (v + h) % l < l = mod-lt (v + h) L in
      let a : q * l ≡ q * h + q * h = ap (λ (z : ℕ). q * z) e ∙ mul-add q h h in
      omega (arith, add-mul (2 * q) 1 h, one-mul h, add-mul q q h, two-mul q)

pub half_down : (v : ℕ) → v < v / 2 ^ 1074 * 2 ^ 1074 + 2 ^ 1073 → half_up v ≡ v / 2 ^ 1074
unfolding half_up
half_down v k = down_part v (2 ^ 1074) (2 ^ 1073) refl (pow_pos 1074) k

pub half_up_lem : (v : ℕ) → v / 2 ^ 1074 * 2 ^ 1074 + 2 ^ 1073 ≤ v → half_up v ≡ v / 2 ^ 1074 + 1
unfolding half_up
half_up_lem v k = up_part v (2 ^ 1074) (2 ^ 1073) refl (pow_pos 1074) k

-- ---- on either side of zero

pub away_neg : (z : ℤ) → away (neg_ℤ z) ≡ neg_ℤ (away z)
unfolding away half_up
away_neg (pos zero) = refl
away_neg (pos (suc v)) = refl
away_neg (negsuc v) = sym (neg_ℤ-neg_ℤ (pos (half_up (suc v))))

-- its size and its sign
away_size : (z : ℤ) → unsigned_abs (away z) ≡ half_up (unsigned_abs z)
unfolding away
away_size (pos v) = refl
away_size (negsuc v) = abs_neg (pos (half_up (suc v)))

away_side : (z : ℤ) → away z ≡ with_sign (int_lt z (pos 0)) (half_up (unsigned_abs z))
unfolding away
away_side (pos v) = rw (le-ltb v 0 zero-le)
away_side (negsuc v) = refl

-- it is the nearest, as that is said without a division
half_between : (v : ℕ) → (2 * half_up v * 2 ^ 1073 ≤ v + 2 ^ 1073) × (v < (2 * half_up v + 1) * 2 ^ 1073)
unfolding half_up
half_between v = between v (2 ^ 1074) (2 ^ 1073) refl (pow_pos 1074)

pub away_nearest : (z : ℤ) → IsNearest z (away z)
away_nearest z =
    record { side = rw (away_size z) (away_side z); low = rw (away_size z) (half_between (unsigned_abs z)).0; high = rw (away_size z) (half_between (unsigned_abs z)).1 }

-- and nothing else is
pub nearest_unique : {z n m : ℤ} → IsNearest z n → IsNearest z m → n ≡ m
nearest_unique {z} {n} {m} p q =
    p.side
    ∙ ap (with_sign (int_lt z (pos 0)))
    (le_antisymm (at_most (unsigned_abs z) (unsigned_abs n) (unsigned_abs m) (2 ^ 1073) p.low q.high)
    (at_most (unsigned_abs z) (unsigned_abs m) (unsigned_abs n) (2 ^ 1073) q.low p.high))
    ∙ sym q.side
  where
    at_most : (v n m h : ℕ) → 2 * n * h ≤ v + h → v < (2 * m + 1) * h → n ≤ m
    at_most v n m h i j =
        let k : 2 * n * h < (2 * m + 2) * h = omega (arith, add-mul (2 * m) 1 h, add-mul (2 * m) 2 h) in
        let l : 2 * n < 2 * m + 2 = lt_of_mul-lt-mul_right h k in
        omega arith

-- what is at most k units in size goes to at most k
pub away_most : (z : ℤ) (k : ℕ) → unsigned_abs z ≤ k * 2 ^ 1074 → unsigned_abs (away z) ≤ k
unfolding half_up
away_most z k h = rw (away_size z) (most_part (unsigned_abs z) (2 ^ 1074) (2 ^ 1073) refl (pow_pos 1074) k h)

-- ---- a resume change

-- each case is given exactly where it says so of ITP, and no other change is promised
module _ (itp step : ℕ) (command : ℤ) (f : Filter) where
  resume_says : ResumeSays itp step command f (resume_of itp step command f)
  unfolding resume_of
  resume_says =
      either (ResumeSays itp step command f) (nat_lt itp 1) (λ e. (omega (arith, ltb-true itp 1 e), refl))
      (λ e. (ltb-false itp 1 e, refl))

  resume_said : (r : Resume) → ResumeSays itp step command f r → resume_of itp step command f ≡ r
  unfolding resume_of
  resume_said (Resume.Whole units) h = sym (if_true _ _ (lt-ltb itp 1 (omega (arith, h.0)))) ∙ ap Resume.Whole (sym h.1)
  resume_said (Resume.Level level) h = sym (if_false _ _ (le-ltb itp 1 h.0)) ∙ ap Resume.Level (sym h.1)

  pub resume_exactly : (r : Resume) → resume_of itp step command f ≡ r ↔ ResumeSays itp step command f r
  resume_exactly r = (λ e. subst (ResumeSays itp step command f) e resume_says, resume_said r)

  pub resume_told : {r : Resume} → r ≡ resume_of itp step command f → ResumeTold itp step command f r
  resume_told {r} e = record { is = e; says = (resume_exactly r).0 (sym e) }

  pub one_resume : {r t : Resume} → ResumeTold itp step command f r → ResumeTold itp step command f t → r ≡ t
  one_resume a b = one_answer a.is b.is

-- under ITP 0 it is the command times the step, whatever the filter
pub resume_step : (step : ℕ) (command : ℤ) (f : Filter) → whole_units_of (resume_of 0 step command f) ≡ command *ℤ pos step
unfolding resume_of whole_units_of
resume_step step command f = refl

-- under ITP 1 it is the whole number nearest to the level, whatever the command
pub resume_level : {rows : ℕ} (step : ℕ) (command : ℤ) (f : Filter) → IsFilter rows f → IsNearest (scaled f.level) (whole_units_of (resume_of 1 step command f))
unfolding resume_of whole_units_of nearest_of
resume_level step command f h = rw (in_range_lem h.level) (away_nearest (scaled f.level))

nearest_most : (x : Float) → Bounded x → unsigned_abs (nearest_of x) ≤ largest
unfolding nearest_of
nearest_most x h = rw (in_range_lem h) (away_most (scaled x) largest h.most)

-- and it is at most 1,984 units, for a command of −1, 0 or 1, a step of at most 128 and a filter that a state may hold
pub resume_most : {rows : ℕ} (itp step : ℕ) (command : ℤ) (f : Filter) → unsigned_abs command ≤ 1 → step ≤ 128 → IsFilter rows f →
    unsigned_abs (whole_units_of (resume_of itp step command f)) ≤ largest
unfolding resume_of whole_units_of
resume_most itp step command f c s h =
    either (λ (r : Resume). unsigned_abs (whole_units_of r) ≤ largest) (nat_lt itp 1)
    (λ _. rw (abs_mul command (pos step)) (le_trans (mul-le-mul c s) (lit≤ tt)))
    (λ _. nearest_most f.level h.level)

-- for any command and step of a byte, and any number that 64 bits hold, it is at most 128 · 255
pub resume_any : (itp step : ℕ) (command : ℤ) (f : Filter) → unsigned_abs command ≤ 128 → step ≤ 255 → T (fits binary64 f.level) →
    unsigned_abs (whole_units_of (resume_of itp step command f)) ≤ 32640
unfolding resume_of whole_units_of nearest_of
resume_any itp step command f c s h =
    either (λ (r : Resume). unsigned_abs (whole_units_of r) ≤ 32640) (nat_lt itp 1)
    (λ _. rw (abs_mul command (pos step)) (mul-le-mul c s))
    (λ _.
    either (λ (z : ℤ). unsigned_abs z ≤ 32640) (in_range f.level)
    (λ e. le_trans (away_most (scaled f.level) largest (range_in f.level h e).most) (lit≤ tt))
    (λ _. zero-le))

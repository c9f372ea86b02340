-- The laws of the filter, by which crates above use it.
-- Assumes nothing.
mod Examples
mod Run
mod Step
use Rattle.std.specs.Prelude.{◌≡◌, ℕ, zero, suc, ◌+◌, ◌*◌, ◌/◌, ◌%◌, ◌^◌, ◌≤◌, min, Bool, true, ◌&&◌, T, List, [], ◌∷◌, length, ℤ, pos, ◌*ℤ◌, nat_lt, unsigned_abs, refl, Float}
use Rattle.std.proofs.Common.{zero-le, sym, ap, ◌∙◌, le_trans, mul-le-mul_right, zero-mul, mul-zero, one-mul, mul-one, le_of_suc-le-suc, arith, ltb-true, ltb-false, le-ltb, lit≤}
use Rattle.std.proofs.Math.Nat.{mul-mod_left}
use Rattle.std.proofs.Math.Arith.{le-zero}
use Rattle.std.specs.Float.{binary64}
use Rattle.std.specs.Float.Ieee.{fits, mul, of_int}
use Rattle.std.specs.Float.Ieee.Fits.{sub-fits}
use Rattle.ground.proofs.Laws.Choice.{either, chain_off}
use Rattle.ground.proofs.Laws.Integers.Products.{abs_mul, same_abs}
use Rattle.resume_filter.specs.declared.Filter.{Filter}
use Rattle.resume_filter.specs.Scaled.{in_range}
use Rattle.resume_filter.proofs.Laws.Scaled.Measured.{level_units, units_level, scaled_units}
use Rattle.resume_filter.proofs.Laws.Scaled.{in_range_lem, range_in}
use Rattle.resume_filter.specs.Update.{decay, next, share_of, update_bracket, counted, empty_of, updated_of, after, exact, Bracket, Brackets}
use Rattle.resume_filter.specs.Update.{exacts, Follows, Updated, IsFilter, filter_sound, FilterTested}
use Rattle.resume_filter.proofs.Laws.Update.Step.{next_near}
use Rattle.resume_filter.proofs.Laws.Update.Run.{level_after}

-- ---- one update

next_fits : (x : Float) (b : ℤ) → T (fits binary64 (next x b))
unfolding next
next_fits x b = sub-fits binary64 (mul binary64 decay x) (of_int binary64 b)

-- from a level in its range an update by at most 124 stays there, and is near what it should be
pub updated : {rows : ℕ} (f : Filter) (b : ℤ) → IsFilter rows f → unsigned_abs b ≤ 124 → Updated f b (updated_of f b)
unfolding updated_of
updated f b h k =
    let y = next f.level b in
    let z = next_near f.level b (level_units h.level) h.level.most k in
    record { level = units_level y (next_fits f.level b) z.holds z.most; near = rw (scaled_units y z.holds) (le_trans z.near (lit≤ tt)) }

-- ---- any number of updates

counted_one : (n : ℕ) → counted (min n 4294967295) ≡ min (suc n) 4294967295
unfolding counted
counted_one n =
    either (λ (c : ℕ). c ≡ min (suc n) 4294967295) (nat_lt (min n 4294967295) 4294967295) (λ e. omega (arith, ltb-true (min n 4294967295) 4294967295 e))
    (λ e. omega (arith, ltb-false (min n 4294967295) 4294967295 e))

after_count : (bs : List ℤ) → (after bs).count ≡ min (length bs) 4294967295
unfolding after empty_of updated_of
after_count [] = refl
after_count (b ∷ bs) = ap counted (after_count bs) ∙ counted_one (length bs)

after_fits : (bs : List ℤ) → T (fits binary64 (after bs).level)
unfolding after empty_of updated_of fits
after_fits [] = tt
after_fits (b ∷ bs) = next_fits (after bs).level b

-- a history of brackets, one after the other
pub after_none : after [] ≡ empty_of
unfolding after
after_none = refl

pub after_more : (b : ℤ) (bs : List ℤ) → after (b ∷ bs) ≡ updated_of (after bs) b
unfolding after
after_more b bs = refl

pub brackets_none : Brackets []
unfolding Brackets
brackets_none = tt

pub brackets_more : (b : ℤ) (bs : List ℤ) → Bracket b → Brackets bs → Brackets (b ∷ bs)
unfolding Brackets
brackets_more b bs h k = (h, k)

-- from the empty filter any brackets lead to a level that follows the exact recursion
pub followed : (bs : List ℤ) → Brackets bs → Follows (after bs) bs
followed bs h =
    let v = level_after bs h in
    let e = scaled_units (after bs).level v.holds in
    let c = after_count bs in
    record {
      level = units_level (after bs).level (after_fits bs) v.holds v.most;
      near = rw e (le_trans v.near (mul-le-mul_right (16 ^ length bs) (lit≤ tt)));
      first =
          λ (k : (after bs).count ≤ exacts).
          rw e
          (same_abs (pos (16 ^ length bs) *ℤ v.units) (pos (2 ^ 1074) *ℤ exact bs)
          (rw (zero-mul (16 ^ length bs)) at (v.same (few (length bs) (after bs).count c k)).0));
      counts = c;
    }
  where
    few : (n c : ℕ) → c ≡ min n 4294967295 → c ≤ exacts → n ≤ exacts
    few n c e h = omega arith

-- ---- the bracket

-- a command of −1, 0 or 1 and a step of 64 or 128 make a bracket, whatever is limited
pub bracket_is : (command : ℤ) (step : ℕ) (limited-before limited_now : Bool) → unsigned_abs command ≤ 1 → step ≤ 128 → step % 64 ≡ 0 →
    Bracket (update_bracket command step limited-before limited_now)
unfolding update_bracket share_of
bracket_is command step limited-before limited_now h k e =
    let z = command *ℤ pos (share_of step) in
    either (λ (n : ℕ). Bracket (z *ℤ pos n)) (limited-before && limited_now)
    (λ _. sized (z *ℤ pos 0) 0 (abs_mul z (pos 0) ∙ mul-zero (unsigned_abs z)) zero-le refl)
    (λ _. sized (z *ℤ pos 1) (unsigned_abs command * share_of step) (abs_mul z (pos 1) ∙ mul-one (unsigned_abs z) ∙ abs_mul command (pos (share_of step)))
    (small (unsigned_abs command) step h k) (even (unsigned_abs command) step h e))
  where
    sized : (b : ℤ) (n : ℕ) → unsigned_abs b ≡ n → n ≤ 124 → n % 2 ≡ 0 → Bracket b
    sized b n e h k = record { most = rw e h; even = rw e k }

    small : (c s : ℕ) → c ≤ 1 → s ≤ 128 → c * (s * 31 / 32) ≤ 124
    small zero s h k = rw zero-mul zero-le
    small (suc c) s h k = rw (le-zero (le_of_suc-le-suc h), one-mul) (omega arith)

    even : (c s : ℕ) → c ≤ 1 → s % 64 ≡ 0 → c * (s * 31 / 32) % 2 ≡ 0
    even zero s h e = rw zero-mul
    even (suc c) s h e = let t : s * 31 / 32 ≡ s / 64 * 31 * 2 = omega arith in rw (le-zero (le_of_suc-le-suc h), one-mul, t, mul-mod_left (s / 64 * 31) 2)

-- ---- a filter in a state, after so many rows

pub empty_in : {rows : ℕ} → IsFilter rows empty_of
unfolding empty_of after
empty_in = record { level = (followed [] brackets_none).level; count = zero-le }

pub updated_in : {rows : ℕ} {f : Filter} (b : ℤ) → IsFilter rows f → unsigned_abs b ≤ 124 → IsFilter (rows + 1) (updated_of f b)
unfolding updated_of counted
updated_in {rows} {f} b h k = record {
  level = (updated f b h k).level;
  count = either (λ (n : ℕ). n ≤ rows + 1) (nat_lt f.count 4294967295) (λ _. omega (arith, h.count)) (λ _. omega (arith, h.count));
}

pub later_in : {rows : ℕ} {f : Filter} → IsFilter rows f → IsFilter (rows + 1) f
later_in h = record { level = h.level; count = omega (arith, h.count) }

-- what passed the test
pub sound_in : {rows : ℕ} {f : Filter} {answer : Bool} → FilterTested f rows answer → answer ≡ true → IsFilter rows f
unfolding filter_sound
sound_in {rows} {f} t e =
    let h = chain_off (nat_lt rows f.count) (in_range f.level) (sym t.is ∙ e) in
    record { level = range_in f.level t.fits h.1; count = ltb-false rows f.count h.0 }

pub in_sound : {rows : ℕ} {f : Filter} → IsFilter rows f → filter_sound f rows ≡ true
unfolding filter_sound
in_sound {rows} {f} h = rw (le-ltb rows f.count h.count) (in_range_lem h.level)

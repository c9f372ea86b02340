-- What one sequence makes of a frame: patterns are whole frames, so that a frame's slots follow each other in a pattern.
-- Assumes nothing.
use Rattle.std.proofs.Common.{Some, None}
use Prim.Native.Nat.{ℕ, suc, ◌+◌, ◌-◌, ◌*◌, ◌/◌, ◌%◌, ◌^◌, ◌≤◌, ◌<◌, min}
use mathlib.Core.Path.{◌≡◌, refl, sym, ap, ap₂, ◌∙◌}
use mathlib.Core.Bool.{Bool, true, false, ◌&&◌, ◌||◌}
use native.Mathlib.Nat.{add-zero, div-add-mod', mod-lt}
use native.Mathlib.Omega.{arith}
use borrow.Author.Tests.{leb-true, leb-false, ltb-true, ltb-false, le-leb, lt-leb}
use lib.Dec.{leb, ltb}
use Rattle.ground.specs.Choice.{when◌then◌else◌}
use Rattle.ground.proofs.Laws.Choice.{alike, both}
use Rattle.gap_records.specs.declared.Sequence.{Sequence}
use Rattle.gap_slots.specs.Slots.{lies, active, in_pattern, pattern_place, in_gap, standing}
use Rattle.gap_slots.proofs.Laws.Slots.{quotient, remainder}
use Rattle.ground.specs.Bits.{packed}
use Rattle.ground.proofs.Laws.Bits.{packed_same, packed_none, packed_or, within, packed_span}
use Rattle.gap_frames.specs.Asks.{span_bits, pattern_bits, bits_at, gap_bits}

-- two tests that come out alike
same_leb : (a b c d : ℕ) → (a ≤ b → c ≤ d) → (b < a → d < c) → leb a b ≡ leb c d
same_leb a b c d f g = alike (leb a b) (leb c d) (λ e. le-leb c d (f (leb-true a b e))) (λ e. lt-leb c d (g (leb-false a b e)))

-- ---- a gap

module _ (begin size from : ℕ) where
  -- where a gap begins in the frame
  abbrev pub lower : ℕ
  lower = min 15 (begin - from)

  -- and where it ends
  abbrev pub upper : ℕ
  upper = min 15 (begin + size - from)

  -- it does not end before it begins
  pub in_order : lower ≤ upper
  in_order = omega arith

  -- its slots
  pub span_is : span_bits begin size from ≡ 2 ^ (3 * upper) - 2 ^ (3 * lower)
  unfolding span_bits lies
  span_is =
      packed_same _ (within (3 * lower) (3 * upper)) 45
      (λ t h.
      ap₂ (λ (a b : Bool). a && b)
      (same_leb begin (from + t / 3) (3 * lower) t (λ e. omega arith) (λ e. omega arith))
      (same_leb (suc (from + t / 3)) (begin + size) (suc t) (3 * upper) (λ e. omega arith) (λ e. omega arith)))
      ∙ packed_span 45 (3 * lower) (3 * upper) (omega (arith, in_order)) (omega arith)

-- ---- a pattern

-- a second gap of no slots holds none
second : (from size place : ℕ) → lies from size place ≡ (ltb 0 size && lies from size place)
unfolding lies
second from size place = by (ltb 0 size) refl
  where
    by : (t : Bool) → ltb 0 size ≡ t → (leb from place && ltb place (from + size)) ≡ (t && (leb from place && ltb place (from + size)))
    by true p = refl
    by false p =
        alike _ false
        (λ e.
        let h = both (leb from place) (ltb place (from + size)) e in
        let z : ⊥ = omega (arith, ltb-false 0 size p, leb-true from place h.0, ltb-true place (from + size) h.1) in
        absurd z)
        (λ e. refl)

-- the slots of both gaps are those of the pattern's rule
pattern_is : (tgsn tgl1 tgl2 tgd from : ℕ) → pattern_bits tgsn tgl1 tgl2 tgd from ≡ packed (λ t. in_pattern tgsn tgl1 tgl2 tgd (from + t / 3)) 45
unfolding pattern_bits span_bits in_pattern
pattern_is tgsn tgl1 tgl2 tgd from =
    packed_or _ _ 45 ∙ packed_same _ _ 45 (λ t _. ap (λ (b : Bool). lies tgsn tgl1 (from + t / 3) || b) (second (tgsn + tgd) tgl2 (from + t / 3)))

-- ---- a sequence

-- a frame's slots, counted from the start frame: so many whole patterns, and places in the next that follow each other
module _ (number start size j : ℕ) (l : start ≤ number) (h : 1 ≤ size) (k : j < 15) where
  -- the sum
  stands : 15 * number + j - 15 * start ≡ (number - start) / size * (15 * size) + (15 * ((number - start) % size) + j)
  stands = let e = div-add-mod' (number - start) size in omega arith

  -- a place of the pattern
  inside : 15 * ((number - start) % size) + j < 15 * size
  inside = let m = mod-lt (number - start) h in omega arith

  -- so many whole patterns
  count : (15 * number + j - 15 * start) / (15 * size) ≡ (number - start) / size
  count = rw stands (quotient (15 * size) _ _ inside)

  -- and the place
  place : (15 * number + j - 15 * start) % (15 * size) ≡ 15 * ((number - start) % size) + j
  place = rw stands (remainder (15 * size) _ _ inside)

-- tests behind two that hold
behind : (a b : Bool) {c d x y : Bool} → (a ≡ true → b ≡ true → c ≡ d) → (a ≡ true → b ≡ true → x ≡ y) → ((a && (b && c)) && x) ≡ ((a && (b && d)) && y)
behind true true f g = rw (f refl refl, g refl refl)
behind true false f g = refl
behind false b f g = refl

module _ (q : Sequence) (number : ℕ) where
  -- where the frame begins, and where in the pattern
  abbrev first : ℕ
  first = 15 * number

  abbrev from : ℕ
  from = pattern_place q first

  -- the rule at a slot of the frame: whether the sequence is active is one answer for all of them
  gap_is : (j : ℕ) → j < 15 → in_gap q (first + j) ≡ (active q first && in_pattern q.tgsn q.tgl1 q.tgl2 q.tgd (from + j))
  unfolding in_gap active
  gap_is j h =
      rw (same_leb (15 * q.start) (first + j) (15 * q.start) first (λ e. omega arith) (λ e. omega arith))
      (behind (leb (15 * q.start) first) (leb 1 (15 * q.tgpl))
      (λ a b. let s = in_frame a b in rw s.0)
      (λ a b. let s = in_frame a b in rw s.1))
    where
      in_frame : leb (15 * q.start) first ≡ true → leb 1 (15 * q.tgpl) ≡ true →
          ((first + j - 15 * q.start) / (15 * q.tgpl) ≡ (first - 15 * q.start) / (15 * q.tgpl)) × (pattern_place q (first + j) ≡ from + j)
      in_frame a b =
          let l : q.start ≤ number = omega (arith, leb-true (15 * q.start) first a) in
          let m : 1 ≤ q.tgpl = omega (arith, leb-true 1 (15 * q.tgpl) b) in
          let o : 0 < 15 = omega arith in
          let e = rw (add-zero first) at (count number q.start q.tgpl 0 l m o) in
          let f = rw (add-zero first, add-zero (15 * ((number - q.start) % q.tgpl))) at (place number q.start q.tgpl 0 l m o) in
          (rw e (count number q.start q.tgpl j l m h), rw f (place number q.start q.tgpl j l m h))

  -- the frame's slots in a gap
  pub gaps_are : gap_bits q first ≡ packed (λ t. in_gap q (first + t / 3)) 45
  unfolding gap_bits standing
  gaps_are = by (active q first) ∙ sym (packed_same _ _ 45 (λ t h. gap_is (t / 3) (omega arith)))
    where
      by : (t : Bool) →
          bits_at q (when t then Some from else None) ≡ packed (λ j. t && in_pattern q.tgsn q.tgl1 q.tgl2 q.tgd (from + j / 3)) 45
      by true = pattern_is q.tgsn q.tgl1 q.tgl2 q.tgd from
      by false = sym (packed_none _ 45 (λ j _. refl))

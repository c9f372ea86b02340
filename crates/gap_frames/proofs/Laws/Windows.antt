-- The laws of a window, by which crates above use it: taken slot by slot from an empty one, it says what the slot rule says.
-- Assumes nothing.
use Rattle.std.specs.Prelude.{ℕ, zero, suc, ◌+◌, ◌-◌, ◌*◌, ◌/◌, ◌%◌, ◌^◌, ◌≤◌, ◌≡◌, refl, List, Bool, true, false, eqb}
use Rattle.std.proofs.Math.Path.{sym, ap, ap₂}
use Rattle.std.proofs.Common.{◌∙◌, add-zero}
use native.Mathlib.Omega.{arith}
use Rattle.std.proofs.lemmas.Bool.{eqb-false}
use Rattle.ground.proofs.Laws.Choice.{either}
use Rattle.ground.specs.Bits.{bit, packed}
use Rattle.ground.proofs.Laws.Bits.{packed_same, packed_shift, first_bit}
use Rattle.ground.specs.Sums.{sum_of, is_in}
use Rattle.ground.proofs.Laws.Sums.{sum_packed, in_sum}
use Rattle.constants.specs.Sizes.{id_most}
use Rattle.gap_slots.specs.declared.Slot.{Slot}
use Rattle.gap_slots.specs.Slots.{slot_by, slot_at}
use Rattle.gap_slots.proofs.Laws.Slots.{slot_by_lem, no_gap_lem}
use Rattle.gap_frames.specs.declared.Lanes.{Lanes}
use Rattle.gap_frames.specs.declared.Window.{Window}
use Rattle.gap_frames.specs.declared.Taken.{Taken}
use Rattle.gap_frames.specs.Windows.{any_gap, lane_of, lanes_of, uplink_sets, downlink_sets, ids_at, window_at, lowest_of, taken_of}
use Rattle.gap_frames.specs.Kept.{Kept}

-- ---- the ids of a slot

-- the lowest three bits
three_bits : (f : ℕ → Bool) (n : ℕ) → 3 ≤ n → packed f n % 8 ≡ bit (f 0) + 2 * bit (f 1) + 4 * bit (f 2)
unfolding packed
three_bits f zero h = let z : ⊥ = omega arith in absurd z
three_bits f (suc zero) h = let z : ⊥ = omega arith in absurd z
three_bits f (suc (suc zero)) h = let z : ⊥ = omega arith in absurd z
three_bits f (suc (suc (suc n))) h = by (f 0) (f 1) (f 2) (packed (λ j. f (suc (suc (suc j)))) n)
  where
    by : (a b c : Bool) (m : ℕ) → (bit a + 2 * (bit b + 2 * (bit c + 2 * m))) % 8 ≡ bit a + 2 * bit b + 4 * bit c
    by true true true m = omega arith
    by true true false m = omega arith
    by true false true m = omega arith
    by true false false m = omega arith
    by false true true m = omega arith
    by false true false m = omega arith
    by false false true m = omega arith
    by false false false m = omega arith

module _ (sets : ℕ → ℕ) (first place : ℕ) (h : place ≤ 14) where
  -- whether the slot's set has an id
  abbrev has : ℕ → ℕ
  has id = bit (is_in (sets (first + place)) id)

  -- those of a lane
  lane_at : (least : ℕ) → lane_of sets first least / 2 ^ (3 * place) % 8 ≡ has (0 + least) + 2 * has (1 + least) + 4 * has (2 + least)
  lane_at least =
      ap (λ (n : ℕ). n % 8) (packed_shift (λ t. is_in (sets (first + t / 3)) (t % 3 + least)) 45 (3 * place))
      ∙ three_bits (λ t. is_in (sets (first + (3 * place + t) / 3)) ((3 * place + t) % 3 + least)) (45 - 3 * place) (omega arith)
      ∙ rw (at 0 (omega arith), at 1 (omega arith), at 2 (omega arith), left 0 (omega arith), left 1 (omega arith), left 2 (omega arith))
    where
      at : (t : ℕ) → t ≤ 2 → (3 * place + t) / 3 ≡ place
      at t l = omega arith

      left : (t : ℕ) → t ≤ 2 → (3 * place + t) % 3 ≡ t
      left t l = omega arith

  -- and those of both lanes are the set, which is a sum
  ids_at_lem : (test : ℕ → Bool) → sets (first + place) ≡ sum_of test id_most → ids_at (lanes_of sets first) place ≡ sets (first + place)
  unfolding ids_at packed
  ids_at_lem test e =
      let is : (id : ℕ) → 1 ≤ id → id ≤ id_most → has id ≡ bit (test id) = λ id h l. ap (λ (n : ℕ). bit (is_in n id)) e ∙ ap bit (in_sum test id_most id h l) in
      let low = rw (is 1 (omega arith) (omega arith), is 2 (omega arith) (omega arith), is 3 (omega arith) (omega arith)) at (lane_at 1) in
      let high = rw (is 4 (omega arith) (omega arith), is 5 (omega arith) (omega arith), is 6 (omega arith) (omega arith)) at (lane_at 4) in
      rw (low, high, e, sum_packed test id_most) (omega arith)

-- ---- windows

-- an empty window tells nothing, at any slot: where a run begins
pub kept_none : (s : List ℕ) (slot : ℕ) (up down : Lanes) → Kept s slot (record { left = 0; gaps = 0; up = up; down = down })
unfolding packed
kept_none s slot up down = record { gaps = refl; ids = λ h. absurd (let z : ⊥ = omega arith in z) }

-- the window at a slot tells its slots
kept_at : (s : List ℕ) (slot : ℕ) → Kept s slot (window_at s slot)
unfolding window_at
kept_at s slot =
    let e : 45 - 3 * (slot % 15) ≡ 3 * (15 - slot % 15) = omega arith in
    record {
      gaps = ap (packed (λ t. any_gap s (slot + t / 3))) e;
      ids = λ h. record { first = 15 * (slot / 15); few = omega arith; stands = omega arith; up = refl; down = refl };
    }

-- and at least one
pub some_left : (s : List ℕ) (slot : ℕ) → 1 ≤ (window_at s slot).left
unfolding window_at
some_left s slot = omega arith

module _ (s : List ℕ) (slot : ℕ) (w : Window) (h : 1 ≤ w.left) (k : Kept s slot w) where
  -- the ids of the next slot are those of the slot rule
  lowest_ids : record { up = ids_at w.up (15 - w.left); down = ids_at w.down (15 - w.left) } ≡ slot_at s slot
  unfolding slot_by
  lowest_ids =
      let f = k.ids h in
      let l : 15 - w.left ≤ 14 = omega arith in
      let here : f.first + (15 - w.left) ≡ slot = omega (arith, f.few, f.stands) in
      ap₂ (λ (u d : ℕ). record { up = u; down = d })
      (ap (λ (x : Lanes). ids_at x (15 - w.left)) f.up
      ∙ ids_at_lem (uplink_sets s) f.first (15 - w.left) l _ (ap (λ (x : Slot). x.up) (slot_by_lem s _)) ∙ ap (uplink_sets s) here)
      (ap (λ (x : Lanes). ids_at x (15 - w.left)) f.down
      ∙ ids_at_lem (downlink_sets s) f.first (15 - w.left) l _ (ap (λ (x : Slot). x.down) (slot_by_lem s _)) ∙ ap (downlink_sets s) here)

  -- a window that has a slot left: where its lowest bit is 0 no sequence opens the slot
  lowest_slot : (lowest_of w).slot ≡ slot_at s slot
  unfolding lowest_of any_gap
  lowest_slot =
      let here = first_bit (λ t. any_gap s (slot + t / 3)) (3 * w.left) w.gaps (omega arith) k.gaps ∙ ap (any_gap s) (add-zero slot) in
      either (λ (x : Slot). x ≡ slot_at s slot) (eqb (w.gaps % 2) 1) (λ e. lowest_ids) (λ e. sym (no_gap_lem s slot (sym here ∙ e)))

  -- and the rest tells the slots after it
  lowest_rest : Kept s (slot + 1) (lowest_of w).rest
  unfolding lowest_of
  lowest_rest =
      let next : (t : ℕ) → slot + (3 + t) / 3 ≡ slot + 1 + t / 3 = λ t. omega arith in
      let e : 3 * w.left - 3 ≡ 3 * (w.left - 1) = omega arith in
      let f = k.ids h in
      record {
        gaps = ap (λ (n : ℕ). n / 8) k.gaps ∙ packed_shift (λ t. any_gap s (slot + t / 3)) (3 * w.left) 3
            ∙ rw e (packed_same _ _ (3 * (w.left - 1)) (λ t _. rw (next t)));
        ids = λ l. record { first = f.first; few = omega (arith, f.few); stands = omega (arith, f.stands); up = f.up; down = f.down };
      }

-- a window that is not empty has a slot left
not_none : {n : ℕ} → eqb n 0 ≡ false → 1 ≤ n
not_none {n} e = let f = eqb-false n 0 e in omega arith

module _ {s : List ℕ} {slot : ℕ} {w : Window} (k : Kept s slot w) where
  -- a slot that is taken is what the slot rule says of it
  pub taken_slot : (taken_of s w slot).slot ≡ slot_at s slot
  unfolding taken_of
  taken_slot =
      either (λ (t : Taken). t.slot ≡ slot_at s slot) (eqb w.left 0)
      (λ e. lowest_slot s slot (window_at s slot) (some_left s slot) (kept_at s slot)) (λ e. lowest_slot s slot w (not_none e) k)

  -- and the window that is left tells the slots after it
  pub taken_rest : Kept s (slot + 1) (taken_of s w slot).rest
  unfolding taken_of
  taken_rest =
      either (λ (t : Taken). Kept s (slot + 1) t.rest) (eqb w.left 0)
      (λ e. lowest_rest s slot (window_at s slot) (some_left s slot) (kept_at s slot)) (λ e. lowest_rest s slot w (not_none e) k)

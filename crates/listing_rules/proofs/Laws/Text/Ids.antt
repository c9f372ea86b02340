-- The column `by`, computed, and its laws: its ids are those of either set, rising and each once; how long its text is; and that the text reads back as the
-- ids.
-- Assumes nothing.
use Prim.Native.Nat.{ℕ, zero, suc, ◌+◌, ◌-◌, ◌*◌, ◌≤◌, ◌<◌}
use Rattle.std.specs.Prelude.{◌≡◌, refl, ◌↔◌, ◌⊎◌, Bool, ◌||◌, ℤ, pos, negsuc, length, get_or}
use Rattle.std.proofs.Common.{sym, ap, ◌∙◌, not-suc-le-zero, le-leb, lt-ltb, length-append}
use Rattle.std.proofs.Math.Logic.{⊎_elim}
use Rattle.std.proofs.Math.Bool.{true, false}
use mathlib.Core.List.{List, [], ◌∷◌, ◌++◌, append-nil, Memᴰ}
use native.Mathlib.Omega.{arith}
use Rattle.ground.specs.Choice.{when◌then◌else◌}
use Rattle.ground.proofs.Laws.Choice.{either}
use Rattle.ground.proofs.Laws.Ranges.{last_or_before}
use Rattle.ground.specs.Sums.{is_in, sum_of}
use Rattle.ground.proofs.Laws.Sums.{in_sum}
use Rattle.ground.proofs.Laws.Some.{one_of}
use Rattle.constants.specs.Sizes.{id_most}
use Rattle.row_values.specs.declared.Answer.{Answer}
use Rattle.listing_rules.specs.Text.{bytes, digits, decimal, set_in, in_either, passing, ids_of, later_ids, ids_text, by_field}
use Rattle.listing_rules.specs.Text.Reading.{ids_read}

-- ---- computed

-- an answer with two sets
abbrev gap : (uplink downlink : ℤ) → Answer
gap uplink downlink =
    record { state = pos 0; command = pos 0; dpcch = pos 0; dpdch = pos 0; total = pos 0; held = pos 0; uplink = uplink; downlink = downlink }

-- an id of both directions is there once; ids rise, in one direction and over both; all six
ids :
    (by_field (gap (pos 4) (pos 4)) ≡ bytes " 3") × (by_field (gap (pos 18) (pos 0)) ≡ bytes " 2,5") × (by_field (gap (pos 16) (pos 2)) ≡ bytes " 2,5")
    × (by_field (gap (pos 1) (pos 2)) ≡ bytes " 1,2") × (by_field (gap (pos 63) (pos 9)) ≡ bytes " 1,2,3,4,5,6")
unfolding by_field decimal digits ids_of ids_text in_either is_in later_ids passing
ids = (refl, refl, refl, refl, refl)

-- no id: a number below zero stands for none, and a bit of no id counts for nothing
dashes :
    (by_field (gap (pos 0) (pos 0)) ≡ bytes " -") × (by_field (gap (negsuc 0) (pos 32)) ≡ bytes " 6") × (by_field (gap (pos 64) (pos 2147483584)) ≡ bytes " -")
unfolding by_field decimal digits ids_of ids_text in_either is_in later_ids passing
dashes = (refl, refl, refl)

-- ---- the ids

-- of 1 to n those that pass a test, and no other
module _ (test : ℕ → Bool) where
  passing_told : (n k : ℕ) → Memᴰ k (passing test n) → (1 ≤ k) × (k ≤ n) × (test k ≡ true)
  unfolding passing
  passing_told zero k m = absurd (mathlib.Core.List.Memᴰ.not-nil m)
  passing_told (suc n) k m =
      ⊎_elim (λ (h : Memᴰ k (passing test n)). let g = passing_told n k h in (g.0, omega (arith, g.1), g.2))
      (last (test (suc n)) refl)
      (mathlib.Core.List.Memᴰ.append_cases (passing test n) m)
    where
      last : (t : Bool) → test (suc n) ≡ t → Memᴰ k (when t then suc n ∷ [] else []) → (1 ≤ k) × (k ≤ suc n) × (test k ≡ true)
      last true e h = let q : k ≡ suc n = mathlib.Core.List.Memᴰ.eq_of_singleton h in (omega arith, omega arith, rw q e)
      last false e h = absurd (mathlib.Core.List.Memᴰ.not-nil h)

  passing_has : (n k : ℕ) → 1 ≤ k → k ≤ n → test k ≡ true → Memᴰ k (passing test n)
  unfolding passing
  passing_has zero k h l e = let z : ⊥ = omega arith in absurd z
  passing_has (suc n) k h l e =
      last_or_before (λ (i : ℕ). 1 ≤ i → test i ≡ true → Memᴰ i (passing test (suc n))) {i = k} {k = suc n} l
      (λ h e. mathlib.Core.List.Memᴰ.append_right (passing test n) (rw e (mathlib.Core.List.Memᴰ.head refl)))
      (λ b h e. mathlib.Core.List.Memᴰ.append_left _ (passing_has n k h (omega arith) e)) h e

  pub passing_exactly : (n k : ℕ) → Memᴰ k (passing test n) ↔ ((1 ≤ k) × (k ≤ n) × (test k ≡ true))
  passing_exactly n k = (passing_told n k, λ h. passing_has n k h.0 h.1 h.2)

-- no more of them than numbers asked
pub passing_length : (test : ℕ → Bool) (n : ℕ) → length (passing test n) ≤ n
unfolding passing
passing_length test zero = omega arith
passing_length test (suc n) =
    either (λ (l : List ℕ). length (passing test n ++ l) ≤ suc n) (test (suc n))
    (λ e. simp length-append (omega (arith, passing_length test n))) (λ e. simp length-append (omega (arith, passing_length test n)))

-- none is above the last number asked
pub passing_most : (test : ℕ → Bool) (n j : ℕ) → get_or (passing test n) j 0 ≤ n
unfolding passing
passing_most test zero j = omega arith
passing_most test (suc n) j =
    either (λ (l : List ℕ). get_or (passing test n ++ l) j 0 ≤ suc n) (test (suc n))
    (λ e. more (passing test n) j (passing_most test n)) (λ e. rw append-nil (omega (arith, passing_most test n j)))
  where
    more : (l : List ℕ) (j : ℕ) → ((i : ℕ) → get_or l i 0 ≤ n) → get_or (l ++ suc n ∷ []) j 0 ≤ suc n
    more [] zero f = omega arith
    more [] (suc j) f = omega arith
    more (x ∷ l) zero f = omega (arith, f 0)
    more (x ∷ l) (suc j) f = more l j (λ i. f (suc i))

-- each is below the next
pub passing_rising : (test : ℕ → Bool) (n j : ℕ) → suc j < length (passing test n) → get_or (passing test n) j 0 < get_or (passing test n) (suc j) 0
unfolding passing
passing_rising test zero j h = absurd (not-suc-le-zero h)
passing_rising test (suc n) j h =
    either (λ (l : List ℕ). suc j < length (passing test n ++ l) → get_or (passing test n ++ l) j 0 < get_or (passing test n ++ l) (suc j) 0) (test (suc n))
    (λ e. more (passing test n) j (passing_rising test n) (passing_most test n)) (λ e. rw append-nil (passing_rising test n j)) h
  where
    more : (l : List ℕ) (j : ℕ) → ((i : ℕ) → suc i < length l → get_or l i 0 < get_or l (suc i) 0) → ((i : ℕ) → get_or l i 0 ≤ n) →
        suc j < length (l ++ suc n ∷ []) → get_or (l ++ suc n ∷ []) j 0 < get_or (l ++ suc n ∷ []) (suc j) 0
    more [] j f g h = let z : ⊥ = omega arith in absurd z
    more (x ∷ []) zero f g h = omega (arith, g 0)
    more (x ∷ y ∷ l) zero f g h = f 0 (omega arith)
    more (x ∷ l) (suc j) f g h = more l j (λ i k. f (suc i) (omega arith)) (λ i. g (suc i)) (omega arith)

-- "the ids of either direction": one of 1 to the largest is there exactly when it is in the uplink set or in the downlink set
pub ids_exactly : (a : Answer) (id : ℕ) → Memᴰ id (ids_of a)
    ↔ ((1 ≤ id) × (id ≤ id_most) × ((is_in (set_in a.uplink) id ≡ true) ⊎ (is_in (set_in a.downlink) id ≡ true)))
unfolding ids_of in_either
ids_exactly a id =
    let p = passing_exactly (in_either a) id_most id in
    let q = one_of (is_in (set_in a.uplink) id) (is_in (set_in a.downlink) id) in
    (λ m. let h = p.0 m in (h.0, h.1, q.0 h.2), λ h. p.1 (h.0, h.1, q.1 h.2))

-- "each once, rising"
pub ids_rising : (a : Answer) (j : ℕ) → suc j < length (ids_of a) → get_or (ids_of a) j 0 < get_or (ids_of a) (suc j) 0
unfolding ids_of
ids_rising a j = passing_rising (in_either a) id_most j

-- one digit each, and six at most
pub ids_most : (a : Answer) (j : ℕ) → get_or (ids_of a) j 0 ≤ id_most
unfolding ids_of
ids_most a j = passing_most (in_either a) id_most j

pub ids_length : (a : Answer) → length (ids_of a) ≤ id_most
unfolding ids_of
ids_length a = passing_length (in_either a) id_most

-- ---- how long the text is

-- a number of one digit
pub one_digit : (n : ℕ) → n < 10 → decimal n ≡ (48 + n) ∷ []
unfolding decimal digits
one_digit n h = rw (lt-ltb n 10 h)

-- two bytes for each id after the first
pub later_length : (l : List ℕ) → ((j : ℕ) → get_or l j 0 < 10) → length (later_ids l) ≡ 2 * length l
unfolding later_ids
later_length [] h = refl
later_length (x ∷ l) h = rw (one_digit x (h 0)) (omega (arith, later_length l (λ j. h (suc j))))

text_length : (l : List ℕ) → ((j : ℕ) → get_or l j 0 < 10) → length l ≤ 6 → length (ids_text l) ≤ 11
unfolding ids_text
text_length [] h k = omega arith
text_length (x ∷ l) h k = rw (one_digit x (h 0)) (omega (arith, later_length l (λ j. h (suc j))))

-- a space, six ids, five commas
pub by_length : (a : Answer) → length (by_field a) ≤ 12
unfolding by_field
by_length a = omega (arith, text_length (ids_of a) (λ j. omega (arith, ids_most a j)) (ids_length a))

-- ---- the text reads back

-- an id of one digit, then more
read_id : (x : ℕ) (t : List ℕ) → x < 10 → ids_read (decimal x ++ t) ≡ x ∷ ids_read t
unfolding ids_read
read_id x t h = let e : 48 + x - 48 ≡ x = omega arith in rw (one_digit x h, le-leb 48 (48 + x) (omega arith), e)

read_later : (l : List ℕ) → ((j : ℕ) → get_or l j 0 < 10) → ids_read (later_ids l) ≡ l
unfolding ids_read later_ids
read_later [] h = refl
read_later (x ∷ l) h = read_id x (later_ids l) (h 0) ∙ ap (λ (m : List ℕ). x ∷ m) (read_later l (λ j. h (suc j)))

-- ids of one digit each
pub text_back : (l : List ℕ) → ((j : ℕ) → get_or l j 0 < 10) → ids_read (ids_text l) ≡ l
unfolding ids_read ids_text
text_back [] h = refl
text_back (x ∷ l) h = read_id x (later_ids l) (h 0) ∙ ap (λ (m : List ℕ). x ∷ m) (read_later l (λ j. h (suc j)))

-- the text of `by` reads back as the ids
pub by_back : (a : Answer) → ids_read (by_field a) ≡ ids_of a
unfolding by_field ids_read
by_back a = text_back (ids_of a) (λ j. omega (arith, ids_most a j))

-- so two answers with the same text have the same ids
pub by_one : (a b : Answer) → by_field a ≡ by_field b → ids_of a ≡ ids_of b
by_one a b e = sym (by_back a) ∙ ap ids_read e ∙ by_back b

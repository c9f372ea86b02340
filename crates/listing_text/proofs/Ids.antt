-- The column `by` as the code finds it: the bit of an id, an id more, and the whole column after the last.
-- Assumes nothing.
use Prim.Native.Nat.{ℕ, zero, suc, ◌+◌, ◌*◌, ◌/◌, ◌%◌, ◌^◌, ◌≤◌, ◌<◌, max}
use mathlib.Core.Path.{◌≡◌, refl}
use mathlib.Core.Bool.{Bool, true, false, ◌||◌}
use mathlib.Core.List.{List, [], ◌∷◌, ◌++◌, append-nil, append_assoc}
use native.Mathlib.Numerals.{add-one}
use native.Mathlib.Omega.{arith}
use Rattle.std.specs.Int.Bits.{bit_or}
use Rattle.std.proofs.lemmas.Nat.Bits.{bit_at_or}
use borrow.Author.Tests.{ne_eqb, lt-ltb, le-ltb}
use lib.Dec.{ltb, eqb}
use lib.ListN.{length, get_or}
use Rattle.ground.specs.Choice.{when◌then◌else◌}
use Rattle.ground.specs.Sums.{is_in}
use Rattle.constants.specs.Sizes.{id_most}
use Rattle.row_values.specs.declared.Answer.{Answer}
use Rattle.listing_rules.specs.Text.{by_field, decimal, ids_of, ids_text, in_either, later_ids, passing, set_in}
use Rattle.listing_rules.proofs.Laws.Text.Ids.{later_length, one_digit, passing_length, passing_most}
use Rattle.listing_text.specs.declared.Pen.{Pen}
use Rattle.listing_text.specs.Asks.{Adds, id_stored, ids_stored}
use Rattle.listing_text.proofs.Pens.{joined}

-- ---- the bit of an id

-- the lowest bit of a set that was shifted so far says whether the next id is in it
pub next_in : (set k : ℕ) → set / 2 ^ k % 2 ≡ 1 → is_in set (k + 1) ≡ true
unfolding is_in
next_in set k e = rw (add-one, e)

pub next_out : (set k : ℕ) → (set / 2 ^ k % 2 ≡ 1 → ⊥) → is_in set (k + 1) ≡ false
unfolding is_in
next_out set k e = rw add-one (ne_eqb _ _ e)

-- an id is in two sets taken together where it is in one of them
in_union : (up down id : ℕ) → is_in (bit_or up down) id ≡ (is_in up id || is_in down id)
unfolding is_in
in_union up down zero = refl
in_union up down (suc k) = rw (bit_at_or up down k) (largest (up / 2 ^ k % 2) (down / 2 ^ k % 2) (omega arith) (omega arith))
  where
    largest : (x y : ℕ) → x < 2 → y < 2 → eqb (max x y) 1 ≡ (eqb x 1 || eqb y 1)
    largest zero zero h l = refl
    largest zero (suc zero) h l = refl
    largest (suc zero) zero h l = refl
    largest (suc zero) (suc zero) h l = refl
    largest (suc (suc x)) y h l = let z : ⊥ = omega arith in absurd z
    largest zero (suc (suc y)) h l = let z : ⊥ = omega arith in absurd z
    largest (suc zero) (suc (suc y)) h l = let z : ⊥ = omega arith in absurd z

passing_same : (f g : ℕ → Bool) → ((id : ℕ) → f id ≡ g id) → (n : ℕ) → passing f n ≡ passing g n
unfolding passing
passing_same f g e zero = refl
passing_same f g e (suc n) = rw (passing_same f g e n, e (suc n))

-- ---- an id more

later_last : (l : List ℕ) (x : ℕ) → later_ids (l ++ x ∷ []) ≡ later_ids l ++ 44 ∷ decimal x
unfolding later_ids
later_last [] x = rw append-nil
later_last (y ∷ l) x = rw (later_last l x, append_assoc)

-- the place where an id comes tells whether one stands before it
stored_last : (l : List ℕ) (x at p : ℕ) → p ≡ at + length (ids_stored l) → x < 10 →
    ids_stored l ++ (when ltb at p then 44 else 32) ∷ (48 + x) ∷ [] ≡ ids_stored (l ++ x ∷ [])
unfolding ids_stored later_ids
stored_last [] x at p e h = rw (le-ltb at p (omega arith), append-nil, one_digit x h)
stored_last (y ∷ l) x at p e h = rw (lt-ltb at p (omega arith), later_last l x, one_digit x h, append_assoc (decimal y) (later_ids l) (44 ∷ (48 + x) ∷ []))

-- the ids up to k are stored, then the next one if it passes, and nothing if it does not
pub next_id : (test : ℕ → Bool) (k : ℕ) {before p q : Pen} → k < 9 → Adds before p (ids_stored (passing test k)) → test (k + 1) ≡ true →
    Adds p q (id_stored (ltb before.at p.at) (k + 1)) → Adds before q (ids_stored (passing test (k + 1)))
unfolding passing
next_id test k {before} {p} h w t v =
    let e : test (suc k) ≡ true = rw add-one at t in
    rw (add-one k, e, ← (stored_last (passing test k) (suc k) before.at p.at w.wrote.place (omega arith))) (joined w (rw (add-one k) at v))

pub no_id : (test : ℕ → Bool) (k : ℕ) {before p : Pen} → Adds before p (ids_stored (passing test k)) → test (k + 1) ≡ false →
    Adds before p (ids_stored (passing test (k + 1)))
unfolding passing
no_id test k w t = let e : test (suc k) ≡ false = rw add-one at t in rw (add-one k, e, append-nil) w

-- where they end
pub ids_end : (test : ℕ → Bool) (k : ℕ) {before p : Pen} → k ≤ 9 → Adds before p (ids_stored (passing test k)) → p.at ≤ before.at + 2 * k
unfolding ids_stored
ids_end test k h w = omega (arith, w.wrote.place, stored_length (passing test k) (λ j. omega (arith, passing_most test k j)), passing_length test k)
  where
    stored_length : (l : List ℕ) → ((j : ℕ) → get_or l j 0 < 10) → length (ids_stored l) ≡ 2 * length l
    stored_length [] f = refl
    stored_length (x ∷ l) f = rw (one_digit x (f 0)) (omega (arith, later_length l (λ j. f (suc j))))

-- ---- the whole column

-- the ids of an answer by its two sets taken together
column : (a : Answer) (ids : ℕ) → ids ≡ bit_or (set_in a.uplink) (set_in a.downlink) → 32 ∷ ids_text (passing (is_in ids) id_most) ≡ by_field a
unfolding by_field ids_of in_either
column a ids e = rw (e, passing_same _ _ (in_union (set_in a.uplink) (set_in a.downlink)) id_most)

-- after the last turn: with an id, and with none
module _ (a : Answer) (ids : ℕ) (e : ids ≡ bit_or (set_in a.uplink) (set_in a.downlink)) where
  pub with_ids : {before p : Pen} → before.at < p.at → Adds before p (ids_stored (passing (is_in ids) id_most)) → Adds before p (by_field a)
  unfolding ids_stored ids_text
  with_ids h w = rw (← (column a ids e)) (by (passing (is_in ids) id_most) h w)
    where
      by : (l : List ℕ) {before p : Pen} → before.at < p.at → Adds before p (ids_stored l) → Adds before p (32 ∷ ids_text l)
      by [] h w = let z : ⊥ = omega (arith, w.wrote.place) in absurd z
      by (x ∷ l) h w = w

  pub with_dash : {before p q : Pen} → p.at ≤ before.at → Adds before p (ids_stored (passing (is_in ids) id_most)) →
      Adds p q (32 ∷ 45 ∷ []) → Adds before q (by_field a)
  unfolding ids_stored ids_text
  with_dash h w v = rw (← (column a ids e)) (by (passing (is_in ids) id_most) h w v)
    where
      by : (l : List ℕ) {before p q : Pen} → p.at ≤ before.at → Adds before p (ids_stored l) →
          Adds p q (32 ∷ 45 ∷ []) → Adds before q (32 ∷ ids_text l)
      by [] h w v = joined w v
      by (x ∷ l) h w v = let z : ⊥ = omega (arith, w.wrote.place) in absurd z

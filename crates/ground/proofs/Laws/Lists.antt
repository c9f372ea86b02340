-- The laws of a sum and of a greatest, and what a loop over a list meets at each turn.
-- Assumes nothing.
use Rattle.std.specs.Prelude.{ℕ, zero, suc, ◌+◌, ◌-◌, ◌*◌, ◌≤◌, ◌<◌, ◌≡◌, refl, List, [], ◌∷◌, ◌++◌, ℤ, pos, ◌+ℤ◌, length, get_or, drop, set, ◌≤ℤ◌}
use Rattle.std.proofs.Common.{sym, ap, ◌∙◌, add-zero, add-suc, suc-add, not-suc-le-zero, arith, drop-cons}
use Rattle.std.proofs.Math.IntN.{+ℤ_assoc, +ℤ_idl, +ℤ_idr}
use Rattle.std.proofs.lemmas.List.Edits.{sets}
use Rattle.ground.specs.Integers.{greater}
use Rattle.ground.proofs.Laws.Integers.Signs.{signs, greater_of}
use Rattle.ground.specs.Lists.{total, greatest}

-- the sum goes on over a second list
pub total_append : (xs ys : List ℤ) → total (xs ++ ys) ≡ total xs +ℤ total ys
unfolding total
total_append [] ys = sym (+ℤ_idl (total ys))
total_append (x ∷ xs) ys = ap (λ (t : ℤ). x +ℤ t) (total_append xs ys) ∙ sym (+ℤ_assoc x (total xs) (total ys))

-- so does the greatest
pub greatest_append : (m : ℤ) (xs ys : List ℤ) → greatest m (xs ++ ys) ≡ greatest (greatest m xs) ys
unfolding greatest
greatest_append m [] ys = refl
greatest_append m (x ∷ xs) ys = greatest_append (greater m x) xs ys

-- of nothing
pub total_none : total [] ≡ pos 0
unfolding total
total_none = refl

pub greatest_none : (m : ℤ) → greatest m [] ≡ m
unfolding greatest
greatest_none m = refl

-- and with one element more at the end
pub total_last : (xs : List ℤ) (x : ℤ) → total (xs ++ x ∷ []) ≡ total xs +ℤ x
unfolding total
total_last xs x = total_append xs (x ∷ []) ∙ ap (λ (z : ℤ). total xs +ℤ z) (+ℤ_idr x)

pub greatest_last : (m : ℤ) (xs : List ℤ) (x : ℤ) → greatest m (xs ++ x ∷ []) ≡ greater (greatest m xs) x
unfolding greatest
greatest_last m xs x = greatest_append m xs (x ∷ [])

-- no less than the number it starts from
pub greatest_start : (m : ℤ) (xs : List ℤ) → m ≤ℤ greatest m xs
unfolding greatest
greatest_start m [] = omega signs
greatest_start m (x ∷ xs) = let h = greatest_start (greater m x) xs in omega (signs, greater_of m x)

-- no less than any element
pub greatest_each : (m : ℤ) (xs : List ℤ) (k : ℕ) → k < length xs → get_or xs k (pos 0) ≤ℤ greatest m xs
unfolding greatest
greatest_each m [] k h = absurd (not-suc-le-zero h)
greatest_each m (x ∷ xs) zero h = let g = greatest_start (greater m x) xs in omega (signs, greater_of m x)
greatest_each m (x ∷ xs) (suc k) h = greatest_each (greater m x) xs k (omega arith)

-- and no more than a number that all of them are at most
pub greatest_least : (m : ℤ) (xs : List ℤ) (b : ℤ) → m ≤ℤ b → ((k : ℕ) → k < length xs → get_or xs k (pos 0) ≤ℤ b) → greatest m xs ≤ℤ b
unfolding greatest
greatest_least m [] b h f = h
greatest_least m (x ∷ xs) b h f = greatest_least (greater m x) xs b (omega (signs, f 0 (omega arith), greater_of m x)) (λ k l. f (suc k) (omega arith))

-- ---- a loop that counts up to n, its rule by what is left

-- before a turn
pub left_suc : (n k : ℕ) → k < n → n - k ≡ suc (n - (k + 1))
left_suc n k h = omega arith

-- after the last
pub left_none : (n k : ℕ) → n ≤ k → n - k ≡ 0
left_none n k h = omega arith

-- the next two elements of a list that is read in pairs
pub next_two : (l : List ℕ) (k : ℕ) → 2 * k + 1 < length l → drop (2 * k) l ≡ get_or l (2 * k) 0 ∷ get_or l (2 * k + 1) 0 ∷ drop (2 * (k + 1)) l
next_two l k h =
    let e : 2 * k + 1 ≡ suc (2 * k) = omega arith in
    let f : 2 * (k + 1) ≡ suc (suc (2 * k)) = omega arith in
    rw (e, f, drop-cons l (2 * k) 0 (omega arith), drop-cons l (suc (2 * k)) 0 (omega arith))

-- one list stored in a buffer, and another after it
pub sets_append : {A : Type 0} (l : List A) (i : ℕ) (vs ws : List A) → sets l i (vs ++ ws) ≡ sets (sets l i vs) (i + length vs) ws
sets_append l i [] ws = rw add-zero
sets_append l i (v ∷ vs) ws = sets_append (set l i v) (suc i) vs ws ∙ simp (suc-add, add-suc)

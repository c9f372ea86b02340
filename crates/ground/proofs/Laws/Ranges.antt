-- The laws of numbers outside their range, and of the numbers up to one and from one on.
-- Assumes nothing.
use Rattle.std.specs.Prelude.{ℕ, ◌≤◌, ◌<◌, ◌≡◌, refl, ◌↔◌, Bool, true, false, ltb}
use Rattle.std.proofs.Common.{sym, subst, ⊎_elim, eq-or-lt_of_le, arith, ltb-true, ltb-false, le-ltb}
use Rattle.ground.proofs.Laws.Choice.{clash, must, neither}
use Rattle.ground.specs.Outside.{outside, Outside}

-- one that is not outside lies inside
pub inside : (least most x : ℕ) → outside least most x ≡ false → (least ≤ x) × (x ≤ most)
inside least most x e = let h = neither (ltb x least) (ltb most x) e in
    (ltb-false x least h.0, ltb-false most x h.1)

-- and one that lies inside is not outside
pub not_outside : (least most x : ℕ) → least ≤ x → x ≤ most → outside least most x ≡ false
not_outside least most x h k = simp (le-ltb x least h, le-ltb most x k)

-- the test is met exactly outside
pub outside_exactly : (least most x : ℕ) → outside least most x ≡ true ↔ Outside least most x
outside_exactly least most x = (
  λ e h. clash e (not_outside least most x h.0 h.1),
  λ f. must (outside least most x) (λ e. f (inside least most x e)),
)

-- of the numbers up to k the last, or one before it
pub last_or_before : (P : ℕ → Type 0) {i k : ℕ} → i ≤ k → P k → (i < k → P i) → P i
last_or_before P {i} {k} h here rest = ⊎_elim (λ (e : i ≡ k). subst P (sym e) here) rest (eq-or-lt_of_le h)

-- of the numbers from k on the first, or one after it
pub first_or_after : (P : ℕ → Type 0) {i k : ℕ} → k ≤ i → P k → (k < i → P i) → P i
first_or_after P {i} {k} h here rest = ⊎_elim (λ (e : k ≡ i). subst P e here) rest (eq-or-lt_of_le h)

-- of two numbers neither is before the other: they are one
pub neither_before : (n m : ℕ) → (n < m → ⊥) → (m < n → ⊥) → n ≡ m
neither_before n m f g = by (ltb n m) (ltb m n) refl refl
  where
    by : (t u : Bool) → ltb n m ≡ t → ltb m n ≡ u → n ≡ m
    by true u e d = absurd (f (ltb-true n m e))
    by false true e d = absurd (g (ltb-true m n d))
    by false false e d = omega (arith, ltb-false n m e, ltb-false m n d)

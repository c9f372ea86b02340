-- A test that is asked of one number after another: it holds exactly when it holds of one of them.
-- Assumes nothing.
use Rattle.std.specs.Prelude.{ℕ, zero, suc, ◌<◌, ◌≡◌, refl, ◌↔◌, ◌⊎◌, Bool, true, false, ◌||◌}
use Rattle.std.proofs.Common.{sym, ◌∙◌, inl, inr, ⊎_elim, le_refl, not-suc-le-zero, arith}
use Rattle.std.proofs.Math.Bool.{or_comm}
use Rattle.ground.proofs.Laws.Choice.{clash}
use Rattle.ground.proofs.Laws.Ranges.{last_or_before}

-- of two
pub one_of : (a b : Bool) → a || b ≡ true ↔ ((a ≡ true) ⊎ (b ≡ true))
one_of true b = (λ e. inl refl, λ h. refl)
one_of false b = (inr, ⊎_elim (λ (e : false ≡ true). absurd (clash e refl)) (λ (e : b ≡ true). e))

-- and of any number of them
module _ (any each : ℕ → Bool) (none : any 0 ≡ false) (more : (n : ℕ) → any (suc n) ≡ (any n || each n)) where
  found : (n : ℕ) → any n ≡ true → (i : ℕ) × (i < n) × (each i ≡ true)
  found zero e = absurd (clash e none)
  found (suc n) e =
      ⊎_elim (λ (h : any n ≡ true). let g = found n h in (g.0, omega (arith, g.1), g.2))
      (λ (h : each n ≡ true). (n, le_refl (suc n), h))
      ((one_of (any n) (each n)).0 (sym (more n) ∙ e))

  kept : (n i : ℕ) → i < n → each i ≡ true → any n ≡ true
  kept zero i h e = absurd (not-suc-le-zero h)
  kept (suc n) i h e =
      more n ∙ last_or_before (λ (i : ℕ). each i ≡ true → (any n || each n) ≡ true) {i = i} {k = n} (omega arith)
      (λ e. rw e (or_comm (any n) true)) (λ l e. rw (kept n i l e)) e

  pub some : (n : ℕ) → any n ≡ true ↔ ((i : ℕ) × (i < n) × (each i ≡ true))
  some n = (found n, λ g. kept n g.0 g.1 g.2)

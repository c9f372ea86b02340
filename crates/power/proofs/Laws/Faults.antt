-- The first of some bytes that breaks its rule, and of two parts of them one after the other.
-- Assumes nothing.
use Rattle.std.specs.Prelude.{ℕ, ◌≤◌, ◌<◌, ◌≡◌, refl, Bool, true, Option, Some, None, unwrap_or}
use Rattle.std.proofs.Common.{arith}
use Rattle.ground.specs.Choice.{when◌then◌else◌}
use Rattle.ground.proofs.Laws.Choice.{either}
use Rattle.ground.proofs.Laws.Choice.Faults.{FirstFault}

-- which of `count` bytes breaks its rule, and the first that does, or `count` where none does
pub record First (Breaks : ℕ → Type 0) (count at : ℕ) : Type 0 where
  pub below : {n : ℕ} → Breaks n → n < count
  pub least : {n : ℕ} → Breaks n → at ≤ n
  pub broken : at < count → Breaks at
  pub most : at ≤ count

-- a chain of tests that names such a byte
pub record Named (Breaks : ℕ → Type 0) (count at : ℕ) : Type 0 where
  pub broken : at < count → Breaks at
  pub most : at ≤ count

pub met : {Breaks : ℕ → Type 0} {count : ℕ} {b : Bool} {x y : ℕ} →
    x ≤ count → (b ≡ true → Breaks x) → Named Breaks count y → Named Breaks count (when b then x else y)
met {Breaks} {count} {b} l f h = either (Named Breaks count) b (λ e. record { broken = λ _. f e; most = l }) (λ _. h)

pub none_met : {Breaks : ℕ → Type 0} {count : ℕ} → Named Breaks count count
none_met {count} = record { broken = λ h. absurd (let z : ⊥ = omega arith in z); most = omega arith }

-- a byte or none, as `FirstFault` has it: what is named, and `count` for none, is the first
pub first_of : {Breaks : ℕ → Type 0} {count : ℕ} {fault : Option ℕ} → FirstFault Breaks count fault → First Breaks count (unwrap_or fault count)
first_of {count} {fault = None} f =
    record {
      below = λ {n} b. f.below b;
      least = λ {n} b. absurd (f.none refl b);
      broken = λ h. absurd (let z : ⊥ = omega arith in z);
      most = omega arith;
    }
first_of {fault = Some at} f =
    let b = f.broken refl in
    let h = f.below b in
    record {
      below = λ {n} c. f.below c;
      least = λ {n} c. f.least refl c;
      broken = λ _. b;
      most = omega arith;
    }

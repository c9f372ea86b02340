-- Chains of tests that name the first of some bytes that breaks its rule, or none: which they name.
-- Assumes nothing.
use Rattle.std.specs.Prelude.{ℕ, ◌≤◌, ◌<◌, ◌≡◌, refl, Bool, true, false, Option, Some, None}
use Rattle.std.specs.Option.{option_or}
use Rattle.std.proofs.Common.{subst}
use Rattle.ground.specs.Choice.{when◌then◌else◌}
use Rattle.ground.proofs.Laws.Choice.{clash, either, passed}

-- which of some bytes breaks its rule, and what is named: the first that does, or none where none does
pub record FirstFault (Breaks : ℕ → Type 0) (count : ℕ) (fault : Option ℕ) : Type 0 where
  pub below : {n : ℕ} → Breaks n → n < count
  pub none : {n : ℕ} → fault ≡ None → Breaks n → ⊥
  pub least : {at n : ℕ} → fault ≡ Some at → Breaks n → at ≤ n
  pub broken : {at : ℕ} → fault ≡ Some at → Breaks at

-- ---- none named

-- a test that would have named a byte was not met, and the rest is passed
pub passed_by : {b : Bool} {y : Option ℕ} (x : ℕ) → (when b then Some x else y) ≡ None → (b ≡ false) × (y ≡ None)
passed_by {b} x e = let some : Some x ≡ None → ⊥ = λ h. cc in passed b some e

-- no fault found first and then none
pub no_fault : (first later : Option ℕ) → option_or first later ≡ None → (first ≡ None) × (later ≡ None)
no_fault None later e = (refl, e)
no_fault (Some n) later e = let z : ⊥ = cc in absurd z

-- ---- none before it

-- a byte is named, and it is this one or one before it
pub record UpTo (n : ℕ) (fault : Option ℕ) : Type 0 where
  pub at : ℕ
  pub named : fault ≡ Some at
  pub up : at ≤ n

-- a test at a byte that is not too far, and what follows it
pub skip : (b : Bool) {x n : ℕ} {y : Option ℕ} → x ≤ n → UpTo n y → UpTo n (when b then Some x else y)
skip b {x} {n} h k = either (UpTo n) b (λ _. record { at = x; named = refl; up = h }) (λ _. k)

-- and one that is met
pub hit : {b : Bool} {x n : ℕ} (y : Option ℕ) → b ≡ true → x ≤ n → UpTo n (when b then Some x else y)
hit {b} {x} {n} y e h = either (UpTo n) b (λ _. record { at = x; named = refl; up = h }) (λ f. absurd (clash e f))

-- so that what is named is not behind it
pub up_to : {n at : ℕ} {fault : Option ℕ} → UpTo n fault → fault ≡ Some at → at ≤ n
up_to {n} {at} u e = let f = u.named in let same : u.at ≡ at = cc in subst (λ (m : ℕ). m ≤ n) same u.up

pub some_up_to : {n : ℕ} {fault : Option ℕ} → UpTo n fault → fault ≡ None → ⊥
some_up_to u e = let f = u.named in cc

-- ---- and it breaks its rule

-- what is named breaks its rule
pub record Named (Breaks : ℕ → Type 0) (fault : Option ℕ) : Type 0 where
  pub broken : (at : ℕ) → fault ≡ Some at → Breaks at

module _ {Breaks : ℕ → Type 0} where
  pub named : (x : ℕ) → Breaks x → Named Breaks (Some x)
  named x b = record { broken = λ n e. let same : x ≡ n = cc in subst Breaks same b }

  pub none_met : Named Breaks None
  none_met = record { broken = λ n e. let z : ⊥ = cc in absurd z }

  pub met : {b : Bool} {y : Option ℕ} (x : ℕ) → (b ≡ true → Breaks x) → Named Breaks y → Named Breaks (when b then Some x else y)
  met {b} x f h = either (Named Breaks) b (λ e. named x (f e)) (λ _. h)

  -- a chain of tests that names each byte that breaks its rule, or one before it, and only such bytes
  pub first_fault : {count : ℕ} {fault : Option ℕ} → ((n : ℕ) → Breaks n → n < count) → ((n : ℕ) → Breaks n → UpTo n fault) → Named Breaks fault →
      FirstFault Breaks count fault
  first_fault below least named =
      record {
        below = λ {n} b. below n b;
        none = λ {n} e b. some_up_to (least n b) e;
        least = λ {at} {n} e b. up_to (least n b) e;
        broken = λ {at} e. named.broken at e;
      }

-- All decisions of a byte at once: its lowest n bits are ones exactly when it leaves 2^n - 1 over from 2^n. Tested for every byte and every n up to 8.
-- Assumes nothing.
use Rattle.std.proofs.Common.{ℕ, zero, suc, ◌+◌, ◌*◌, ◌%◌, ◌^◌, ◌<◌, ◌≤◌, ◌≡◌, refl, ap, Bool, true, false, not, ◌&&◌, arith, ltb, eqb, ltb-true}
use Rattle.std.proofs.Math.Nat.{div-eq_of_lt}
use Rattle.std.proofs.lemmas.Bool.{eqb-false}
use Rattle.ground.specs.Choice.{when◌then◌else◌}
use Rattle.ground.proofs.Laws.Choice.{clash, both, either}
use Rattle.ground.proofs.Laws.Ranges.{last_or_before}
use Rattle.command_algorithms.specs.Algorithms.{decision, all_ones}

-- 2^n as the code forms it
abbrev pub power : ℕ → ℕ
power n = (1 * 2 ^ n) % 4294967296

abbrev pub full : ℕ → ℕ → Bool
full c n = eqb (c % power n + 1) (power n)

-- what is tested at a byte and a number of link sets
abbrev tested : ℕ → ℕ → Bool
tested n c = ltb 0 (power n) && ltb (c % power n + 1) 4294967296 && (when full c n then all_ones c n 0 else not (all_ones c n 0))

abbrev up_to : (ℕ → Bool) → ℕ → Bool
up_to test zero = true
up_to test (suc n) = test n && up_to test n

at : (test : ℕ → Bool) (n k : ℕ) → up_to test n ≡ true → k < n → test k ≡ true
at test zero k e h = absurd (omega (arith, h))
at test (suc n) k e h =
    last_or_before (λ (i : ℕ). test i ≡ true) {i = k} {k = n} (omega (arith, h)) (both (test n) _ e).0 (λ l. at test n k (both (test n) _ e).1 l)

all_tested : up_to (λ n. up_to (tested n) 256) 9 ≡ true
unfolding all_ones
all_tested = refl

pub record Tested (c n : ℕ) : Type 0 where
  pub some : 0 < power n
  pub room : c % power n + 1 < 4294967296
  pub is : full c n ≡ all_ones c n 0

-- a choice between a test and its contrary says that two tests are one
agree : (a b : Bool) → (when a then b else not b) ≡ true → a ≡ b
agree true true e = refl
agree true false e = absurd (clash e refl)
agree false true e = absurd (clash e refl)
agree false false e = refl

pub mask_tested : (c n : ℕ) → c < 256 → n ≤ 8 → Tested c n
mask_tested c n h l =
    let t = both (ltb 0 (power n) && ltb (c % power n + 1) 4294967296) _ (at (tested n) 256 c (at (λ n. up_to (tested n) 256) 9 n all_tested (omega arith)) h) in
    let u = both (ltb 0 (power n)) _ t.0 in
    record { some = ltb-true _ _ u.0; room = ltb-true _ _ u.1; is = agree _ _ t.1 }

below : (c i : ℕ) → c < 256 → i ≤ 8 → (decision c i ≡ 0 → ⊥) → i + 1 ≤ 8
below c i h l n =
    last_or_before (λ (i : ℕ). (decision c i ≡ 0 → ⊥) → i + 1 ≤ 8) {i = i} {k = 8} (omega arith)
    (λ n. absurd (n (ap (λ (x : ℕ). x % 2) (div-eq_of_lt h)))) (λ l n. omega (arith, l)) n

-- a byte has no ninth bit
pub beyond : (c left i : ℕ) → c < 256 → i ≤ 8 → 8 < i + left → all_ones c left i ≡ false
unfolding all_ones
beyond c zero i h l m = absurd (omega arith)
beyond c (suc left) i h l m =
    either (λ (b : Bool). b ≡ false) (eqb (decision c i) 0) (λ e. refl) (λ e. beyond c left (i + 1) h (below c i h l (eqb-false _ _ e)) (omega arith))

-- The laws of sets as sums: what is in them, none, one, and either of two.
-- Assumes nothing.
use Rattle.std.specs.Prelude.{ℕ, zero, suc, ◌+◌, ◌-◌, ◌*◌, ◌/◌, ◌^◌, ◌≤◌, ◌<◌, ◌≡◌, ◌↔◌, Bool, ◌||◌, eqb}
use Rattle.std.proofs.Math.Path.{refl, sym}
use Rattle.std.proofs.Common.{ap, ◌∙◌, add-zero, zero-add, arith}
use Rattle.std.proofs.Math.Bool.{true, false, or-true, or-false}
use Rattle.std.proofs.Math.Nat.{pow-succ'}
use Rattle.std.specs.Int.Bits.{bit_or}
use borrow.Author.Tests.{lt-ltb, eqb-true, eqb-false, ne_eqb}
use Rattle.std.proofs.Math.Dec.{ltb}
use Rattle.std.proofs.Math.Pow.{pow_pos}
use Rattle.ground.specs.Choice.{when◌then◌else◌}
use Rattle.ground.proofs.Laws.Some.{some}
use Rattle.ground.specs.Bits.{bit, packed}
use Rattle.ground.proofs.Laws.Bits.{packed_same, packed_none, packed_or, packed_shift, first_bit}
use Rattle.ground.specs.Sums.{sum_of, is_in}

-- ---- the sum as bits

-- one test more, in the highest bit
packed_last : (f : ℕ → Bool) (n : ℕ) → packed f (suc n) ≡ packed f n + (when f n then 2 ^ n else 0)
unfolding packed
packed_last f zero = by (f 0)
  where
    by : (t : Bool) → bit t + 2 * 0 ≡ 0 + (when t then 2 ^ 0 else 0)
    by true = refl
    by false = refl
packed_last f (suc n) = ap (λ (m : ℕ). bit (f 0) + 2 * m) (packed_last (λ j. f (suc j)) n) ∙ by (f (suc n)) (bit (f 0)) (packed (λ j. f (suc j)) n)
  where
    by : (t : Bool) (b m : ℕ) → b + 2 * (m + (when t then 2 ^ n else 0)) ≡ b + 2 * m + (when t then 2 ^ suc n else 0)
    by true b m = omega (arith, pow-succ' 2 n)
    by false b m = omega arith

pub sum_packed : (test : ℕ → Bool) (n : ℕ) → sum_of test n ≡ packed (λ j. test (suc j)) n
unfolding sum_of packed
sum_packed test zero = refl
sum_packed test (suc n) = rw (sum_packed test n) (sym (packed_last (λ j. test (suc j)) n))

-- ---- what is in a set

-- the bit of each number is its test
pub in_sum : (test : ℕ → Bool) (n k : ℕ) → 1 ≤ k → k ≤ n → is_in (sum_of test n) k ≡ test k
unfolding is_in
in_sum test n zero h l = let z : ⊥ = omega arith in absurd z
in_sum test n (suc j) h l =
    first_bit (λ i. test (suc (j + i))) (n - j) (sum_of test n / 2 ^ j) (omega arith)
    (ap (λ (m : ℕ). m / 2 ^ j) (sum_packed test n) ∙ packed_shift (λ i. test (suc i)) n j)
    ∙ ap (λ (i : ℕ). test (suc i)) (add-zero j)

-- and no higher bit is 1
pub sum_below : (test : ℕ → Bool) (n : ℕ) → sum_of test n < 2 ^ n
unfolding sum_of
sum_below test zero = omega arith
sum_below test (suc n) = by (test (suc n)) (sum_of test n) (sum_below test n)
  where
    by : (t : Bool) (m : ℕ) → m < 2 ^ n → m + (when t then 2 ^ n else 0) < 2 ^ suc n
    by true m h = omega (arith, pow-succ' 2 n)
    by false m h = omega (arith, pow-succ' 2 n)

-- tests that come out alike make the same set
pub sum_same : (f g : ℕ → Bool) (n : ℕ) → ((k : ℕ) → 1 ≤ k → k ≤ n → f k ≡ g k) → sum_of f n ≡ sum_of g n
sum_same f g n h = sum_packed f n ∙ packed_same _ _ n (λ j l. h (suc j) (omega arith) (omega arith)) ∙ sym (sum_packed g n)

-- where no test holds
pub sum_none : (test : ℕ → Bool) (n : ℕ) → ((k : ℕ) → 1 ≤ k → k ≤ n → test k ≡ false) → sum_of test n ≡ 0
sum_none test n h = sum_packed test n ∙ packed_none _ n (λ j l. h (suc j) (omega arith) (omega arith))

-- what is in one of two sets
pub sum_or : (f g : ℕ → Bool) (n : ℕ) → bit_or (sum_of f n) (sum_of g n) ≡ sum_of (λ k. f k || g k) n
sum_or f g n = rw (sum_packed f n, sum_packed g n) (packed_or _ _ n) ∙ sym (sum_packed (λ k. f k || g k) n)

-- one number alone: none where it is past the last, 2^(i − 1) where it is not
no_one : (i n : ℕ) → n < i → sum_of (eqb i) n ≡ 0
no_one i n h = sum_none (eqb i) n (λ k a b. ne_eqb i k (λ e. let z : ⊥ = omega arith in z))

pub sum_one : (i n : ℕ) → 1 ≤ i → i ≤ n → sum_of (eqb i) n ≡ 2 ^ (i - 1)
unfolding sum_of
sum_one i zero h l = let z : ⊥ = omega arith in absurd z
sum_one i (suc n) h l = by (eqb i (suc n)) refl (λ f. sum_one i n h f)
  where
    by : (t : Bool) → eqb i (suc n) ≡ t → (i ≤ n → sum_of (eqb i) n ≡ 2 ^ (i - 1)) → sum_of (eqb i) n + (when t then 2 ^ n else 0) ≡ 2 ^ (i - 1)
    by true e before =
        let f : i ≡ suc n = eqb-true i (suc n) e in
        let g : i - 1 ≡ n = omega arith in
        rw (no_one i n (omega arith), g) (zero-add (2 ^ n))
    by false e before = let f = eqb-false i (suc n) e in rw (before (omega arith)) (add-zero (2 ^ (i - 1)))

-- a set is empty where no test holds, and there alone
module _ (test : ℕ → Bool) where
  more : (n : ℕ) → ltb 0 (sum_of test (suc n)) ≡ (ltb 0 (sum_of test n) || test (suc n))
  unfolding sum_of
  more n = by (test (suc n)) (sum_of test n)
    where
      by : (t : Bool) (m : ℕ) → ltb 0 (m + (when t then 2 ^ n else 0)) ≡ (ltb 0 m || t)
      by true m = lt-ltb 0 (m + 2 ^ n) (omega (arith, pow_pos n)) ∙ sym (or-true (ltb 0 m))
      by false m = rw (add-zero m) (sym (or-false (ltb 0 m)))

  pub sum_some : (n : ℕ) → ltb 0 (sum_of test n) ≡ true ↔ ((j : ℕ) × (j < n) × (test (suc j) ≡ true))
  unfolding sum_of
  sum_some = some (λ n. ltb 0 (sum_of test n)) (λ j. test (suc j)) refl more

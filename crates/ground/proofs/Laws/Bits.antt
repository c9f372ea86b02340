-- The laws of packed tests: what each bit tells, none, either and both of two, a shift, and a span of them.
-- Assumes nothing.
use Rattle.std.specs.Prelude.{ℕ, zero, suc, ◌+◌, ◌-◌, ◌*◌, ◌/◌, ◌%◌, ◌^◌, ◌≤◌, ◌<◌, min, max, ◌≡◌, refl, Bool, true, false, ◌&&◌, ◌||◌, leb, ltb, eqb}
use Rattle.std.proofs.Common.{sym, ap, ◌∙◌, zero-add, suc-add, div-one, arith, lt-ltb, le-ltb, pow_pos}
use Rattle.std.proofs.Math.Bool.{and-false}
use Rattle.std.proofs.Math.Nat.{sub-zero, zero-div, pow-succ', div-div-eq-div-mul}
use Rattle.std.specs.Int.Bits.{bit_and, bit_or, and_step, or_step}
use Rattle.std.proofs.Math.Dec.{leb-zero, leb-suc-zero, leb-suc-suc}
use Rattle.ground.specs.Bits.{bit, packed}

-- a number of a lowest bit and the rest: its half is the rest
half : (b : Bool) (m : ℕ) → (bit b + 2 * m) / 2 ≡ m
half true m = omega arith
half false m = omega arith

-- and what is left over is that bit
odd : (b : Bool) (m : ℕ) → (bit b + 2 * m) % 2 ≡ bit b
odd true m = omega arith
odd false m = omega arith

-- tests that come out alike are packed alike
pub packed_same : (f g : ℕ → Bool) (n : ℕ) → ((j : ℕ) → j < n → f j ≡ g j) → packed f n ≡ packed g n
unfolding packed
packed_same f g zero h = refl
packed_same f g (suc n) h =
    rw (h 0 (omega arith), packed_same (λ j. f (suc j)) (λ j. g (suc j)) n (λ j l. h (suc j) (omega arith)))

-- a test from its bit
bit_is : (b : Bool) → eqb (bit b) 1 ≡ b
bit_is true = refl
bit_is false = refl

-- the lowest bit of a packed number is the first test
pub first_bit : (f : ℕ → Bool) (n x : ℕ) → 1 ≤ n → x ≡ packed f n → eqb (x % 2) 1 ≡ f 0
unfolding packed
first_bit f zero x h e = let z : ⊥ = omega arith in absurd z
first_bit f (suc n) x h e = rw (e, odd (f 0) (packed (λ j. f (suc j)) n)) (bit_is (f 0))

-- where no test holds
pub packed_none : (f : ℕ → Bool) (n : ℕ) → ((j : ℕ) → j < n → f j ≡ false) → packed f n ≡ 0
unfolding packed
packed_none f zero h = refl
packed_none f (suc n) h = rw (h 0 (omega arith), packed_none (λ j. f (suc j)) n (λ j l. h (suc j) (omega arith)))

-- one bit of either
either_bit : (a b : Bool) (m : ℕ) → m * 2 + max (bit a) (bit b) ≡ bit (a || b) + 2 * m
either_bit true true m = omega arith
either_bit true false m = omega arith
either_bit false true m = omega arith
either_bit false false m = omega arith

-- where one of two tests holds
pub packed_or : (f g : ℕ → Bool) (n : ℕ) → bit_or (packed f n) (packed g n) ≡ packed (λ j. f j || g j) n
unfolding packed
packed_or f g zero = refl
packed_or f g (suc n) =
    let x = packed (λ j. f (suc j)) n in
    let y = packed (λ j. g (suc j)) n in
    or_step (bit (f 0) + 2 * x) (bit (g 0) + 2 * y)
    ∙ rw (half (f 0) x, half (g 0) y, odd (f 0) x, odd (g 0) y, packed_or (λ j. f (suc j)) (λ j. g (suc j)) n) (either_bit (f 0) (g 0) _)

-- one bit of both
both_bit : (a b : Bool) (m : ℕ) → m * 2 + min (bit a) (bit b) ≡ bit (a && b) + 2 * m
both_bit true true m = omega arith
both_bit true false m = omega arith
both_bit false true m = omega arith
both_bit false false m = omega arith

-- where both of two tests hold
pub packed_and : (f g : ℕ → Bool) (n : ℕ) → bit_and (packed f n) (packed g n) ≡ packed (λ j. f j && g j) n
unfolding packed
packed_and f g zero = refl
packed_and f g (suc n) =
    let x = packed (λ j. f (suc j)) n in
    let y = packed (λ j. g (suc j)) n in
    and_step (bit (f 0) + 2 * x) (bit (g 0) + 2 * y)
    ∙ rw (half (f 0) x, half (g 0) y, odd (f 0) x, odd (g 0) y, packed_and (λ j. f (suc j)) (λ j. g (suc j)) n) (both_bit (f 0) (g 0) _)

-- the tests from one on
pub packed_shift : (f : ℕ → Bool) (n p : ℕ) → packed f n / 2 ^ p ≡ packed (λ j. f (p + j)) (n - p)
unfolding packed
packed_shift f n zero = rw (div-one, sub-zero) (packed_same f (λ j. f (0 + j)) n (λ j _. rw (zero-add j)))
packed_shift f zero (suc p) = let e : 0 - suc p ≡ 0 = omega arith in rw e (zero-div (2 ^ suc p))
packed_shift f (suc n) (suc p) =
    let x = packed (λ j. f (suc j)) n in
    let e : suc n - suc p ≡ n - p = omega arith in
    ap (λ (d : ℕ). (bit (f 0) + 2 * x) / d) (pow-succ' 2 p) ∙ sym (div-div-eq-div-mul (bit (f 0) + 2 * x) 2 (2 ^ p))
    ∙ ap (λ (m : ℕ). m / 2 ^ p) (half (f 0) x) ∙ packed_shift (λ j. f (suc j)) n p
    ∙ rw e (packed_same (λ j. f (suc (p + j))) (λ j. f (suc p + j)) (n - p) (λ j _. rw (suc-add p j)))

-- a first bit, and tests after it that come out like others
packed_next : (f g : ℕ → Bool) (n : ℕ) (b : Bool) → f 0 ≡ b → ((j : ℕ) → f (suc j) ≡ g j) → packed f (suc n) ≡ bit b + 2 * packed g n
unfolding packed
packed_next f g n b e h = rw (e, packed_same (λ j. f (suc j)) g n (λ j _. h j))

-- the numbers from one on and below another
abbrev pub within : (lo hi j : ℕ) → Bool
within lo hi j = leb lo j && ltb j hi

pub packed_span : (n lo hi : ℕ) → lo ≤ hi → hi ≤ n → packed (within lo hi) n ≡ 2 ^ hi - 2 ^ lo
packed_span n zero zero h k = packed_none (within 0 0) n (λ j _. rw (le-ltb j 0 (omega arith)) (and-false (leb 0 j)))
packed_span n (suc lo) zero h k = let z : ⊥ = omega arith in absurd z
packed_span zero lo (suc hi) h k = let z : ⊥ = omega arith in absurd z
packed_span (suc n) zero (suc hi) h k =
    packed_next (within 0 (suc hi)) (within 0 hi) n true (lt-ltb 0 (suc hi) (omega arith)) (λ j. simp (leb-zero, leb-suc-suc))
    ∙ rw (packed_span n zero hi (omega arith) (omega arith)) (omega (arith, pow_pos hi))
packed_span (suc n) (suc lo) (suc hi) h k =
    packed_next (within (suc lo) (suc hi)) (within lo hi) n false (simp leb-suc-zero) (λ j. simp leb-suc-suc)
    ∙ rw (packed_span n lo hi (omega arith) (omega arith)) (omega arith)

-- The laws of the level. Each follows from the rule, IsLevel, and none looks at a table.
-- Assumes nothing.
mod Examples
mod Powers
use Rattle.std.specs.Prelude.{ℕ, zero, suc, ◌+◌, ◌-◌, ◌*◌, ◌^◌, ◌≤◌, ◌<◌, ◌≡◌, refl, Bool, true, false, leb, pos, nat_abs, ◌-ℤ◌}
use Rattle.std.proofs.Common.{sym, ap, subst, ◌∙◌, le_refl, lt_of_le_of_lt, lt_of_lt_of_le, lt_of_not-le, pow-suc, mul_assoc, mul-le-mul_left, arith, leb-true, leb-false, ltb-true, lt-ltb, le-leb, lit<, pow-add}
use Rattle.std.proofs.Math.Nat.{one-le-pow, pow-le-pow_left, pow-succ', mul-lt-mul_of_pos_left}
use Rattle.ground.proofs.Laws.Choice.{clash, either, both}
use Rattle.ground.proofs.Laws.Integers.Parts.{dif}
use Rattle.ground.proofs.Laws.Integers.Products.{abs_out}
use Rattle.levels.specs.Level.{Ranged, IsLevel, IsApart, ranged, is_level, found, level}
use Rattle.levels.proofs.Laws.Level.Powers.{ten_pos, exponent_lt, root_lt, square, scaled, no_tenfold, times_most}

-- ---- the rule, whatever number meets it

-- the rule goes up with x, so that it has one answer at most and a larger number's is no smaller
pub order : {a b r s : ℕ} → b ≤ a → IsLevel b s → IsLevel a r → s ≤ r
order {a} {b} {r} {s} h p q =
    let e : b ^ 1280 ≤ a ^ 1280 = pow-le-pow_left h 1280 in
    let t : 10 ^ suc (2 * r + 1) ≡ 10 * 10 ^ (2 * r + 1) = pow-succ' 10 (2 * r + 1) in
    let l : 2 * s < suc (2 * r + 1) = exponent_lt (2 * s) (suc (2 * r + 1)) (omega (arith, p.low, q.high)) in
    omega arith

-- one number at most meets it
pub unique : {x r s : ℕ} → IsLevel x r → IsLevel x s → r ≡ s
unique p q =
    let h = order (le_refl _) p q in
    let l = order (le_refl _) q p in
    omega arith

-- two levels' difference, from the rule at each: the squares of both sides are compared
pub apart : {a b r s : ℕ} → IsLevel a r → IsLevel b s → s ≤ r → IsApart a b (r - s)
apart {a} {b} {r} {s} p q h = record { low = root_lt _ _ below; high = root_lt _ _ above }
  where
    d : ℕ
    d = r - s

    below : (10 ^ d * b ^ 640) * (10 ^ d * b ^ 640) < (10 * a ^ 640) * (10 * a ^ 640)
    below =
        let f : 10 ^ (d + d) * b ^ 1280 < 10 ^ (d + d) * 10 ^ (2 * s + 1) = mul-lt-mul_of_pos_left q.high (ten_pos (d + d)) in
        let g : 10 ^ (d + d + (2 * s + 1)) ≡ 10 ^ (d + d) * 10 ^ (2 * s + 1) = pow-add 10 (d + d) (2 * s + 1) in
        let e : d + d + (2 * s + 1) ≡ suc (2 * r) = omega arith in
        rw (scaled, scaled 1 a) (omega (arith, p.low, pow-succ' 10 (2 * r), ap (λ (n : ℕ). 10 ^ n) e))

    above : a ^ 640 * a ^ 640 < (10 ^ (d + 1) * b ^ 640) * (10 ^ (d + 1) * b ^ 640)
    above =
        let k : ℕ = d + d + 1 in
        let f : 10 ^ k * 10 ^ (2 * s) ≤ 10 ^ k * (10 * b ^ 1280) = mul-le-mul_left (10 ^ k) q.low in
        let g : 10 ^ (k + 2 * s) ≡ 10 ^ k * 10 ^ (2 * s) = pow-add 10 k (2 * s) in
        let e : k + 2 * s ≡ 2 * r + 1 = omega arith in
        let t : 10 ^ (d + 1 + (d + 1)) * b ^ 1280 ≡ 10 ^ k * (10 * b ^ 1280) =
        ap (λ (n : ℕ). 10 ^ n * b ^ 1280) (omega arith) ∙ ap (λ (n : ℕ). n * b ^ 1280) (pow-suc 10 k) ∙ mul_assoc (10 ^ k) 10 (b ^ 1280) in
        rw (scaled, ← square a) (omega (arith, p.high, ap (λ (n : ℕ). 10 ^ n) e))

-- "No ties occur": no number's logarithm lies half way
pub no_tie : (x k : ℕ) → x ^ 1280 ≡ 10 ^ (2 * k + 1) → ⊥
no_tie x k e = no_tenfold (10 ^ k) (x ^ 640) (10 ^ k) (le_refl _) (ten_pos k) (sym (square x) ∙ e ∙ odd)
  where
    odd : 10 ^ (2 * k + 1) ≡ 10 * (10 ^ k * 10 ^ k)
    odd =
        let f : 2 * k + 1 ≡ suc (k + k) = omega arith in
        ap (λ (n : ℕ). 10 ^ n) f ∙ pow-succ' 10 (k + k) ∙ ap (λ (n : ℕ). 10 * n) (pow-add 10 k k)

-- ---- a number that meets it

-- what passes the test meets the rule
pub tested : {x r : ℕ} → is_level x r ≡ true → IsLevel x r
unfolding is_level
tested e = let t = both _ _ e in record { low = leb-true _ _ t.0; high = ltb-true _ _ t.1 }

-- and what meets the rule passes
passes : {x r : ℕ} → IsLevel x r → is_level x r ≡ true
unfolding is_level
passes p = simp (le-leb _ _ p.low, lt-ltb _ _ p.high)

-- the same of the range
in_range_lem : {x : ℕ} → ranged x ≡ true → Ranged x
unfolding ranged
in_range_lem e = let t = both _ _ e in record { least = leb-true _ _ t.0; most = leb-true _ _ t.1 }

ranges : {x : ℕ} → Ranged x → ranged x ≡ true
unfolding ranged
ranges h = simp (le-leb _ _ h.least, le-leb _ _ h.most)

-- one is there, at most n where n is large enough for the rule's second half
there_is : (x n : ℕ) → 1 ≤ x → x ^ 1280 < 10 ^ (2 * n + 1) → (r : ℕ) × (r ≤ n) × IsLevel x r
there_is x zero h l = (0, le_refl 0, record { low = omega (arith, one-le-pow 1280 x h); high = l })
there_is x (suc n) h l = by (leb (10 ^ (2 * suc n)) (10 * x ^ 1280)) refl (there_is x n h)
  where
    by : (t : Bool) → leb (10 ^ (2 * suc n)) (10 * x ^ 1280) ≡ t →
        (x ^ 1280 < 10 ^ (2 * n + 1) → (r : ℕ) × (r ≤ n) × IsLevel x r) → (r : ℕ) × (r ≤ suc n) × IsLevel x r
    by true t below = (suc n, le_refl (suc n), record { low = leb-true _ _ t; high = l })
    by false t below =
        let e : 2 * suc n ≡ suc (2 * n + 1) = omega arith in
        let g = below (omega (arith, leb-false (10 ^ (2 * suc n)) (10 * x ^ 1280) t, ap (λ (k : ℕ). 10 ^ k) e, pow-succ' 10 (2 * n + 1))) in
        (g.0, omega (arith, g.1), g.2)

-- and is found
found_is : {x r : ℕ} (n : ℕ) → r ≤ n → IsLevel x r → IsLevel x (found x n)
unfolding found
found_is {x} {r} zero h p = let e : r ≡ 0 = omega arith in subst (IsLevel x) e p
found_is {x} {r} (suc n) h p =
    either (IsLevel x) (is_level x (suc n)) (λ t. tested t) (λ t. found_is n (lower t) p)
  where
    lower : is_level x (suc n) ≡ false → r ≤ n
    lower t =
        let g : r < suc n = lt_of_not-le (λ l. let e : r ≡ suc n = omega arith in clash (passes (subst (IsLevel x) e p)) t) in
        omega arith

-- what is found is no more than where the search began
found_le : (x n : ℕ) → found x n ≤ n
unfolding found
found_le x zero = le_refl 0
found_le x (suc n) =
    let h = found_le x n in
    either (λ (r : ℕ). r ≤ suc n) (is_level x (suc n)) (λ t. le_refl (suc n)) (λ t. omega arith)

-- ---- the level itself

-- the level meets the rule
pub level_is : {x : ℕ} → Ranged x → IsLevel x (level x)
unfolding level
level_is {x} h =
    let g = there_is x 2046 h.least (lt_of_le_of_lt (pow-le-pow_left h.most 1280) (lit< tt)) in
    either (IsLevel x) (ranged x) (λ t. found_is 2046 g.1 g.2) (λ t. absurd (clash (ranges h) t))

-- and is the only number that does
pub level_unique : {x r : ℕ} → Ranged x → IsLevel x r → level x ≡ r
level_unique h p = unique (level_is h) p

-- at numbers written out, the tests are computed: `level-at 2 193 refl refl`
pub level_at : (x r : ℕ) → ranged x ≡ true → is_level x r ≡ true → level x ≡ r
level_at x r h p = level_unique (in_range_lem h) (tested p)

-- outside the range it is 0
pub level_outside : (x : ℕ) → (Ranged x → ⊥) → level x ≡ 0
unfolding level
level_outside x f = either (λ (r : ℕ). r ≡ 0) (ranged x) (λ t. absurd (f (in_range_lem t))) (λ t. refl)

-- it is at most 2,046, for any number
pub level_le : (x : ℕ) → level x ≤ 2046
unfolding level
level_le x = either (λ (r : ℕ). r ≤ 2046) (ranged x) (λ t. found_le x 2046) (λ t. omega arith)

-- a larger number's level is no smaller
pub level_mono : {a b : ℕ} → Ranged a → Ranged b → b ≤ a → level b ≤ level a
level_mono p q h = order h (level_is q) (level_is p)

-- and the difference of the two says what their quotient is
pub level_apart : {a b : ℕ} → Ranged a → Ranged b → b ≤ a → IsApart a b (level a - level b)
level_apart p q h = apart (level_is p) (level_is q) (level_mono p q h)

-- a number at most k times another is at most n above it, where 10·k^640 is at most 10^(n+1)
pub level_within : (k n : ℕ) {a b : ℕ} → 10 * k ^ 640 ≤ 10 ^ suc n → Ranged a → Ranged b → b ≤ a → a ≤ k * b → level a - level b ≤ n
level_within k n {a} {b} e p q h l =
    let d = level a - level b in
    let m = exponent_lt d (suc n) (lt_of_lt_of_le (times_most k d a b l (level_apart p q h).low) e) in
    omega arith

-- the levels of any two numbers differ by at most 2,046
pub level_difference : (a b : ℕ) → nat_abs (pos (level a) -ℤ pos (level b)) ≤ 2046
level_difference a b =
    let z = pos (level a) -ℤ pos (level b) in
    let d = dif (pos (level a)) (pos (level b)) in
    abs_out z (omega (arith, d, level_le a)) (omega (arith, d, level_le b))

-- The kit at work: one example of each kind of entry, each closed by one `omega`.
-- Assumes nothing.
use Rattle.std.specs.Prelude.{◌≡◌, true, false, ℤ, pos, negsuc, neg_ℤ, ◌+ℤ◌, ◌-ℤ◌, ◌*ℤ◌, ◌≤ℤ◌, ◌<ℤ◌}
use Rattle.std.specs.Int.Signed.{lt_z, le_z}
use Rattle.std.specs.Int.{w32}
use Rattle.std.proofs.Common.{SFits, to_z, of_z}
use Rattle.std.proofs.lemmas.Int.{to_z-of_z}
use Rattle.ground.specs.Integers.{lesser, greater, Within, within}
use Rattle.ground.proofs.Laws.Integers.Parts.{sum, dif, neg, mul, mul_neg, mul_r}
use Rattle.ground.proofs.Laws.Integers.Order.{ne_in}
use Rattle.ground.proofs.Laws.Integers.Signs.{signs, lesser_of, greater_of, within_yes}

-- sums and differences, and an order among them
moved_over : (a b c : ℤ) → (a +ℤ b) ≤ℤ c → a ≤ℤ (c -ℤ b)
moved_over a b c h = omega (signs, sum a b, dif c b)

-- a negation of a negation
turned_twice : (a : ℤ) → neg_ℤ (neg_ℤ a) ≡ a
turned_twice a = omega (signs, neg a, neg (neg_ℤ a))

-- products by literals, of either sign and on either side
scaled : (a b : ℤ) → a <ℤ b → ((a *ℤ pos 64) <ℤ (pos 64 *ℤ b)) × ((negsuc 63 *ℤ b) <ℤ (negsuc 63 *ℤ a))
scaled a b h = omega (signs, mul 64 b, mul_r a 64, mul_neg 63 a, mul_neg 63 b)

-- a sum of two numbers in their ranges fits its type; a negative literal is written with its sign
sum_fits : (p c : ℤ) → Within (neg_ℤ (pos 9600)) (pos 2112) p → Within (neg_ℤ (pos 4096)) (pos 4096) c → SFits w32 (p +ℤ c)
sum_fits p c h k = omega (signs, sum p c)

-- a number in its range is read from its bits as it is
read_back : (z : ℤ) → Within (neg_ℤ (pos 1984)) (pos 1984) z → to_z w32 (of_z w32 z) ≡ z
read_back z h = to_z-of_z w32 z (omega signs)

-- one test from another
turned_test : (p c : ℤ) → lt_z p c ≡ true → le_z c p ≡ false
turned_test p c h = omega signs

-- a test of a range
outside : (z : ℤ) → within (pos 3) (pos 8) z ≡ true → z ≡ pos 9 → ⊥
outside z h = omega (signs, within_yes (pos 3) (pos 8) z h)

-- two that differ
between_none : (a b : ℤ) → (a ≡ b → ⊥) → a ≤ℤ b → a <ℤ b
between_none a b f h = omega (signs, ne_in f)

-- the lesser and the greater
cut_off : (a b c : ℤ) → lesser (a +ℤ b) c ≡ (a +ℤ b) -ℤ greater (pos 0) ((a +ℤ b) -ℤ c)
cut_off a b c =
    let s = a +ℤ b in
    omega (signs, sum a b, lesser_of s c, dif s c, greater_of (pos 0) (s -ℤ c), dif s (greater (pos 0) (s -ℤ c)))

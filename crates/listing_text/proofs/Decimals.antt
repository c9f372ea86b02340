-- A number's decimal digits, as the rules have them, are those that std writes.
-- Assumes nothing.
use Rattle.std.specs.Prelude.{ℕ, zero, suc, ◌+◌, ◌/◌, ◌%◌, ◌^◌, ◌≤◌, ◌<◌, ◌≡◌, Bool, true, false, ltb, List, [], ◌∷◌, ◌++◌, ℤ, pos, negsuc}
use lib.IntN.{nat_abs}
use Rattle.std.specs.Fmt.{digits_onto, signed_decimal, decimal as std_decimal, digits as std_digits}
use Rattle.std.proofs.Common.{refl, ◌∙◌, ap, arith, append_assoc, append-nil, lt-ltb, ltb-true, ltb-false}
use Rattle.std.proofs.lemmas.Bool.{ne_eqb}
use Rattle.listing_rules.specs.Text.{decimal, digits, signed_text}

-- a last digit, and the digits before one
last : (k n : ℕ) (acc : List ℕ) → n < 10 → digits_onto (suc k) 10 false n acc ≡ (48 + n) ∷ acc
last k n acc h =
    let z : n / 10 ≡ 0 = omega arith in
    let r : n % 10 ≡ n = omega arith in
    rw (z, r, lt-ltb n 10 h)

more : (k n : ℕ) (acc : List ℕ) → 10 ≤ n → digits_onto (suc k) 10 false n acc ≡ digits_onto k 10 false (n / 10) ((48 + n % 10) ∷ acc)
more k n acc h =
    let z : n / 10 ≡ 0 → ⊥ = λ e. omega arith in
    let r : n % 10 < 10 = omega arith in
    rw (ne_eqb (n / 10) 0 z, lt-ltb (n % 10) 10 r)

onto : (most k n : ℕ) (acc : List ℕ) → n < 10 ^ suc most → most ≤ k → digits_onto (suc k) 10 false n acc ≡ digits (suc most) n ++ acc
unfolding digits
onto zero k n acc h l = rw (lt-ltb n 10 h, last k n acc h)
onto (suc most) zero n acc h l = let z : ⊥ = omega arith in absurd z
onto (suc most) (suc k) n acc h l = by (ltb n 10) refl (λ f. onto most k (n / 10) ((48 + n % 10) ∷ acc) f (omega arith))
  where
    by : (b : Bool) → ltb n 10 ≡ b →
        (n / 10 < 10 ^ suc most → digits_onto (suc k) 10 false (n / 10) ((48 + n % 10) ∷ acc) ≡ digits (suc most) (n / 10) ++ (48 + n % 10) ∷ acc) →
        digits_onto (suc (suc k)) 10 false n acc ≡ digits (suc (suc most)) n ++ acc
    by true e f = rw e (last (suc k) n acc (ltb-true n 10 e))
    by false e f = rw (e, more (suc k) n acc (ltb-false n 10 e), f (omega arith), append_assoc)

pub decimal_lem : (n : ℕ) → n < 2 ^ 64 → std_decimal n ≡ decimal n
unfolding decimal std_digits
decimal_lem n h = onto 19 63 n [] (omega arith) (omega arith) ∙ append-nil (digits 20 n)

pub signed_lem : (x : ℤ) → nat_abs x < 2 ^ 64 → signed_decimal x ≡ signed_text x
unfolding signed_text
signed_lem (pos n) h = decimal_lem n h
signed_lem (negsuc n) h = ap (λ (l : List ℕ). 45 ∷ l) (decimal_lem (suc n) h)

-- What the code of a number meets on its way: too few digits or too many, each turn of the loop over them.
-- Assumes nothing.
use Rattle.std.proofs.Common.{ℤ, Some, None, Option}
use Prim.Native.Nat.{ℕ, zero, suc, ◌+◌, ◌-◌, ◌*◌, ◌^◌, ◌≤◌, ◌<◌}
use Rattle.std.proofs.Math.Path.{◌≡◌, refl, sym, ap, ◌∙◌}
use Rattle.std.proofs.Math.Bool.{Bool, true, false, and-true}
use mathlib.Core.List.{List, [], ◌∷◌}
use Rattle.std.proofs.Math.Nat.{pow-suc, pow-le-pow_right}
use Rattle.std.proofs.Math.Numerals.{add-one}
use native.Mathlib.Omega.{arith}
use borrow.Author.Tests.{lt-ltb, le-ltb, le-leb, lt-leb}
use Rattle.std.proofs.Math.Dec.{eqb, lit<}
use Rattle.std.proofs.Math.IntN.{pos, neg_ℤ, ◌-ℤ◌, +ℤ_idl}
use Rattle.std.proofs.Math.ListN.{length, take, drop, get_or, drop_of_length-le}
use Rattle.std.proofs.Math.Seq.{drop-cons}
use lib.Signed.{mag}
use mir.Syntax.{w32}
use mir.Val.{hbits, to_z, of_z}
use mir.Facts.{to_z-of_z}
use Rattle.std.specs.Bool.{nat_eq}
use Rattle.std.specs.Cmp.Lexicographic.{pointwise}
use Rattle.std.specs.Option.{MatchOption, IsSomeAnd}
use Rattle.ground.specs.Choice.{when◌then◌else◌}
use Rattle.ground.proofs.Laws.Choice.{clash, both}
use Rattle.words.specs.Text.{is_digit, all_digits, value_after, digits_good, minus, number_of}
use Rattle.words.specs.Text.Parts.{digits_of, digits_after, value_is, DigitsTold}

-- ---- how many there are

module _ (word : List ℕ) where
  pub digits_few : length word ≡ 0 → DigitsTold word None
  unfolding digits_of
  digits_few h = record { is = rw (le-ltb 0 (length word) (omega arith)); most = lit< tt }

  pub digits_many : 9 < length word → DigitsTold word None
  unfolding digits_of
  digits_many h = record { is = rw (lt-ltb 0 (length word) (omega arith), lt-leb (length word) 9 h); most = lit< tt }

  pub digits_start : 1 ≤ length word → length word ≤ 9 → digits_of word ≡ digits_after 0 word
  unfolding digits_of digits_after
  digits_start h l = rw (lt-ltb 0 (length word) h, le-leb (length word) 9 l)

-- ---- each of them

module _ (word : List ℕ) (n k : ℕ) (e : digits_of word ≡ digits_after n (drop k word)) where
  module _ (h : k < length word) where
    pub digit_none : is_digit (get_or word k 0) ≡ false → DigitsTold word None
    unfolding digits_after all_digits
    digit_none f = record { is = sym (e ∙ rw (drop-cons word k 0 h, f)); most = lit< tt }

    pub digit_on : is_digit (get_or word k 0) ≡ true → digits_of word ≡ digits_after (10 * n + (get_or word k 0 - 48)) (drop (k + 1) word)
    unfolding digits_after all_digits value_after
    digit_on t = e ∙ rw (add-one k, drop-cons word k 0 h, t)

  pub digits_end : length word ≤ k → k ≤ 9 → n < 10 ^ k → DigitsTold word (Some n)
  unfolding digits_after all_digits value_after
  digits_end h l m =
      record {
        is = sym (e ∙ rw (drop_of_length-le word h));
        most = let p : 10 ^ k ≤ 1000000000 = pow-le-pow_right {n = 10} (lit< tt) {i = k} {j = 9} l in omega arith;
      }

-- one digit more, and nine at most
pub digit_more : (n k b : ℕ) → n < 10 ^ k → b ≤ 57 → 10 * n + (b - 48) < 10 ^ (k + 1)
digit_more n k b h l = rw (add-one k, pow-suc 10 k) (omega arith)

pub digit_fits : (n k b : ℕ) → n < 10 ^ k → k < 9 → b ≤ 57 → 10 * n + (b - 48) < 1000000000
digit_fits n k b h m l = let p : 10 ^ k ≤ 100000000 = pow-le-pow_right {n = 10} (lit< tt) {i = k} {j = 8} (omega arith) in omega arith

-- ---- a word that begins with a minus or with none

abbrev pub below : Option ℕ → Option ℤ
below (Some n) = Some (minus n)
below (None) = None

abbrev pub above : Option ℕ → Option ℤ
above (Some n) = Some (pos n)
above (None) = None

below_if : (t : Bool) (n : ℕ) → ◌≡◌ {A = Option ℤ} (when t then Some (minus n) else None) (below (when t then Some n else None))
below_if true n = refl
below_if false n = refl

above_if : (t : Bool) (n : ℕ) → ◌≡◌ {A = Option ℤ} (when t then Some (pos n) else None) (above (when t then Some n else None))
above_if true n = refl
above_if false n = refl

pub number_below : (word : List ℕ) → pointwise nat_eq (take 1 word) (45 ∷ []) ≡ true → number_of word ≡ below (digits_of (drop 1 word))
unfolding number_of digits_of
number_below [] e = absurd (clash e refl)
number_below (b ∷ rest) e = rw ((both (eqb b 45) true e).0) (below_if (digits_good rest) (value_after 0 rest))

pub number_above : (word : List ℕ) → pointwise nat_eq (take 1 word) (45 ∷ []) ≡ false → number_of word ≡ above (digits_of word)
unfolding number_of digits_of
number_above [] e = refl
number_above (b ∷ rest) e =
    let f : eqb b 45 ≡ false = sym (and-true (eqb b 45)) ∙ e in
    rw f (above_if (digits_good (b ∷ rest)) (value_after 0 (b ∷ rest)))

-- ---- the number as a signed one

pub neg_is : (n : ℕ) → neg_ℤ (pos n) ≡ minus n
neg_is zero = refl
neg_is (suc n) = refl

minus_is : (n : ℕ) → pos 0 -ℤ pos n ≡ minus n
minus_is n = +ℤ_idl (neg_ℤ (pos n)) ∙ neg_is n

minus_small : (n : ℕ) → n < 1000000000 → mag (minus n) < 2 ^ hbits w32
minus_small zero h = lit< tt
minus_small (suc n) h = omega arith

module _ {n : ℕ} (h : n < 1000000000) where
  pub value_read : to_z w32 n ≡ pos n
  value_read = to_z-of_z {w = w32} (record { sfits = omega arith })

  pub minus_read : to_z w32 (of_z w32 (pos 0 -ℤ to_z w32 n)) ≡ minus n
  minus_read = rw (value_read, minus_is n) (to_z-of_z {w = w32} (record { sfits = minus_small n h }))

-- what a closure makes of the number that digits are
module _ {part : List ℕ} {d : Option ℕ} (t : DigitsTold part d) (P : ℕ → ℤ → Type 0) {r : Option ℤ} (m : MatchOption d (r ≡ None) (λ n. IsSomeAnd r (P n))) where
  pub told_below : ((n : ℕ) (z : ℤ) → n < 1000000000 → P n z → z ≡ minus n) → r ≡ below (digits_of part)
  told_below f = by d t.most r m ∙ ap below t.is
    where
      by : (d : Option ℕ) → value_is d < 1000000000 → (r : Option ℤ) → MatchOption d (r ≡ None) (λ n. IsSomeAnd r (P n)) → r ≡ below d
      by (None) h r e = e
      by (Some n) h (None) e = absurd e
      by (Some n) h (Some z) e = ap Some (f n z h e)

  pub told_above : ((n : ℕ) (z : ℤ) → n < 1000000000 → P n z → z ≡ pos n) → r ≡ above (digits_of part)
  told_above f = by d t.most r m ∙ ap above t.is
    where
      by : (d : Option ℕ) → value_is d < 1000000000 → (r : Option ℤ) → MatchOption d (r ≡ None) (λ n. IsSomeAnd r (P n)) → r ≡ above d
      by (None) h r e = e
      by (Some n) h (None) e = absurd e
      by (Some n) h (Some z) e = ap Some (f n z h e)

-- One number read as a field of a type: there is one where the number is in the type's range.
-- Assumes nothing.
use Rattle.std.specs.Prelude.{ℕ, zero, suc, ◌^◌, ◌≡◌, refl, Bool, true, false, ℤ, pos, negsuc, nat_abs, unsigned_abs, FitsSigned, Ok, Err, Result, Some, None, Option, OkIff}
use Rattle.std.specs.Result.{result_ok}
use Rattle.std.specs.Int.{Width, FitsUnsignedBits, from_bool}
use Rattle.std.specs.Int.Signed.{lt_z}
use Rattle.std.proofs.Common.{sym, ap, ◌∙◌, w8, w32, w64}
use mir.Val.{hbits, to_z, of_z}
use Rattle.std.proofs.lemmas.Int.{to_z-of_z}
use Rattle.ground.specs.Integers.{Within, within}
use Rattle.ground.proofs.Laws.Choice.{clash, if_false}
use Rattle.ground.proofs.Laws.Integers.Signs.{signs, within_yes, yes_within}
use Rattle.exports_state.specs.Packed.{fits_range, flagged, flag, byte, byte_most, word, word_most, small, signed}
use Rattle.exports_state.specs.Packed.Parts.{some_if}

-- a test that cannot hold does not
pub not_so : (b : Bool) → (b ≡ true → ⊥) → b ≡ false
not_so true n = absurd (n refl)
not_so false n = refl

-- ---- what a value that was read says of its test

is_none : {A : Type 0} → Option A → Bool
is_none None = true
is_none (Some x) = false

pub off : {A : Type 0} (b : Bool) (x : A) {o : Option A} → o ≡ some_if b x → o ≡ None → b ≡ false
unfolding is_none
off true x e n = absurd (clash refl (ap is_none (sym n ∙ e)))
off false x e n = refl

pub on : {A : Type 0} (b : Bool) (x : A) {y : A} {o : Option A} → o ≡ some_if b x → o ≡ Some y → (b ≡ true) × (y ≡ x)
unfolding is_none
on true x e f = (refl, cc)
on false x e f = absurd (clash refl (ap is_none (sym e ∙ f)))

-- ---- what a conversion asks, as the test of its range

module _ (k most : ℕ) (e : suc most ≡ 2 ^ k) where
  unsigned_in : (z : ℤ) → FitsUnsignedBits k z → within (pos 0) (pos most) z ≡ true
  unsigned_in (pos n) h = let w : Within (pos 0) (pos most) (pos n) = record { low = omega signs; high = omega (signs, e, h) } in yes_within w
  unsigned_in (negsuc n) h = absurd h

  unsigned_out : (z : ℤ) → within (pos 0) (pos most) z ≡ true → FitsUnsignedBits k z
  unsigned_out (pos n) h = let w = within_yes (pos 0) (pos most) (pos n) h in omega (signs, w.high, e)
  unsigned_out (negsuc n) h = absurd (within_yes (pos 0) (pos most) (negsuc n) h).low.le

module _ (w : Width) (most : ℕ) (e : suc most ≡ 2 ^ hbits w) where
  signed_in : (z : ℤ) → FitsSigned w z → within (negsuc most) (pos most) z ≡ true
  signed_in (pos n) h = let k : Within (negsuc most) (pos most) (pos n) = record { low = omega signs; high = omega (signs, e, h.sfits) } in yes_within k
  signed_in (negsuc n) h = let k : Within (negsuc most) (pos most) (negsuc n) = record { low = omega (signs, e, h.sfits); high = omega signs } in yes_within k

  signed_out : (z : ℤ) → within (negsuc most) (pos most) z ≡ true → FitsSigned w z
  signed_out (pos n) h = let k = within_yes (negsuc most) (pos most) (pos n) h in record { sfits = omega (signs, k.high, e) }
  signed_out (negsuc n) h = let k = within_yes (negsuc most) (pos most) (negsuc n) h in record { sfits = omega (signs, k.low, e) }

-- ---- a conversion, by that test

read : {A E P : Type 0} (b : Bool) (x : A) (r : Result A E) → (b ≡ true → P) → (P → b ≡ true) → OkIff r P x → result_ok r ≡ some_if b x
read true x (Ok y) f g h = ap Some h.1
read true x (Err e) f g h = absurd (h (f refl))
read false x (Ok y) f g h = absurd (clash (g h.0) refl)
read false x (Err e) f g h = refl

-- a number is read from its bits
abbrev bits : ℤ → ℤ
bits z = to_z w64 (of_z w64 z)

module _ {E : Type 0} (z : ℤ) (fit : FitsSigned w64 z) where
  pub byte_read : {o : Option ℕ} (r : Result ℕ E) → OkIff r (FitsUnsignedBits 8 (bits z)) (unsigned_abs (bits z)) → o ≡ result_ok r →
      o ≡ some_if (fits_range byte z) (nat_abs z)
  byte_read r h e = e ∙ read (fits_range byte z) _ r (unsigned_out 8 byte_most refl z) (unsigned_in 8 byte_most refl z) (rw (to_z-of_z w64 z fit) at h)

  pub word_read : {o : Option ℕ} (r : Result ℕ E) → OkIff r (FitsUnsignedBits 32 (bits z)) (unsigned_abs (bits z)) → o ≡ result_ok r →
      o ≡ some_if (fits_range word z) (nat_abs z)
  word_read r h e = e ∙ read (fits_range word z) _ r (unsigned_out 32 word_most refl z) (unsigned_in 32 word_most refl z) (rw (to_z-of_z w64 z fit) at h)

  pub small_read : {o : Option ℤ} (r : Result ℤ E) → OkIff r (FitsSigned w8 (bits z)) (bits z) → o ≡ result_ok r → o ≡ some_if (fits_range small z) z
  small_read r h e = e ∙ read (fits_range small z) _ r (signed_out w8 127 refl z) (signed_in w8 127 refl z) (rw (to_z-of_z w64 z fit) at h)

  pub signed_read : {o : Option ℤ} (r : Result ℤ E) → OkIff r (FitsSigned w32 (bits z)) (bits z) → o ≡ result_ok r → o ≡ some_if (fits_range signed z) z
  signed_read r h e = e ∙ read (fits_range signed z) _ r (signed_out w32 2147483647 refl z) (signed_in w32 2147483647 refl z) (rw (to_z-of_z w64 z fit) at h)

pub flag_read : (z : ℤ) → FitsSigned w64 z → {o : Option Bool} → o ≡ some_if (fits_range flag (bits z)) (lt_z (pos 0) (bits z)) →
    o ≡ some_if (fits_range flag z) (lt_z (pos 0) z)
flag_read z fit e = rw (to_z-of_z w64 z fit) at e

-- and back: 1 and 0
pub flag_told : (b : Bool) {z : ℤ} → z ≡ pos (from_bool b) → z ≡ flagged b
unfolding flagged
flag_told true e = e
flag_told false e = e

-- ---- 0 and 1, by the bits of a number

pub number_of : (z : ℤ) {n : ℕ} → FitsSigned w64 z → of_z w64 z ≡ n → z ≡ to_z w64 n
number_of z fit e = sym (to_z-of_z w64 z fit) ∙ ap (to_z w64) e

pub zero_flag : (z : ℤ) → FitsSigned w64 z → of_z w64 z ≡ 0 → Some false ≡ some_if (fits_range flag z) (lt_z (pos 0) z)
zero_flag z fit e = rw (number_of z fit e)

pub one_flag : (z : ℤ) → FitsSigned w64 z → of_z w64 z ≡ 1 → Some true ≡ some_if (fits_range flag z) (lt_z (pos 0) z)
one_flag z fit e = rw (number_of z fit e)

pub no_flag : (z : ℤ) → (of_z w64 z ≡ 0 → ⊥) → (of_z w64 z ≡ 1 → ⊥) → None ≡ some_if (fits_range flag z) (lt_z (pos 0) z)
no_flag z n m = if_false _ _ (not_so _ (λ e. neither z n m (within_yes (pos 0) (pos 1) z e)))
  where
    neither : (z : ℤ) → (of_z w64 z ≡ 0 → ⊥) → (of_z w64 z ≡ 1 → ⊥) → Within (pos 0) (pos 1) z → ⊥
    neither (pos zero) n m h = n refl
    neither (pos (suc zero)) n m h = m refl
    neither (pos (suc (suc k))) n m h = omega signs
    neither (negsuc k) n m h = h.low.le

pub small_fits : (z : ℤ) → fits_range small z ≡ true → to_z w8 (of_z w8 z) ≡ z
small_fits z e = to_z-of_z w8 z (signed_out w8 127 refl z e)

pub signed_fits : (z : ℤ) → fits_range signed z ≡ true → to_z w32 (of_z w32 z) ≡ z
signed_fits z e = to_z-of_z w32 z (signed_out w32 2147483647 refl z e)

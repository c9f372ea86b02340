-- What the tests of a line's numbers say of the numbers: each fits the bytes that take it, and is kept there; what a number that its bytes cannot hold
-- says of its test, and what the first word of a line decides.
-- Assumes nothing.
mod Examples
use Rattle.std.specs.Prelude.{ℕ, ◌+◌, ◌-◌, ◌≤◌, ◌<◌, ◌^◌, ◌≡◌, refl, Bool, true, false, ◌&&◌, List, T, ℤ, pos, negsuc, nat_abs, length, take, drop, Some, None}
use Rattle.std.proofs.Common.{length-drop}
use Rattle.std.proofs.Math.Seq.{take-length}
use Rattle.std.specs.Int.Signed.{non_neg}
use Rattle.std.specs.Int.{Width, w8, w16, w32}
use mir.Val.{Fits, SFits, to_z, of_z, bits}
use Rattle.std.proofs.lemmas.Int.{to_z-of_z}
use Rattle.words.specs.declared.Word.{Word}
use Rattle.words.specs.declared.Numbers.{Numbers}
use Rattle.words.specs.Text.{words_of, word_at, numbers_of}
use Rattle.words.proofs.Laws.Text.{words_none, words_next}
use Rattle.ground.proofs.Laws.Choice.{both}
use Rattle.ground.specs.Choice.{when◌then◌else◌}
use Rattle.ground.specs.Integers.{Within, within, pz}
use Rattle.ground.proofs.Laws.Integers.Signs.{signs, within_yes}
use Rattle.compose_lines.specs.Lines.{has, at, is_byte, is_pair, is_signed_byte, is_signed_pair, is_count, three}
use Rattle.compose_lines.specs.Lines.{settings_fit, gain_fit, gap_fit, row_fit, rows_fit, item_by, item_of}
use Rattle.compose_lines.specs.declared.Item.{Item}

-- ---- a number of a line

-- where there is no value, its test fails
pub fails : {A : Type 0} (b : Bool) (x : A) → None ≡ (when b then Some x else None) → b ≡ false
fails true x e = cc
fails false x e = refl

-- the ranges of the five kinds of numbers, as facts
abbrev pub Byte : ℤ → Type 0
Byte z = Within (pos 0) (pos 255) z

abbrev pub Pair : ℤ → Type 0
Pair z = Within (pos 0) (pos 65535) z

abbrev pub Count : ℤ → Type 0
Count z = Within (pos 0) (pos 999999999) z

abbrev pub SignedByte : ℤ → Type 0
SignedByte z = Within (negsuc 127) (pos 127) z

abbrev pub SignedPair : ℤ → Type 0
SignedPair z = Within (negsuc 32767) (pos 32767) z

-- ---- a number and the bytes that take it

-- a number from 0 to `most`, as one without a sign
unsigned : (w : Width) (most : ℕ) → most < 2 ^ bits w → (z : ℤ) → Within (pos 0) (pos most) z → T (non_neg z) × Fits w (nat_abs z)
unsigned w most h (pos n) k = (tt, record { fits = omega (signs, k.high) })
unsigned w most h (negsuc n) k = let z : ⊥ = omega (signs, k.low) in absurd z

same_size : (most : ℕ) (z : ℤ) → Within (pos 0) (pos most) z → nat_abs z ≡ pz z
same_size most (pos n) k = refl
same_size most (negsuc n) k = let z : ⊥ = omega (signs, k.low) in absurd z

-- and as it stands in an i32
plain : {most : ℕ} {z : ℤ} → most < 2 ^ 31 → Within (pos 0) (pos most) z → to_z w32 (of_z w32 z) ≡ z
plain {z} h k = to_z-of_z w32 z (omega signs)

cast : (w : Width) {most : ℕ} {z : ℤ} → most < 2 ^ 31 → most < 2 ^ bits w → Within (pos 0) (pos most) z →
    T (non_neg (to_z w32 (of_z w32 z))) × Fits w (nat_abs (to_z w32 (of_z w32 z)))
cast w {most} {z} h l k = rw (plain h k) (unsigned w most l z k)

kept : {most : ℕ} {z : ℤ} → most < 2 ^ 31 → Within (pos 0) (pos most) z → nat_abs (to_z w32 (of_z w32 z)) ≡ pz z
kept {most} {z} h k = rw (plain h k) (same_size most z k)

-- so a number of each kind is taken as it is
pub byte_cast : {z : ℤ} → Byte z → T (non_neg (to_z w32 (of_z w32 z))) × Fits w8 (nat_abs (to_z w32 (of_z w32 z)))
byte_cast k = cast w8 (omega signs) (omega signs) k

pub byte_kept : {z : ℤ} → Byte z → nat_abs (to_z w32 (of_z w32 z)) ≡ pz z
byte_kept k = kept (omega signs) k

pub pair_cast : {z : ℤ} → Pair z → T (non_neg (to_z w32 (of_z w32 z))) × Fits w16 (nat_abs (to_z w32 (of_z w32 z)))
pair_cast k = cast w16 (omega signs) (omega signs) k

pub pair_kept : {z : ℤ} → Pair z → nat_abs (to_z w32 (of_z w32 z)) ≡ pz z
pair_kept k = kept (omega signs) k

pub count_cast : {z : ℤ} → Count z → T (non_neg (to_z w32 (of_z w32 z))) × Fits w32 (nat_abs (to_z w32 (of_z w32 z)))
count_cast k = cast w32 (omega signs) (omega signs) k

pub count_kept : {z : ℤ} → Count z → nat_abs (to_z w32 (of_z w32 z)) ≡ pz z
count_kept k = kept (omega signs) k

-- numbers with a sign
signed_fits : (z : ℤ) → SignedByte z → SFits w8 z
signed_fits (pos n) k = record { sfits = omega (signs, k.high) }
signed_fits (negsuc n) k = record { sfits = omega (signs, k.low) }

pub signed_same : {z : ℤ} → SignedPair z → to_z w32 (of_z w32 z) ≡ z
signed_same {z} k = to_z-of_z w32 z (omega signs)

byte_same : {z : ℤ} → SignedByte z → to_z w32 (of_z w32 z) ≡ z
byte_same {z} k = to_z-of_z w32 z (omega signs)

pub signed_cast : {z : ℤ} → SignedByte z → SFits w8 (to_z w32 (of_z w32 z))
signed_cast {z} k = rw (byte_same k) (signed_fits z k)

pub signed_kept : {z : ℤ} → SignedByte z → to_z w8 (of_z w8 (to_z w32 (of_z w32 z))) ≡ z
signed_kept {z} k = rw (byte_same k) (to_z-of_z w8 z (signed_fits z k))

-- ---- the numbers of a line

-- tests that hold together: each holds
both_3 : (a b c : Bool) → a && b && c ≡ true → (a ≡ true) × (b ≡ true) × (c ≡ true)
both_3 a b c e = let h = both (a && b) c e in let k = both a b h.0 in (k.0, k.1, h.1)

both_4 : (a b c d : Bool) → a && b && c && d ≡ true → (a ≡ true) × (b ≡ true) × (c ≡ true) × (d ≡ true)
both_4 a b c d e = let h = both (a && b && c) d e in let k = both_3 a b c h.0 in (k.0, k.1, k.2, h.1)

pub record Three (most : ℕ) (n : Numbers) (from : ℕ) : Type 0 where
  pub first : Within (pos 0) (pos most) (at n from)
  pub second : Within (pos 0) (pos most) (at n (from + 1))
  pub third : Within (pos 0) (pos most) (at n (from + 2))

pub three_in : (most : ℕ) (n : Numbers) (from : ℕ) → three (within (pos 0) (pos most)) n from ≡ true → Three most n from
three_in most n k e =
    let fits = within (pos 0) (pos most) in
    let h = both_3 (fits (at n k)) (fits (at n (k + 1))) (fits (at n (k + 2))) e in
    record { first = within_yes _ _ _ h.0; second = within_yes _ _ _ h.1; third = within_yes _ _ _ h.2 }

pub record GapIn (n : Numbers) : Type 0 where
  pub first : Three 255 n 0
  pub second : Three 255 n 3
  pub third : Three 65535 n 6

pub gap_in_lem : (n : Numbers) → gap_fit n ≡ true → GapIn n
unfolding gap_fit
gap_in_lem n e =
    let h = both_4 (has 9 n) (three is_byte n 0) (three is_byte n 3) (three is_pair n 6) e in
    record { first = three_in 255 n 0 h.1; second = three_in 255 n 3 h.2; third = three_in 65535 n 6 h.3 }

pub record SettingsIn (n : Numbers) : Type 0 where
  pub rules : Three 255 n 0
  pub rpp : Byte (at n 3)
  pub links : Byte (at n 4)
  pub maximum : SignedByte (at n 5)
  pub start : SignedPair (at n 6)

pub settings_in_lem : (n : Numbers) → settings_fit n ≡ true → SettingsIn n
unfolding settings_fit
settings_in_lem n e =
    let bytes = has 7 n && three is_byte n 0 && is_byte (at n 3) && is_byte (at n 4) in
    let h = both_3 bytes (is_signed_byte (at n 5)) (is_signed_pair (at n 6)) e in
    let b = both_4 (has 7 n) (three is_byte n 0) (is_byte (at n 3)) (is_byte (at n 4)) h.0 in
    record {
      rules = three_in 255 n 0 b.1;
      rpp = within_yes _ _ _ b.2;
      links = within_yes _ _ _ b.3;
      maximum = within_yes _ _ _ h.1;
      start = within_yes _ _ _ h.2;
    }

pub gain_in : (n : Numbers) → gain_fit n ≡ true → Three 255 n 0
gain_in n e = three_in 255 n 0 (both (has 3 n) (three is_byte n 0) e).1

pub record RowIn (n : Numbers) : Type 0 where
  pub commands : Byte (at n 0)
  pub pilots : Byte (at n 1)

pub row_in_lem : (n : Numbers) → row_fit n ≡ true → RowIn n
row_in_lem n e =
    let h = both_3 (has 2 n) (is_byte (at n 0)) (is_byte (at n 1)) e in
    record { commands = within_yes _ _ _ h.1; pilots = within_yes _ _ _ h.2 }

pub record RowsIn (n : Numbers) : Type 0 where
  pub count : Count (at n 0)
  pub commands : Byte (at n 1)
  pub pilots : Byte (at n 2)

pub rows_in_lem : (n : Numbers) → rows_fit n ≡ true → RowsIn n
rows_in_lem n e =
    let h = both_4 (has 3 n) (is_count (at n 0)) (is_byte (at n 1)) (is_byte (at n 2)) e in
    record { count = within_yes _ _ _ h.1; commands = within_yes _ _ _ h.2; pilots = within_yes _ _ _ h.3 }

-- ---- the first word of a line

-- of a line that has none
pub item_none : (line : List ℕ) (w : Word) → w ≡ word_at line 0 → length line ≤ w.begin → Item.Blank ≡ item_of (words_of line)
unfolding item_of
item_none line w e h = rw (words_none line 0 (rw e at h))

-- and of one that has one: it decides, with the numbers of all that follows it
tail : (line : List ℕ) (k : ℕ) → take (length line - k) (drop k line) ≡ drop k line
tail line k = rw (← (length-drop k line)) (take-length (drop k line))

pub item_next : (line : List ℕ) (w : Word) (n : Numbers) → w ≡ word_at line 0 → w.begin < length line →
    n ≡ numbers_of (words_of (take (length line - w.end) (drop w.end line))) →
    item_by (take (w.end - w.begin) (drop w.begin line)) n ≡ item_of (words_of line)
unfolding item_of
item_next line w n e h f = rw (words_next line 0 (rw e at h), f, tail, e)

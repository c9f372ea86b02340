-- The laws of the listing's text: what was stored in a buffer, how long a text is and where it ends, the lines of rows in two parts, and that numbers
-- are decimal.
-- Assumes nothing.
mod Examples
pub mod Ids
use Rattle.std.specs.Prelude.{ℕ, zero, suc, ◌+◌, ◌-◌, ◌*◌, ◌/◌, ◌%◌, ◌^◌, ◌≤◌, ◌<◌, ◌≡◌, refl, Bool, true, false, List, [], ◌∷◌, ◌++◌, ltb, ℤ, pos, negsuc, length, get_or}
use Rattle.std.proofs.Common.{suc-le-suc, sym, ◌∙◌, append_assoc, add-zero, lt_of_lt_of_le, not-suc-le-zero, arith, le-leb, ltb-true, ltb-false, lit≤, length-append}
use Rattle.std.proofs.Math.Nat.{le_step}
use Rattle.ground.specs.declared.Refusal.{Refusal}
use Rattle.ground.proofs.Laws.Choice.{either, if_true}
use Rattle.ground.proofs.Laws.Lists.{sets_append}
use Rattle.constants.specs.Sizes.{line_room}
use Rattle.row_values.specs.declared.Answer.{Answer}
use Rattle.listing_rules.specs.Text.{bytes, digits, decimal, signed_text, field, line_start, powers, line, lines}
use Rattle.listing_rules.specs.Text.{by_field, header, ending, refusal_line, Wrote, placed}
use Rattle.listing_rules.proofs.Laws.Text.Ids.{by_length}

-- ---- what was stored in a buffer

-- one text, then another from where the first ended, is both
pub joined : {next last at : ℕ} {before between after s t : List ℕ} → Wrote next between before at s → Wrote last after between next t →
    Wrote last after before at (s ++ t)
joined p q =
    record { place = rw length-append (omega (arith, p.place, q.place)); bytes = q.bytes ∙ rw (sets_append, ← p.bytes, ← p.place) }

-- no text leaves a buffer as it is
pub nothing : (at : ℕ) (buffer : List ℕ) → Wrote at buffer buffer at []
nothing at buffer = record { place = omega arith; bytes = refl }

-- a text that has its room is placed
pub placed_there : (lines size at : ℕ) (text : List ℕ) → at + line_room * lines ≤ size → placed lines size at text ≡ text
unfolding placed
placed_there lines size at text h = sym (if_true text [] (le-leb _ _ h))

-- ---- how long a text is

-- no more digits than allowed
pub digits_length : (most n : ℕ) → length (digits most n) ≤ most
unfolding digits
digits_length zero n = omega arith
digits_length (suc most) n =
    either (λ (l : List ℕ). length l ≤ suc most) (ltb n 10) (λ e. omega arith) (λ e. simp length-append (omega (arith, digits_length most (n / 10))))

-- twenty digits
pub decimal_length : (n : ℕ) → length (decimal n) ≤ 20
unfolding decimal
decimal_length n = digits_length 20 n

-- and a sign
pub signed_length : (x : ℤ) → length (signed_text x) ≤ 21
unfolding signed_text
signed_length (pos n) = le_step (decimal_length _)
signed_length (negsuc n) = suc-le-suc (decimal_length _)

-- and a space
pub field_length : (absent : Bool) (x : ℤ) → length (field absent x) ≤ 22
unfolding field
field_length true x = omega arith
field_length false x = omega (arith, signed_length x)

-- the row's number and two fields
pub start_length : (row : ℕ) (a : Answer) → length (line_start row a) ≤ 64
unfolding line_start
start_length row a = simp length-append (omega (arith, decimal_length row, field_length false a.state, field_length false a.command))

-- three fields
three_fields : (a b c : Bool) (x y z : ℤ) → length (field a x ++ field b y ++ field c z) ≤ 66
three_fields a b c x y z = simp length-append (omega (arith, field_length a x, field_length b y, field_length c z))

pub powers_length : (sends : Bool) (a : Answer) → length (powers sends a) ≤ 66
unfolding powers
powers_length sends a = three_fields _ _ _ _ _ _

-- a row's line has its room
pub line_length : (sends : Bool) (row : ℕ) (a : Answer) → length (line sends row a) ≤ line_room
unfolding line
line_length sends row a = simp length-append (omega (arith, start_length row a, powers_length sends a, field_length false a.held, by_length a))

-- the lines of rows have theirs
pub lines_length : (sends : Bool) (row : ℕ) (l : List Answer) → length (lines sends row l) ≤ line_room * length l
unfolding lines
lines_length sends row [] = omega arith
lines_length sends row (a ∷ l) = simp length-append (omega (arith, line_length sends row a, lines_length sends (row + 1) l))

-- so have the header, the last line and a refusal
pub header_length : length header ≤ line_room
unfolding header
header_length = omega arith

ending_with : (s t : List ℕ) → length s ≤ 20 → length t ≤ 21 → length (bytes "rows " ++ s ++ bytes " held " ++ t ++ 10 ∷ []) ≤ line_room
ending_with s t h k = simp length-append (omega arith)

pub ending_length : (rows : ℕ) (held : ℤ) → length (ending rows held) ≤ line_room
unfolding ending
ending_length rows held = ending_with (decimal _) (signed_text _) (decimal_length _) (signed_length _)

pub refusal_length : (r : Refusal) → length (refusal_line r) ≤ line_room
unfolding refusal_line
refusal_length r = simp length-append (omega (arith, decimal_length r.number, decimal_length r.place))

-- ---- where a text in a buffer ends

-- no further than the digits allowed
pub digits_end : (most n : ℕ) {next at : ℕ} {exit entry : List ℕ} → Wrote next exit entry at (digits most n) → next ≤ at + most
digits_end most n w = omega (arith, digits_length most n)

-- no further than twenty digits and a sign
pub signed_end : (x : ℤ) {next at : ℕ} {exit entry : List ℕ} → Wrote next exit entry at (signed_text x) → next ≤ at + 21
signed_end x w = omega (arith, signed_length x)

-- no further than a space and those
pub field_end : (absent : Bool) (x : ℤ) {next at : ℕ} {exit entry : List ℕ} → Wrote next exit entry at (field absent x) → next ≤ at + 22
field_end absent x w = omega (arith, field_length absent x)

-- no further than 64 bytes
pub start_end : (row : ℕ) (a : Answer) {next at : ℕ} {exit entry : List ℕ} → Wrote next exit entry at (line_start row a) → next ≤ at + 64
start_end row a w = omega (arith, start_length row a)

-- no further than 66 bytes
pub powers_end : (sends : Bool) (a : Answer) {next at : ℕ} {exit entry : List ℕ} → Wrote next exit entry at (powers sends a) → next ≤ at + 66
powers_end sends a w = omega (arith, powers_length sends a)

-- no further than 12 bytes
pub by_end : (a : Answer) {next at : ℕ} {exit entry : List ℕ} → Wrote next exit entry at (by_field a) → next ≤ at + 12
by_end a w = omega (arith, by_length a)

-- no further than a line's room
pub line_end : (sends : Bool) (row : ℕ) (a : Answer) {next at : ℕ} {exit entry : List ℕ} → Wrote next exit entry at (line sends row a) → next ≤ at + line_room
line_end sends row a w = omega (arith, line_length sends row a)

-- the rules by which `omega` reads where what was stored ends
pub ruleset ends = (arith, digits_end, signed_end, field_end, start_end, powers_end, by_end, line_end)

-- ---- rows in two parts

-- the lines of rows, then those of the rows after them, counted on
pub lines_append : (sends : Bool) (row : ℕ) (l m : List Answer) → lines sends row (l ++ m) ≡ lines sends row l ++ lines sends (row + length l) m
unfolding lines
lines_append sends row [] m = rw (add-zero row)
lines_append sends row (a ∷ l) m =
    let e : row + length (a ∷ l) ≡ row + 1 + length l = omega arith in
    rw (e, append_assoc, lines_append sends (row + 1) l m)

-- ---- numbers are decimal

-- digits read from the left, after a number that was read before them
abbrev pub value_from : ℕ → List ℕ → ℕ
value_from n [] = n
value_from n (d ∷ l) = value_from (10 * n + (d - 48)) l

-- the number that decimal digits say
abbrev pub value : List ℕ → ℕ
value l = value_from 0 l

-- a digit more: ten times what was read, and the digit
value_last : (n : ℕ) (l : List ℕ) (d : ℕ) → value_from n (l ++ d ∷ []) ≡ 10 * value_from n l + (d - 48)
value_last n [] d = refl
value_last n (x ∷ l) d = value_last (10 * n + (x - 48)) l d

-- the digits of a number that has no more of them read back as the number
pub read_back : (most n : ℕ) → n < 10 ^ most → value (digits most n) ≡ n
unfolding digits
read_back zero n h = omega arith
read_back (suc most) n h =
    either (λ (l : List ℕ). value l ≡ n) (ltb n 10) (λ e. omega arith)
    (λ e. omega (arith, value_last 0 (digits most (n / 10)) (48 + n % 10), read_back most (n / 10) (omega arith)))

-- so does every number of 64 bits
pub decimal_back : (n : ℕ) → n < 2 ^ 64 → value (decimal n) ≡ n
unfolding decimal
decimal_back n h = read_back 20 n (lt_of_lt_of_le h (lit≤ tt))

-- the first digit of a number above 0 is not "0"
pub no_zero_first : (most n : ℕ) → 0 < n → n < 10 ^ most → 48 < get_or (digits most n) 0 0
unfolding digits
no_zero_first zero n p h = let z : ⊥ = omega arith in absurd z
no_zero_first (suc most) n p h =
    either (λ (l : List ℕ). 48 < get_or l 0 0) (ltb n 10) (λ e. omega arith)
    (λ e. let l = ltb-false n 10 e in first (digits most (n / 10)) _ (no_zero_first most (n / 10) (omega arith) (omega arith)))
  where
    first : (l m : List ℕ) → 48 < get_or l 0 0 → 48 < get_or (l ++ m) 0 0
    first [] m h = absurd (not-suc-le-zero h)
    first (x ∷ l) m h = h

-- "0" to "9"
abbrev pub Digit : ℕ → Type 0
Digit d = (48 ≤ d) × (d ≤ 57)

-- every byte of a number is a digit
pub each_digit : (most n k : ℕ) → k < length (digits most n) → Digit (get_or (digits most n) k 0)
unfolding digits
each_digit zero n k h = absurd (not-suc-le-zero h)
each_digit (suc most) n k h =
    either (λ (l : List ℕ). k < length l → Digit (get_or l k 0)) (ltb n 10)
    (λ e. let d = ltb-true n 10 e in more [] (48 + n) k (λ _ i. absurd (not-suc-le-zero i)) (omega arith))
    (λ e. more (digits most (n / 10)) (48 + n % 10) k (each_digit most (n / 10)) (omega arith)) h
  where
    more : (l : List ℕ) (d k : ℕ) → ((j : ℕ) → j < length l → Digit (get_or l j 0)) → Digit d → k < length (l ++ d ∷ []) →
        Digit (get_or (l ++ d ∷ []) k 0)
    more [] d zero f g h = g
    more [] d (suc k) f g h = let z : ⊥ = omega arith in absurd z
    more (x ∷ l) d zero f g h = f 0 (omega arith)
    more (x ∷ l) d (suc k) f g h = more l d k (λ j i. f (suc j) (omega arith)) g (omega arith)

-- "The listing": its text, byte by byte. A byte is its number in ASCII.
-- RULES: listing
-- Definitions, to be believed.
pub mod Reading
use Rattle.std.specs.Prelude.{ℕ, zero, suc, ◌+◌, ◌*◌, ◌/◌, ◌%◌, ◌≡◌, Bool, false, not, ◌||◌, List, [], ◌∷◌, ◌++◌, leb, ltb, ℤ, pos, negsuc, length}
use Rattle.std.proofs.lemmas.List.Edits.{sets}
use Rattle.std.specs.Int.Signed.{lt_z}
use Rattle.ground.specs.declared.Refusal.{Refusal}
use Rattle.ground.specs.Choice.{when◌then◌else◌}
use Rattle.ground.specs.Sums.{is_in}
pub use Rattle.ground.specs.Texts.{bytes}
use Rattle.constants.specs.Sizes.{id_most, line_room}
use Rattle.row_values.specs.declared.Answer.{Answer}

-- ---- numbers

-- the last decimal digits of a number, so many at most, with no zero before the first
unfoldable pub digits : (most : ℕ) → ℕ → List ℕ
digits zero n = []
digits (suc most) n = when ltb n 10 then (48 + n) ∷ [] else digits most (n / 10) ++ (48 + n % 10) ∷ []

-- a number in decimal: twenty digits are enough for every number of 64 bits
unfoldable pub decimal : ℕ → List ℕ
decimal n = digits 20 n

-- a signed one, "-" before it where it is below zero
unfoldable pub signed_text : ℤ → List ℕ
signed_text (pos n) = decimal n
signed_text (negsuc n) = 45 ∷ decimal (suc n)

-- ---- the ids of a row, in its line

-- "as sums of 2^(id−1)": the set that a number of an answer stands for. One below zero stands for no ids
-- DECISIONS: listing-by-sets
abbrev pub set_in : ℤ → ℕ
set_in (pos n) = n
set_in (negsuc n) = 0

-- "the ids of either direction": whether one is in the uplink set or in the downlink set
-- DECISIONS: listing-by-union
unfoldable pub in_either : Answer → (id : ℕ) → Bool
in_either a id = is_in (set_in a.uplink) id || is_in (set_in a.downlink) id

-- "each once, rising": of 1 to n those that pass a test
unfoldable pub passing : (ℕ → Bool) → (n : ℕ) → List ℕ
passing test zero = []
passing test (suc n) = passing test n ++ (when test (suc n) then suc n ∷ [] else [])

-- "as a set over 1 to 6": the ids of an answer
unfoldable pub ids_of : Answer → List ℕ
ids_of a = passing (in_either a) id_most

-- ids, a comma before each
unfoldable pub later_ids : List ℕ → List ℕ
later_ids [] = []
later_ids (id ∷ rest) = 44 ∷ decimal id ++ later_ids rest

-- ids "joined by commas, or `-`"
unfoldable pub ids_text : List ℕ → List ℕ
ids_text [] = 45 ∷ []
ids_text (id ∷ rest) = decimal id ++ later_ids rest

-- "The listing gets a last column `by`": a space, then the ids
-- DECISIONS: listing-by-gap-alone
unfoldable pub by_field : Answer → List ℕ
by_field a = 32 ∷ ids_text (ids_of a)

-- ---- a row's line

-- a space, then a number, or "-" where it is absent
unfoldable pub field : (absent : Bool) → ℤ → List ℕ
field absent x = 32 ∷ (when absent then 45 ∷ [] else signed_text x)

-- "state (0 gap, 1 sent, 2 limited)"
-- DECISIONS: listing-dash-by-state
abbrev pub gap_in : Answer → Bool
gap_in a = lt_z a.state (pos 1)

-- the number of the row, its state and its command
unfoldable pub line_start : (row : ℕ) → Answer → List ℕ
line_start row a = decimal row ++ field false a.state ++ field false a.command

-- "DPCCH, DPDCH, total": in a gap none is sent, and data power is none when βd is 0
-- DECISIONS: listing-dash-by-state
unfoldable pub powers : (sends : Bool) → Answer → List ℕ
powers sends a = field (gap_in a) a.dpcch ++ field (gap_in a || not sends) a.dpdch ++ field (gap_in a) a.total

-- "one line a row with "-" for absent powers": row, state, command, DPCCH, DPDCH, total, held, by
-- DECISIONS: listing-plain-lines
unfoldable pub line : (sends : Bool) (row : ℕ) → Answer → List ℕ
line sends row a = line_start row a ++ powers sends a ++ field false a.held ++ by_field a ++ 10 ∷ []

-- the lines of rows one after the other, the first with the number `row`
unfoldable pub lines : (sends : Bool) (row : ℕ) → List Answer → List ℕ
lines sends row [] = []
lines sends row (a ∷ rest) = line sends row a ++ lines sends (row + 1) rest

-- ---- the other lines

-- "the fixed header"
unfoldable pub header : List ℕ
header = bytes "row state cmd dpcch dpdch total held by\n"

-- the last line: how many rows, and what is withheld
-- DECISIONS: listing-plain-lines
unfoldable pub ending : (rows : ℕ) (held : ℤ) → List ℕ
ending rows held = bytes "rows " ++ decimal rows ++ bytes " held " ++ signed_text held ++ 10 ∷ []

-- "A refusal prints `refused NUMBER at PLACE`"
unfoldable pub refusal_line : Refusal → List ℕ
refusal_line r = bytes "refused " ++ decimal r.number ++ bytes " at " ++ decimal r.place ++ 10 ∷ []

-- ---- a text in a lent buffer

-- a text was stored from a place on and nothing else changed; and the place after it
pub record Wrote (next : ℕ) (exit entry : List ℕ) (at : ℕ) (text : List ℕ) : Type 0 where
  pub place : next ≡ at + length text
  pub bytes : exit ≡ sets entry at text

-- no line is longer than its room. Where a buffer has not that room for each line, from a place on, nothing is stored
unfoldable pub placed : (lines size at : ℕ) → List ℕ → List ℕ
placed lines size at text = when leb (at + line_room * lines) size then text else []

abbrev pub WroteLines : (next : ℕ) (exit entry : List ℕ) (at lines : ℕ) → List ℕ → Type 0
WroteLines next exit entry at lines text = Wrote next exit entry at (placed lines (length entry) at text)

-- What the code of a text does on its way: a search for a byte, the bytes of a line, the digits of a word, a word of a
-- line as a number.
-- Definitions beside the rules, which need not be believed.
use Rattle.std.specs.Prelude.{ℕ, suc, ◌+◌, ◌≤◌, ◌<◌, ◌≡◌, Bool, ◌&&◌, List, [], ◌∷◌, eqb, ℤ, length, drop, Some, None, Option}
use Rattle.ground.specs.Choice.{when◌then◌else◌}
use Rattle.words.specs.declared.Turn.{Turn}
use Rattle.words.specs.Text.{goes_on, before, words_of, all_digits, value_after, digits_good, number_of}

-- ---- a search

abbrev pub is : (byte : ℕ) → ℕ → Bool
is byte b = eqb b byte

-- the first byte of a text, from a byte on, that passes a test, or the end of the text
pub record Found (test : ℕ → Bool) (s : List ℕ) (at answer : ℕ) : Type 0 where
  pub here : answer ≡ at + before test (drop at s)
  pub from : at ≤ answer
  pub inside : at ≤ length s → answer ≤ length s

-- ---- a line

-- how many bytes the first line has
unfoldable pub line_bytes : List ℕ → ℕ
line_bytes [] = 0
line_bytes (b ∷ rest) =
    when eqb b 10 then 0 else
    when eqb b 13 && goes_on 10 rest then 0 else
    suc (line_bytes rest)

-- ---- a number

-- the number that digits are, if there are one to nine of them
unfoldable pub digits_of : List ℕ → Option ℕ
digits_of digits = when digits_good digits then Some (value_after 0 digits) else None

-- and what they are after those that have made n
unfoldable pub digits_after : (n : ℕ) → List ℕ → Option ℕ
digits_after n digits = when all_digits digits then Some (value_after n digits) else None

abbrev pub value_is : Option ℕ → ℕ
value_is (Some n) = n
value_is (None) = 0

-- what is promised of it: it is below 10 to the power of 9
pub record DigitsTold (word : List ℕ) (answer : Option ℕ) : Type 0 where
  pub is : answer ≡ digits_of word
  pub most : value_is answer < 1000000000

-- ---- the numbers of a line

abbrev pub other_words : List (List ℕ) → List (List ℕ)
other_words [] = []
other_words (word ∷ rest) = rest

-- the first of some words as a number: none where there is no word, and in it none where it is no number
abbrev pub first_number : List (List ℕ) → Option (Option ℤ)
first_number [] = None
first_number (word ∷ rest) = Some (number_of word)

-- the first word from a byte of a line on, as a number, and where the others start
pub record TurnTold (line : List ℕ) (at : ℕ) (answer : Turn) : Type 0 where
  pub number : answer.number ≡ first_number (words_of (drop at line))
  pub others : words_of (drop answer.next line) ≡ other_words (words_of (drop at line))
  pub inside : answer.next ≤ length line

-- Texts that programs read: lines, words and numbers. A byte is its number in ASCII.
-- RULES: text
-- Definitions, to be believed.
pub mod Parts
use Rattle.std.specs.Prelude.{ℕ, zero, suc, ◌+◌, ◌-◌, ◌*◌, ◌≤◌, ◌<◌, ◌≡◌, Bool, true, false, not, ◌&&◌, ◌||◌, List, [], ◌∷◌, ltb, leb, eqb, ℤ, pos, negsuc, length, take, drop, Some, None, Option}
use Rattle.ground.specs.Choice.{when◌then◌else◌}
use Rattle.words.specs.declared.Line.{Line}
use Rattle.words.specs.declared.Word.{Word}
use Rattle.words.specs.declared.Numbers.{Numbers}

-- ---- lines

-- whether a text goes on with a byte
abbrev pub goes_on : (with : ℕ) → List ℕ → Bool
goes_on with [] = false
goes_on with (b ∷ rest) = eqb b with

-- a byte before the first of some lines, or of some words
abbrev pub pushed : ℕ → List (List ℕ) → List (List ℕ)
pushed b [] = (b ∷ []) ∷ []
pushed b (first ∷ rest) = (b ∷ first) ∷ rest

-- the first of some lines or words, and nothing where there is none
abbrev pub first_of : List (List ℕ) → List ℕ
first_of [] = []
first_of (first ∷ rest) = first

-- a line feed, 10, ends a line; what follows the last of them is a line too, unless it is nothing. A carriage return,
-- 13, that stands before a line feed is left out
-- DECISIONS: text-lines
unfoldable pub lines_of : List ℕ → List (List ℕ)
lines_of [] = []
lines_of (b ∷ rest) =
    when eqb b 10 then [] ∷ lines_of rest else
    when eqb b 13 && goes_on 10 rest then lines_of rest else
    pushed b (lines_of rest)

-- how many elements of a list come before the first that passes a test: all of them where none does
unfoldable pub before : (ℕ → Bool) → List ℕ → ℕ
before test [] = 0
before test (b ∷ rest) = when test b then 0 else suc (before test rest)

-- "what follows a `#`" is a comment: what stands before it, or the whole line
-- DECISIONS: text-comments
abbrev pub uncommented : List ℕ → List ℕ
uncommented line = take (before (λ (b : ℕ). eqb b 35) line) line

-- the first line of a text; of no text, one without a byte
unfoldable pub first_line : List ℕ → List ℕ
first_line text = first_of (lines_of text)

-- a carriage return anywhere else, in a comment too, makes its line unreadable
-- DECISIONS: text-returns
abbrev pub clear : List ℕ → Bool
clear line = eqb (before (λ (b : ℕ). eqb b 13) line) (length line)

-- the line that starts at a byte of a text: where its words end, where the next line starts, and whether it is clear
unfoldable pub line_at : List ℕ → (at : ℕ) → Line
line_at text at =
    let line = first_line (drop at text) in
    let stop = at + before (λ (b : ℕ). eqb b 10) (drop at text) in
    record {
      end = at + length (uncommented line);
      next = when ltb stop (length text) then suc stop else stop;
      clear = clear line;
    }

-- what is promised of it: the place where its words end lies in the text, and so does the next line
pub record LineTold (text : List ℕ) (at : ℕ) (answer : Line) : Type 0 where
  pub is : answer ≡ line_at text at
  pub begins : at ≤ answer.end
  pub ends : at ≤ length text → answer.end ≤ length text
  pub goes_on : at < length text → at < answer.next
  pub inside : at ≤ length text → answer.next ≤ length text

-- ---- words

-- a space or a tab
abbrev pub blank : ℕ → Bool
blank b = eqb b 32 || eqb b 9

-- whether a word ends before what is left of its line
abbrev pub word_ends : List ℕ → Bool
word_ends [] = true
word_ends (b ∷ rest) = blank b

-- the words of a line, which spaces and tabs separate
-- DECISIONS: text-words
unfoldable pub words_of : List ℕ → List (List ℕ)
words_of [] = []
words_of (b ∷ rest) =
    when blank b then words_of rest else
    when word_ends rest then (b ∷ []) ∷ words_of rest else
    pushed b (words_of rest)

-- the first word from a byte of a line on: where it begins and ends; both at the end of the line where there is none
unfoldable pub word_at : List ℕ → (at : ℕ) → Word
word_at line at =
    let begin = at + before (λ (b : ℕ). not (blank b)) (drop at line) in
    record { begin = begin; end = begin + before blank (drop begin line) }

-- what is promised of it: it lies in the line
pub record WordTold (line : List ℕ) (at : ℕ) (answer : Word) : Type 0 where
  pub is : answer ≡ word_at line at
  pub from : at ≤ answer.begin
  pub forward : answer.begin ≤ answer.end
  pub inside : at ≤ length line → answer.end ≤ length line

-- two words that are one
unfoldable pub same : List ℕ → List ℕ → Bool
same [] [] = true
same [] (b ∷ others) = false
same (a ∷ rest) [] = false
same (a ∷ rest) (b ∷ others) = eqb a b && same rest others

-- ---- numbers

abbrev pub is_digit : ℕ → Bool
is_digit b = leb 48 b && leb b 57

unfoldable pub all_digits : List ℕ → Bool
all_digits [] = true
all_digits (b ∷ rest) = is_digit b && all_digits rest

-- the number that digits make after those that have made n
unfoldable pub value_after : (n : ℕ) → List ℕ → ℕ
value_after n [] = n
value_after n (b ∷ rest) = value_after (10 * n + (b - 48)) rest

-- one to nine digits
abbrev pub digits_good : List ℕ → Bool
digits_good digits = ltb 0 (length digits) && leb (length digits) 9 && all_digits digits

-- a number with a minus before it
abbrev pub minus : ℕ → ℤ
minus zero = pos 0
minus (suc n) = negsuc n

-- "A number is an optional `-` and 1 to 9 digits."
-- DECISIONS: text-numbers
unfoldable pub number_of : List ℕ → Option ℤ
number_of [] = None
number_of (b ∷ rest) =
    when eqb b 45 then (when digits_good rest then Some (minus (value_after 0 rest)) else None) else
    when digits_good (b ∷ rest) then Some (pos (value_after 0 (b ∷ rest))) else
    None

-- the number that a word is, and 0 where it is none
abbrev pub value_in : Option ℤ → ℤ
value_in (Some z) = z
value_in (None) = pos 0

abbrev pub is_number : Option ℤ → Bool
is_number (Some z) = true
is_number (None) = false

-- ---- the numbers of a line

-- the most numbers that a line has
abbrev pub numbers_most : ℕ
numbers_most = 9

-- the first so many words as numbers, with 0 for each that is missing or is none
unfoldable pub values_of : (most : ℕ) → List (List ℕ) → List ℤ
values_of zero words = []
values_of (suc most) [] = pos 0 ∷ values_of most []
values_of (suc most) (word ∷ rest) = value_in (number_of word) ∷ values_of most rest

-- whether each of the first so many words is a number
unfoldable pub numeric : (most : ℕ) → List (List ℕ) → Bool
numeric zero words = true
numeric (suc most) [] = true
numeric (suc most) (word ∷ rest) = is_number (number_of word) && numeric most rest

-- how many words there are, counted up to ten; whether each of the first nine is a number, and these numbers
unfoldable pub numbers_of : List (List ℕ) → Numbers
numbers_of words = record {
  count = when ltb numbers_most (length words) then suc numbers_most else length words;
  all = numeric numbers_most words;
  values = values_of numbers_most words;
}

-- Lines, words and numbers of some texts, computed from the rules.
-- Assumes nothing.
use Rattle.std.specs.Prelude.{ℕ, ◌≡◌, refl, [], ◌∷◌, ◌++◌, map, true, false, pos, negsuc, Some, None}
use Rattle.ground.specs.Texts.{bytes}
use Rattle.words.specs.declared.Line.{Line}
use Rattle.words.specs.Text.{lines_of, before, first_line, line_at, words_of, word_at, same, all_digits, value_after, number_of, values_of, numeric, numbers_of}

-- "a" and a line feed and "b"; two line feeds, each after a carriage return; a carriage return alone, in a line, twice before a line feed; a line feed
-- alone; nothing
lines :
    map lines_of (
    (97 ∷ 10 ∷ 98 ∷ [])
    ∷ (97 ∷ 13 ∷ 10 ∷ 13 ∷ 10 ∷ [])
    ∷ (13 ∷ [])
    ∷ (97 ∷ 13 ∷ 98 ∷ 10 ∷ [])
    ∷ (97 ∷ 13 ∷ 13 ∷ 10 ∷ [])
    ∷ (10 ∷ [])
    ∷ []
    ∷ [])
    ≡ (bytes "a" ∷ bytes "b" ∷ [])
    ∷ (bytes "a" ∷ [] ∷ [])
    ∷ ((13 ∷ []) ∷ [])
    ∷ ((97 ∷ 13 ∷ 98 ∷ []) ∷ [])
    ∷ ((97 ∷ 13 ∷ []) ∷ [])
    ∷ ([] ∷ [])
    ∷ []
    ∷ []
unfolding lines_of
lines = refl

-- where the words of a line end, where the next line starts, and whether the line is clear: a line with a comment, the last line, one with a carriage
-- return in its comment, the end of a text and past it
line_of : (end next : ℕ) → Line
line_of end next = record { end = end; next = next; clear = true }

places :
    line_at (bytes "ab #c" ++ 10 ∷ bytes "d") 0 ∷ line_at (bytes "ab #c" ++ 10 ∷ bytes "d") 6 ∷ line_at (bytes "a#" ++ 13 ∷ 13 ∷ 10 ∷ []) 0
    ∷ line_at (bytes "ab") 2 ∷ line_at (bytes "ab") 7 ∷ []
    ≡ line_of 3 6 ∷ line_of 7 7 ∷ record { end = 1; next = 5; clear = false } ∷ line_of 2 2 ∷ line_of 7 7 ∷ []
unfolding lines_of before first_line line_at line_of
places = refl

-- spaces and tabs, before and after too; a `#` in a word, which is left out with what follows where a line is read; none
words :
    map words_of (bytes "  gap 12 " ∷ (9 ∷ 97 ∷ 9 ∷ 32 ∷ 98 ∷ 99 ∷ []) ∷ bytes "a#b" ∷ bytes "  " ∷ [] ∷ [])
    ≡ (bytes "gap" ∷ bytes "12" ∷ []) ∷ (bytes "a" ∷ bytes "bc" ∷ []) ∷ (bytes "a#b" ∷ []) ∷ [] ∷ [] ∷ []
unfolding words_of
words = refl

word_places :
    word_at (bytes " ab  c") 0 ∷ word_at (bytes " ab  c") 2 ∷ word_at (bytes " ab  c") 3 ∷ word_at (bytes " ab  c") 6 ∷ word_at (bytes " ab  c") 9 ∷ []
    ≡ record { begin = 1; end = 3 } ∷ record { begin = 2; end = 3 } ∷ record { begin = 5; end = 6 } ∷ record { begin = 6; end = 6 }
    ∷ record { begin = 9; end = 9 } ∷ []
unfolding before word_at
word_places = refl

alike :
    same (bytes "row") (bytes "row") ∷ same (bytes "row") (bytes "rows") ∷ same (bytes "rows") (bytes "row") ∷ same (bytes "row") (bytes "Row")
    ∷ same [] [] ∷ []
    ≡ true ∷ false ∷ false ∷ false ∷ true ∷ []
unfolding same
alike = refl

-- zeros before a number are taken, and so is a minus before 0; a minus alone, ten digits, a plus, a letter and nothing are none
numbers :
    map number_of (
    bytes "007"
    ∷ bytes "-0"
    ∷ bytes "-128"
    ∷ bytes "999999999"
    ∷ bytes "-999999999"
    ∷ bytes "-"
    ∷ bytes "0000000001"
    ∷ bytes "-0000000001"
    ∷ bytes "+5"
    ∷ bytes "--5"
    ∷ bytes "1a"
    ∷ []
    ∷ [])
    ≡ Some (pos 7) ∷ Some (pos 0) ∷ Some (negsuc 127) ∷ Some (pos 999999999) ∷ Some (negsuc 999999998) ∷ None ∷ None ∷ None ∷ None ∷ None ∷ None ∷ None ∷ []
unfolding all_digits value_after number_of
numbers = refl

-- the words of a line as numbers: three of them; one that is none; ten and eleven, of which the tenth is none
several :
    map numbers_of (map words_of (bytes "1 -2 3" ∷ bytes "1 x 3" ∷ bytes "1 2 3 4 5 6 7 8 9 x" ∷ bytes "1 2 3 4 5 6 7 8 9 x 11" ∷ [] ∷ []))
    ≡ record { count = 3; all = true; values = pos 1 ∷ negsuc 1 ∷ pos 3 ∷ pos 0 ∷ pos 0 ∷ pos 0 ∷ pos 0 ∷ pos 0 ∷ pos 0 ∷ [] }
    ∷ record { count = 3; all = false; values = pos 1 ∷ pos 0 ∷ pos 3 ∷ pos 0 ∷ pos 0 ∷ pos 0 ∷ pos 0 ∷ pos 0 ∷ pos 0 ∷ [] }
    ∷ record { count = 10; all = true; values = pos 1 ∷ pos 2 ∷ pos 3 ∷ pos 4 ∷ pos 5 ∷ pos 6 ∷ pos 7 ∷ pos 8 ∷ pos 9 ∷ [] }
    ∷ record { count = 10; all = true; values = pos 1 ∷ pos 2 ∷ pos 3 ∷ pos 4 ∷ pos 5 ∷ pos 6 ∷ pos 7 ∷ pos 8 ∷ pos 9 ∷ [] }
    ∷ record { count = 0; all = true; values = pos 0 ∷ pos 0 ∷ pos 0 ∷ pos 0 ∷ pos 0 ∷ pos 0 ∷ pos 0 ∷ pos 0 ∷ pos 0 ∷ [] }
    ∷ []
unfolding words_of all_digits value_after number_of values_of numeric numbers_of
several = refl

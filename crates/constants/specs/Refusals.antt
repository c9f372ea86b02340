-- "Refusal numbers": the page's table, once. Each number has its name here and nowhere else; a refusal is a number and
-- its place.
-- RULES: refusals
-- Definitions, to be believed.
use Rattle.std.specs.Prelude.{ℕ}
use Rattle.ground.specs.declared.Refusal.{Refusal}

abbrev pub refusal : (number place : ℕ) → Refusal
refusal number place = record { number = number; place = place }

-- what is not refused has number 0 at place 0, which no refusal has
-- DECISIONS: refusals-none
abbrev pub no_refusal : Refusal
no_refusal = refusal 0 0

-- "1 | file over 65,536 bytes | 0"
abbrev pub file_too_long : ℕ
file_too_long = 1

-- "2 | file under 29 bytes, byte 0 or 1 wrong (place 0); an entry's kind or offset wrong, body 1 not 12 bytes, body 2
-- no multiple of 12, body 3 odd, a body past the end, body 3 not ending the file | entry 1 to 3"
abbrev pub wrong_contents : ℕ
wrong_contents = 2

-- "3 | a settings byte breaks its rule; step against PCA at 1, no β of 15 at 6, start power at 10 | its offset"
abbrev pub wrong_settings : ℕ
wrong_settings = 3

-- "4 | more than 6 gap records | their count"
abbrev pub too_many_records : ℕ
too_many_records = 4

-- "5 | a record's number breaks its rule, in byte order; a gap that does not fit, last, at its byte 5 | offset in body
-- 2"
abbrev pub wrong_record : ℕ
wrong_record = 5

-- "6 | an id that an earlier record has; each record is tested for 5, then 6 | record, from 0"
abbrev pub repeated_id : ℕ
repeated_id = 6

-- "7 | more than 30,000 rows, or a row after the 30,000th | 30,000"
abbrev pub too_many_rows : ℕ
too_many_rows = 7

-- "10 | lent answers shorter than … numbers a row | numbers needed"; "10 asks for 8 numbers a row"
abbrev pub short_answers : ℕ
short_answers = 10

-- "11 | a state handed in has a field outside its range | 0"
abbrev pub wrong_state : ℕ
wrong_state = 11

-- "8 | a row byte breaks its rule | row"
abbrev pub wrong_row : ℕ
wrong_row = 8

-- "9 | control power before limiting would be below -9,600 | row"
abbrev pub power_too_low : ℕ
power_too_low = 9

-- W-202: "12 if the lent bytes are too few, at the size needed"
abbrev pub short_bytes : ℕ
short_bytes = 12

-- W-203: "13 for an unknown label, length or width, at the start, and for a bit mark other than 0, 1 and lost"
abbrev pub wrong_cell : ℕ
wrong_cell = 13

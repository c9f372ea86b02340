-- The numbers that the page fixes, or our own rules of texts, and that more than one crate asks for, each once, under
-- its sentence.
-- RULES: units, file, settings, records, rows, listing, text
-- Definitions, to be believed.
use Rattle.std.specs.Prelude.{ℕ, ◌+◌, ℤ, pos, negsuc}

-- ---- "The job file"

-- "1 | file over 65,536 bytes"
abbrev pub file_most : ℕ
file_most = 65536

-- "Body 1 starts at byte 29"
abbrev pub contents_bytes : ℕ
contents_bytes = 29

-- "Settings (12 bytes)"
abbrev pub settings_bytes : ℕ
settings_bytes = 12

-- "5 βc …; 6 βd …; 7 DPDCH count n": where the triple stands in the settings, and its bytes
abbrev pub gains_place : ℕ
gains_place = 5

abbrev pub triple_bytes : ℕ
triple_bytes = 3

-- "8 allowed maximum in dBm …; 9 zero; 10-11 start DPCCH power": where the powers stand in the settings
abbrev pub powers_place : ℕ
powers_place = 8

-- "Gap records (12 bytes, 0 to 6 of them)"
abbrev pub record_bytes : ℕ
record_bytes = 12

abbrev pub records_most : ℕ
records_most = 6

-- "0 id 1 to 6"; "as a set over 1 to 6"
abbrev pub id_most : ℕ
id_most = 6

-- "Rows (2 bytes, 0 to 30,000 of them)"
abbrev pub row_bytes : ℕ
row_bytes = 2

abbrev pub rows_most : ℕ
rows_most = 30000

-- "3 to 8" pilot bits
abbrev pub pilots_least : ℕ
pilots_least = 3

abbrev pub pilots_most : ℕ
pilots_most = 8

-- ---- powers, in units of 1/64 dB

-- "9 | control power before limiting would be below -9,600", "-9,600 to 2,112 units"
abbrev pub power_least : ℤ
power_least = negsuc 9599

abbrev pub start_most : ℤ
start_most = pos 2112

-- ---- "The listing"

-- "A row's answer becomes eight numbers"
abbrev pub answer_numbers : ℕ
answer_numbers = 8

-- the bytes that a line may have; the longest, of numbers of any size and with all six ids, has 165
-- DECISIONS: listing-room
abbrev pub line_room : ℕ
line_room = 176

-- the least bytes that a buffer for a piece of the listing has to have, those of a row's line and of a last one; the
-- most rows of a piece
abbrev pub piece_least : ℕ
piece_least = line_room + line_room

abbrev pub piece_rows : ℕ
piece_rows = 512

-- the pieces that are always enough for a listing: one with the header, one for each row, one with the last line
abbrev pub pieces_most : ℕ
pieces_most = rows_most + 2

-- ---- texts that programs read

-- "At most 1,048,576 bytes are read"
-- DECISIONS: text-most
abbrev pub text_most : ℕ
text_most = 1048576

-- "Rows (2 bytes, 0 to 30,000 of them): byte 0 has one bit per link set, … Byte 1 is the pilot bits of the slot": a
-- part of rows as a list of values. All that is said of rows elsewhere is said of these.
-- RULES: rows
-- Definitions, to be believed.
use Rattle.std.specs.Prelude.{ℕ, zero, suc, ◌+◌, ◌*◌, ◌/◌, ◌%◌, Bool, List, [], ◌∷◌, ltb, length, get_or}
use Rattle.ground.specs.Choice.{when◌then◌else◌}
use Rattle.constants.specs.Sizes.{row_bytes}
use Rattle.row_values.specs.declared.Row.{Row}

-- row k of a part, from 0
abbrev pub row_at : List ℕ → ℕ → Row
row_at bytes k = record { commands = get_or bytes (row_bytes * k) 0; pilots = get_or bytes (row_bytes * k + 1) 0 }

-- how many whole rows a part has
abbrev pub whole_rows : List ℕ → ℕ
whole_rows bytes = length bytes / row_bytes

-- bytes left over at the end are a row that lacks some of its own
-- DECISIONS: rows-cut-short
abbrev pub is_cut : List ℕ → Bool
is_cut bytes = ltb 0 (length bytes % row_bytes)

-- how many rows are offered, a last one that is cut short among them
-- DECISIONS: rows-cut-short
unfoldable pub with_cut : (whole : ℕ) (cut : Bool) → ℕ
with_cut whole cut = when cut then whole + 1 else whole

unfoldable pub rows_offered : List ℕ → ℕ
rows_offered bytes = with_cut (whole_rows bytes) (is_cut bytes)

-- the `left` rows from row k on, and all whole rows
unfoldable pub rows_from : List ℕ → (left k : ℕ) → List Row
rows_from bytes zero k = []
rows_from bytes (suc left) k = row_at bytes k ∷ rows_from bytes left (k + 1)

abbrev pub rows_in : List ℕ → List Row
rows_in bytes = rows_from bytes (whole_rows bytes) 0

-- a row of zeros, for a part that has no whole row k
abbrev pub no_row : Row
no_row = record { commands = 0; pilots = 0 }

unfoldable pub row_read : List ℕ → ℕ → Row
row_read bytes k = when ltb k (whole_rows bytes) then row_at bytes k else no_row

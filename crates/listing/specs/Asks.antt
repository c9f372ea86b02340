-- What the private functions ask and promise beside the definitions of a piece.
-- Definitions beside the rules, which need not be believed.
use Rattle.std.specs.Prelude.{ℕ, ◌+◌, ◌-◌, ◌*◌, ◌≤◌, List, [], ℤ, length, take, Ok}
use Rattle.std.proofs.lemmas.List.Edits.{sets}
use Rattle.constants.specs.Sizes.{row_bytes, answer_numbers, line_room, piece_least, piece_rows}
use Rattle.job_settings.specs.declared.Settings.{Settings}
use Rattle.row_state.specs.States.{state_start}
use Rattle.row_values.specs.Answers.{answers_in}
use Rattle.row_rules.specs.declared.Ran.{Ran}
use Rattle.row_rules.specs.Runs.{Rows}
use Rattle.job_contents.specs.declared.Bodies.{Bodies}
use Rattle.listing_rules.specs.Text.{header}
use Rattle.job.specs.Load.{part}
use Rattle.listing.specs.declared.Stand.{Stand}
use Rattle.listing.specs.Pieces.{Part, part_with, some_rows, Made, made, closes, stands_at}

-- ---- the rows that a run took

-- a run goes on from a row
unfoldable pub Onward : ℕ → Ran → Type 0
Onward row (Ran.Done st) = row ≤ st.row
Onward row (Ran.Stopped st r) = row ≤ st.row
Onward row (Ran.Refused r) = Unit {0}

-- how many rows it took
unfoldable pub taken_by : ℕ → Ran → ℕ
taken_by row (Ran.Done st) = st.row - row
taken_by row (Ran.Stopped st r) = st.row - row
taken_by row (Ran.Refused r) = 0

-- and what it came to, with the answers of those rows from a buffer
abbrev pub rows_taken : ℕ → Ran → List ℤ → Rows
rows_taken row ran numbers =
    record { result = ran; answers = answers_in (take (answer_numbers * taken_by row ran) numbers) }

-- what follows the lines, stored from a place on
unfoldable pub closed_at : List ℕ → (at count : ℕ) → Ran → Made
closed_at out at count ran =
    made (Ok ((at + length (closes count ran)), (stands_at count ran))) (sets out at (closes count ran))

-- the buffers have room for the rows that a run took, and for a line more
pub record Showing (row : ℕ) (ran : Ran) (numbers : List ℤ) (out : List ℕ) : Type 0 where
  pub onward : Onward row ran
  pub has_numbers : answer_numbers * taken_by row ran ≤ length numbers
  pub room : line_room * taken_by row ran + line_room ≤ length out

-- ---- the rows of a piece

-- the bytes of so many rows of a job, from a row on
abbrev pub rows_bytes : List ℕ → Bodies → (row count : ℕ) → List ℕ
rows_bytes job b row count = part job (b.rows + row_bytes * row) (b.rows + row_bytes * row + row_bytes * count)

-- they are rows of the job
abbrev pub HasRows : List ℕ → Bodies → (row count : ℕ) → Type 0
HasRows job b row count = b.rows + row_bytes * row + row_bytes * count ≤ length job

-- there is room for two lines, and for the numbers of the most rows
pub record Listable (numbers : List ℤ) (out : List ℕ) : Type 0 where
  pub room : piece_least ≤ length out
  pub has_numbers : answer_numbers * piece_rows ≤ length numbers

-- ---- a piece of a job that is taken

-- the header, some rows, or nothing, by where the listing stands
unfoldable pub part_at : Settings → Bodies → List ℕ → Stand → (size : ℕ) → Part
part_at s b job Stand.Before size = part_with header (Stand.After (state_start s))
part_at s b job (Stand.After st) size = some_rows s b job st size
part_at s b job Stand.Over size = part_with [] Stand.Over

-- The listing in pieces: the header, some rows at a time, the last line. Each piece is made of the whole job and of
-- where the listing stands, so that no buffer of the size of a listing is needed.
-- RULES: listing
-- Definitions, to be believed.
use Rattle.std.specs.Prelude.{ℕ, ◌-◌, ◌/◌, min, ◌≤◌, ◌<◌, ◌≡◌, Bool, false, List, [], ◌++◌, ltb, length, Ok, Err, Result}
use Rattle.std.proofs.lemmas.List.Edits.{sets}
use Rattle.ground.specs.Choice.{when◌then◌else◌}
use Rattle.constants.specs.Sizes.{line_room, piece_least, piece_rows}
use Rattle.constants.specs.Refusals.{refusal, wrong_state}
use Rattle.gap_slots.specs.Slots.{slot_at}
use Rattle.job_settings.specs.declared.Settings.{Settings}
use Rattle.row_state.specs.declared.State.{State}
use Rattle.row_state.specs.States.{state_start}
use Rattle.row_values.specs.Rows.{rows_from}
use Rattle.row_rules.specs.declared.Ran.{Ran}
use Rattle.row_rules.specs.Rules.{admits}
use Rattle.row_rules.specs.Runs.{Rows, over, go}
use Rattle.job_contents.specs.declared.Bodies.{Bodies}
use Rattle.listing_rules.specs.Text.{header, lines, ending, refusal_line}
use Rattle.job.specs.Load.{Loaded}
use Rattle.job.specs.Load.{gains_body, records_body, rows_body, row_count, loaded_of}
use Rattle.listing.specs.declared.Stand.{Stand}
use Rattle.listing.specs.Listing.{job_gain}

-- what a piece answers: how many bytes it has and where the listing stands after it, or how many a buffer has to have
abbrev pub Written : Type 0
Written = Result (ℕ × Stand) ℕ

-- a piece: its text, and where the listing stands after it
pub record Part : Type 0 where
  pub text : List ℕ
  pub next : Stand

abbrev pub part_with : List ℕ → Stand → Part
part_with text next = record { text = text; next = next }

-- ---- some rows

-- how many of a job's rows are listed in a state: those that it has accepted, all of them if it has accepted more
-- DECISIONS: listing-state-handed
abbrev pub listed_rows : (rows row : ℕ) → ℕ
listed_rows rows row = min row rows

-- how many rows a piece has: as many as are left, as many as have their room and leave that of a last line, and no more
-- than the most
unfoldable pub rows_at_once : (left size : ℕ) → ℕ
rows_at_once left size = min left (min (size / line_room - 1) piece_rows)

-- so many rows of a job after a state, from a row on; "11 a state handed in has a field outside its range"
-- DECISIONS: listing-state-handed
unfoldable pub rows_after : Settings → Bodies → List ℕ → State → (row count : ℕ) → Rows
rows_after s b job st row count =
    when admits s (gains_body job b) st then
    go s (job_gain job s b) (slot_at (records_body job b)) st (rows_from (rows_body job b) count row) false else
    over (Ran.Refused (refusal wrong_state 0))

-- what follows the lines of so many rows: nothing where there may be more, the last line where none was left, and a
-- refusal in its place
unfoldable pub closes : (count : ℕ) → Ran → List ℕ
closes count (Ran.Done st) = when ltb count 1 then ending st.row st.held else []
closes count (Ran.Stopped st r) = refusal_line r
closes count (Ran.Refused r) = refusal_line r

unfoldable pub stands_at : (count : ℕ) → Ran → Stand
stands_at count (Ran.Done st) = when ltb count 1 then Stand.Over else Stand.After st
stands_at count (Ran.Stopped st r) = Stand.Over
stands_at count (Ran.Refused r) = Stand.Over

unfoldable pub rows_part : (sends : Bool) (row count : ℕ) → Rows → Part
rows_part sends row count r =
    part_with (lines sends row r.answers ++ closes count r.result) (stands_at count r.result)

-- the next rows of a job after a state, as many as a buffer of some size has room for, with every record of the file
unfoldable pub some_rows : Settings → Bodies → List ℕ → State → (size : ℕ) → Part
some_rows s b job st size =
    (let done = listed_rows (row_count job b) st.row in
    let count = rows_at_once (row_count job b - done) size in
    rows_part (job_gain job s b).carries_data st.row count (rows_after s b job st done count))

-- ---- a piece

-- of a job that is taken, or the refusal of the file alone
abbrev pub if_taken : Loaded → (Settings → Bodies → Part) → Part
if_taken (Ok (s, b)) piece = piece s b
if_taken (Err r) piece = part_with (refusal_line r) Stand.Over

-- the next piece of a job's listing, for a buffer of some size: the header, then some rows after a state; none is left
-- where the listing is over
unfoldable pub part_of : List ℕ → Stand → (size : ℕ) → Part
part_of job Stand.Before size = if_taken (loaded_of job) (λ s b. part_with header (Stand.After (state_start s)))
part_of job (Stand.After st) size = if_taken (loaded_of job) (λ s b. some_rows s b job st size)
part_of job Stand.Over size = part_with [] Stand.Over

-- what is answered for a piece, and the buffer afterwards
pub record Made : Type 0 where
  pub result : Written
  pub out : List ℕ

abbrev pub made : Written → List ℕ → Made
made result out = record { result = result; out = out }

-- its text from the first byte on, then what stood there
abbrev pub placed_in : List ℕ → Part → Made
placed_in out p = made (Ok ((length p.text), p.next)) (sets out 0 p.text)

-- a buffer has to have room for a row's line and a last line; a shorter one is left as it was
-- DECISIONS: listing-room
unfoldable pub piece_of : List ℕ → Stand → List ℕ → Made
piece_of job stand out =
    when ltb (length out) piece_least then made (Err piece_least) out else
    placed_in out (part_of job stand (length out))

-- what each case says, and the buffer afterwards: a buffer that is too short is left as it was, and how many bytes it
-- has to have; or how many bytes the next piece has, and where the listing stands after it
pub data PieceSays (job : List ℕ) (stand : Stand) (out : List ℕ) : Written → List ℕ → Type 0 where
  short : length out < piece_least → PieceSays job stand out (Err piece_least) out
  text : piece_least ≤ length out →
      PieceSays job stand out
      (Ok ((length (part_of job stand (length out)).text), (part_of job stand (length out)).next))
      (sets out 0 (part_of job stand (length out)).text)

-- what is promised of a piece: the answer, the buffer afterwards, and what these say
pub record PieceTold (job : List ℕ) (stand : Stand) (out : List ℕ) (answer : Written) (after : List ℕ) : Type 0 where
  pub is : made answer after ≡ piece_of job stand out
  pub says : PieceSays job stand out answer after

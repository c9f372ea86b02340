-- "Every job file, however damaged, gets its listing or one numbered refusal with its place, and the run ends. The list
-- of gaps is taken whole or refused whole. A refused row changes no state; answers already written stay, the rest of
-- the lent buffer is untouched." Statements alone.
-- Definitions, to be believed.
use Rattle.std.specs.Prelude.{ℕ, ◌-◌, ◌*◌, ◌≤◌, ◌<◌, ◌≡◌, ◌↔◌, true, false, List, [], ◌++◌, ltb, ℤ, length, drop, Ok, Err}
use Rattle.ground.specs.declared.Refusal.{Refusal}
use Rattle.ground.specs.Choice.{when◌then◌else◌}
use Rattle.constants.specs.Sizes.{row_bytes, rows_most, record_bytes, records_most, answer_numbers, piece_least, pieces_most}
use Rattle.constants.specs.Refusals.{refusal, no_refusal, wrong_contents, too_many_rows, wrong_row, power_too_low}
use Rattle.constants.specs.Refusals.{short_answers, wrong_state}
use Rattle.gap_slots.specs.Slots.{opens_uplink, opens_downlink, uplink, downlink}
use Rattle.row_state.specs.declared.State.{State}
use Rattle.row_values.specs.declared.Row.{Row}
use Rattle.row_values.specs.declared.Answer.{Answer}
use Rattle.row_values.specs.Rows.{whole_rows, rows_offered, rows_from}
use Rattle.row_values.specs.Answers.{all_numbers, answer_from}
use Rattle.row_rules.specs.Stepping.{Stepped}
use Rattle.row_rules.specs.declared.Ran.{Ran}
use Rattle.row_rules.specs.Runs.{End, ended}
use Rattle.row_rules.specs.History.{Accepted, state_at, stepped_at, answer_at}
use Rattle.row_rules.specs.Refusing.{IsF64, StateRanged, HandedOut}
use Rattle.row_rules.specs.Says.{RowsSay}
use Rattle.row_rules.specs.Theorems.{answers_of}
use Rattle.job_contents.specs.Contents.{second, third}
use Rattle.listing_rules.specs.Text.{header, lines, refusal_line}
use Rattle.job.specs.Load.{Loaded}
use Rattle.job.specs.Load.{refusal_of, loaded_of}
use Rattle.job.specs.Jobs.{started_of, stepped_of, ran_of}
use Rattle.job.specs.Theorems.{MakesIn, IdsIn, without}
use Rattle.exports.specs.Calls.{callers_rows, slot_told, slot_answered}
use Rattle.exports.specs.Steps.{Lent, handed, started_lent, untouched, next_of}
use Rattle.listing.specs.declared.Stand.{Stand}
use Rattle.listing.specs.Pieces.{Written}
use Rattle.listing.specs.Listing.{job_gain, closing_line, listing_of}
use Rattle.listing.specs.Pieces.{Part, part_with, listed_rows, rows_at_once, rows_part, part_of, made, piece_of}
use Rattle.listing_theorems.specs.Theorems.{Finishes}
use Rattle.demands.specs.Rows.{TakenJob, job_gains, file_bytes, file_count, job_slot, part_rows, file_rows}
use Rattle.demands.specs.Rows.{Test, history, RoomAfter, CameTo}
use Rattle.demands.specs.Live.{Live, LiveSaid, LeftBy}

-- "its listing or one numbered refusal with its place": what is printed for a job
pub data Prints (job : List ℕ) : List ℕ → Type 0 where
  -- the header, a line for each accepted row, and the last line, or in its place the refusal of the row after them
  listing : (j : TakenJob job) {n : ℕ} {x : Ran} → CameTo (file_rows j) (file_bytes j) n x →
      Prints job
      (header ++ (lines (job_gain job j.settings j.bodies).carries_data 0 (answers_of (file_rows j) 0 n) ++
      closing_line x))
  -- or the refusal of the file, 1 to 7, alone
  alone : {r : Refusal} → loaded_of job ≡ Err r → 1 ≤ r.number → r.number ≤ too_many_rows →
      Prints job (refusal_line r)

-- "The list of gaps is taken whole or refused whole."
pub data GapsOf (job : List ℕ) : Type 0 where
  -- all of its records, as many as the contents state, each read from the file's own bytes: a slot is a gap slot of a
  -- direction exactly where one of them makes it so, and its set for that direction has exactly the ids of those that
  -- do. Nothing is refused, and a caller who asks for a slot is told both sets
  whole : (j : TakenJob job) (count : ℕ) → (second job).length ≡ record_bytes * count → count ≤ records_most →
      refusal_of (loaded_of job) ≡ no_refusal →
      ((k : ℕ) → opens_uplink (job_slot j k) ≡ true ↔ MakesIn job j.bodies count uplink k) →
      ((k : ℕ) → opens_downlink (job_slot j k) ≡ true ↔ MakesIn job j.bodies count downlink k) →
      ((k : ℕ) → IdsIn job j.bodies count uplink k (job_slot j k).up) →
      ((k : ℕ) → IdsIn job j.bodies count downlink k (job_slot j k).down) →
      ((k : ℕ) → slot_answered job k ≡ slot_told 0 0 (job_slot j k).up (job_slot j k).down) → GapsOf job
  -- none of them: the load, a start, a step, a run and the calls of a bench set give the one refusal and leave what was
  -- lent as it was, a slot that is asked for is told with empty sets, and the refusal alone is printed, also where a
  -- state is handed to the listing
  none : (r : Refusal) → loaded_of job ≡ Err r → refusal_of (loaded_of job) ≡ r →
      started_of job ≡ Err r →
      ((st : State) (row : Row) → stepped_of job st row ≡ Err r) →
      ((out : List ℤ) → ran_of job out ≡ ended (Ran.Refused r) out) →
      ((rows : List ℕ) (out : List ℤ) → callers_rows job rows out ≡ ended (Ran.Refused r) out) →
      ((before : Lent) → started_lent job before ≡ handed r before) →
      ((rows : List ℕ) (before : Lent) (out : List ℤ) → next_of job rows before out ≡ untouched r before out) →
      ((k : ℕ) → slot_answered job k ≡ slot_told r.number r.place 0 0) →
      listing_of job ≡ refusal_line r →
      ((size : ℕ) → part_of job Stand.Before size ≡ part_with (refusal_line r) Stand.Over) →
      ((st : State) (size : ℕ) → part_of job (Stand.After st) size ≡ part_with (refusal_line r) Stand.Over) → GapsOf job

module _ {job : List ℕ} (j : TakenJob job) (st : State) (size : ℕ) where
  -- how many of the file's rows are listed in a state, and how many come next: a row for each `line_room` bytes of the
  -- buffer but for those of a last line, 512 at most
  abbrev pub listed_before : ℕ
  listed_before = listed_rows (file_count j) st.row

  abbrev pub listed_now : ℕ
  listed_now = rows_at_once (file_count j - listed_before) size

  -- a piece of the listing that is asked for after any state, whether the listing handed it out or not
  -- DECISIONS: listing-state-handed
  pub data PieceAfter : Part → Type 0 where
    -- "11 | a state handed in has a field outside its range | 0", which is printed, and the listing is over
    eleven : (StateRanged j.settings (job_gains j) st → ⊥) →
        PieceAfter (part_with (refusal_line (refusal wrong_state 0)) Stand.Over)
    -- else the lines of the next rows of the file up to the first that is refused, whose refusal ends the listing;
    -- where no row is left, the last line, with the state's own numbers
    by_rows : StateRanged j.settings (job_gains j) st → {x : Ran} {answers : List Answer} →
        RowsSay j.settings (job_gain job j.settings j.bodies) (job_slot j) false st
        (rows_from (file_bytes j) listed_now listed_before) x answers →
        PieceAfter (rows_part (job_gain job j.settings j.bodies).carries_data st.row listed_now
        (record { result = x; answers = answers }))

-- "answers already written stay, the rest of the lent buffer is untouched": how a run of any rows from the start of a
-- job ends, and the buffer afterwards
pub data Leaves (job rows : List ℕ) (out : List ℤ) : End → Type 0 where
  -- the answers of the accepted rows, then what stood there
  answered : (j : TakenJob job) {n : ℕ} {x : Ran} → RoomAfter 0 rows out → CameTo (part_rows j rows) rows n x →
      Leaves job rows out
      (ended x (all_numbers (answers_of (part_rows j rows) 0 n) ++ drop (answer_numbers * n) out))
  -- all of it as it was, by 7, by 10 and by 1 to 7 of the file
  many : TakenJob job → rows_most < rows_offered rows →
      Leaves job rows out (ended (Ran.Refused (refusal too_many_rows rows_most)) out)
  short : TakenJob job → rows_offered rows ≤ rows_most → length out < answer_numbers * rows_offered rows →
      Leaves job rows out (ended (Ran.Refused (refusal short_answers (answer_numbers * rows_offered rows))) out)
  file : {r : Refusal} → loaded_of job ≡ Err r → Leaves job rows out (ended (Ran.Refused r) out)

pub record Demand1 : Type 0 where
  -- "Every job file, however damaged, gets its listing or one numbered refusal with its place"
  pub prints : (job : List ℕ) → Prints job (listing_of job)
  -- one: nothing else may be printed for it
  pub one_text : (job text : List ℕ) → Prints job text → text ≡ listing_of job
  -- "and the run ends": the pieces joined are the listing, which is over after 30,002 of them at most, whatever sizes
  -- from `piece_least` bytes on the buffers have
  pub ends : (job : List ℕ) (sizes : ℕ → ℕ) → ((k : ℕ) → piece_least ≤ sizes k) →
      Finishes job sizes pieces_most Stand.Before (listing_of job)
  -- piece by piece: first the header, with the state before row 0; after any state what `PieceAfter` says, where
  -- `IsF64` excludes no program, since every f64 is one; and nothing once the listing is over
  pub first_piece : {job : List ℕ} (j : TakenJob job) (size : ℕ) →
      part_of job Stand.Before size ≡ part_with header (Stand.After (state_at (file_rows j) 0))
  pub piece_after : {job : List ℕ} (j : TakenJob job) (st : State) (size : ℕ) → piece_least ≤ size → IsF64 st →
      (p : Part) → part_of job (Stand.After st) size ≡ p ↔ PieceAfter j st size p
  pub no_piece : (job : List ℕ) (size : ℕ) → part_of job Stand.Over size ≡ part_with [] Stand.Over
  -- "The list of gaps is taken whole or refused whole."
  pub gaps : (job : List ℕ) → GapsOf job
  -- a file that is taken is no longer taken without any one of its records: its contents do not fit
  pub none_left_out : (job : List ℕ) (j : TakenJob job) (i : ℕ) → record_bytes * i < (second job).length →
      loaded_of (without job j.bodies i) ≡
      Err (refusal wrong_contents (when ltb (third job).length record_bytes then 2 else 3))
  -- the run of a job is the run of the file's own rows, one case of those that a caller may offer to it
  pub own_rows : (job : List ℕ) (j : TakenJob job) (out : List ℤ) → ran_of job out ≡ callers_rows job (file_bytes j) out
  -- "A refused row changes no state": a run ends in the state before it
  pub refused_row : (job : List ℕ) (j : TakenJob job) (rows : List ℕ) (out : List ℤ) {n : ℕ} {r : Refusal} →
      RoomAfter 0 rows out → n < whole_rows rows → Accepted (part_rows j rows) n →
      stepped_at (part_rows j rows) n ≡ Err r →
      (callers_rows job rows out).result ≡ Ran.Stopped (state_at (part_rows j rows) n) r
  -- a start gives the state before row 0 of every test
  pub started : {job : List ℕ} (t : Test job) → started_of job ≡ Ok (state_at (history t) 0)
  -- the state before a row of a test is in its ranges and is never answered with 11, so that another row may be offered
  -- after a refused one. The same holds of every state that a step hands out
  pub handed_out : {job : List ℕ} (t : Test job) →
      HandedOut t.taken.settings (job_gains t.taken) (state_at (history t) t.n)
  pub step_handed : (job : List ℕ) (j : TakenJob job) (st : State) (row : Row) {next : State} {a : Answer} → IsF64 st →
      stepped_of job st row ≡ Ok (next, a) → HandedOut j.settings (job_gains j) next
  -- rows offered to any lent numbers and level: a refusal other than 8 or 9 leaves state and answers as they were, and
  -- where the rows are one row of two bytes so does any refusal
  pub all_kept : (job rows : List ℕ) (before : Lent) (out : List ℤ) →
      (let told = next_of job rows before out in (told.refusal.number ≡ 0 → ⊥) →
      (told.refusal.number ≡ wrong_row → ⊥) → (told.refusal.number ≡ power_too_low → ⊥) →
      (told.state ≡ before) × (told.out ≡ out))
  pub one_kept : (job row : List ℕ) (before : Lent) (out : List ℤ) → length row ≡ row_bytes →
      (let told = next_of job row before out in
      (told.refusal.number ≡ 0 → ⊥) → (told.state ≡ before) × (told.out ≡ out))
  -- and so does a start that is refused
  pub start_kept : (job : List ℕ) (before : Lent) → ((started_lent job before).refusal.number ≡ 0 → ⊥) →
      (started_lent job before).state ≡ before
  -- offered one by one, whatever rows they are, each is the next row of the one history
  pub offered : {job : List ℕ} (t : Test job) → t.n < rows_most →
      stepped_of job (state_at (history t) t.n) (t.row t.n) ≡ stepped_at (history t) t.n
  -- so are the calls of a live test, and each leaves the answers of the rows that it accepted
  pub live : {job rows : List ℕ} {st : Lent} → Live job rows st → LiveSaid job rows st
  pub live_left : {job rows : List ℕ} {st : Lent} (l : Live job rows st) (more : List ℕ) (out : List ℤ) →
      LeftBy (live l) more out
  -- "answers already written stay, the rest of the lent buffer is untouched"
  pub leaves : (job rows : List ℕ) (out : List ℤ) → Leaves job rows out (callers_rows job rows out)
  pub one_end : (job rows : List ℕ) (out : List ℤ) (e : End) → Leaves job rows out e → e ≡ callers_rows job rows out
  -- so that each accepted row's eight numbers stand at their place
  pub written : (job : List ℕ) (j : TakenJob job) (rows : List ℕ) (out : List ℤ) {n : ℕ} {x : Ran} →
      RoomAfter 0 rows out → CameTo (part_rows j rows) rows n x → (k : ℕ) → k < n →
      answer_from (callers_rows job rows out).out (answer_numbers * k) ≡ answer_at (part_rows j rows) k
  -- and of a buffer that is lent for a piece of the listing the rest is untouched too; one that is too short is left
  -- as it was
  pub stored : (job : List ℕ) (stand : Stand) (out : List ℕ) → piece_least ≤ length out →
      piece_of job stand out ≡
      (let p = part_of job stand (length out) in
      made (Ok ((length p.text), p.next)) (p.text ++ drop (length p.text) out))
  pub too_short : (job : List ℕ) (stand : Stand) (out : List ℕ) → length out < piece_least →
      piece_of job stand out ≡ made (Err piece_least) out

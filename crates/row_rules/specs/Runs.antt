-- A run over a part of rows: what it answers, and every number of the lent buffer afterwards.
-- RULES: refusals
-- Definitions, to be believed.
use Rattle.std.specs.Prelude.{ℕ, ◌+◌, ◌-◌, ◌*◌, ◌<◌, ◌≡◌, ◌⊎◌, Bool, List, [], ◌∷◌, ◌++◌, ltb, ℤ, length, drop, Ok, Err, Option, Some, None}
use Rattle.std.proofs.lemmas.List.Edits.{sets}
use Rattle.ground.specs.declared.Refusal.{Refusal}
use Rattle.ground.specs.Choice.{when◌then◌else◌}
use Rattle.constants.specs.Sizes.{rows_most, answer_numbers}
use Rattle.constants.specs.Refusals.{refusal, no_refusal, too_many_rows, wrong_row, power_too_low, short_answers, wrong_state}
use Rattle.gap_slots.specs.declared.Slot.{Slot}
use Rattle.gap_slots.specs.Slots.{slot_at}
use Rattle.power.specs.declared.Gain.{Gain}
use Rattle.job_settings.specs.declared.Settings.{Settings}
use Rattle.row_state.specs.declared.State.{State}
use Rattle.row_values.specs.declared.Row.{Row}
use Rattle.row_values.specs.declared.Answer.{Answer}
use Rattle.row_values.specs.Rows.{is_cut, rows_offered, rows_in}
use Rattle.row_values.specs.Answers.{all_numbers}
use Rattle.row_rules.specs.Stepping.{Stepped}
use Rattle.row_rules.specs.declared.Ran.{Ran}
use Rattle.row_rules.specs.Rules.{row_of, gain_for, admits}

-- how a run over rows ends, and their answers
pub record Rows : Type 0 where
  pub result : Ran
  pub answers : List Answer

-- no row more
abbrev pub over : Ran → Rows
over result = record { result = result; answers = [] }

-- one row's answer, then those of the rest
abbrev pub answered : Answer → Rows → Rows
answered a r = record { result = r.result; answers = a ∷ r.answers }

-- a row that is taken is followed by the rest; one that is refused ends the run in the state before it
-- DECISIONS: refusals-state-kept
abbrev pub followed : State → Stepped → (State → Rows) → Rows
followed st (Ok (next, a)) rest = answered a (rest next)
followed st (Err r) rest = over (Ran.Stopped st r)

-- where no row is left the run is done, unless a last row was cut short: it lacks a byte, and so breaks its rule
-- DECISIONS: rows-cut-short
unfoldable pub closing : State → (cut : Bool) → Ran
closing st cut = when cut then Ran.Stopped st (refusal wrong_row st.row) else Ran.Done st

-- rows one after the other; row k is slot k
-- DECISIONS: refusals-row-by-row
unfoldable pub go : Settings → Gain → (ℕ → Slot) → State → List Row → (cut : Bool) → Rows
go s g slots st [] cut = over (closing st cut)
go s g slots st (row ∷ rest) cut = followed st (row_of s g (slots st.row) st row) (λ next. go s g slots next rest cut)

-- the number of a refusal of the whole run, 0 where its rows were run
unfoldable pub refused_by : Ran → ℕ
refused_by (Ran.Done st) = 0
refused_by (Ran.Stopped st r) = 0
refused_by (Ran.Refused r) = r.number

-- the page's number and place for each case: those of the whole run's refusal or of the refused row's, and 0 and 0
-- where all rows were taken
unfoldable pub refusal_by : Ran → Refusal
refusal_by (Ran.Done st) = no_refusal
refusal_by (Ran.Stopped st r) = r
refusal_by (Ran.Refused r) = r

-- a claim on the state that a run hands out, where its rows were run
unfoldable pub OnRun : (State → Type 0) → Ran → Type 0
OnRun P (Ran.Done st) = P st
OnRun P (Ran.Stopped st r) = P st
OnRun P (Ran.Refused r) = Unit {0}

-- a row's refusal: "8 a row byte breaks its rule" or "9 control power before limiting would be below -9,600", at the
-- row that the state is before
pub record AtRow (st : State) (r : Refusal) : Type 0 where
  pub its_number : (r.number ≡ wrong_row) ⊎ (r.number ≡ power_too_low)
  pub its_place : r.place ≡ st.row

-- a claim on a run that stopped, its state and its refusal
unfoldable pub OnStopped : (State → Refusal → Type 0) → Ran → Type 0
OnStopped P (Ran.Done st) = Unit {0}
OnStopped P (Ran.Stopped st r) = P st r
OnStopped P (Ran.Refused r) = Unit {0}

-- how far a run over so many rows came, by how it ended: n were taken, and one answer given for each
pub data Counted (st : State) (offered : ℕ) (answers : List Answer) : Ran → Type 0 where
  done : {after : State} (n : ℕ) → offered ≡ n → length answers ≡ n → after.row ≡ st.row + n →
      Counted st offered answers (Ran.Done after)
  stopped : {after : State} {r : Refusal} (n : ℕ) → n < offered → length answers ≡ n → after.row ≡ st.row + n →
      Counted st offered answers (Ran.Stopped after r)

-- one run, then another from the state that it ends in; a refusal ends both
unfoldable pub onward : Ran → List Answer → (State → Rows) → Rows
onward (Ran.Done st) answers next = record { result = (next st).result; answers = answers ++ (next st).answers }
onward (Ran.Stopped st r) answers next = record { result = Ran.Stopped st r; answers = answers }
onward (Ran.Refused r) answers next = record { result = Ran.Refused r; answers = answers }

abbrev pub and_then : Rows → (State → Rows) → Rows
and_then r next = onward r.result r.answers next

-- what a run answers, and the buffer afterwards
pub record End : Type 0 where
  pub result : Ran
  pub out : List ℤ

abbrev pub ended : Ran → List ℤ → End
ended result out = record { result = result; out = out }

-- the answers from a place on, then what stood there
abbrev pub written : List ℤ → ℕ → Rows → End
written out at r = ended r.result (sets out at (all_numbers r.answers))

-- the same from the first place on, where all of them have room
abbrev pub then_rest : List ℤ → Rows → End
then_rest out r = ended r.result (all_numbers r.answers ++ drop (length (all_numbers r.answers)) out)

-- the rows of a part of bytes
abbrev pub go_over : Settings → Gain → (ℕ → Slot) → State → (rows : List ℕ) → Rows
go_over s g slots st rows = go s g slots st (rows_in rows) (is_cut rows)

-- what is asked of a whole run before its first row, "Checked in this order": "7 more than 30,000 rows, or a row after
-- the 30,000th", at 30,000; "10 asks for 8 numbers a row", at the numbers needed; "11 a state handed
-- in has a field outside its range". For so many rows after this row, with this room for numbers; none where all
-- three pass
-- DECISIONS: refusals-seven-first, refusals-run-of-rows, refusals-numbers-needed
unfoldable pub run_refusal : (row rows room : ℕ) (sound : Bool) → Option Refusal
run_refusal row rows room sound =
    when ltb (rows_most - row) rows then Some (refusal too_many_rows rows_most) else
    when ltb room (answer_numbers * rows) then Some (refusal short_answers (answer_numbers * rows)) else
    when sound then None else
    Some (refusal wrong_state 0)

-- "Refusals 1 to 7, 10 and 11 leave the whole answer buffer and any state as they were"
-- DECISIONS: refusals-state-kept
unfoldable pub unless_refused : Option Refusal → (out : List ℤ) (rows : End) → End
unless_refused (Some r) out rows = ended (Ran.Refused r) out
unless_refused None out rows = rows

-- a run over a part of rows: its refusal as a whole, or row by row
unfoldable pub run_of : Settings → (gains records : List ℕ) → State → (rows : List ℕ) (out : List ℤ) → End
run_of s gains records st rows out =
    unless_refused (run_refusal st.row (rows_offered rows) (length out) (admits s gains st)) out
    (written out 0 (go_over s (gain_for s gains) (slot_at records) st rows))

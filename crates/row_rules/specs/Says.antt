-- What each case of an answer says, of a row, of a step and of a run: the page's number and place where it is refused,
-- and the values that are handed out where it is not. Statements alone. Their proofs stand in Theorems/.
-- Definitions, to be believed.
use Rattle.std.specs.Prelude.{ℕ, ◌*◌, ◌≤◌, ◌<◌, ◌≡◌, ◌⊎◌, Bool, true, false, List, [], ◌∷◌, ◌++◌, ℤ, length, drop, ◌≤ℤ◌, ◌<ℤ◌, Ok, Err}
use Rattle.ground.specs.declared.Refusal.{Refusal}
use Rattle.constants.specs.Sizes.{rows_most, power_least, answer_numbers}
use Rattle.constants.specs.Refusals.{refusal, too_many_rows, wrong_row, power_too_low, short_answers, wrong_state}
use Rattle.gap_slots.specs.declared.Slot.{Slot}
use Rattle.gap_slots.specs.Slots.{opens_uplink, slot_at}
use Rattle.power.specs.declared.Gain.{Gain}
use Rattle.job_settings.specs.declared.Settings.{Settings}
use Rattle.row_state.specs.declared.State.{State}
use Rattle.row_values.specs.declared.Row.{Row}
use Rattle.row_values.specs.declared.Answer.{Answer}
use Rattle.row_values.specs.Rows.{is_cut, rows_offered, rows_in}
use Rattle.row_values.specs.Answers.{all_numbers}
use Rattle.row_rules.specs.Stepping.{Stepped}
use Rattle.row_rules.specs.declared.Ran.{Ran}
use Rattle.row_rules.specs.Rules.{command_at, sum_at, sent_books, gap_next, sent_next, gap_answer, sent_answer}
use Rattle.row_rules.specs.Rules.{gain_for, refusal_of, step_of}
use Rattle.row_rules.specs.Runs.{refusal_by, ended, run_of}
use Rattle.row_rules.specs.Refusing.{Keeps, StateRanged, TooMany}

-- ---- a row

-- a row in its slot, under its gain
pub data RowSays (s : Settings) (g : Gain) (slot : Slot) (st : State) (row : Row) : Stepped → Type 0 where
  -- "8 | a row byte breaks its rule | row"
  eight : (Keeps s.links slot row → ⊥) → RowSays s g slot st row (Err (refusal wrong_row st.row))
  -- "9 | control power before limiting would be below -9,600 | row"
  nine : Keeps s.links slot row → opens_uplink slot ≡ false → sum_at s slot st row <ℤ power_least →
      RowSays s g slot st row (Err (refusal power_too_low st.row))
  -- "In an uplink gap nothing is sent and power is held."
  gap : Keeps s.links slot row → opens_uplink slot ≡ true →
      RowSays s g slot st row
      (Ok ((gap_next s slot st row), (gap_answer slot (command_at s slot st row) st.held)))
  -- "Power is then the lesser of old power + change and the ceiling"
  sent : Keeps s.links slot row → opens_uplink slot ≡ false → power_least ≤ℤ sum_at s slot st row →
      RowSays s g slot st row
      (Ok ((sent_next s g slot st row), (sent_answer g slot (command_at s slot st row) (sent_books s g slot st row))))

-- ---- a step

pub data StepSays (s : Settings) (gains records : List ℕ) (st : State) (row : Row) : Stepped → Type 0 where
  -- "7 | … a row after the 30,000th | 30,000"
  seven : rows_most ≤ st.row → StepSays s gains records st row (Err (refusal too_many_rows rows_most))
  -- "11 | a state handed in has a field outside its range | 0"
  eleven : st.row < rows_most → (StateRanged s gains st → ⊥) →
      StepSays s gains records st row (Err (refusal wrong_state 0))
  -- and else what the row itself says
  by_row : {x : Stepped} → st.row < rows_most → StateRanged s gains st →
      RowSays s (gain_for s gains) (slot_at records st.row) st row x → StepSays s gains records st row x

-- the page's numbers that a step may have: none, 7, 8, 9 or 11
abbrev pub StepNumber : ℕ → Type 0
StepNumber n = (n ≡ 0) ⊎ ((too_many_rows ≤ n) × (n ≤ power_too_low)) ⊎ (n ≡ wrong_state)

-- what a step promises: its answer, what this says, and its number
pub record StepTold (s : Settings) (gains records : List ℕ) (st : State) (row : Row) (answer : Stepped) : Type 0 where
  pub is : answer ≡ step_of s gains records st row
  pub says : StepSays s gains records st row answer
  pub number : StepNumber (refusal_of answer).number

-- ---- a run

-- rows one after the other, and the answers of those that were taken: row k is slot k
pub data RowsSay (s : Settings) (g : Gain) (slots : ℕ → Slot) (cut : Bool) : State → List Row → Ran → List Answer →
    Type 0 where
  -- all were taken
  done : {st : State} → cut ≡ false → RowsSay s g slots cut st [] (Ran.Done st) []
  -- a last row that was cut short lacks a byte, and so breaks its rule
  short : {st : State} → cut ≡ true → RowsSay s g slots cut st [] (Ran.Stopped st (refusal wrong_row st.row)) []
  -- "the state is the one before that row"
  stopped : {st : State} {row : Row} {rest : List Row} {r : Refusal} →
      RowSays s g (slots st.row) st row (Err r) →
      RowsSay s g slots cut st (row ∷ rest) (Ran.Stopped st r) []
  taken : {st next : State} {row : Row} {rest : List Row} {a : Answer} {result : Ran} {answers : List Answer} →
      RowSays s g (slots st.row) st row (Ok (next, a)) → RowsSay s g slots cut next rest result answers →
      RowsSay s g slots cut st (row ∷ rest) result (a ∷ answers)

-- how a run ends, and every number of the lent buffer afterwards
pub data RunSays (s : Settings) (gains records : List ℕ) (st : State) (rows : List ℕ) (out : List ℤ) : Ran → List ℤ →
    Type 0 where
  -- "7 | more than 30,000 rows, or a row after the 30,000th | 30,000"; "leave the whole answer buffer … as they were"
  seven : TooMany st rows → RunSays s gains records st rows out (Ran.Refused (refusal too_many_rows rows_most)) out
  -- "10 | lent answers shorter than … numbers a row | numbers needed"; "10 asks for 8 numbers a row"
  ten : (TooMany st rows → ⊥) → length out < answer_numbers * rows_offered rows →
      RunSays s gains records st rows out (Ran.Refused (refusal short_answers (answer_numbers * rows_offered rows))) out
  -- "11 | a state handed in has a field outside its range | 0"
  eleven : (TooMany st rows → ⊥) → answer_numbers * rows_offered rows ≤ length out → (StateRanged s gains st → ⊥) →
      RunSays s gains records st rows out (Ran.Refused (refusal wrong_state 0)) out
  -- "the answers of earlier rows stand, later places are untouched"
  by_rows : {result : Ran} {answers : List Answer} →
      (TooMany st rows → ⊥) → answer_numbers * rows_offered rows ≤ length out → StateRanged s gains st →
      RowsSay s (gain_for s gains) (slot_at records) (is_cut rows) st (rows_in rows) result answers →
      RunSays s gains records st rows out result (all_numbers answers ++ drop (length (all_numbers answers)) out)

-- the page's numbers that a run may have: none, or 7 to 11
abbrev pub RunNumber : ℕ → Type 0
RunNumber n = (n ≡ 0) ⊎ ((too_many_rows ≤ n) × (n ≤ wrong_state))

-- what a run promises: how it ends and the buffer afterwards, what these say, and its number
pub record RunTold (s : Settings) (gains records : List ℕ) (st : State) (rows : List ℕ) (out : List ℤ) (answer : Ran)
    (after : List ℤ) : Type 0 where
  pub is : ended answer after ≡ run_of s gains records st rows out
  pub says : RunSays s gains records st rows out answer after
  pub number : RunNumber (refusal_by answer).number

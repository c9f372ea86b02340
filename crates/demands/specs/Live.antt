-- A live test: `uplink_start` hands out a state as numbers, and each call of `uplink_next` takes it back with the rows
-- that come next. What such calls are, one after the other, without a word on how they are worked; and what a call says
-- of any numbers that are lent to it. Statements alone.
-- Definitions, to be believed.
use Rattle.std.specs.Prelude.{ℕ, ◌+◌, ◌-◌, ◌*◌, ◌≤◌, ◌<◌, ◌≡◌, false, ◌||◌, List, [], ◌++◌, eqb, ℤ, length, take, drop}
use Rattle.ground.specs.declared.Refusal.{Refusal}
use Rattle.ground.specs.Choice.{when◌then◌else◌}
use Rattle.constants.specs.Sizes.{row_bytes, rows_most, answer_numbers}
use Rattle.constants.specs.Refusals.{refusal, no_refusal, too_many_rows, wrong_row, power_too_low, short_answers, wrong_state}
use Rattle.power.specs.declared.Triple.{Triple}
use Rattle.row_state.specs.declared.State.{State}
use Rattle.row_values.specs.declared.Answer.{Answer}
use Rattle.row_values.specs.Rows.{whole_rows, is_cut, rows_offered, rows_in}
use Rattle.row_values.specs.Answers.{all_numbers, answer_from}
use Rattle.row_rules.specs.declared.Ran.{Ran}
use Rattle.row_rules.specs.Rules.{gain_for}
use Rattle.row_rules.specs.Runs.{ended}
use Rattle.row_rules.specs.History.{History, Accepted, state_at}
use Rattle.row_rules.specs.Refusing.{StateRanged}
use Rattle.row_rules.specs.Says.{RowsSay}
use Rattle.row_rules.specs.Theorems.{answers_of}
use Rattle.exports_state.specs.Packed.{state_numbers, row_said}
use Rattle.exports.specs.Steps.{Lent, lent_of, started_lent, NextTold, untouched, lent_after, next_of}
use Rattle.demands.specs.Rows.{TakenJob, job_gains, job_slot, row_triple, part_rows}

-- how many of the rows that are offered after `before` accepted rows were accepted too, as number and place tell a
-- caller: all of them; those before the refused row; or none
unfoldable pub accepted_by : (before offered : ℕ) → Refusal → ℕ
accepted_by before offered r =
    when eqb r.number 0 then offered else
    when eqb r.number wrong_row || eqb r.number power_too_low then r.place - before else 0

-- how many rows of a call are accepted after those of the calls before it, and all accepted rows then
abbrev pub accepted_in : (job rows : List ℕ) → Lent → (more : List ℕ) → List ℤ → ℕ
accepted_in job rows st more out = accepted_by (whole_rows rows) (whole_rows more) (next_of job more st out).refusal

abbrev pub rows_then : (job rows : List ℕ) → Lent → (more : List ℕ) → List ℤ → List ℕ
rows_then job rows st more out = rows ++ take (row_bytes * accepted_in job rows st more out) more

-- what a start of a job that is taken tells: "11 | a state handed in has a field outside its range", for numbers that
-- are more or fewer than a state has, and else none
pub data StartTells (before : Lent) : Refusal → Type 0 where
  wrong_count : (length before.numbers ≡ state_numbers → ⊥) → StartTells before (refusal wrong_state 0)
  none : length before.numbers ≡ state_numbers → StartTells before no_refusal

-- a start that is not refused, then calls one after the other, with any rows and any buffers: the bytes of the rows
-- accepted so far, and the state as it is lent
pub data Live (job : List ℕ) : (rows : List ℕ) → Lent → Type 0 where
  started : (before : Lent) → (started_lent job before).refusal ≡ no_refusal → Live job [] (started_lent job before).state
  called : {rows : List ℕ} {st : Lent} → Live job rows st → (more : List ℕ) (out : List ℤ) →
      Live job (rows_then job rows st more out) (next_of job more st out).state

-- what stands after such calls: the job is taken, the rows are accepted one after the other from its start, and the
-- state is the one after them
pub record LiveSaid (job rows : List ℕ) (st : Lent) : Type 0 where
  pub taken : TakenJob job
  pub whole : is_cut rows ≡ false
  pub few : whole_rows rows ≤ rows_most
  pub accepted : Accepted (part_rows taken rows) (whole_rows rows)
  pub state : st ≡ lent_of (state_at (part_rows taken rows) (whole_rows rows))

module _ {job rows : List ℕ} {st : Lent} (l : LiveSaid job rows st) (more : List ℕ) (out : List ℤ) where
  -- what a call leaves in the lent buffer: the answers of the rows that it accepted, then what stood there
  abbrev pub LeftBy : Type 0
  LeftBy =
      (next_of job more st out).out ≡
      all_numbers (answers_of (part_rows l.taken (rows_then job rows st more out)) (whole_rows rows)
      (accepted_in job rows st more out)) ++
      drop (answer_numbers * accepted_in job rows st more out) out

  -- answer k of the buffer; and a claim on the answer of each row that the call accepted, as a row of the history since
  -- the start of the test
  abbrev pub answer_left : ℕ → Answer
  answer_left k = answer_from (next_of job more st out).out (answer_numbers * k)

  abbrev pub OnAnswersLeft : (History → Triple → (k : ℕ) → Answer → Type 0) → Type 0
  OnAnswersLeft P = (k : ℕ) → k < accepted_in job rows st more out →
      P (part_rows l.taken (rows_then job rows st more out)) (row_triple l.taken (whole_rows rows + k))
      (whole_rows rows + k) (answer_left k)

-- ---- rows that are offered to any numbers and level, whether a live test left these or not

module _ {job : List ℕ} (j : TakenJob job) (rows : List ℕ) (before : Lent) (out : List ℤ) where
  -- "7 | … a row after the 30,000th": a row is offered, and the last one would come after the 30,000th, counted from
  -- the row that the numbers say
  -- DECISIONS: refusals-run-of-rows, refusals-lent-state
  abbrev pub AfterLast : Type 0
  AfterLast = (1 ≤ rows_offered rows) × (rows_most < row_said before.numbers + rows_offered rows)

  -- the numbers and the level are those of a state, and it is in its ranges
  pub record LentState (st : State) : Type 0 where
    pub is : before ≡ lent_of st
    pub ranged : StateRanged j.settings (job_gains j) st

  -- 7, then 10, then 11, and all that was lent as it was; else row by row from that state: the refusal, if there is
  -- one, the state after the accepted rows, their answers, and then what stood in the buffer
  pub data LentCallSays : NextTold → Type 0 where
    seven : AfterLast → LentCallSays (untouched (refusal too_many_rows rows_most) before out)
    ten : (AfterLast → ⊥) → length out < answer_numbers * rows_offered rows →
        LentCallSays (untouched (refusal short_answers (answer_numbers * rows_offered rows)) before out)
    eleven : (AfterLast → ⊥) → answer_numbers * rows_offered rows ≤ length out → ((st : State) → LentState st → ⊥) →
        LentCallSays (untouched (refusal wrong_state 0) before out)
    by_rows : (AfterLast → ⊥) → answer_numbers * rows_offered rows ≤ length out → {st : State} → LentState st →
        {x : Ran} {answers : List Answer} →
        RowsSay j.settings (gain_for j.settings (job_gains j)) (job_slot j) (is_cut rows) st (rows_in rows) x answers →
        LentCallSays (lent_after before (ended x (all_numbers answers ++ drop (length (all_numbers answers)) out)))

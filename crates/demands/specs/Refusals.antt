-- "1 to 11 are given exactly when stated": of the next row of a history 8 and 9; of a row offered to any state 7, 11, 8
-- and 9, and what it gives else; and of rows offered together, from the start of a job or after accepted ones, every
-- number and place. `LoadSays` says it of a file, 1 to 7. Statements alone.
-- Definitions, to be believed.
use Rattle.std.specs.Prelude.{ℕ, ◌+◌, ◌*◌, ◌≤◌, ◌<◌, ◌≡◌, ◌↔◌, true, false, List, [], ◌++◌, ℤ, ◌+ℤ◌, length, ◌≤ℤ◌, ◌<ℤ◌, Ok, Err}
use Rattle.ground.specs.declared.Refusal.{Refusal}
use Rattle.constants.specs.Sizes.{rows_most, power_least, answer_numbers}
use Rattle.constants.specs.Refusals.{refusal, no_refusal, too_many_rows, wrong_row, power_too_low, short_answers, wrong_state}
use Rattle.power.specs.declared.Gain.{Gain}
use Rattle.gap_slots.specs.declared.Slot.{Slot}
use Rattle.gap_slots.specs.Slots.{opens_uplink}
use Rattle.row_state.specs.declared.State.{State}
use Rattle.row_values.specs.declared.Row.{Row}
use Rattle.row_values.specs.Rows.{whole_rows, is_cut, rows_offered}
use Rattle.row_change.specs.Change.{change_of}
use Rattle.row_rules.specs.Stepping.{Stepped}
use Rattle.row_rules.specs.Rules.{here_at, command_at, gain_for, gap_next, sent_next, sent_books, gap_answer, sent_answer}
use Rattle.row_rules.specs.History.{History, Accepted, accepted}
use Rattle.row_rules.specs.Refusing.{Keeps, StateRanged}
use Rattle.row_rules.specs.Theorems.{Changed}
use Rattle.job.specs.Load.{Loaded}
use Rattle.job.specs.Load.{LoadSays}
use Rattle.demands.specs.Rows.{TakenJob, job_gains, job_slot, part_rows, RoomAfter, old_power}

-- ---- row n of a history, after accepted ones

-- its bytes break no rule
abbrev pub RowKeeps : History → ℕ → Type 0
RowKeeps h n = Keeps h.settings.links (h.slot n) (h.row n)

pub data RowRefuses (h : History) (n : ℕ) : Refusal → Type 0 where
  -- "8 | a row byte breaks its rule | row"
  eight : (RowKeeps h n → ⊥) → RowRefuses h n (refusal wrong_row n)
  -- "9 | control power before limiting would be below -9,600 | row": "old power + change", by the change that the
  -- page's rules name
  nine : RowKeeps h n → opens_uplink (h.slot n) ≡ false → (z : ℤ) → Changed h n z →
      (old_power h n +ℤ z) <ℤ power_least → RowRefuses h n (refusal power_too_low n)

pub data RowTaken (h : History) (n : ℕ) : Type 0 where
  gap : RowKeeps h n → opens_uplink (h.slot n) ≡ true → RowTaken h n
  sent : RowKeeps h n → opens_uplink (h.slot n) ≡ false → (z : ℤ) → Changed h n z →
      power_least ≤ℤ (old_power h n +ℤ z) → RowTaken h n

-- refused so, and only so; and else taken
pub record NextRowJudged (h : History) (n : ℕ) (x : Stepped) : Type 0 where
  pub refused : (r : Refusal) → x ≡ Err r ↔ RowRefuses h n r
  pub else_taken : accepted x ≡ true ↔ RowTaken h n

-- ---- a row that is offered to any state of a job that is taken

module _ {job : List ℕ} (j : TakenJob job) (st : State) (row : Row) where
  -- its slot, and the gain of its triple
  abbrev pub slot_offered : Slot
  slot_offered = job_slot j st.row

  abbrev pub gain_offered : Gain
  gain_offered = gain_for j.settings (job_gains j)

  -- its bytes break no rule
  abbrev pub KeepsOffered : Type 0
  KeepsOffered = Keeps j.settings.links slot_offered row

  -- its command, and its change by the function of the five rules. In a history, `named` of demand 2 shows both to be
  -- the page's; a state that no rows led to has no history to name them by, so that the functions of the rules decide
  abbrev pub command_offered : ℤ
  command_offered = command_at j.settings slot_offered st row

  abbrev pub change_offered : ℤ
  change_offered = change_of j.settings st (here_at j.settings slot_offered st) command_offered row.pilots

  -- neither 7 nor 11 is due
  pub record MayFollow : Type 0 where
    pub few : st.row < rows_most
    pub ranged : StateRanged j.settings (job_gains j) st

  -- 7, then 11, then 8, then 9, each exactly then; and else the next state and the answer, in an uplink gap and sent
  pub record AnyRowJudged (x : Stepped) : Type 0 where
    pub seven : x ≡ Err (refusal too_many_rows rows_most) ↔ rows_most ≤ st.row
    pub eleven : x ≡ Err (refusal wrong_state 0) ↔
        ((st.row < rows_most) × (StateRanged j.settings (job_gains j) st → ⊥))
    pub eight : MayFollow → x ≡ Err (refusal wrong_row st.row) ↔ (KeepsOffered → ⊥)
    pub nine : MayFollow → x ≡ Err (refusal power_too_low st.row) ↔
        (KeepsOffered × (opens_uplink slot_offered ≡ false) × ((st.power +ℤ change_offered) <ℤ power_least))
    pub gap : MayFollow → KeepsOffered → opens_uplink slot_offered ≡ true →
        x ≡ Ok ((gap_next j.settings slot_offered st row), (gap_answer slot_offered command_offered st.held))
    pub sent : MayFollow → KeepsOffered → opens_uplink slot_offered ≡ false →
        power_least ≤ℤ (st.power +ℤ change_offered) →
        x ≡ Ok (
          (sent_next j.settings gain_offered slot_offered st row),
          (sent_answer gain_offered slot_offered command_offered (sent_books j.settings gain_offered slot_offered st row)),
        )

-- ---- rows that are offered together, after others that were accepted: every number and place. The state is one that
-- was handed out, so that 11 is never the answer

pub data CallTells {job : List ℕ} (j : TakenJob job) (rows more : List ℕ) (out : List ℤ) : Refusal → Type 0 where
  -- "7 | more than 30,000 rows, or a row after the 30,000th | 30,000"
  many : rows_most < whole_rows rows + rows_offered more → CallTells j rows more out (refusal too_many_rows rows_most)
  -- "10 | lent answers shorter than … numbers a row | numbers needed"; "10 asks for 8 numbers a row"
  short : whole_rows rows + rows_offered more ≤ rows_most → length out < answer_numbers * rows_offered more →
      CallTells j rows more out (refusal short_answers (answer_numbers * rows_offered more))
  -- 8 or 9, of the first row that is refused
  row : RoomAfter (whole_rows rows) more out → {n : ℕ} → n < whole_rows rows + whole_rows more →
      Accepted (part_rows j (rows ++ more)) n → {r : Refusal} → RowRefuses (part_rows j (rows ++ more)) n r →
      CallTells j rows more out r
  -- 8, of a last row that lacks a byte
  lacking : RoomAfter (whole_rows rows) more out → is_cut more ≡ true →
      Accepted (part_rows j (rows ++ more)) (whole_rows rows + whole_rows more) →
      CallTells j rows more out (refusal wrong_row (whole_rows rows + whole_rows more))
  -- none, where all of them are accepted
  none : RoomAfter (whole_rows rows) more out → is_cut more ≡ false →
      Accepted (part_rows j (rows ++ more)) (whole_rows rows + whole_rows more) → CallTells j rows more out no_refusal

-- a run of rows from the start of a job: 1 to 7 by the file, and else what a call tells with no rows before it
pub data RunTells (job rows : List ℕ) (out : List ℤ) : Refusal → Type 0 where
  file : {r : Refusal} → LoadSays job (Err r) → RunTells job rows out r
  run : (j : TakenJob job) {r : Refusal} → CallTells j [] rows out r → RunTells job rows out r

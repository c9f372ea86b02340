-- "Each row's command, change, powers and limiting equal what the standard says, as document 01 condenses it."
-- Statements alone. Those on rows are of the rows of any test with a job, the file's own or a caller's.
-- Definitions, to be believed.
use Rattle.std.specs.Prelude.{ℕ, suc, ◌*◌, ◌≤◌, ◌<◌, ◌≡◌, ◌↔◌, ◌⊎◌, true, false, T, List, ℤ, pos, ◌+ℤ◌, length, get_or, ◌<ℤ◌, Ok, Err}
use Rattle.std.specs.Float.Ieee.{fits}
use Rattle.std.specs.Float.{binary64}
use Rattle.ground.specs.declared.Refusal.{Refusal}
use Rattle.ground.specs.Integers.{lesser}
use Rattle.constants.specs.Sizes.{rows_most, answer_numbers}
use Rattle.constants.specs.Refusals.{no_refusal}
use Rattle.levels.specs.Level.{Ranged, IsLevel, level}
use Rattle.power.specs.declared.Triple.{Triple}
use Rattle.power.specs.Gain.{gain_bracket, ceiling_of, data_offset}
use Rattle.gap_slots.specs.Slots.{opens_uplink}
use Rattle.command.specs.Row.{Commanded}
use Rattle.row_state.specs.declared.State.{State}
use Rattle.row_values.specs.declared.Row.{Row}
use Rattle.row_values.specs.declared.Answer.{Answer}
use Rattle.row_values.specs.Rows.{whole_rows, is_cut}
use Rattle.row_values.specs.Answers.{answer_from}
use Rattle.row_rules.specs.Stepping.{Stepped}
use Rattle.row_rules.specs.History.{History, Accepted, state_at, answer_at}
use Rattle.row_rules.specs.History.{commands_on, command_on, change_on, downs, recoveries}
use Rattle.row_rules.specs.Refusing.{IsF64}
use Rattle.row_rules.specs.Theorems.{ByRecovery, Changed, FilterSaid}
use Rattle.job.specs.Load.{Loaded}
use Rattle.job.specs.Load.{loaded_of, LoadSays}
use Rattle.job.specs.Jobs.{stepped_of}
use Rattle.exports.specs.Calls.{Told, told_by, callers_rows}
use Rattle.exports.specs.Steps.{Lent, started_lent, NextTold, next_of}
use Rattle.listing.specs.Listing.{listing_of}
use Rattle.demands.specs.Rows.{TakenJob, part_rows, row_triple, Test, history, RoomAfter, old_power}
use Rattle.demands.specs.Refusals.{NextRowJudged, AnyRowJudged, CallTells, RunTells}
use Rattle.demands.specs.Live.{StartTells, LiveSaid, OnAnswersLeft, LentCallSays}
use Rattle.demands.specs.Demand1.{Prints}

module _ (h : History) where
  -- "The command of a row", sentence by sentence
  abbrev pub CommandSaid : ℕ → ℤ → Type 0
  CommandSaid k z = Commanded (commands_on h) (downs h) (recoveries h) h.settings.pca h.settings.links k z

  -- "Ceiling = 64·maximum − (L(βc² + n·βd²) − L(βc²))", of a row with a triple (βc, βd, n)
  abbrev pub ceiling : Triple → ℤ
  ceiling t = ceiling_of t h.settings.maximum

  -- what is named of row k, whether it is accepted or refused
  pub record RowNamed (k : ℕ) : Type 0 where
    -- "command", and which slots it takes for recovery slots
    pub command : CommandSaid k (command_on h k)
    pub recovery : recoveries h k ≡ true ↔ ByRecovery h k
    -- "change": "A sent row takes the first that applies", of the five
    pub change : opens_uplink (h.slot k) ≡ false → Changed h k (change_on h k)
    -- the filter, which the second of them may ask: "at any count it lies within 2^−38 unit of the exact recursion"
    pub filter : FilterSaid h k
    -- the state before the row has its number, and the old power
    pub row : (state_at h k).row ≡ k
    pub old : (state_at h k).power ≡ old_power h k

  -- a sent row, with its triple and the change that the page's rules name
  pub record SentSaid (t : Triple) (k : ℕ) (change : ℤ) (a : Answer) : Type 0 where
    pub command : CommandSaid k a.command
    -- "powers": "the lesser of old power + change and the ceiling"
    pub control : a.dpcch ≡ lesser (old_power h k +ℤ change) (ceiling t)
    -- "Total = DPCCH + that same bracket."
    pub total : a.total ≡ a.dpcch +ℤ gain_bracket t
    -- "DPDCH = DPCCH + L(n·βd²) − L(βc²), none when βd is 0."
    pub data_power : 1 ≤ t.betad → a.dpdch ≡ a.dpcch +ℤ data_offset t
    pub no_data : t.betad ≡ 0 → a.dpdch ≡ pos 0
    -- "limiting": state 1 or 2; "the row is limited if the sum was above it"
    pub state : (a.state ≡ pos 1) ⊎ (a.state ≡ pos 2)
    pub limited : a.state ≡ pos 2 ↔ ceiling t <ℤ (old_power h k +ℤ change)

  -- "In an uplink gap nothing is sent": state 0, and absent powers are 0
  pub record GapSaid (k : ℕ) (a : Answer) : Type 0 where
    pub command : CommandSaid k a.command
    pub state : a.state ≡ pos 0
    pub control : a.dpcch ≡ pos 0
    pub data_power : a.dpdch ≡ pos 0
    pub total : a.total ≡ pos 0

  -- each row, by its slot
  pub record RowSaid (t : Triple) (k : ℕ) (a : Answer) : Type 0 where
    pub sent : opens_uplink (h.slot k) ≡ false → (change : ℤ) → Changed h k change → SentSaid t k change a
    pub gap : opens_uplink (h.slot k) ≡ true → GapSaid k a
    -- "the uplink and downlink sets", of every row; what is in them, demand 1 says of the file's records
    pub uplink : a.uplink ≡ pos (h.slot k).up
    pub downlink : a.downlink ≡ pos (h.slot k).down

-- ---- a reference: what a run of rows from the start of a job tells a caller, the refusal's number and place, 0 at 0
-- for none, and the lent buffer afterwards; what one row offered to a state gives; and what is printed for a job
-- DECISIONS: promises-any-reference
pub record Reference : Type 0 where
  pub run : (job rows : List ℕ) → List ℤ → Told
  pub step : (job : List ℕ) → State → Row → Stepped
  pub text : (job : List ℕ) → List ℕ

-- row k is offered to the job, it and every row before it are accepted, and there is room for all
pub record Works (job rows : List ℕ) (out : List ℤ) (k : ℕ) : Type 0 where
  pub taken : TakenJob job
  pub room : RoomAfter 0 rows out
  pub among : k < whole_rows rows
  pub accepted : Accepted (part_rows taken rows) (suc k)

-- the answer of row k that a reference leaves in a lent buffer
abbrev pub answer_by : Reference → (job rows : List ℕ) (out : List ℤ) (k : ℕ) → Answer
answer_by ref job rows out k = answer_from (ref.run job rows out).out (answer_numbers * k)

-- a reference that meets demand 2
pub record Meets (ref : Reference) : Type 0 where
  -- "(1 to 11 are given exactly when stated)": of a run
  pub refusals : (job rows : List ℕ) (out : List ℤ) (r : Refusal) →
      (ref.run job rows out).refusal ≡ r ↔ RunTells job rows out r
  -- and of any row that is offered to any state, of a file that is refused and of one that is taken. `IsF64` excludes
  -- no program: every f64 is one
  pub file_refused : (job : List ℕ) (st : State) (row : Row) {r : Refusal} → LoadSays job (Err r) →
      ref.step job st row ≡ Err r
  pub row_offered : (job : List ℕ) (j : TakenJob job) (st : State) (row : Row) → IsF64 st →
      AnyRowJudged j st row (ref.step job st row)
  -- an accepted row of a test gives the state after it, and an answer that the page's rules for that row allow
  pub stepped : {job : List ℕ} (t : Test job) (k : ℕ) → k < t.n →
      (a : Answer) × (ref.step job (state_at (history t) k) (t.row k) ≡ Ok ((state_at (history t) (suc k)), a)) ×
      RowSaid (history t) (row_triple t.taken k) k a
  -- so it is with what a run leaves at an accepted row's place
  pub said : (job rows : List ℕ) (out : List ℤ) (k : ℕ) (w : Works job rows out k) →
      RowSaid (part_rows w.taken rows) (row_triple w.taken k) k (answer_by ref job rows out k)
  -- and every number after the accepted rows' places is as it was
  pub size : (job rows : List ℕ) (out : List ℤ) → length (ref.run job rows out).out ≡ length out
  pub rest : (job rows : List ℕ) (out : List ℤ) (i : ℕ) →
      ((k : ℕ) → Works job rows out k → answer_numbers * suc k ≤ i) →
      get_or (ref.run job rows out).out i (pos 0) ≡ get_or out i (pos 0)
  -- what is printed is the listing of the file's own rows, or the refusal of the file alone
  pub prints : (job : List ℕ) → Prints job (ref.text job)

-- this reference. The run of a job's own rows is one case, `own_rows` of demand 1
abbrev pub this_reference : Reference
this_reference = record { run = λ job rows out. told_by (callers_rows job rows out); step = stepped_of; text = listing_of }

pub record Demand2 : Type 0 where
  -- "Each row's command, change, powers and limiting": what is named of a row, and of the one that is offered next; and
  -- a row's answer
  pub named : {job : List ℕ} (t : Test job) (k : ℕ) → k ≤ t.n → RowNamed (history t) k
  pub rows : {job : List ℕ} (t : Test job) (k : ℕ) → k < t.n →
      RowSaid (history t) (row_triple t.taken k) k (answer_at (history t) k)
  -- and so it is with each answer that a call of a live test leaves
  pub live_rows : {job rows : List ℕ} {st : Lent} (l : LiveSaid job rows st) (more : List ℕ) (out : List ℤ) →
      OnAnswersLeft l more out RowSaid
  -- the page's sentences name one command, one change and one level
  pub one_command : (h : History) (k : ℕ) {y z : ℤ} → CommandSaid h k y → CommandSaid h k z → y ≡ z
  pub one_change : (h : History) {k : ℕ} {y z : ℤ} → Changed h k y → Changed h k z → y ≡ z
  pub levels : {x : ℕ} → Ranged x → IsLevel x (level x)
  pub one_level : {x r : ℕ} → Ranged x → IsLevel x r → level x ≡ r
  -- "(1 to 11 are given exactly when stated)": of a file, of the next row of a test, and of a live test: its start, and
  -- each of its calls
  pub of_a_file : (job : List ℕ) (l : Loaded) → loaded_of job ≡ l ↔ LoadSays job l
  pub of_a_row : {job : List ℕ} (t : Test job) → t.n < rows_most →
      NextRowJudged (history t) t.n (stepped_of job (state_at (history t) t.n) (t.row t.n))
  pub of_a_start : (job : List ℕ) → TakenJob job → (before : Lent) (r : Refusal) →
      (started_lent job before).refusal ≡ r ↔ StartTells before r
  pub of_a_call : {job rows : List ℕ} {st : Lent} (l : LiveSaid job rows st) (more : List ℕ) (out : List ℤ)
      (r : Refusal) → (next_of job more st out).refusal ≡ r ↔ CallTells l.taken rows more out r
  -- and of a call with any numbers and level: its refusal, and all that was lent, afterwards. The premise excludes no
  -- program: every f64 fits
  pub of_a_lent_call : {job : List ℕ} (j : TakenJob job) (rows : List ℕ) (before : Lent) (out : List ℤ) →
      T (fits binary64 before.level) → (told : NextTold) →
      next_of job rows before out ≡ told ↔ LentCallSays j rows before out told
  -- this reference meets it
  pub meets : Meets this_reference
  -- It "shuts out a reference that refuses everything": since refusals are given exactly when stated, a run of rows
  -- that are all accepted, with room for them, tells none
  pub done : (ref : Reference) → Meets ref → (job : List ℕ) (j : TakenJob job) (rows : List ℕ) (out : List ℤ) →
      RoomAfter 0 rows out → is_cut rows ≡ false → Accepted (part_rows j rows) (whole_rows rows) →
      (ref.run job rows out).refusal ≡ no_refusal
  pub refuses_everything : (ref : Reference) → Meets ref →
      ((job rows : List ℕ) (out : List ℤ) → (ref.run job rows out).refusal ≡ no_refusal → ⊥) → ⊥
  -- and one that takes a file that is to be refused
  pub takes_damaged : (ref : Reference) → Meets ref → (job rows : List ℕ) (out : List ℤ) {r : Refusal} →
      LoadSays job (Err r) → (ref.run job rows out).refusal ≡ no_refusal → ⊥
  -- "one that prints the same row always"
  pub same_row_always : (ref : Reference) → Meets ref → (a : Answer) →
      ((job rows : List ℕ) (out : List ℤ) (k : ℕ) → Works job rows out k → answer_by ref job rows out k ≡ a) → ⊥
  -- "one that writes no answers"
  pub no_answers : (ref : Reference) → Meets ref →
      ((job rows : List ℕ) (out : List ℤ) → (ref.run job rows out).out ≡ out) → ⊥
  -- "and one that works row 0 and copies it on"
  pub row_0_copied : (ref : Reference) → Meets ref →
      ((job rows : List ℕ) (out : List ℤ) (k : ℕ) → Works job rows out k →
      answer_by ref job rows out k ≡ answer_by ref job rows out 0) → ⊥

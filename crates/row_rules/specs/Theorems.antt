-- What the rules of a row imply over a whole history, from the start, of any settings, slots, gains and bytes:
-- statements alone, and at the end the list of all theorems with their premises. Their proofs stand in Theorems/.
-- Sentences on the books are those of the third demand, which stands whole in `demands/specs/Demand3.antt`.
-- RULES: gaps, command, change, filter, power, promises
-- Definitions, to be believed.
use Rattle.std.specs.Prelude.{ℕ, zero, suc, ◌+◌, ◌≤◌, ◌<◌, ◌≡◌, ◌↔◌, ◌⊎◌, Bool, true, false, List, [], ◌∷◌, ◌++◌, ℤ, pos, ◌+ℤ◌, ◌-ℤ◌, ◌*ℤ◌, ◌≤ℤ◌, ◌<ℤ◌, Ok, Err}
use Rattle.ground.specs.declared.Refusal.{Refusal}
use Rattle.ground.specs.Integers.{lesser}
use Rattle.constants.specs.Sizes.{rows_most}
use Rattle.constants.specs.Refusals.{refusal, wrong_row}
use Rattle.gap_slots.specs.declared.Slot.{Slot}
use Rattle.gap_slots.specs.Slots.{opens_uplink, opens_downlink, gap_slot, slot_at}
use Rattle.gap_runs.specs.Runs.{gaps_of, kind_at, IsResume, IsRecovery, Stands}
use Rattle.command_algorithms.specs.Sets.{said_set}
use Rattle.power.specs.declared.Gain.{Gain}
use Rattle.command.specs.Row.{said_command, Commanded}
use Rattle.power.specs.Steps.{recovery_step_of, pilot_change_of}
use Rattle.power.specs.Steps.{step_units}
use Rattle.power.specs.Gain.{data_offset, gain_of}
use Rattle.resume_filter.specs.Scaled.{scaled}
use Rattle.resume_filter.specs.Resuming.{IsNearest}
use Rattle.resume_filter.specs.Update.{after, Follows}
use Rattle.row_state.specs.declared.Opening.{Opening}
use Rattle.job_settings.specs.declared.Settings.{Settings}
use Rattle.row_state.specs.declared.State.{State}
use Rattle.power.specs.declared.Triple.{Triple}
use Rattle.power.specs.Triples.{TripleIn}
use Rattle.job_settings.specs.Settings.{SettingsIn}
use Rattle.job_settings.specs.Gains.{triple_at}
use Rattle.row_state.specs.States.{state_start}
use Rattle.row_change.specs.Change.{here_of}
use Rattle.row_values.specs.declared.Row.{Row}
use Rattle.row_values.specs.declared.Answer.{Answer}
use Rattle.row_values.specs.Rows.{row_at, whole_rows, is_cut}
use Rattle.row_rules.specs.Stepping.{Stepped}
use Rattle.row_rules.specs.declared.Ran.{Ran}
use Rattle.row_rules.specs.Rules.{row_of, gain_for, step_of}
use Rattle.row_rules.specs.Runs.{Rows, go_over, OnRun, ended, run_of}
use Rattle.row_rules.specs.Refusing.{RowRefused, IsF64, StepRefused, HandedOut, RunRefused, Joins}
use Rattle.row_rules.specs.Says.{RowSays, StepSays, StepTold, RunSays, RunTold}
use Rattle.row_rules.specs.History.{History, Accepted, state_at, stepped_at, answer_at, commands_on, pilots_on, is_sent}
use Rattle.row_rules.specs.History.{here_on, command_on, reached, above, withheld, downs, recoveries, sent_before}
use Rattle.row_rules.specs.History.{opened, limited_before, is_resume, brackets, change_on}

-- rows offered one after the other from the start, whoever offers them, with the same settings, triple and records
abbrev pub offered_to : Settings → (gains records : List ℕ) → (ℕ → Row) → History
offered_to s gains records row = record { settings = s; gain = λ k. gain_for s gains; slot = slot_at records; row = row }

-- those of a part of bytes
abbrev pub history_of : Settings → (gains records rows : List ℕ) → History
history_of s gains records rows = offered_to s gains records (row_at rows)

-- the answers of rows k to k + n − 1
unfoldable pub answers_of : History → (k n : ℕ) → List Answer
answers_of h k zero = []
answers_of h k (suc n) = answer_at h k ∷ answers_of h (suc k) n

-- how a run from the start ends after n accepted rows: all were; row n was refused; or row n lacks a byte
pub data Ends (h : History) (rows : List ℕ) (n : ℕ) : Ran → Type 0 where
  done : whole_rows rows ≡ n → is_cut rows ≡ false → Ends h rows n (Ran.Done (state_at h n))
  stopped : {r : Refusal} → n < whole_rows rows → stepped_at h n ≡ Err r →
      Ends h rows n (Ran.Stopped (state_at h n) r)
  short : whole_rows rows ≡ n → is_cut rows ≡ true → Ends h rows n (Ran.Stopped (state_at h n) (refusal wrong_row n))

-- a run is its history, as far as its rows are accepted, and what holds of histories holds of it
pub record IsHistory (s : Settings) (gains records rows : List ℕ) (r : Rows) : Type 0 where
  pub n : ℕ
  pub all : Accepted (history_of s gains records rows) n
  pub answers : r.answers ≡ answers_of (history_of s gains records rows) 0 n
  pub ends : Ends (history_of s gains records rows) rows n r.result

-- rows after the first k of a part, which were accepted: the history goes on
pub record GoesOn (s : Settings) (gains records rows : List ℕ) (k : ℕ) (r : Rows) : Type 0 where
  pub m : ℕ
  pub all : Accepted (history_of s gains records rows) (k + m)
  pub answers : r.answers ≡ answers_of (history_of s gains records rows) k m
  pub ends : Ends (history_of s gains records rows) rows (k + m) r.result

module _ (h : History) where
  -- ---- what the state before row k says of the slots so far, without a state

  -- slot i is in the run that ends with slot k − 1
  pub record InRun (i k : ℕ) : Type 0 where
    pub before : i < k
    pub each : (j : ℕ) → i ≤ j → j < k → gap_slot (h.slot j) ≡ true

  -- slot i is the first uplink gap slot of the run that ends with slot k − 1
  pub record IsFirst (i k : ℕ) : Type 0 where
    pub run : InRun i k
    pub uplink : opens_uplink (h.slot i) ≡ true
    pub none_before : (j : ℕ) → j < i → InRun j k → opens_uplink (h.slot j) ≡ false

  -- "the command of the run's first uplink gap slot, 0 if there is none"
  pub data Opens (k : ℕ) (o : Opening) : Type 0 where
    none : ((i : ℕ) → InRun i k → opens_uplink (h.slot i) ≡ false) → o.seen ≡ false → o.command ≡ pos 0 → Opens k o
    first : (i : ℕ) → IsFirst i k → o.seen ≡ true → o.command ≡ command_on h i → Opens k o

  -- row i is the last sent row before row k
  pub record IsLast (i k : ℕ) : Type 0 where
    pub before : i < k
    pub sent : is_sent h i ≡ true
    pub none_since : (j : ℕ) → i < j → j < k → is_sent h j ≡ false

  -- "pilots of the last sent row"
  pub data LastSent (k : ℕ) (sent : Bool) (pilots : ℕ) : Type 0 where
    never : ((i : ℕ) → i < k → is_sent h i ≡ false) → sent ≡ false → pilots ≡ 0 → LastSent k sent pilots
    last : (i : ℕ) → IsLast i k → sent ≡ true → pilots ≡ pilots_on h i → LastSent k sent pilots

  -- a slot of a kind that the page has: "the resume slot", "a recovery slot under RPP 1"
  abbrev pub Resumes : ℕ → Type 0
  Resumes k = IsResume (gaps_of h.slot) k

  abbrev pub ByRecovery : ℕ → Type 0
  ByRecovery k = (h.settings.rpp ≡ 1) × IsRecovery (gaps_of h.slot) k

  pub record SlotsSaid (k : ℕ) : Type 0 where
    -- "Row k is absolute slot k, counted from 0."
    pub row : (state_at h k).row ≡ k
    -- "a run is a longest stretch of neighbouring slots that are each a gap slot in some direction", and the recovery
    -- slots still to come
    pub run : Stands (gaps_of h.slot) k (state_at h k).run
    -- the four bytes before, and whether a slot of this set so far has spoilt it
    pub set : (state_at h k).set ≡ said_set (commands_on h) (downs h) (recoveries h) k
    pub opening : Opens k (state_at h k).opening
    pub last_sent : LastSent k (state_at h k).sent (state_at h k).pilots
    pub limited : (state_at h k).limited ≡ limited_before h k
    -- what row k's slot is, by the page's own kinds
    pub here : here_on h k ≡ here_of h.settings.rpp (h.slot k) (kind_at (gaps_of h.slot) k)
    pub recovery : recoveries h k ≡ true ↔ ByRecovery k
    -- and its command, at once and sentence by sentence
    pub command : command_on h k ≡ said_command (commands_on h) (downs h) (recoveries h) h.settings.pca
        h.settings.links k
    pub commanded : Commanded (commands_on h) (downs h) (recoveries h) h.settings.pca h.settings.links k
        (command_on h k)

  -- ---- the books

  -- "withheld is the largest amount by which start plus changes stood above its own row's ceiling over the sent rows so
  -- far (0 if never)"
  pub record Largest (k : ℕ) (z : ℤ) : Type 0 where
    pub least : pos 0 ≤ℤ z
    pub each : (i : ℕ) → i < k → is_sent h i ≡ true → above h i ≤ℤ z
    pub reached_by : (z ≡ pos 0) ⊎ ((i : ℕ) × (i < k) × (is_sent h i ≡ true) × (z ≡ above h i))

  -- "control power = start + all changes named so far − withheld"
  pub record Balances (k : ℕ) : Type 0 where
    pub control : (state_at h k).power ≡ reached h k -ℤ withheld h k
    pub held : (state_at h k).held ≡ withheld h k

  -- "A sent row is limited exactly when that amount is above zero and above every earlier sent row's."
  pub record Limits (k : ℕ) : Type 0 where
    pub some : pos 0 <ℤ above h k
    pub new : (i : ℕ) → i < k → is_sent h i ≡ true → above h i <ℤ above h k

  -- a sent row's answer
  pub record SentRow (k : ℕ) : Type 0 where
    pub command : (answer_at h k).command ≡ command_on h k
    pub control : (answer_at h k).dpcch ≡ reached h (suc k) -ℤ withheld h (suc k)
    pub held : (answer_at h k).held ≡ withheld h (suc k)
    -- "state (0 gap, 1 sent, 2 limited)"
    pub state : ((answer_at h k).state ≡ pos 1) ⊎ ((answer_at h k).state ≡ pos 2)
    pub limited : (answer_at h k).state ≡ pos 2 ↔ Limits k
    -- "Power is then the lesser of old power + change and the ceiling; the row is limited if the sum was above it."
    pub lesser_power : (answer_at h k).dpcch ≡ lesser ((state_at h k).power +ℤ change_on h k) (h.gain k).ceiling
    pub over : (answer_at h k).state ≡ pos 2 ↔ (h.gain k).ceiling <ℤ ((state_at h k).power +ℤ change_on h k)
    -- "Total power never passes the allowed maximum": the row's ceiling and its bracket together
    pub total : (answer_at h k).total ≤ℤ ((h.gain k).ceiling +ℤ (h.gain k).bracket)
    pub bracket : (answer_at h k).total ≡ (answer_at h k).dpcch +ℤ (h.gain k).bracket
    -- "data power stands by the same amount from control power in limited and unlimited rows"
    pub data_power : (h.gain k).carries_data ≡ true → (answer_at h k).dpdch ≡ (answer_at h k).dpcch +ℤ (h.gain k).offset
    -- "absent powers are 0"
    pub no_data : (h.gain k).carries_data ≡ false → (answer_at h k).dpdch ≡ pos 0

  -- every accepted row's answer, sent or not: "the uplink and downlink sets"
  pub record IdsTold (k : ℕ) : Type 0 where
    pub uplink : (answer_at h k).uplink ≡ pos (h.slot k).up
    pub downlink : (answer_at h k).downlink ≡ pos (h.slot k).down

  -- a gap row's answer: "In an uplink gap nothing is sent and power is held", "absent powers are 0"
  pub record GapRow (k : ℕ) : Type 0 where
    pub state : (answer_at h k).state ≡ pos 0
    pub command : (answer_at h k).command ≡ command_on h k
    pub no_control : (answer_at h k).dpcch ≡ pos 0
    pub no_data : (answer_at h k).dpdch ≡ pos 0
    pub no_total : (answer_at h k).total ≡ pos 0
    pub held : (answer_at h k).held ≡ withheld h (suc k)
    pub same_power : (state_at h (suc k)).power ≡ (state_at h k).power
    pub same_held : withheld h (suc k) ≡ withheld h k

  -- ---- the filter

  -- "at any count it lies within 2^−38 unit of the exact recursion", "The first eleven updates after 0 are exact": of
  -- the brackets of this history since it last returned to 0. And the two things that say which rows update it, without
  -- a state
  pub record FilterSaid (k : ℕ) : Type 0 where
    pub is : (state_at h k).filter ≡ after (brackets h k)
    pub follows : Follows (state_at h k).filter (brackets h k)
    -- "No row before the first sent row"
    pub before : sent_before h k ≡ true ↔ ((i : ℕ) × (i < k) × (is_sent h i ≡ true))
    -- "a run's first uplink gap slot": none came before it in the run
    pub uplink : opened h k ≡ true ↔ ((i : ℕ) × InRun i k × (opens_uplink (h.slot i) ≡ true))
    -- "After a resume slot's update it returns to 0."
    pub resume : is_resume h k ≡ true ↔ Resumes k

  -- ---- the change of a row, without a state

  -- "ITP 0: step × the command of the run's first uplink gap slot, 0 if there is none. ITP 1: the filter as it stands
  -- before this row's own update, to the nearest unit, halves away from zero."
  pub data ResumeChange (k : ℕ) (z : ℤ) : Type 0 where
    by_step_lem : h.settings.itp ≡ 0 → (i : ℕ) → IsFirst i k → z ≡ command_on h i *ℤ pos (step_units h.settings.step) →
        ResumeChange k z
    by_none : h.settings.itp ≡ 0 → ((i : ℕ) → InRun i k → opens_uplink (h.slot i) ≡ false) → z ≡ pos 0 →
        ResumeChange k z
    by_level : h.settings.itp ≡ 1 → IsNearest (scaled (after (brackets h k)).level) z → ResumeChange k z

  -- "Pilot change is L(pilots of the last sent row) − L(pilots now)", after row i
  abbrev pub pilots_from : (i k : ℕ) → ℤ
  pilots_from i k = pilot_change_of (pilots_on h i) (pilots_on h k)

  -- "A sent row takes the first that applies": what the change of row k is, by each of the five
  pub data Changed (k : ℕ) (z : ℤ) : Type 0 where
    -- "1. first sent row of the job: no change from the start power"
    rule1 : ((i : ℕ) → i < k → is_sent h i ≡ false) → z ≡ pos 0 → Changed k z
    -- "2. resume slot: resume change + pilot change"
    rule2 : (i : ℕ) → IsLast i k → Resumes k → (y : ℤ) → ResumeChange k y → z ≡ y +ℤ pilots_from i k → Changed k z
    -- "3. downlink gap: 0, pilot change included"
    rule3 : (i : ℕ) → IsLast i k → (Resumes k → ⊥) → opens_downlink (h.slot k) ≡ true → z ≡ pos 0 → Changed k z
    -- "4. recovery slot, RPP 1: command × recovery step + pilot change"
    rule4 : (i : ℕ) → IsLast i k → (Resumes k → ⊥) → opens_downlink (h.slot k) ≡ false → ByRecovery k →
        z ≡ command_on h k *ℤ pos (recovery_step_of h.settings.pca (step_units h.settings.step)) +ℤ pilots_from i k →
        Changed k z
    -- "5. command × step + pilot change"
    rule5 : (i : ℕ) → IsLast i k → (Resumes k → ⊥) → opens_downlink (h.slot k) ≡ false → (ByRecovery k → ⊥) →
        z ≡ command_on h k *ℤ pos (step_units h.settings.step) +ℤ pilots_from i k → Changed k z

  -- ---- a row whose gain is that of a triple

  -- "Total power never passes the allowed maximum; data power stands by the same amount from control power in limited
  -- and unlimited rows"
  pub record OfTriple (t : Triple) (k : ℕ) : Type 0 where
    pub total : (answer_at h k).total ≤ℤ (pos 64 *ℤ h.settings.maximum)
    pub limited : (answer_at h k).state ≡ pos 2 → (answer_at h k).total ≡ pos 64 *ℤ h.settings.maximum
    pub data_power : 1 ≤ t.betad → (answer_at h k).dpdch -ℤ (answer_at h k).dpcch ≡ data_offset t
    pub no_data : t.betad ≡ 0 → (answer_at h k).dpdch ≡ pos 0

-- ---- every theorem with its premises: of any history of accepted rows, of any state and any rows

pub record Theorems : Type 0 where
  -- every state handed out by a start, a step or a run is in its ranges, and never answered with 11
  pub start : (s : Settings) (gains : List ℕ) → SettingsIn s → TripleIn (triple_at gains 0) →
      HandedOut s gains (state_start s)
  pub step : (s : Settings) (gains records : List ℕ) (st : State) (row : Row) {next : State} {a : Answer} → IsF64 st →
      step_of s gains records st row ≡ Ok (next, a) → HandedOut s gains next
  pub run : (s : Settings) (gains records : List ℕ) (st : State) (rows : List ℕ) (out : List ℤ) → IsF64 st →
      OnRun (HandedOut s gains) (run_of s gains records st rows out).result
  -- the slots and the change of each row, without a state
  pub slots : (h : History) {n : ℕ} → Accepted h n → (k : ℕ) → k ≤ n → SlotsSaid h k
  pub changes : (h : History) {n : ℕ} → Accepted h n → h.settings.itp ≤ 1 → (k : ℕ) → k ≤ n →
      Changed h k (change_on h k)
  pub one_change : (h : History) {k : ℕ} {y z : ℤ} → Changed h k y → Changed h k z → y ≡ z
  -- the books, what is withheld, and each row's answer
  pub books : (h : History) {n : ℕ} → Accepted h n → (k : ℕ) → k ≤ n → Balances h k
  pub held : (h : History) (k : ℕ) → Largest h k (withheld h k)
  pub one_held : (h : History) (k : ℕ) {y z : ℤ} → Largest h k y → Largest h k z → y ≡ z
  pub sent : (h : History) {n : ℕ} → Accepted h n → (k : ℕ) → k < n → opens_uplink (h.slot k) ≡ false → SentRow h k
  pub gap : (h : History) {n : ℕ} → Accepted h n → (k : ℕ) → k < n → opens_uplink (h.slot k) ≡ true → GapRow h k
  pub ids : (h : History) {n : ℕ} → Accepted h n → (k : ℕ) → k < n → IdsTold h k
  pub of_triple : (h : History) {n : ℕ} → Accepted h n → (k : ℕ) → k < n → opens_uplink (h.slot k) ≡ false →
      (t : Triple) →
      h.gain k ≡ gain_of t h.settings.maximum → OfTriple h t k
  -- the filter
  pub filter : (h : History) {n : ℕ} → Accepted h n → (k : ℕ) → k ≤ n → FilterSaid h k
  -- refusals, exactly when stated
  pub row_refused : (s : Settings) (g : Gain) (slot : Slot) (st : State) (row : Row) → RowRefused s g slot st row
  pub step_refused : (s : Settings) (gains records : List ℕ) (st : State) (row : Row) → IsF64 st →
      StepRefused s gains records st row
  pub run_refused : (s : Settings) (gains records : List ℕ) (st : State) (rows : List ℕ) (out : List ℤ) → IsF64 st →
      RunRefused s gains records st rows out
  -- the state before each row of a history is in its ranges too
  pub history_handed : (s : Settings) (gains records : List ℕ) (row : ℕ → Row) → SettingsIn s →
      TripleIn (triple_at gains 0) → {n : ℕ} → n ≤ rows_most → Accepted (offered_to s gains records row) n →
      (k : ℕ) → k ≤ n → HandedOut s gains (state_at (offered_to s gains records row) k)
  -- and depends on the rows before it alone
  pub state_before : (s : Settings) (gains records : List ℕ) (rows others : ℕ → Row) (k : ℕ) →
      ((i : ℕ) → i < k → rows i ≡ others i) →
      state_at (offered_to s gains records rows) k ≡ state_at (offered_to s gains records others) k
  -- a run from the start, one that goes on, and step by step, is its history; one run after another is one run
  pub run_history : (s : Settings) (gains records rows : List ℕ) →
      IsHistory s gains records rows (go_over s (gain_for s gains) (slot_at records) (state_start s) rows)
  pub run_after : (s : Settings) (gains records before more : List ℕ) → is_cut before ≡ false →
      Accepted (history_of s gains records (before ++ more)) (whole_rows before) →
      GoesOn s gains records (before ++ more) (whole_rows before)
      (go_over s (gain_for s gains) (slot_at records)
      (state_at (history_of s gains records (before ++ more)) (whole_rows before)) more)
  pub step_history : (s : Settings) (gains records : List ℕ) (row : ℕ → Row) → SettingsIn s →
      TripleIn (triple_at gains 0) → {n : ℕ} → n < rows_most → Accepted (offered_to s gains records row) n →
      step_of s gains records (state_at (offered_to s gains records row) n) (row n) ≡
      stepped_at (offered_to s gains records row) n
  pub joined : (s : Settings) (gains records : List ℕ) (st : State) (rows more : List ℕ) (out : List ℤ) → IsF64 st →
      is_cut rows ≡ false → Joins s gains records st rows more out
  -- each answer exactly where its case says so
  pub row_said : (s : Settings) (g : Gain) (slot : Slot) (st : State) (row : Row) (x : Stepped) →
      row_of s g slot st row ≡ x ↔ RowSays s g slot st row x
  pub step_said : (s : Settings) (gains records : List ℕ) (st : State) (row : Row) → IsF64 st → (x : Stepped) →
      step_of s gains records st row ≡ x ↔ StepSays s gains records st row x
  pub run_said : (s : Settings) (gains records : List ℕ) (st : State) (rows : List ℕ) (out : List ℤ) → IsF64 st →
      (r : Ran) (after : List ℤ) →
      run_of s gains records st rows out ≡ ended r after ↔ RunSays s gains records st rows out r after
  -- one answer
  pub one_step : (s : Settings) (gains records : List ℕ) (st : State) (row : Row) {x y : Stepped} →
      StepTold s gains records st row x → StepTold s gains records st row y → x ≡ y
  pub one_run : (s : Settings) (gains records : List ℕ) (st : State) (rows : List ℕ) (out : List ℤ) {r t : Ran}
      {o p : List ℤ} → RunTold s gains records st rows out r o → RunTold s gains records st rows out t p →
      (r ≡ t) × (o ≡ p)

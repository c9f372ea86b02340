-- A history: rows offered one after the other from the start, each in its slot and under its gain. The books as demand
-- 3 has them and the brackets of the filter, from the list of its rows. A row's command and change are those of the
-- rules of a row; that these are the page's, without a state, is `SlotsSaid` and `Changed` in Theorems.antt.
-- RULES: power, filter
-- Definitions, to be believed.
use Rattle.std.specs.Prelude.{ℕ, zero, suc, ◌<◌, ◌≡◌, Bool, true, false, not, ◌&&◌, ◌||◌, List, [], ◌∷◌, ◌++◌, ℤ, pos, ◌+ℤ◌, ◌-ℤ◌, Ok, Err}
use Rattle.std.specs.Int.Signed.{lt_z}
use Rattle.ground.specs.Choice.{when◌then◌else◌}
use Rattle.ground.specs.Lists.{total, greatest}
use Rattle.gap_slots.specs.declared.Slot.{Slot}
use Rattle.gap_slots.specs.Slots.{opens_uplink, opens_downlink, gap_slot}
use Rattle.gap_runs.specs.Runs.{gaps_of, kind_at}
use Rattle.power.specs.declared.Gain.{Gain}
use Rattle.command.specs.Row.{recovery_of}
use Rattle.power.specs.Steps.{step_units}
use Rattle.resume_filter.specs.Update.{update_bracket}
use Rattle.job_settings.specs.declared.Settings.{Settings}
use Rattle.row_state.specs.declared.State.{State}
use Rattle.row_state.specs.States.{state_start}
use Rattle.row_change.specs.declared.Here.{Here}
use Rattle.row_change.specs.Change.{resumes, change_of}
use Rattle.row_values.specs.declared.Row.{Row}
use Rattle.row_values.specs.declared.Answer.{Answer}
use Rattle.row_values.specs.Answers.{no_answer}
use Rattle.row_rules.specs.Stepping.{Stepped}
use Rattle.row_rules.specs.Rules.{row_of, here_at, command_at}

-- the rows of a job and what surrounds them: row k is in slot k, and has its own gain, which may vary
pub record History : Type 0 where
  pub settings : Settings
  pub gain : ℕ → Gain
  pub slot : ℕ → Slot
  pub row : ℕ → Row

-- whether a row is taken, and what it hands out: the state before it, and an answer of zeros, where it is refused
unfoldable pub accepted : Stepped → Bool
accepted (Ok (next, a)) = true
accepted (Err r) = false

unfoldable pub state_after : State → Stepped → State
state_after st (Ok (next, a)) = next
state_after st (Err r) = st

unfoldable pub answer_of : Stepped → Answer
answer_of (Ok (next, a)) = a
answer_of (Err r) = no_answer

module _ (h : History) where
  -- the bytes of row k
  abbrev pub commands_on : ℕ → ℕ
  commands_on k = (h.row k).commands

  abbrev pub pilots_on : ℕ → ℕ
  pilots_on k = (h.row k).pilots

  -- what row k gives in a state
  abbrev pub row_from : State → ℕ → Stepped
  row_from st k = row_of h.settings (h.gain k) (h.slot k) st (h.row k)

  -- the state before row k
  unfoldable pub state_at : ℕ → State
  state_at zero = state_start h.settings
  state_at (suc k) = state_after (state_at k) (row_from (state_at k) k)

  -- what row k gives, and its answer
  abbrev pub stepped_at : ℕ → Stepped
  stepped_at k = row_from (state_at k) k

  abbrev pub answer_at : ℕ → Answer
  answer_at k = answer_of (stepped_at k)

  -- rows 0 to n − 1 are all taken
  abbrev pub Accepted : ℕ → Type 0
  Accepted n = (k : ℕ) → k < n → accepted (stepped_at k) ≡ true

  -- ---- what row k is

  -- "In an uplink gap nothing is sent"
  abbrev pub is_sent : ℕ → Bool
  is_sent k = not (opens_uplink (h.slot k))

  abbrev pub here_on : ℕ → Here
  here_on k = here_at h.settings (h.slot k) (state_at k)

  abbrev pub command_on : ℕ → ℤ
  command_on k = command_at h.settings (h.slot k) (state_at k) (h.row k)

  -- its change, by the page's five rules
  abbrev pub change_on : ℕ → ℤ
  change_on k = change_of h.settings (state_at k) (here_on k) (command_on k) (pilots_on k)

  -- ---- demand 3, from the rows' changes and ceilings alone

  -- "all changes named so far": those of the sent rows before row k
  unfoldable pub changes : ℕ → List ℤ
  changes zero = []
  changes (suc k) = when is_sent k then changes k ++ change_on k ∷ [] else changes k

  -- "start plus changes"
  abbrev pub reached : ℕ → ℤ
  reached k = h.settings.start +ℤ total (changes k)

  -- the amount by which "start plus changes stood above its own row's ceiling", in row k
  abbrev pub above : ℕ → ℤ
  above k = reached (suc k) -ℤ (h.gain k).ceiling

  -- "over the sent rows so far"
  unfoldable pub amounts : ℕ → List ℤ
  amounts zero = []
  amounts (suc k) = when is_sent k then amounts k ++ above k ∷ [] else amounts k

  -- "withheld is the largest amount …, 0 if never"
  -- DECISIONS: power-cut-off, power-nothing-withheld
  unfoldable pub withheld : ℕ → ℤ
  withheld k = greatest (pos 0) (amounts k)

  -- ---- the brackets of the filter, from the rows' commands and limiting

  -- a slot's direction and kind, as the page has them
  abbrev pub downs : ℕ → Bool
  downs k = opens_downlink (h.slot k)

  abbrev pub recoveries : ℕ → Bool
  recoveries k = recovery_of h.settings.rpp (kind_at (gaps_of h.slot) k)

  abbrev pub is_resume : ℕ → Bool
  is_resume k = resumes (kind_at (gaps_of h.slot) k)

  -- whether a row before row k was sent
  unfoldable pub sent_before : ℕ → Bool
  sent_before zero = false
  sent_before (suc k) = sent_before k || is_sent k

  -- whether the run that ends with slot k − 1 has an uplink gap slot
  unfoldable pub opened : ℕ → Bool
  opened zero = false
  opened (suc k) = gap_slot (h.slot k) && (opened k || opens_uplink (h.slot k))

  -- whether row k is limited, as its answer says, and whether the row before it was
  abbrev pub is_limited : ℕ → Bool
  is_limited k = lt_z (pos 1) (answer_at k).state

  unfoldable pub limited_before : ℕ → Bool
  limited_before zero = false
  limited_before (suc k) = is_limited k

  -- "No row before the first sent row updates it. From that row on, each sent row that is no downlink gap slot, and a
  -- run's first uplink gap slot if that is no downlink gap slot"
  abbrev pub updates_it : ℕ → Bool
  updates_it k = not (downs k) && (is_sent k || (sent_before k && not (opened k)))

  -- "(command × step × 31/32 × k)"
  abbrev pub bracket_on : ℕ → ℤ
  bracket_on k = update_bracket (command_on k) (step_units h.settings.step) (limited_before k) (is_limited k)

  -- the brackets before row k since the filter last returned to 0, the newest first
  unfoldable pub brackets : ℕ → List ℤ
  brackets zero = []
  brackets (suc k) = when updates_it k then (when is_resume k then [] else bracket_on k ∷ brackets k) else brackets k

-- One row, rule by rule: the parts first (its bytes, its books, its answer, the next state), then the row that is made
-- of them in the order of the page: bytes, command, change, refusal 9, power and limiting, withheld, filter, and what
-- the next row needs.
-- RULES: rows, refusals, command, change, power, listing
-- Definitions, to be believed.
use Rattle.std.specs.Prelude.{ℕ, ◌+◌, Bool, true, false, not, ◌&&◌, ◌||◌, List, ltb, leb, ℤ, pos, ◌+ℤ◌, ◌-ℤ◌, Ok, Err}
use Rattle.std.specs.Int.Signed.{lt_z}
use Rattle.constants.specs.Sizes.{rows_most, power_least, pilots_least, pilots_most}
use Rattle.constants.specs.Refusals.{refusal, no_refusal, too_many_rows, wrong_row, power_too_low, wrong_state}
use Rattle.ground.specs.declared.Refusal.{Refusal}
use Rattle.ground.specs.Choice.{when◌then◌else◌}
use Rattle.ground.specs.Integers.{lesser}
use Rattle.ground.specs.Outside.{outside}
use Rattle.gap_slots.specs.declared.Slot.{Slot}
use Rattle.gap_slots.specs.Slots.{opens_uplink, opens_downlink, slot_at}
use Rattle.gap_runs.specs.declared.Run.{Run}
use Rattle.gap_runs.specs.Runs.{walked_of}
use Rattle.command_algorithms.specs.Sets.{within_links, set_after}
use Rattle.power.specs.declared.Gain.{Gain}
use Rattle.command.specs.Row.{command_of}
use Rattle.job_settings.specs.declared.Settings.{Settings}
use Rattle.row_state.specs.declared.State.{State}
use Rattle.job_settings.specs.Settings.{settings_sound}
use Rattle.job_settings.specs.Gains.{gains_sound, gain_at}
use Rattle.row_state.specs.States.{state_sound}
use Rattle.row_change.specs.declared.Here.{Here}
use Rattle.row_change.specs.Change.{here_of, change_of}
use Rattle.row_change.specs.After.{filter_after, opening_after}
use Rattle.row_values.specs.declared.Row.{Row}
use Rattle.row_values.specs.declared.Answer.{Answer}
use Rattle.row_rules.specs.declared.Books.{Books}
use Rattle.row_rules.specs.Stepping.{Stepped}

-- the page's number and place of each case: a refusal, and none where the row is taken
abbrev pub refusal_of : Stepped → Refusal
refusal_of (Ok (next, a)) = no_refusal
refusal_of (Err r) = r

unfoldable pub number_of : Stepped → ℕ
number_of x = (refusal_of x).number

-- ---- the bytes of a row

-- "byte 0 has one bit per link set, … bits from N up zero, and is 0 in a downlink gap"
unfoldable pub commands_wrong : (links : ℕ) (down : Bool) (commands : ℕ) → Bool
commands_wrong links down commands = not (within_links commands links) || (down && ltb 0 commands)

-- "Byte 1 is the pilot bits of the slot, 3 to 8, and 0 in an uplink gap."
unfoldable pub pilots_wrong : (up : Bool) (pilots : ℕ) → Bool
pilots_wrong up pilots = when up then ltb 0 pilots else outside pilots_least pilots_most pilots

-- "8 a row byte breaks its rule"
-- DECISIONS: rows-gap-bytes
unfoldable pub row_wrong : (links : ℕ) (slot : Slot) → Row → Bool
row_wrong links slot row =
    commands_wrong links (opens_downlink slot) row.commands || pilots_wrong (opens_uplink slot) row.pilots

-- ---- the books

-- "In an uplink gap nothing is sent and power is held."
-- DECISIONS: filter-row-before
unfoldable pub resting : State → Books
resting st = record { sent = st.sent; power = st.power; held = st.held; pilots = st.pilots; limited = false }

-- "Power is then the lesser of old power + change and the ceiling; the row is limited if the sum was above it." What is
-- cut off joins what is withheld
-- DECISIONS: power-cut-off, change-no-pilots-in-gap
unfoldable pub settled_of : (held sum ceiling : ℤ) (pilots : ℕ) → Books
settled_of held sum ceiling pilots =
    record {
      sent = true;
      power = lesser sum ceiling;
      held = held +ℤ (sum -ℤ lesser sum ceiling);
      pilots = pilots;
      limited = lt_z ceiling sum;
    }

-- ---- the answer

-- "state (0 gap, 1 sent, 2 limited)"
abbrev pub gap_state : ℤ
gap_state = pos 0

abbrev pub sent_state : (limited : Bool) → ℤ
sent_state limited = when limited then pos 2 else pos 1

-- "DPDCH = DPCCH + L(n·βd²) − L(βc²), none when βd is 0"; "absent powers are 0"
-- DECISIONS: power-no-data
unfoldable pub data_power : Gain → (power : ℤ) → ℤ
data_power g power = when g.carries_data then power +ℤ g.offset else pos 0

-- "state …, command, DPCCH, DPDCH, total, held (withheld so far)"; "Total = DPCCH + that same bracket"; "the new two
-- being the uplink and downlink sets"
unfoldable pub sent_answer : Gain → Slot → (command : ℤ) → Books → Answer
sent_answer g slot command b =
    record {
      state = sent_state b.limited;
      command = command;
      dpcch = b.power;
      dpdch = data_power g b.power;
      total = b.power +ℤ g.bracket;
      held = b.held;
      uplink = pos slot.up;
      downlink = pos slot.down;
    }

-- DECISIONS: command-in-uplink-gap
unfoldable pub gap_answer : Slot → (command held : ℤ) → Answer
gap_answer slot command held = record {
  state = gap_state;
  command = command;
  dpcch = pos 0;
  dpdch = pos 0;
  total = pos 0;
  held = held;
  uplink = pos slot.up;
  downlink = pos slot.down;
}

-- ---- the next state

-- the filter comes after the row's power is settled: it asks whether this row was limited
unfoldable pub next_state : Settings → State → Here → (run : Run) (command : ℤ) → Row → Books → State
next_state s st here run command row b =
    record {
      row = st.row + 1;
      sent = b.sent;
      power = b.power;
      held = b.held;
      pilots = b.pilots;
      limited = b.limited;
      run = run;
      opening = opening_after st.opening here command;
      set = set_after st.set st.row here.down here.recovery row.commands;
      filter = filter_after s st here command b.limited;
    }

-- ---- the row

-- "9 control power before limiting would be below -9,600"
unfoldable pub sent_at : Settings → Gain → Slot → State → Here → (run : Run) (command : ℤ) → Row → (sum : ℤ) → Stepped
sent_at s g slot st here run command row sum =
    when lt_z sum power_least then Err (refusal power_too_low st.row) else
    (let b = settled_of st.held sum g.ceiling row.pilots in
    Ok ((next_state s st here run command row b), (sent_answer g slot command b)))

-- "old power + change"
-- DECISIONS: power-old
unfoldable pub sent_row : Settings → Gain → Slot → State → Here → (run : Run) (command : ℤ) → Row → Stepped
sent_row s g slot st here run command row =
    sent_at s g slot st here run command row (st.power +ℤ change_of s st here command row.pilots)

-- a row with its command: in an uplink gap nothing is sent
unfoldable pub row_with : Settings → Gain → Slot → State → Here → (run : Run) → Row → (command : ℤ) → Stepped
row_with s g slot st here run row command =
    when here.up then
    Ok ((next_state s st here run command row (resting st)), (gap_answer slot command st.held)) else
    sent_row s g slot st here run command row

-- "The command of a row"
unfoldable pub row_in : Settings → Gain → Slot → State → Here → (run : Run) → Row → Stepped
row_in s g slot st here run row =
    row_with s g slot st here run row (command_of s.pca s.links here.down here.recovery st.row st.set
    row.commands)

-- a row in its slot and under its gain, which may differ from row to row
-- DECISIONS: refusals-row-by-row
unfoldable pub row_of : Settings → Gain → Slot → State → Row → Stepped
row_of s g slot st row =
    when row_wrong s.links slot row then Err (refusal wrong_row st.row) else
    row_in s g slot st (here_of s.rpp slot (walked_of st.run slot).kind) (walked_of st.run slot).run row

-- ---- the parts of a row by name

-- what its slot is, its command, and its power before limiting
abbrev pub here_at : Settings → Slot → State → Here
here_at s slot st = here_of s.rpp slot (walked_of st.run slot).kind

abbrev pub command_at : Settings → Slot → State → Row → ℤ
command_at s slot st row = command_of s.pca s.links (here_at s slot st).down (here_at s slot st).recovery st.row
    st.set row.commands

abbrev pub sum_at : Settings → Slot → State → Row → ℤ
sum_at s slot st row = st.power +ℤ change_of s st (here_at s slot st) (command_at s slot st row) row.pilots

-- its books where it is sent, and the state after it, in a gap and where it is sent
abbrev pub sent_books : Settings → Gain → Slot → State → Row → Books
sent_books s g slot st row = settled_of st.held (sum_at s slot st row) g.ceiling row.pilots

abbrev pub next_at : Settings → Slot → State → Row → Books → State
next_at s slot st row b =
    next_state s st (here_at s slot st) (walked_of st.run slot).run (command_at s slot st row) row b

abbrev pub gap_next : Settings → Slot → State → Row → State
gap_next s slot st row = next_at s slot st row (resting st)

abbrev pub sent_next : Settings → Gain → Slot → State → Row → State
sent_next s g slot st row = next_at s slot st row (sent_books s g slot st row)

-- a claim on what a row hands out, where it is taken
unfoldable pub OnTaken : (State → Answer → Type 0) → Stepped → Type 0
OnTaken P (Ok (next, a)) = P next a
OnTaken P (Err r) = Unit {0}

-- ---- one row, for any settings and any state

-- a job has one triple, and every row has its gain
abbrev pub gain_for : Settings → (gains : List ℕ) → Gain
gain_for s gains = gain_at gains s.maximum 0

-- "11 a state handed in has a field outside its range"; settings and a triple outside theirs are refused alike
-- DECISIONS: refusals-settings-handed
unfoldable pub admits : Settings → (gains : List ℕ) → State → Bool
admits s gains st = settings_sound s && gains_sound gains && state_sound s.links (gain_for s gains).ceiling st

-- "7 … a row after the 30,000th", then 11, then the row
-- DECISIONS: refusals-seven-first
unfoldable pub step_of : Settings → (gains records : List ℕ) → State → Row → Stepped
step_of s gains records st row =
    when leb rows_most st.row then Err (refusal too_many_rows rows_most) else
    when admits s gains st then row_of s (gain_for s gains) (slot_at records st.row) st row else
    Err (refusal wrong_state 0)

-- The page's four rows, computed from its job.
-- Assumes nothing.
use Rattle.std.specs.Prelude.{ℕ, ◌≡◌, refl, Bool, true, false, List, [], ◌∷◌, ◌++◌, ℤ, pos, negsuc, Ok}
use Rattle.std.proofs.Common.{◌∙◌, ap, lit<}
use Rattle.std.proofs.Math.Path.{fun_ext}
use Rattle.ground.proofs.Laws.Integers.Signs.{lesser_first, lesser_second}
use Rattle.ground.specs.Sums.{is_in}
use Rattle.levels.specs.Level.{ranged, is_level}
use Rattle.levels.proofs.Laws.Level.{level_at}
use Rattle.power.specs.declared.Gain.{Gain}
use Rattle.power.specs.Steps.{step_units, pilot_change_of, step_change_of}
use Rattle.power.specs.Gain.{gain_bracket, ceiling_of, data_offset, gain_of}
use Rattle.gap_slots.specs.declared.Slot.{Slot}
use Rattle.gap_slots.specs.Slots.{no_gap, opens_uplink, opens_downlink, slot_at}
use Rattle.gap_slots.proofs.Laws.Slots.{no_records}
use Rattle.gap_runs.specs.Runs.{no_run, stepped, walked_of}
use Rattle.command_algorithms.specs.Algorithms.{all_ones, algorithm1}
use Rattle.command_algorithms.specs.Sets.{fresh_of}
use Rattle.command.specs.Row.{recovery_of, command_of}
use Rattle.job_settings.specs.declared.Settings.{Settings}
use Rattle.job_settings.specs.Gains.{triple_at}
use Rattle.row_values.specs.declared.Row.{Row}
use Rattle.row_values.specs.declared.Answer.{Answer}
use Rattle.row_values.specs.Rows.{rows_from}
use Rattle.row_state.specs.declared.State.{State}
use Rattle.row_state.specs.States.{state_start}
use Rattle.row_change.specs.Change.{resumes, here_of, by_step, change_of}
use Rattle.row_rules.specs.Stepping.{Stepped}
use Rattle.row_rules.specs.declared.Ran.{Ran}
use Rattle.row_rules.specs.Rules.{commands_wrong, pilots_wrong, row_wrong, settled_of, data_power, sent_answer, next_state}
use Rattle.row_rules.specs.Rules.{next_at}
use Rattle.row_rules.specs.Rules.{sent_at, sent_row, row_with, row_in, row_of, gain_for}
use Rattle.row_rules.specs.Runs.{Rows, closing, go, go_over}
use Rattle.listing_rules.specs.Text.{bytes, header, digits, decimal, signed_text, field, line_start, powers, line, lines}
use Rattle.listing_rules.specs.Text.{in_either, passing, ids_of, ids_text, by_field, ending}
use Rattle.job.proofs.Laws.Load.Examples.{settings, cases}
use Rattle.listing.specs.Listing.{closing_line, shown, listing_of}
use Rattle.listing_theorems.specs.Marked.{page_job, page_gains, page_listing}

abbrev pub s : Settings
s = settings (pos 1280)

abbrev pub gain : Gain
gain = record { bracket = pos 193; ceiling = pos 1343; carries_data = true; offset = pos 0 }

pub gain_is : gain_for s page_gains ≡ gain
unfolding ranged is_level triple_at gain_bracket ceiling_of data_offset gain_of
gain_is = rw (level_at 450 1698 refl refl, level_at 225 1505 refl refl)

-- ---- row by row

-- a row with six pilot bits, and the state after it where it is sent without gaps, by its books
abbrev row : (commands : ℕ) → Row
row commands = record { commands = commands; pilots = 6 }

abbrev after : State → (commands : ℕ) (power held : ℤ) (limited : Bool) → State
after st commands power held limited =
    next_at s no_gap st (row commands) (record { sent = true; power = power; held = held; pilots = 6; limited = limited })

one : State
one = after (state_start s) 1 (pos 1280) (pos 0) false

two : State
two = after one 1 (pos 1343) (pos 1) true

three : State
three = after two 1 (pos 1343) (pos 65) true

pub four : State
four = after three 0 (pos 1279) (pos 65) false

-- data power is control power here, and no gap has ids
abbrev sent : (state command power total held : ℤ) → Answer
sent state command power total held = record {
  state = state;
  command = command;
  dpcch = power;
  dpdch = power;
  total = total;
  held = held;
  uplink = pos 0;
  downlink = pos 0;
}

-- "0 1 1 1280 1280 1473 0", and so on
record RowByRow : Type 0 where
  row0 : row_of s gain no_gap (state_start s) (row 1) ≡
      Ok (one, (sent (pos 1) (pos 1) (pos 1280) (pos 1473) (pos 0)))
  row1 : row_of s gain no_gap one (row 1) ≡ Ok (two, (sent (pos 2) (pos 1) (pos 1343) (pos 1536) (pos 1)))
  row2 : row_of s gain no_gap two (row 1) ≡ Ok (three, (sent (pos 2) (pos 1) (pos 1343) (pos 1536) (pos 65)))
  row3 : row_of s gain no_gap three (row 0) ≡ Ok (four, (sent (pos 1) (negsuc 0) (pos 1279) (pos 1472) (pos 65)))

row_by_row : RowByRow
unfolding one two three four next_state ranged is_level opens_uplink opens_downlink fresh_of no_run stepped walked_of all_ones
    algorithm1 recovery_of command_of step_units pilot_change_of step_change_of state_start resumes here_of by_step change_of
    commands_wrong pilots_wrong row_wrong settled_of data_power sent_answer sent_at sent_row row_with row_in row_of
row_by_row =
    record {
      row0 = rw (lesser_first (pos 1280) (pos 1343) refl);
      row1 = rw (level_at 6 498 refl refl, lesser_second (pos 1344) (pos 1343) refl);
      row2 = rw (level_at 6 498 refl refl, lesser_second (pos 1407) (pos 1343) refl);
      row3 = rw (level_at 6 498 refl refl, lesser_first (pos 1279) (pos 1343) refl);
    }

-- ---- one after the other: their answers, and their text

abbrev pub page_rows : List ℕ
page_rows = 1 ∷ 6 ∷ 1 ∷ 6 ∷ 1 ∷ 6 ∷ 0 ∷ 6 ∷ []

abbrev pub page_answers : List Answer
page_answers =
    sent (pos 1) (pos 1) (pos 1280) (pos 1473) (pos 0) ∷
    sent (pos 2) (pos 1) (pos 1343) (pos 1536) (pos 1) ∷
    sent (pos 2) (pos 1) (pos 1343) (pos 1536) (pos 65) ∷
    sent (pos 1) (negsuc 0) (pos 1279) (pos 1472) (pos 65) ∷ []

rows_run : go_over s gain (λ k. no_gap) (state_start s) page_rows ≡ record { result = Ran.Done four; answers = page_answers }
unfolding rows_from go closing state_start one two three next_state
rows_run = rw (row_by_row.row0, row_by_row.row1, row_by_row.row2, row_by_row.row3)

rows_text : shown true 0 (record { result = Ran.Done four; answers = page_answers }) ≡
    bytes "0 1 1 1280 1280 1473 0 -\n" ++ bytes "1 2 1 1343 1343 1536 1 -\n" ++
    bytes "2 2 1 1343 1343 1536 65 -\n" ++ bytes "3 1 -1 1279 1279 1472 65 -\n" ++ bytes "rows 4 held 65\n"
unfolding state_start one two three four next_state digits decimal signed_text is_in in_either passing ids_of ids_text by_field
    field line_start powers line lines ending closing_line
rows_text = refl

-- no records, no gaps
none : slot_at [] ≡ (λ k. no_gap)
none = fun_ext (λ k. no_records [] k (lit< tt))

-- all its rows, with its own gain and slots
pub page_run : go_over s (gain_for s page_gains) (slot_at []) (state_start s) page_rows ≡
    record { result = Ran.Done four; answers = page_answers }
page_run =
    ap (λ (g : Gain). go_over s g (slot_at []) (state_start s) page_rows) gain_is
    ∙ ap (λ (slots : ℕ → Slot). go_over s gain slots (state_start s) page_rows) none
    ∙ rows_run

-- the whole listing, from the 49 bytes of the job
pub page : listing_of page_job ≡ page_listing
unfolding listing_of header
page =
    rw cases.page
    (ap (λ (r : Rows). header ++ shown (gain_for s page_gains).carries_data 0 r) page_run
    ∙ ap (λ (g : Gain). header ++ shown g.carries_data 0 (record { result = Ran.Done four; answers = page_answers }))
    gain_is
    ∙ ap (λ (l : List ℕ). header ++ l) rows_text)

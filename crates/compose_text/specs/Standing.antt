-- Where the reading of a job's text stands, as the code holds it: the numbers that it keeps, and the bytes of gap
-- records and rows in a buffer, one after another. Bytes that find no room are counted all the same.
-- Definitions beside the rules, which need not be believed.
use Rattle.std.specs.Prelude.{ℕ, ◌+◌, ◌-◌, ◌*◌, ◌≤◌, ◌≡◌, Bool, not, List, [], ◌++◌, length, take, Ok, Err, Some, None, Result, Option}
use Rattle.ground.specs.Choice.{when◌then◌else◌}
use Rattle.constants.specs.Sizes.{file_most, contents_bytes, settings_bytes, text_most}
use Rattle.words.specs.Text.{words_of}
use Rattle.compose_lines.specs.Lines.{item_of}
use Rattle.compose_text.specs.declared.Stage.{Stage}
use Rattle.compose_text.specs.declared.Standing.{Standing}
use Rattle.compose_text.specs.Composing.{Progress, Advance, Read, to, none, all, unreadable, advanced}

-- bytes appended to those that end at a place: the place after them, and the bytes, where they have room
pub record Appended (next : ℕ) (exit entry : List ℕ) (at : ℕ) (added : List ℕ) : Type 0 where
  pub place : next ≡ at + length added
  pub long : length exit ≡ length entry
  pub bytes : next ≤ length entry → take next exit ≡ take at entry ++ added

-- the number that the rules have for a stage
abbrev pub stage_number : Stage → ℕ
stage_number (Stage.Nothing) = 0
stage_number (Stage.Settings) = 1
stage_number (Stage.Gain) = 2
stage_number (Stage.Rows) = 3

-- what the numbers and the buffer stand for
pub record Stands (st : Standing) (bodies : List ℕ) (p : Progress) : Type 0 where
  pub stage_is : stage_number st.stage ≡ p.stage
  pub settings_is : st.settings ≡ p.settings
  pub gain_is : st.gain ≡ p.gain
  pub records_is : st.records ≡ length p.records
  pub used_is : st.used ≡ length p.records + length p.rows
  pub stored : st.used ≤ length bodies → take st.used bodies ≡ p.records ++ p.rows
  -- before the first row
  pub no_rows : p.stage ≤ 2 → p.rows ≡ []

-- a step stands for an advance
unfoldable pub Steps : Advance → Option Standing → (bodies : List ℕ) → Type 0
Steps (to p) (Some st) bodies = Stands st bodies p
Steps (to p) (None) bodies = ⊥
Steps (none) (Some st) bodies = ⊥
Steps (none) (None) bodies = Unit {0}

-- what one line adds at most: two bytes for each of 4,294,967,295 rows
abbrev pub line_adds : ℕ
line_adds = 8589934590

abbrev pub Grows : (used : ℕ) → Option Standing → Type 0
Grows used (Some st) = st.used ≤ used + line_adds
Grows used (None) = Unit {0}

-- what all lines of a text add at most: there are no more of them than bytes
abbrev pub used_most : ℕ
used_most = line_adds * text_most

-- what is promised of a line taken: its step stands for its advance, whatever the lines before it stand for
pub record Takes
    (st : Standing) (advance : Progress → Advance) (entry : List ℕ) (answer : Option Standing) (exit : List ℕ) : Type 0 where
  pub stands : (p : Progress) → Stands st entry p → Steps (advance p) answer exit
  pub grows : Grows st.used answer

-- a line by its bytes before a comment, and whether it is clear
abbrev pub advanced_by : (clear : Bool) (line : List ℕ) → Progress → Advance
advanced_by clear line p = when not clear then none else advanced p (item_of (words_of line))

-- what all lines come to stands for what a text gives
unfoldable pub Comes : Read → Result Standing ℕ → (bodies : List ℕ) → Type 0
Comes (all p) (Ok st) bodies = Stands st bodies p
Comes (all p) (Err n) bodies = ⊥
Comes (unreadable m) (Ok st) bodies = ⊥
Comes (unreadable m) (Err n) bodies = m ≡ n

-- the bytes of gap records and rows that a file has at most
abbrev pub bodies_most : ℕ
bodies_most = file_most - contents_bytes - settings_bytes

-- the buffer has room for them, and gap records come before rows
pub record Finishing (st : Standing) (bodies : List ℕ) : Type 0 where
  pub room : bodies_most ≤ length bodies
  pub within : st.records ≤ st.used

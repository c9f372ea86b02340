-- A job's text: the parts that its lines make, and the file that is written of them.
-- RULES: compose
-- Definitions, to be believed.
use Rattle.std.specs.Prelude.{ℕ, zero, suc, ◌+◌, not, List, [], ◌∷◌, ◌++◌, ltb, eqb, pos, length, Ok, Err, Result}
use Rattle.ground.specs.Choice.{when◌then◌else◌}
use Rattle.ground.specs.declared.Refusal.{Refusal}
use Rattle.constants.specs.Sizes.{text_most}
use Rattle.power.specs.declared.Triple.{Triple}
use Rattle.power.specs.Gain.{triple}
use Rattle.job_settings.specs.declared.Settings.{Settings}
use Rattle.job_file.specs.Numbers.{settings_bytes_of, record_bytes_of}
use Rattle.job_writer.specs.Writing.{End as Writing, made_of}
use Rattle.words.specs.Text.{lines_of, clear, uncommented, words_of}
use Rattle.compose_lines.specs.declared.Item.{Item}
use Rattle.compose_lines.specs.Lines.{item_of}
use Rattle.compose_text.specs.declared.ComposeError.{ComposeError}

-- what composing answers: how many bytes the file has, or why there is none
abbrev pub Composed : Type 0
Composed = Result ℕ ComposeError

-- ---- what the lines so far have given

-- how far they have come: 0 nothing, 1 the settings, 2 the triple, 3 rows
pub record Progress : Type 0 where
  pub stage : ℕ
  pub settings : Settings
  pub gain : Triple
  pub records : List ℕ
  pub rows : List ℕ

-- before the first line
abbrev pub begun : Progress
begun = record {
  stage = 0;
  settings = record { pca = 0; step = 0; itp = 0; rpp = 0; links = 0; maximum = pos 0; start = pos 0 };
  gain = triple 0 0 0;
  records = [];
  rows = [];
}

-- the bytes of so many rows of one kind
unfoldable pub rows_bytes : (count commands pilots : ℕ) → List ℕ
rows_bytes zero commands pilots = []
rows_bytes (suc count) commands pilots = commands ∷ pilots ∷ rows_bytes count commands pilots

-- a line after those before it, or none: it is unreadable
pub data Advance : Type 0 where
  to : Progress → Advance
  none : Advance

-- "One `settings`, one `gain`, then any `gap` lines, then any `row` and `rows` lines. Anything else is unreadable"
-- DECISIONS: compose-order
unfoldable pub advanced : Progress → Item → Advance
advanced p (Item.Blank) = to p
advanced p (Item.Settings s) =
    when eqb p.stage 0
    then to (record { stage = 1; settings = s; gain = p.gain; records = p.records; rows = p.rows }) else none
advanced p (Item.Gain t) =
    when eqb p.stage 1
    then to (record { stage = 2; settings = p.settings; gain = t; records = p.records; rows = p.rows }) else none
advanced p (Item.Gap q) =
    when eqb p.stage 2
    then to (record {
      stage = 2;
      settings = p.settings;
      gain = p.gain;
      records = p.records ++ record_bytes_of q;
      rows = p.rows;
    }) else none
advanced p (Item.Rows count commands pilots) =
    when ltb 1 p.stage
    then to (record {
      stage = 3;
      settings = p.settings;
      gain = p.gain;
      records = p.records;
      rows = p.rows ++ rows_bytes count commands pilots;
    }) else none
advanced p (Item.Unreadable) = none

-- ---- a whole text

-- what a text gives: all its lines, or the number of the first that is unreadable
pub data Read : Type 0 where
  all : Progress → Read
  unreadable : (line : ℕ) → Read

-- "Where `settings` or `gain` is missing at the end, N is one more than the lines there are"
-- DECISIONS: compose-opening
unfoldable pub closed : Progress → (line : ℕ) → Read
closed p line = when ltb 1 p.stage then all p else unreadable line

abbrev pub gone : Advance → (line : ℕ) → (Progress → Read) → Read
gone (to p) line next = next p
gone (none) line next = unreadable line

-- line after line, the first of them with the number `line`
unfoldable pub read_from : Progress → (line : ℕ) → List (List ℕ) → Read
read_from p line [] = closed p line
read_from p line (l ∷ rest) =
    when not (clear l) then unreadable line else
    gone (advanced p (item_of (words_of (uncommented l)))) line (λ next. read_from next (line + 1) rest)

-- "N counts all lines from 1"
unfoldable pub read_of : List ℕ → Read
read_of text = read_from begun 1 (lines_of text)

-- ---- the answer

-- how composing ends, and the lent bytes afterwards
pub record End : Type 0 where
  pub result : Composed
  pub out : List ℕ

abbrev pub ended : Composed → List ℕ → End
ended result out = record { result = result; out = out }

abbrev pub by_writing : Result ℕ Refusal → Composed
by_writing (Ok size) = Ok size
by_writing (Err r) = Err (ComposeError.Refused r)

abbrev pub by_writer : Writing → End
by_writer w = ended (by_writing w.result) w.out

-- the settings with their triple, the gap records and the rows, handed to the writer
-- DECISIONS: compose-unreadable-first
abbrev pub composed_by : Read → (out : List ℕ) → End
composed_by (unreadable line) out = ended (Err (ComposeError.Unreadable line)) out
composed_by (all p) out = by_writer (made_of 1 (settings_bytes_of p.settings p.gain) p.records p.rows out)

-- "At most 1,048,576 bytes are read. A longer text is `input too long`"
-- DECISIONS: text-most
unfoldable pub composed_of : (text out : List ℕ) → End
composed_of text out =
    when ltb text_most (length text) then ended (Err ComposeError.TooLong) out else composed_by (read_of text) out

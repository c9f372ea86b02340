-- What the definitions of composing imply: one answer, by the text and the size of the lent bytes alone; nothing but
-- the file is written; and, without going from line to line, which line is named, which texts give a job, and what they
-- give. Statements alone. Their proofs stand in Theorems/.
-- RULES: compose
-- Definitions, to be believed.
use Rattle.std.specs.Prelude.{ℕ, ◌+◌, ◌≤◌, ◌<◌, ◌≡◌, true, ◌↔◌, List, [], ◌∷◌, ◌++◌, length, take, drop, Ok, Err}
use Rattle.constants.specs.Sizes.{text_most}
use Rattle.power.specs.declared.Triple.{Triple}
use Rattle.gap_records.specs.declared.Sequence.{Sequence}
use Rattle.job_settings.specs.declared.Settings.{Settings}
use Rattle.job_file.specs.Numbers.{settings_bytes_of, record_bytes_of}
use Rattle.job_writer.specs.Writing.{made_of}
use Rattle.words.specs.Text.{lines_of, clear, uncommented, words_of}
use Rattle.compose_lines.specs.declared.Item.{Item}
use Rattle.compose_lines.specs.Lines.{item_of}
use Rattle.compose_text.specs.Composing.{Composed}
use Rattle.compose_text.specs.Composing.{Progress, rows_bytes, read_of, all, unreadable}
use Rattle.compose_text.specs.Composing.{ended, by_writer, composed_of}
use Rattle.compose_text.specs.declared.ComposeError.{ComposeError}

-- ---- what a text means

-- no line has a carriage return where it must not
unfoldable pub AllClear : List (List ℕ) → Type 0
AllClear [] = Unit {0}
AllClear (l ∷ rest) = (clear l ≡ true) × AllClear rest

-- what each line gives, one after the other; a line that gives nothing is left out
abbrev pub told : Item → List Item → List Item
told (Item.Blank) rest = rest
told (Item.Settings s) rest = Item.Settings s ∷ rest
told (Item.Gain t) rest = Item.Gain t ∷ rest
told (Item.Gap q) rest = Item.Gap q ∷ rest
told (Item.Rows count commands pilots) rest = Item.Rows count commands pilots ∷ rest
told (Item.Unreadable) rest = Item.Unreadable ∷ rest

unfoldable pub items_of : List (List ℕ) → List Item
items_of [] = []
items_of (l ∷ rest) = told (item_of (words_of (uncommented l))) (items_of rest)

-- a line with so many rows of one kind
pub record RowsLine : Type 0 where
  pub count : ℕ
  pub commands : ℕ
  pub pilots : ℕ

unfoldable pub gap_items : List Sequence → List Item
gap_items [] = []
gap_items (q ∷ rest) = Item.Gap q ∷ gap_items rest

unfoldable pub run_items : List RowsLine → List Item
run_items [] = []
run_items (r ∷ rest) = Item.Rows r.count r.commands r.pilots ∷ run_items rest

unfoldable pub gaps_bytes : List Sequence → List ℕ
gaps_bytes [] = []
gaps_bytes (q ∷ rest) = record_bytes_of q ++ gaps_bytes rest

unfoldable pub runs_bytes : List RowsLine → List ℕ
runs_bytes [] = []
runs_bytes (r ∷ rest) = rows_bytes r.count r.commands r.pilots ++ runs_bytes rest

-- one `settings`, one `gain`, then any gap records, then any rows, and nothing else; with the bytes of the gap records
-- and of the rows, in the order of their lines
pub record Composes (text : List ℕ) (settings : Settings) (gain : Triple) (records rows : List ℕ) : Type 0 where
  pub clears : AllClear (lines_of text)
  pub gaps : List Sequence
  pub runs : List RowsLine
  pub lines_are : items_of (lines_of text) ≡ Item.Settings settings ∷ Item.Gain gain ∷ (gap_items gaps ++ run_items runs)
  pub records_are : records ≡ gaps_bytes gaps
  pub rows_are : rows ≡ runs_bytes runs

-- ---- which line is named

-- lines that can be gone on with: none has a carriage return where it must not, and what they give, with some items or
-- none behind it, is one `settings`, one `gain`, then any gap records, then any rows, and nothing else
pub record Begins (lines : List (List ℕ)) : Type 0 where
  pub clears : AllClear lines
  pub settings : Settings
  pub gain : Triple
  pub gaps : List Sequence
  pub runs : List RowsLine
  pub rest : List Item
  pub goes_on : items_of lines ++ rest ≡ Item.Settings settings ∷ Item.Gain gain ∷ (gap_items gaps ++ run_items runs)

-- the first k lines of a text can be gone on with; with the line after them, if there is one, they cannot; and the
-- text gives no parts of a job, which says more than that only where there is no line after them
pub record NamedAfter (text : List ℕ) (k : ℕ) : Type 0 where
  pub among : k ≤ length (lines_of text)
  pub before : Begins (take k (lines_of text))
  pub line : k < length (lines_of text) → Begins (take (1 + k) (lines_of text)) → ⊥
  pub not_whole : {settings : Settings} {gain : Triple} {records rows : List ℕ} →
      Composes text settings gain records rows → ⊥

-- ---- the theorems

pub record Theorems : Type 0 where
  -- one answer
  pub one_answer : (text out : List ℕ) {x y : Composed} {o p : List ℕ} →
      ended x o ≡ composed_of text out → ended y p ≡ composed_of text out → (x ≡ y) × (o ≡ p)
  -- whatever stood in the lent bytes
  pub by_size : (text out other : List ℕ) → length out ≡ length other →
      (composed_of text out).result ≡ (composed_of text other).result
  pub same_file : (text out other : List ℕ) → length out ≡ length other → {size : ℕ} →
      (composed_of text out).result ≡ Ok size →
      take size (composed_of text out).out ≡ take size (composed_of text other).out
  -- what follows the file stays, and where there is none all bytes do
  pub rest_stays : (text out : List ℕ) {size : ℕ} → (composed_of text out).result ≡ Ok size →
      drop size (composed_of text out).out ≡ drop size out
  pub untouched : (text out : List ℕ) → ((size : ℕ) → (composed_of text out).result ≡ Ok size → ⊥) →
      (composed_of text out).out ≡ out
  -- the answer is that the text is too long exactly where it has more bytes than are read
  pub too_long : (text out : List ℕ) → (composed_of text out).result ≡ (Err ComposeError.TooLong) ↔ text_most < length text
  -- the answer names a line, and the lent bytes stay, exactly where the text is not too long and its reading names that
  -- line
  pub unread : (text out : List ℕ) (n : ℕ) →
      composed_of text out ≡ ended (Err (ComposeError.Unreadable n)) out ↔
      (length text ≤ text_most) × (read_of text ≡ unreadable n)
  -- a number is named exactly where it is one more than a number of lines as above: they can be gone on with, but not
  -- with the next; or they are all lines, and these give no parts of a job
  pub named : (text : List ℕ) (n : ℕ) →
      read_of text ≡ unreadable n ↔ ((k : ℕ) × (n ≡ 1 + k) × NamedAfter text k)
  -- a text gives a job's parts exactly where its lines are these
  pub means : (text : List ℕ) (settings : Settings) (gain : Triple) (records rows : List ℕ) →
      ((p : Progress) × (read_of text ≡ all p) × (p.settings ≡ settings) × (p.gain ≡ gain) ×
      (p.records ≡ records) × (p.rows ≡ rows)) ↔
      Composes text settings gain records rows
  -- and where it does, and is not too long, the answer and the lent bytes are what the writer makes of these parts
  pub makes : (text out : List ℕ) → length text ≤ text_most →
      {settings : Settings} {gain : Triple} {records rows : List ℕ} → Composes text settings gain records rows →
      composed_of text out ≡ by_writer (made_of 1 (settings_bytes_of settings gain) records rows out)

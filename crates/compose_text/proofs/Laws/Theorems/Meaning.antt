-- A text gives a job's parts exactly where its lines are one `settings`, one `gain`, then gap records, then rows.
-- Assumes nothing.
use Rattle.std.specs.Prelude.{ℕ, ◌≤◌, ◌≡◌, refl, ◌↔◌, List, [], ◌∷◌, ◌++◌, length}
use Rattle.std.proofs.Common.{sym, ap, ◌∙◌, append-nil, append_assoc, le-ltb}
use Rattle.ground.proofs.Laws.Choice.{if_false}
use Rattle.constants.specs.Sizes.{text_most}
use Rattle.power.specs.declared.Triple.{Triple}
use Rattle.power.specs.Gain.{triple}
use Rattle.gap_records.specs.declared.Sequence.{Sequence}
use Rattle.job_settings.specs.declared.Settings.{Settings}
use Rattle.job_file.specs.Numbers.{settings_bytes_of, record_bytes_of}
use Rattle.job_writer.specs.Writing.{made_of}
use Rattle.words.specs.Text.{lines_of}
use Rattle.compose_lines.specs.declared.Item.{Item}
use Rattle.compose_text.specs.Composing.{Progress, begun, rows_bytes, Advance, to, advanced, Read, all, read_of, by_writer, composed_by, composed_of}
use Rattle.compose_text.specs.Theorems.{items_of, RowsLine, gap_items, run_items, gaps_bytes, runs_bytes, Composes}
use Rattle.compose_text.proofs.Laws.Theorems.Items.{taken, none_to, same_to, items_there, items_back}

-- where a reading stands
abbrev pub at : (stage : ℕ) → Settings → Triple → (records rows : List ℕ) → Progress
at stage s t records rows = record { stage = stage; settings = s; gain = t; records = records; rows = rows }

-- what it has come to in the end: these, after gap records and runs
record Came (q : Progress) (s : Settings) (t : Triple) (records rows : List ℕ) (items : List Item) : Type 0 where
  gaps : List Sequence
  runs : List RowsLine
  items_are : items ≡ gap_items gaps ++ run_items runs
  settings_is : q.settings ≡ s
  gain_is : q.gain ≡ t
  records_is : q.records ≡ records ++ gaps_bytes gaps
  rows_is : q.rows ≡ rows ++ runs_bytes runs

-- rows alone
record CameRows (q : Progress) (s : Settings) (t : Triple) (records rows : List ℕ) (items : List Item) : Type 0 where
  runs : List RowsLine
  items_are : items ≡ run_items runs
  settings_is : q.settings ≡ s
  gain_is : q.gain ≡ t
  records_is : q.records ≡ records
  rows_is : q.rows ≡ rows ++ runs_bytes runs

run : (count commands pilots : ℕ) → RowsLine
run count commands pilots = record { count = count; commands = commands; pilots = pilots }

after_rows : (s : Settings) (t : Triple) (records rows : List ℕ) (items : List Item) {q : Progress} →
    taken (at 3 s t records rows) items ≡ to q → CameRows q s t records rows items
unfolding taken advanced run_items runs_bytes run
after_rows s t records rows [] e =
    let i = same_to e in
    record {
      runs = [];
      items_are = refl;
      settings_is = sym (ap (λ (p : Progress). p.settings) i);
      gain_is = sym (ap (λ (p : Progress). p.gain) i);
      records_is = sym (ap (λ (p : Progress). p.records) i);
      rows_is = sym (ap (λ (p : Progress). p.rows) i) ∙ sym (append-nil rows);
    }
after_rows s t records rows (Item.Rows c k l ∷ rest) e =
    let r = after_rows s t records (rows ++ rows_bytes c k l) rest e in
    record {
      runs = run c k l ∷ r.runs;
      items_are = ap (λ (x : List Item). Item.Rows c k l ∷ x) r.items_are;
      settings_is = r.settings_is;
      gain_is = r.gain_is;
      records_is = r.records_is;
      rows_is = r.rows_is ∙ append_assoc rows (rows_bytes c k l) (runs_bytes r.runs);
    }
after_rows s t records rows (Item.Blank ∷ rest) e = absurd (none_to e)
after_rows s t records rows (Item.Settings x ∷ rest) e = absurd (none_to e)
after_rows s t records rows (Item.Gain x ∷ rest) e = absurd (none_to e)
after_rows s t records rows (Item.Gap x ∷ rest) e = absurd (none_to e)
after_rows s t records rows (Item.Unreadable ∷ rest) e = absurd (none_to e)

after_gain : (s : Settings) (t : Triple) (records rows : List ℕ) (items : List Item) {q : Progress} →
    taken (at 2 s t records rows) items ≡ to q → Came q s t records rows items
unfolding taken advanced gap_items run_items gaps_bytes runs_bytes run
after_gain s t records rows [] e =
    let i = same_to e in
    record {
      gaps = [];
      runs = [];
      items_are = refl;
      settings_is = sym (ap (λ (p : Progress). p.settings) i);
      gain_is = sym (ap (λ (p : Progress). p.gain) i);
      records_is = sym (ap (λ (p : Progress). p.records) i) ∙ sym (append-nil records);
      rows_is = sym (ap (λ (p : Progress). p.rows) i) ∙ sym (append-nil rows);
    }
after_gain s t records rows (Item.Gap g ∷ rest) e =
    let r = after_gain s t (records ++ record_bytes_of g) rows rest e in
    record {
      gaps = g ∷ r.gaps;
      runs = r.runs;
      items_are = ap (λ (x : List Item). Item.Gap g ∷ x) r.items_are;
      settings_is = r.settings_is;
      gain_is = r.gain_is;
      records_is = r.records_is ∙ append_assoc records (record_bytes_of g) (gaps_bytes r.gaps);
      rows_is = r.rows_is;
    }
after_gain s t records rows (Item.Rows c k l ∷ rest) e =
    let r = after_rows s t records (rows ++ rows_bytes c k l) rest e in
    record {
      gaps = [];
      runs = run c k l ∷ r.runs;
      items_are = ap (λ (x : List Item). Item.Rows c k l ∷ x) r.items_are;
      settings_is = r.settings_is;
      gain_is = r.gain_is;
      records_is = r.records_is ∙ sym (append-nil records);
      rows_is = r.rows_is ∙ append_assoc rows (rows_bytes c k l) (runs_bytes r.runs);
    }
after_gain s t records rows (Item.Blank ∷ rest) e = absurd (none_to e)
after_gain s t records rows (Item.Settings x ∷ rest) e = absurd (none_to e)
after_gain s t records rows (Item.Gain x ∷ rest) e = absurd (none_to e)
after_gain s t records rows (Item.Unreadable ∷ rest) e = absurd (none_to e)

-- all items, from the first on
pub record Whole (q : Progress) (items : List Item) : Type 0 where
  pub gaps : List Sequence
  pub runs : List RowsLine
  pub items_are : items ≡ Item.Settings q.settings ∷ Item.Gain q.gain ∷ (gap_items gaps ++ run_items runs)
  pub records_is : q.records ≡ gaps_bytes gaps
  pub rows_is : q.rows ≡ runs_bytes runs

opened : (s : Settings) (t : Triple) {q : Progress} {items : List Item} → Came q s t [] [] items →
    Whole q (Item.Settings s ∷ Item.Gain t ∷ items)
opened s t c = record {
  gaps = c.gaps;
  runs = c.runs;
  items_are = rw (c.settings_is, c.gain_is, c.items_are) refl;
  records_is = c.records_is;
  rows_is = c.rows_is;
}

after_settings_lem : (s : Settings) (t : Triple) (items : List Item) {q : Progress} →
    taken (at 1 s t [] []) items ≡ to q → Whole q (Item.Settings s ∷ items)
unfolding taken advanced
after_settings_lem s t [] e = absurd (none_to e)
after_settings_lem s t (Item.Gain x ∷ rest) e = opened s x (after_gain s x [] [] rest e)
after_settings_lem s t (Item.Rows c k l ∷ rest) e = absurd (none_to e)
after_settings_lem s t (Item.Blank ∷ rest) e = absurd (none_to e)
after_settings_lem s t (Item.Settings x ∷ rest) e = absurd (none_to e)
after_settings_lem s t (Item.Gap x ∷ rest) e = absurd (none_to e)
after_settings_lem s t (Item.Unreadable ∷ rest) e = absurd (none_to e)

pub from_first : (items : List Item) {q : Progress} → taken begun items ≡ to q → Whole q items
unfolding taken advanced
from_first [] e = absurd (none_to e)
from_first (Item.Settings s ∷ rest) e = after_settings_lem s (triple 0 0 0) rest e
from_first (Item.Rows c k l ∷ rest) e = absurd (none_to e)
from_first (Item.Blank ∷ rest) e = absurd (none_to e)
from_first (Item.Gain x ∷ rest) e = absurd (none_to e)
from_first (Item.Gap x ∷ rest) e = absurd (none_to e)
from_first (Item.Unreadable ∷ rest) e = absurd (none_to e)

-- ---- and back

-- at some stage, with these
pub record Reaches (s : Settings) (t : Triple) (records rows : List ℕ) (a : Advance) : Type 0 where
  pub stage : ℕ
  pub is : a ≡ to (at stage s t records rows)

rows_back : (s : Settings) (t : Triple) (records rows : List ℕ) (runs : List RowsLine) →
    Reaches s t records (rows ++ runs_bytes runs) (taken (at 3 s t records rows) (run_items runs))
unfolding taken advanced run_items runs_bytes
rows_back s t records rows [] = record { stage = 3; is = ap (λ (x : List ℕ). to (at 3 s t records x)) (sym (append-nil rows)) }
rows_back s t records rows (r ∷ rest) =
    let b = rows_back s t records (rows ++ rows_bytes r.count r.commands r.pilots) rest in
    record {
      stage = b.stage;
      is =
          b.is ∙
          ap (λ (x : List ℕ). to (at b.stage s t records x)) (append_assoc rows (rows_bytes r.count r.commands r.pilots) (runs_bytes rest));
    }

gain_back : (s : Settings) (t : Triple) (records rows : List ℕ) (gaps : List Sequence) (runs : List RowsLine) →
    Reaches s t (records ++ gaps_bytes gaps) (rows ++ runs_bytes runs) (taken (at 2 s t records rows) (gap_items gaps ++ run_items runs))
unfolding taken advanced gap_items run_items gaps_bytes runs_bytes
gain_back s t records rows [] [] = record { stage = 2; is = rw (append-nil records, append-nil rows) refl }
gain_back s t records rows [] (r ∷ rest) =
    let b = rows_back s t records (rows ++ rows_bytes r.count r.commands r.pilots) rest in
    record {
      stage = b.stage;
      is =
          rw (append-nil records)
          (b.is ∙
          ap (λ (x : List ℕ). to (at b.stage s t records x)) (append_assoc rows (rows_bytes r.count r.commands r.pilots) (runs_bytes rest)));
    }
gain_back s t records rows (g ∷ rest) runs =
    let b = gain_back s t (records ++ record_bytes_of g) rows rest runs in
    record {
      stage = b.stage;
      is = b.is ∙ ap (λ (x : List ℕ). to (at b.stage s t x (rows ++ runs_bytes runs))) (append_assoc records (record_bytes_of g) (gaps_bytes rest));
    }

pub first_back : (s : Settings) (t : Triple) (gaps : List Sequence) (runs : List RowsLine) →
    Reaches s t (gaps_bytes gaps) (runs_bytes runs) (taken begun (Item.Settings s ∷ Item.Gain t ∷ (gap_items gaps ++ run_items runs)))
unfolding taken advanced
first_back s t gaps runs = gain_back s t [] [] gaps runs

-- ---- a text

forth : (text : List ℕ) {p : Progress} → read_of text ≡ all p → Composes text p.settings p.gain p.records p.rows
unfolding read_of
forth text e =
    let i = items_there begun 1 (lines_of text) e in
    let w = from_first (items_of (lines_of text)) i.1 in
    record { clears = i.0; gaps = w.gaps; runs = w.runs; lines_are = w.items_are; records_are = w.records_is; rows_are = w.rows_is }

back : (text : List ℕ) {s : Settings} {t : Triple} {records rows : List ℕ} → Composes text s t records rows →
    (stage : ℕ) × (read_of text ≡ all (at stage s t records rows))
unfolding read_of
back text {s} {t} c =
    let r = first_back s t c.gaps c.runs in
    (r.stage, items_back begun 1 (lines_of text) c.clears (rw (c.lines_are, c.records_are, c.rows_are) r.is))

pub means : (text : List ℕ) (settings : Settings) (gain : Triple) (records rows : List ℕ) →
    ((p : Progress) × (read_of text ≡ all p) × (p.settings ≡ settings) × (p.gain ≡ gain) ×
    (p.records ≡ records) × (p.rows ≡ rows)) ↔
    Composes text settings gain records rows
means text settings gain records rows = (
  λ h. rw (← h.2, ← h.3, ← h.4, ← h.5) (forth text h.1),
  λ c. let b = back text c in (at b.0 settings gain records rows, b.1, refl, refl, refl, refl),
)

pub makes : (text out : List ℕ) → length text ≤ text_most →
    {settings : Settings} {gain : Triple} {records rows : List ℕ} → Composes text settings gain records rows →
    composed_of text out ≡ by_writer (made_of 1 (settings_bytes_of settings gain) records rows out)
unfolding composed_of
makes text out h c = sym (if_false _ _ (le-ltb text_most (length text) h)) ∙ ap (λ (x : Read). composed_by x out) (back text c).1

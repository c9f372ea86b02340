-- Texts of which it is computed what they give: the page's own job, and some on both sides of an edge.
-- Assumes nothing.
use Rattle.std.specs.Prelude.{ℕ, ◌≡◌, refl, List, [], ◌∷◌, ◌++◌, pos, replicate, Ok, Err}
use Rattle.ground.specs.Texts.{bytes}
use Rattle.constants.specs.Refusals.{refusal}
use Rattle.power.specs.Gain.{triple}
use Rattle.power.specs.Triples.{triple_fault}
use Rattle.gap_records.specs.Records.{sequence_at, sequences_from, some, number_fault, wrong_tgd, gap_fault, record_fault}
use Rattle.gap_records.specs.Records.{checked_from, checked_of}
use Rattle.job_contents.specs.Contents.{entry_at, wrong_entry, entries_of, contents_of}
use Rattle.job_settings.specs.Settings.{rule_fault, power_fault}
use Rattle.job_settings.specs.Gains.{triple_at}
use Rattle.job_settings.specs.Body.{twos_complement, settings_in, settings_fault, settings_read}
use Rattle.job.specs.Load.{rows_checked, loaded_of}
use Rattle.job_file.specs.File.{contents_for, file_of}
use Rattle.job_file.specs.Numbers.{signed_bits, settings_bytes_of, record_bytes_of}
use Rattle.job_writer.specs.Writing.{placed, made_of}
use Rattle.words.specs.Text.{lines_of, before, words_of, same, all_digits, value_after, number_of, values_of, numeric, numbers_of}
use Rattle.compose_lines.specs.Lines.{settings_fit, settings_item, gain_item, gap_fit, gap_item, row_item, rows_item, item_by, item_of}
use Rattle.compose_text.specs.Composing.{Read, all, unreadable, rows_bytes, advanced, closed, read_from, read_of, ended, composed_of}
use Rattle.compose_text.specs.declared.ComposeError.{ComposeError}

-- a line with its line feed
abbrev line : List ℕ → List ℕ
line l = l ++ 10 ∷ []

abbrev settings : List ℕ
settings = line (bytes "settings 1 1 0 0 1 24 1280     # PCA step ITP RPP N maximum start")

abbrev gain : List ℕ
gain = line (bytes "gain 15 15 1")

abbrev gap : List ℕ
gap = line (bytes "gap 1 3 7 3 0 4 0 256 0")

abbrev row : List ℕ
row = line (bytes "row 1 6")

-- what lines with those settings give
abbrev given : (stage : ℕ) (records rows : List ℕ) → Read
given stage records rows = all (record {
  stage = stage;
  settings = record { pca = 1; step = 1; itp = 0; rpp = 0; links = 1; maximum = pos 24; start = pos 1280 };
  gain = triple 15 15 1;
  records = records;
  rows = rows;
})

-- the page's job of four rows
abbrev page_text : List ℕ
page_text = settings ++ gain ++ line (bytes "rows 3 1 6") ++ bytes "row 0 6"

abbrev page_file : List ℕ
page_file =
    1 ∷ 3 ∷ 1 ∷ 29 ∷ 0 ∷ 0 ∷ 0 ∷ 12 ∷ 0 ∷ 0 ∷ 0 ∷ 2 ∷ 41 ∷ 0 ∷ 0 ∷ 0 ∷ 0 ∷ 0 ∷ 0 ∷ 0 ∷ 3 ∷ 41 ∷ 0 ∷ 0 ∷ 0 ∷ 8 ∷ 0 ∷ 0 ∷ 0 ∷
    1 ∷ 1 ∷ 0 ∷ 0 ∷ 1 ∷ 15 ∷ 15 ∷ 1 ∷ 24 ∷ 0 ∷ 0 ∷ 5 ∷ 1 ∷ 6 ∷ 1 ∷ 6 ∷ 1 ∷ 6 ∷ 0 ∷ 6 ∷ []

pub record Cases : Type 0 where
  -- what its lines give; its 49 bytes, into 51, of which the last two stay; and a byte less than it needs
  page : read_of page_text ≡ given 3 [] (1 ∷ 6 ∷ 1 ∷ 6 ∷ 1 ∷ 6 ∷ 0 ∷ 6 ∷ [])
  written : composed_of page_text (replicate 51 170) ≡ ended (Ok 49) (page_file ++ 170 ∷ 170 ∷ [])
  short : composed_of page_text (replicate 48 170) ≡ ended (Err (ComposeError.Refused (refusal 12 49))) (replicate 48 170)
  -- an unreadable line leaves the bytes, and comes before what the reader would refuse, here seven link sets
  unread : composed_of (line (bytes "settings 1 1 0 0 7 24 1280") ++ gain ++ bytes "rows") (7 ∷ []) ≡ ended (Err (ComposeError.Unreadable 3)) (7 ∷ [])
  refused : composed_of (line (bytes "settings 1 1 0 0 7 24 1280") ++ gain) (7 ∷ []) ≡ ended (Err (ComposeError.Refused (refusal 3 4))) (7 ∷ [])
  -- a gap record, and no row at all; a blank line and a comment give nothing
  one_gap : read_of (settings ++ gain ++ gap) ≡ given 2 (1 ∷ 3 ∷ 7 ∷ 3 ∷ 0 ∷ 4 ∷ 0 ∷ 0 ∷ 0 ∷ 1 ∷ 0 ∷ 0 ∷ []) []
  remarks : read_of (line [] ++ settings ++ line (bytes "# the triple") ++ gain) ≡ given 2 [] []
  -- no line, the settings alone, a triple alone
  empty : read_of [] ≡ unreadable 1
  settings_alone : read_of settings ≡ unreadable 2
  gain_alone : read_of gain ≡ unreadable 1
  -- what stands where it must not: rows or a gap record before the triple, settings again, a triple again, a gap record
  -- after a row
  row_early : read_of (settings ++ row ++ gain) ≡ unreadable 2
  gap_early : read_of (settings ++ gap ++ gain) ≡ unreadable 2
  settings_twice : read_of (settings ++ settings ++ gain) ≡ unreadable 2
  settings_again : read_of (settings ++ gain ++ settings) ≡ unreadable 3
  gain_again : read_of (settings ++ gain ++ gain) ≡ unreadable 3
  gap_late : read_of (settings ++ gain ++ row ++ gap) ≡ unreadable 4
  -- the first of two, though a later one is unreadable by itself
  first : read_of (settings ++ row ++ line (bytes "rwo 1 6")) ≡ unreadable 2
  -- a carriage return in a comment, and one before the line feed
  bare_return : read_of (settings ++ line (bytes "gain 15 15 1 # " ++ 13 ∷ bytes "so")) ≡ unreadable 2
  returned : read_of (settings ++ line (bytes "gain 15 15 1" ++ 13 ∷ [])) ≡ given 2 [] []

pub cases : Cases
unfolding lines_of before words_of same all_digits value_after number_of values_of numeric numbers_of
    settings_fit settings_item gain_item gap_fit gap_item row_item rows_item item_by item_of record_bytes_of
    rows_bytes advanced closed read_from read_of signed_bits settings_bytes_of contents_for file_of placed made_of composed_of
    sequence_at sequences_from some number_fault wrong_tgd gap_fault record_fault checked_from checked_of rule_fault triple_fault power_fault triple_at
    entry_at wrong_entry entries_of contents_of twos_complement settings_in settings_fault settings_read rows_checked loaded_of
cases =
    record {
      page = refl;
      written = refl;
      short = refl;
      unread = refl;
      refused = refl;
      one_gap = refl;
      remarks = refl;
      empty = refl;
      settings_alone = refl;
      gain_alone = refl;
      row_early = refl;
      gap_early = refl;
      settings_twice = refl;
      settings_again = refl;
      gain_again = refl;
      gap_late = refl;
      first = refl;
      bare_return = refl;
      returned = refl;
    }

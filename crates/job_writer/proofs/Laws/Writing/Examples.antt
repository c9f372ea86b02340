-- Parts of which it is computed what the writer makes: the page's own job, and some on the other side of an edge.
-- Assumes nothing.
use Rattle.std.specs.Prelude.{ℕ, ◌≡◌, refl, List, [], ◌∷◌, ◌++◌, replicate, Ok, Err}
use Rattle.constants.specs.Refusals.{refusal}
use Rattle.gap_records.specs.Records.{sequence_at, sequences_from, some, number_fault, wrong_tgd, gap_fault, record_fault}
use Rattle.gap_records.specs.Records.{checked_from, checked_of}
use Rattle.power.specs.Triples.{triple_fault}
use Rattle.job_settings.specs.Settings.{rule_fault, power_fault}
use Rattle.job_settings.specs.Gains.{triple_at}
use Rattle.job_contents.specs.Contents.{entry_at, wrong_entry, entries_of, contents_of}
use Rattle.job_settings.specs.Body.{twos_complement, settings_in, settings_fault, settings_read}
use Rattle.job.specs.Load.{rows_checked, loaded_of}
use Rattle.job_file.specs.File.{contents_for, file_of}
use Rattle.job_writer.specs.Writing.{End, ended, placed, made_of}

-- the settings of the page's job, and its four rows
abbrev settings : List ℕ
settings = 1 ∷ 1 ∷ 0 ∷ 0 ∷ 1 ∷ 15 ∷ 15 ∷ 1 ∷ 24 ∷ 0 ∷ 0 ∷ 5 ∷ []

abbrev rows : List ℕ
rows = 1 ∷ 6 ∷ 1 ∷ 6 ∷ 1 ∷ 6 ∷ 0 ∷ 6 ∷ []

-- a record with an id: uplink, slot 0, one slot long, one frame, no end
abbrev gap : ℕ → List ℕ
gap id = id ∷ 1 ∷ 0 ∷ 1 ∷ 0 ∷ 1 ∷ 0 ∷ 0 ∷ 0 ∷ 0 ∷ 0 ∷ 0 ∷ []

-- so many lent bytes, and an end that leaves them
abbrev lent : ℕ → List ℕ
lent n = replicate n 170

abbrev refused : (number place bytes : ℕ) → End
refused number place bytes = ended (Err (refusal number place)) (lent bytes)

pub record Cases : Type 0 where
  -- "The job, in hex, of 49 bytes", into 60: the last eleven stay
  page : made_of 1 settings [] rows (lent 60) ≡ ended (Ok 49)
      ((1 ∷ 3 ∷ 1 ∷ 29 ∷ 0 ∷ 0 ∷ 0 ∷ 12 ∷ 0 ∷ 0 ∷ 0 ∷ 2 ∷ 41 ∷ 0 ∷ 0 ∷ 0 ∷ 0 ∷ 0 ∷ 0 ∷ 0 ∷ 3 ∷ 41 ∷ 0 ∷ 0 ∷ 0 ∷ 8 ∷ 0 ∷ 0 ∷ 0 ∷ []) ++
      settings ++ rows ++ lent 11)
  -- into 49 just so, and a byte less
  fits : (made_of 1 settings [] rows (lent 49)).result ≡ Ok 49
  short : made_of 1 settings [] rows (lent 48) ≡ refused 12 49 48
  -- six records of 12 bytes, which are more than 48
  six : (made_of 1 settings (gap 1 ++ gap 2 ++ gap 3 ++ gap 4 ++ gap 5 ++ gap 6) rows (lent 121)).result ≡ Ok 121
  -- a kind, each length, and a number that break their rules, whatever is lent
  kind : made_of 2 settings [] rows (lent 60) ≡ refused 2 0 60
  eleven : made_of 1 (1 ∷ 1 ∷ 0 ∷ 0 ∷ 1 ∷ 15 ∷ 15 ∷ 1 ∷ 24 ∷ 0 ∷ 0 ∷ []) [] rows (lent 60) ≡ refused 2 1 60
  thirteen : made_of 1 settings (gap 1 ++ (0 ∷ [])) rows (lent 1) ≡ refused 2 2 1
  odd : made_of 1 settings [] (1 ∷ []) [] ≡ refused 2 3 0
  step : made_of 1 (1 ∷ 3 ∷ 0 ∷ 0 ∷ 1 ∷ 15 ∷ 15 ∷ 1 ∷ 24 ∷ 0 ∷ 0 ∷ 5 ∷ []) [] rows [] ≡ refused 3 1 0
  seven : made_of 1 settings (replicate 84 0) rows [] ≡ refused 4 7 0
  again : made_of 1 settings (gap 1 ++ gap 1) rows [] ≡ refused 6 1 0

pub cases : Cases
unfolding sequence_at sequences_from some number_fault wrong_tgd gap_fault record_fault checked_from checked_of
    rule_fault triple_fault power_fault triple_at entry_at wrong_entry entries_of contents_of
    twos_complement settings_in settings_fault settings_read rows_checked loaded_of contents_for file_of placed made_of
cases =
    record {
      page = refl;
      fits = refl;
      short = refl;
      six = refl;
      kind = refl;
      eleven = refl;
      thirteen = refl;
      odd = refl;
      step = refl;
      seven = refl;
      again = refl;
    }

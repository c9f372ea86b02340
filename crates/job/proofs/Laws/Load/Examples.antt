-- Files of which it is computed what a load says: the page's own, and some on both sides of an edge.
-- Assumes nothing.
use Rattle.std.specs.Prelude.{ℕ, ◌≡◌, refl, List, [], ◌∷◌, ◌++◌, ℤ, pos, negsuc, replicate, take, drop, Ok, Err}
use Rattle.constants.specs.Refusals.{refusal}
use Rattle.gap_records.specs.Records.{sequence_at, sequences_from, some, number_fault, wrong_tgd, gap_fault, record_fault}
use Rattle.gap_records.specs.Records.{checked_from, checked_of}
use Rattle.power.specs.Triples.{triple_fault}
use Rattle.job_settings.specs.declared.Settings.{Settings}
use Rattle.job_settings.specs.Settings.{rule_fault, power_fault}
use Rattle.job_settings.specs.Gains.{triple_at}
use Rattle.job_contents.specs.Contents.{entry_at, wrong_entry, entries_of, contents_of}
use Rattle.job_settings.specs.Body.{twos_complement, settings_in, settings_fault, settings_read}
use Rattle.job.specs.Load.{Loaded}
use Rattle.job.specs.Load.{rows_checked, loaded_of}

-- a table of contents by the length of the second body and the offset and length of the third, each number by its four bytes
abbrev contents : (second offset third : List ℕ) → List ℕ
contents second offset third =
    (1 ∷ 3 ∷ 1 ∷ 29 ∷ 0 ∷ 0 ∷ 0 ∷ 12 ∷ 0 ∷ 0 ∷ 0 ∷ 2 ∷ 41 ∷ 0 ∷ 0 ∷ 0 ∷ []) ++ second ++ (3 ∷ []) ++ offset ++ third

abbrev small : ℕ → List ℕ
small n = n ∷ 0 ∷ 0 ∷ 0 ∷ []

-- settings by byte 9 and the two bytes of the start power; the others are the page's
abbrev body : (nine low high : ℕ) → List ℕ
body nine low high = 1 ∷ 1 ∷ 0 ∷ 0 ∷ 1 ∷ 15 ∷ 15 ∷ 1 ∷ 24 ∷ nine ∷ low ∷ high ∷ []

abbrev pub settings : (start : ℤ) → Settings
settings start = record { pca = 1; step = 1; itp = 0; rpp = 0; links = 1; maximum = pos 24; start = start }

abbrev taken : (start : ℤ) (rows : ℕ) → Loaded
taken start rows = Ok ((settings start), (record { settings = 29; gains = 34; records = 41; rows = rows }))

abbrev refused : (number place : ℕ) → Loaded
refused number place = Err (refusal number place)

-- a record with an id: uplink, slot 0, one slot long, one frame, no end
abbrev gap : ℕ → List ℕ
gap id = id ∷ 1 ∷ 0 ∷ 1 ∷ 0 ∷ 1 ∷ 0 ∷ 0 ∷ 0 ∷ 0 ∷ 0 ∷ 0 ∷ []

abbrev none : List ℕ
none = contents (small 0) (small 41) (small 0)

abbrev six : List ℕ
six = gap 1 ++ gap 2 ++ gap 3 ++ gap 4 ++ gap 5 ++ gap 6

pub record Cases : Type 0 where
  -- "The job, in hex, of 49 bytes"
  pub page : loaded_of (contents (small 0) (small 41) (small 8) ++ body 0 0 5 ++ (1 ∷ 6 ∷ 1 ∷ 6 ∷ 1 ∷ 6 ∷ 0 ∷ 6 ∷ [])) ≡ taken (pos 1280) 41
  -- nothing at all, a file cut in its contents, and one cut in its settings
  empty : loaded_of [] ≡ refused 2 0
  cut_contents : loaded_of (contents (small 0) (small 41) (0 ∷ 0 ∷ 0 ∷ [])) ≡ refused 2 0
  cut_settings : loaded_of (none ++ (1 ∷ 1 ∷ [])) ≡ refused 2 1
  -- a wrong byte 0 and byte 1; of an entry the kind, the offset, the length of the first, a second that is no multiple of 12, a third that is odd
  byte_0 : loaded_of (2 ∷ drop 1 (none ++ body 0 0 5)) ≡ refused 2 0
  byte_1 : loaded_of (1 ∷ 2 ∷ drop 2 (none ++ body 0 0 5)) ≡ refused 2 0
  kind : loaded_of (take 20 none ++ (2 ∷ []) ++ drop 21 (none ++ body 0 0 5)) ≡ refused 2 3
  offset : loaded_of (contents (small 0) (small 40) (small 0) ++ body 0 0 5) ≡ refused 2 3
  eleven : loaded_of (take 7 none ++ (11 ∷ []) ++ drop 8 (none ++ body 0 0 5)) ≡ refused 2 1
  thirteen : loaded_of (contents (small 13) (small 54) (small 0) ++ body 0 0 5 ++ gap 1 ++ (0 ∷ [])) ≡ refused 2 2
  odd : loaded_of (contents (small 0) (small 41) (small 1) ++ body 0 0 5 ++ (1 ∷ [])) ≡ refused 2 3
  -- the sum of 41 and 4,294,967,292 is 37 modulo 2^32
  wrapped : loaded_of (contents (252 ∷ 255 ∷ 255 ∷ 255 ∷ []) (small 37) (small 4) ++ body 0 0 5) ≡ refused 2 2
  -- a third body that ends a row early
  early : loaded_of (contents (small 0) (small 41) (small 2) ++ body 0 0 5 ++ (1 ∷ 6 ∷ 1 ∷ 6 ∷ [])) ≡ refused 2 3
  -- "signed, -9,600 to 2,112 units", and one below; byte 9 goes before it
  lowest : loaded_of (none ++ body 0 128 218) ≡ taken (negsuc 9599) 41
  lower : loaded_of (none ++ body 0 127 218) ≡ refused 3 10
  nine : loaded_of (none ++ body 1 127 218) ≡ refused 3 9
  -- "Six records are taken, seven refused with 4 at 7", also where the first of the seven is bad
  six_taken : loaded_of (contents (small 72) (small 113) (small 0) ++ body 0 0 5 ++ six) ≡ taken (pos 1280) 113
  seven : loaded_of (contents (small 84) (small 125) (small 0) ++ body 0 0 5 ++ replicate 84 0) ≡ refused 4 7
  -- an id again in the second record, and a bad one after it
  again : loaded_of (contents (small 36) (small 77) (small 0) ++ body 0 0 5 ++ gap 1 ++ gap 1 ++ gap 0) ≡ refused 6 1

pub cases : Cases
unfolding sequence_at sequences_from some number_fault wrong_tgd gap_fault record_fault checked_from checked_of
    rule_fault triple_fault power_fault triple_at entry_at wrong_entry entries_of contents_of
    twos_complement settings_in settings_fault settings_read rows_checked loaded_of
cases =
    record {
      page = refl;
      empty = refl;
      cut_contents = refl;
      cut_settings = refl;
      byte_0 = refl;
      byte_1 = refl;
      kind = refl;
      offset = refl;
      eleven = refl;
      thirteen = refl;
      odd = refl;
      wrapped = refl;
      early = refl;
      lowest = refl;
      lower = refl;
      nine = refl;
      six_taken = refl;
      seven = refl;
      again = refl;
    }

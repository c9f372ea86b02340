-- "The cases marked * form one small table, and a single statement proves that the written rules give them all."
-- RULES: cases
-- Definitions beside the rules, which need not be believed.
use Rattle.std.specs.Prelude.{ℕ, ◌≡◌, true, List, [], ◌∷◌, ◌++◌, pos, negsuc}
use Rattle.std.specs.Float.{fin}
use Rattle.gap_records.proofs.Laws.Records.Examples.{one_gap}
use Rattle.gap_runs.specs.declared.Kind.TheVariants.{Gap, Resume, Recovery, Plain}
use Rattle.gap_runs.proofs.Laws.Runs.Examples.{kinds}
use Rattle.command_algorithms.specs.Algorithms.{combined}
use Rattle.power.specs.Steps.{step_units, recovery_step_of, pilot_change_of}
use Rattle.power.specs.Gain.{triple, gain_bracket, data_offset}
use Rattle.job_settings.specs.declared.Settings.{Settings}
use Rattle.row_rules.specs.History.{History, state_at, change_on}
use Rattle.row_rules.specs.Theorems.{history_of}
use Rattle.listing_rules.specs.Text.{bytes}
use Rattle.listing.specs.Listing.{listing_of}

-- a case: what the rules give, and what the page states
pub record Case : Type 1 where
  pub Kind : Type 0
  pub given : Kind
  pub stated : Kind

abbrev pub is : {A : Type 0} → A → A → Case
is {A} x y = record { Kind = A; given = x; stated = y }

-- the rules give every case of a table
unfoldable pub Given : List Case → Type 0
Given [] = Unit {0}
Given (c ∷ rest) = (c.given ≡ c.stated) × Given rest

-- "The job, in hex, of 49 bytes"
abbrev pub page_job : List ℕ
page_job =
    0x01 ∷ 0x03 ∷
    0x01 ∷ 0x1d ∷ 0x00 ∷ 0x00 ∷ 0x00 ∷ 0x0c ∷ 0x00 ∷ 0x00 ∷ 0x00 ∷
    0x02 ∷ 0x29 ∷ 0x00 ∷ 0x00 ∷ 0x00 ∷ 0x00 ∷ 0x00 ∷ 0x00 ∷ 0x00 ∷
    0x03 ∷ 0x29 ∷ 0x00 ∷ 0x00 ∷ 0x00 ∷ 0x08 ∷ 0x00 ∷ 0x00 ∷ 0x00 ∷
    0x01 ∷ 0x01 ∷ 0x00 ∷ 0x00 ∷ 0x01 ∷ 0x0f ∷ 0x0f ∷ 0x01 ∷ 0x18 ∷ 0x00 ∷ 0x00 ∷ 0x05 ∷
    0x01 ∷ 0x06 ∷ 0x01 ∷ 0x06 ∷ 0x01 ∷ 0x06 ∷ 0x00 ∷ 0x06 ∷ []

-- its four rows, with the "last column `by`: … or `-`"
abbrev pub page_listing : List ℕ
page_listing =
    bytes "row state cmd dpcch dpdch total held by\n" ++
    bytes "0 1 1 1280 1280 1473 0 -\n" ++
    bytes "1 2 1 1343 1343 1536 1 -\n" ++
    bytes "2 2 1 1343 1343 1536 65 -\n" ++
    bytes "3 1 -1 1279 1279 1472 65 -\n" ++
    bytes "rows 4 held 65\n"

-- the triple of the page's job, βc 15, βd 15 and n 1, as it stands there
abbrev pub page_gains : List ℕ
page_gains = 0x0f ∷ 0x0f ∷ 0x01 ∷ []

-- "ITP 1, step 1 dB, nothing limited, uplink gap from slot 1 to 3, commands +1 in rows 0 and 1": six pilot bits in the
-- rows that are sent
-- DECISIONS: cases-by-their-rule
abbrev pub gap_settings : Settings
gap_settings = record { pca = 1; step = 1; itp = 1; rpp = 0; links = 1; maximum = pos 24; start = pos 0 }

abbrev pub gap_rows : List ℕ
gap_rows = 1 ∷ 6 ∷ 1 ∷ 0 ∷ 1 ∷ 0 ∷ 1 ∷ 0 ∷ 1 ∷ 6 ∷ []

abbrev pub gap_history : History
gap_history = history_of gap_settings page_gains (one_gap 1 1 1 3 1) gap_rows

-- DECISIONS: cases-by-their-rule
abbrev pub marked : List Case
marked =
    -- "βc 15, βd 15, n 1: ceiling bracket 193."
    is (gain_bracket (triple 15 15 1)) (pos 193) ∷
    -- "βc 8, βd 15: 419, DPDCH 349 above DPCCH."
    is (gain_bracket (triple 8 15 1)) (pos 419) ∷
    is (data_offset (triple 8 15 1)) (pos 349) ∷
    -- "N 3, algorithm 2 temporaries 1, 1, 0 give +1." "N 2, 1, 0 give 0." "1, 1, −1 give −1."
    is (combined 3 (pos 1 ∷ pos 1 ∷ pos 0 ∷ [])) (pos 1) ∷
    is (combined 2 (pos 1 ∷ pos 0 ∷ [])) (pos 0) ∷
    is (combined 3 (pos 1 ∷ pos 1 ∷ negsuc 0 ∷ [])) (negsuc 0) ∷
    -- "Pilots 8 then 4: +193; 4 then 8: −193."
    is (pilot_change_of 8 4) (pos 193) ∷
    is (pilot_change_of 4 8) (negsuc 192) ∷
    -- "Recovery step for PCA 1: step 1 dB 128, step 2 dB 192."
    is (recovery_step_of 1 (step_units 1)) 128 ∷
    is (recovery_step_of 1 (step_units 2)) 192 ∷
    -- "Uplink gap in slots 7-9: resume 10, recovery 11, 12, 13." From the bytes of the record
    is (kinds (one_gap 1 1 7 3 1) (6 ∷ 7 ∷ 8 ∷ 9 ∷ 10 ∷ 11 ∷ 12 ∷ 13 ∷ 14 ∷ []))
    (Plain ∷ Gap ∷ Gap ∷ Gap ∷ Resume ∷ Recovery ∷ Recovery ∷ Recovery ∷ Plain ∷ []) ∷
    -- all five rows are taken
    is (state_at gap_history 5).row 5 ∷
    -- "filter −62, then −120.125, resume −120": after row 0, after row 1, and the change of row 4. −62 is −31·2,
    -- −120.125 is −961/8
    is (state_at gap_history 1).filter.level (fin true 31 (pos 1)) ∷
    is (state_at gap_history 2).filter.level (fin true 961 (negsuc 2)) ∷
    is (change_on gap_history 4) (negsuc 119) ∷
    -- "The four rows listed above."
    is (listing_of page_job) page_listing ∷
    []

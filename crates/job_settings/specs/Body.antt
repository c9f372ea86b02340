-- "Settings (12 bytes)": the numbers of the first body, and refusal 3.
-- RULES: settings, refusals
-- Definitions, to be believed.
use Rattle.std.specs.Prelude.{ℕ, ◌+◌, ◌*◌, ◌≤◌, ◌<◌, ◌≡◌, ◌⊎◌, List, ltb, ℤ, pos, ◌+ℤ◌, ◌-ℤ◌, length, get_or, take, drop, ◌≤ℤ◌, ◌<ℤ◌, Option, Some, None, Ok, Err, Result}
use Rattle.std.specs.Option.{option_or}
use Rattle.ground.specs.Choice.{when◌then◌else◌}
use Rattle.ground.specs.Bytes.{pair_at}
use Rattle.ground.specs.declared.Refusal.{Refusal}
use Rattle.constants.specs.Refusals.{refusal, no_refusal, wrong_settings}
use Rattle.constants.specs.Sizes.{settings_bytes, gains_place, triple_bytes, powers_place}
use Rattle.power.specs.declared.Triple.{Triple}
use Rattle.power.specs.Triples.{triple_fault, TripleBreaks}
use Rattle.job_settings.specs.declared.Settings.{Settings}
use Rattle.job_settings.specs.Settings.{rule_fault, power_fault, RuleBreaks, PowerBreaks}
use Rattle.job_settings.specs.Gains.{triple_at}

-- "signed": in two's complement, of which half the numbers are below zero
-- DECISIONS: settings-signed
unfoldable pub twos_complement : (half n : ℕ) → ℤ
twos_complement half n = when ltb n half then pos n else pos n -ℤ pos (2 * half)

-- the same without a test: from −half up to half − 1, and the number itself or twice half less
pub record IsSigned (half n : ℕ) (z : ℤ) : Type 0 where
  pub low : pos 0 ≤ℤ (z +ℤ pos half)
  pub high : z <ℤ pos half
  pub same : (z ≡ pos n) ⊎ (z +ℤ pos (2 * half) ≡ pos n)

-- "0 PCA …; 1 step …; 2 ITP …; 3 RPP …; 4 radio link sets N …; 8 allowed maximum in dBm, signed …; 10-11 start DPCCH
-- power, signed …"
unfoldable pub settings_in : List ℕ → Settings
settings_in body = record {
  pca = get_or body 0 0;
  step = get_or body 1 0;
  itp = get_or body 2 0;
  rpp = get_or body 3 0;
  links = get_or body 4 0;
  maximum = twos_complement 128 (get_or body 8 0);
  start = twos_complement 32768 (pair_at body 10);
}

-- "5 βc …; 6 βd …; 7 DPDCH count n …": the part of its triples, which has one
abbrev pub gains_in : List ℕ → List ℕ
gains_in body = take triple_bytes (drop gains_place body)

abbrev pub triple_in : List ℕ → Triple
triple_in body = triple_at (gains_in body) 0

-- a fault of a part of the twelve, from where the part begins
abbrev pub from_place : (place : ℕ) → Option ℕ → Option ℕ
from_place place (Some n) = Some (place + n)
from_place place None = None

-- "settings bytes … in file order": the first of the twelve that breaks its rule, where one does. "9 zero" stands
-- between the powers
-- DECISIONS: settings-order
unfoldable pub settings_fault : Settings → Triple → (blank : ℕ) → Option ℕ
settings_fault s t blank =
    option_or (option_or (rule_fault s) (from_place gains_place (triple_fault t)))
    (from_place powers_place (power_fault s blank))

abbrev pub body_fault : List ℕ → Option ℕ
body_fault body = settings_fault (settings_in body) (triple_in body) (get_or body 9 0)

-- a claim on settings, where they are taken
abbrev pub OnGood : (Settings → Type 0) → Result Settings Refusal → Type 0
OnGood P (Ok s) = P s
OnGood P (Err r) = Unit {0}

-- "3 | a settings byte breaks its rule; … | its offset": settings with the first byte that does, where one does
abbrev pub taken_by : Option ℕ → Settings → Result Settings Refusal
taken_by (Some n) s = Err (refusal wrong_settings n)
taken_by None s = Ok s

-- A byte that is not there breaks its rule; in a job there are twelve
-- DECISIONS: file-places, settings-short
unfoldable pub settings_read : List ℕ → Result Settings Refusal
settings_read body =
    when ltb (length body) settings_bytes then Err (refusal wrong_settings (length body)) else
    taken_by (body_fault body) (settings_in body)

-- ---- the same without an order of tests

-- a byte of the first body breaks its rule
pub data Broken (body : List ℕ) : ℕ → Type 0 where
  rule : {n : ℕ} → RuleBreaks (settings_in body) n → Broken body n
  triple : {n : ℕ} → TripleBreaks (triple_in body) n → Broken body (gains_place + n)
  power : {n : ℕ} → PowerBreaks (settings_in body) (get_or body 9 0) n → Broken body (powers_place + n)

-- ---- the answer, case by case

-- the page's number and place of each case: a refusal, and none where the settings are taken
abbrev pub refusal_of : Result Settings Refusal → Refusal
refusal_of (Ok s) = no_refusal
refusal_of (Err r) = r

-- what each case says of the body: the first byte that breaks its rule, or that none does
pub data SettingsSay (body : List ℕ) : Result Settings Refusal → Type 0 where
  short : length body < settings_bytes → SettingsSay body (Err (refusal wrong_settings (length body)))
  broken : settings_bytes ≤ length body → {n : ℕ} → Broken body n → ((m : ℕ) → Broken body m → n ≤ m) →
      SettingsSay body (Err (refusal wrong_settings n))
  kept : settings_bytes ≤ length body → ((n : ℕ) → Broken body n → ⊥) →
      SettingsSay body (Ok (settings_in body))

-- what the reading of the settings promises: its answer, what this says, and its number on the page: none or 3
pub record SettingsTold (body : List ℕ) (answer : Result Settings Refusal) : Type 0 where
  pub is : answer ≡ settings_read body
  pub says : SettingsSay body answer
  pub number : ((refusal_of answer).number ≡ 0) ⊎ ((refusal_of answer).number ≡ wrong_settings)

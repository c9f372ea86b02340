-- What the test of 11 tells where it is passed, asked with a job's gain; and what no refusal of a whole run tells.
-- Assumes nothing.
use Rattle.std.proofs.Common.{ℕ, ◌-◌, ◌*◌, ◌≤◌, ◌≡◌, sym, ◌∙◌, Bool, true, List, Option, None}
use Rattle.constants.specs.Sizes.{rows_most, answer_numbers}
use Rattle.ground.specs.declared.Refusal.{Refusal}
use Rattle.power.specs.declared.Gain.{Gain}
use Rattle.power.specs.Gain.{GainIn}
use Rattle.power.proofs.Laws.Gain.{gain_in}
use Rattle.job_settings.specs.declared.Settings.{Settings}
use Rattle.row_state.specs.declared.State.{State}
use Rattle.row_rules.specs.Rules.{gain_for, admits}
use Rattle.row_rules.specs.Refusing.{StateRanged}
use Rattle.row_rules.proofs.Laws.Theorems.Refusals.{admits_ranged}
use Rattle.row_rules.specs.Runs.{run_refusal}
use Rattle.row_rules.proofs.Laws.Runs.{refusal_cases}
use Rattle.row.specs.Asks.{Admitted}

module _ {s : Settings} {gains : List ℕ} {g : Gain} {st : State} {answer : Bool} (e : g ≡ gain_for s gains) (h : Admitted s gains g.ceiling st answer) where
  pub asked : answer ≡ admits s gains st
  unfolding admits
  asked = rw e at h.is

  pub passed : answer ≡ true → StateRanged s gains st
  passed t = admits_ranged s gains st h.fits (sym asked ∙ t)

-- a triple in its ranges has a gain in its own
pub gain_ranged : {s : Settings} {gains : List ℕ} {st : State} → StateRanged s gains st → GainIn (gain_for s gains)
gain_ranged r = gain_in r.triple.ranged r.settings.maximum

-- none of the three tests of a whole run refused it
pub record Clear (row rows room : ℕ) (sound : Bool) : Type 0 where
  pub few : rows ≤ rows_most - row
  pub space : answer_numbers * rows ≤ room
  pub is_sound : sound ≡ true

pub clear : (row rows room : ℕ) (sound : Bool) → run_refusal row rows room sound ≡ None → Clear row rows room sound
clear row rows room sound =
    refusal_cases row rows room sound (λ (r : Option Refusal). r ≡ None → Clear row rows room sound)
    (λ _ z. absurd (cc)) (λ _ _ z. absurd (cc)) (λ a b c _. record { few = a; space = b; is_sound = c }) (λ _ _ _ z. absurd (cc))

-- Rows that are offered to a lent state and refused: a refusal of them all, and any refusal of one row, leaves the state, and the answers, as they were.
-- Assumes nothing.
use Rattle.std.specs.Prelude.{ℕ, ◌≡◌, Bool, true, false, eqb, ℤ, length, Ok, Err, Some, None, Option}
use Rattle.std.proofs.Math.Path.{refl}
use Rattle.std.proofs.Math.Logic.{⊎_elim}
use mathlib.Core.List.{List, []}
use Rattle.constants.specs.Sizes.{row_bytes}
use Rattle.constants.specs.Refusals.{wrong_row, power_too_low}
use Rattle.gap_slots.specs.Slots.{slot_at}
use Rattle.job_settings.specs.declared.Settings.{Settings}
use Rattle.row_state.specs.declared.State.{State}
use Rattle.row_state.specs.States.{state_start}
use Rattle.row_values.specs.Rows.{row_at, is_cut, rows_from, rows_in}
use Rattle.row_values.proofs.Laws.Rows.{offered_whole}
use Rattle.row_values.specs.Answers.{all_numbers}
use Rattle.row_rules.specs.Stepping.{Stepped}
use Rattle.row_rules.specs.declared.Ran.{Ran}
use Rattle.row_rules.specs.Rules.{row_of, gain_for}
use Rattle.row_rules.specs.Runs.{AtRow, OnStopped, refused_by, refusal_by, closing, go, go_over, followed, End, written}
use Rattle.row_rules.proofs.Laws.Runs.{rows_unrefused, rows_stopped}
use Rattle.row_rules.proofs.Laws.Theorems.Runs.{run_cases}
use Rattle.job.specs.Load.{Loaded}
use Rattle.job.specs.Load.{gains_body, records_body, loaded_of}
use Rattle.exports_state.specs.Packed.{state_numbers, unpacked_of}
use Rattle.exports.specs.Steps.{Lent, lent_by, start_by, start_handed, started_lent, NextTold, lent_after, after_by, after_lent, next_by, next_of}
use Rattle.exports.proofs.Laws.Steps.{stopped_lent}
use Rattle.demands.proofs.Laws.Live.{started_in}

module _ (rows : List ℕ) (before : Lent) (out : List ℤ) where
  -- a claim on what is told holds where it holds of what leaves all as it was, and of rows run one after the other
  told_cases : (P : NextTold → Type 0) → ((t : NextTold) → t.state ≡ before → t.out ≡ out → P t) →
      ((s : Settings) (gains records : List ℕ) (st : State) → unpacked_of before.numbers before.level ≡ Some st →
      P (lent_after before (written out 0 (go_over s (gain_for s gains) (slot_at records) st rows)))) → (job : List ℕ) → P (next_of job rows before out)
  unfolding next_of after_lent lent_by
  told_cases P left run job = by (loaded_of job)
    where
      by_state : (s : Settings) (gains records : List ℕ) (x : Option State) → unpacked_of before.numbers before.level ≡ x →
          P (after_by x s gains records rows before out)
      by_state s gains records (Some st) e =
          run_cases s gains records st rows out (λ (x : End). P (lent_after before x)) (λ _. left _ refl refl) (λ _ _. left _ refl refl)
          (λ _ _ _. run s gains records st e) (λ _ _ _. left _ refl refl)
      by_state s gains records None e = left _ refl refl

      by : (l : Loaded) → P (next_by l job rows before out)
      by (Ok (s, b)) = by_state s (gains_body job b) (records_body job b) (unpacked_of before.numbers before.level) refl
      by (Err r) = left _ refl refl

  abbrev Left : NextTold → Type 0
  Left told = (told.state ≡ before) × (told.out ≡ out)

  -- rows that were run stop by 8 or 9
  run_stops : (s : Settings) (gains records : List ℕ) (st : State) →
      (let x = (go_over s (gain_for s gains) (slot_at records) st rows).result in
      ((refusal_by x).number ≡ 0 → ⊥) → ((refusal_by x).number ≡ wrong_row → ⊥) → ((refusal_by x).number ≡ power_too_low → ⊥) → ⊥)
  unfolding OnStopped refused_by refusal_by
  run_stops s gains records st =
      by (go_over s (gain_for s gains) (slot_at records) st rows).result
      (rows_stopped s (gain_for s gains) (slot_at records) st (rows_in rows) (is_cut rows))
      (rows_unrefused s (gain_for s gains) (slot_at records) st (rows_in rows) (is_cut rows))
    where
      by : (x : Ran) → OnStopped AtRow x → refused_by x ≡ 0 → ((refusal_by x).number ≡ 0 → ⊥) → ((refusal_by x).number ≡ wrong_row → ⊥) →
          ((refusal_by x).number ≡ power_too_low → ⊥) → ⊥
      by (Ran.Done st) w u a b c = a refl
      by (Ran.Stopped st r) w u a b c = ⊎_elim b c w.its_number
      by (Ran.Refused r) w u a b c = a u

  pub all_kept : (job : List ℕ) →
      (let told = next_of job rows before out in (told.refusal.number ≡ 0 → ⊥) → (told.refusal.number ≡ wrong_row → ⊥) →
      (told.refusal.number ≡ power_too_low → ⊥) → Left told)
  all_kept job =
      told_cases (λ t. (t.refusal.number ≡ 0 → ⊥) → (t.refusal.number ≡ wrong_row → ⊥) → (t.refusal.number ≡ power_too_low → ⊥) → Left t)
      (λ t e f a b c. (e, f)) (λ s gains records st e a b c. absurd (run_stops s gains records st a b c)) job

  module _ (one : length rows ≡ row_bytes) where
    abbrev UnlessTaken : NextTold → Type 0
    UnlessTaken told = (told.refusal.number ≡ 0 → ⊥) → Left told

    -- the one row of a run: taken, or refused in the state that the numbers are
    one_row : (s : Settings) (gains records : List ℕ) (st : State) → unpacked_of before.numbers before.level ≡ Some st → (x : Stepped) →
        UnlessTaken (lent_after before (written out 0 (followed st x (λ next. go s (gain_for s gains) (slot_at records) next [] false))))
    unfolding closing go refusal_by lent_by all_numbers
    one_row s gains records st e (Ok (next, a)) f = absurd (f refl)
    one_row s gains records st e (Err r) f = (stopped_lent before.numbers before.level st r e, refl)

    the_row : (s : Settings) (gains records : List ℕ) (st : State) → unpacked_of before.numbers before.level ≡ Some st →
        UnlessTaken (lent_after before (written out 0 (go_over s (gain_for s gains) (slot_at records) st rows)))
    unfolding go rows_from
    the_row s gains records st e =
        let w = offered_whole rows 1 one in
        rw (w.0, w.1) (one_row s gains records st e (row_of s (gain_for s gains) (slot_at records st.row) st (row_at rows 0)))

    pub one_kept : (job : List ℕ) → UnlessTaken (next_of job rows before out)
    one_kept job = told_cases UnlessTaken (λ t e f a. (e, f)) the_row job

-- a start that is refused leaves the lent state
pub start_kept : (job : List ℕ) (before : Lent) → ((started_lent job before).refusal.number ≡ 0 → ⊥) → (started_lent job before).state ≡ before
unfolding started_lent start_handed
start_kept job before = by (loaded_of job)
  where
    sized : (t : Bool) (st : State) → ((started_in t st before).refusal.number ≡ 0 → ⊥) → (started_in t st before).state ≡ before
    sized true st f = absurd (f refl)
    sized false st f = refl

    by : (l : Loaded) → ((start_by l before).refusal.number ≡ 0 → ⊥) → (start_by l before).state ≡ before
    by (Ok (s, b)) f = sized (eqb (length before.numbers) state_numbers) (state_start s) f
    by (Err r) f = refl

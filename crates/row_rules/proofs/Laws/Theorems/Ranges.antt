-- Every state handed out by a start, a step or a run is in its ranges and never answered with 11. So is every state of a history, and its rows are a step's.
-- Assumes nothing.
use Prim.Native.Nat.{ℕ, zero, suc, ◌≤◌, ◌<◌}
use Rattle.std.specs.Prelude.{◌≡◌, refl, true, List, ℤ, Ok, Err}
use Rattle.std.proofs.Common.{ap, ap₂, ◌∙◌, le_refl}
use native.Mathlib.Omega.{arith}
use Rattle.ground.proofs.Laws.Choice.{clash}
use Rattle.constants.specs.Sizes.{rows_most}
use Rattle.constants.specs.Refusals.{refusal, wrong_state}
use Rattle.gap_slots.specs.Slots.{slot_at}
use Rattle.job_settings.specs.declared.Settings.{Settings}
use Rattle.row_state.specs.declared.State.{State}
use Rattle.power.proofs.Laws.Gain.{gain_in}
use Rattle.power.specs.Triples.{TripleIn}
use Rattle.job_settings.specs.Settings.{SettingsIn}
use Rattle.job_settings.specs.Gains.{triple_at}
use Rattle.row_state.specs.States.{state_start, StateIn}
use Rattle.row_state.proofs.Laws.States.{start_in}
use Rattle.row_values.specs.declared.Row.{Row}
use Rattle.row_values.specs.declared.Answer.{Answer}
use Rattle.row_rules.specs.Stepping.{Stepped}
use Rattle.row_rules.specs.declared.Ran.{Ran}
use Rattle.row_rules.specs.Ranges.{InRanges}
use Rattle.row_rules.specs.Rules.{gain_for, number_of, OnTaken, row_of, step_of}
use Rattle.row_rules.proofs.Laws.Rules.{row_closed}
use Rattle.row_rules.specs.Runs.{refused_by, OnRun, ended, run_of}
use Rattle.row_rules.specs.History.{History, Accepted, accepted, state_after, state_at, stepped_at}
use Rattle.row_rules.specs.Refusing.{IsF64, StateRanged, HandedOut}
use Rattle.row_rules.specs.Theorems.{offered_to}
use Rattle.row_rules.proofs.Laws.Theorems.Refusals.{ranged_admits, step_cases, not_row, step_closed, step_refused}
use Rattle.row_rules.proofs.Laws.Theorems.Runs.{run_cases, number, ran, run_closed}
use Rattle.row_rules.proofs.Laws.Theorems.Slots.{slots_said}

-- a state in its ranges passes the test, and no step and no run answers it with 11
pub ranged_handed : (s : Settings) (gains : List ℕ) (st : State) → StateRanged s gains st → HandedOut s gains st
unfolding number_of refused_by
ranged_handed s gains st r =
    let p = ranged_admits s gains st r in
    record {
      ranged = r;
      passes = p;
      never_step = λ records row. step_cases s gains records st row (λ x. x ≡ Err (refusal wrong_state 0) → ⊥)
          (λ l e. let z : 7 ≡ 11 = ap number_of e in omega arith)
          (λ l a e. not_row s gains records st row 11 (omega arith) (ap number_of e)) (λ l a e. clash p a);
      never_run = λ records rows out. run_cases s gains records st rows out (λ x. x ≡ ended (Ran.Refused (refusal wrong_state 0)) out → ⊥)
          (λ m e. let z : 7 ≡ 11 = number s gains records st rows out e in omega arith)
          (λ m l e. let z : 10 ≡ 11 = number s gains records st rows out e in omega arith)
          (λ m l a e. ran s gains records st rows out 11 (number s gains records st rows out e) (omega arith)) (λ m l a e. clash p a);
    }

pub start_handed_lem : (s : Settings) (gains : List ℕ) → SettingsIn s → TripleIn (triple_at gains 0) → HandedOut s gains (state_start s)
start_handed_lem s gains h t = ranged_handed s gains (state_start s) (record { settings = h; triple = t; state = start_in (gain_for s gains).ceiling h })

pub step_handed : (s : Settings) (gains records : List ℕ) (st : State) (row : Row) {next : State} {a : Answer} → IsF64 st →
    step_of s gains records st row ≡ Ok (next, a) → HandedOut s gains next
step_handed s gains records st row {next} f e = ranged_handed s gains next (step_closed s gains records st row f e)

pub run_handed : (s : Settings) (gains records : List ℕ) (st : State) (rows : List ℕ) (out : List ℤ) → IsF64 st →
    OnRun (HandedOut s gains) (run_of s gains records st rows out).result
unfolding OnRun
run_handed s gains records st rows out f = by (run_of s gains records st rows out).result (run_closed s gains records st rows out f)
  where
    by : (x : Ran) → OnRun (StateRanged s gains) x → OnRun (HandedOut s gains) x
    by (Ran.Done n) h = ranged_handed s gains n h
    by (Ran.Stopped n r) h = ranged_handed s gains n h
    by (Ran.Refused r) h = tt

-- ---- a history

-- the state before a row is that of the rows before it
pub state_before : (s : Settings) (gains records : List ℕ) (rows others : ℕ → Row) (k : ℕ) → ((i : ℕ) → i < k → rows i ≡ others i) →
    state_at (offered_to s gains records rows) k ≡ state_at (offered_to s gains records others) k
unfolding state_at
state_before s gains records rows others zero e = refl
state_before s gains records rows others (suc k) e =
    ap₂ (λ (st : State) (row : Row). state_after st (row_of s (gain_for s gains) (slot_at records k) st row))
    (state_before s gains records rows others k (λ i l. e i (omega arith))) (e k (le_refl (suc k)))

module _ (s : Settings) (gains records : List ℕ) (row : ℕ → Row) (b : SettingsIn s) (t : TripleIn (triple_at gains 0)) where
  abbrev h : History
  h = offered_to s gains records row

  -- what an accepted row hands out
  handed : (P : State → Type 0) (st : State) (x : Stepped) → accepted x ≡ true → OnTaken (λ n a. P n) x → P (state_after st x)
  unfolding accepted state_after OnTaken
  handed P st (Ok (n, a)) e q = q
  handed P st (Err r) e q = absurd (clash e refl)

  history_closed : {n : ℕ} → n ≤ rows_most → Accepted h n → (k : ℕ) → k ≤ n → StateRanged s gains (state_at h k)
  unfolding state_at
  history_closed m a zero l = record { settings = b; triple = t; state = start_in (gain_for s gains).ceiling b }
  history_closed {n} m a (suc k) l =
      let j : k ≤ n = omega arith in
      let r = history_closed m a k j in
      let i = (slots_said h a k j).row in
      let fine : InRanges s (gain_for s gains) (state_at h k) =
      record { settings = b; gain = gain_in t.ranged b.maximum; state = r.state; room = omega arith } in
      record {
        settings = b;
        triple = t;
        state =
            handed (StateIn s.links (gain_for s gains).ceiling) (state_at h k) (stepped_at h k) (a k l) (row_closed (slot_at records k) _ fine);
      }

  -- every state of a history is in its ranges
  pub history_handed : {n : ℕ} → n ≤ rows_most → Accepted h n → (k : ℕ) → k ≤ n → HandedOut s gains (state_at h k)
  history_handed m a k l = ranged_handed s gains (state_at h k) (history_closed m a k l)

  -- and a step from it, offered the next row, is that row
  pub step_history : {n : ℕ} → n < rows_most → Accepted h n → step_of s gains records (state_at h n) (h.row n) ≡ stepped_at h n
  step_history {n} m a =
      let r = history_closed {n = n} (omega arith) a n (le_refl n) in
      let i = (slots_said h a n (le_refl n)).row in
      (step_refused s gains records (state_at h n) (h.row n) r.state.filter_in.level.fits).by_row (omega arith) r
      ∙ ap (λ (j : ℕ). row_of s (gain_for s gains) (slot_at records j) (state_at h n) (h.row n)) i

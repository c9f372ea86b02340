-- Refusals 7, 8, 9 and 11 of a row and a step, exactly when stated.
-- Assumes nothing.
use Rattle.std.specs.Prelude.{ℕ, ◌≤◌, ◌<◌, ◌≡◌, ◌↔◌, ◌⊎◌, Bool, ◌&&◌, List, leb, ◌≤ℤ◌, ◌<ℤ◌, Ok, Err}
use Rattle.std.proofs.Math.Path.{refl, sym, ap}
use Rattle.std.proofs.Common.{◌∙◌}
use Rattle.std.proofs.Math.Logic.{inl, inr, ⊎_elim}
use Rattle.std.proofs.Math.Bool.{true, false, not}
use native.Mathlib.Omega.{arith}
use borrow.Author.Tests.{ltb-false, le-ltb, leb-true, leb-false, not-false}
use Rattle.std.proofs.Math.Dec.{ltb}
use Rattle.ground.specs.Choice.{when◌then◌else◌}
use Rattle.ground.proofs.Laws.Choice.{clash, if_true, if_false, either, both, neither}
use Rattle.ground.proofs.Laws.Integers.Signs.{signs}
use Rattle.ground.specs.Outside.{outside}
use Rattle.ground.proofs.Laws.Ranges.{inside, not_outside}
use Rattle.constants.specs.Sizes.{rows_most, power_least, pilots_least, pilots_most}
use Rattle.constants.specs.Refusals.{refusal, too_many_rows, wrong_row, power_too_low, wrong_state}
use Rattle.gap_slots.specs.declared.Slot.{Slot}
use Rattle.gap_slots.specs.Slots.{opens_uplink, opens_downlink, slot_at}
use Rattle.command_algorithms.specs.Sets.{within_links}
use Rattle.command_algorithms.proofs.Laws.Sets.{within_bits}
use Rattle.power.specs.declared.Gain.{Gain}
use Rattle.job_settings.specs.declared.Settings.{Settings}
use Rattle.row_state.specs.declared.State.{State}
use Rattle.power.proofs.Laws.Gain.{gain_in}
use Rattle.job_settings.specs.Settings.{settings_sound}
use Rattle.job_settings.proofs.Laws.Settings.{sound_exactly}
use Rattle.job_settings.specs.Gains.{gains_sound}
use Rattle.job_settings.proofs.Laws.Gains.{gains_exactly}
use Rattle.row_state.specs.States.{state_sound, StateIn}
use Rattle.row_state.proofs.Laws.States.{sound_in, in_sound}
use Rattle.row_values.specs.declared.Row.{Row}
use Rattle.row_values.specs.declared.Answer.{Answer}
use Rattle.row_rules.specs.Stepping.{Stepped}
use Rattle.row_rules.specs.Ranges.{InRanges}
use Rattle.row_rules.specs.Rules.{gain_for, number_of, commands_wrong, pilots_wrong, row_wrong, row_of, sum_at, admits, step_of}
use Rattle.row_rules.proofs.Laws.Rules.{row_cases, row_closed, on_taken}
use Rattle.row_rules.specs.History.{accepted}
use Rattle.row_rules.specs.Refusing.{Keeps, RowRefused, IsF64, StateRanged, StepRefused}
use Rattle.row_rules.specs.Says.{RowSays}

-- two answers of different numbers differ
apart : {x y : Stepped} → x ≡ y → number_of x ≡ number_of y
apart e = ap number_of e

-- ---- the bytes of a row

module _ (links : ℕ) (slot : Slot) (row : Row) where
  pub keeps_right : Keeps links slot row → row_wrong links slot row ≡ false
  unfolding row_wrong commands_wrong pilots_wrong
  keeps_right k = rw (
    ap not ((within_bits row.commands links).1 k.bits),
    silent (opens_downlink slot) k.silent,
    pilot (opens_uplink slot) k.unsent k.sent,
  )
    where
      silent : (down : Bool) → (down ≡ true → row.commands ≡ 0) → down && ltb 0 row.commands ≡ false
      silent true f = le-ltb 0 row.commands (let z = f refl in omega arith)
      silent false f = refl

      pilot : (up : Bool) → (up ≡ true → row.pilots ≡ 0) → (up ≡ false → (pilots_least ≤ row.pilots) × (row.pilots ≤ pilots_most)) →
          (when up then ltb 0 row.pilots else outside pilots_least pilots_most row.pilots) ≡ false
      pilot true f g = le-ltb 0 row.pilots (let z = f refl in omega arith)
      pilot false f g = let q = g refl in not_outside pilots_least pilots_most row.pilots q.0 q.1

  pub right_keeps : row_wrong links slot row ≡ false → Keeps links slot row
  unfolding row_wrong commands_wrong pilots_wrong
  right_keeps e =
      let p = neither (commands_wrong links (opens_downlink slot) row.commands) (pilots_wrong (opens_uplink slot) row.pilots) e in
      let q = neither (not (within_links row.commands links)) (opens_downlink slot && ltb 0 row.commands) p.0 in
      record {
        bits = (within_bits row.commands links).0 (not-false _ q.0);
        silent = λ d. (let z : ltb 0 row.commands ≡ false = sym (ap (λ (b : Bool). b && ltb 0 row.commands) d) ∙ q.1 in
            omega (arith, ltb-false 0 row.commands z));
        unsent = λ u. omega (arith, ltb-false 0 row.pilots (if_true _ _ u ∙ p.1));
        sent = λ u. inside pilots_least pilots_most row.pilots (if_false _ _ u ∙ p.1);
      }

-- ---- a row

module _ (s : Settings) (g : Gain) (slot : Slot) (st : State) (row : Row) where
  abbrev outcome : Stepped
  outcome = row_of s g slot st row

  Good : Type 0
  Good = Keeps s.links slot row

  Low : Type 0
  Low = sum_at s slot st row <ℤ power_least

  High : Type 0
  High = (opens_uplink slot ≡ true) ⊎ (power_least ≤ℤ sum_at s slot st row)

  abbrev Says : Stepped → Type 0
  Says = RowSays s g slot st row

  -- what each case says
  pub row_says : RowSays s g slot st row outcome
  row_says =
      row_cases s g slot st row Says
      (λ w. RowSays.eight (λ k. clash w (keeps_right s.links slot row k)))
      (λ w u. RowSays.gap (right_keeps s.links slot row w) u)
      (λ w u l. RowSays.nine (right_keeps s.links slot row w) u (omega (signs, l)))
      (λ w u l. RowSays.sent (right_keeps s.links slot row w) u (omega (signs, l)))

  -- a power that is low is that of a row that is sent, and not high
  not_both : opens_uplink slot ≡ false → Low → High → ⊥
  unfolding Low High
  not_both u l = ⊎_elim (λ (v : opens_uplink slot ≡ true). clash v u) (λ (m : power_least ≤ℤ sum_at s slot st row). omega (signs, l, m))

  eight : {x : Stepped} → Says x → x ≡ Err (refusal wrong_row st.row) ↔ (Good → ⊥)
  unfolding number_of Good
  eight (RowSays.eight n) = (λ e. n, λ m. refl)
  eight (RowSays.nine k u l) = (λ e. absurd (let z : 9 ≡ 8 = ap number_of e in omega arith), λ m. absurd (m k))
  eight (RowSays.gap k u) = (λ e. absurd (let z : 0 ≡ 8 = ap number_of e in omega arith), λ n. absurd (n k))
  eight (RowSays.sent k u l) = (λ e. absurd (let z : 0 ≡ 8 = ap number_of e in omega arith), λ n. absurd (n k))

  nine : {x : Stepped} → Says x → x ≡ Err (refusal power_too_low st.row) ↔ (Good × (opens_uplink slot ≡ false) × Low)
  unfolding number_of Good Low High
  nine (RowSays.eight n) = (λ e. absurd (let z : 8 ≡ 9 = ap number_of e in omega arith), λ q. absurd (n q.0))
  nine (RowSays.nine k u l) = (λ e. (k, u, l), λ q. refl)
  nine (RowSays.gap k u) = (λ e. absurd (let z : 0 ≡ 9 = ap number_of e in omega arith), λ q. absurd (not_both q.1 q.2 (inl u)))
  nine (RowSays.sent k u l) = (λ e. absurd (let z : 0 ≡ 9 = ap number_of e in omega arith), λ q. absurd (not_both q.1 q.2 (inr l)))

  taken_else : {x : Stepped} → Says x → accepted x ≡ true ↔ (Good × High)
  unfolding accepted Good Low High
  taken_else (RowSays.eight n) = (λ e. absurd (clash e refl), λ q. absurd (n q.0))
  taken_else (RowSays.nine k u l) = (λ e. absurd (clash e refl), λ q. absurd (not_both u l q.1))
  taken_else (RowSays.gap k u) = (λ e. (k, inl u), λ q. refl)
  taken_else (RowSays.sent k u l) = (λ e. (k, inr l), λ q. refl)

  -- a row has no other number
  pub row_number_lem : (n : ℕ) → (n ≡ 0 → ⊥) → (n ≡ 8 → ⊥) → (n ≡ 9 → ⊥) → number_of outcome ≡ n → ⊥
  unfolding number_of
  row_number_lem n a b c = by row_says
    where
      by : {x : Stepped} → Says x → number_of x ≡ n → ⊥
      by (RowSays.eight m) e = b (sym e)
      by (RowSays.nine k u l) e = c (sym e)
      by (RowSays.gap k u) e = a (sym e)
      by (RowSays.sent k u l) e = a (sym e)

  pub row_refused : RowRefused s g slot st row
  unfolding Good Low High
  row_refused = record { eight = eight row_says; nine = nine row_says; else_taken = taken_else row_says }

-- ---- a step

module _ (s : Settings) (gains : List ℕ) (st : State) where
  pub admits_ranged : IsF64 st → admits s gains st ≡ true → StateRanged s gains st
  unfolding admits
  admits_ranged f e =
      let p = both (settings_sound s && gains_sound gains) (state_sound s.links (gain_for s gains).ceiling st) e in
      let q = both (settings_sound s) (gains_sound gains) p.0 in
      record {
        settings = (sound_exactly s).0 q.0;
        triple = (gains_exactly gains).0 q.1;
        state = sound_in (record { is = refl; fits = f }) p.1;
      }

  pub ranged_admits : StateRanged s gains st → admits s gains st ≡ true
  unfolding admits
  ranged_admits r = rw ((sound_exactly s).1 r.settings, (gains_exactly gains).1 r.triple, in_sound r.state)

module _ (s : Settings) (gains records : List ℕ) (st : State) (row : Row) where
  abbrev pub row_here : Stepped
  row_here = row_of s (gain_for s gains) (slot_at records st.row) st row

  pub step_cases : (P : Stepped → Type 0) → (rows_most ≤ st.row → P (Err (refusal too_many_rows rows_most))) →
      (st.row < rows_most → admits s gains st ≡ true → P row_here) →
      (st.row < rows_most → admits s gains st ≡ false → P (Err (refusal wrong_state 0))) → P (step_of s gains records st row)
  unfolding step_of
  step_cases P late on out =
      either P (leb rows_most st.row) (λ e. late (leb-true rows_most st.row e)) (λ e.
      let l = leb-false rows_most st.row e in
      either P (admits s gains st) (on l) (out l))

  -- a row never answers with these
  pub not_row : (n : ℕ) → 9 < n → number_of row_here ≡ n → ⊥
  not_row n l e = row_number_lem s (gain_for s gains) (slot_at records st.row) st row n (λ z. omega arith) (λ z. omega arith) (λ z. omega arith) e

  seven_row : number_of row_here ≡ 7 → ⊥
  seven_row e = row_number_lem s (gain_for s gains) (slot_at records st.row) st row 7 (λ z. omega arith) (λ z. omega arith) (λ z. omega arith) e

  pub step_refused : IsF64 st → StepRefused s gains records st row
  unfolding number_of
  step_refused f = record { seven = (seven_there, seven_back); eleven = (eleven_there, eleven_back); by_row = row_there }
    where
      late : rows_most ≤ st.row → st.row < rows_most → ⊥
      late a b = omega arith

      seven_there : step_of s gains records st row ≡ Err (refusal too_many_rows rows_most) → rows_most ≤ st.row
      seven_there = step_cases (λ x. x ≡ Err (refusal too_many_rows rows_most) → rows_most ≤ st.row) (λ l e. l)
          (λ l a e. absurd (seven_row (ap number_of e))) (λ l a e. absurd (let z : 11 ≡ 7 = ap number_of e in omega arith))

      seven_back : rows_most ≤ st.row → step_of s gains records st row ≡ Err (refusal too_many_rows rows_most)
      seven_back h = step_cases (λ x. x ≡ Err (refusal too_many_rows rows_most)) (λ l. refl) (λ l a. absurd (late h l)) (λ l a. absurd (late h l))

      eleven_there : step_of s gains records st row ≡ Err (refusal wrong_state 0) → (st.row < rows_most) × (StateRanged s gains st → ⊥)
      eleven_there =
          step_cases (λ x. x ≡ Err (refusal wrong_state 0) → (st.row < rows_most) × (StateRanged s gains st → ⊥))
          (λ l e. absurd (let z : 7 ≡ 11 = ap number_of e in omega arith))
          (λ l a e. absurd (not_row 11 (omega arith) (ap number_of e))) (λ l a e. (l, λ r. clash (ranged_admits s gains st r) a))

      eleven_back : (st.row < rows_most) × (StateRanged s gains st → ⊥) → step_of s gains records st row ≡ Err (refusal wrong_state 0)
      eleven_back q = step_cases (λ x. x ≡ Err (refusal wrong_state 0)) (λ l. absurd (late l q.0))
          (λ l a. absurd (q.1 (admits_ranged s gains st f a))) (λ l a. refl)

      row_there : st.row < rows_most → StateRanged s gains st → step_of s gains records st row ≡ row_here
      row_there h r = step_cases (λ x. x ≡ row_here) (λ l. absurd (late l h)) (λ l a. refl) (λ l a. absurd (clash (ranged_admits s gains st r) a))

  -- every state that a step hands out is in its ranges
  pub step_closed : {next : State} {a : Answer} → IsF64 st → step_of s gains records st row ≡ Ok (next, a) → StateRanged s gains next
  unfolding number_of
  step_closed {next} {a} f =
      step_cases (λ x. x ≡ Ok (next, a) → StateRanged s gains next) (λ l e. absurd (let z : 7 ≡ 0 = ap number_of e in omega arith))
      (λ l q e.
      let r = admits_ranged s gains st f q in
      let fine : InRanges s (gain_for s gains) st = record {
        settings = r.settings;
        gain = gain_in r.triple.ranged r.settings.maximum;
        state = r.state;
        room = l;
      } in
      record {
        settings = r.settings;
        triple = r.triple;
        state =
            on_taken (λ n b. StateIn s.links (gain_for s gains).ceiling n) e (row_closed (slot_at records st.row) row fine);
      })
      (λ l q e. absurd (let z : 11 ≡ 0 = ap number_of e in omega arith))

-- The laws of a state: it starts in its ranges, and the test says exactly that a state is in them.
-- Assumes nothing.
use Rattle.std.specs.Prelude.{ℕ, ◌≤◌, ◌≡◌, refl, Bool, true, ℤ, pos, negsuc, nat_abs}
use Rattle.std.proofs.Common.{sym, ◌∙◌, arith}
use borrow.Author.Tests.{ltb-true, ltb-false, le-ltb, leb-true, le-leb}
use Rattle.ground.proofs.Laws.Choice.{clash, either, both, chain_off, if_true, if_false}
use Rattle.ground.specs.Integers.{Within}
use Rattle.ground.proofs.Laws.Integers.Products.{abs_in, abs_out}
use Rattle.ground.proofs.Laws.Integers.Signs.{signs, within_yes, yes_within}
use Rattle.constants.specs.Sizes.{rows_most, pilots_least, pilots_most}
use Rattle.gap_runs.proofs.Laws.Runs as runs
use Rattle.command_algorithms.proofs.Laws.Sets as sets
use Rattle.resume_filter.proofs.Laws.Update as filters
use Rattle.job_settings.specs.declared.Settings.{Settings}
use Rattle.row_state.specs.declared.State.{State}
use Rattle.job_settings.specs.Settings.{SettingsIn}
use Rattle.row_state.specs.States.{state_start, Starts, UnsentIn, SentIn, StateIn}
use Rattle.row_state.specs.States.{opening_sound, slots_sound, unsent_sound, sent_sound, books_sound, state_sound, StateTested}

-- ---- the start

pub starts : (s : Settings) → Starts s
unfolding state_start
starts s =
    record { row = refl; sent = refl; power = refl; held = refl; pilots = refl; limited = refl; run = refl; opening = refl; set = refl; filter = refl }

-- before row 0 a state is in its ranges, under any ceiling
pub start_in : {s : Settings} (ceiling : ℤ) → SettingsIn s → StateIn s.links ceiling (state_start s)
unfolding state_start
start_in {s} ceiling h =
    record {
      row_in = omega arith;
      unsent = λ _. record { power_in = h.start; held_is = refl; pilots_is = refl };
      sent = λ e. absurd (clash e refl);
      run_in = runs.start_in;
      opening_in = omega arith;
      set_in = sets.fresh_in s.links;
      filter_in = filters.empty_in;
    }

-- ---- the parts of the test, both ways

opening_yes : (command : ℤ) → opening_sound command ≡ true → nat_abs command ≤ 1
unfolding opening_sound
opening_yes command e = let h = within_yes (negsuc 0) (pos 1) command e in abs_out command (omega signs) (omega signs)

yes_opening : (command : ℤ) → nat_abs command ≤ 1 → opening_sound command ≡ true
unfolding opening_sound
yes_opening command h =
    let k = abs_in command h in
    let w : Within (negsuc 0) (pos 1) command = record { low = omega signs; high = omega signs } in
    yes_within w

module _ {power held : ℤ} {pilots : ℕ} where
  unsent_yes : unsent_sound power held pilots ≡ true → UnsentIn power held pilots
  unfolding unsent_sound
  unsent_yes e =
      let h = both _ _ e in
      let k = both _ _ h.0 in
      let z = within_yes (pos 0) (pos 0) held k.1 in
      record { power_in = within_yes _ _ power k.0; held_is = omega signs; pilots_is = omega (arith, ltb-true pilots 1 h.1) }

  yes_unsent : UnsentIn power held pilots → unsent_sound power held pilots ≡ true
  unfolding unsent_sound
  yes_unsent h = simp (yes_within h.power_in, h.held_is, h.pilots_is)

  module _ {ceiling : ℤ} {row : ℕ} where
    sent_yes : sent_sound ceiling row power held pilots ≡ true → SentIn ceiling row power held pilots
    unfolding sent_sound
    sent_yes e =
        let h = both _ _ e in
        let k = both _ _ h.0 in
        let l = both _ _ k.0 in
        record {
          power_in = within_yes _ _ power l.0;
          held_in = within_yes _ _ held l.1;
          pilots_in = (leb-true pilots_least pilots k.1, leb-true pilots pilots_most h.1);
        }

    yes_sent : SentIn ceiling row power held pilots → sent_sound ceiling row power held pilots ≡ true
    unfolding sent_sound
    yes_sent h =
        let p = h.pilots_in in
        simp (yes_within h.power_in, yes_within h.held_in, le-leb pilots_least pilots p.0, le-leb pilots pilots_most p.1)

-- ---- the test

-- what passed the test
pub sound_in : {links : ℕ} {ceiling : ℤ} {st : State} {answer : Bool} → StateTested links ceiling st answer → answer ≡ true → StateIn links ceiling st
unfolding state_sound slots_sound books_sound
sound_in {st} t e =
    let h = chain_off _ _ (sym t.is ∙ e) in
    let k = both _ _ h.1 in
    let l = both _ _ k.0 in
    let m = both _ _ l.1 in
    let n = both _ _ m.0 in
    record {
      row_in = ltb-false rows_most st.row h.0;
      unsent = λ u. unsent_yes (if_false _ _ u ∙ k.1);
      sent = λ u. sent_yes (if_true _ _ u ∙ k.1);
      run_in = runs.sound_in st.run n.0;
      opening_in = opening_yes st.opening.command n.1;
      set_in = sets.sound_in m.1;
      filter_in = filters.sound_in (record { is = sym l.0; fits = t.fits }) refl;
    }

-- and what is in its ranges passes
pub in_sound : {links : ℕ} {ceiling : ℤ} {st : State} → StateIn links ceiling st → state_sound links ceiling st ≡ true
unfolding state_sound slots_sound books_sound
in_sound {st} h =
    simp (
      le-ltb rows_most st.row h.row_in,
      filters.in_sound h.filter_in,
      runs.in_sound st.run h.run_in,
      yes_opening st.opening.command h.opening_in,
      sets.in_sound h.set_in,
    )
    (either (λ (t : Bool). t ≡ true) st.sent (λ e. yes_sent (h.sent e)) (λ e. yes_unsent (h.unsent e)))

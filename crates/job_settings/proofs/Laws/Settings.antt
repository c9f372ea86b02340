-- The laws of the settings: they have no fault exactly where every rule is kept.
-- Assumes nothing.
pub mod Faults
use Rattle.std.specs.Prelude.{ℕ, ◌≤◌, ◌≡◌, refl, ◌↔◌, Bool, true, false, not, ◌&&◌, ltb, eqb, pos, negsuc, Option, Some, None}
use Rattle.std.specs.Option.{is_none}
use Rattle.std.proofs.Common.{arith}
use borrow.Author.Tests.{ltb-false, le-ltb, eqb-true, eqb-false, eq-eqb, not-false}
use Rattle.ground.proofs.Laws.Choice.{clash, both}
use Rattle.ground.proofs.Laws.Choice.Faults.{passed_by}
use Rattle.ground.specs.Integers.{within}
use Rattle.ground.proofs.Laws.Integers.Signs.{within_yes, yes_within}
use Rattle.ground.proofs.Laws.Ranges.{inside, not_outside}
use Rattle.constants.specs.Sizes.{power_least, start_most}
use Rattle.job_settings.specs.declared.Settings.{Settings}
use Rattle.job_settings.specs.Settings.{rule_fault, power_fault, settings_sound, SettingsIn}

-- "only 1 with PCA 2"
step_one : (pca step : ℕ) → eqb pca 2 && eqb step 2 ≡ false → step ≤ 2 → 1 ≤ step → pca ≡ 2 → step ≡ 1
step_one pca step e h k p = let n = eqb-false step 2 (simp (eq-eqb pca 2 p) at e) in omega arith

one_step : (pca step : ℕ) → (pca ≡ 2 → step ≡ 1) → eqb pca 2 && eqb step 2 ≡ false
one_step pca step f = by (eqb pca 2) refl
  where
    by : (t : Bool) → eqb pca 2 ≡ t → t && eqb step 2 ≡ false
    by true p = rw (f (eqb-true pca 2 p))
    by false p = refl

-- nothing is named exactly where the test says so
pub unnamed : {o : Option ℕ} → is_none o ≡ true → o ≡ None
unnamed {o = None} e = refl
unnamed {o = Some n} e = absurd (clash e refl)

module _ (s : Settings) where
  -- where neither rules nor powers have a fault, every rule is kept
  pub fault_in : (blank : ℕ) → rule_fault s ≡ None → power_fault s blank ≡ None → SettingsIn s
  unfolding rule_fault power_fault
  fault_in blank d e =
      let p0 = passed_by 0 d in
      let p1 = passed_by 1 p0.1 in
      let p2 = passed_by 1 p1.1 in
      let p3 = passed_by 2 p2.1 in
      let p4 = passed_by 3 p3.1 in
      let p5 = passed_by 4 p4.1 in
      let q0 = passed_by {b = not (within (negsuc 49) (pos 33) s.maximum)} 0 e in
      let q1 = passed_by {b = ltb 0 blank} 1 q0.1 in
      let q2 = passed_by {b = not (within power_least start_most s.start)} 2 q1.1 in
      let step = inside 1 2 s.step p1.0 in
      record {
        pca = inside 1 2 s.pca p0.0;
        step = step;
        only = step_one s.pca s.step p2.0 step.1 step.0;
        itp = ltb-false 1 s.itp p3.0;
        rpp = ltb-false 1 s.rpp p4.0;
        links = inside 1 6 s.links p5.0;
        maximum = within_yes _ _ s.maximum (not-false _ q0.0);
        start = within_yes _ _ s.start (not-false _ q2.0);
      }

  in_sound : SettingsIn s → settings_sound s ≡ true
  unfolding rule_fault power_fault settings_sound
  in_sound h =
      simp (
        not_outside 1 2 s.pca h.pca.0 h.pca.1,
        not_outside 1 2 s.step h.step.0 h.step.1,
        one_step s.pca s.step h.only,
        le-ltb 1 s.itp h.itp,
        le-ltb 1 s.rpp h.rpp,
        not_outside 1 6 s.links h.links.0 h.links.1,
        yes_within h.maximum,
        yes_within h.start,
      )

  -- settings are sound exactly where every rule is kept
  pub sound_exactly : settings_sound s ≡ true ↔ SettingsIn s
  unfolding settings_sound
  sound_exactly = (λ e. let w = both _ _ e in fault_in 0 (unnamed w.0) (unnamed w.1), in_sound)

-- The byte of a fault: it breaks its rule, and none before it does.
-- Assumes nothing.
use Rattle.std.specs.Prelude.{ℕ, ◌≤◌, ◌<◌, ◌≡◌, refl, ◌&&◌, pos, negsuc, eqb, Option, Some}
use Rattle.std.proofs.Math.Bool.{not}
use Rattle.std.proofs.Common.{arith, lit<}
use borrow.Author.Tests.{ltb-true, lt-ltb, eqb-true, eq-eqb, not-false}
use Rattle.std.proofs.Math.Dec.{ltb, lit≤}
use Rattle.ground.specs.Choice.{when◌then◌else◌}
use Rattle.ground.proofs.Laws.Choice.Faults.{FirstFault, UpTo, skip, hit, Named, met, none_met, first_fault}
use Rattle.ground.proofs.Laws.Choice.{clash, must, either, both}
use Rattle.ground.specs.Integers.{within}
use Rattle.ground.proofs.Laws.Integers.Signs.{within_yes, yes_within}
use Rattle.ground.specs.Outside.{outside}
use Rattle.ground.proofs.Laws.Ranges.{inside, outside_exactly}
use Rattle.constants.specs.Sizes.{power_least, start_most}
use Rattle.job_settings.specs.declared.Settings.{Settings}
use Rattle.job_settings.specs.Settings.{rule_fault, power_fault, RuleBreaks, PowerBreaks}

-- "step against PCA at 1"
step_met : (pca step : ℕ) (y : Option ℕ) → pca ≡ 2 → (step ≡ 1 → ⊥) →
    UpTo 1 (when outside 1 2 step then Some 1 else when eqb pca 2 && eqb step 2 then Some 1 else y)
step_met pca step y e f =
    either (UpTo 1) (outside 1 2 step) (λ _. record { at = 1; named = refl; up = lit≤ tt })
    (λ g. let h = inside 1 2 step g in hit {b = eqb pca 2 && eqb step 2} y (rw (eq-eqb pca 2 e, eq-eqb step 2 (omega (arith, h.0, h.1)))) (lit≤ tt))

module _ (s : Settings) where
  -- ---- of the rules

  rule_below : {n : ℕ} → RuleBreaks s n → n < 5
  rule_below (RuleBreaks.pca f) = lit< tt
  rule_below (RuleBreaks.step f) = lit< tt
  rule_below (RuleBreaks.against e f) = lit< tt
  rule_below (RuleBreaks.itp h) = lit< tt
  rule_below (RuleBreaks.rpp h) = lit< tt
  rule_below (RuleBreaks.links f) = lit< tt

  rule_least : {n : ℕ} → RuleBreaks s n → UpTo n (rule_fault s)
  unfolding rule_fault
  rule_least (RuleBreaks.pca f) = let e = (outside_exactly 1 2 s.pca).1 f in search (skip, hit, lit≤, tt, e) depth 14
  rule_least (RuleBreaks.step f) = let e = (outside_exactly 1 2 s.step).1 f in search (skip, hit, lit≤, tt, e) depth 14
  rule_least (RuleBreaks.against e f) = skip (outside 1 2 s.pca) (lit≤ tt) (step_met s.pca s.step _ e f)
  rule_least (RuleBreaks.itp h) = let e = lt-ltb 1 s.itp h in search (skip, hit, lit≤, tt, e) depth 14
  rule_least (RuleBreaks.rpp h) = let e = lt-ltb 1 s.rpp h in search (skip, hit, lit≤, tt, e) depth 14
  rule_least (RuleBreaks.links f) = let e = (outside_exactly 1 6 s.links).1 f in search (skip, hit, lit≤, tt, e) depth 14

  rule_named : Named (RuleBreaks s) (rule_fault s)
  unfolding rule_fault
  rule_named =
      met 0 (λ e. RuleBreaks.pca ((outside_exactly 1 2 s.pca).0 e))
      (met 1 (λ e. RuleBreaks.step ((outside_exactly 1 2 s.step).0 e))
      (met 1
      (λ e.
      let w = both (eqb s.pca 2) (eqb s.step 2) e in
      RuleBreaks.against (eqb-true s.pca 2 w.0) (λ h. absurd (let z : ⊥ = omega (arith, h, eqb-true s.step 2 w.1) in z)))
      (met 2 (λ e. RuleBreaks.itp (ltb-true 1 s.itp e))
      (met 3 (λ e. RuleBreaks.rpp (ltb-true 1 s.rpp e))
      (met 4 (λ e. RuleBreaks.links ((outside_exactly 1 6 s.links).0 e)) none_met)))))

  -- the first setting of bytes 0 to 4 that breaks its rule
  pub rule_first : FirstFault (RuleBreaks s) 5 (rule_fault s)
  rule_first = first_fault (λ n b. rule_below b) (λ n b. rule_least b) rule_named

  -- ---- of the powers

  module _ (blank : ℕ) where
    -- "start power at 10", never at its second byte
    pub power_begins : {n : ℕ} → PowerBreaks s blank n → n < 3
    power_begins (PowerBreaks.maximum f) = lit< tt
    power_begins (PowerBreaks.nine f) = lit< tt
    power_begins (PowerBreaks.start f) = lit< tt

    power_least_lem : {n : ℕ} → PowerBreaks s blank n → UpTo n (power_fault s blank)
    unfolding power_fault
    power_least_lem (PowerBreaks.maximum f) = let e = must _ (λ e. f (within_yes _ _ s.maximum (not-false _ e))) in search (skip, hit, lit≤, tt, e) depth 12
    power_least_lem (PowerBreaks.nine f) = let e = lt-ltb 0 blank (omega (arith, f)) in search (skip, hit, lit≤, tt, e) depth 12
    power_least_lem (PowerBreaks.start f) = let e = must _ (λ e. f (within_yes _ _ s.start (not-false _ e))) in search (skip, hit, lit≤, tt, e) depth 12

    power_named : Named (PowerBreaks s blank) (power_fault s blank)
    unfolding power_fault
    power_named =
        met {b = not (within (negsuc 49) (pos 33) s.maximum)} 0 (λ e. PowerBreaks.maximum (λ h. clash e (rw (yes_within h))))
        (met {b = ltb 0 blank} 1 (λ e. PowerBreaks.nine (λ p. let z : ⊥ = omega (arith, p, ltb-true 0 blank e) in z))
        (met {b = not (within power_least start_most s.start)} 2 (λ e. PowerBreaks.start (λ h. clash e (rw (yes_within h)))) none_met))

    -- the first power that breaks its rule, or the byte between them
    pub power_first : FirstFault (PowerBreaks s blank) 3 (power_fault s blank)
    power_first = first_fault (λ n b. power_begins b) (λ n b. power_least_lem b) power_named

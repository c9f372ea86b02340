-- The change of a row is what the page's five rules say of the rows so far, without a state; and a job's one gain keeps its powers apart.
-- Assumes nothing.
use Prim.Native.Nat.{ℕ, zero, suc, ◌≤◌, ◌<◌}
use Rattle.std.specs.Prelude.{◌≡◌, Bool, ℤ, ◌+ℤ◌, ◌*ℤ◌, ◌≤ℤ◌}
use Rattle.std.proofs.Math.Path.{refl, ap}
use Rattle.std.proofs.Common.{sym, subst, ◌∙◌}
use Rattle.std.proofs.Math.Bool.{true, false}
use Rattle.std.proofs.Math.Nat.{le_refl}
use native.Mathlib.Omega.{arith}
use Rattle.std.proofs.Math.IntN.{pos}
use Rattle.ground.proofs.Laws.Choice.{clash, alike}
use Rattle.ground.proofs.Laws.Integers.Parts.{sum, dif, mul}
use Rattle.ground.proofs.Laws.Integers.Signs.{signs, lesser_of}
use Rattle.gap_slots.specs.Slots.{opens_uplink, opens_downlink}
use Rattle.gap_runs.specs.Runs.{gaps_of, kind_at}
use Rattle.power.specs.declared.Gain.{Gain}
use Rattle.command.specs.Row.{recovery_of}
use Rattle.power.specs.Steps.{step_units, recovery_step_of, pilot_change_of, step_change_of}
use Rattle.power.specs.Gain.{ceiling_of, data_offset, gain_of}
use Rattle.power.proofs.Laws.Gain.{gain_ceiling, gain_bracket_lem, gain_offset, gain_carries, total_is}
use Rattle.resume_filter.specs.declared.Filter.{Filter}
use Rattle.resume_filter.specs.Scaled.{scaled}
use Rattle.resume_filter.specs.Update.{IsFilter}
use Rattle.resume_filter.specs.Resuming.{IsNearest, resume_of, whole_units_of}
use Rattle.resume_filter.proofs.Laws.Resuming.{resume_step, resume_level}
use Rattle.power.specs.declared.Triple.{Triple}
use Rattle.row_change.specs.declared.Here.{Here}
use Rattle.row_change.proofs.Laws.Change.{here_down, here_recovery, here_resumes, change_first, change_resume, change_down, change_recovery, change_step}
use Rattle.row_rules.specs.History.{History, Accepted, state_at, answer_at, pilots_on, here_on, command_on, change_on, is_resume}
use Rattle.row_rules.specs.Theorems.{Opens, none, first, IsLast, LastSent, never, last, SlotsSaid, ResumeChange, by_step_lem, by_none, by_level, Resumes}
use Rattle.row_rules.specs.Theorems.{ByRecovery, Changed, rule1, rule2, rule3, rule4, rule5, OfTriple}
use Rattle.row_rules.proofs.Laws.Theorems.Slots.{slots_said}
use Rattle.row_rules.proofs.Laws.Theorems.Filter.{filter_said}
use Rattle.row_rules.proofs.Laws.Theorems.Books.{sent_row_lem}

module _ (h : History) where
  -- ---- the resume change

  whole : (k itp : ℕ) → ℤ
  whole k itp = whole_units_of (resume_of itp (step_units h.settings.step) (state_at h k).opening.command (state_at h k).filter)

  -- under ITP 0 it is the command that the state kept times the step
  stepped : (k : ℕ) → h.settings.itp ≡ 0 → Opens h k (state_at h k).opening → ResumeChange h k (whole k 0)
  unfolding whole
  stepped k e (first i f s c) =
      by_step_lem e i f (resume_step (step_units h.settings.step) (state_at h k).opening.command (state_at h k).filter
      ∙ ap (λ (z : ℤ). z *ℤ pos (step_units h.settings.step)) c)
  stepped k e (none f s c) =
      by_none e f (resume_step (step_units h.settings.step) (state_at h k).opening.command (state_at h k).filter
      ∙ ap (λ (z : ℤ). z *ℤ pos (step_units h.settings.step)) c ∙ none_times)
    where
      none_times : pos 0 *ℤ pos (step_units h.settings.step) ≡ pos 0
      none_times = omega (signs, mul 0 (pos (step_units h.settings.step)))

  resume_change : {n : ℕ} → Accepted h n → (k : ℕ) → k ≤ n → (itp : ℕ) → h.settings.itp ≡ itp → itp ≤ 1 → ResumeChange h k (whole k itp)
  unfolding whole
  resume_change a k l zero e b = stepped k e (slots_said h a k l).opening
  resume_change a k l (suc zero) e b =
      let q = filter_said h a k l in
      let g : IsFilter (state_at h k).filter.count (state_at h k).filter =
      record { level = q.follows.level; count = le_refl (state_at h k).filter.count } in
      by_level e (subst (λ (f : Filter). IsNearest (scaled f.level) (whole k 1)) q.is
      (resume_level (step_units h.settings.step) (state_at h k).opening.command (state_at h k).filter g))
  resume_change a k l (suc (suc itp)) e b = absurd (let z : ⊥ = omega arith in z)

  -- ---- the five rules

  module _ {n : ℕ} (a : Accepted h n) (itp : h.settings.itp ≤ 1) (k : ℕ) (l : k ≤ n) where
    said : SlotsSaid h k
    said = slots_said h a k l

    -- the slot by the page's own kinds
    resume : (here_on h k).resume ≡ is_resume h k
    resume = ap (λ (x : Here). x.resume) said.here ∙ here_resumes h.settings.rpp (h.slot k) (kind_at (gaps_of h.slot) k)

    resumes_so : (here_on h k).resume ≡ true → Resumes h k
    resumes_so e = (filter_said h a k l).resume.0 (sym resume ∙ e)

    resumes_not : (here_on h k).resume ≡ false → Resumes h k → ⊥
    resumes_not e r = clash (resume ∙ (filter_said h a k l).resume.1 r) e

    recovery : (here_on h k).recovery ≡ recovery_of h.settings.rpp (kind_at (gaps_of h.slot) k)
    recovery = ap (λ (x : Here). x.recovery) said.here ∙ here_recovery h.settings.rpp (h.slot k) (kind_at (gaps_of h.slot) k)

    recovers_so : (here_on h k).recovery ≡ true → ByRecovery h k
    recovers_so e = said.recovery.0 (sym recovery ∙ e)

    recovers_not : (here_on h k).recovery ≡ false → ByRecovery h k → ⊥
    recovers_not e r = clash (recovery ∙ said.recovery.1 r) e

    down : (here_on h k).down ≡ opens_downlink (h.slot k)
    down = here_down h.settings.rpp (h.slot k) _

    -- after row i was sent
    later : (i : ℕ) → IsLast h i k → (state_at h k).sent ≡ true → (state_at h k).pilots ≡ pilots_on h i → (resume gap recover : Bool) →
        (here_on h k).resume ≡ resume → (here_on h k).down ≡ gap → (here_on h k).recovery ≡ recover → Changed h k (change_on h k)
    unfolding step_change_of whole
    later i q s p true gap recover r d c =
        rule2 i q (resumes_so r) _ (resume_change a k l h.settings.itp refl itp)
        (change_resume h.settings (state_at h k) (here_on h k) (command_on h k) (pilots_on h k) s r
        ∙ ap (λ (b : ℕ). whole k h.settings.itp +ℤ pilot_change_of b (pilots_on h k)) p)
    later i q s p false true recover r d c =
        rule3 i q (resumes_not r) (sym down ∙ d) (change_down h.settings (state_at h k) (here_on h k) (command_on h k) (pilots_on h k) s r d)
    later i q s p false false true r d c =
        rule4 i q (resumes_not r) (sym down ∙ d) (recovers_so c)
        (change_recovery h.settings (state_at h k) (here_on h k) (command_on h k) (pilots_on h k) s r d c
        ∙ ap (λ (b : ℕ). command_on h k *ℤ pos (recovery_step_of h.settings.pca (step_units h.settings.step)) +ℤ pilot_change_of b (pilots_on h k)) p)
    later i q s p false false false r d c =
        rule5 i q (resumes_not r) (sym down ∙ d) (recovers_not c)
        (change_step h.settings (state_at h k) (here_on h k) (command_on h k) (pilots_on h k) s r d c
        ∙ ap (λ (b : ℕ). command_on h k *ℤ pos (step_units h.settings.step) +ℤ pilot_change_of b (pilots_on h k)) p)

    pub changed : Changed h k (change_on h k)
    changed = by said.last_sent
      where
        by : LastSent h k (state_at h k).sent (state_at h k).pilots → Changed h k (change_on h k)
        by (never f s p) = rule1 f (change_first h.settings (state_at h k) (here_on h k) (command_on h k) (pilots_on h k) s)
        by (last i q s p) = later i q s p (here_on h k).resume (here_on h k).down (here_on h k).recovery refl refl refl

  -- ---- the gain of a triple

  pub of_triple : {n : ℕ} → Accepted h n → (k : ℕ) → k < n → opens_uplink (h.slot k) ≡ false → (t : Triple) →
      h.gain k ≡ gain_of t h.settings.maximum → OfTriple h t k
  of_triple a k l u t e =
      let b = h.settings in
      let r = sent_row_lem h a k l u in
      let g = h.gain k in
      let s = ap (λ (g : Gain). g.carries_data) e in
      let top : g.ceiling +ℤ g.bracket ≡ pos 64 *ℤ b.maximum =
      ap (λ (g : Gain). g.ceiling +ℤ g.bracket) e
      ∙ ap (λ (z : ℤ). z +ℤ (gain_of t b.maximum).bracket) (gain_ceiling t b.maximum)
      ∙ ap (λ (z : ℤ). ceiling_of t b.maximum +ℤ z) (gain_bracket_lem t b.maximum)
      ∙ total_is t b.maximum in
      let o : g.offset ≡ data_offset t = ap (λ (g : Gain). g.offset) e ∙ gain_offset t b.maximum in
      let x = answer_at h k in
      let y = (state_at h k).power +ℤ change_on h k in
      let at-ceiling : x.state ≡ pos 2 → x.dpcch ≡ g.ceiling = λ m. r.lesser_power ∙ omega (signs, r.over.0 m, lesser_of y g.ceiling) in
      record {
        total = subst (λ (z : ℤ). x.total ≤ℤ z) top r.total;
        limited = λ m. r.bracket ∙ ap (λ (z : ℤ). z +ℤ g.bracket) (at-ceiling m) ∙ top;
        data_power = λ m. (let w = r.data_power (s ∙ (gain_carries t b.maximum).1 m) in
            omega (signs, w, sum x.dpcch g.offset, dif x.dpdch x.dpcch, o));
        no_data = λ m. r.no_data (alike g.carries_data false (λ c. absurd (none_sent m ((gain_carries t b.maximum).0 (sym s ∙ c)))) (λ _. refl));
      }
    where
      none_sent : {n : ℕ} → n ≡ 0 → 1 ≤ n → ⊥
      none_sent e m = omega arith

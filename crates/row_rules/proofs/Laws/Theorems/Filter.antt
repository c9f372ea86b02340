-- The filter in a state follows the exact recursion of its history's brackets: the proof, row after row.
-- Assumes nothing.
use Prim.Native.Nat.{ℕ, zero, suc, ◌≤◌, ◌<◌}
use Rattle.std.specs.Prelude.{◌≡◌, ◌↔◌, Bool}
use Rattle.std.proofs.Math.Path.{refl, sym, ap, subst}
use Rattle.std.proofs.Common.{◌∙◌}
use Rattle.std.proofs.Math.Logic.Iff.{trans as iff_trans}
use Rattle.std.proofs.Math.Bool.{true, false, or_comm}
use native.Mathlib.Omega.{arith}
use Rattle.ground.proofs.Laws.Choice.{clash, if_true, if_false}
use Rattle.ground.proofs.Laws.Some.{some}
use Rattle.gap_slots.specs.Slots.{opens_uplink, opens_downlink}
use Rattle.gap_runs.specs.declared.Kind.TheVariants.{Resume}
use Rattle.gap_runs.specs.Runs.{gaps_of, kind_at}
use Rattle.gap_runs.proofs.Laws.Runs.{kind_is_meant}
use Rattle.command.proofs.Laws.Row.{command_in}
use Rattle.power.specs.Steps.{step_units}
use Rattle.power.proofs.Laws.Steps.{step_most, step_whole}
use Rattle.resume_filter.specs.declared.Filter.{Filter}
use Rattle.resume_filter.specs.Update.{update_bracket, updated_of, after, Bracket, Brackets, Follows}
use Rattle.resume_filter.proofs.Laws.Update.{after_none, after_more, brackets_none, brackets_more, bracket_is, followed}
use Rattle.row_state.specs.declared.State.{State}
use Rattle.row_state.specs.declared.Opening.{Opening}
use Rattle.row_state.proofs.Laws.States.{starts}
use Rattle.row_change.specs.declared.Here.{Here}
use Rattle.row_change.proofs.Laws.Change.{here_up, here_down, here_resumes, resumes_exactly}
use Rattle.row_change.specs.After.{updates, filter_after}
use Rattle.row_change.proofs.Laws.After.{updates_are, filter_kept, filter_returned, filter_updated, opening_any}
use Rattle.row_rules.specs.declared.Books.{Books}
use Rattle.row_rules.specs.Rules.{next_state, resting, settled_of}
use Rattle.row_rules.specs.History.{History, Accepted, state_at, commands_on, is_sent, here_on, command_on, is_resume, sent_before, opened, is_limited}
use Rattle.row_rules.specs.History.{limited_before, updates_it, bracket_on, brackets}
use Rattle.row_rules.specs.Theorems.{InRun, Opens, none, first, FilterSaid}
use Rattle.row_rules.proofs.Laws.Theorems.Steps.{books_on, next_is}
use Rattle.row_rules.proofs.Laws.Theorems.Slots.{slots_said, limited_now}

module _ (h : History) where
  -- ---- which rows update it

  sent_now : (k : ℕ) (up : Bool) → opens_uplink (h.slot k) ≡ up → (state_at h k).sent ≡ sent_before h k → (books_on h k).sent ≡ sent_before h (suc k)
  unfolding resting settled_of sent_before
  sent_now k true u e = sym (ap (λ (b : Books). b.sent) (if_true _ _ u)) ∙ e ∙ rw u (or_comm false (sent_before h k))
  sent_now k false u e = sym (ap (λ (b : Books). b.sent) (if_false _ _ u)) ∙ rw u (or_comm true (sent_before h k))

  sent_is : {n : ℕ} → Accepted h n → (k : ℕ) → k ≤ n → (state_at h k).sent ≡ sent_before h k
  unfolding state_at next_state sent_before
  sent_is a zero l = (starts h.settings).sent
  sent_is a (suc k) l = ap (λ (st : State). st.sent) (next_is h k (a k l)) ∙ sent_now k (opens_uplink (h.slot k)) refl (sent_is a k (omega arith))

  seen_is : {n : ℕ} → Accepted h n → (k : ℕ) → k ≤ n → (state_at h k).opening.seen ≡ opened h k
  unfolding state_at next_state opened
  seen_is a zero l = ap (λ (o : Opening). o.seen) (starts h.settings).opening
  seen_is a (suc k) l =
      ap (λ (st : State). st.opening.seen) (next_is h k (a k l)) ∙ opening_any (state_at h k).opening (here_on h k) (command_on h k)
      ∙ rw (here_up h.settings.rpp (h.slot k) _, here_down h.settings.rpp (h.slot k) _, seen_is a k (omega arith))

  -- ---- the brackets

  bracket_fine : (k : ℕ) → Bracket (bracket_on h k)
  bracket_fine k =
      bracket_is (command_on h k) (step_units h.settings.step) (limited_before h k) (is_limited h k)
      (command_in h.settings.pca h.settings.links (here_on h k).down (here_on h k).recovery (state_at h k).row (state_at h k).set (commands_on h k))
      (step_most h.settings.step) (step_whole h.settings.step)

  -- what the filter is after row k, from what it was before
  record Past (k : ℕ) (f : Filter) : Type 0 where
    is : f ≡ after (brackets h k)
    each : Brackets (brackets h k)

  past_next : (k : ℕ) → (update resume : Bool) → updates_it h k ≡ update → is_resume h k ≡ resume →
      updates (here_on h k) (state_at h k).sent (state_at h k).opening.seen ≡ updates_it h k →
      (here_on h k).resume ≡ is_resume h k → (limited : Bool) → limited ≡ is_limited h k → (state_at h k).limited ≡ limited_before h k →
      Past k (state_at h k).filter → Past (suc k) (filter_after h.settings (state_at h k) (here_on h k) (command_on h k) limited)
  unfolding brackets
  past_next k false resume u r e f limited l m p =
      let q = if_false _ _ u in
      record { is = filter_kept _ _ _ _ _ (e ∙ u) ∙ p.is ∙ ap after q; each = subst Brackets q p.each }
  past_next k true true u r e f limited l m p =
      let q = if_true _ _ r ∙ if_true _ _ u in
      record { is = filter_returned _ _ _ _ _ (e ∙ u) (f ∙ r) ∙ sym after_none ∙ ap after q; each = subst Brackets q brackets_none }
  past_next k true false u r e f limited l m p =
      let q = if_false _ _ r ∙ if_true _ _ u in
      let c = command_on h k in
      let s = step_units h.settings.step in
      let bs = brackets h k in
      record {
        is = filter_updated _ _ _ _ _ (e ∙ u) (f ∙ r)
            ∙ ap (λ (f : Filter). updated_of f (update_bracket c s (state_at h k).limited limited)) p.is
            ∙ ap (λ (b : Bool). updated_of (after bs) (update_bracket c s b limited)) m
            ∙ ap (λ (b : Bool). updated_of (after bs) (update_bracket c s (limited_before h k) b)) l
            ∙ sym (after_more (bracket_on h k) bs) ∙ ap after q;
        each = subst Brackets q (brackets_more _ _ (bracket_fine k) p.each);
      }

  past : {n : ℕ} → Accepted h n → (k : ℕ) → k ≤ n → Past k (state_at h k).filter
  unfolding state_at next_state brackets
  past a zero l = record { is = (starts h.settings).filter ∙ sym after_none; each = brackets_none }
  past {n} a (suc k) l =
      let j : k ≤ n = omega arith in
      let said = slots_said h a k j in
      let up : (here_on h k).up ≡ opens_uplink (h.slot k) = here_up h.settings.rpp (h.slot k) _ in
      let down : (here_on h k).down ≡ opens_downlink (h.slot k) = here_down h.settings.rpp (h.slot k) _ in
      let u : updates (here_on h k) (state_at h k).sent (state_at h k).opening.seen ≡ updates_it h k = updates_are (here_on h k) _ _
      ∙ rw (up, down, sent_is a k j, seen_is a k j) in
      let r : (here_on h k).resume ≡ is_resume h k = ap (λ (x : Here). x.resume) said.here ∙ here_resumes h.settings.rpp (h.slot k) _ in
      subst (λ (st : State). Past (suc k) st.filter) (sym (next_is h k (a k l)))
      (past_next k (updates_it h k) (is_resume h k) refl refl u r (books_on h k).limited (limited_now h k (a k l) (opens_uplink (h.slot k)) refl) said.limited
      (past a k j))

  -- ---- the theorem

  sent_exactly : (k : ℕ) → sent_before h k ≡ true ↔ ((i : ℕ) × (i < k) × (is_sent h i ≡ true))
  unfolding sent_before
  sent_exactly k = some (sent_before h) (is_sent h) refl (λ m. refl) k

  opens_exactly : (k : ℕ) (o : Opening) → Opens h k o → o.seen ≡ true ↔ ((i : ℕ) × InRun h i k × (opens_uplink (h.slot i) ≡ true))
  opens_exactly k o (none f s c) = (λ e. absurd (clash e s), λ q. absurd (clash q.2 (f q.0 q.1)))
  opens_exactly k o (first i f s c) = (λ _. (i, f.run, f.uplink), λ _. s)

  pub filter_said : {n : ℕ} → Accepted h n → (k : ℕ) → k ≤ n → FilterSaid h k
  filter_said a k l =
      let p = past a k l in
      record {
        is = p.is;
        resume = iff_trans (resumes_exactly (kind_at (gaps_of h.slot) k)) (kind_is_meant (gaps_of h.slot) k Resume);
        follows = subst (λ (f : Filter). Follows f (brackets h k)) (sym p.is) (followed (brackets h k) p.each);
        before = sent_exactly k;
        uplink = subst (λ (b : Bool). b ≡ true ↔ ((i : ℕ) × InRun h i k × (opens_uplink (h.slot i) ≡ true))) (seen_is a k l)
            (opens_exactly k (state_at h k).opening (slots_said h a k l).opening);
      }

-- The laws of what the next row needs: the filter and the run's first uplink gap slot, each line of their rules, and that they stay in their ranges.
-- Assumes nothing.
use Rattle.std.specs.Prelude.{◌+◌, ◌≤◌, ◌≡◌, refl, Bool, true, false, not, ◌&&◌, ◌||◌, ℤ}
use Rattle.std.proofs.Math.Path.{sym}
use Rattle.std.proofs.Common.{ap, ◌∙◌, arith}
use Rattle.std.proofs.Math.IntN.{nat_abs}
use Rattle.ground.proofs.Laws.Choice.{if_true, if_false, either}
use Rattle.power.specs.Steps.{step_units}
use Rattle.power.proofs.Laws.Steps.{step_most, step_whole}
use Rattle.resume_filter.specs.Update.{update_bracket, empty_of, updated_of, IsFilter}
use Rattle.resume_filter.proofs.Laws.Update.{bracket_is, empty_in, updated_in, later_in}
use Rattle.job_settings.specs.declared.Settings.{Settings}
use Rattle.row_state.specs.declared.Opening.{Opening}
use Rattle.row_state.specs.declared.State.{State}
use Rattle.row_state.specs.States.{unopened, opened_by}
use Rattle.row_change.specs.declared.Here.{Here}
use Rattle.row_change.specs.After.{updates, returned, filter_after, opening_after}

-- ---- the filter

-- which rows update it
pub updates_are : (here : Here) (sent seen : Bool) → updates here sent seen ≡ (not here.down && (not here.up || (sent && not seen)))
unfolding updates
updates_are here sent seen = refl

module _ (s : Settings) (st : State) (here : Here) (command : ℤ) (limited : Bool) where
  -- a row that does not update it leaves it
  pub filter_kept : updates here st.sent st.opening.seen ≡ false → filter_after s st here command limited ≡ st.filter
  unfolding filter_after
  filter_kept e = sym (if_false _ _ e)

  -- a resume slot returns it to 0
  pub filter_returned : updates here st.sent st.opening.seen ≡ true → here.resume ≡ true → filter_after s st here command limited ≡ empty_of
  unfolding filter_after returned
  filter_returned e r = sym (if_true _ _ r ∙ if_true _ _ e)

  -- any other row that updates it takes its bracket in
  pub filter_updated : updates here st.sent st.opening.seen ≡ true → here.resume ≡ false →
      filter_after s st here command limited ≡ updated_of st.filter (update_bracket command (step_units s.step) st.limited limited)
  unfolding filter_after returned
  filter_updated e r = sym (if_false _ _ r ∙ if_true _ _ e)

  -- and it stays in its range
  pub filter_in : nat_abs command ≤ 1 → IsFilter st.row st.filter → IsFilter (st.row + 1) (filter_after s st here command limited)
  unfolding filter_after returned
  filter_in c h =
      let b = bracket_is command (step_units s.step) st.limited limited c (step_most s.step) (step_whole s.step) in
      either (IsFilter (st.row + 1)) (updates here st.sent st.opening.seen)
      (λ _. either (IsFilter (st.row + 1)) here.resume (λ _. empty_in) (λ _. updated_in _ h b.most))
      (λ _. later_in h)

-- ---- the run's first uplink gap slot

module _ (opening : Opening) (here : Here) (command : ℤ) where
  -- an uplink gap slot opens a run that has had none
  pub opening_now : here.up ≡ true → opening.seen ≡ false → opening_after opening here command ≡ opened_by command
  unfolding opening_after
  opening_now u n = sym (if_false _ _ n ∙ if_true _ _ u)

  -- later ones change nothing
  pub opening_seen : here.up ≡ true → opening.seen ≡ true → opening_after opening here command ≡ opening
  unfolding opening_after
  opening_seen u n = sym (if_true _ _ n ∙ if_true _ _ u)

  -- nor does a slot that is a downlink gap slot alone
  pub opening_down : here.up ≡ false → here.down ≡ true → opening_after opening here command ≡ opening
  unfolding opening_after
  opening_down u d = sym (if_true _ _ d ∙ if_false _ _ u)

  -- and a slot that is no gap slot forgets it
  pub opening_over : here.up ≡ false → here.down ≡ false → opening_after opening here command ≡ unopened
  unfolding opening_after
  opening_over u d = sym (if_false _ _ d ∙ if_false _ _ u)

  -- its command stays one that a row can have
  pub opening_in : nat_abs opening.command ≤ 1 → nat_abs command ≤ 1 → nat_abs (opening_after opening here command).command ≤ 1
  unfolding opening_after
  opening_in h c =
      let P : Opening → Type 0 = λ o. nat_abs o.command ≤ 1 in
      either P here.up (λ _. either P opening.seen (λ _. h) (λ _. c)) (λ _. either P here.down (λ _. h) (λ _. omega arith))

  -- a run has had an uplink gap slot where it had one before or this slot is one
  pub opening_any : (opening_after opening here command).seen ≡ ((here.up || here.down) && (opening.seen || here.up))
  opening_any = by here.up here.down opening.seen refl refl refl
    where
      seen : {o p : Opening} → o ≡ p → o.seen ≡ p.seen
      seen e = ap (λ (o : Opening). o.seen) e

      by : (u d n : Bool) → here.up ≡ u → here.down ≡ d → opening.seen ≡ n → (opening_after opening here command).seen ≡ ((u || d) && (n || u))
      by true d true p q r = seen (opening_seen p r) ∙ r
      by true d false p q r = seen (opening_now p r)
      by false true true p q r = seen (opening_down p q) ∙ r
      by false true false p q r = seen (opening_down p q) ∙ r
      by false false n p q r = seen (opening_over p q)

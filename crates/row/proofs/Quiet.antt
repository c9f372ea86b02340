-- A calm row under the rules: what the test tells, what its slot is to it, and which rule of the change is its own.
-- Assumes nothing.
use Rattle.std.proofs.Common.{ℕ, ◌≡◌, refl, sym, ap, ◌∙◌, true, false, arith, ltb, ℤ}
use borrow.Author.Tests.{ltb-false}
use Rattle.ground.proofs.Laws.Choice.{chain_off, if_false}
use Rattle.gap_slots.specs.declared.Slot.{Slot}
use Rattle.gap_slots.specs.Slots.{opens_uplink, opens_downlink}
use Rattle.gap_runs.specs.declared.Kind.TheVariants.{Plain}
use Rattle.gap_runs.specs.declared.Walked.{Walked}
use Rattle.gap_runs.specs.Runs.{walked, walked_of}
use Rattle.gap_runs.proofs.Laws.Runs.{walked_plain}
use Rattle.power.specs.declared.Gain.{Gain}
use Rattle.command.specs.Row.{command_of}
use Rattle.job_settings.specs.declared.Settings.{Settings}
use Rattle.row_state.specs.declared.State.{State}
use Rattle.row_change.specs.Change.{here_of, by_step, change_of}
use Rattle.row_change.proofs.Laws.Change.{here_plain, change_step}
use Rattle.row_values.specs.declared.Row.{Row}
use Rattle.row_rules.specs.Rules.{row_wrong, sent_row, row_with, row_in, row_of}
use Rattle.row.specs.Calm.{calm_here, still, is_calm}

-- what the test tells
pub record AtRest (slot : Slot) (st : State) : Type 0 where
  pub up : opens_uplink slot ≡ false
  pub down : opens_downlink slot ≡ false
  pub length : st.run.length ≡ 0
  pub left : st.run.left ≡ 0
  pub sent : st.sent ≡ true

pub calm_told : (slot : Slot) (st : State) → is_calm slot st ≡ true → AtRest slot st
unfolding is_calm
calm_told slot st e =
    let a = chain_off (opens_uplink slot) _ e in
    let b = chain_off (opens_downlink slot) _ a.1 in
    let c = chain_off (ltb 0 st.run.length) _ b.1 in
    let d = chain_off (ltb 0 st.run.left) st.sent c.1 in
    record {
      up = a.0;
      down = b.0;
      length = omega (arith, ltb-false 0 st.run.length c.0);
      left = omega (arith, ltb-false 0 st.run.left d.0);
      sent = d.1;
    }

-- its slot is nothing to it, no run stands after it, and the fifth rule gives its change
module _ {slot : Slot} {st : State} (t : AtRest slot st) where
  walked_on : walked_of st.run slot ≡ walked 0 0 Plain
  walked_on = walked_plain st.run slot (rw (t.up, t.down)) t.length t.left

  calm_here_lem : (rpp : ℕ) → here_of rpp slot (walked_of st.run slot).kind ≡ calm_here
  calm_here_lem rpp = ap (λ (w : Walked). here_of rpp slot w.kind) walked_on ∙ here_plain rpp slot ∙ rw (t.up, t.down)

  calm_run : (walked_of st.run slot).run ≡ still
  calm_run = ap (λ (w : Walked). w.run) walked_on

  pub calm_change : (s : Settings) (command : ℤ) (pilots : ℕ) → by_step s command st.pilots pilots ≡ change_of s st calm_here command pilots
  unfolding by_step
  calm_change s command pilots = sym (change_step s st calm_here command pilots t.sent refl refl refl)

  -- so that it is sent, if its bytes break no rule
  pub calm_sent : (s : Settings) (g : Gain) (row : Row) → row_wrong s.links slot row ≡ false →
      sent_row s g slot st calm_here still (command_of s.pca s.links false false st.row st.set row.commands) row ≡ row_of s g slot st row
  unfolding row_of row_in row_with
  calm_sent s g row e = rw (calm_here_lem s.rpp, calm_run) (if_false _ _ e)

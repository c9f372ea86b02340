-- How large the numbers of a row are, from the ranges of its state and of its gain.
-- Assumes nothing.
use Rattle.std.proofs.Common.{◌≡◌, refl, Bool, true, false}
use Rattle.std.specs.Int.{w32}
use mir.Val.{SFits}
use Rattle.ground.specs.Integers.{Within}
use Rattle.ground.proofs.Laws.Integers.Signs.{signs}
use Rattle.constants.specs.Sizes.{power_least, start_most}
use Rattle.power.specs.declared.Gain.{Gain}
use Rattle.job_settings.specs.declared.Settings.{Settings}
use Rattle.row_state.specs.declared.State.{State}
use Rattle.row_rules.specs.Ranges.{InRanges}
use Rattle.row.specs.Asks.{HeldIn}

module _ {s : Settings} {g : Gain} {st : State} (h : InRanges s g st) where
  -- control power and what is withheld, whether a row has been sent or not
  pub power_in : Within power_least start_most st.power
  power_in = by st.sent refl
    where
      by : (t : Bool) → st.sent ≡ t → Within power_least start_most st.power
      by false e = (h.state.unsent e).power_in
      by true e = let p = (h.state.sent e).power_in in let c = h.gain.ceiling_in in record { low = p.low; high = omega signs }

  pub held_in : HeldIn st.held
  held_in = by st.sent refl
    where
      by : (t : Bool) → st.sent ≡ t → HeldIn st.held
      by false e = let u = (h.state.unsent e).held_is in record { low = omega signs; high = omega signs }
      by true e = let u = (h.state.sent e).held_in in let r = h.room in record { low = u.low; high = omega signs }

  pub power_fits : SFits w32 st.power
  power_fits = let p = power_in in omega signs

  pub held_fits : SFits w32 st.held
  held_fits = let p = held_in in omega signs

  pub ceiling_fits : SFits w32 g.ceiling
  ceiling_fits = let c = h.gain.ceiling_in in omega signs

-- The change of a row that is sent, whichever way it was found: its sum with the power before is small.
-- Assumes nothing.
use Rattle.std.proofs.Common.{ℕ, ℤ}
use Rattle.ground.proofs.Laws.Integers.Parts.{sum}
use Rattle.ground.proofs.Laws.Integers.Products.{abs_in}
use Rattle.ground.proofs.Laws.Integers.Signs.{signs}
use Rattle.power.specs.declared.Gain.{Gain}
use Rattle.job_settings.specs.declared.Settings.{Settings}
use Rattle.row_state.specs.declared.State.{State}
use Rattle.row_change.specs.declared.Here.{Here}
use Rattle.row_change.specs.Change.{change_of}
use Rattle.row_change.proofs.Laws.Change.{change_most}
use Rattle.row.specs.Asks.{Sending, Summed}
use Rattle.row.proofs.Sizes.{power_in}

pub summed : {s : Settings} {g : Gain} {st : State} {command : ℤ} {pilots : ℕ} → Sending s g st command pilots → (here : Here) →
    Summed s g st (change_of s st here command pilots)
summed {s} {g} {st} {command} {pilots} h here =
    let d = change_of s st here command pilots in
    let p = power_in h.fine in
    let t = h.fine.state in
    let i = abs_in d (change_most s st here command pilots (record {
      command_in = h.command_in;
      opening_in = t.opening_in;
      filter_in = t.filter_in;
      before_in = λ e. (t.sent e).pilots_in;
      pilots_in = h.pilots_in;
    })) in
    record {
      fine = h.fine;
      sum_in = record { low = omega (signs, sum st.power d, p.low, i.1); high = omega (signs, sum st.power d, p.high, i.0) };
    }

-- `exports::uplink_start` meets its contract: by what the load says.
use Rattle.std.proofs.Common.{◌∙◌, refl, ap}
use Rattle.ground.specs.declared.Refusal.{Refusal}
use Rattle.row_state.specs.declared.State.{State}
use Rattle.job.specs.Load.{Loaded}
use Rattle.exports.specs.Steps.{lent, handed, start_handed, start_by, started_lent}
use Rattle.exports.proofs.Hands.{start_told_lem}
use Rattle.exports.proofs.Tells.{refused, taken}
use Rattle.exports.proofs.uplink_start.Goals as goal

pub returns-in_default : goal.returns-in_default
unfolding started_lent
returns-in_default c =
    let before = lent c.args.numbers.now c.args.level.now in
    refused c.load-loaded.ensures (λ (x : Loaded). start_by x before) (λ (r : Refusal). handed r before) c.in_default.is refl c.leave.ensures
    c.err.ensures.value

pub returns : goal.returns
unfolding started_lent
returns c =
    let before = lent c.args.numbers.now c.args.level.now in
    taken c.load-loaded.ensures (λ (x : Loaded). start_by x before) c.in-Ok.is
    (start_told_lem _ c.leave-2.ensures c.hand_out.ensures ∙ ap (λ (st : State). start_handed st before) c.start.ensures)

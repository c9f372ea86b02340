-- `exports::uplink_next` meets its contract: by what the load says, and then by what the lent numbers are.
use Rattle.std.proofs.Common.{refl, sym, ◌∙◌}
use Rattle.ground.specs.declared.Refusal.{Refusal}
use Rattle.job.specs.Load.{Loaded}
use Rattle.exports_state.proofs.Laws.Packed.{kept_long}
use Rattle.exports.specs.Steps.{lent, untouched, next_by, next_of}
use Rattle.exports.proofs.Hands.{ran_next, after_none, after_kept}
use Rattle.exports.proofs.Tells.{lies, refused, taken}
use Rattle.exports.proofs.uplink_next.Goals as goal

pub returns-in_default : goal.returns-in_default
unfolding next_of
returns-in_default c =
    let a = c.args in
    let before = lent a.numbers.now a.level.now in
    refused c.load-loaded.ensures (λ (x : Loaded). next_by x a.job.now a.rows.now before a.answers.now)
    (λ (r : Refusal). untouched r before a.answers.now) c.in_default.is refl c.leave.ensures c.err.ensures.value

pub returns-in_default-unpacked : goal.returns-in_default-unpacked
unfolding next_of
returns-in_default-unpacked c =
    let a = c.args in
    taken c.load-loaded.ensures (λ (x : Loaded). next_by x a.job.now a.rows.now (lent a.numbers.now a.level.now) a.answers.now) c.in-Ok.is
    (after_none _ _ _ _ _ _ c.unpack-unpacked.ensures.is c.in_default-unpacked.is c.row_said-row.ensures c.rows_offered-offered.ensures
    c.leave-in_default-unpacked.ensures c.refusal.ensures)

pub run_after-ran-requires : goal.run_after-ran-requires
run_after-ran-requires c = lies c.load-loaded.ensures c.in-Ok.is

pub hand_on-requires : goal.hand_on-requires
hand_on-requires c = kept_long _ _ (sym c.unpack-unpacked.ensures.is ∙ c.in-Some.is)

pub returns : goal.returns
unfolding next_of
returns c =
    let a = c.args in
    taken c.load-loaded.ensures (λ (x : Loaded). next_by x a.job.now a.rows.now (lent a.numbers.now a.level.now) a.answers.now) c.in-Ok.is
    (after_kept _ _ _ _ _ _ c.unpack-unpacked.ensures.is c.in-Some.is
    (ran_next _ _ _ c.leave-2.ensures c.refusal_of.ensures c.hand_on.ensures c.run_after-ran.ensures))

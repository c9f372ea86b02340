-- `exports::uplink_slot` meets its contract: by what the load says.
use Rattle.std.proofs.Common.{ℕ, List, refl, ap, ◌∙◌}
use Rattle.ground.specs.declared.Refusal.{Refusal}
use Rattle.gap_slots.specs.Slots.{no_gap, slot_at}
use Rattle.job.specs.Load.{Loaded}
use Rattle.exports.specs.Calls.{slot_answered_by, slot_answered}
use Rattle.exports.proofs.Tells.{lies, refused, taken}
use Rattle.exports.proofs.uplink_slot.Goals as goal

pub returns-in_default : goal.returns-in_default
unfolding slot_answered
returns-in_default c =
    let a = c.args in
    refused c.load-loaded.ensures (λ (x : Loaded). slot_answered_by x a.job.now a.slot) (λ (r : Refusal). record { refusal = r; slot = no_gap })
    c.in_default.is refl c.leave.ensures c.err.ensures.value

pub records_of-requires : goal.records_of-requires
records_of-requires c = lies c.load-loaded.ensures c.in-Ok.is

pub returns : goal.returns
unfolding slot_answered
returns c =
    let a = c.args in
    let slot = c.slot_at-by.ensures ∙ ap (λ (l : List ℕ). slot_at l a.slot) c.records_of.ensures in
    taken c.load-loaded.ensures (λ (x : Loaded). slot_answered_by x a.job.now a.slot) c.in-Ok.is
    (λ i. record { refusal = c.leave-2.ensures i; slot = slot i })

-- `slot_at` meets its contract: every record counts.
use Rattle.std.proofs.Common.{◌≡◌, ◌/◌, length, ◌∙◌, sym, arith}
use Rattle.gap_records.proofs.Laws.Records.{record_there}
use Rattle.gap_slots.proofs.Laws.Slots.{slot_by_lem}
use Rattle.gap_slots.proofs.Turns.{one_slot, no_slot}
use Rattle.gap_slots.proofs.slot_at.Goals as goal

pub loop-k-init : goal.loop-k-init
loop-k-init c = no_slot _ _

pub loop-k-preserved : goal.loop-k-preserved
loop-k-preserved c =
    let read = c.record_at.ensures ∙ record_there _ _ c.loop-k-test.true in
    one_slot _ _ _ c.loop-k.invariant read c.slot_by_record-one.ensures c.join-found.ensures

pub returns : goal.returns
returns c =
    let all : c.loop-k.k ≡ length c.args.records.now / 12 = omega arith in
    c.loop-k.invariant ∙ rw all (sym (slot_by_lem _ _))

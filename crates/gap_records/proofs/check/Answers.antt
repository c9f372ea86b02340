-- `check` meets its contract: every record in turn, and none is passed over.
use Rattle.std.proofs.Common.{◌≡◌, ◌∙◌, sym, le-ltb, arith, ◌+◌, ◌*◌}
use Rattle.ground.proofs.Laws.Choice.{tests}
use Rattle.gap_records.specs.Records.{checked_of}
use Rattle.gap_records.proofs.Laws.Records.{check_told}
use Rattle.gap_records.proofs.Turns.{faulty, again, sound, all_sound}
use Rattle.gap_records.proofs.check.Goals as goal

pub returns-then-n-gt-RECORDS_MOST : goal.returns-then-n-gt-RECORDS_MOST
unfolding checked_of
returns-then-n-gt-RECORDS_MOST c = check_told _ (search tests)

pub returns-in-Some : goal.returns-in-Some
unfolding checked_of
returns-in-Some c =
    let place : 12 * c.loop-k.k + c.from.result ≡ 12 * c.loop-k.k + c.in-Some.byte = omega (arith, c.from.ensures) in
    check_told _
    (simp (le-ltb _ _ c.if-n-gt-RECORDS_MOST.false)
    (sym (c.loop-k.invariant ∙ faulty _ _ _ _ c.loop-k-test.true c.sequence_at-q.ensures c.record_fault.ensures c.in-Some.is place)))

pub returns-then-has_id : goal.returns-then-has_id
unfolding checked_of
returns-then-has_id c =
    check_told _
    (simp (le-ltb _ _ c.if-n-gt-RECORDS_MOST.false)
    (sym
    (c.loop-k.invariant
    ∙ again _ _ _ _ c.loop-k-test.true c.sequence_at-q.ensures c.record_fault.ensures c.in_default.is c.has_id.ensures c.if-has_id.true)))

pub loop-k-preserved : goal.loop-k-preserved
loop-k-preserved c =
    c.loop-k.invariant
    ∙ sound _ _ _ _ c.loop-k-test.true c.sequence_at-q.ensures c.record_fault.ensures c.in_default.is c.has_id.ensures c.if-has_id.false

pub returns : goal.returns
unfolding checked_of
returns c = check_told _ (simp (le-ltb _ _ c.if-n-gt-RECORDS_MOST.false) (sym (c.loop-k.invariant ∙ all_sound _ _ _ _ c.loop-k-test.false)))

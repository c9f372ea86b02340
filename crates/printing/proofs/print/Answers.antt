-- Each turn writes a piece, and what is left shrinks by it. A piece that is only begun leaves a beginning of the listing.
use Rattle.std.proofs.Common.{rules, ◌-◌, ◌+◌, subst, arith}
use Rattle.constants.specs.Sizes.{pieces_most}
use Rattle.printing.specs.Asks.{Printing}
use Rattle.printing.proofs.Steps.{printing_begins, printing_goes_on, printing_over, printing_fails, printing_ends, where_failed}
use Rattle.printing.proofs.print.Goals as goal

pub loop-init : goal.loop-init
loop-init g c = record { printing = printing_begins c.args.job.now 65536 (omega arith); goes_on = λ e. cc }

pub returns-in-Over-clause-listed : goal.returns-in-Over-clause-listed
returns-in-Over-clause-listed g c =
    let listed = printing_over _ _ (subst (Printing _ _ _ _ _) c.in-Over.is
    (printing_goes_on _ _ (pieces_most - c.loop.counter) (pieces_most - (c.loop.counter + 1)) (omega (arith, c.loop-test.true)) c.loop.invariant.printing
    c.in_ok-stand.ensures.next c.in_ok-stand.ensures.written)) in
    search rules

pub returns-in_err-stand-clause-failed : goal.returns-in_err-stand-clause-failed
returns-in_err-stand-clause-failed g c =
    where_failed _ (printing_fails _ _ _ _ _ (pieces_most - c.loop.counter) (pieces_most - (c.loop.counter + 1)) (omega (arith, c.loop-test.true))
    c.loop.invariant.printing c.in_err-stand.ensures.failed)

pub returns-clause-failed : goal.returns-clause-failed
returns-clause-failed g c = absurd (c.loop.invariant.goes_on (printing_ends _ _ (pieces_most - c.loop.counter) (omega arith) c.loop.invariant.printing))

pub loop-preserved : goal.loop-preserved
loop-preserved g c =
    let printing = printing_goes_on _ _ (pieces_most - c.loop.counter) (pieces_most - (c.loop.counter + 1)) (omega (arith, c.loop-test.true))
    c.loop.invariant.printing c.in_ok-stand.ensures.next c.in_ok-stand.ensures.written in
    rw c.print_piece.auto.room (record { printing = printing; goes_on = c.in_default.not-Over })

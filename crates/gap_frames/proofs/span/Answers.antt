-- `span` meets its contract: the slots of a gap are the bits from where it begins in the frame up to where it ends.
use Rattle.std.proofs.Common.{sym, arith}
use lib.Pow.{pow_mono}
use Rattle.gap_frames.proofs.Spans.{in_order, span_is}
use Rattle.gap_frames.proofs.span.Goals as goal

pub overflow_sub-result : goal.overflow_sub-result
overflow_sub-result c =
    rw (c.power-2.ensures, c.power.ensures, c.edge.ensures, c.edge-end.ensures)
    (pow_mono (omega (arith, in_order c.args.begin c.args.length c.args.from)))

pub returns : goal.returns
returns c =
    rw (c.power-2.ensures, c.power.ensures, c.edge.ensures, c.edge-end.ensures) (sym (span_is c.args.begin c.args.length c.args.from))

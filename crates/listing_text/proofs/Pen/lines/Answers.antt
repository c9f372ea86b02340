-- `Pen::lines` meets its contract: a turn stores the next line, and after the last none is left.
use Rattle.std.proofs.Common.{◌+◌, arith}
use Rattle.row_values.specs.Answers.{whole_answers}
use Rattle.listing_text.proofs.Pens.{room}
use Rattle.listing_text.proofs.Turns.{all_placed, last_line, next_line, no_room}
use Rattle.listing_text.proofs.Pen.lines.Goals as goal

pub returns-then-not-has_lines : goal.returns-then-not-has_lines
returns-then-not-has_lines c = no_room _ (whole_answers c.args.answers.now) _ c.has_lines.ensures c.if-not-has_lines.true

pub loop-k-preserved : goal.loop-k-preserved
loop-k-preserved c =
    let w = rw (c.answer_at.ensures, c.from.ensures) at c.line.ensures in
    record {
      room = omega room;
      size = omega room;
      left = λ q rest. c.loop-k.invariant.left q (next_line c.args.sends c.args.row c.loop-k.k c.args.answers.now (omega arith) w rest);
    }

pub returns : goal.returns
returns c =
    all_placed (whole_answers c.args.answers.now) _ c.has_lines.ensures c.if-not-has_lines.false
    (c.loop-k.invariant.left _ (last_line c.args.sends (c.args.row + c.loop-k.k) c.loop-k.k c.args.answers.now _ (omega arith)))

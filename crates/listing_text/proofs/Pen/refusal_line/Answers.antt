-- `Pen::refusal_line` meets its contract: where a line has room its parts are stored one after the other.
use Rattle.listing_rules.specs.Text.{refusal_line}
use Rattle.listing_text.proofs.Pens.{joined, room}
use Rattle.listing_text.proofs.Turns.{all_placed, has_room, no_room}
use Rattle.listing_text.proofs.Pen.refusal_line.Goals as goal

pub returns-then-not-has_lines : goal.returns-then-not-has_lines
returns-then-not-has_lines c = no_room _ 1 _ c.has_lines.ensures c.if-not-has_lines.true

pub word-requires-2 : goal.word-requires-2
word-requires-2 c = let h = has_room _ _ 1 c.has_lines.ensures c.if-not-has_lines.false in omega room

pub decimal-requires-2 : goal.decimal-requires-2
decimal-requires-2 c = let h = has_room _ _ 1 c.has_lines.ensures c.if-not-has_lines.false in omega room

pub byte-requires : goal.byte-requires
byte-requires c = let h = has_room _ _ 1 c.has_lines.ensures c.if-not-has_lines.false in omega room

pub returns : goal.returns
unfolding refusal_line
returns c =
    all_placed 1 _ c.has_lines.ensures c.if-not-has_lines.false
    (joined (joined (joined (joined c.word.ensures (rw c.from.ensures at c.decimal.ensures)) c.word-2.ensures) c.decimal-2.ensures)
    c.byte.ensures)

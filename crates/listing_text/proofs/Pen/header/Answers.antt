-- `Pen::header` meets its contract: its word is stored where a line has room.
use Rattle.listing_rules.specs.Text.{header}
use Rattle.listing_text.proofs.Turns.{all_placed, no_room}
use Rattle.listing_text.proofs.Pen.header.Goals as goal

pub returns-then-not-has_lines : goal.returns-then-not-has_lines
returns-then-not-has_lines c = no_room _ 1 _ c.has_lines.ensures c.if-not-has_lines.true

pub returns : goal.returns
unfolding header
returns c = all_placed 1 _ c.has_lines.ensures c.if-not-has_lines.false c.word.ensures

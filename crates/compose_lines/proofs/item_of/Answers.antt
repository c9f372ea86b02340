-- `compose_lines::item_of` meets its contract.
use Rattle.std.proofs.Common.{◌∙◌}
use Rattle.compose_lines.proofs.Laws.Lines.{item_none, item_next}
use Rattle.compose_lines.proofs.item_of.Goals as goal

pub returns-then-line-word : goal.returns-then-line-word
returns-then-line-word c = item_none _ _ c.word_at-word.ensures.is c.if-line-word.true

pub returns : goal.returns
returns c = c.by_keyword.ensures ∙ item_next _ _ _ c.word_at-word.ensures.is c.if-line-word.false c.numbers_of-numbers.ensures

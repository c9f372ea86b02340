-- `words::turn_at` meets its contract.
use Rattle.words.proofs.Series.{turn_none, turn_one}
use Rattle.words.proofs.turn_at.Goals as goal

pub returns-then-word-line : goal.returns-then-word-line
returns-then-word-line c = turn_one _ _ c.word_at-word.ensures c.requires c.if-word-line.true c.number_of.ensures

pub returns-else-word-line : goal.returns-else-word-line
returns-else-word-line c = turn_none _ _ c.word_at-word.ensures c.requires c.if-word-line.false

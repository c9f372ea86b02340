use Rattle.words.proofs.Series.{Going}
use Rattle.words.proofs.numbers_of.Given as goal

abbrev pub invariant-loop-value : goal.invariant-loop-value
invariant-loop-value l = Going l.line l.value-items l.count l.all l.at l.value-index

use Rattle.compose_text.proofs.Appends.{Rowing}
use Rattle.compose_text.proofs.append_rows.Given as goal

abbrev pub invariant-loop-k : goal.invariant-loop-k
invariant-loop-k l = Rowing l.initial.bodies l.bodies l.at l.commands l.pilots l.k

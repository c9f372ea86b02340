-- After k turns of `Pen::by_field` the ids up to k are stored.
use Rattle.ground.specs.Sums.{is_in}
use Rattle.listing_rules.specs.Text.{passing}
use Rattle.listing_text.specs.Asks.{Adds, ids_stored}
use Rattle.listing_text.proofs.Pen.by_field.Given as goal

abbrev pub invariant-loop-k : goal.invariant-loop-k
invariant-loop-k l = Adds l.initial.self l.self (ids_stored (passing (is_in l.ids) l.k))

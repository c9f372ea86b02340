-- What was written and what is left are the listing, and the listing isn't over.
use Rattle.std.proofs.Common.{length, ◌-◌, ◌≢◌}
use Rattle.constants.specs.Sizes.{pieces_most}
use Rattle.listing.specs.declared.Stand.{Stand}
use Rattle.printing.specs.Asks.{Printing}
use Rattle.printing.proofs.print.Given as goal

abbrev pub invariant-loop : goal.invariant-loop
invariant-loop g l = record {
  printing : Printing l.fn.job (length l.room) (g.W.Write.contents l.initial.to) (g.W.Write.contents l.to) (pieces_most - l.counter) l.stand;
  goes_on : l.stand ≢ Stand.Over;
}

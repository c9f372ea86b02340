-- `listing::rows_at_once` meets its contract: the least of the two calls is the least of three.
use Rattle.std.proofs.Common.{◌∙◌}
use Rattle.listing.specs.Pieces.{rows_at_once}
use Rattle.listing.proofs.rows_at_once.Goals as goal

pub returns : goal.returns
unfolding rows_at_once
returns c = c.min-2.ensures ∙ rw c.min.ensures

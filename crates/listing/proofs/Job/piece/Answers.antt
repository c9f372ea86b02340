-- `Job::piece` meets its contract: where the listing stands says which part is the next.
use Rattle.listing_rules.specs.Text.{header}
use Rattle.listing.specs.declared.Stand.{Stand}
use Rattle.listing.specs.Asks.{part_at}
use Rattle.listing.proofs.Stored.{alone}
use Rattle.listing.proofs.Job.piece.Goals as goal

pub returns-in-Before : goal.returns-in-Before
unfolding part_at
returns-in-Before c =
    rw (c.in-Before.is, ← c.start.ensures) (alone header (Stand.After c.start.result) c.requires c.header.ensures)

pub returns-in-After : goal.returns-in-After
unfolding part_at
returns-in-After c = rw c.in-After.is c.some_rows.ensures

pub returns-in-Over : goal.returns-in-Over
unfolding part_at
returns-in-Over c = rw c.in-Over.is

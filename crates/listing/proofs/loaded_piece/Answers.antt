-- `listing::loaded_piece` meets its contract: the load says whether the job is taken, and a refusal is printed alone.
use Rattle.std.proofs.Common.{sym}
use Rattle.job.specs.Load.{refusal_of}
use Rattle.job.proofs.Laws.Theorems.Taking.{takes}
use Rattle.listing_rules.specs.Text.{refusal_line}
use Rattle.listing.specs.declared.Stand.{Stand}
use Rattle.listing.proofs.Stored.{alone}
use Rattle.listing.proofs.loaded_piece.Goals as goal

pub returns-in_default : goal.returns-in_default
unfolding refusal_of
returns-in_default c =
    rw (← c.in_default.ensures.is)
    (alone (refusal_line c.in_default.field-0) Stand.Over c.requires
    (rw (c.refusal.ensures, c.in_default.is) at c.refusal_line.ensures))

pub invariant_of-taken : goal.invariant_of-taken
invariant_of-taken c =
    let t = takes c.args.job.now (sym c.in-Ok.ensures.is) in
    record { lies = t.lies; few = t.rows_few }

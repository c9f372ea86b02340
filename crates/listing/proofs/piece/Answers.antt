-- `listing::piece` meets its contract: a buffer that is too short is left as it was, and else the next part is stored in it.
use Rattle.std.proofs.Common.{◌≡◌, ◌⊎◌, ℕ, List, inl, inr, lt-ltb, le-ltb}
use Rattle.row_state.specs.declared.State.{State}
use Rattle.job.specs.Load.{loaded_of}
use Rattle.listing.specs.declared.Stand.{Stand}
use Rattle.listing.specs.Asks.{part_at}
use Rattle.listing.specs.Pieces.{if_taken, part_of, piece_of}
use Rattle.listing.proofs.Laws.Pieces.{piece_told}
use Rattle.listing.proofs.piece.Goals as goal

-- while the listing is not over, its next part is one of the job that is taken
part_left : (job : List ℕ) {stand : Stand} (size : ℕ) → (stand ≡ Stand.Before) ⊎ ((st : State) × (stand ≡ Stand.After st)) →
    if_taken (loaded_of job) (λ s b. part_at s b job stand size) ≡ part_of job stand size
unfolding part_of part_at
part_left job size (inl e) = rw e
part_left job size (inr (st, e)) = rw e

pub returns-then-out-lt-PIECE_LEAST : goal.returns-then-out-lt-PIECE_LEAST
unfolding piece_of
returns-then-out-lt-PIECE_LEAST c = piece_told _ _ _ (rw (lt-ltb _ _ c.if-out-lt-PIECE_LEAST.true))

pub returns-in-Before : goal.returns-in-Before
unfolding piece_of
returns-in-Before c =
    piece_told _ _ _
    (rw (le-ltb _ _ c.if-out-lt-PIECE_LEAST.false, ← (part_left c.args.job.now _ c.in-Before.is)) c.loaded_piece.ensures)

pub returns-in-Over : goal.returns-in-Over
unfolding piece_of part_of
returns-in-Over c = piece_told _ _ _ (rw (c.in-Over.is, le-ltb _ _ c.if-out-lt-PIECE_LEAST.false))

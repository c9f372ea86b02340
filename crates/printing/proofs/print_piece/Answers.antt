-- A piece lies inside its room, and is what is written, or begun.
use Rattle.std.proofs.Common.{sym, subst}
use Rattle.std.proofs.lemmas.List.{length-take-le}
use Rattle.std.specs.Io.KnownBytes.{Appends}
use Rattle.listing_theorems.proofs.Laws.Theorems.All.{theorems}
use Rattle.printing.specs.Asks.{Begun}
use Rattle.printing.proofs.Steps.{piece_text, where_failed}
use Rattle.printing.proofs.print_piece.Goals as goal

pub slice_bounds-write_whole-end : goal.slice_bounds-write_whole-end
slice_bounds-write_whole-end g c = theorems.inside _ _ _ c.piece.ensures.is c.in-Ok.is

pub slice_bounds-write_whole-end-in-Ok : goal.slice_bounds-write_whole-end-in-Ok
slice_bounds-write_whole-end-in-Ok g c = sym (length-take-le _ _ (theorems.inside _ _ _ c.piece.ensures.is c.in-Ok.is))

pub returns-in_ok-write_whole-in-Ok-clause-written : goal.returns-in_ok-write_whole-in-Ok-clause-written
returns-in_ok-write_whole-in-Ok-clause-written g c =
    subst (Appends _ _) (piece_text _ _ _ c.requires c.in-Ok.ensures.is) c.in_ok-write_whole-in-Ok.ensures.written

pub returns-in_err-write_whole-in-Ok-clause-failed : goal.returns-in_err-write_whole-in-Ok-clause-failed
returns-in_err-write_whole-in-Ok-clause-failed g c =
    where_failed _ (subst (Begun _ _) (piece_text _ _ _ c.requires c.in-Ok.ensures.is) c.in_err-write_whole-in-Ok.ensures.failed)

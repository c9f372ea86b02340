-- A text that has room is stored whole, and the buffer afterwards is the piece's.
-- Assumes nothing.
use Rattle.std.proofs.Common.{Ok}
use Prim.Native.Nat.{ℕ, ◌+◌, ◌*◌, ◌≤◌}
use mathlib.Core.Path.{◌≡◌}
use native.Mathlib.Nat.{zero-add}
use mathlib.Core.Bool.{Bool}
use mathlib.Core.List.{List, ◌++◌}
use native.Mathlib.Omega.{arith}
use lib.ListN.{length, length-append}
use lib.Seq.{sets, length-sets}
use Rattle.ground.proofs.Laws.Lists.{sets_append}
use Rattle.constants.specs.Sizes.{line_room, piece_least}
use Rattle.row_values.specs.declared.Answer.{Answer}
use Rattle.row_rules.specs.declared.Ran.{Ran}
use Rattle.listing_rules.specs.Text.{Wrote, WroteLines, lines}
use Rattle.listing_rules.proofs.Laws.Text.{placed_there, lines_length}
use Rattle.listing.specs.declared.Stand.{Stand}
use Rattle.listing.specs.Pieces.{part_with, closes, stands_at, made, placed_in}
use Rattle.listing.specs.Asks.{closed_at}

-- lines that have room are all stored
pub all_lines : {next at : ℕ} {exit entry : List ℕ} (count : ℕ) (text : List ℕ) → at + line_room * count ≤ length entry →
    WroteLines next exit entry at count text → Wrote next exit entry at text
all_lines {at} {entry} count text h w = rw (placed_there count (length entry) at text h) at w

-- a line of the text's
pub one_line : {next at : ℕ} {exit entry : List ℕ} (text : List ℕ) (stand : Stand) → at + line_room ≤ length entry →
    WroteLines next exit entry at 1 text →
    made (Ok (next, stand)) exit ≡ made (Ok ((at + length text), stand)) (sets entry at text)
one_line text stand h w = let v = all_lines 1 text (omega arith) w in rw (v.place, v.bytes)

-- alone, from the first byte on
pub alone : {next : ℕ} {exit entry : List ℕ} (text : List ℕ) (stand : Stand) → piece_least ≤ length entry → WroteLines next exit entry 0 1 text →
    made (Ok (next, stand)) exit ≡ placed_in entry (part_with text stand)
alone text stand h w = rw (zero-add (length text)) at (one_line text stand (omega arith) w)

-- the lines of so many rows end where there is room for a line more
pub lines_end : {next : ℕ} {exit entry : List ℕ} (sends : Bool) (row : ℕ) (l : List Answer) → line_room * length l + line_room ≤ length entry →
    Wrote next exit entry 0 (lines sends row l) → next + line_room ≤ length exit
lines_end {entry} sends row l h w =
    let m : length (sets entry 0 (lines sends row l)) ≡ length entry = length-sets entry 0 (lines sends row l) in
    rw w.bytes (omega (arith, w.place, lines_length sends row l))

-- what follows them is stored behind them
pub then_closed : {next : ℕ} {exit entry text : List ℕ} (count : ℕ) (ran : Ran) → Wrote next exit entry 0 text →
    closed_at exit next count ran ≡ placed_in entry (part_with (text ++ closes count ran) (stands_at count ran))
unfolding closed_at
then_closed {entry} {text} count ran w =
    rw (w.bytes, w.place, sets_append entry 0 text (closes count ran), length-append text (closes count ran), zero-add (length text))

-- `listing::show` meets its contract: the lines of the rows that the run took are all stored, and what follows them behind them.
use Rattle.std.proofs.Common.{ℕ, ◌*◌, ◌≡◌, ◌∙◌, Bool, List, ℤ, take, arith}
use Rattle.std.proofs.Math.Nat.{sub-zero}
use lib.Seq.{length-take-le}
use Rattle.constants.specs.Sizes.{answer_numbers}
use Rattle.row_values.specs.Answers.{answers_in, whole_answers}
use Rattle.row_values.proofs.Laws.OnAnswers.{answers_length}
use Rattle.row_rules.specs.declared.Ran.{Ran}
use Rattle.listing_rules.specs.Text.{Wrote, WroteLines, lines}
use Rattle.listing.specs.Asks.{taken_by, Showing}
use Rattle.listing.specs.Pieces.{rows_part}
use Rattle.listing.proofs.Stored.{all_lines, lines_end, then_closed}
use Rattle.listing.proofs.show.Goals as goal

-- the numbers of the rows that a run took
abbrev taken : ℕ → Ran → List ℤ → List ℤ
taken row ran numbers = take (answer_numbers * taken_by row ran) numbers

taken_whole : {row : ℕ} {ran : Ran} {numbers : List ℤ} {out : List ℕ} → Showing row ran numbers out →
    whole_answers (taken row ran numbers) ≡ taken_by row ran
taken_whole {row} {ran} {numbers} h = omega (arith, length-take-le (answer_numbers * taken_by row ran) numbers h.has_numbers)

-- their lines are all stored
stored : {next row : ℕ} {exit out : List ℕ} (sends : Bool) {ran : Ran} {numbers : List ℤ} → Showing row ran numbers out →
    WroteLines next exit out 0 (whole_answers (taken row ran numbers)) (lines sends row (answers_in (taken row ran numbers))) →
    Wrote next exit out 0 (lines sends row (answers_in (taken row ran numbers)))
stored {row} sends {ran} {numbers} h w =
    all_lines (whole_answers (taken row ran numbers)) _ (omega (arith, taken_whole h, h.room)) w

pub close-requires : goal.close-requires
close-requires c =
    let h = c.requires in
    let a = taken c.args.row c.args.ran c.args.answers.now in
    let w = simp (sub-zero, c.rows_taken-k.ensures) at c.lines-at.ensures in
    lines_end _ _ (answers_in a) (omega (arith, taken_whole h, h.room, answers_length a (whole_answers a) 0)) (stored _ h w)

pub returns : goal.returns
unfolding rows_part
returns c =
    let w = simp (sub-zero, c.rows_taken-k.ensures) at c.lines-at.ensures in
    c.close.ensures ∙ then_closed c.args.count c.args.ran (stored _ c.requires w)

-- `exports_state::pack` meets its contract: as many numbers as a state has are all that is left.
use Rattle.ground.proofs.Laws.Choice.{tests}
use Rattle.exports_state.specs.Packed.{numbers_of, packed_of}
use Rattle.exports_state.proofs.pack.Goals as goal

pub returns-then-numbers-eq-STATE_NUMBERS : goal.returns-then-numbers-eq-STATE_NUMBERS
unfolding packed_of numbers_of
returns-then-numbers-eq-STATE_NUMBERS c =
    rw (c.copy_from_slice.ensures.after, c.copy_from_slice-then-numbers-eq-STATE_NUMBERS.ensures.after, c.all_numbers-all.ensures)
    (search (tests, c.if-numbers-eq-STATE_NUMBERS.true))

pub returns : goal.returns
unfolding packed_of
returns c = search (tests, c.if-numbers-eq-STATE_NUMBERS.false)

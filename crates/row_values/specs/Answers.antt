-- "A row's answer …: state (0 gap, 1 sent, 2 limited), command, DPCCH, DPDCH, total, held (withheld so far)"; it
-- "becomes eight numbers, the new two being the uplink and downlink sets": from and to a buffer of numbers.
-- RULES: listing
-- Definitions, to be believed.
use Rattle.std.specs.Prelude.{ℕ, zero, suc, ◌+◌, ◌*◌, ◌/◌, List, [], ◌∷◌, ◌++◌, ltb, ℤ, pos, length, get_or}
use Rattle.std.proofs.lemmas.List.Edits.{sets}
use Rattle.ground.specs.Choice.{when◌then◌else◌}
use Rattle.constants.specs.Sizes.{answer_numbers}
use Rattle.row_values.specs.declared.Answer.{Answer}

-- the eight numbers, in that order
abbrev pub numbers : Answer → List ℤ
numbers a = a.state ∷ a.command ∷ a.dpcch ∷ a.dpdch ∷ a.total ∷ a.held ∷ a.uplink ∷ a.downlink ∷ []

-- those of answers one after the other
unfoldable pub all_numbers : List Answer → List ℤ
all_numbers [] = []
all_numbers (a ∷ rest) = numbers a ++ all_numbers rest

-- answer k of a buffer, from 0, by its number at each place
abbrev pub number_at : List ℤ → ℕ → ℤ
number_at buffer i = get_or buffer i (pos 0)

abbrev pub answer_from : List ℤ → (at : ℕ) → Answer
answer_from buffer at =
    record {
      state = number_at buffer at;
      command = number_at buffer (at + 1);
      dpcch = number_at buffer (at + 2);
      dpdch = number_at buffer (at + 3);
      total = number_at buffer (at + 4);
      held = number_at buffer (at + 5);
      uplink = number_at buffer (at + 6);
      downlink = number_at buffer (at + 7);
    }

-- how many whole answers a buffer has, the `left` answers from answer k on, and all of them
abbrev pub whole_answers : List ℤ → ℕ
whole_answers buffer = length buffer / answer_numbers

unfoldable pub answers_from : List ℤ → (left k : ℕ) → List Answer
answers_from buffer zero k = []
answers_from buffer (suc left) k = answer_from buffer (answer_numbers * k) ∷ answers_from buffer left (k + 1)

abbrev pub answers_in : List ℤ → List Answer
answers_in buffer = answers_from buffer (whole_answers buffer) 0

-- an answer of zeros, for a buffer that has no whole answer k
abbrev pub no_answer : Answer
no_answer =
    record {
      state = pos 0;
      command = pos 0;
      dpcch = pos 0;
      dpdch = pos 0;
      total = pos 0;
      held = pos 0;
      uplink = pos 0;
      downlink = pos 0;
    }

unfoldable pub answer_read : List ℤ → ℕ → Answer
answer_read buffer k = when ltb k (whole_answers buffer) then answer_from buffer (answer_numbers * k) else no_answer

-- answer k of a buffer set, its other numbers as they were; a buffer without room for it as it was
unfoldable pub answer_put : List ℤ → ℕ → Answer → List ℤ
answer_put buffer k a = when ltb k (whole_answers buffer) then sets buffer (answer_numbers * k) (numbers a) else buffer

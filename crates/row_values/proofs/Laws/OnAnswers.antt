-- The laws of answers as values: what was stored is read back, and what a loop over a buffer's answers
-- meets at each turn.
-- Assumes nothing.
use Rattle.std.specs.Prelude.{ℕ, zero, suc, ◌+◌, ◌-◌, ◌*◌, ◌≤◌, ◌<◌, ◌≡◌, refl, List, [], ◌∷◌, ◌++◌, ℤ, length, take}
use Rattle.std.proofs.Common.{ap, append-nil, arith, lt-ltb, length-append, take_at}
use Rattle.std.proofs.Math.Numerals.{towards_suc}
use Rattle.ground.proofs.Laws.Lists.{left_suc, left_none}
use Rattle.constants.specs.Sizes.{answer_numbers}
use Rattle.row_values.specs.declared.Answer.{Answer}
use Rattle.row_values.specs.Answers.{numbers, all_numbers, whole_answers, answers_from, answers_in, answer_read}

-- ---- what was stored is read back

-- the numbers of answers are so many for each
pub numbers_length : (l : List Answer) → length (all_numbers l) ≡ answer_numbers * length l
unfolding all_numbers
numbers_length [] = refl
numbers_length (a ∷ rest) = rw (length-append (numbers a) (all_numbers rest)) (omega (arith, numbers_length rest))

-- the answers after a first one are those of the numbers after its own
later_answers : (a : Answer) (buffer : List ℤ) (left k : ℕ) → answers_from (numbers a ++ buffer) left (k + 1) ≡ answers_from buffer left k
unfolding answers_from
later_answers a buffer zero k = refl
later_answers a buffer (suc left) k =
    let e : answer_numbers * (k + 1) ≡ answer_numbers * k + answer_numbers = omega arith in
    rw (e, later_answers a buffer left (k + 1)) (simp towards_suc)

-- answers read from their own numbers, whatever stands after these
front_back : (l : List Answer) (rest : List ℤ) → answers_from (all_numbers l ++ rest) (length l) 0 ≡ l
unfolding all_numbers answers_from
front_back [] rest = refl
front_back (a ∷ l) rest = rw (later_answers a (all_numbers l ++ rest) (length l) 0, front_back l rest)

pub answers_back : (l : List Answer) → answers_in (all_numbers l) ≡ l
answers_back l =
    let e : whole_answers (all_numbers l) ≡ length l = omega (arith, numbers_length l) in
    rw e (rw (append-nil (all_numbers l)) at (front_back l []))

-- and from the front of a buffer that has them
pub front_answers : (l : List Answer) (rest : List ℤ) → answers_in (take (answer_numbers * length l) (all_numbers l ++ rest)) ≡ l
front_answers l rest = rw (take_at (all_numbers l) rest (answer_numbers * length l) (numbers_length l)) (answers_back l)

-- ---- a buffer's answers, one after the other

pub answers_length : (buffer : List ℤ) (left k : ℕ) → length (answers_from buffer left k) ≡ left
unfolding answers_from
answers_length buffer zero k = refl
answers_length buffer (suc left) k = ap suc (answers_length buffer left (k + 1))

-- the answer of a turn, then those of the turns after it
pub next_answer : (buffer : List ℤ) (k : ℕ) → k < whole_answers buffer →
    answers_from buffer (whole_answers buffer - k) k ≡ answer_read buffer k ∷ answers_from buffer (whole_answers buffer - (k + 1)) (k + 1)
unfolding answers_from answer_read
next_answer buffer k h = rw (left_suc (whole_answers buffer) k h, lt-ltb k (whole_answers buffer) h)

-- after the last turn none is left
pub no_answer_left : (buffer : List ℤ) (k : ℕ) → whole_answers buffer ≤ k → answers_from buffer (whole_answers buffer - k) k ≡ []
unfolding answers_from
no_answer_left buffer k h = rw (left_none (whole_answers buffer) k h)

-- "On both sides of each edge": the marked cases of this layer, as one statement, and that the rules give them all.
-- And some that are not marked.
-- Assumes nothing.
-- RULES: cases
use Rattle.std.specs.Prelude.{◌≡◌, refl, [], ◌∷◌, pos, negsuc}
use Rattle.ground.specs.Lists.{total}
use Rattle.command_algorithms.specs.Algorithms.{all_ones, algorithm1, algorithm2}
use Rattle.command_algorithms.specs.Algorithms.{temporary, temporaries, any_minus, combined}

pub record Cases : Type 0 where
  -- "N 3, algorithm 2 temporaries 1, 1, 0 give +1"
  pub majority : combined 3 (pos 1 ∷ pos 1 ∷ pos 0 ∷ []) ≡ pos 1
  -- "N 2, 1, 0 give 0"
  pub half : combined 2 (pos 1 ∷ pos 0 ∷ []) ≡ pos 0
  -- "1, 1, −1 give −1"
  pub minus : combined 3 (pos 1 ∷ pos 1 ∷ negsuc 0 ∷ []) ≡ negsuc 0

pub cases : Cases
unfolding total any_minus combined
cases = record { majority = refl; half = refl; minus = refl }

record Unmarked : Type 0 where
  -- a zero in one slot of link set 1 leaves one vote of two; in one slot of the only link set it leaves none
  four_of_one : algorithm2 (record { a = 3; b = 1; c = 3; d = 3; e = 3 }) 2 ≡ pos 0
  four_alone : algorithm2 (record { a = 1; b = 1; c = 1; d = 1; e = 0 }) 1 ≡ pos 0
  -- five ones in each are a majority
  five_alone : algorithm2 (record { a = 1; b = 1; c = 1; d = 1; e = 1 }) 1 ≡ pos 1
  -- algorithm 1 asks N link sets and no more
  all : algorithm1 3 2 ≡ pos 1
  not_all : algorithm1 3 3 ≡ negsuc 0

unmarked : Unmarked
unfolding total all_ones algorithm1 temporary temporaries any_minus combined algorithm2
unmarked = record { four_of_one = refl; four_alone = refl; five_alone = refl; all = refl; not_all = refl }

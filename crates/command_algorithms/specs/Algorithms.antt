-- "The command of a row": algorithms 1 and 2, over the link sets one by one.
-- RULES: command
-- Definitions, to be believed.
use Rattle.std.specs.Prelude.{ℕ, zero, suc, ◌+◌, ◌/◌, ◌%◌, ◌^◌, List, [], ◌∷◌, ◌++◌, Bool, true, false, ◌||◌, eqb, ℤ, pos, negsuc, ◌*ℤ◌}
use Rattle.std.specs.Int.Signed.{lt_z}
use Rattle.ground.specs.Choice.{when◌then◌else◌}
use Rattle.ground.specs.Lists.{total}
use Rattle.command_algorithms.specs.declared.Five.{Five}

-- "one bit per link set, lowest bit first, 1 for command "1"": the decision of link set i, from 0
abbrev pub decision : ℕ → ℕ → ℕ
decision commands i = commands / 2 ^ i % 2

-- whether the decisions of the `left` link sets from link set i on are all 1
unfoldable pub all_ones : ℕ → ℕ → ℕ → Bool
all_ones commands zero i = true
all_ones commands (suc left) i = when eqb (decision commands i) 0 then false else all_ones commands left (i + 1)

-- "Algorithm 1: +1 if all N decisions are 1, else −1"
-- DECISIONS: command-any-links
unfoldable pub algorithm1 : ℕ → ℕ → ℤ
algorithm1 commands links = when all_ones commands links 0 then pos 1 else negsuc 0

-- how many of the five slots decide 1 for link set i
abbrev pub ones_at : Five → ℕ → ℕ
ones_at f i = decision f.a i + decision f.b i + decision f.c i + decision f.d i + decision f.e i

-- "each link set gives +1 for five ones, −1 for five zeros, else 0"
unfoldable pub temporary : ℕ → ℤ
temporary ones = when eqb ones 5 then pos 1 else when eqb ones 0 then negsuc 0 else pos 0

-- of the `left` link sets from link set i on
unfoldable pub temporaries : Five → ℕ → ℕ → List ℤ
temporaries f zero i = []
temporaries f (suc left) i = temporary (ones_at f i) ∷ temporaries f left (i + 1)

-- whether any gives −1
unfoldable pub any_minus : List ℤ → Bool
any_minus [] = false
any_minus (t ∷ ts) = lt_z t (pos 0) || any_minus ts

-- "the sum is more than N/2": twice the sum is more than N
-- DECISIONS: command-majority
abbrev pub majority : (links : ℕ) (sum : ℤ) → Bool
majority links sum = lt_z (pos links) (pos 2 *ℤ sum)

-- "the command is −1 if any gives −1; else +1 if the sum is more than N/2; else 0"
unfoldable pub combined : ℕ → List ℤ → ℤ
combined links ts = when any_minus ts then negsuc 0 else when majority links (total ts) then pos 1 else pos 0

-- "In the fifth, …": over all N link sets
-- DECISIONS: command-any-links
unfoldable pub algorithm2 : Five → ℕ → ℤ
algorithm2 five links = combined links (temporaries five links 0)

-- the first `links` link sets that have five ones, counted
unfoldable pub fives : Five → ℕ → ℕ
fives f zero = 0
fives f (suc links) = when eqb (ones_at f links) 5 then suc (fives f links) else fives f links

-- lists that differ in their order alone: the same, two neighbours exchanged, and one after the other
pub data Permuted : List ℤ → List ℤ → Type 0 where
  same : {ts : List ℤ} → Permuted ts ts
  exchanged : (xs ys : List ℤ) (a b : ℤ) → Permuted (xs ++ a ∷ b ∷ ys) (xs ++ b ∷ a ∷ ys)
  after : {ts us vs : List ℤ} → Permuted ts us → Permuted us vs → Permuted ts vs

-- the code goes from link set to link set by halves
abbrev pub lowest : Five → ℕ
lowest f = f.a % 2 + f.b % 2 + f.c % 2 + f.d % 2 + f.e % 2

abbrev pub halved : Five → Five
halved f = record { a = f.a / 2; b = f.b / 2; c = f.c / 2; d = f.d / 2; e = f.e / 2 }

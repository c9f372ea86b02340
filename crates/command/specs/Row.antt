-- "The command of a row": what makes it 0, and which algorithm gives it. By the five-slot set as a state, and the
-- same without a state.
-- RULES: command
-- Definitions, to be believed.
use Rattle.std.specs.Prelude.{ℕ, ◌+◌, ◌-◌, ◌*◌, ◌≤◌, ◌<◌, ◌≡◌, ◌⊎◌, Bool, true, false, not, eqb, ℤ, pos, negsuc}
use Rattle.ground.specs.Choice.{when◌then◌else◌}
use Rattle.gap_runs.specs.declared.Kind.{Kind}
use Rattle.gap_runs.specs.declared.Kind.TheVariants.{Gap, Resume, Recovery, Plain}
use Rattle.command_algorithms.specs.declared.Set.{Set}
use Rattle.command_algorithms.specs.declared.Five.{Five}
use Rattle.command_algorithms.specs.Algorithms.{decision, algorithm1, ones_at, algorithm2, fives}
use Rattle.command_algorithms.specs.Sets.{place_in, fifth, five_of, any_spoils}

-- "a recovery slot under RPP 1", whose command and change go by rules of their own. Any RPP but 1 is taken as 0
-- DECISIONS: command-recovery-everywhere, settings-other-values
unfoldable pub recovery_of : (rpp : ℕ) → Kind → Bool
recovery_of rpp Gap = false
recovery_of rpp Resume = false
recovery_of rpp Recovery = eqb rpp 1
recovery_of rpp Plain = false

-- "Downlink gap: 0."; "Recovery slots under RPP 1 use algorithm 1; all others use PCA."; "Slots but the fifth give
-- 0."; 0 for a set that is spoilt. Any PCA but 2 is taken as 1.
-- DECISIONS: command-of-resume, command-what-spoils, settings-other-values
unfoldable pub command_of : (pca links : ℕ) (down recovery : Bool) (slot : ℕ) (set : Set) (commands : ℕ) → ℤ
command_of pca links down recovery slot set commands =
    when down then pos 0 else
    when recovery then algorithm1 commands links else
    when not (eqb pca 2) then algorithm1 commands links else
    when not (fifth slot) then pos 0 else
    when set.spoilt then pos 0 else
    algorithm2 (five_of set commands) links

-- ---- the same from the slots so far, without a state

-- `commands`, `down` and `recovery` give each slot's byte and what it is
module _ (commands : ℕ → ℕ) (down recovery : ℕ → Bool) where
  -- the bytes of the five slots that end with slot k
  abbrev pub five_at : ℕ → Five
  five_at k =
      record {
        a = commands (k - 4);
        b = commands (k - 3);
        c = commands (k - 2);
        d = commands (k - 1);
        e = commands k;
      }

  -- "In the fifth, each link set gives …", "It is 0 if any slot of the five is a downlink gap slot, or a recovery
  -- slot under RPP 1": the fifth itself is one of the five, and the two lines above have taken it already
  unfoldable pub said_command : (pca links k : ℕ) → ℤ
  said_command pca links k =
      when down k then pos 0 else
      when recovery k then algorithm1 (commands k) links else
      when not (eqb pca 2) then algorithm1 (commands k) links else
      when not (fifth k) then pos 0 else
      when any_spoils down recovery 4 k then pos 0 else
      algorithm2 (five_at k) links

  -- ---- the same sentence by sentence, without an order of tests

  module _ (pca links : ℕ) where
    -- "Recovery slots under RPP 1 use algorithm 1; all others use PCA", and no downlink gap slot uses either
    pub record UsesOne (k : ℕ) : Type 0 where
      pub no_gap : down k ≡ false
      pub so : (recovery k ≡ true) ⊎ (pca ≡ 2 → ⊥)

    pub record UsesTwo (k : ℕ) : Type 0 where
      pub no_gap : down k ≡ false
      pub no_recovery : recovery k ≡ false
      pub so : pca ≡ 2

    -- "all N decisions are 1"
    abbrev pub AllOnes : ℕ → Type 0
    AllOnes k = (i : ℕ) → i < links → decision (commands k) i ≡ 1

    -- "any slot of the five is a downlink gap slot, or a recovery slot under RPP 1"
    pub record Spoilt (k : ℕ) : Type 0 where
      pub which : ℕ
      pub first : k ≤ which + 4
      pub last : which ≤ k
      pub so : (down which ≡ true) ⊎ (recovery which ≡ true)

    -- "In the fifth", where none of the five spoils it
    pub record Decides (k : ℕ) : Type 0 where
      pub uses : UsesTwo k
      pub in_fifth : place_in k ≡ 4
      pub unspoilt : Spoilt k → ⊥

    -- "−1 for five zeros"
    abbrev pub GivesMinus : (k i : ℕ) → Type 0
    GivesMinus k i = (i < links) × (ones_at (five_at k) i ≡ 0)

    pub data Commanded (k : ℕ) : ℤ → Type 0 where
      -- "Downlink gap: 0."
      in_gap_lem : down k ≡ true → Commanded k (pos 0)
      -- "Algorithm 1: +1 if all N decisions are 1, else −1"
      one_up : UsesOne k → AllOnes k → Commanded k (pos 1)
      one_down : UsesOne k → (AllOnes k → ⊥) → Commanded k (negsuc 0)
      -- "Slots but the fifth give 0.", "It is 0 if any slot of the five is …"
      not_fifth : UsesTwo k → (place_in k ≡ 4 → ⊥) → Commanded k (pos 0)
      spoilt : UsesTwo k → place_in k ≡ 4 → Spoilt k → Commanded k (pos 0)
      -- "−1 if any gives −1; else +1 if the sum is more than N/2; else 0": where none gives −1, the sum is how many
      -- give +1 for five ones
      two_down : Decides k → (i : ℕ) → GivesMinus k i → Commanded k (negsuc 0)
      two_up : Decides k → ((i : ℕ) → GivesMinus k i → ⊥) → links < 2 * fives (five_at k) links → Commanded k (pos 1)
      two_none : Decides k → ((i : ℕ) → GivesMinus k i → ⊥) → 2 * fives (five_at k) links ≤ links → Commanded k (pos 0)

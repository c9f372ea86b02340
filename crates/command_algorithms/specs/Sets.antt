-- "The command of a row": the five-slot set as a state that goes on by one
-- slot, and the same without a state; and the range of its bytes.
-- RULES: command
-- Definitions, to be believed.
use Rattle.std.specs.Prelude.{ℕ, zero, suc, ◌-◌, ◌%◌, ◌^◌, ◌<◌, Bool, false, not, ◌&&◌, ◌||◌, ltb, eqb}
use Rattle.ground.specs.Choice.{when◌then◌else◌}
use Rattle.command_algorithms.specs.declared.Five.{Five}
use Rattle.command_algorithms.specs.declared.Set.{Set}

-- "sets are slots 0-4, 5-9, 10-14 of a frame", and "Frames have 15 slots": where in its set a slot stands, from 0 to 4
-- DECISIONS: command-set-of-slot
abbrev pub place_in : ℕ → ℕ
place_in slot = slot % 15 % 5

-- "the fifth"
abbrev pub fifth : ℕ → Bool
fifth slot = eqb (place_in slot) 4

-- "It is 0 if any slot of the five is a downlink gap slot, or a
-- recovery slot under RPP 1": what one slot does to its set
-- DECISIONS: command-what-spoils
abbrev pub spoils : (down recovery : Bool) → Bool
spoils down recovery = down || recovery

-- the set before slot 0
unfoldable pub fresh_of : Set
fresh_of = record { a = 0; b = 0; c = 0; d = 0; spoilt = false }

-- one slot on: its byte comes last; after the fifth slot nothing has spoilt the next set yet
unfoldable pub set_after : (set : Set) (slot : ℕ) (down recovery : Bool) (commands : ℕ) → Set
set_after set slot down recovery commands = record {
  a = set.b;
  b = set.c;
  c = set.d;
  d = commands;
  spoilt = not (fifth slot) && (set.spoilt || spoils down recovery);
}

-- the five bytes of a set in its fifth slot
abbrev pub five_of : Set → ℕ → Five
five_of set commands = record { a = set.a; b = set.b; c = set.c; d = set.d; e = commands }

-- "bits from N up zero": a row's byte has no bit beyond its N link sets
abbrev pub within_links : (commands links : ℕ) → Bool
within_links commands links = ltb commands (2 ^ links)

-- the range of a set: each of its bytes is one that a row may have. As a fact, and as a test
pub record IsSet (links : ℕ) (set : Set) : Type 0 where
  pub first : set.a < 2 ^ links
  pub second : set.b < 2 ^ links
  pub third : set.c < 2 ^ links
  pub fourth : set.d < 2 ^ links

unfoldable pub set_sound : (links : ℕ) (set : Set) → Bool
set_sound links set =
    within_links set.a links && within_links set.b links &&
    (within_links set.c links && within_links set.d links)

-- ---- the same from the slots so far, without a state

-- `commands`, `down` and `recovery` give each slot's byte and what it is

-- the byte of the slot that lies n slots before slot k, and 0 where there is none
unfoldable pub earlier : (commands : ℕ → ℕ) (n k : ℕ) → ℕ
earlier commands n k = when ltb k n then 0 else commands (k - n)

-- whether one of the n slots before slot k spoils its set
unfoldable pub any_spoils : (down recovery : ℕ → Bool) (n k : ℕ) → Bool
any_spoils down recovery zero k = false
any_spoils down recovery (suc n) k = any_spoils down recovery n k || spoils (down (k - suc n)) (recovery (k - suc n))

module _ (commands : ℕ → ℕ) (down recovery : ℕ → Bool) where
  -- the set before slot k, walked from slot 0
  unfoldable pub set_at : ℕ → Set
  set_at zero = fresh_of
  set_at (suc k) = set_after (set_at k) k (down k) (recovery k) (commands k)

  -- the same at once: the four bytes before, and whether a slot of this set so far has spoilt it
  unfoldable pub said_set : ℕ → Set
  said_set k = record {
    a = earlier commands 4 k;
    b = earlier commands 3 k;
    c = earlier commands 2 k;
    d = earlier commands 1 k;
    spoilt = any_spoils down recovery (place_in k) k;
  }

-- The filter and its update, in binary64's own operations, and the exact recursion that it follows.
-- RULES: filter
-- Definitions, to be believed.
use Rattle.std.specs.Prelude.{◌≡◌, ℕ, suc, ◌+◌, ◌-◌, ◌*◌, ◌/◌, ◌%◌, ◌^◌, ◌≤◌, min, Bool, false, ◌&&◌, T, List, [], ◌∷◌, length, ℤ, pos, negsuc, ◌-ℤ◌, ◌*ℤ◌, nat_lt, unsigned_abs, Float}
use Rattle.std.specs.Float.{fin, binary64}
use Rattle.std.specs.Float.Ieee.{fits, mul, sub, of_int}
use Rattle.ground.specs.Choice.{when◌then◌else◌}
use Rattle.resume_filter.specs.declared.Filter.{Filter}
use Rattle.resume_filter.specs.Scaled.{scaled, Bounded, in_range}

-- "It starts at 0"
abbrev pub start : Float
start = fin false 0 (pos 0)

-- 0.9375, which is 15·2^−4
abbrev pub decay : Float
decay = fin false 15 (negsuc 3)

-- "0.9375 × filter, rounded, minus (command × step × 31/32 × k), rounded"
unfoldable pub next : Float → ℤ → Float
next x bracket = sub binary64 (mul binary64 decay x) (of_int binary64 bracket)

-- "step × 31/32": 62 and 124. Of a step that is no multiple of 32 the fraction is dropped
-- DECISIONS: filter-whole-bracket
unfoldable pub share_of : ℕ → ℕ
share_of step = step * 31 / 32

-- "the bracket is a whole number, formed first": command × step × 31/32 × k, where
-- "k is 0 if this row and the one before it are both limited, else 1"
-- DECISIONS: filter-whole-bracket, filter-row-before
unfoldable pub update_bracket : (command : ℤ) (step : ℕ) (limited-before limited_now : Bool) → ℤ
update_bracket command step limited-before limited_now =
    command *ℤ pos (share_of step) *ℤ pos (when limited-before && limited_now then 0 else 1)

-- "kept with the count of its updates": one more, as long as 32 bits hold it
-- DECISIONS: filter-count-top
unfoldable pub counted : ℕ → ℕ
counted n = when nat_lt n 4294967295 then n + 1 else n

-- the filter at its start and after an update
unfoldable pub empty_of : Filter
empty_of = record { level = start; count = 0 }

unfoldable pub updated_of : Filter → ℤ → Filter
updated_of f bracket = record { level = next f.level bracket; count = counted f.count }

-- the filter after a list of brackets, the newest first
unfoldable pub after : List ℤ → Filter
after [] = empty_of
after (b ∷ bs) = updated_of (after bs) b

-- "the exact value after m updates times 16^m": x becomes 15/16·x − b, from 0
unfoldable pub exact : List ℤ → ℤ
exact [] = pos 0
exact (b ∷ bs) = pos 15 *ℤ exact bs -ℤ pos (16 ^ suc (length bs)) *ℤ b

-- what is claimed of brackets holds of any that are even and at most 124 in size, as 0, ±62 and ±124 are
-- DECISIONS: filter-any-brackets
pub record Bracket (b : ℤ) : Type 0 where
  pub most : unsigned_abs b ≤ 124
  pub even : unsigned_abs b % 2 ≡ 0

unfoldable pub Brackets : List ℤ → Type 0
Brackets [] = Unit {0}
Brackets (b ∷ bs) = Bracket b × Brackets bs

-- "The first eleven updates after 0 are exact"
-- DECISIONS: filter-twelve-not-exact
abbrev pub exacts : ℕ
exacts = 11

-- "at any count it lies within 2^−38 unit of the exact recursion.
-- That is said over whole numbers": all times 16^m · 2^1074
pub record Follows (f : Filter) (bs : List ℤ) : Type 0 where
  pub level : Bounded f.level
  pub near :
      unsigned_abs (pos (16 ^ length bs) *ℤ scaled f.level -ℤ pos (2 ^ 1074) *ℤ exact bs) ≤
      2 ^ (1074 - 38) * 16 ^ length bs
  pub first : f.count ≤ exacts → pos (16 ^ length bs) *ℤ scaled f.level ≡ pos (2 ^ 1074) *ℤ exact bs
  pub counts : f.count ≡ min (length bs) 4294967295

-- one update with no history, of a filter f to g: a level again, and
-- within 2^−42 unit of 15/16 of the old one less the bracket.
-- All times 16 · 2^1074
pub record Updated (f : Filter) (bracket : ℤ) (g : Filter) : Type 0 where
  pub level : Bounded g.level
  pub near :
      unsigned_abs (pos 16 *ℤ scaled g.level -ℤ (pos 15 *ℤ scaled f.level -ℤ pos 16 *ℤ (pos (2 ^ 1074) *ℤ bracket))) ≤
      16 * 2 ^ (1074 - 42)

-- the range of a state's filter after so many rows, of which refusal 11 speaks, as a fact and as a test
-- DECISIONS: filter-count-within-rows
pub record IsFilter (rows : ℕ) (f : Filter) : Type 0 where
  pub level : Bounded f.level
  pub count : f.count ≤ rows

-- DECISIONS: filter-count-within-rows
unfoldable pub filter_sound : Filter → ℕ → Bool
filter_sound f rows = when nat_lt rows f.count then false else in_range f.level

-- what that test answers, and tells besides
pub record FilterTested (f : Filter) (rows : ℕ) (answer : Bool) : Type 0 where
  pub is : answer ≡ filter_sound f rows
  pub fits : T (fits binary64 f.level)

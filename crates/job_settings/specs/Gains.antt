-- The triples of a job: a part of its bytes, three for each (βc, βd, n), and the gain of each.
-- RULES: settings, power
-- Definitions, to be believed.
use Rattle.std.specs.Prelude.{ℕ, ◌+◌, ◌*◌, ◌/◌, Bool, List, ltb, ℤ, length, get_or}
use Rattle.std.specs.Option.{is_none}
use Rattle.ground.specs.Choice.{when◌then◌else◌}
use Rattle.constants.specs.Sizes.{triple_bytes}
use Rattle.power.specs.declared.Triple.{Triple}
use Rattle.power.specs.declared.Gain.{Gain}
use Rattle.power.specs.Gain.{triple, gain_of}
use Rattle.power.specs.Triples.{triple_fault}

-- "5 βc …; 6 βd …; 7 DPDCH count n": the triple that starts at a byte
abbrev pub triple_from : List ℕ → (at : ℕ) → Triple
triple_from gains at = triple (get_or gains at 0) (get_or gains (at + 1) 0) (get_or gains (at + 2) 0)

-- triple k of a part that has one, from 0, and a triple of zeros for any other k
unfoldable pub triple_at : List ℕ → ℕ → Triple
triple_at gains k = when ltb k (length gains / triple_bytes) then triple_from gains (triple_bytes * k) else triple 0 0 0

-- whether the triple of a part breaks no rule
unfoldable pub gains_sound : List ℕ → Bool
gains_sound gains = is_none (triple_fault (triple_at gains 0))

-- all that triple k and the allowed maximum give
abbrev pub gain_at : (gains : List ℕ) (maximum : ℤ) (k : ℕ) → Gain
gain_at gains maximum k = gain_of (triple_at gains k) maximum

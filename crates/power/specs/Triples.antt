-- "5 βc 1 to 15; 6 βd 0 to 15, with βc or βd equal to 15; 7 DPDCH count n, 1 to 6": the rules of a triple (βc, βd,
-- n), in the order of its bytes.
-- RULES: settings
-- Definitions, to be believed.
use Rattle.std.specs.Prelude.{ℕ, ◌≤◌, ◌<◌, ◌≡◌, ◌⊎◌, not, ◌&&◌, ltb, eqb, Option, Some, None}
use Rattle.ground.specs.Choice.{when◌then◌else◌}
use Rattle.ground.specs.Outside.{outside, Outside}
use Rattle.power.specs.declared.Triple.{Triple}

-- the byte of the first rule that is broken, from 0, where one is: "no β of 15" at that of βd
-- DECISIONS: settings-order
unfoldable pub triple_fault : Triple → Option ℕ
triple_fault t =
    when outside 1 15 t.betac then Some 0 else
    when ltb 15 t.betad then Some 1 else
    when not (eqb t.betac 15) && not (eqb t.betad 15) then Some 1 else
    when outside 1 6 t.channels then Some 2 else
    None

-- ---- the same without an order of tests

-- the byte at this place breaks its rule
pub data TripleBreaks (t : Triple) : ℕ → Type 0 where
  betac : Outside 1 15 t.betac → TripleBreaks t 0
  betad : 15 < t.betad → TripleBreaks t 1
  none_15 : (t.betac ≡ 15 → ⊥) → (t.betad ≡ 15 → ⊥) → TripleBreaks t 1
  channels : Outside 1 6 t.channels → TripleBreaks t 2

-- "βc 1 to 15", "βd 0 to 15", "DPDCH count n, 1 to 6"
pub record TripleRanged (t : Triple) : Type 0 where
  pub control : (1 ≤ t.betac) × (t.betac ≤ 15)
  pub data_most : t.betad ≤ 15
  pub count : (1 ≤ t.channels) × (t.channels ≤ 6)

-- and "with βc or βd equal to 15": every rule is kept
pub record TripleIn (t : Triple) : Type 0 where
  pub ranged : TripleRanged t
  pub one : (t.betac ≡ 15) ⊎ (t.betad ≡ 15)

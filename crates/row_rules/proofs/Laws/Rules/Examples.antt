-- Numbers of the page that the rules of a row have to give.
-- Assumes nothing.
use Rattle.std.specs.Prelude.{◌≡◌, refl, [], ◌∷◌, true, pos, negsuc}
use Rattle.gap_slots.specs.Slots.{no_gap}
use Rattle.power.specs.declared.Gain.{Gain}
use Rattle.row_values.specs.Answers.{numbers}
use Rattle.row_rules.specs.Rules.{data_power, sent_answer, gap_answer, settled_of}
use Rattle.ground.proofs.Laws.Integers.Signs.{lesser_first, lesser_second}

-- the page's gain: βc 15, βd 15, n 1 and 24 dBm
abbrev gain : Gain
gain = record { bracket = pos 193; ceiling = pos 1343; carries_data = true; offset = pos 0 }

-- "row state cmd dpcch dpdch total held", and the two sets: the page's four rows, each from its power before limiting, and
-- a gap row after them that ids 2 and 5 open
four_rows :
    (numbers (sent_answer gain no_gap (pos 1) (settled_of (pos 0) (pos 1280) (pos 1343) 6)) ≡
    pos 1 ∷ pos 1 ∷ pos 1280 ∷ pos 1280 ∷ pos 1473 ∷ pos 0 ∷ pos 0 ∷ pos 0 ∷ [])
    × (numbers (sent_answer gain no_gap (pos 1) (settled_of (pos 0) (pos 1344) (pos 1343) 6)) ≡
    pos 2 ∷ pos 1 ∷ pos 1343 ∷ pos 1343 ∷ pos 1536 ∷ pos 1 ∷ pos 0 ∷ pos 0 ∷ [])
    × (numbers (sent_answer gain no_gap (pos 1) (settled_of (pos 1) (pos 1407) (pos 1343) 6)) ≡
    pos 2 ∷ pos 1 ∷ pos 1343 ∷ pos 1343 ∷ pos 1536 ∷ pos 65 ∷ pos 0 ∷ pos 0 ∷ [])
    × (numbers (sent_answer gain no_gap (negsuc 0) (settled_of (pos 65) (pos 1279) (pos 1343) 6)) ≡
    pos 1 ∷ negsuc 0 ∷ pos 1279 ∷ pos 1279 ∷ pos 1472 ∷ pos 65 ∷ pos 0 ∷ pos 0 ∷ [])
    × (numbers (gap_answer (record { up = 18; down = 2 }) (pos 1) (pos 65)) ≡ pos 0 ∷ pos 1 ∷ pos 0 ∷ pos 0 ∷ pos 0 ∷ pos 65 ∷ pos 18 ∷ pos 2 ∷ [])
unfolding settled_of sent_answer data_power gap_answer
four_rows =
    rw (
      lesser_first (pos 1280) (pos 1343) refl,
      lesser_second (pos 1344) (pos 1343) refl,
      lesser_second (pos 1407) (pos 1343) refl,
      lesser_first (pos 1279) (pos 1343) refl,
    )
    (refl, refl, refl, refl, refl)

-- data and total power differ where the gain factors do: βc 8, βd 15, at a ceiling of 24 dBm
unlike : numbers (sent_answer (record { bracket = pos 419; ceiling = pos 1117; carries_data = true; offset = pos 349 }) no_gap (pos 0)
    (settled_of (pos 0) (pos 1000) (pos 1117) 6)) ≡
    pos 1 ∷ pos 0 ∷ pos 1000 ∷ pos 1349 ∷ pos 1419 ∷ pos 0 ∷ pos 0 ∷ pos 0 ∷ []
unfolding settled_of sent_answer data_power
unlike = rw (lesser_first (pos 1000) (pos 1117) refl)

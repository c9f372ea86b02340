-- "On both sides of each edge": the cases of gap records, computed from the rules.
-- Assumes nothing.
-- RULES: cases
use Rattle.std.specs.Prelude.{ℕ, ◌≡◌, refl, List, [], ◌∷◌, ◌++◌, map, Ok, Err}
use Rattle.constants.specs.Refusals.{refusal, too_many_records, wrong_record, repeated_id}
use Rattle.gap_records.specs.Records.{sequence_at, sequences_from, number_fault, wrong_tgd, gap_fault, record_fault}
use Rattle.gap_records.specs.Records.{some, checked_from, checked_of}

-- a record of one gap in every pattern, from frame 0 on and without end
unfoldable pub one_gap : (id direction tgsn tgl1 tgpl : ℕ) → List ℕ
one_gap id direction tgsn tgl1 tgpl = id ∷ direction ∷ tgsn ∷ tgl1 ∷ 0 ∷ tgpl ∷ 0 ∷ 0 ∷ 0 ∷ 0 ∷ 0 ∷ 0 ∷ []

-- six of them, with ids 1 to 6
six : List ℕ
six =
    one_gap 1 1 7 3 1 ++ one_gap 2 1 7 3 1 ++ one_gap 3 1 7 3 1 ++
    one_gap 4 1 7 3 1 ++ one_gap 5 1 7 3 1 ++ one_gap 6 1 7 3 1

-- "Six records are taken, seven refused with 4 at 7."; "TGSN 14, TGL1 1, TGPL 1 fits; TGL1 2 does
-- not."; a record is tested for 5, then 6; a direction of 0 in the second record is at byte 13; TGPRC
-- 512 has its low byte first; of several faults the first byte's counts, and the fit is last
checked :
    map checked_of (
    six
    ∷ (one_gap 0 1 7 3 1 ++ six)
    ∷ one_gap 1 1 14 1 1
    ∷ one_gap 1 1 14 2 1
    ∷ (one_gap 1 1 7 3 1 ++ one_gap 1 1 7 3 1 ++ one_gap 2 0 7 3 1)
    ∷ (one_gap 1 1 7 3 1 ++ one_gap 2 0 7 3 1)
    ∷ (1 ∷ 1 ∷ 7 ∷ 3 ∷ 0 ∷ 1 ∷ 0 ∷ 2 ∷ 0 ∷ 0 ∷ 0 ∷ 0 ∷ [])
    ∷ []
    ∷ []
    ) ≡
    Ok 6
    ∷ Err (refusal too_many_records 7)
    ∷ Ok 1
    ∷ Err (refusal wrong_record 5)
    ∷ Err (refusal repeated_id 1)
    ∷ Err (refusal wrong_record 13)
    ∷ Err (refusal wrong_record 6)
    ∷ Ok 0
    ∷ []
unfolding six one_gap sequence_at sequences_from some number_fault wrong_tgd gap_fault record_fault checked_from checked_of
checked = refl

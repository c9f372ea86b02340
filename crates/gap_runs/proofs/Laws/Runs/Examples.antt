-- "On both sides of each edge": the cases of runs, from the bytes of gap records on, computed from the rules.
-- Assumes nothing.
-- RULES: cases
use Rattle.std.specs.Prelude.{ℕ, ◌≡◌, refl}
use Rattle.std.proofs.Common.{ap, ◌∙◌}
use mathlib.Core.List.{List, [], ◌∷◌, ◌++◌, map, map_congr_left}
use Rattle.ground.specs.Sums.{sum_of}
use Rattle.gap_records.specs.Records.{sequence_at, sequences_from, count_of, some}
use Rattle.gap_records.proofs.Laws.Records.Examples.{one_gap}
use Rattle.gap_slots.specs.Slots.{lies, active, in_pattern, in_gap, uplink, downlink, slot_by}
use Rattle.gap_slots.specs.Slots.{opens_uplink, opens_downlink, gap_slot, slot_at}
use Rattle.gap_slots.proofs.Laws.Slots.{slot_by_lem}
use Rattle.gap_runs.specs.declared.Kind.{Kind}
use Rattle.gap_runs.specs.declared.Kind.TheVariants.{Gap, Resume, Recovery, Plain}
use Rattle.gap_runs.specs.Runs.{gaps_of, no_run, stepped, run_at, kind_at}
use Rattle.gap_runs.proofs.Laws.Runs.{kind_same}

-- the kind of each of these slots by a part of records
pub kinds : List ℕ → List ℕ → List Kind
kinds s slots = map (kind_at (gaps_of (slot_at s))) slots

-- the same by the part's sequences
kinds_by : (s slots : List ℕ) → kinds s slots ≡ map (kind_at (gaps_of (slot_by (sequences_from s (count_of s) 0)))) slots
unfolding kinds
kinds_by s slots = map_congr_left {l = slots} (λ k _. kind_same _ _ (λ i. ap gap_slot (slot_by_lem s i)) k)

-- "Uplink gap in slots 7-9: resume 10, recovery 11, 12, 13."
pub starred :
    kinds (one_gap 1 1 7 3 1) (6 ∷ 7 ∷ 8 ∷ 9 ∷ 10 ∷ 11 ∷ 12 ∷ 13 ∷ 14 ∷ []) ≡
    Plain ∷ Gap ∷ Gap ∷ Gap ∷ Resume ∷ Recovery ∷ Recovery ∷ Recovery ∷ Plain ∷ []
unfolding one_gap sequence_at sequences_from some lies active in_pattern in_gap uplink downlink slot_by sum_of
    opens_uplink opens_downlink no_run stepped run_at kind_at
starred = kinds_by _ _ ∙ refl

-- a run merges directions: an uplink gap in slot 5 and a downlink gap in slot 6 are one run of two
merged :
    kinds (one_gap 1 1 5 1 1 ++ one_gap 2 2 6 1 1) (4 ∷ 5 ∷ 6 ∷ 7 ∷ 8 ∷ 9 ∷ 10 ∷ []) ≡
    Plain ∷ Gap ∷ Gap ∷ Resume ∷ Recovery ∷ Recovery ∷ Plain ∷ []
unfolding one_gap sequence_at sequences_from some lies active in_pattern in_gap uplink downlink slot_by sum_of
    opens_uplink opens_downlink no_run stepped run_at kind_at
merged = kinds_by _ _ ∙ refl

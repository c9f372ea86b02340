-- What the loop over the records meets at each turn: one record more of the list that the slot rule goes over.
-- Assumes nothing.
use Rattle.std.proofs.Common.{Some, None, Option}
use Prim.Native.Nat.{ℕ, ◌+◌}
use mathlib.Core.Path.{◌≡◌, refl, sym, ◌∙◌}
use mathlib.Core.List.{List}
use mathlib.Core.Bool.{Bool, true, false, ◌&&◌, and-true, and-false}
use native.Mathlib.Nat.{zero-add}
use native.Mathlib.Numerals.{add-one}
use native.Mathlib.Omega.{arith}
use borrow.Author.Tests.{ltb-true, ltb-false, ne_eqb}
use lib.Bits.{bit_or}
use lib.Dec.{ltb, eqb}
use Rattle.ground.specs.Choice.{when◌then◌else◌}
use Rattle.ground.proofs.Laws.Choice.{either}
use Rattle.ground.specs.Sums.{sum_of}
use Rattle.ground.proofs.Laws.Sums.{sum_same, sum_none, sum_one, sum_or}
use Rattle.constants.specs.Sizes.{id_most}
use Rattle.gap_records.specs.declared.Sequence.{Sequence}
use Rattle.gap_records.specs.Records.{record_of, sequences_from, some}
use Rattle.gap_records.proofs.Laws.Records.{some_last}
use Rattle.gap_slots.specs.declared.Slot.{Slot}
use Rattle.gap_slots.specs.Slots.{active, in_pattern, pattern_place, in_gap, standing, uplink, downlink, makes, ids_by, no_gap, slot_by}
use Rattle.gap_slots.specs.Asks.{gap_at, id_bit, chosen_of, joined_slots, slot_by_record}

-- a slot is in a gap where it stands in one
pub gap_standing : (q : Sequence) (slot : ℕ) {p : Option ℕ} → p ≡ standing q slot → in_gap q slot ≡ gap_at q p
unfolding in_gap standing
gap_standing q slot e = rw e (by (active q slot))
  where
    by : (t : Bool) →
        (t && in_pattern q.tgsn q.tgl1 q.tgl2 q.tgd (pattern_place q slot)) ≡
        gap_at q (when t then Some (pattern_place q slot) else None)
    by true = refl
    by false = refl

-- what an id adds is the set of it alone
id_bit_sum : (id : ℕ) → id_bit id ≡ sum_of (eqb id) id_most
unfolding id_bit
id_bit_sum id =
    either (λ (n : ℕ). n ≡ sum_of (eqb id) id_most) (ltb id 1)
    (λ e. let l = ltb-true id 1 e in sym (sum_none (eqb id) id_most (λ k a b. ne_eqb id k (λ f. let z : ⊥ = omega arith in z)))) λ e.
    either (λ (n : ℕ). n ≡ sum_of (eqb id) id_most) (ltb id_most id)
    (λ f. let l = ltb-true id_most id f in sym (sum_none (eqb id) id_most (λ k a b. ne_eqb id k (λ g. let z : ⊥ = omega arith in z))))
    (λ f. sym (sum_one id id_most (ltb-false id 1 e) (ltb-false id_most id f)))

-- and where its record makes the slot so
chosen_sum : (id : ℕ) (made : Bool) → chosen_of made (id_bit id) ≡ sum_of (λ k. eqb id k && made) id_most
chosen_sum id true = id_bit_sum id ∙ sum_same (eqb id) (λ k. eqb id k && true) id_most (λ k h l. sym (and-true (eqb id k)))
chosen_sum id false = sym (sum_none _ id_most (λ k h l. and-false (eqb id k)))

-- chosen twice is chosen by both
twice : (a b : Bool) (n : ℕ) → chosen_of a (chosen_of b n) ≡ chosen_of (a && b) n
twice true b n = refl
twice false b n = refl

-- one record more, in a direction
one_set : (direction : Sequence → Bool) (s : List ℕ) (k slot : ℕ) →
    bit_or (ids_by direction (sequences_from s k 0) slot)
    (chosen_of (direction (record_of s k)) (chosen_of (in_gap (record_of s k) slot) (id_bit (record_of s k).id))) ≡
    ids_by direction (sequences_from s (k + 1) 0) slot
one_set direction s k slot =
    let q = record_of s k in
    rw (twice (direction q) (in_gap q slot) (id_bit q.id), chosen_sum q.id (makes direction slot q))
    (sum_or _ _ id_most
    ∙ sum_same _ _ id_most (λ id h l.
    rw (add-one k, ← (some_last (λ (q : Sequence). eqb q.id id && makes direction slot q) s k 0), zero-add k)))

pub one_slot : (s : List ℕ) (k slot : ℕ) {found one next : Slot} {q : Sequence} →
    found ≡ slot_by (sequences_from s k 0) slot → q ≡ record_of s k → one ≡ slot_by_record q slot → next ≡ joined_slots found one →
    next ≡ slot_by (sequences_from s (k + 1) 0) slot
unfolding slot_by slot_by_record joined_slots
one_slot s k slot before e f g = g ∙ rw (before, f, e, one_set uplink s k slot, one_set downlink s k slot)

-- before the first none is in a set
pub no_slot : (s : List ℕ) (slot : ℕ) → no_gap ≡ slot_by (sequences_from s 0 0) slot
unfolding slot_by some sequences_from
no_slot s slot = rw (sum_none (λ k. false) id_most (λ k h l. refl))

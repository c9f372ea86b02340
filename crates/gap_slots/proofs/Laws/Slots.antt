-- The laws of the slot rule, by which crates above use it.
-- Assumes nothing.
pub mod Examples
use Rattle.std.specs.Prelude.{ℕ, zero, suc, ◌+◌, ◌-◌, ◌*◌, ◌/◌, ◌%◌, ◌^◌, ◌≤◌, ◌<◌, ◌≡◌, refl, ◌↔◌, ◌⊎◌, List, Bool, false, ◌&&◌, ◌||◌, leb, eqb, length, Some, None, Option}
use Rattle.std.proofs.Math.Path.{sym, ap, subst}
use Rattle.std.proofs.Common.{◌∙◌, add-zero, mod-eq_of_lt}
use Rattle.std.proofs.Math.Logic.{inl, inr}
use Rattle.std.proofs.Math.Bool.{true}
use Rattle.std.proofs.Math.Nat.{div-add-mod', div-eq_of_lt, mod-lt, mul-add-div_right, mul-add-mod_self_right}
use native.Mathlib.Omega.{arith}
use borrow.Author.Tests.{leb-true, ltb-true, ltb-false, le-leb, lt-ltb, eqb-true, eq-eqb}
use Rattle.std.proofs.Math.Dec.{ltb}
use Rattle.ground.proofs.Laws.OnAnswers.{one_answer}
use Rattle.ground.proofs.Laws.Choice.{clash, alike, both, if_true, either}
use Rattle.ground.specs.Sums.{is_in}
use Rattle.ground.proofs.Laws.Sums.{in_sum, sum_below, sum_some}
use Rattle.ground.proofs.Laws.Some.{one_of}
use Rattle.constants.specs.Sizes.{record_bytes, id_most}
use Rattle.gap_records.specs.declared.Sequence.{Sequence}
use Rattle.gap_records.specs.Records.{record_of, sequences_from, count_of, some}
use Rattle.gap_records.proofs.Laws.Records.{some_is, is_some}
use Rattle.gap_slots.specs.declared.Slot.{Slot}
use Rattle.gap_slots.specs.Slots.{lies, active, in_pattern, pattern_place, in_gap, standing, uplink, downlink, makes, makes_by, ids_by, no_gap, slot_by}
use Rattle.gap_slots.specs.Slots.{opens_uplink, opens_downlink, slot_at, ActiveAt, PlaceSays, PlaceTold, InGap, MakesBy, Makes}

-- ---- one sequence

lies_in : (from size place : ℕ) → lies from size place ≡ true → (from ≤ place) × (place < from + size)
unfolding lies
lies_in from size place e = let h = both (leb from place) (ltb place (from + size)) e in (leb-true _ _ h.0, ltb-true _ _ h.1)

in_lies : (from size place : ℕ) → from ≤ place → place < from + size → lies from size place ≡ true
unfolding lies
in_lies from size place h k = simp (le-leb from place h, lt-ltb place (from + size) k)

-- a number of whole patterns and a place in the next: the quotient and the remainder
module _ (size pattern place : ℕ) (h : place < size) where
  pub quotient : (pattern * size + place) / size ≡ pattern
  quotient = mul-add-div_right (omega arith) pattern place ∙ rw (div-eq_of_lt h) (add-zero pattern)

  pub remainder : (pattern * size + place) % size ≡ place
  remainder = mul-add-mod_self_right pattern size place ∙ mod-eq_of_lt h

module _ (sequence : Sequence) (slot : ℕ) where
  -- an active sequence, and the place of the slot in its pattern
  active_at : active sequence slot ≡ true → ActiveAt sequence slot (pattern_place sequence slot)
  unfolding active
  active_at e =
      let begin = 15 * sequence.start in
      let size = 15 * sequence.tgpl in
      let r = slot - begin in
      let b = both (leb begin slot) (leb 1 size && (ltb sequence.tgprc 1 || ltb (r / size) sequence.tgprc)) e in
      let c = both (leb 1 size) (ltb sequence.tgprc 1 || ltb (r / size) sequence.tgprc) b.1 in
      let from : begin ≤ slot = leb-true begin slot b.0 in
      let d : r / size * size + r % size ≡ r = div-add-mod' r size in
      record {
        pattern = r / size;
        stands = omega arith;
        inside = mod-lt r (leb-true 1 size c.0);
        before_end = ended ((one_of (ltb sequence.tgprc 1) (ltb (r / size) sequence.tgprc)).0 c.1);
      }
    where
      ended : {n : ℕ} → (ltb sequence.tgprc 1 ≡ true) ⊎ (ltb n sequence.tgprc ≡ true) → (sequence.tgprc ≡ 0) ⊎ (n < sequence.tgprc)
      ended (inl e) = inl (omega (arith, ltb-true sequence.tgprc 1 e))
      ended (inr e) = inr (ltb-true _ _ e)

  at_active : {place : ℕ} → ActiveAt sequence slot place → (active sequence slot ≡ true) × (pattern_place sequence slot ≡ place)
  unfolding active
  at_active {place} g =
      let begin = 15 * sequence.start in
      let size = 15 * sequence.tgpl in
      let l = g.inside in
      let s = g.stands in
      let r : slot - begin ≡ g.pattern * size + place = omega arith in
      let d = quotient size g.pattern place l in
      let m = remainder size g.pattern place l in (
        simp (r, d, le-leb begin slot (omega arith), le-leb 1 size (omega arith), (one_of _ _).1 (goes_on_lem g.before_end)),
        rw r m,
      )
    where
      goes_on_lem : {n : ℕ} → (sequence.tgprc ≡ 0) ⊎ (n < sequence.tgprc) → (ltb sequence.tgprc 1 ≡ true) ⊎ (ltb n sequence.tgprc ≡ true)
      goes_on_lem (inl e) = inl (lt-ltb sequence.tgprc 1 (omega arith))
      goes_on_lem (inr h) = inr (lt-ltb _ _ h)

  -- each place is given exactly where it says so of the slot
  place_says : PlaceSays sequence slot (standing sequence slot)
  unfolding standing
  place_says = either (PlaceSays sequence slot) (active sequence slot) active_at (λ e place a. clash (at_active a).0 e)

  place_said : (p : Option ℕ) → PlaceSays sequence slot p → standing sequence slot ≡ p
  unfolding standing
  place_said (Some place) a = let t = at_active a in sym (if_true _ _ t.0) ∙ ap Some t.1
  place_said None f = either (λ (p : Option ℕ). p ≡ None) (active sequence slot) (λ e. absurd (f _ (active_at e))) (λ e. refl)

  pub place_exactly : (p : Option ℕ) → standing sequence slot ≡ p ↔ PlaceSays sequence slot p
  place_exactly p = (λ e. subst (PlaceSays sequence slot) e place_says, place_said p)

  -- so that the answer says what it promises, and no other answer is promised
  pub place_told : {p : Option ℕ} → p ≡ standing sequence slot → PlaceTold sequence slot p
  place_told {p} e = record { is = e; says = (place_exactly p).0 (sym e) }

  pub one_place : {p q : Option ℕ} → PlaceTold sequence slot p → PlaceTold sequence slot q → p ≡ q
  one_place t u = one_answer t.is u.is

  gap_in_lem : in_gap sequence slot ≡ true → InGap sequence slot
  unfolding in_gap in_pattern
  gap_in_lem e =
      let q = pattern_place sequence slot in
      let a = both (active sequence slot) (in_pattern sequence.tgsn sequence.tgl1 sequence.tgl2 sequence.tgd q) e in
      let t = active_at a.0 in
      record {
        pattern = t.pattern;
        place = q;
        stands = t.stands;
        inside = t.inside;
        before_end = t.before_end;
        gap = gaps ((one_of (lies sequence.tgsn sequence.tgl1 q) _).0 a.1);
      }
    where
      gaps : {q : ℕ} →
          (lies sequence.tgsn sequence.tgl1 q ≡ true) ⊎ (ltb 0 sequence.tgl2 && lies (sequence.tgsn + sequence.tgd) sequence.tgl2 q ≡ true) →
          ((sequence.tgsn ≤ q) × (q < sequence.tgsn + sequence.tgl1))
          ⊎ ((0 < sequence.tgl2) × (sequence.tgsn + sequence.tgd ≤ q) × (q < sequence.tgsn + sequence.tgd + sequence.tgl2))
      gaps (inl e) = inl (lies_in _ _ _ e)
      gaps (inr e) = let h = both (ltb 0 sequence.tgl2) _ e in let l = lies_in _ _ _ h.1 in inr (ltb-true _ _ h.0, l.0, l.1)

  in_gap_lem : InGap sequence slot → in_gap sequence slot ≡ true
  unfolding in_gap in_pattern
  in_gap_lem g =
      let t = at_active (record { pattern = g.pattern; stands = g.stands; inside = g.inside; before_end = g.before_end }) in
      simp (t.0, t.1, (one_of _ _).1 (gaps g.gap))
    where
      gaps : {q : ℕ} →
          ((sequence.tgsn ≤ q) × (q < sequence.tgsn + sequence.tgl1))
          ⊎ ((0 < sequence.tgl2) × (sequence.tgsn + sequence.tgd ≤ q) × (q < sequence.tgsn + sequence.tgd + sequence.tgl2)) →
          (lies sequence.tgsn sequence.tgl1 q ≡ true) ⊎ (ltb 0 sequence.tgl2 && lies (sequence.tgsn + sequence.tgd) sequence.tgl2 q ≡ true)
      gaps (inl h) = inl (in_lies _ _ _ h.0 h.1)
      gaps (inr h) = inr (rw (lt-ltb _ _ h.0, in_lies _ _ _ h.1 h.2))

  -- the rule says what the page says without a division
  pub in_gap_exactly : in_gap sequence slot ≡ true ↔ InGap sequence slot
  in_gap_exactly = (gap_in_lem, in_gap_lem)

-- "direction, 1 uplink, 2 downlink, 3 both"
module _ (sequence : Sequence) where
  is_one_of : (a b : ℕ) → eqb sequence.direction a || eqb sequence.direction b ≡ true ↔ ((sequence.direction ≡ a) ⊎ (sequence.direction ≡ b))
  is_one_of a b = let w = one_of (eqb sequence.direction a) (eqb sequence.direction b) in (λ e. there (w.0 e), λ h. w.1 (back h))
    where
      there : (eqb sequence.direction a ≡ true) ⊎ (eqb sequence.direction b ≡ true) → (sequence.direction ≡ a) ⊎ (sequence.direction ≡ b)
      there (inl e) = inl (eqb-true _ _ e)
      there (inr e) = inr (eqb-true _ _ e)

      back : (sequence.direction ≡ a) ⊎ (sequence.direction ≡ b) → (eqb sequence.direction a ≡ true) ⊎ (eqb sequence.direction b ≡ true)
      back (inl e) = inl (eq-eqb _ _ e)
      back (inr e) = inr (eq-eqb _ _ e)

  pub uplink_is : uplink sequence ≡ true ↔ ((sequence.direction ≡ 1) ⊎ (sequence.direction ≡ 3))
  unfolding uplink
  uplink_is = is_one_of 1 3

  pub downlink_is : downlink sequence ≡ true ↔ ((sequence.direction ≡ 2) ⊎ (sequence.direction ≡ 3))
  unfolding downlink
  downlink_is = is_one_of 2 3

-- ---- every record of a part

-- a slot is what the records of the part, all of them, make of it: for the proof of the code, which goes from record to record
pub slot_by_lem : (s : List ℕ) (slot : ℕ) → slot_at s slot ≡ slot_by (sequences_from s (count_of s) 0) slot
unfolding slot_at
slot_by_lem s slot = refl

-- the record that makes it so lies in the part whole, and any that does makes it so
made_by_lem : (direction : Sequence → Bool) (s : List ℕ) (slot id : ℕ) →
    makes_by direction (sequences_from s (count_of s) 0) slot id ≡ true ↔ MakesBy direction s slot id
made_by_lem direction s slot id = (
  λ e.
      let w = is_some test s (count_of s) 0 e in
      let l = w.2 in
      let n = both (eqb (record_of s w.0).id id) (makes direction slot (record_of s w.0)) w.3 in
      let h = both (direction (record_of s w.0)) (in_gap (record_of s w.0) slot) n.1 in
      record { which = w.0; whole = omega arith; named = eqb-true _ _ n.0; direct = h.0; gap = gap_in_lem (record_of s w.0) slot h.1 },
  λ m.
      let l = m.whole in
      some_is test s (count_of s) 0 m.which (omega arith) (omega arith)
      (rw (eq-eqb _ _ m.named, m.direct, in_gap_lem (record_of s m.which) slot m.gap)),
)
  where
    test : Sequence → Bool
    test q = eqb q.id id && makes direction slot q

-- the set is not empty exactly where one of an id from 1 to 6 makes it so
made : (direction : Sequence → Bool) (s : List ℕ) (slot : ℕ) → ltb 0 (ids_by direction (sequences_from s (count_of s) 0) slot) ≡ true ↔ Makes direction s slot
made direction s slot = (
  λ e.
      let w = (sum_some (makes_by direction (sequences_from s (count_of s) 0) slot) id_most).0 e in
      let l = w.1 in
      record { id = suc w.0; least = omega arith; most = omega arith; by = (made_by_lem direction s slot (suc w.0)).0 w.2 },
  λ m.
      (sum_some (makes_by direction (sequences_from s (count_of s) 0) slot) id_most).1
      (there m.id m.least m.most ((made_by_lem direction s slot m.id).1 m.by)),
)
  where
    there : (id : ℕ) → 1 ≤ id → id ≤ id_most → makes_by direction (sequences_from s (count_of s) 0) slot id ≡ true →
        (j : ℕ) × (j < id_most) × (makes_by direction (sequences_from s (count_of s) 0) slot (suc j) ≡ true)
    there zero h l e = let z : ⊥ = omega arith in absurd z
    there (suc j) h l e = (j, omega arith, e)

module _ (s : List ℕ) (slot : ℕ) where
  -- "A slot is an uplink … gap slot if any active sequence makes it so."
  pub uplink_exactly : opens_uplink (slot_at s slot) ≡ true ↔ Makes uplink s slot
  unfolding slot_at slot_by opens_uplink
  uplink_exactly = made uplink s slot

  -- "… or downlink gap slot …"
  pub downlink_exactly : opens_downlink (slot_at s slot) ≡ true ↔ Makes downlink s slot
  unfolding slot_at slot_by opens_downlink
  downlink_exactly = made downlink s slot

  -- "which ids … put it there, for each direction": bit id − 1 of a set is 1 exactly where a record with this id does
  pub uplink_ids : (id : ℕ) → 1 ≤ id → id ≤ id_most → is_in (slot_at s slot).up id ≡ true ↔ MakesBy uplink s slot id
  unfolding slot_at slot_by
  uplink_ids id h l = subst (λ (t : Bool). t ≡ true ↔ MakesBy uplink s slot id) (sym (in_sum _ id_most id h l)) (made_by_lem uplink s slot id)

  pub downlink_ids : (id : ℕ) → 1 ≤ id → id ≤ id_most → is_in (slot_at s slot).down id ≡ true ↔ MakesBy downlink s slot id
  unfolding slot_at slot_by
  downlink_ids id h l = subst (λ (t : Bool). t ≡ true ↔ MakesBy downlink s slot id) (sym (in_sum _ id_most id h l)) (made_by_lem downlink s slot id)

  -- and no other bit is 1
  pub uplink_below : (slot_at s slot).up < 2 ^ id_most
  unfolding slot_at slot_by
  uplink_below = sum_below _ id_most

  pub downlink_below : (slot_at s slot).down < 2 ^ id_most
  unfolding slot_at slot_by
  downlink_below = sum_below _ id_most

-- a slot that no sequence opens is no gap slot, and no other slot is none
pub none_uplink : opens_uplink no_gap ≡ false
unfolding opens_uplink
none_uplink = refl

pub none_downlink : opens_downlink no_gap ≡ false
unfolding opens_downlink
none_downlink = refl

pub opens_none : (slot : Slot) → opens_uplink slot ≡ false → opens_downlink slot ≡ false → slot ≡ no_gap
unfolding opens_uplink opens_downlink
opens_none slot e f = none (ltb-false 0 slot.up e) (ltb-false 0 slot.down f)
  where
    none : {u d : ℕ} → u ≤ 0 → d ≤ 0 → record { up = u; down = d } ≡ no_gap
    none {u} {d} h k = let e : u ≡ 0 = omega arith in let f : d ≡ 0 = omega arith in rw (e, f)

-- where a slot is in a gap of no record, of whatever id and direction, no sequence opens it
pub no_gap_lem : (s : List ℕ) (slot : ℕ) → some (λ (q : Sequence). in_gap q slot) (sequences_from s (count_of s) 0) ≡ false → slot_at s slot ≡ no_gap
no_gap_lem s slot e =
    opens_none (slot_at s slot)
    (alike _ false (λ t. absurd (clash (in_some ((uplink_exactly s slot).0 t)) e)) (λ t. refl))
    (alike _ false (λ t. absurd (clash (in_some ((downlink_exactly s slot).0 t)) e)) (λ t. refl))
  where
    in_some : {direction : Sequence → Bool} → Makes direction s slot → some (λ (q : Sequence). in_gap q slot) (sequences_from s (count_of s) 0) ≡ true
    in_some m =
        let l = m.by.whole in
        some_is (λ (q : Sequence). in_gap q slot) s (count_of s) 0 m.by.which (omega arith) (omega arith)
        (in_gap_lem (record_of s m.by.which) slot m.by.gap)

-- where there is no record, no slot is a gap slot
pub no_records : (s : List ℕ) (slot : ℕ) → length s < record_bytes → slot_at s slot ≡ no_gap
unfolding some sequences_from
no_records s slot h = let e : count_of s ≡ 0 = omega arith in no_gap_lem s slot (rw e)

-- One record: it has no fault exactly where every rule is kept, and else its fault is the first that the page names.
-- Assumes nothing.
use Rattle.std.specs.Prelude.{ℕ, ◌+◌, ◌*◌, ◌≤◌, ◌≡◌, ◌↔◌, Bool, Option, Some, None}
use Rattle.std.specs.Option.{option_or}
use Rattle.std.proofs.Math.Path.{refl, ap}
use Rattle.std.proofs.Math.Bool.{true, false}
use Rattle.std.proofs.Common.{le_antisymm, arith}
use borrow.Author.Tests.{ltb-true, ltb-false, lt-ltb, le-ltb}
use Rattle.std.proofs.Math.Dec.{ltb, lit≤}
use Rattle.ground.specs.Choice.{when◌then◌else◌}
use Rattle.ground.proofs.Laws.Choice.Faults.{passed_by, no_fault, UpTo, skip, hit, up_to, some_up_to, Named, named, none_met, met}
use Rattle.ground.proofs.Laws.Choice.{clash, either}
use Rattle.ground.specs.Outside.{outside}
use Rattle.ground.proofs.Laws.Ranges.{inside, not_outside, outside_exactly}
use Rattle.constants.specs.Sizes.{id_most}
use Rattle.gap_records.specs.declared.Sequence.{Sequence}
use Rattle.gap_records.specs.Records.{number_fault, wrong_tgd, gap_fault, record_fault, Sound, RecordBreaks, Unfit, FaultAt}

-- ---- no fault

tgd_right : (tgl2 tgd : ℕ) → wrong_tgd tgl2 tgd ≡ false → (1 ≤ tgl2 → (15 ≤ tgd) × (tgd ≤ 269)) × (tgl2 ≡ 0 → tgd ≡ 0)
unfolding wrong_tgd
tgd_right tgl2 tgd e = by (ltb tgl2 1) refl e
  where
    by : (t : Bool) → ltb tgl2 1 ≡ t → (when t then ltb 0 tgd else outside 15 269 tgd) ≡ false → (1 ≤ tgl2 → (15 ≤ tgd) × (tgd ≤ 269)) × (tgl2 ≡ 0 → tgd ≡ 0)
    by true p h = let none = ltb-true tgl2 1 p in (omega arith, λ _. omega (arith, ltb-false 0 tgd h))
    by false p h = let some = ltb-false tgl2 1 p in (λ _. inside 15 269 tgd h, omega arith)

right_tgd : (tgl2 tgd : ℕ) → (1 ≤ tgl2 → (15 ≤ tgd) × (tgd ≤ 269)) → (tgl2 ≡ 0 → tgd ≡ 0) → wrong_tgd tgl2 tgd ≡ false
unfolding wrong_tgd
right_tgd tgl2 tgd f g =
    either (λ (t : Bool). t ≡ false) (ltb tgl2 1)
    (λ e. le-ltb 0 tgd (omega (arith, g (omega (arith, ltb-true tgl2 1 e)))))
    (λ e. let d = f (ltb-false tgl2 1 e) in not_outside 15 269 tgd d.0 d.1)

-- where there is a second gap, it is tested too
second_fits : (tgl2 room end : ℕ) → ◌≡◌ {A = Option ℕ} (when ltb tgl2 1 then None else when ltb room end then Some 5 else None) None → 1 ≤ tgl2 → end ≤ room
second_fits tgl2 room end e h = ltb-false room end (passed_by 5 (rw (le-ltb tgl2 1 h) at e)).0

pub fault_sound : (q : Sequence) → record_fault q ≡ None → Sound q
unfolding record_fault number_fault gap_fault
fault_sound q e =
    let w = no_fault _ _ e in
    let d = passed_by 8 w.1 in
    let f = passed_by 5 d.1 in
    let p0 = passed_by 0 w.0 in
    let p1 = passed_by 1 p0.1 in
    let p2 = passed_by 2 p1.1 in
    let p3 = passed_by 3 p2.1 in
    let p4 = passed_by 4 p3.1 in
    let p5 = passed_by 5 p4.1 in
    let p6 = passed_by 6 p5.1 in
    record {
      id = inside 1 id_most q.id p0.0;
      direction = inside 1 3 q.direction p1.0;
      tgsn = ltb-false 14 q.tgsn p2.0;
      tgl1 = inside 1 14 q.tgl1 p3.0;
      tgl2 = ltb-false 14 q.tgl2 p4.0;
      tgpl = inside 1 144 q.tgpl p5.0;
      tgprc = ltb-false 511 q.tgprc p6.0;
      tgd = (tgd_right _ _ d.0).0;
      no_tgd = (tgd_right _ _ d.0).1;
      first = ltb-false _ _ f.0;
      second = second_fits q.tgl2 _ _ f.1;
    }

sound_number : (q : Sequence) → Sound q → number_fault q.id q.direction q.tgsn q.tgl1 q.tgl2 q.tgpl q.tgprc ≡ None
unfolding number_fault
sound_number q h =
    simp (
      not_outside 1 id_most q.id h.id.0 h.id.1,
      not_outside 1 3 q.direction h.direction.0 h.direction.1,
      le-ltb 14 q.tgsn h.tgsn,
      not_outside 1 14 q.tgl1 h.tgl1.0 h.tgl1.1,
      le-ltb 14 q.tgl2 h.tgl2,
      not_outside 1 144 q.tgpl h.tgpl.0 h.tgpl.1,
      le-ltb 511 q.tgprc h.tgprc,
    )

sound_gap : (q : Sequence) → Sound q → gap_fault q.tgsn q.tgl1 q.tgl2 q.tgpl q.tgd ≡ None
unfolding gap_fault
sound_gap q h =
    simp (right_tgd q.tgl2 q.tgd h.tgd h.no_tgd, le-ltb (15 * q.tgpl) (q.tgsn + q.tgl1) h.first)
    (either (λ (w : Option ℕ). w ≡ None) (ltb q.tgl2 1) (λ _. refl)
    (λ e. simp (le-ltb (15 * q.tgpl) (q.tgsn + q.tgd + q.tgl2) (h.second (ltb-false q.tgl2 1 e)))))

pub sound_fault : (q : Sequence) → Sound q → record_fault q ≡ None
unfolding record_fault
sound_fault q h = rw (sound_number q h, sound_gap q h)

-- no fault exactly where every rule is kept
pub sound_exactly : (q : Sequence) → record_fault q ≡ None ↔ Sound q
sound_exactly q = (fault_sound q, sound_fault q)

-- ---- a fault

module _ (q : Sequence) where
  -- what the numbers up to TGPRC name, and whether TGD breaks its rule
  abbrev first : Option ℕ
  first = number_fault q.id q.direction q.tgsn q.tgl1 q.tgl2 q.tgpl q.tgprc

  abbrev tgd_wrong : Bool
  tgd_wrong = wrong_tgd q.tgl2 q.tgd

  -- a number that breaks its rule: the chain goes no further, or it is TGD
  data Stops (n : ℕ) : Type 0 where
    early : UpTo n first → n ≤ 6 → Stops n
    late : tgd_wrong ≡ true → n ≡ 8 → Stops n

  stops : {n : ℕ} → RecordBreaks q n → Stops n
  unfolding number_fault wrong_tgd
  stops (RecordBreaks.id f) = let e = (outside_exactly 1 id_most q.id).1 f in early (search (skip, hit, lit≤, tt, e) depth 12) (lit≤ tt)
  stops (RecordBreaks.direction f) = let e = (outside_exactly 1 3 q.direction).1 f in early (search (skip, hit, lit≤, tt, e) depth 12) (lit≤ tt)
  stops (RecordBreaks.tgsn h) = let e = lt-ltb 14 q.tgsn h in early (search (skip, hit, lit≤, tt, e) depth 12) (lit≤ tt)
  stops (RecordBreaks.tgl1 f) = let e = (outside_exactly 1 14 q.tgl1).1 f in early (search (skip, hit, lit≤, tt, e) depth 12) (lit≤ tt)
  stops (RecordBreaks.tgl2 h) = let e = lt-ltb 14 q.tgl2 h in early (search (skip, hit, lit≤, tt, e) depth 12) (lit≤ tt)
  stops (RecordBreaks.tgpl f) = let e = (outside_exactly 1 144 q.tgpl).1 f in early (search (skip, hit, lit≤, tt, e) depth 12) (lit≤ tt)
  stops (RecordBreaks.tgprc h) = let e = lt-ltb 511 q.tgprc h in early (search (skip, hit, lit≤, tt, e) depth 12) (lit≤ tt)
  stops (RecordBreaks.tgd h f) = late (rw (le-ltb q.tgl2 1 h) ((outside_exactly 15 269 q.tgd).1 f)) refl
  stops (RecordBreaks.no_tgd h k) = late (rw (lt-ltb q.tgl2 1 (omega arith)) (lt-ltb 0 q.tgd k)) refl

  -- the numbers up to TGPRC, where one of them is named
  first_named : Named (RecordBreaks q) first
  unfolding number_fault
  first_named =
      met 0 (λ e. RecordBreaks.id ((outside_exactly 1 id_most q.id).0 e))
      (met 1 (λ e. RecordBreaks.direction ((outside_exactly 1 3 q.direction).0 e))
      (met 2 (λ e. RecordBreaks.tgsn (ltb-true 14 q.tgsn e))
      (met 3 (λ e. RecordBreaks.tgl1 ((outside_exactly 1 14 q.tgl1).0 e))
      (met 4 (λ e. RecordBreaks.tgl2 (ltb-true 14 q.tgl2 e))
      (met 5 (λ e. RecordBreaks.tgpl ((outside_exactly 1 144 q.tgpl).0 e))
      (met 6 (λ e. RecordBreaks.tgprc (ltb-true 511 q.tgprc e)) none_met))))))

  tgd_named : tgd_wrong ≡ true → RecordBreaks q 8
  unfolding wrong_tgd
  tgd_named e = by (ltb q.tgl2 1) refl e
    where
      by : (t : Bool) → ltb q.tgl2 1 ≡ t → (when t then ltb 0 q.tgd else outside 15 269 q.tgd) ≡ true → RecordBreaks q 8
      by true p h = RecordBreaks.no_tgd (let l = ltb-true q.tgl2 1 p in omega arith) (ltb-true 0 q.tgd h)
      by false p h = RecordBreaks.tgd (ltb-false q.tgl2 1 p) ((outside_exactly 15 269 q.tgd).0 h)

  -- the first of them
  before_first : {n : ℕ} → first ≡ Some n → (m : ℕ) → RecordBreaks q m → n ≤ m
  before_first {n} e m b = by (stops b)
    where
      by : Stops m → n ≤ m
      by (early u h) = up_to u e
      by (late w p) = most (stops (first_named.broken n e))
        where
          most : Stops n → n ≤ m
          most (early u h) = omega arith
          most (late v h) = omega arith

  before_tgd : first ≡ None → (m : ℕ) → RecordBreaks q m → m ≡ 8
  before_tgd e m b = by (stops b)
    where
      by : Stops m → m ≡ 8
      by (early u h) = absurd (some_up_to u e)
      by (late w p) = p

  none_broken : first ≡ None → tgd_wrong ≡ false → (m : ℕ) → RecordBreaks q m → ⊥
  none_broken e f m b = by (stops b)
    where
      by : Stops m → ⊥
      by (early u h) = some_up_to u e
      by (late w p) = clash w f

  -- TGD, then the fit
  abbrev At : Option ℕ → Type 0
  At w = Named (FaultAt q) w

  gap_at_lem : first ≡ None → At (gap_fault q.tgsn q.tgl1 q.tgl2 q.tgpl q.tgd)
  unfolding gap_fault
  gap_at_lem e =
      either At tgd_wrong (λ w. named 8 (FaultAt.number (tgd_named w) (λ m b. omega (arith, before_tgd e m b)))) λ right.
      either At (ltb (15 * q.tgpl) (q.tgsn + q.tgl1)) (λ u. named 5 (FaultAt.unfit (none_broken e right) (Unfit.first (ltb-true _ _ u)))) λ _.
      either At (ltb q.tgl2 1) (λ _. none_met) λ second.
      either At (ltb (15 * q.tgpl) (q.tgsn + q.tgd + q.tgl2))
      (λ u. named 5 (FaultAt.unfit (none_broken e right) (Unfit.second (ltb-false q.tgl2 1 second) (ltb-true _ _ u)))) (λ _. none_met)

  -- a fault is the one that the page names
  pub fault_at : Named (FaultAt q) (record_fault q)
  unfolding record_fault
  fault_at = by first refl
    where
      by : (w : Option ℕ) → first ≡ w → At (option_or w (gap_fault q.tgsn q.tgl1 q.tgl2 q.tgpl q.tgd))
      by None e = gap_at_lem e
      by (Some n) e = named n (FaultAt.number (first_named.broken n e) (before_first e))

  -- ---- and what the page names is the fault

  unsound : {n : ℕ} → RecordBreaks q n → Sound q → ⊥
  unsound (RecordBreaks.id f) s = f s.id
  unsound (RecordBreaks.direction f) s = f s.direction
  unsound (RecordBreaks.tgsn h) s = let z : ⊥ = omega (arith, s.tgsn) in z
  unsound (RecordBreaks.tgl1 f) s = f s.tgl1
  unsound (RecordBreaks.tgl2 h) s = let z : ⊥ = omega (arith, s.tgl2) in z
  unsound (RecordBreaks.tgpl f) s = f s.tgpl
  unsound (RecordBreaks.tgprc h) s = let z : ⊥ = omega (arith, s.tgprc) in z
  unsound (RecordBreaks.tgd h f) s = f (s.tgd h)
  unsound (RecordBreaks.no_tgd h k) s = let z : ⊥ = omega (arith, s.no_tgd h) in z

  unfitting : Unfit q → Sound q → ⊥
  unfitting (Unfit.first h) s = let z : ⊥ = omega (arith, s.first) in z
  unfitting (Unfit.second h k) s = let z : ⊥ = omega (arith, s.second h) in z

  pub broken_fault : {n : ℕ} → FaultAt q n → record_fault q ≡ None → ⊥
  broken_fault (FaultAt.number b f) e = unsound b (fault_sound q e)
  broken_fault (FaultAt.unfit f u) e = unfitting u (fault_sound q e)

  -- the page names one
  one_fault : {m n : ℕ} → FaultAt q m → FaultAt q n → m ≡ n
  one_fault (FaultAt.number {n = m} b f) (FaultAt.number {n = n} c g) = le_antisymm (f n c) (g m b)
  one_fault (FaultAt.number b f) (FaultAt.unfit g u) = absurd (g _ b)
  one_fault (FaultAt.unfit f u) (FaultAt.number c g) = absurd (f _ c)
  one_fault (FaultAt.unfit f u) (FaultAt.unfit g v) = refl

  pub at_fault : {n : ℕ} → FaultAt q n → record_fault q ≡ Some n
  at_fault {n} w = by (record_fault q) refl
    where
      by : (fault : Option ℕ) → record_fault q ≡ fault → fault ≡ Some n
      by None e = absurd (broken_fault w e)
      by (Some m) e = ap Some (one_fault (fault_at.broken m e) w)

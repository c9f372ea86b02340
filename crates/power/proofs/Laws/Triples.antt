-- The laws of a triple: it has no fault exactly where every rule is kept, and a fault is at the first byte that breaks its rule.
-- Assumes nothing.
use Rattle.std.specs.Prelude.{ℕ, ◌<◌, ◌≡◌, refl, ◌↔◌, ◌⊎◌, Bool, false, ◌&&◌, eqb, None}
use Rattle.std.proofs.Common.{inl, inr, lit<}
use Rattle.std.proofs.Math.Bool.{true, not, and-false}
use borrow.Author.Tests.{ltb-true, ltb-false, lt-ltb, le-ltb, eqb-true, ne_eqb, not-false}
use Rattle.std.proofs.Math.Dec.{lit≤}
use Rattle.ground.proofs.Laws.Choice.Faults.{passed_by, FirstFault, UpTo, skip, hit, Named, met, none_met, first_fault}
use Rattle.ground.proofs.Laws.Choice.{clash, both}
use Rattle.ground.proofs.Laws.Ranges.{inside, not_outside, outside_exactly}
use Rattle.power.specs.declared.Triple.{Triple}
use Rattle.power.specs.Triples.{triple_fault, TripleBreaks, TripleIn}

-- "with βc or βd equal to 15"
one_15 : (betac betad : ℕ) → not (eqb betac 15) && not (eqb betad 15) ≡ false → (betac ≡ 15) ⊎ (betad ≡ 15)
one_15 betac betad e = by (eqb betac 15) refl e
  where
    by : (t : Bool) → eqb betac 15 ≡ t → not t && not (eqb betad 15) ≡ false → (betac ≡ 15) ⊎ (betad ≡ 15)
    by true p h = inl (eqb-true betac 15 p)
    by false p h = inr (eqb-true betad 15 (not-false _ h))

15-one : (betac betad : ℕ) → (betac ≡ 15) ⊎ (betad ≡ 15) → not (eqb betac 15) && not (eqb betad 15) ≡ false
15-one betac betad (inl e) = rw e
15-one betac betad (inr e) = rw e (and-false (not (eqb betac 15)))

module _ (t : Triple) where
  fault_in : triple_fault t ≡ None → TripleIn t
  unfolding triple_fault
  fault_in e =
      let p0 = passed_by 0 e in
      let p1 = passed_by 1 p0.1 in
      let p2 = passed_by 1 p1.1 in
      let p3 = passed_by 2 p2.1 in
      record {
        ranged = record {
          control = inside 1 15 t.betac p0.0;
          data_most = ltb-false 15 t.betad p1.0;
          count = inside 1 6 t.channels p3.0;
        };
        one = one_15 t.betac t.betad p2.0;
      }

  in_fault : TripleIn t → triple_fault t ≡ None
  unfolding triple_fault
  in_fault h =
      let r = h.ranged in
      simp (
        not_outside 1 15 t.betac r.control.0 r.control.1,
        le-ltb 15 t.betad r.data_most,
        15-one t.betac t.betad h.one,
        not_outside 1 6 t.channels r.count.0 r.count.1,
      )

  -- no fault exactly where every rule is kept
  pub triple_exactly : triple_fault t ≡ None ↔ TripleIn t
  triple_exactly = (fault_in, in_fault)

  -- ---- a fault

  below : {n : ℕ} → TripleBreaks t n → n < 3
  below (TripleBreaks.betac f) = lit< tt
  below (TripleBreaks.betad h) = lit< tt
  below (TripleBreaks.none_15 f g) = lit< tt
  below (TripleBreaks.channels f) = lit< tt

  -- no byte before one that breaks its rule is passed over
  least : {n : ℕ} → TripleBreaks t n → UpTo n (triple_fault t)
  unfolding triple_fault
  least (TripleBreaks.betac f) = let e = (outside_exactly 1 15 t.betac).1 f in search (skip, hit, lit≤, tt, e) depth 12
  least (TripleBreaks.betad h) = let e = lt-ltb 15 t.betad h in search (skip, hit, lit≤, tt, e) depth 12
  least (TripleBreaks.none_15 f g) =
      let e : not (eqb t.betac 15) && not (eqb t.betad 15) ≡ true = rw (ne_eqb t.betac 15 f, ne_eqb t.betad 15 g) in
      search (skip, hit, lit≤, tt, e) depth 12
  least (TripleBreaks.channels f) = let e = (outside_exactly 1 6 t.channels).1 f in search (skip, hit, lit≤, tt, e) depth 12

  -- and a byte that is named breaks its rule
  named : Named (TripleBreaks t) (triple_fault t)
  unfolding triple_fault
  named =
      met 0 (λ e. TripleBreaks.betac ((outside_exactly 1 15 t.betac).0 e))
      (met 1 (λ e. TripleBreaks.betad (ltb-true 15 t.betad e))
      (met 1
      (λ e. let w = both (not (eqb t.betac 15)) (not (eqb t.betad 15)) e in TripleBreaks.none_15 (λ p. clash w.0 (rw p)) (λ p. clash w.1 (rw p)))
      (met 2 (λ e. TripleBreaks.channels ((outside_exactly 1 6 t.channels).0 e)) none_met)))

  -- a fault is the first byte that breaks its rule
  pub triple_first : FirstFault (TripleBreaks t) 3 (triple_fault t)
  triple_first = first_fault (λ n b. below b) (λ n b. least b) named

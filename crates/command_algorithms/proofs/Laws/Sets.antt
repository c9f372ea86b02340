-- The laws of the five-slot set: that the state gives what the page says of the slots so far, and what its bytes can be.
-- Assumes nothing.
use Prim.Native.Nat.{ℕ, zero, suc, ◌+◌, ◌-◌, ◌/◌, ◌%◌, ◌^◌, ◌≤◌, ◌<◌}
use Rattle.std.specs.Prelude.{◌≡◌, ◌↔◌, ◌⊎◌, Bool, ◌&&◌, ◌||◌, ltb}
use Rattle.std.proofs.Math.Path.{refl, ap}
use Rattle.std.proofs.Common.{subst, ◌∙◌, not-suc-le-zero, lt_of_lt_of_le, one-mul, div-one, div-lt_iff_lt-mul, pow-suc, eqb-true, ltb-true, ltb-false, lt-ltb, le-ltb, shr_lt, shr-shr}
use Rattle.std.proofs.Math.Bool.{true, false, not, or_assoc, or_comm}
use Rattle.std.proofs.Math.Nat.{suc-sub-suc, one-le-pow, div-eq_of_lt, pow-le-pow_right}
use native.Mathlib.Omega.{arith}
use Rattle.std.proofs.lemmas.Bool.{eqb-false}
use Rattle.ground.proofs.Laws.Choice.{alike, both}
use Rattle.ground.proofs.Laws.Some.{one_of, some}
use Rattle.command_algorithms.specs.declared.Set.{Set}
use Rattle.command_algorithms.specs.Algorithms.{decision}
use Rattle.command_algorithms.specs.Sets.{place_in, fifth, spoils, fresh_of, set_after, within_links, IsSet, set_sound, set_at, earlier, any_spoils, said_set}

-- ---- one slot on

-- a byte is one slot farther back
earlier_suc : (commands : ℕ → ℕ) (n k : ℕ) → earlier commands n k ≡ earlier commands (suc n) (suc k)
unfolding earlier
earlier_suc commands n k = rw (suc-sub-suc k n, tested)
  where
    tested : ltb (suc k) (suc n) ≡ ltb k n
    tested = alike _ _ (λ e. lt-ltb k n (omega (arith, ltb-true (suc k) (suc n) e))) (λ e. le-ltb k n (omega (arith, ltb-false (suc k) (suc n) e)))

-- and the newest comes last
earlier_one : (commands : ℕ → ℕ) (k : ℕ) → commands k ≡ earlier commands 1 (suc k)
unfolding earlier
earlier_one commands k =
    let e : suc k - 1 ≡ k = omega arith in
    rw (le-ltb (suc k) 1 (omega arith), e)

-- where there is such a slot, its byte is read
earlier_there : (commands : ℕ → ℕ) {n k : ℕ} → n ≤ k → earlier commands n k ≡ commands (k - n)
unfolding earlier
earlier_there commands {n} {k} h = rw (le-ltb k n h)

module _ (down recovery : ℕ → Bool) where
  -- of n + 1 slots the newest or one of the n before it
  spoils_suc : (n k : ℕ) → any_spoils down recovery (suc n) (suc k) ≡ (spoils (down k) (recovery k) || any_spoils down recovery n k)
  unfolding any_spoils
  spoils_suc zero k =
      let e : suc k - 1 ≡ k = omega arith in
      rw e (or_comm false _)
  spoils_suc (suc n) k =
      rw (spoils_suc n k, suc-sub-suc k (suc n))
      (or_assoc (spoils (down k) (recovery k)) (any_spoils down recovery n k) (spoils (down (k - suc n)) (recovery (k - suc n))))

  -- "if any slot of the five is a downlink gap slot, or a recovery slot under RPP 1", over the n slots before slot k
  pub spoilt_exactly : (n k : ℕ) → any_spoils down recovery n k ≡ true ↔ ((i : ℕ) × (1 ≤ i) × (i ≤ n) × ((down (k - i) ≡ true) ⊎ (recovery (k - i) ≡ true)))
  unfolding any_spoils
  spoilt_exactly n k = (λ e. let h = g.0 e in (suc h.0, omega arith, h.1, (one_of _ _).0 h.2), λ h. back h.0 h.1 h.2 h.3)
    where
      g : any_spoils down recovery n k ≡ true ↔ ((i : ℕ) × (i < n) × (spoils (down (k - suc i)) (recovery (k - suc i)) ≡ true))
      g = some (λ m. any_spoils down recovery m k) (λ i. spoils (down (k - suc i)) (recovery (k - suc i))) refl (λ m. refl) n

      back : (i : ℕ) → 1 ≤ i → i ≤ n → (down (k - i) ≡ true) ⊎ (recovery (k - i) ≡ true) → any_spoils down recovery n k ≡ true
      back zero h l s = absurd (not-suc-le-zero h)
      back (suc i) h l s = g.1 (i, l, (one_of _ _).1 s)

  -- a set goes on until its fifth slot, and the next starts afresh
  spoilt_suc : (k : ℕ) →
      not (fifth k) && (any_spoils down recovery (place_in k) k || spoils (down k) (recovery k)) ≡ any_spoils down recovery (place_in (suc k)) (suc k)
  unfolding any_spoils
  spoilt_suc k = by (fifth k) refl
    where
      by : (t : Bool) → fifth k ≡ t →
          not t && (any_spoils down recovery (place_in k) k || spoils (down k) (recovery k)) ≡ any_spoils down recovery (place_in (suc k)) (suc k)
      by true e =
          let q : place_in (suc k) ≡ 0 = omega (arith, eqb-true) in
          rw q
      by false e =
          let q : place_in (suc k) ≡ suc (place_in k) = omega (arith, eqb-false) in
          rw (q, spoils_suc (place_in k) k) (or_comm (any_spoils down recovery (place_in k) k) _)

module _ (commands : ℕ → ℕ) (down recovery : ℕ → Bool) where
  one_on : (k : ℕ) → set_after (said_set commands down recovery k) k (down k) (recovery k) (commands k) ≡ said_set commands down recovery (suc k)
  unfolding said_set set_after
  one_on k = rw (earlier_suc commands 3 k, earlier_suc commands 2 k, earlier_suc commands 1 k, earlier_one commands k, spoilt_suc down recovery k)

  -- the state is what the page says of the slots so far, at every slot
  pub set_said : (k : ℕ) → set_at commands down recovery k ≡ said_set commands down recovery k
  unfolding set_at said_set fresh_of earlier any_spoils
  set_said zero = refl
  set_said (suc k) = ap (λ (s : Set). set_after s k (down k) (recovery k) (commands k)) (set_said k) ∙ one_on k

  -- ---- the state, for one who walks along it

  -- it starts fresh
  pub set_start : set_at commands down recovery 0 ≡ fresh_of
  unfolding set_at
  set_start = refl

  -- each slot takes it on
  pub set_next : (k : ℕ) → set_after (set_at commands down recovery k) k (down k) (recovery k) (commands k) ≡ set_at commands down recovery (suc k)
  unfolding set_at
  set_next k = refl

  -- from the fifth slot of the job on it has the bytes of the four slots before
  pub set_bytes : {k : ℕ} → 4 ≤ k →
      ((set_at commands down recovery k).a ≡ commands (k - 4)) × ((set_at commands down recovery k).b ≡ commands (k - 3))
      × ((set_at commands down recovery k).c ≡ commands (k - 2)) × ((set_at commands down recovery k).d ≡ commands (k - 1))
  unfolding said_set
  set_bytes {k} h = (
    ap (λ (s : Set). s.a) (set_said k) ∙ earlier_there commands h,
    ap (λ (s : Set). s.b) (set_said k) ∙ earlier_there commands {n = 3} {k = k} (omega arith),
    ap (λ (s : Set). s.c) (set_said k) ∙ earlier_there commands {n = 2} {k = k} (omega arith),
    ap (λ (s : Set). s.d) (set_said k) ∙ earlier_there commands {n = 1} {k = k} (omega arith),
  )

  -- and is spoilt where a slot before, of the same five, spoils it
  pub set_spoilt : (k : ℕ) → (set_at commands down recovery k).spoilt ≡ any_spoils down recovery (place_in k) k
  unfolding said_set
  set_spoilt k = ap (λ (s : Set). s.spoilt) (set_said k)

-- ---- the range of a byte

-- a number without a bit is 0
no_bits : (n q : ℕ) → q < 2 ^ n → ((i : ℕ) → decision q i ≡ 0) → q ≡ 0
no_bits zero q h f = omega arith
no_bits (suc n) q h f =
    let e : suc n ≡ n + 1 = omega arith in
    let half = no_bits n (q / 2) (shr_lt n 1 (subst (λ (m : ℕ). q < 2 ^ m) e h)) (λ i. ap (λ (m : ℕ). m % 2) (shr-shr q 1 i) ∙ f (1 + i)) in
    let even : q % 2 ≡ 0 = rw div-one at (f 0) in
    omega arith

bits_enough : (q : ℕ) → q < 2 ^ q
bits_enough zero = omega arith
bits_enough (suc q) = let h = bits_enough q in let e = pow-suc 2 q in omega arith

-- "bits from N up zero": the test says so of each of them
pub within_bits : (commands links : ℕ) → within_links commands links ≡ true ↔ ((i : ℕ) → links ≤ i → decision commands i ≡ 0)
within_bits commands links = (
  λ e i h. rw (div-eq_of_lt (lt_of_lt_of_le (ltb-true commands (2 ^ links) e) (pow-le-pow_right (omega arith) h))),
  λ f.
      let q = commands / 2 ^ links in
      let none : q ≡ 0 = no_bits q q (bits_enough q) (λ i. ap (λ (m : ℕ). m % 2) (shr-shr commands links i) ∙ f (links + i) (omega arith)) in
      let below = (div-lt_iff_lt-mul {k = 2 ^ links} {x = commands} {y = 1} (one-le-pow links 2 (omega arith))).0 (omega arith) in
      lt-ltb commands (2 ^ links) (rw one-mul at below),
)

-- ---- the range of a set

-- before slot 0 it is kept
pub fresh_in : (links : ℕ) → IsSet links fresh_of
unfolding fresh_of
fresh_in links =
    let h : 0 < 2 ^ links = one-le-pow links 2 (omega arith) in
    record { first = h; second = h; third = h; fourth = h }

-- and by each slot whose byte a row may have
pub after_in : {links : ℕ} {set : Set} (slot : ℕ) (down recovery : Bool) {commands : ℕ} →
    IsSet links set → commands < 2 ^ links → IsSet links (set_after set slot down recovery commands)
unfolding set_after
after_in slot down recovery h k = record { first = h.second; second = h.third; third = h.fourth; fourth = k }

-- what passes the test is in range
pub sound_in : {links : ℕ} {set : Set} → set_sound links set ≡ true → IsSet links set
unfolding set_sound
sound_in e =
    let p = both _ _ e in
    let q = both _ _ p.0 in
    let r = both _ _ p.1 in
    record { first = ltb-true _ _ q.0; second = ltb-true _ _ q.1; third = ltb-true _ _ r.0; fourth = ltb-true _ _ r.1 }

-- and what is in range passes
pub in_sound : {links : ℕ} {set : Set} → IsSet links set → set_sound links set ≡ true
unfolding set_sound
in_sound h = simp (lt-ltb _ _ h.first, lt-ltb _ _ h.second, lt-ltb _ _ h.third, lt-ltb _ _ h.fourth)

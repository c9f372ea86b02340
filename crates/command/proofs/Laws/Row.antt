-- The laws of a row's command: what it can be, and that the state gives what the page says of the slots so far.
-- Assumes nothing.
use Rattle.std.specs.Prelude.{ℕ, ◌-◌, ◌≤◌, ◌≡◌, ◌↔◌, ◌⊎◌, Bool, eqb, ℤ, nat_abs}
use Rattle.std.proofs.Math.Path.{refl, sym}
use Rattle.std.proofs.Common.{ap, ◌∙◌, ⊎_elim, arith}
use Rattle.std.proofs.Math.Logic.{inl, inr}
use Rattle.std.proofs.Math.Bool.{true, false, not}
use borrow.Author.Tests.{eqb-true, eq-eqb, ne_eqb, not-false}
use Rattle.std.proofs.Math.Arith.{sub-sub_self}
use Rattle.std.proofs.Math.IntN.{pos, negsuc}
use Rattle.ground.specs.Choice.{when◌then◌else◌}
use Rattle.ground.proofs.Laws.Choice.{clash, if_true, if_false, either, alike, otherwise}
use Rattle.ground.proofs.Laws.Ranges.{last_or_before}
use Rattle.gap_runs.specs.declared.Kind.{Kind}
use Rattle.gap_runs.specs.declared.Kind.TheVariants.{Gap, Resume, Recovery, Plain}
use Rattle.command_algorithms.specs.declared.Set.{Set}
use Rattle.command_algorithms.specs.Algorithms.{algorithm1, algorithm2}
use Rattle.command_algorithms.proofs.Laws.Algorithms.{algorithm1_exactly, algorithm1_cases, algorithm1_in, algorithm2_cases, algorithm2_in}
use Rattle.command_algorithms.proofs.Laws.Algorithms.{minus_exactly, plus_exactly, zero_exactly}
use Rattle.command_algorithms.specs.Sets.{place_in, fifth, five_of, set_at, any_spoils}
use Rattle.command_algorithms.proofs.Laws.Sets.{spoilt_exactly, set_bytes, set_spoilt}
use Rattle.command.specs.Row.{recovery_of, command_of, five_at, said_command, UsesOne, UsesTwo, Spoilt, Decides, Commanded}
use Rattle.command.specs.Row.{in_gap_lem, one_up, one_down, not_fifth, spoilt, two_down, two_up, two_none}

-- under RPP 1 a recovery slot goes by the recovery rule, and no other slot does; under any other RPP none does
pub recovery_exactly : (rpp : ℕ) (kind : Kind) → recovery_of rpp kind ≡ true ↔ ((rpp ≡ 1) × (kind ≡ Recovery))
unfolding recovery_of
recovery_exactly rpp kind = (there kind, λ h. ap (recovery_of rpp) h.1 ∙ eq-eqb rpp 1 h.0)
  where
    there : (kind : Kind) → recovery_of rpp kind ≡ true → (rpp ≡ 1) × (kind ≡ Recovery)
    there Gap e = absurd (clash e refl)
    there Resume e = absurd (clash e refl)
    there Recovery e = (eqb-true rpp 1 e, refl)
    there Plain e = absurd (clash e refl)

-- a plain slot never does
pub recovery_plain : (rpp : ℕ) → recovery_of rpp Plain ≡ false
unfolding recovery_of
recovery_plain rpp = refl

-- for any input the command is at most 1 in size: +1, 0 or −1
pub command_in : (pca links : ℕ) (down recovery : Bool) (slot : ℕ) (set : Set) (commands : ℕ) → nat_abs (command_of pca links down recovery slot set commands) ≤ 1
unfolding command_of
command_in pca links down recovery slot set commands =
    let P : ℤ → Type 0 = λ z. nat_abs z ≤ 1 in
    let none : 0 ≤ 1 = omega arith in
    either P down (λ e. none) (λ e.
    either P recovery (λ e. algorithm1_in commands links) (λ e.
    either P (not (eqb pca 2)) (λ e. algorithm1_in commands links) (λ e.
    either P (not (fifth slot)) (λ e. none) (λ e.
    either P set.spoilt (λ e. none) (λ e. algorithm2_in (five_of set commands) links)))))

-- ---- the same from the slots so far

module _ (commands : ℕ → ℕ) (down recovery : ℕ → Bool) where
  -- in a fifth slot there are four slots before, and all of them are of its set
  five_said : (links k : ℕ) → place_in k ≡ 4 →
      (when (set_at commands down recovery k).spoilt then pos 0 else algorithm2 (five_of (set_at commands down recovery k) (commands k)) links)
      ≡ (when any_spoils down recovery 4 k then pos 0 else algorithm2 (five_at commands down recovery k) links)
  five_said links k p = let b = set_bytes commands down recovery {k = k} (omega arith) in rw (set_spoilt commands down recovery k, p, b.0, b.1, b.2, b.3)

  -- and the command that it gives is the page's, without a state
  pub command_said : (pca links k : ℕ) →
      command_of pca links (down k) (recovery k) k (set_at commands down recovery k) (commands k)
      ≡ said_command commands down recovery pca links k
  unfolding command_of said_command
  command_said pca links k =
      otherwise (down k) _ (λ e.
      otherwise (recovery k) _ (λ e.
      otherwise (not (eqb pca 2)) _ (λ e.
      otherwise (not (fifth k)) _ (λ e. five_said links k (eqb-true _ _ (not-false _ e))))))

  -- and sentence by sentence, one command exactly
  module _ (pca links k : ℕ) where
    abbrev C : ℤ → Type 0
    C = Commanded commands down recovery pca links k

    abbrev said : ℤ
    said = said_command commands down recovery pca links k

    abbrev Five : Type 0
    Five = UsesTwo commands down recovery pca links k

    -- the fifth slot itself does not spoil its set: it would not use algorithm 2
    spoilt_before : Five → Spoilt commands down recovery pca links k → any_spoils down recovery 4 k ≡ true
    spoilt_before u q =
        last_or_before (λ (j : ℕ). (down j ≡ true) ⊎ (recovery j ≡ true) → any_spoils down recovery 4 k ≡ true) {i = q.which} {k = k} q.last
        (⊎_elim (λ d. absurd (clash d u.no_gap)) (λ r. absurd (clash r u.no_recovery)))
        (λ l s. (spoilt_exactly down recovery 4 k).1 (k - q.which, omega arith, omega (arith, q.first), rw (sub-sub_self q.last) s))
        q.so

    before_spoilt : any_spoils down recovery 4 k ≡ true → Spoilt commands down recovery pca links k
    before_spoilt e = let q = (spoilt_exactly down recovery 4 k).0 e in record { which = k - q.0; first = omega (arith, q.2); last = omega arith; so = q.3 }

    by_one : UsesOne commands down recovery pca links k → C (algorithm1 (commands k) links)
    by_one u = algorithm1_cases C (commands k) links (one_up u) (one_down u)

    by_two : Five → place_in k ≡ 4 → C (when any_spoils down recovery 4 k then pos 0 else algorithm2 (five_at commands down recovery k) links)
    by_two u f =
        either C (any_spoils down recovery 4 k) (λ e. spoilt u f (before_spoilt e))
        (λ e. let d : Decides commands down recovery pca links k = record { uses = u; in_fifth = f; unspoilt = λ q. clash (spoilt_before u q) e } in
        algorithm2_cases (five_at commands down recovery k) links C (λ i l o. two_down d i (l, o))
        (λ none. two_up d (λ i m. none i m.0 m.1)) (λ none. two_none d (λ i m. none i m.0 m.1)))

    pub commanded : C said
    unfolding said_command
    commanded =
        either C (down k) in_gap_lem (λ d.
        either C (recovery k) (λ r. by_one (record { no_gap = d; so = inl r })) (λ r.
        either C (not (eqb pca 2)) (λ p. by_one (record { no_gap = d; so = inr (λ q. clash p (rw (eq-eqb pca 2 q))) })) (λ p.
        let u : Five = record { no_gap = d; no_recovery = r; so = eqb-true pca 2 (not-false _ p) } in
        either C (not (fifth k)) (λ f. not_fifth u (λ q. clash f (rw (eq-eqb (place_in k) 4 q)))) (λ f. by_two u (eqb-true _ _ (not-false _ f))))))

    -- what each line uses
    uses_one : UsesOne commands down recovery pca links k → said ≡ algorithm1 (commands k) links
    unfolding said_command
    uses_one u = sym (if_false _ _ u.no_gap) ∙ by (recovery k) refl u.so
      where
        by : (t : Bool) → recovery k ≡ t → (recovery k ≡ true) ⊎ (pca ≡ 2 → ⊥) →
            (when recovery k then algorithm1 (commands k) links else
            when not (eqb pca 2) then algorithm1 (commands k) links else
            when not (fifth k) then pos 0 else
            when any_spoils down recovery 4 k then pos 0 else
            algorithm2 (five_at commands down recovery k) links) ≡ algorithm1 (commands k) links
        by true e so = sym (if_true _ _ e)
        by false e (inl r) = absurd (clash r e)
        by false e (inr n) = sym (if_false _ _ e) ∙ sym (if_true _ _ (ap not (ne_eqb pca 2 n)))

    uses_two : Five →
        said ≡ (when not (fifth k) then pos 0 else when any_spoils down recovery 4 k then pos 0 else algorithm2 (five_at commands down recovery k) links)
    unfolding said_command
    uses_two u = sym (if_false _ _ u.no_gap) ∙ sym (if_false _ _ u.no_recovery) ∙ sym (if_false _ _ (ap not (eq-eqb pca 2 u.so)))

    fifth_slot : Five → place_in k ≡ 4 → said ≡ (when any_spoils down recovery 4 k then pos 0 else algorithm2 (five_at commands down recovery k) links)
    fifth_slot u f = uses_two u ∙ sym (if_false _ _ (ap not (eq-eqb (place_in k) 4 f)))

    decided : Decides commands down recovery pca links k → said ≡ algorithm2 (five_at commands down recovery k) links
    decided d =
        fifth_slot d.uses d.in_fifth
        ∙ sym (if_false _ _ (alike (any_spoils down recovery 4 k) false (λ e. absurd (d.unspoilt (before_spoilt e))) (λ _. refl)))

    -- no other command is said
    pub one_command : {z : ℤ} → C z → said ≡ z
    unfolding said_command
    one_command (in_gap_lem d) = sym (if_true _ _ d)
    one_command (one_up u a) = uses_one u ∙ (algorithm1_exactly (commands k) links).1 a
    one_command (one_down u n) = uses_one u ∙ algorithm1_cases (λ z. z ≡ negsuc 0) (commands k) links (λ a. absurd (n a)) (λ _. refl)
    one_command (not_fifth u n) = uses_two u ∙ sym (if_true _ _ (ap not (ne_eqb (place_in k) 4 n)))
    one_command (spoilt u f q) = fifth_slot u f ∙ sym (if_true _ _ (spoilt_before u q))
    one_command (two_down d i m) = decided d ∙ (minus_exactly (five_at commands down recovery k) links).1 (i, m.0, m.1)
    one_command (two_up d n l) = decided d ∙ (plus_exactly (five_at commands down recovery k) links).1 (λ i a b. n i (a, b), l)
    one_command (two_none d n l) = decided d ∙ (zero_exactly (five_at commands down recovery k) links).1 (λ i a b. n i (a, b), l)

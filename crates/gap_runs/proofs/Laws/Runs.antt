-- The laws of a run: walked slot by slot from slot 0, each slot's kind is the one that the page names, for any pattern of gap slots.
-- Assumes nothing.
pub mod Examples
use Prim.Native.Nat.{ℕ, zero, suc, ◌+◌, ◌-◌, ◌*◌, ◌≤◌, ◌<◌, min}
use native.Mathlib.Omega.{arith}
use Rattle.std.specs.Prelude.{◌≡◌, ◌↔◌, Bool, true, false, ltb, leb}
use Rattle.std.proofs.Math.Path.{refl}
use Rattle.std.proofs.Common.{sym, ap, ap₂, ◌∙◌, subst, lt-ltb, le-ltb, ltb-true, ltb-false, leb-true, le-leb}
use Rattle.ground.proofs.Laws.OnAnswers.{one_answer}
use Rattle.ground.proofs.Laws.Ranges.{last_or_before}
use Rattle.ground.proofs.Laws.Choice.{clash, both}
use Rattle.gap_slots.specs.declared.Slot.{Slot}
use Rattle.gap_slots.specs.Slots.{no_gap, gap_slot}
use Rattle.gap_slots.proofs.Laws.Slots.{none_uplink, none_downlink}
use Rattle.gap_runs.specs.declared.Run.{Run}
use Rattle.gap_runs.specs.declared.Kind.{Kind}
use Rattle.gap_runs.specs.declared.Kind.TheVariants.{Gap, Resume, Recovery, Plain}
use Rattle.gap_runs.specs.Runs.{IsRun, IsResume, IsRecovery, Means, Recovers, Stands, never, inside, past, gaps_of, walked}
use Rattle.gap_runs.specs.declared.Walked.{Walked}
use Rattle.gap_runs.specs.Runs.{no_run, stepped, walked_of, run_at, kind_at, WalkTold, RunIn, run_sound}

-- ---- one step, case by case
on_gap : (r : Run) → stepped r true ≡ walked (min (r.length + 1) 7) 0 Kind.Gap
unfolding stepped
on_gap r = by (ltb r.length 7) refl
  where
    by : (t : Bool) → ltb r.length 7 ≡ t → stepped r true ≡ walked (min (r.length + 1) 7) 0 Kind.Gap
    by true e = rw e (ap (λ (n : ℕ). walked n 0 Kind.Gap) (omega (arith, ltb-true r.length 7 e)))
    by false e = rw e (ap (λ (n : ℕ). walked n 0 Kind.Gap) (omega (arith, ltb-false r.length 7 e)))

on_resume : (r : Run) → 0 < r.length → stepped r false ≡ walked 0 r.length Kind.Resume
unfolding stepped
on_resume r h = simp (lt-ltb 0 r.length h)

on_recovery : (r : Run) → r.length ≡ 0 → 0 < r.left → stepped r false ≡ walked 0 (r.left - 1) Kind.Recovery
unfolding stepped
on_recovery r e h = simp (le-ltb 0 r.length (omega arith), lt-ltb 0 r.left h)

on_plain : (r : Run) → r.length ≡ 0 → r.left ≡ 0 → stepped r false ≡ walked 0 0 Kind.Plain
unfolding stepped
on_plain r e f = simp (le-ltb 0 r.length (omega arith), le-ltb 0 r.left (omega arith))

-- the same by the slot's directions, for any run
module _ (r : Run) (slot : Slot) where
  pub walked_gap : gap_slot slot ≡ true → walked_of r slot ≡ walked (min (r.length + 1) 7) 0 Kind.Gap
  unfolding walked_of
  walked_gap e = rw e (on_gap r)

  pub walked_resume : gap_slot slot ≡ false → 0 < r.length → walked_of r slot ≡ walked 0 r.length Kind.Resume
  unfolding walked_of
  walked_resume e h = rw e (on_resume r h)

  pub walked_recovery : gap_slot slot ≡ false → r.length ≡ 0 → 0 < r.left → walked_of r slot ≡ walked 0 (r.left - 1) Kind.Recovery
  unfolding walked_of
  walked_recovery e n h = rw e (on_recovery r n h)

  pub walked_plain : gap_slot slot ≡ false → r.length ≡ 0 → r.left ≡ 0 → walked_of r slot ≡ walked 0 0 Kind.Plain
  unfolding walked_of
  walked_plain e n h = rw e (on_plain r n h)

-- a slot that no sequence opens is in no run
pub none_gap : gap_slot no_gap ≡ false
none_gap = rw (none_uplink, none_downlink)

-- ---- recovery slots still to come before slot k, of m after slot n
to_come : (m k n : ℕ) → n < k → m - (k - (n + 1)) - 1 ≡ m - (suc k - (n + 1))
to_come m k n h = omega arith

in_reach : (m k n : ℕ) → n < k → 0 < m - (k - (n + 1)) → k ≤ n + m
in_reach m k n h l = omega arith

out_of_reach : (m k n : ℕ) → n < k → m - (k - (n + 1)) ≤ 0 → n + m < k
out_of_reach m k n h l = omega arith

none_to_come : (m k n : ℕ) → n + m < k → 0 ≡ m - (suc k - (n + 1))
none_to_come m k n h = omega arith

module _ (gap : ℕ → Bool) where
  -- one slot more of the same
  longer : (a k : ℕ) {b : Bool} → ((i : ℕ) → a ≤ i → i < k → gap i ≡ b) → gap k ≡ b → (i : ℕ) → a ≤ i → i < suc k → gap i ≡ b
  longer a k {b} f e i h l = last_or_before (λ (i : ℕ). a ≤ i → gap i ≡ b) {i = i} {k = k} (omega arith) (λ _. e) (λ l h. f i h l) h

  only : (k : ℕ) {b : Bool} → gap k ≡ b → (i : ℕ) → k ≤ i → i < suc k → gap i ≡ b
  only k e i h l = let q : i ≡ k = omega arith in ap gap q ∙ e

  -- ---- two runs with nothing between them and slot k are one
  module _ (k : ℕ) where
    no_resume : ((i : ℕ) → i + 1 ≡ k → gap i ≡ false) → IsResume gap k → ⊥
    no_resume f h =
        let s = h.run.some in
        clash (h.run.each (k - 1) (omega arith) (omega arith)) (f (k - 1) (omega arith))

    same_end : (a b c d : ℕ) → IsRun gap a b → b < k → ((i : ℕ) → b ≤ i → i < k → gap i ≡ false) →
        c < d → d < k → ((i : ℕ) → c ≤ i → i < d → gap i ≡ true) → ((i : ℕ) → d ≤ i → i < k → gap i ≡ false) → b ≡ d
    same_end a b c d r l clear some m each clear' = by (ltb b d) (ltb d b) refl refl
      where
        by : (t u : Bool) → ltb b d ≡ t → ltb d b ≡ u → b ≡ d
        by true u p q =
            let h = ltb-true b d p in
            absurd (clash (each (d - 1) (omega arith) (omega arith)) (clear (d - 1) (omega arith) (omega arith)))
        by false true p q =
            let h = ltb-true d b q in
            let s = r.some in
            absurd (clash (r.each (b - 1) (omega arith) (omega arith)) (clear' (b - 1) (omega arith) (omega arith)))
        by false false p q = omega (arith, ltb-false b d p, ltb-false d b q)

    -- a stretch that ends where a run ends starts no earlier
    no_earlier : (a b c : ℕ) → IsRun gap a b → ((i : ℕ) → c ≤ i → i < b → gap i ≡ true) → a ≤ c
    no_earlier a b c r each = by (ltb c a) refl
      where
        by : (t : Bool) → ltb c a ≡ t → a ≤ c
        by true p =
            let h = ltb-true c a p in
            let s = r.some in
            absurd (clash (each (a - 1) (omega arith) (omega arith)) (r.before (a - 1) (omega arith)))
        by false p = ltb-false c a p

    too_late : (a b : ℕ) → IsRun gap a b → b < k → ((i : ℕ) → b ≤ i → i < k → gap i ≡ false) → b + min (b - a) 7 < k → IsRecovery gap k → ⊥
    too_late a b r l clear far w =
        let s = same_end a b w.first w.resume r l clear w.run.some w.later w.run.each (λ i p q. w.clear i p (omega arith)) in
        let o = no_earlier a b w.first r (λ i p q. w.run.each i p (omega arith)) in
        let n = w.soon in
        let z : ⊥ = omega arith in z

  -- ---- one slot on: the past holds again, and the kind is the one that is meant
  after_step : (k : ℕ) (r : Run) → Stands gap k r → (b : Bool) → gap k ≡ b → Stands gap (suc k) (stepped r b).run × Means gap k (stepped r b).kind
  after_step k r (never clear e f) true h =
      rw (on_gap r) (inside k (omega arith) (only k h) (λ i p. clear i (omega arith) (omega arith)) (omega arith) refl, h)
  after_step k r (never clear e f) false h =
      rw (on_plain r e f) (
        never (longer 0 k clear h) refl refl,
        (
          h,
          no_resume k (λ i p. clear i (omega arith) (omega arith)),
          λ w.
              let s = w.run.some in
              let l = w.later in
              clash (w.run.each w.first (omega arith) s) (clear w.first (omega arith) (omega arith)),
        ),
      )
  after_step k r (inside first some each before e f) true h =
      rw (on_gap r) (inside first (omega arith) (longer first k each h) before (omega arith) refl, h)
  after_step k r (inside first some each before e f) false h =
      let run : IsRun gap first k = record { some = some; each = each; before = before; after = h } in
      rw (on_resume r (omega arith)) (past first k run (omega arith) (only k h) refl (omega arith), record { first = first; run = run })
  after_step k r (past first resume run later clear e _) true h =
      rw (on_gap r) (inside k (omega arith) (only k h) (λ i p. clear i (omega arith) (omega arith)) (omega arith) refl, h)
  after_step k r (past first resume run later clear e f) false h = by (ltb 0 r.left) refl
    where
      m : ℕ
      m = min (resume - first) 7

      by : (t : Bool) → ltb 0 r.left ≡ t → Stands gap (suc k) (stepped r false).run × Means gap k (stepped r false).kind
      by true p =
          let l : 0 < m - (k - (resume + 1)) = rw f at (ltb-true 0 r.left p) in
          rw (on_recovery r e (ltb-true 0 r.left p)) (
            past first resume run (omega arith) (longer resume k clear h) refl (ap (λ (n : ℕ). n - 1) f ∙ to_come m k resume later),
            record {
              first = first;
              resume = resume;
              run = run;
              later = later;
              soon = in_reach m k resume later l;
              clear = λ i a b. longer resume k clear h i a (omega arith);
            },
          )
      by false p =
          let l : m - (k - (resume + 1)) ≤ 0 = rw f at (ltb-false 0 r.left p) in
          let o = out_of_reach m k resume later l in
          rw (on_plain r e (omega (arith, ltb-false 0 r.left p))) (
            past first resume run (omega arith) (longer resume k clear h) refl (none_to_come m k resume o),
            (h, no_resume k (λ i p. clear i (omega arith) (omega arith)), too_late k first resume run later clear o),
          )

  -- the run that is walked to stands for the slots so far
  pub run_stands : (k : ℕ) → Stands gap k (run_at gap k)
  unfolding run_at no_run
  run_stands zero = never (λ i a b. absurd (let z : ⊥ = omega arith in z)) refl refl
  run_stands (suc k) = (after_step k (run_at gap k) (run_stands k) (gap k) refl).0

  meant : (k : ℕ) → Means gap k (kind_at gap k)
  unfolding kind_at
  meant k = (after_step k (run_at gap k) (run_stands k) (gap k) refl).1

  -- ---- no slot is of two kinds
  clear_recovery : (k : ℕ) → IsRecovery gap k → gap k ≡ false
  clear_recovery k w = let l = w.later in w.clear k (omega arith) (omega arith)

  not_both : (k : ℕ) → IsResume gap k → IsRecovery gap k → ⊥
  not_both k v w = let l = w.later in no_resume k (λ i p. w.clear i (omega arith) (omega arith)) v

  one_kind : (k : ℕ) (x y : Kind) → Means gap k x → Means gap k y → x ≡ y
  one_kind k Gap Gap p q = refl
  one_kind k Gap Resume p q = absurd (clash p q.run.after)
  one_kind k Gap Recovery p q = absurd (clash p (clear_recovery k q))
  one_kind k Gap Plain p q = absurd (clash p q.0)
  one_kind k Resume Gap p q = absurd (clash q p.run.after)
  one_kind k Resume Resume p q = refl
  one_kind k Resume Recovery p q = absurd (not_both k p q)
  one_kind k Resume Plain p q = absurd (q.1 p)
  one_kind k Recovery Gap p q = absurd (clash q (clear_recovery k p))
  one_kind k Recovery Resume p q = absurd (not_both k q p)
  one_kind k Recovery Recovery p q = refl
  one_kind k Recovery Plain p q = absurd (q.2 p)
  one_kind k Plain Gap p q = absurd (clash q p.0)
  one_kind k Plain Resume p q = absurd (p.1 q)
  one_kind k Plain Recovery p q = absurd (p.2 q)
  one_kind k Plain Plain p q = refl

-- the kind that is walked to is the one that is meant, for any pattern, any slot and any kind
pub kind_is_meant : (gap : ℕ → Bool) (k : ℕ) (kind : Kind) → kind_at gap k ≡ kind ↔ Means gap k kind
kind_is_meant gap k kind = (λ e. subst (λ (x : Kind). Means gap k x) e (meant gap k), λ m. one_kind gap k (kind_at gap k) kind (meant gap k) m)

-- ---- a recovery slot by its distance from the resume slot
reach : (first resume d k : ℕ) → k ≡ resume + d → k ≤ resume + min (resume - first) 7 → first < resume → (d ≤ 7) × (first + d ≤ resume)
reach first resume d k e h l = omega arith

reached : (first resume d k : ℕ) → k ≡ resume + d → d ≤ 7 → first + d ≤ resume → k ≤ resume + min (resume - first) 7
reached first resume d k e h l = omega arith

module _ (gap : ℕ → Bool) (k : ℕ) where
  near : (w : IsRecovery gap k) (d : ℕ) → k ≡ w.resume + d → Recovers gap k
  near w d e =
      let n = reach w.first w.resume d k e w.soon w.run.some in
      let l = w.later in
      record {
        d = d;
        least = omega arith;
        most = n.0;
        room = omega arith;
        gaps = λ i p q. w.run.each i (omega arith) (omega arith);
        clear = λ i p q. w.clear i (omega arith) q;
      }

  far : Recovers gap k → (r : Run) → Stands gap k r → IsRecovery gap k
  far v r (never clear _ _) =
      let d = v.least in
      let o = v.room in
      absurd (clash (v.gaps (k - 2 * v.d) (omega arith) (omega arith)) (clear (k - 2 * v.d) (omega arith) (omega arith)))
  far v r (inside first some each before _ _) =
      let d = v.least in
      absurd (clash (each (k - 1) (omega arith) (omega arith)) (v.clear (k - 1) (omega arith) (omega arith)))
  far v r (past first resume run later clear _ _) =
      let l = v.least in
      let o = v.room in
      let s : resume ≡ k - v.d =
      same_end gap k first resume (k - 2 * v.d) (k - v.d) run later clear (omega arith) (omega arith) v.gaps (λ i p q. v.clear i p (omega arith)) in
      let n : first ≤ k - 2 * v.d = no_earlier gap k first resume (k - 2 * v.d) run (λ i p q. v.gaps i p (omega arith)) in
      record {
        first = first;
        resume = resume;
        run = run;
        later = later;
        soon = reached first resume v.d k (omega arith) v.most (omega arith);
        clear = λ i p q. v.clear i (omega arith) q;
      }

pub recovery_is_near : (gap : ℕ → Bool) (k : ℕ) → IsRecovery gap k ↔ Recovers gap k
recovery_is_near gap k = (λ w. let l = w.later in near gap k w (k - w.resume) (omega arith), λ v. far gap k v (run_at gap k) (run_stands gap k))

-- ---- patterns of the same gap slots have the same runs, and each slot the same kind

run_same : (f g : ℕ → Bool) → ((i : ℕ) → f i ≡ g i) → (k : ℕ) → run_at f k ≡ run_at g k
unfolding run_at
run_same f g h zero = refl
run_same f g h (suc k) = ap₂ (λ (r : Run) (b : Bool). (stepped r b).run) (run_same f g h k) (h k)

pub kind_same : (f g : ℕ → Bool) → ((i : ℕ) → f i ≡ g i) → (k : ℕ) → kind_at f k ≡ kind_at g k
unfolding kind_at
kind_same f g h k = ap₂ (λ (r : Run) (b : Bool). (stepped r b).kind) (run_same f g h k) (h k)

-- ---- as the code goes from slot to slot, over what each slot is

pub run_start : (gap : ℕ → Bool) → run_at gap 0 ≡ no_run
unfolding run_at
run_start gap = refl

module _ (slots : ℕ → Slot) (k : ℕ) where
  pub run_next : (walked_of (run_at (gaps_of slots) k) (slots k)).run ≡ run_at (gaps_of slots) (suc k)
  unfolding run_at walked_of
  run_next = refl

  pub kind_now : (walked_of (run_at (gaps_of slots) k) (slots k)).kind ≡ kind_at (gaps_of slots) k
  unfolding kind_at walked_of
  kind_now = refl

-- so that one slot more says what it promises, and no other answer is promised
pub walk_told : (r : Run) (slot : Slot) {w : Walked} → w ≡ walked_of r slot → WalkTold r slot w
unfolding walked_of
walk_told r slot e =
    record {
      is = e;
      says = λ gap k h f. subst (λ (x : Walked). Means gap k x.kind) (sym e) (after_step gap k r h (gap_slot slot) f).1;
      stands = λ gap k h f. subst (λ (x : Walked). Stands gap (suc k) x.run) (sym e) (after_step gap k r h (gap_slot slot) f).0;
    }

pub one_walk : {r : Run} {slot : Slot} {v w : Walked} → WalkTold r slot v → WalkTold r slot w → v ≡ w
one_walk t u = one_answer t.is u.is

-- ---- what a state may hold

pub start_in : RunIn no_run
unfolding no_run
start_in = record { length_most = omega arith; left_most = omega arith }

step_in : (r : Run) (gap : Bool) → RunIn r → RunIn (stepped r gap).run
step_in r true h = rw (on_gap r) (record { length_most = omega arith; left_most = omega arith })
step_in r false h = by (ltb 0 r.length) (ltb 0 r.left) refl refl
  where
    by : (t u : Bool) → ltb 0 r.length ≡ t → ltb 0 r.left ≡ u → RunIn (stepped r false).run
    by true u p q = rw (on_resume r (ltb-true 0 r.length p)) (record { length_most = omega arith; left_most = h.length_most })
    by false true p q =
        rw (on_recovery r (omega (arith, ltb-false 0 r.length p)) (ltb-true 0 r.left q))
        (record { length_most = omega arith; left_most = omega (arith, h.left_most) })
    by false false p q =
        rw (on_plain r (omega (arith, ltb-false 0 r.length p)) (omega (arith, ltb-false 0 r.left q)))
        (record { length_most = omega arith; left_most = omega arith })

-- a slot on, whatever the slot is
pub walked_in : (r : Run) (slot : Slot) → RunIn r → RunIn (walked_of r slot).run
unfolding walked_of
walked_in r slot h = step_in r (gap_slot slot) h

-- the test says so, both ways
pub sound_in : (r : Run) → run_sound r ≡ true → RunIn r
unfolding run_sound
sound_in r e = let h = both (leb r.length 7) (leb r.left 7) e in record { length_most = leb-true _ _ h.0; left_most = leb-true _ _ h.1 }

pub in_sound : (r : Run) → RunIn r → run_sound r ≡ true
unfolding run_sound
in_sound r h = simp (le-leb _ _ h.length_most, le-leb _ _ h.left_most)

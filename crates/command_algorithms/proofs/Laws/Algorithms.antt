-- The laws of the two algorithms: what each gives and exactly when, said of the link sets without a loop, and what it does not depend on.
-- Assumes nothing.
use Rattle.std.specs.Prelude.{ℕ, zero, suc, ◌+◌, ◌*◌, ◌≤◌, ◌<◌, ◌≡◌, refl, Bool, true, false, ◌||◌, List, [], ◌∷◌, ◌++◌, ◌↔◌, ltb, eqb, ℤ, pos, negsuc, nat_abs, ◌+ℤ◌}
use Rattle.std.proofs.Common.{ap, subst, sym, ◌∙◌, le_refl, add-zero, zero-add, not-suc-le-zero, add-one, arith, eqb-true, eq-eqb, ne_eqb, ltb-true, ltb-false, lt-ltb, le-ltb}
use Rattle.std.proofs.Math.Bool.{or_assoc, or_comm}
use Rattle.std.proofs.Math.Logic.Iff.{trans as iff_trans}
use Rattle.std.proofs.lemmas.Bool.{eqb-false}
use Rattle.std.specs.Int.Signed.{lt_z}
use Rattle.ground.specs.Choice.{when◌then◌else◌}
use Rattle.ground.proofs.Laws.Choice.{clash, passed, chain_off, either}
use Rattle.ground.proofs.Laws.Integers.Parts.{sum}
use Rattle.ground.proofs.Laws.Integers.Signs.{signs}
use Rattle.ground.specs.Lists.{total}
use Rattle.ground.proofs.Laws.Lists.{total_append}
use Rattle.ground.proofs.Laws.Some.{some}
use Rattle.command_algorithms.specs.declared.Five.{Five}
use Rattle.command_algorithms.specs.Algorithms.{decision, all_ones, algorithm1, ones_at, temporary, temporaries, any_minus, majority, combined}
use Rattle.command_algorithms.specs.Algorithms.{algorithm2, fives, Permuted, same, exchanged, after}

-- a choice between two that differ is the first exactly when its test holds
picked : {A : Type 0} (b : Bool) {x y : A} → (y ≡ x → ⊥) → (when b then x else y) ≡ x ↔ b ≡ true
picked true n = (λ e. refl, λ e. refl)
picked false n = (λ e. absurd (n e), λ e. absurd (clash e refl))

-- ---- algorithm 1, said without a loop

ones_each : (commands left i : ℕ) → all_ones commands left i ≡ true → (j : ℕ) → j < left → decision commands (i + j) ≡ 1
unfolding all_ones
ones_each commands zero i e j h = absurd (not-suc-le-zero h)
ones_each commands (suc left) i e zero h =
    let n = eqb-false (decision commands i) 0 (chain_off _ _ e).0 in
    rw (add-zero i) (omega arith)
ones_each commands (suc left) i e (suc j) h =
    let k : i + 1 + j ≡ i + suc j = omega arith in
    subst (λ (n : ℕ). decision commands n ≡ 1) k (ones_each commands left (i + 1) (chain_off (eqb (decision commands i) 0) _ e).1 j (omega arith))

each_ones : (commands left i : ℕ) → ((j : ℕ) → j < left → decision commands (i + j) ≡ 1) → all_ones commands left i ≡ true
unfolding all_ones
each_ones commands zero i f = refl
each_ones commands (suc left) i f =
    let d : decision commands i ≡ 1 = rw add-zero at (f 0 (omega arith)) in
    let next : (j : ℕ) → j < left → decision commands (i + 1 + j) ≡ 1 =
    λ j h. let k : i + suc j ≡ i + 1 + j = omega arith in subst (λ (n : ℕ). decision commands n ≡ 1) k (f (suc j) (omega arith)) in
    rw (ne_eqb (decision commands i) 0 (omega arith)) (each_ones commands left (i + 1) next)

all_ones_lem : (commands links : ℕ) → all_ones commands links 0 ≡ true ↔ ((i : ℕ) → i < links → decision commands i ≡ 1)
all_ones_lem commands links = (λ e i h. rw zero-add at (ones_each commands links 0 e i h), λ f. each_ones commands links 0 (λ j h. rw zero-add (f j h)))

-- "+1 if all N decisions are 1, else −1"
pub algorithm1_exactly : (commands links : ℕ) → algorithm1 commands links ≡ pos 1 ↔ ((i : ℕ) → i < links → decision commands i ≡ 1)
unfolding algorithm1
algorithm1_exactly commands links = iff_trans (picked _ (λ e. omega signs)) (all_ones_lem commands links)

-- what holds on both ways holds of it
pub algorithm1_cases : (P : ℤ → Type 0) (commands links : ℕ) →
    (((i : ℕ) → i < links → decision commands i ≡ 1) → P (pos 1)) → ((((i : ℕ) → i < links → decision commands i ≡ 1) → ⊥) → P (negsuc 0)) →
    P (algorithm1 commands links)
unfolding algorithm1
algorithm1_cases P commands links f g =
    either P (all_ones commands links 0) (λ e. f ((all_ones_lem commands links).0 e)) (λ e. g (λ all. clash ((all_ones_lem commands links).1 all) e))

-- the command is at most 1 in size
pub algorithm1_in : (commands links : ℕ) → nat_abs (algorithm1 commands links) ≤ 1
unfolding algorithm1
algorithm1_in commands links = either (λ (z : ℤ). nat_abs z ≤ 1) (all_ones commands links 0) (λ e. le_refl 1) (λ e. le_refl 1)

-- ---- algorithm 2

combined_in : (links : ℕ) (ts : List ℤ) → nat_abs (combined links ts) ≤ 1
unfolding combined
combined_in links ts =
    let P : ℤ → Type 0 = λ z. nat_abs z ≤ 1 in
    either P (any_minus ts) (λ e. le_refl 1) (λ e. either P (majority links (total ts)) (λ f. le_refl 1) (λ f. omega arith))

-- the command is at most 1 in size
pub algorithm2_in : (five : Five) (links : ℕ) → nat_abs (algorithm2 five links) ≤ 1
unfolding algorithm2
algorithm2_in five links = combined_in links (temporaries five links 0)

-- ---- algorithm 2, said of the link sets: the last comes last

last : (f : Five) (n i : ℕ) → temporaries f (suc n) i ≡ temporaries f n i ++ temporary (ones_at f (i + n)) ∷ []
unfolding temporaries
last f zero i = rw (add-zero i)
last f (suc n) i =
    let e : i + 1 + n ≡ i + suc n = omega arith in
    ap (λ (ts : List ℤ). temporary (ones_at f i) ∷ ts) (rw e at (last f n (i + 1)))

last_minus : (xs : List ℤ) (t : ℤ) → any_minus (xs ++ t ∷ []) ≡ (any_minus xs || lt_z t (pos 0))
unfolding any_minus
last_minus [] t = or_comm (lt_z t (pos 0)) false
last_minus (x ∷ xs) t = rw (last_minus xs t) (sym (or_assoc (lt_z x (pos 0)) (any_minus xs) (lt_z t (pos 0))))

-- five zeros give −1, and nothing else does
minus_of : (ones : ℕ) → lt_z (temporary ones) (pos 0) ≡ eqb ones 0
unfolding temporary
minus_of ones =
    let P : ℤ → Type 0 = λ z. lt_z z (pos 0) ≡ eqb ones 0 in
    either P (eqb ones 5) (λ e. sym (ne_eqb ones 0 (omega (arith, eqb-true ones 5 e)))) (λ e. either P (eqb ones 0) sym sym)

minus_suc : (f : Five) (n : ℕ) → any_minus (temporaries f (suc n) 0) ≡ (any_minus (temporaries f n 0) || eqb (ones_at f n) 0)
minus_suc f n = ap any_minus (last f n 0) ∙ last_minus (temporaries f n 0) (temporary (ones_at f (0 + n))) ∙ rw (minus_of, zero-add n)

some_minus : (f : Five) (links : ℕ) → any_minus (temporaries f links 0) ≡ true ↔ ((i : ℕ) × (i < links) × (ones_at f i ≡ 0))
unfolding any_minus temporaries
some_minus f links =
    let g = some (λ n. any_minus (temporaries f n 0)) (λ i. eqb (ones_at f i) 0) refl (minus_suc f) links in
    (λ e. let h = g.0 e in (h.0, h.1, eqb-true _ 0 h.2), λ h. g.1 (h.0, h.1, eq-eqb _ 0 h.2))

one_more : (ones n : ℕ) → (ones ≡ 0 → ⊥) → pos n +ℤ (temporary ones +ℤ pos 0) ≡ pos (when eqb ones 5 then suc n else n)
unfolding temporary
one_more ones n h = by (eqb ones 5) (eqb ones 0) refl
  where
    by : (p q : Bool) → eqb ones 0 ≡ q → pos n +ℤ ((when p then pos 1 else when q then negsuc 0 else pos 0) +ℤ pos 0) ≡ pos (when p then suc n else n)
    by true q e = ap pos (add-one n)
    by false true e = absurd (h (eqb-true ones 0 e))
    by false false e = ap pos (add-zero n)

-- where no link set has five zeros the sum counts those with five ones
total_fives : (f : Five) (n : ℕ) → ((i : ℕ) → i < n → ones_at f i ≡ 0 → ⊥) → total (temporaries f n 0) ≡ pos (fives f n)
unfolding total temporaries fives
total_fives f zero h = refl
total_fives f (suc n) h =
    ap total (last f n 0) ∙ total_append (temporaries f n 0) _
    ∙ rw (total_fives f n (λ i l. h i (omega arith)), zero-add n) (one_more (ones_at f n) (fives f n) (h n (le_refl (suc n))))

-- so that the command asks for no list
said : (f : Five) (links : ℕ) → ((i : ℕ) → i < links → ones_at f i ≡ 0 → ⊥) →
    algorithm2 f links ≡ (when ltb links (2 * fives f links) then pos 1 else pos 0)
unfolding algorithm2 combined
said f links h = by (any_minus (temporaries f links 0)) refl
  where
    by : (t : Bool) → any_minus (temporaries f links 0) ≡ t →
        (when t then negsuc 0 else when majority links (total (temporaries f links 0)) then pos 1 else pos 0) ≡
        (when ltb links (2 * fives f links) then pos 1 else pos 0)
    by true e = let g = (some_minus f links).0 e in absurd (h g.0 g.1 g.2)
    by false e = rw (total_fives f links h)

-- "the command is −1 if any gives −1": exactly when some link set has five zeros
pub minus_exactly : (five : Five) (links : ℕ) → algorithm2 five links ≡ negsuc 0 ↔ ((i : ℕ) × (i < links) × (ones_at five i ≡ 0))
unfolding algorithm2 combined
minus_exactly five links =
    let most = majority links (total (temporaries five links 0)) in
    let other = either (λ (z : ℤ). z ≡ negsuc 0 → ⊥) most {x = pos 1} {y = pos 0} (λ t p. omega signs) (λ t p. omega signs) in
    iff_trans (picked _ other) (some_minus five links)

module _ (five : Five) (links : ℕ) where
  none_minus : (z : ℤ) → (z ≡ negsuc 0 → ⊥) → algorithm2 five links ≡ z → (i : ℕ) → i < links → ones_at five i ≡ 0 → ⊥
  none_minus z n e i h o = n (sym e ∙ (minus_exactly five links).1 (i, h, o))

  -- "else +1 if the sum is more than N/2": exactly when none has five zeros and more than half have five ones
  pub plus_exactly : algorithm2 five links ≡ pos 1 ↔ (((i : ℕ) → i < links → ones_at five i ≡ 0 → ⊥) × (links < 2 * fives five links))
  plus_exactly = (
    λ e. let h = none_minus (pos 1) (λ p. omega signs) e in (h, ltb-true _ _ ((picked _ (λ p. omega signs)).0 (sym (said five links h) ∙ e))),
    λ g. said five links g.0 ∙ rw (lt-ltb _ _ g.1),
  )

  -- "else 0": exactly when none has five zeros and half or fewer have five ones, so that a tie decides nothing
  pub zero_exactly : algorithm2 five links ≡ pos 0 ↔ (((i : ℕ) → i < links → ones_at five i ≡ 0 → ⊥) × (2 * fives five links ≤ links))
  zero_exactly = (
    λ e. let h = none_minus (pos 0) (λ p. omega signs) e in (h, ltb-false _ _ (passed _ (λ p. omega signs) (sym (said five links h) ∙ e)).0),
    λ g. said five links g.0 ∙ rw (le-ltb _ _ g.1),
  )

  -- what holds on each of the three ways holds of it
  pub algorithm2_cases : (P : ℤ → Type 0) → ((i : ℕ) → i < links → ones_at five i ≡ 0 → P (negsuc 0)) →
      (((i : ℕ) → i < links → ones_at five i ≡ 0 → ⊥) → links < 2 * fives five links → P (pos 1)) →
      (((i : ℕ) → i < links → ones_at five i ≡ 0 → ⊥) → 2 * fives five links ≤ links → P (pos 0)) → P (algorithm2 five links)
  algorithm2_cases P minus plus none = by (any_minus (temporaries five links 0)) refl
    where
      by : (t : Bool) → any_minus (temporaries five links 0) ≡ t → P (algorithm2 five links)
      by true e = let g = (some_minus five links).0 e in subst P (sym ((minus_exactly five links).1 g)) (minus g.0 g.1 g.2)
      by false e =
          let h : (i : ℕ) → i < links → ones_at five i ≡ 0 → ⊥ = λ i l o. clash ((some_minus five links).1 (i, l, o)) e in
          subst P (sym (said five links h)) (either P (ltb links (2 * fives five links)) (λ l. plus h (ltb-true _ _ l)) (λ l. none h (ltb-false _ _ l)))

-- ---- the order of the link sets does not matter to algorithm 2: any two neighbours may change places

any_swap : (xs ys : List ℤ) (a b : ℤ) → any_minus (xs ++ a ∷ b ∷ ys) ≡ any_minus (xs ++ b ∷ a ∷ ys)
unfolding any_minus
any_swap [] ys a b =
    let p = lt_z a (pos 0) in
    let q = lt_z b (pos 0) in
    let r = any_minus ys in
    sym (or_assoc p q r) ∙ ap (λ (s : Bool). s || r) (or_comm p q) ∙ or_assoc q p r
any_swap (x ∷ xs) ys a b = ap (λ (r : Bool). lt_z x (pos 0) || r) (any_swap xs ys a b)

total_swap : (xs ys : List ℤ) (a b : ℤ) → total (xs ++ a ∷ b ∷ ys) ≡ total (xs ++ b ∷ a ∷ ys)
unfolding total
total_swap [] ys a b =
    let t = total ys in
    omega (signs, sum a (b +ℤ t), sum b t, sum b (a +ℤ t), sum a t)
total_swap (x ∷ xs) ys a b = ap (λ (t : ℤ). x +ℤ t) (total_swap xs ys a b)

combined_swap : (links : ℕ) (xs ys : List ℤ) (a b : ℤ) → combined links (xs ++ a ∷ b ∷ ys) ≡ combined links (xs ++ b ∷ a ∷ ys)
unfolding combined
combined_swap links xs ys a b = rw (any_swap xs ys a b, total_swap xs ys a b)

pub combined_order : (links : ℕ) {ts us : List ℤ} → Permuted ts us → combined links ts ≡ combined links us
combined_order links same = refl
combined_order links (exchanged xs ys a b) = combined_swap links xs ys a b
combined_order links (after p q) = combined_order links p ∙ combined_order links q

-- link sets in another order give the same command
pub algorithm2_order : (f g : Five) (links : ℕ) → Permuted (temporaries f links 0) (temporaries g links 0) → algorithm2 f links ≡ algorithm2 g links
unfolding algorithm2
algorithm2_order f g links p = combined_order links p

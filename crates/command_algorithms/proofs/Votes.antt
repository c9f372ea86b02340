-- What the loops of both algorithms meet: the bytes by halves, the link sets passed so far, and those to come.
-- Assumes nothing.
use Rattle.std.proofs.Common.{ℕ, ◌+◌, ◌-◌, ◌*◌, ◌/◌, ◌^◌, ◌<◌, ◌≤◌, ◌≡◌, ap, ◌∙◌, sym, List, ◌∷◌, div-lt_iff_lt-mul, le-div_iff_mul-le, div-one, add-zero, arith, ltb, eqb, shr-shr, ℤ, pos, negsuc, ◌+ℤ◌, eqb-true, ne_eqb, ltb-true, ltb-false, lt-ltb, le-ltb}
use Rattle.std.proofs.Math.Nat.{one-le-pow}
use Rattle.std.proofs.Math.IntN.{+ℤ_idl, +ℤ_assoc}
use Rattle.std.proofs.lemmas.Bool.{eqb-false}
use Rattle.ground.specs.Choice.{when◌then◌else◌}
use Rattle.ground.proofs.Laws.Choice.{either, alike}
use Rattle.ground.proofs.Laws.Integers.Signs.{signs}
use Rattle.ground.specs.Lists.{total}
use Rattle.ground.proofs.Laws.Lists.{left_suc, left_none}
use Rattle.command_algorithms.specs.declared.Five.{Five}
use Rattle.command_algorithms.specs.Algorithms.{ones_at, temporary, temporaries, any_minus, majority, combined, lowest, halved}

-- ---- halves

half_power : (b i : ℕ) → b / 2 ^ i / 2 ≡ b / 2 ^ (i + 1)
half_power b i = shr-shr b i 1

abbrev pub shifted : Five → ℕ → Five
shifted f i = record { a = f.a / 2 ^ i; b = f.b / 2 ^ i; c = f.c / 2 ^ i; d = f.d / 2 ^ i; e = f.e / 2 ^ i }

pub no_shift : (f : Five) → f ≡ shifted f 0
no_shift f = sym (simp div-one)

pub next_shift : (f : Five) (i : ℕ) {g h : Five} → g ≡ shifted f i → h ≡ halved g → h ≡ shifted f (i + 1)
next_shift f i e d = d ∙ rw e (simp half_power)

-- after n halves nothing is left of a byte below 2^n, and of no other
pub none_left : (b n i : ℕ) {r : ℕ} → i ≤ n → n ≤ i → r ≡ b / 2 ^ i → ltb r 1 ≡ ltb b (2 ^ n)
none_left b n i {r} h l e =
    let q : i ≡ n = omega arith in
    let p : 0 < 2 ^ n = one-le-pow n 2 (omega arith) in
    rw (e, q)
    (alike _ _
    (λ t. lt-ltb b (2 ^ n) (omega (arith, (div-lt_iff_lt-mul {x = b} {y = 1} p).0 (ltb-true _ _ t))))
    (λ t. le-ltb b (2 ^ n) (omega (arith, (le-div_iff_mul-le {x = 1} {y = b} p).0 (ltb-false _ _ t)))))

-- ---- algorithm 2: the votes so far, and those to come

unfoldable pub counting : ℕ → ℕ → List ℤ → ℤ
counting n ups ts = when any_minus ts then negsuc 0 else when majority n (pos ups +ℤ total ts) then pos 1 else pos 0

pub none_yet : (n : ℕ) (ts : List ℤ) → combined n ts ≡ counting n 0 ts
unfolding combined counting
none_yet n ts = rw +ℤ_idl

-- a link set with any one counts for one or for nothing
worth : (o : ℕ) → 1 ≤ o → o ≤ 5 → temporary o ≡ pos (o / 5)
unfolding temporary
worth o h l =
    let P : ℤ → Type 0 = λ z. z ≡ pos (o / 5) in
    either P (eqb o 5) (λ e. omega (signs, eqb-true o 5 e)) (λ e. rw (ne_eqb o 0 (omega arith)) (omega (signs, eqb-false o 5 e)))

vote : (n ups m : ℕ) (ts : List ℤ) → counting n ups (pos m ∷ ts) ≡ counting n (ups + m) ts
unfolding counting any_minus total
vote n ups m ts = rw (le-ltb m 0 (omega arith), ← (+ℤ_assoc (pos ups) (pos m) (total ts)))

lowest_at : (f : Five) (i : ℕ) {g : Five} {o : ℕ} → g ≡ shifted f i → o ≡ lowest g → o ≡ ones_at f i
lowest_at f i e d = d ∙ ap lowest e

lowest_most : (g : Five) → lowest g ≤ 5
lowest_most g = omega arith

-- over what is left of the loop: a link set with five zeros settles it
pub settled : (n ups i : ℕ) (f : Five) {g : Five} {o : ℕ} → i < n → g ≡ shifted f i → o ≡ lowest g → o < 1 →
    counting n ups (temporaries f (n - i) i) ≡ negsuc 0
unfolding counting temporaries any_minus temporary
settled n ups i f {g} {o} h e d z = let s : ones_at f i ≡ 0 = omega (arith, lowest_at f i e d) in rw (left_suc n i h, s)

-- any other is counted
pub counted : (n ups i : ℕ) (f : Five) {g : Five} {o : ℕ} → i < n → g ≡ shifted f i → o ≡ lowest g → 1 ≤ o →
    counting n ups (temporaries f (n - i) i) ≡ counting n (ups + o / 5) (temporaries f (n - (i + 1)) (i + 1))
unfolding temporaries
counted n ups i f {g} {o} h e d z =
    rw (left_suc n i h, ← (lowest_at f i e d), worth o z (omega (arith, d, lowest_most g))) (vote n ups (o / 5) (temporaries f (n - (i + 1)) (i + 1)))

-- and after the last the votes decide
pub decided : (n ups i : ℕ) (f : Five) → n ≤ i → counting n ups (temporaries f (n - i) i) ≡ (when ltb n (2 * ups) then pos 1 else pos 0)
unfolding counting temporaries any_minus total
decided n ups i f h = rw (left_none n i h, add-zero ups)

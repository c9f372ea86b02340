-- The laws of a choice, and the set by which `search` follows a chain of tests.
-- Assumes nothing.
pub mod Chains
pub mod Faults
use Rattle.std.specs.Prelude.{◌≡◌, refl, Bool, true, false, ◌&&◌, ◌||◌}
use Rattle.std.proofs.Common.{sym, ◌∙◌, true≢false, arith, lt-ltb, le-ltb, le-leb, eq-eqb, ne_eqb, to_z-of_z}
use borrow.Author.Rules.{sfits_of}
use Rattle.std.proofs.lemmas.Bool.{lt-leb}
use Rattle.ground.specs.Choice.{when◌then◌else◌}

-- at a return, under `unfolding` of the rule: the tests passed on the way pick the rule's line, and signed numbers are read from their bits
pub ruleset tests = (tt, to_z-of_z, sfits_of, lt-ltb, le-ltb, le-leb, lt-leb, eq-eqb, ne_eqb, arith)

-- no test is both true and false
pub clash : {b : Bool} → b ≡ true → b ≡ false → ⊥
clash p q = true≢false (sym p ∙ q)

-- one that cannot fail holds
pub must : (b : Bool) → (b ≡ false → ⊥) → b ≡ true
must true f = refl
must false f = absurd (f refl)

-- a test that holds picks the first, without writing out what the test is made of, as `rw` would
pub if_true : {A : Type 0} {b : Bool} (x y : A) → b ≡ true → x ≡ (when b then x else y)
if_true {b = true} x y e = refl
if_true {b = false} x y e = absurd (clash e refl)

-- and one that does not the second
pub if_false : {A : Type 0} {b : Bool} (x y : A) → b ≡ false → y ≡ (when b then x else y)
if_false {b = false} x y e = refl
if_false {b = true} x y e = absurd (clash refl e)

-- what holds on both ways, each knowing its test, holds of the choice
pub either : {A : Type 0} (P : A → Type 0) (b : Bool) {x y : A} → (b ≡ true → P x) → (b ≡ false → P y) → P (when b then x else y)
either P true f g = f refl
either P false f g = g refl

-- two tests that come out alike are one
pub alike : (a b : Bool) → (a ≡ true → b ≡ true) → (a ≡ false → b ≡ false) → a ≡ b
alike true b f g = sym (f refl)
alike false b f g = sym (g refl)

-- two tests that hold together: each holds
pub both : (a b : Bool) → a && b ≡ true → (a ≡ true) × (b ≡ true)
both true b e = (refl, e)
both false b e = absurd (clash e refl)

-- two tests of which none holds: neither does
pub neither : (a b : Bool) → a || b ≡ false → (a ≡ false) × (b ≡ false)
neither true b e = absurd (clash refl e)
neither false b e = (refl, e)

-- a test that would have led elsewhere was not met, and the rest is passed
pub passed : {A : Type 0} (b : Bool) {x y z : A} → (x ≡ z → ⊥) → (when b then x else y) ≡ z → (b ≡ false) × (y ≡ z)
passed true n e = absurd (n e)
passed false n e = (refl, e)

-- a chain of tests that must not hold, passed: the first did not, and the rest is passed
pub chain_off : (b x : Bool) → (when b then false else x) ≡ true → (b ≡ false) × (x ≡ true)
chain_off b x e = passed b (λ h. clash h refl) e

-- two choices by one test that differ only in the second are alike where the second is asked
pub otherwise : {A : Type 0} (b : Bool) (x : A) {y z : A} → (b ≡ false → y ≡ z) → (when b then x else y) ≡ (when b then x else z)
otherwise true x f = refl
otherwise false x f = f refl

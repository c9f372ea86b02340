-- The laws of a search: where it ends, and what a loop that searches meets at each turn.
-- Assumes nothing.
use Prim.Native.Nat.{ℕ, suc, ◌+◌, max, ◌≤◌, ◌<◌}
use Rattle.std.specs.Prelude.{◌≡◌, Bool, drop, get_or}
use Rattle.std.proofs.Math.Path.{refl}
use Rattle.std.proofs.Math.Bool.{true, false}
use mathlib.Core.List.{List, [], ◌∷◌}
use Rattle.std.proofs.Math.Numerals.{add-one}
use native.Mathlib.Omega.{arith}
use Rattle.std.proofs.Math.ListN.{length}
use Rattle.std.proofs.Common.{length-drop, drop_of_length-le, drop-cons}
use Rattle.ground.specs.Choice.{when◌then◌else◌}
use Rattle.ground.proofs.Laws.Choice.{either}
use Rattle.words.specs.Text.{before}
use Rattle.words.specs.Text.Parts.{Found}

module _ (test : ℕ → Bool) where
  -- no more than there are
  pub before_most : (s : List ℕ) → before test s ≤ length s
  unfolding before
  before_most [] = omega arith
  before_most (b ∷ rest) =
      let h = before_most rest in
      either (λ (n : ℕ). n ≤ suc (length rest)) (test b) (λ _. omega arith) (λ _. omega arith)

  -- where it ends inside the text, the test is passed there
  pub before_there : (s : List ℕ) → before test s < length s → test (get_or s (before test s) 0) ≡ true
  unfolding before
  before_there [] h = absurd (let z : ⊥ = omega arith in z)
  before_there (b ∷ rest) h = by (test b) refl h (before_there rest)
    where
      by : (t : Bool) → test b ≡ t → (when t then 0 else suc (before test rest)) < suc (length rest) →
          (before test rest < length rest → test (get_or rest (before test rest) 0) ≡ true) →
          test (get_or (b ∷ rest) (when t then 0 else suc (before test rest)) 0) ≡ true
      by true p h later = p
      by false p h later = later (omega arith)

  module _ (s : List ℕ) (at : ℕ) where
    pub found : (k : ℕ) → k ≡ at + before test (drop at s) → Found test s at k
    found k e =
        let h = before_most (drop at s) in
        record { here = e; from = omega arith; inside = λ l. omega (arith, length-drop at s) }

    module _ (k : ℕ) (e : at + before test (drop at s) ≡ k + before test (drop k s)) where
      pub found_here : k < length s → test (get_or s k 0) ≡ true → Found test s at k
      unfolding before
      found_here h t =
          let z : before test (drop k s) ≡ 0 = rw (drop-cons s k 0 h, t) in
          found k (omega arith)

      pub found_later : k < length s → test (get_or s k 0) ≡ false → at + before test (drop at s) ≡ k + 1 + before test (drop (k + 1) s)
      unfolding before
      found_later h t =
          let z : before test (drop k s) ≡ suc (before test (drop (k + 1) s)) = rw (drop-cons s k 0 h, t, add-one k) in
          omega arith

      pub found_none : length s ≤ k → Found test s at k
      unfolding before
      found_none h =
          let z : before test (drop k s) ≡ 0 = rw (drop_of_length-le s h) in
          found k (omega arith)

      pub found_end : length s ≤ k → (at ≤ length s → k ≤ length s) → Found test s at (max at (length s))
      unfolding before
      found_end h l =
          let z : before test (drop k s) ≡ 0 = rw (drop_of_length-le s h) in
          let m = before_most (drop at s) in
          found (max at (length s)) (omega (arith, length-drop at s))

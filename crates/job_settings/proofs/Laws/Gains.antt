-- The laws of the triples of a job: a sound part has a gain in its ranges, and a part of a body is one of the file.
-- Assumes nothing.
use Rattle.std.specs.Prelude.{ℕ, zero, suc, ◌+◌, ◌≤◌, ◌≡◌, refl, List, [], ◌∷◌, true, ◌↔◌, ℤ, take, drop}
use Rattle.std.proofs.Common.{◌∙◌, arith, take-take, drop-drop}
use Rattle.power.specs.Gain.{MaximumIn, GainIn}
use Rattle.power.proofs.Laws.Gain.{gain_in}
use Rattle.power.specs.Triples.{TripleIn}
use Rattle.power.proofs.Laws.Triples.{triple_exactly}
use Rattle.job_settings.proofs.Laws.Settings.{unnamed}
use Rattle.job_settings.specs.Gains.{triple_at, gains_sound, gain_at}

-- a part is sound exactly where its triple keeps every rule
pub gains_exactly : (gains : List ℕ) → gains_sound gains ≡ true ↔ TripleIn (triple_at gains 0)
unfolding gains_sound
gains_exactly gains =
    let w = triple_exactly (triple_at gains 0) in
    (λ e. w.0 (unnamed e), λ h. rw (w.1 h))

-- and then its gain is in its ranges
pub gains_in_lem : (gains : List ℕ) {maximum : ℤ} → gains_sound gains ≡ true → MaximumIn maximum → GainIn (gain_at gains maximum 0)
gains_in_lem gains e h = gain_in ((gains_exactly gains).0 e).ranged h

-- a part of a part that goes no further is the same part of the whole
part_of : (m k n : ℕ) (l : List ℕ) → k + m ≤ n → take m (drop k (take n l)) ≡ take m (drop k l)
part_of m zero n l h = take-take m n l (omega arith)
part_of m (suc k) zero l h = absurd (let z : ⊥ = omega arith in z)
part_of m (suc k) (suc n) [] h = refl
part_of m (suc k) (suc n) (x ∷ xs) h = part_of m k n xs (omega arith)

-- so that a part of a body is a part of the file
pub body_part : (m k n at : ℕ) (l : List ℕ) → k + m ≤ n → take m (drop k (take n (drop at l))) ≡ take m (drop (at + k) l)
body_part m k n at l h = part_of m k n (drop at l) h ∙ rw (drop-drop k at l)

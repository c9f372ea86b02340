-- The brackets, the count's top, and how tight the claims are, computed.
-- Assumes nothing.
use Rattle.std.specs.Prelude.{◌≡◌, ℕ, zero, suc, ◌-◌, ◌*◌, ◌^◌, ◌<◌, true, false, List, [], ◌∷◌, length, ℤ, pos, negsuc, ◌-ℤ◌, ◌*ℤ◌, ◌≢◌, unsigned_abs, refl, Float}
use Rattle.std.proofs.Common.{not-le_of_lt, lit≤, lit<}
use Rattle.std.specs.Float.{fin}
use Rattle.std.specs.Float.Ieee.{mul, sub, of_int}
use Rattle.ground.proofs.Laws.Integers.Products.{abs_same}
use Rattle.resume_filter.specs.Scaled.{scaled}
use Rattle.resume_filter.specs.Update.{next, share_of, update_bracket, counted, empty_of, updated_of, after}
use Rattle.resume_filter.specs.Update.{exact, Bracket, Brackets}

-- the brackets of a command and its opposite at either step, and of two limited rows
brackets : (update_bracket (pos 1) 64 true false ≡ pos 62) × (update_bracket (negsuc 0) 64 false true ≡ negsuc 61) ×
    (update_bracket (negsuc 0) 128 false false ≡ negsuc 123) × (update_bracket (pos 1) 128 true true ≡ pos 0)
unfolding update_bracket share_of
brackets = (refl, refl, refl, refl)

-- the count goes up to the top of its type and stays there
counts : (counted 4294967294 ≡ 4294967295) × (counted 4294967295 ≡ 4294967295)
unfolding counted
counts = (refl, refl)

-- ---- how tight the claims are. n times b, after the brackets bs

times : ℕ → ℤ → List ℤ → List ℤ
times zero b bs = bs
times (suc n) b bs = b ∷ times n b bs

times_brackets : (n : ℕ) {b : ℤ} (bs : List ℤ) → Bracket b → Brackets bs → Brackets (times n b bs)
unfolding times Brackets
times_brackets zero bs h k = k
times_brackets (suc n) bs h k = (h, times_brackets n bs h k)

-- how far the level after bs lies from the exact recursion, both times 16^m · 2^1074
distance : List ℤ → ℕ
distance bs = unsigned_abs (pos (16 ^ length bs) *ℤ scaled (after bs).level -ℤ pos (2 ^ 1074) *ℤ exact bs)

-- eleven is the most that is always exact: after −62 and eleven times −124 the twelfth level is off
twelve : List ℤ
twelve = times 11 (negsuc 123) (negsuc 61 ∷ [])

twelve_are : Brackets twelve
unfolding twelve Brackets
twelve_are =
    times_brackets 11 (negsuc 61 ∷ []) (record { most = lit≤ tt; even = refl })
    (record { most = lit≤ tt; even = refl }, tt)

twelve_distance : 0 < distance twelve
unfolding twelve times distance after empty_of updated_of next exact scaled mul sub of_int
twelve_distance = lit< tt

twelve_off :
    Brackets twelve ×
    (pos (16 ^ length twelve) *ℤ scaled (after twelve).level ≢ pos (2 ^ 1074) *ℤ exact twelve)
unfolding distance
twelve_off = (twelve_are, λ e. not-le_of_lt twelve_distance (abs_same e))

-- 2^−43 is too near: after 28 times −124, which a job of step 2 dB can have, the level is farther off
far_off : Brackets (times 28 (negsuc 123) []) × (2 ^ (1074 - 43) * 16 ^ 28 < distance (times 28 (negsuc 123) []))
unfolding times distance Brackets after empty_of updated_of next exact scaled mul sub of_int
far_off = (times_brackets 28 [] (record { most = lit≤ tt; even = refl }) tt, lit< tt)

-- and so it is for one update, here of 973.1998330417199 by −124
level : Float
level = fin false 8560356260632263 (negsuc 42)

far_off_at_once :
    let exactly = pos 15 *ℤ scaled level -ℤ pos 16 *ℤ (pos (2 ^ 1074) *ℤ negsuc 123) in
    16 * 2 ^ (1074 - 43) < unsigned_abs (pos 16 *ℤ scaled (next level (negsuc 123)) -ℤ exactly)
unfolding level next scaled mul sub of_int
far_off_at_once = lit< tt

-- The bits of a signed number as std has them.
-- Assumes nothing.
use Rattle.std.specs.Prelude.{◌<◌, ◌≤◌, ◌≡◌, ℤ, pos, negsuc}
use Rattle.std.specs.Int.{int_max, int_min}
use Rattle.std.proofs.Common.{◌∙◌, ap, arith, lit≤, w8, w16}
use Rattle.std.proofs.lemmas.Int.{ints, int_min_is, int_max_is}
use Rattle.std.proofs.lemmas.Bool.{cases_lt}
use Rattle.std.proofs.Math.Logic.{⊎_elim}
use mir.Val.{SFits, of_z}
use Rattle.ground.proofs.Laws.Integers.Parts.{sum}
use Rattle.ground.proofs.Laws.Integers.Signs.{signs}
use Rattle.job_file.specs.Numbers.{signed_bits}
use Rattle.job_file.proofs.Laws.Numbers.{bits_plain, bits_over, bits_turned, bits_under}

-- a byte holds every number of its type
pub byte_is : (z : ℤ) → SFits w8 z → of_z w8 z ≡ signed_bits 128 z
byte_is (pos n) h = bits_plain 128 (lit≤ tt) n (omega (signs, h.sfits))
byte_is (negsuc n) h = bits_turned 128 (lit≤ tt) n (omega (signs, h.sfits, sum (negsuc n) (pos 128)))

-- and two bytes the nearest of any other
pub pair_is : (z r : ℤ) → r ≡ int_max (negsuc 32767) (int_min z (pos 32767)) → of_z w16 r ≡ signed_bits 32768 z
pair_is (pos n) r e =
    let low = int_min_is (pos n) (pos 32767) in
    let high = int_max_is (negsuc 32767) (int_min (pos n) (pos 32767)) in
    ⊎_elim (λ (h : n < 32768). let same : r ≡ pos n = omega (arith, ints, low, high) in ap (of_z w16) same ∙ bits_plain 32768 (lit≤ tt) n h)
    (λ (h : 32768 ≤ n). let same : r ≡ pos 32767 = omega (arith, ints, low, high) in ap (of_z w16) same ∙ bits_over 32768 (lit≤ tt) n h)
    (cases_lt n 32768)
pair_is (negsuc n) r e =
    let low = int_min_is (negsuc n) (pos 32767) in
    let high = int_max_is (negsuc 32767) (int_min (negsuc n) (pos 32767)) in
    ⊎_elim (λ (h : n < 32768). let same : r ≡ negsuc n = omega (arith, ints, low, high) in ap (of_z w16) same ∙ bits_turned 32768 (lit≤ tt) n h)
    (λ (h : 32768 ≤ n). let same : r ≡ negsuc 32767 = omega (arith, ints, low, high) in ap (of_z w16) same ∙ bits_under 32768 (lit≤ tt) n h)
    (cases_lt n 32768)

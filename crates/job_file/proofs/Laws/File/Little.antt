-- The laws of little-endian numbers: a number is that of its bytes, and bytes are those of their number. One division at a time.
-- Assumes nothing.
use Rattle.std.specs.Prelude.{ℕ, ◌+◌, ◌*◌, ◌/◌, ◌%◌, ◌<◌, ◌≡◌, [], ◌∷◌, ◌++◌}
use Rattle.std.proofs.Common.{sym, ◌∙◌, ap, arith}
use Rattle.ground.specs.Bytes.{pair_of}
use Rattle.job_contents.specs.Contents.{quad_of}
use Rattle.job_file.specs.File.{pair_bytes, quad_bytes, entry_bytes}

-- ---- one byte

-- a number is its low byte and 256 times the rest
parted : (n : ℕ) → n ≡ n % 256 + 256 * (n / 256)
parted n = omega arith

low : (a m : ℕ) → a < 256 → (a + 256 * m) % 256 ≡ a
low a m h = omega arith

rest : (a m : ℕ) → a < 256 → (a + 256 * m) / 256 ≡ m
rest a m h = omega arith

only : (n : ℕ) → n < 256 → n % 256 ≡ n
only n h = omega arith

-- the rest of the rest
second_rest : (n : ℕ) → n / 65536 ≡ n / 256 / 256
second_rest n = omega arith

third_rest : (n : ℕ) → n / 16777216 ≡ n / 65536 / 256
third_rest n = omega arith

-- ---- two and four bytes of a number

pub pair_back : (n : ℕ) → n < 65536 → pair_of (n % 256) (n / 256 % 256) ≡ n
pair_back n h = omega (arith, parted n, only (n / 256) (omega arith))

four : (n p q r a b c d : ℕ) → n ≡ a + 256 * p → p ≡ b + 256 * q → q ≡ c + 256 * r → r ≡ d → quad_of a b c d ≡ n
four n p q r a b c d e f g h = omega arith

pub quad_back : (n : ℕ) → n < 4294967296 → quad_of (n % 256) (n / 256 % 256) (n / 65536 % 256) (n / 16777216 % 256) ≡ n
quad_back n h =
    four n (n / 256) (n / 65536) (n / 16777216) (n % 256) (n / 256 % 256) (n / 65536 % 256) (n / 16777216 % 256) (parted n)
    (parted (n / 256) ∙ ap (λ (k : ℕ). n / 256 % 256 + 256 * k) (sym (second_rest n)))
    (parted (n / 65536) ∙ ap (λ (k : ℕ). n / 65536 % 256 + 256 * k) (sym (third_rest n)))
    (sym (only (n / 16777216) (omega arith)))

-- ---- and the bytes of their number

pub pair_own : (a b : ℕ) → a < 256 → b < 256 → pair_bytes (pair_of a b) ≡ a ∷ b ∷ []
pair_own a b h k = rw (low a b h, rest a b h, only b k)

pub quad_own : (a b c d : ℕ) → a < 256 → b < 256 → c < 256 → d < 256 → quad_bytes (quad_of a b c d) ≡ a ∷ b ∷ c ∷ d ∷ []
quad_own a b c d g h i j =
    let n = quad_of a b c d in
    let e : n ≡ a + 256 * (b + 256 * (c + 256 * d)) = omega arith in
    let p : n / 256 ≡ b + 256 * (c + 256 * d) = ap (λ (k : ℕ). k / 256) e ∙ rest a (b + 256 * (c + 256 * d)) g in
    let q : n / 65536 ≡ c + 256 * d = second_rest n ∙ ap (λ (k : ℕ). k / 256) p ∙ rest b (c + 256 * d) h in
    let r : n / 16777216 ≡ d = third_rest n ∙ ap (λ (k : ℕ). k / 256) q ∙ rest c d i in
    listed (ap (λ (k : ℕ). k % 256) e ∙ low a (b + 256 * (c + 256 * d)) g) (ap (λ (k : ℕ). k % 256) p ∙ low b (c + 256 * d) h)
    (ap (λ (k : ℕ). k % 256) q ∙ low c d i) (ap (λ (k : ℕ). k % 256) r ∙ only d j)
  where
    listed : {p q r s x y z w : ℕ} → p ≡ x → q ≡ y → r ≡ z → s ≡ w → p ∷ q ∷ r ∷ s ∷ [] ≡ x ∷ y ∷ z ∷ w ∷ []
    listed e f g h = λ i. e i ∷ f i ∷ g i ∷ h i ∷ []

-- the nine bytes of an entry
pub entry_own : (kind a b c d e f g h : ℕ) → a < 256 → b < 256 → c < 256 → d < 256 → e < 256 → f < 256 → g < 256 → h < 256 →
    entry_bytes kind (quad_of a b c d) (quad_of e f g h) ≡ kind ∷ a ∷ b ∷ c ∷ d ∷ e ∷ f ∷ g ∷ h ∷ []
entry_own kind a b c d e f g h i j k l m n o p =
    let first = quad_own a b c d i j k l in
    let second = quad_own e f g h m n o p in
    λ i. kind ∷ first i ++ second i

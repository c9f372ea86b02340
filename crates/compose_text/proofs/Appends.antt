-- Bytes appended to those that end at a place, row by row.
-- Assumes nothing.
use Prim.Native.Nat.{ℕ, zero, suc, ◌+◌, ◌*◌, ◌<◌}
use Rattle.std.proofs.Math.Path.{◌≡◌, refl, sym, ap}
use mathlib.Core.List.{List, [], ◌∷◌, ◌++◌, append_assoc, append-nil}
use Rattle.std.proofs.Math.Numerals.{add-one}
use native.Mathlib.Omega.{arith}
use Rattle.std.proofs.Math.ListN.{length, take, set, length-set}
use Rattle.std.proofs.Math.Seq.{take-suc-set}
use Rattle.compose_text.specs.Composing.{rows_bytes}
use Rattle.compose_text.specs.Standing.{Appended}

-- no room
pub passed_over : (bodies added : List ℕ) (next at : ℕ) → next ≡ at + length added → length bodies < next → Appended next bodies bodies at added
passed_over bodies added next at e h = record { place = e; long = refl; bytes = λ k. absurd (omega arith) }

-- ---- rows

pub rows_length : (count commands pilots : ℕ) → length (rows_bytes count commands pilots) ≡ 2 * count
unfolding rows_bytes
rows_length zero commands pilots = refl
rows_length (suc count) commands pilots = let h = rows_length count commands pilots in omega arith

pub rows_passed : {next : ℕ} (bodies : List ℕ) (at count commands pilots : ℕ) → next ≡ at + 2 * count → length bodies < next →
    Appended next bodies bodies at (rows_bytes count commands pilots)
rows_passed bodies at count commands pilots e h = passed_over bodies _ _ at (omega (arith, rows_length count commands pilots)) h

-- one row more at the end
rows_more : (count commands pilots : ℕ) → rows_bytes (suc count) commands pilots ≡ rows_bytes count commands pilots ++ commands ∷ pilots ∷ []
unfolding rows_bytes
rows_more zero commands pilots = refl
rows_more (suc count) commands pilots = ap (λ (l : List ℕ). commands ∷ pilots ∷ l) (rows_more count commands pilots)

-- so many rows are stored
pub record Rowing (bodies₀ bodies : List ℕ) (at commands pilots k : ℕ) : Type 0 where
  pub long : length bodies ≡ length bodies₀
  pub bytes : take (at + 2 * k) bodies ≡ take at bodies₀ ++ rows_bytes k commands pilots

pub none_yet : (bodies : List ℕ) (at commands pilots : ℕ) → Rowing bodies bodies at commands pilots 0
unfolding rows_bytes
none_yet bodies at commands pilots = record { long = refl; bytes = let e : at + 2 * 0 ≡ at = omega arith in rw e (sym (append-nil (take at bodies))) }

-- two bytes stored behind the others
two_stored : (l : List ℕ) (n a b : ℕ) → n + 1 < length l → take (n + 2) (set (set l n a) (n + 1) b) ≡ take n l ++ a ∷ b ∷ []
two_stored l n a b h =
    let two : n + 2 ≡ suc (n + 1) = omega arith in
    rw (two, take-suc-set (set l n a) (n + 1) b (rw (length-set l n a) h), add-one n, take-suc-set l n a (omega arith), append_assoc)

pub one_more : {bodies₀ bodies : List ℕ} {at commands pilots k : ℕ} → at + 2 * k + 1 < length bodies₀ → Rowing bodies₀ bodies at commands pilots k →
    Rowing bodies₀ (set (set bodies (at + 2 * k) commands) (at + 2 * k + 1) pilots) at commands pilots (k + 1)
one_more {bodies₀} {bodies} {at} {commands} {pilots} {k} h r = record {
  long = simp length-set r.long;
  bytes =
      let n : at + 2 * (k + 1) ≡ at + 2 * k + 2 = omega arith in
      rw (n, two_stored bodies (at + 2 * k) commands pilots (omega (arith, r.long)), r.bytes, add-one k, rows_more k commands pilots, append_assoc);
}

pub all_stored : {bodies₀ bodies : List ℕ} {at commands pilots k count : ℕ} → k ≡ count → Rowing bodies₀ bodies at commands pilots k →
    Appended (at + 2 * count) bodies bodies₀ at (rows_bytes count commands pilots)
all_stored {at} {commands} {pilots} {count} e r =
    record { place = ap (λ (n : ℕ). at + n) (sym (rows_length count commands pilots)); long = r.long; bytes = λ _. rw (← e) r.bytes }

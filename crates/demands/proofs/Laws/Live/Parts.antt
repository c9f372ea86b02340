-- Some rows of a part after others: how many they are, and that each is the row that stands there in all of it.
-- Assumes nothing.
use Rattle.std.specs.Prelude.{ℕ, zero, suc, ◌+◌, ◌*◌, ◌%◌, ◌≤◌, ◌<◌, ◌≡◌, refl, false, List, [], ◌∷◌, ◌++◌, length, take, get_or}
use Rattle.std.proofs.Common.{sym, ap, ◌∙◌, arith, ltb-false, get_or-take, length-take-le}
use Rattle.constants.specs.Sizes.{row_bytes}
use Rattle.row_values.specs.Rows.{row_at, whole_rows, is_cut, rows_offered}
use Rattle.row_values.proofs.Laws.Rows.{same_row, whole_append, cut_append, offered_whole}

-- the bytes are those of all of it
front : (xs ys : List ℕ) (n q : ℕ) → q < length xs + n → get_or (xs ++ ys) q 0 ≡ get_or (xs ++ take n ys) q 0
front [] ys n q l = sym (get_or-take n ys q 0 (omega arith))
front (x ∷ xs) ys n zero l = refl
front (x ∷ xs) ys n (suc q) l = front xs ys n q (omega arith)

module _ (rows more : List ℕ) (whole : is_cut rows ≡ false) (m : ℕ) (few : m ≤ whole_rows more) where
  abbrev pub accepted_part : List ℕ
  accepted_part = rows ++ take (row_bytes * m) more

  size : length rows ≡ row_bytes * whole_rows rows
  size = omega (arith, ltb-false 0 (length rows % row_bytes) whole)

  some : (whole_rows (take (row_bytes * m) more) ≡ m) × (is_cut (take (row_bytes * m) more) ≡ false) × (rows_offered (take (row_bytes * m) more) ≡ m)
  some = offered_whole (take (row_bytes * m) more) m (length-take-le (row_bytes * m) more (omega arith))

  pub part_count : whole_rows accepted_part ≡ whole_rows rows + m
  part_count = whole_append rows _ whole ∙ ap (λ (k : ℕ). whole_rows rows + k) some.0

  pub part_uncut : is_cut accepted_part ≡ false
  part_uncut = cut_append rows _ whole ∙ some.1

  pub part_row : (k : ℕ) → k < whole_rows rows + m → row_at (rows ++ more) k ≡ row_at accepted_part k
  part_row k l = same_row (rows ++ more) accepted_part k k (λ i b. front rows more (row_bytes * m) (row_bytes * k + i) (omega (arith, size)))

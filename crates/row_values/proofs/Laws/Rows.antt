-- The laws of rows as values: parts of rows one after the other, and a part inside another.
-- Assumes nothing.
use Rattle.std.specs.Prelude.{ℕ, zero, suc, ◌+◌, ◌*◌, ◌%◌, ◌≤◌, ◌<◌, ◌≡◌, refl, Bool, true, false, List, ◌∷◌, ◌++◌, ltb, length, get_or, take, drop}
use Rattle.std.proofs.Common.{sym, ap, ap₂, ◌∙◌, add-zero, arith, lt-ltb, le-ltb, ltb-false, length-append, length-drop, get_or-append-add, get_or-take, get_or-drop, length-take-le}
use Rattle.std.proofs.Math.ListN.{get_or-append}
use Rattle.ground.proofs.Laws.Choice.{if_true}
use Rattle.constants.specs.Sizes.{row_bytes}
use Rattle.row_values.specs.declared.Row.{Row}
use Rattle.row_values.specs.Rows.{row_at, whole_rows, is_cut, with_cut, rows_offered, rows_from, rows_in, row_read}

-- ---- one row

-- a row by its bytes
pub same_row : (xs ys : List ℕ) (k j : ℕ) →
    ((i : ℕ) → i < row_bytes → get_or xs (row_bytes * k + i) 0 ≡ get_or ys (row_bytes * j + i) 0) → row_at xs k ≡ row_at ys j
same_row xs ys k j e =
    ap₂ (λ (c p : ℕ). record { commands = c; pilots = p })
    (ap (λ (i : ℕ). get_or xs i 0) (sym (add-zero (row_bytes * k))) ∙ e 0 (omega arith) ∙ ap (λ (i : ℕ). get_or ys i 0) (add-zero (row_bytes * j)))
    (e 1 (omega arith))

-- row k of a part that has it
pub row_read_lem : (bytes : List ℕ) (k : ℕ) → k < whole_rows bytes → row_read bytes k ≡ row_at bytes k
unfolding row_read
row_read_lem bytes k h = sym (if_true _ _ (lt-ltb k (whole_rows bytes) h))

-- ---- some rows

pub rows_length : (bytes : List ℕ) (left k : ℕ) → length (rows_from bytes left k) ≡ left
unfolding rows_from
rows_length bytes zero k = refl
rows_length bytes (suc left) k = ap suc (rows_length bytes left (k + 1))

-- rows that are alike one by one
pub rows_alike : (xs ys : List ℕ) (left k j : ℕ) → ((i : ℕ) → i < left → row_at xs (k + i) ≡ row_at ys (j + i)) →
    rows_from xs left k ≡ rows_from ys left j
unfolding rows_from
rows_alike xs ys zero k j e = refl
rows_alike xs ys (suc left) k j e =
    ap₂ (λ (r : Row) (l : List Row). r ∷ l)
    (ap (row_at xs) (sym (add-zero k)) ∙ e 0 (omega arith) ∙ ap (row_at ys) (add-zero j))
    (rows_alike xs ys left (k + 1) (j + 1) (λ i l.
    let m : k + 1 + i ≡ k + suc i = omega arith in
    let n : j + 1 + i ≡ j + suc i = omega arith in
    rw (m, n) (e (suc i) (omega arith))))

-- the first of them, then the others
pub rows_split : (bytes : List ℕ) (a b k : ℕ) → rows_from bytes (a + b) k ≡ rows_from bytes a k ++ rows_from bytes b (k + a)
unfolding rows_from
rows_split bytes zero b k = let m : 0 + b ≡ b = omega arith in let n : k + 0 ≡ k = omega arith in rw (m, n)
rows_split bytes (suc a) b k =
    let m : suc a + b ≡ suc (a + b) = omega arith in
    let n : k + suc a ≡ k + 1 + a = omega arith in
    rw (m, n) (ap (λ (l : List Row). row_at bytes k ∷ l) (rows_split bytes a b (k + 1)))

-- ---- a part after another, and inside another

module _ (xs ys : List ℕ) (whole : is_cut xs ≡ false) where
  size : length xs ≡ row_bytes * whole_rows xs
  size = omega (arith, ltb-false 0 (length xs % row_bytes) whole)

  pub first_row : (k : ℕ) → k < whole_rows xs → row_at (xs ++ ys) k ≡ row_at xs k
  first_row k h = same_row (xs ++ ys) xs k k (λ i l. get_or-append xs ys 0 (row_bytes * k + i) (omega arith))

  second_row : (k : ℕ) → row_at (xs ++ ys) (whole_rows xs + k) ≡ row_at ys k
  second_row k =
      same_row (xs ++ ys) ys (whole_rows xs + k) k (λ i l.
      let e : row_bytes * (whole_rows xs + k) + i ≡ length xs + (row_bytes * k + i) = omega (arith, size) in
      ap (λ (n : ℕ). get_or (xs ++ ys) n 0) e ∙ get_or-append-add xs ys (row_bytes * k + i) 0)

  pub whole_append : whole_rows (xs ++ ys) ≡ whole_rows xs + whole_rows ys
  whole_append = let e = length-append xs ys in omega (arith, size)

  pub rows_after_lem : rows_from (xs ++ ys) (whole_rows ys) (whole_rows xs) ≡ rows_in ys
  rows_after_lem =
      rows_alike (xs ++ ys) ys (whole_rows ys) (whole_rows xs) 0 (λ i l.
      let e : whole_rows xs + i ≡ whole_rows xs + (0 + i) = omega arith in rw e (second_row (0 + i)))

  -- a part of whole rows, then another
  pub rows_append : rows_in (xs ++ ys) ≡ rows_in xs ++ rows_in ys
  rows_append =
      ap (λ (n : ℕ). rows_from (xs ++ ys) n 0) whole_append
      ∙ rows_split (xs ++ ys) (whole_rows xs) (whole_rows ys) 0
      ∙ ap₂ (λ (l m : List Row). l ++ m)
      (rows_alike (xs ++ ys) xs (whole_rows xs) 0 0 (λ i l. first_row (0 + i) (omega arith)))
      (let e : 0 + whole_rows xs ≡ whole_rows xs = omega arith in rw e rows_after_lem)

  pub cut_append : is_cut (xs ++ ys) ≡ is_cut ys
  cut_append =
      let e = length-append xs ys in
      let m : length (xs ++ ys) % row_bytes ≡ length ys % row_bytes = omega (arith, size) in
      ap (λ (n : ℕ). ltb 0 n) m

-- so many rows from row k on, as a part of their own
pub rows_part_lem : (bytes : List ℕ) (k n : ℕ) → k + n ≤ whole_rows bytes →
    rows_in (take (row_bytes * n) (drop (row_bytes * k) bytes)) ≡ rows_from bytes n k
rows_part_lem bytes k n h =
    ap (λ (m : ℕ). rows_from part m 0) size
    ∙ rows_alike part bytes n 0 k (λ i l. same_row part bytes (0 + i) (k + i) (λ j m.
    let e : row_bytes * k + (row_bytes * (0 + i) + j) ≡ row_bytes * (k + i) + j = omega arith in
    get_or-take (row_bytes * n) (drop (row_bytes * k) bytes) (row_bytes * (0 + i) + j) 0 (omega arith)
    ∙ get_or-drop (row_bytes * k) bytes (row_bytes * (0 + i) + j) 0 ∙ ap (λ (x : ℕ). get_or bytes x 0) e))
  where
    part : List ℕ
    part = take (row_bytes * n) (drop (row_bytes * k) bytes)

    size : whole_rows part ≡ n
    size =
        let e = length-drop (row_bytes * k) bytes in
        let l : row_bytes * n ≤ length (drop (row_bytes * k) bytes) = omega arith in
        omega (arith, length-take-le (row_bytes * n) (drop (row_bytes * k) bytes) l)

-- ---- how many rows are offered

-- as many as are whole, and one more where bytes are left over
pub offered_at : (bytes : List ℕ) (cut : Bool) → is_cut bytes ≡ cut → rows_offered bytes ≡ with_cut (whole_rows bytes) cut
unfolding rows_offered
offered_at bytes cut e = ap (with_cut (whole_rows bytes)) e

pub with_cut_lem : (n : ℕ) (cut : Bool) → n ≤ with_cut n cut
unfolding with_cut
with_cut_lem n true = omega arith
with_cut_lem n false = omega arith

-- a part of whole rows
pub offered_whole : (bytes : List ℕ) (n : ℕ) → length bytes ≡ row_bytes * n → (whole_rows bytes ≡ n) × (is_cut bytes ≡ false) × (rows_offered bytes ≡ n)
unfolding rows_offered with_cut
offered_whole bytes n e =
    let c : is_cut bytes ≡ false = le-ltb 0 (length bytes % row_bytes) (omega arith) in
    let w : whole_rows bytes ≡ n = omega arith in
    (w, c, rw (c, w))

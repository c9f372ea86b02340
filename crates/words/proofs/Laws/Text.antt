-- The laws of lines and of words: the first of them, and what is left after it.
-- Assumes nothing.
pub mod Examples
pub mod Searching
use Prim.Native.Nat.{ℕ, suc, ◌+◌, ◌-◌, ◌≤◌, ◌<◌}
use Rattle.std.specs.Prelude.{◌≡◌, refl, ◌↔◌, Bool, false, ◌&&◌, eqb, ltb, leb, get_or}
use Rattle.std.proofs.Math.Path.{sym, ap, ap₂}
use Rattle.std.proofs.Common.{◌∙◌, ltb-false, eq-eqb, eqb-true, drop_of_length-le, drop-drop, take-take}
use Rattle.std.proofs.Math.Bool.{true, not, and-false}
use mathlib.Core.List.{List, [], ◌∷◌}
use Rattle.std.proofs.Math.Nat.{add-zero}
use native.Mathlib.Omega.{arith}
use Rattle.std.proofs.lemmas.Bool.{not-true}
use Rattle.std.proofs.Math.Dec.{leb-suc-suc, leb-suc-zero}
use Rattle.std.proofs.Math.ListN.{length, take, drop, length-drop, length-take}
use Rattle.std.proofs.Math.Seq.{get_or-drop, length-take-le}
use Rattle.ground.specs.Choice.{when◌then◌else◌}
use Rattle.ground.proofs.Laws.Choice.{clash, if_false, both}
use Rattle.words.specs.Text.{pushed, first_of, lines_of, before, uncommented, first_line, line_at}
use Rattle.words.specs.Text.{blank, words_of, word_at, same}
use Rattle.words.specs.Text.Parts.{is, line_bytes}
use Rattle.words.proofs.Laws.Text.Searching.{before_most, before_there}

-- ---- lines

-- the first line of a text that has a byte, and those after its line feed
abbrev First : List ℕ → Type 0
First text = lines_of text ≡ take (line_bytes text) text ∷ lines_of (drop (suc (before (is 10) text)) text)

pub first_line_lem : (b : ℕ) (rest : List ℕ) → First (b ∷ rest)
unfolding lines_of line_bytes before
first_line_lem b [] = by (eqb b 10) refl
  where
    by : (t : Bool) → eqb b 10 ≡ t → First (b ∷ [])
    by true p = rw p
    by false p = rw (p, and-false (eqb b 13))
first_line_lem b (c ∷ more) = by (eqb b 10) (eqb b 13 && eqb c 10) refl refl (first_line_lem c more)
  where
    by : (t u : Bool) → eqb b 10 ≡ t → (eqb b 13 && eqb c 10) ≡ u → First (c ∷ more) → First (b ∷ c ∷ more)
    by true u p q later = rw p
    by false true p q later = rw (p, q, (both (eqb b 13) (eqb c 10) q).1)
    by false false p q later = rw (p, q, later)

-- its bytes end before a line feed, or before a carriage return that stands there
abbrev size_by : (size feed last : ℕ) → ℕ
size_by size feed last = when leb size feed then feed else when leb feed 0 then feed else when eqb last 13 then feed - 1 else feed

size_suc : (size feed last : ℕ) → suc (size_by size (suc feed) last) ≡ size_by (suc size) (suc (suc feed)) last
size_suc size feed last =
    rw (leb-suc-suc size (suc feed), leb-suc-zero feed, leb-suc-zero (suc feed)) (by (leb size (suc feed)) (eqb last 13))
  where
    by : (t u : Bool) →
        suc (when t then suc feed else when u then suc feed - 1 else suc feed) ≡ (when t then suc (suc feed) else when u then suc (suc feed) - 1 else suc (suc feed))
    by true u = refl
    by false true = omega arith
    by false false = refl

one_less : (n : ℕ) → suc n - 1 ≡ n
one_less n = omega arith

abbrev Size : List ℕ → Type 0
Size text = line_bytes text ≡ size_by (length text) (before (is 10) text) (get_or text (before (is 10) text - 1) 0)

pub line_size : (text : List ℕ) → Size text
unfolding line_bytes before
line_size [] = refl
line_size (b ∷ []) = by (eqb b 10) refl
  where
    by : (t : Bool) → eqb b 10 ≡ t → Size (b ∷ [])
    by true p = rw p
    by false p = rw (p, and-false (eqb b 13))
line_size (b ∷ c ∷ more) = by (eqb b 10) (eqb c 10) (eqb b 13) refl refl refl (line_size (c ∷ more))
  where
    by : (t u v : Bool) → eqb b 10 ≡ t → eqb c 10 ≡ u → eqb b 13 ≡ v → Size (c ∷ more) → Size (b ∷ c ∷ more)
    by true u v p q r later = rw (p, leb-suc-zero (suc (length more)))
    by false true true p q r later = rw (p, q, r, leb-suc-suc (suc (length more)) 0, leb-suc-zero (length more))
    by false true false p q r later = rw (p, q, r, leb-suc-suc (suc (length more)) 0, leb-suc-zero (length more))
    by false false v p q r later =
        let m = before (is 10) more in
        let last : get_or (c ∷ more) (suc m - 1) 0 ≡ get_or (b ∷ c ∷ more) (suc (suc m) - 1) 0 = rw (one_less m, one_less (suc m)) in
        rw (p, q, and-false (eqb b 13))
        (ap suc (rw q at later) ∙ size_suc (suc (length more)) m (get_or (c ∷ more) (suc m - 1) 0) ∙ ap (size_by (suc (suc (length more))) (suc (suc m))) last)

-- the first line is the first bytes of its text
pub first_bytes : (text : List ℕ) → first_line text ≡ take (line_bytes text) text
unfolding first_line lines_of line_bytes
first_bytes [] = refl
first_bytes (b ∷ rest) = ap first_of (first_line_lem b rest)

lines_after : (text : List ℕ) → 0 < length text → lines_of text ≡ first_line text ∷ lines_of (drop (suc (before (is 10) text)) text)
unfolding first_line
lines_after [] h = absurd (let z : ⊥ = omega arith in z)
lines_after (b ∷ rest) h =
    let e = first_line_lem b rest in
    e ∙ ap (λ (l : List ℕ). l ∷ lines_of (drop (suc (before (is 10) (b ∷ rest))) (b ∷ rest))) (sym (ap first_of e))

module _ (text : List ℕ) (at : ℕ) where
  -- no line starts at the end of a text
  pub lines_none : length text ≤ at → lines_of (drop at text) ≡ []
  unfolding lines_of
  lines_none h = rw (drop_of_length-le text h)

  -- before the end one does, and the others start where it says
  pub lines_next : at < length text → lines_of (drop at text) ≡ first_line (drop at text) ∷ lines_of (drop (line_at text at).next text)
  unfolding line_at
  lines_next h = lines_after (drop at text) (omega (arith, length-drop at text)) ∙ ap (λ (l : List ℕ). first_line (drop at text) ∷ lines_of l) rest
    where
      stop : ℕ
      stop = at + before (is 10) (drop at text)

      by : (t : Bool) → ltb stop (length text) ≡ t → drop (suc stop) text ≡ drop (when t then suc stop else stop) text
      by true p = refl
      by false p =
          let l = ltb-false stop (length text) p in
          drop_of_length-le text {i = suc stop} (omega arith) ∙ sym (drop_of_length-le text l)

      rest : drop (suc (before (is 10) (drop at text))) (drop at text) ≡ drop (when ltb stop (length text) then suc stop else stop) text
      rest =
          let e : at + suc (before (is 10) (drop at text)) ≡ suc stop = omega arith in
          drop-drop (suc (before (is 10) (drop at text))) at text ∙ ap (λ (n : ℕ). drop n text) e ∙ by (ltb stop (length text)) refl

  -- the bytes of its words: what a part of the text from its start to its end is
  pub line_bytes_lem : take ((line_at text at).end - at) (drop at text) ≡ uncommented (first_line (drop at text))
  unfolding line_at
  line_bytes_lem =
      let s = drop at text in
      let line = first_line s in
      let u = before (is 35) line in
      let h = before_most (is 35) line in
      let n : length (take u line) ≡ u = length-take-le u line h in
      let m : at + length (take u line) - at ≡ u = omega arith in
      let l : u ≤ line_bytes s = omega (arith, ap length (first_bytes s), length-take (line_bytes s) s) in
      ap (λ (k : ℕ). take k s) m ∙ sym (take-take u (line_bytes s) s l) ∙ ap (take u) (sym (first_bytes s))

-- ---- words

-- blanks before a word are passed over
blanks : (line : List ℕ) → words_of line ≡ words_of (drop (before (λ (b : ℕ). not (blank b)) line) line)
unfolding words_of before
blanks [] = refl
blanks (b ∷ rest) = by (blank b) refl (blanks rest)
  where
    n : ℕ
    n = before (λ (b : ℕ). not (blank b)) rest

    by : (t : Bool) → blank b ≡ t → words_of rest ≡ words_of (drop n rest) → words_of (b ∷ rest) ≡ words_of (drop (when not t then 0 else suc n) (b ∷ rest))
    by true p later = rw p later
    by false p later = refl

-- a word ends at the next of them
first_word : (b : ℕ) (rest : List ℕ) → blank b ≡ false →
    words_of (b ∷ rest) ≡ take (suc (before blank rest)) (b ∷ rest) ∷ words_of (drop (suc (before blank rest)) (b ∷ rest))
unfolding words_of before
first_word b [] p = rw p
first_word b (c ∷ more) p = rw p (by (blank c) (first_word c more))
  where
    n : ℕ
    n = before blank more

    by : (t : Bool) → (t ≡ false → words_of (c ∷ more) ≡ take (suc n) (c ∷ more) ∷ words_of (drop (suc n) (c ∷ more))) →
        (when t then (b ∷ []) ∷ words_of (c ∷ more) else pushed b (words_of (c ∷ more)))
        ≡ take (suc (when t then 0 else suc n)) (b ∷ c ∷ more) ∷ words_of (drop (suc (when t then 0 else suc n)) (b ∷ c ∷ more))
    by true later = refl
    by false later = ap (pushed b) (later refl)

word_of : (line : List ℕ) → 0 < length line → blank (get_or line 0 0) ≡ false →
    words_of line ≡ take (before blank line) line ∷ words_of (drop (before blank line) line)
unfolding before
word_of [] h p = absurd (let z : ⊥ = omega arith in z)
word_of (b ∷ rest) h p = rw (← if_false 0 (suc (before blank rest)) p) (first_word b rest p)

module _ (line : List ℕ) (at : ℕ) where
  words_begin : words_of (drop at line) ≡ words_of (drop (word_at line at).begin line)
  unfolding word_at
  words_begin = blanks (drop at line) ∙ ap words_of (drop-drop (before (λ (b : ℕ). not (blank b)) (drop at line)) at line)

  -- no word is left
  pub words_none : length line ≤ (word_at line at).begin → words_of (drop at line) ≡ []
  unfolding words_of
  words_none h = words_begin ∙ rw (drop_of_length-le line h)

  -- one is, and the others follow it
  pub words_next : (word_at line at).begin < length line →
      words_of (drop at line)
      ≡ take ((word_at line at).end - (word_at line at).begin) (drop (word_at line at).begin line) ∷ words_of (drop (word_at line at).end line)
  unfolding word_at
  words_next h =
      let n = before (λ (b : ℕ). not (blank b)) (drop at line) in
      let s = drop (at + n) line in
      let m = before blank s in
      let p : not (blank (get_or s 0 0)) ≡ true =
      rw (get_or-drop (at + n) line 0 0, add-zero (at + n), ← get_or-drop at line n 0)
      (before_there (λ (b : ℕ). not (blank b)) (drop at line) (omega (arith, length-drop at line))) in
      let e : m ≡ at + n + m - (at + n) = omega arith in
      words_begin ∙ word_of s (omega (arith, length-drop (at + n) line)) (not-true (blank (get_or s 0 0)) p)
      ∙ ap₂ (λ (k : ℕ) (l : List ℕ). take k s ∷ words_of l) e (drop-drop m (at + n) line)

-- ---- two words

-- two words are one exactly where every byte is
pub same_exactly : (a b : List ℕ) → same a b ≡ true ↔ a ≡ b
unfolding same
same_exactly a b = (one a b, λ e. rw (← e) (own a))
  where
    own : (a : List ℕ) → same a a ≡ true
    own [] = refl
    own (x ∷ rest) = rw (eq-eqb x x refl) (own rest)

    one : (a b : List ℕ) → same a b ≡ true → a ≡ b
    one [] [] e = refl
    one [] (y ∷ others) e = absurd (clash e refl)
    one (x ∷ rest) [] e = absurd (clash e refl)
    one (x ∷ rest) (y ∷ others) e =
        let w = both (eqb x y) (same rest others) e in
        ap₂ (λ (n : ℕ) (l : List ℕ). n ∷ l) (eqb-true x y w.0) (one rest others w.1)

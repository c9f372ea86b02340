-- What the code of a text meets on its way: where the bytes of a line end, and two words byte by byte.
-- Assumes nothing.
use Prim.Native.Nat.{ℕ, suc, ◌+◌, ◌-◌, min, ◌≤◌, ◌<◌}
use Rattle.std.proofs.Math.Path.{◌≡◌, refl, sym, ap, ◌∙◌}
use Rattle.std.proofs.Math.Bool.{Bool, true, false, not, ◌&&◌, ◌||◌}
use mathlib.Core.List.{List, [], ◌∷◌}
use Rattle.std.proofs.Math.Nat.{add-zero, zero-add}
use native.Mathlib.Omega.{arith}
use borrow.Author.Tests.{ltb-true, ltb-false, le-ltb, le-leb, lt-leb, eq-eqb, ne_eqb}
use Rattle.std.proofs.Math.Dec.{ltb, eqb, eqb-suc-suc}
use Rattle.std.specs.List.{list_any}
use Rattle.std.specs.Cmp.Lexicographic.{pointwise}
use Rattle.std.specs.Bool.{nat_eq}
use Rattle.std.proofs.Math.ListN.{length, take, drop, get_or, length-drop, length-take, drop_of_length-le}
use Rattle.std.proofs.Math.Seq.{get_or-drop, length-take-le}
use Rattle.ground.specs.Choice.{when◌then◌else◌}
use Rattle.ground.proofs.Laws.Choice.{either}
use Rattle.words.specs.declared.Line.{Line}
use Rattle.words.specs.Text.{goes_on, lines_of, before, uncommented, first_line, clear, line_at, LineTold, blank, word_at, WordTold, same}
use Rattle.words.specs.Text.Parts.{is, Found, line_bytes}
use Rattle.words.proofs.Laws.Text.Searching.{before_most}
use Rattle.words.proofs.Laws.Text.{line_size, first_bytes}

-- ---- where the bytes of a line end

module _ (text : List ℕ) (at feed : ℕ) (f : Found (is 10) text at feed) where
  pub end_open : length text ≤ feed → feed ≡ at + line_bytes (drop at text)
  end_open h =
      let e = before (is 10) (drop at text) in
      rw (line_size (drop at text), le-leb (length (drop at text)) e (omega (arith, length-drop at text, f.here))) f.here

  module _ (h : feed < length text) where
    pub end_empty : feed ≤ at → feed ≡ at + line_bytes (drop at text)
    end_empty l =
        let e = before (is 10) (drop at text) in
        rw (
          line_size (drop at text),
          lt-leb (length (drop at text)) e (omega (arith, length-drop at text, f.here)),
          le-leb e 0 (omega (arith, f.here)),
        ) f.here

    last : at < feed → get_or (drop at text) (before (is 10) (drop at text) - 1) 0 ≡ get_or text (feed - 1) 0
    last l =
        let e = before (is 10) (drop at text) in
        let i : at + (e - 1) ≡ feed - 1 = omega (arith, f.here) in
        rw (get_or-drop at text (e - 1) 0, i)

    pub end_return : at < feed → get_or text (feed - 1) 0 ≡ 13 → feed - 1 ≡ at + line_bytes (drop at text)
    end_return l r =
        let e = before (is 10) (drop at text) in
        rw (
          line_size (drop at text),
          lt-leb (length (drop at text)) e (omega (arith, length-drop at text, f.here)),
          lt-leb e 0 (omega (arith, f.here)),
          last l,
          eq-eqb (get_or text (feed - 1) 0) 13 r,
        ) (omega (arith, f.here))

    pub end_plain : at < feed → (get_or text (feed - 1) 0 ≡ 13 → ⊥) → feed ≡ at + line_bytes (drop at text)
    end_plain l r =
        let e = before (is 10) (drop at text) in
        rw (
          line_size (drop at text),
          lt-leb (length (drop at text)) e (omega (arith, length-drop at text, f.here)),
          lt-leb e 0 (omega (arith, f.here)),
          last l,
          ne_eqb (get_or text (feed - 1) 0) 13 r,
        ) f.here

-- no later than the text
pub line_most : (text : List ℕ) → line_bytes text ≤ length text
unfolding line_bytes
line_most [] = omega arith
line_most (b ∷ rest) =
    let h = line_most rest in
    either (λ (n : ℕ). n ≤ suc (length rest)) (eqb b 10) (λ _. omega arith)
    (λ _. either (λ (n : ℕ). n ≤ suc (length rest)) (eqb b 13 && goes_on 10 rest) (λ _. omega arith) (λ _. omega arith))

-- ---- what is promised of a line and of a word

pub line_none : (text : List ℕ) (at : ℕ) → length text ≤ at → LineTold text at (record { end = at; next = at; clear = true })
unfolding line_at first_line lines_of before
line_none text at h =
    record {
      is = rw (drop_of_length-le text h, add-zero at, le-ltb at (length text) h);
      begins = omega arith;
      ends = λ l. l;
      goes_on = λ l. let z : ⊥ = omega arith in absurd z;
      inside = λ l. l;
    }

made : {a b c d : ℕ} {t u : Bool} → a ≡ c → b ≡ d → t ≡ u → ◌≡◌ {A = Line} (record { end = a; next = b; clear = t }) (record { end = c; next = d; clear = u })
made p q r = rw (p, q, r)

-- no carriage return is in a line
clear_is : (line : List ℕ) → not (list_any (λ (b : ℕ). eqb b 13) line) ≡ clear line
unfolding before
clear_is [] = refl
clear_is (b ∷ rest) = by (eqb b 13) (clear_is rest)
  where
    by : (t : Bool) → not (list_any (λ (b : ℕ). eqb b 13) rest) ≡ clear rest →
        not (t || list_any (λ (b : ℕ). eqb b 13) rest) ≡ eqb (when t then 0 else suc (before (is 13) rest)) (suc (length rest))
    by true e = sym (ne_eqb 0 (suc (length rest)) (λ z. omega arith))
    by false e = e ∙ sym (eqb-suc-suc (before (is 13) rest) (length rest))

next_is : (size feed : ℕ) → feed ≤ size → min size (feed + 1) ≡ (when ltb feed size then suc feed else feed)
next_is size feed h =
    either (λ (n : ℕ). min size (feed + 1) ≡ n) (ltb feed size) (λ e. omega (arith, ltb-true feed size e)) (λ e. omega (arith, ltb-false feed size e))

module _ (text : List ℕ) (at : ℕ) {feed end comment : ℕ} {clears : Bool} (h : at < length text) (f : Found (is 10) text at feed)
    (e : end ≡ at + line_bytes (drop at text)) (g : Found (is 35) (take (end - at) (drop at text)) 0 comment)
    (r : clears ≡ list_any (λ (b : ℕ). eqb b 13) (take (end - at) (drop at text))) where
  bytes_line : take (end - at) (drop at text) ≡ first_line (drop at text)
  bytes_line =
      let m : end - at ≡ line_bytes (drop at text) = omega arith in
      rw m (sym (first_bytes (drop at text)))

  comment_is : comment ≡ length (uncommented (first_line (drop at text)))
  comment_is =
      let l = first_line (drop at text) in
      rw bytes_line at g.here ∙ zero-add (before (is 35) l) ∙ sym (length-take-le (before (is 35) l) l (before_most (is 35) l))

  pub line_told : {next : ℕ} → next ≡ min (length text) (feed + 1) → LineTold text at (record { end = at + comment; next = next; clear = not clears })
  unfolding line_at
  line_told {next} n =
      let s = drop at text in
      let c = g.inside (omega arith) in
      let l = f.inside (omega arith) in
      let b = f.from in
      let size = length text in
      record {
        is = made (ap (λ (k : ℕ). at + k) comment_is) (n ∙ next_is size feed l ∙ ap (λ (k : ℕ). when ltb k size then suc k else k) f.here)
            (ap not (r ∙ ap (list_any (λ (b : ℕ). eqb b 13)) bytes_line) ∙ clear_is (first_line s));
        begins = omega arith;
        ends = λ _. omega (arith, length-take (end - at) s, length-drop at text);
        goes_on = λ _. omega arith;
        inside = λ _. omega arith;
      }

pub word_told : (line : List ℕ) (at : ℕ) {begin end : ℕ} → Found (λ (b : ℕ). not (blank b)) line at begin → Found blank line begin end →
    WordTold line at (record { begin = begin; end = end })
unfolding word_at
word_told line at f g =
    record {
      is = rw (← f.here, ← g.here);
      from = f.from;
      forward = g.from;
      inside = λ h. g.inside (f.inside h);
    }

-- ---- two words

-- byte by byte, until one differs or one of the two ends
pub same_is : (a b : List ℕ) → pointwise nat_eq a b ≡ same a b
unfolding same
same_is [] [] = refl
same_is [] (y ∷ others) = refl
same_is (x ∷ rest) [] = refl
same_is (x ∷ rest) (y ∷ others) = ap (λ (t : Bool). eqb x y && t) (same_is rest others)

-- What the code of the numbers of a line meets on its way: a word as a number, and each turn of the loop over words.
-- Assumes nothing.
use Prim.Native.Nat.{ℕ, zero, suc, ◌+◌, ◌-◌, ◌≤◌, ◌<◌, min}
use Rattle.std.proofs.Math.Path.{◌≡◌, refl, sym, ap, ◌∙◌}
use Rattle.std.proofs.Math.Bool.{Bool, true, not, ◌&&◌, and-true, and_assoc}
use mathlib.Core.List.{List, [], ◌∷◌, append-nil}
use Rattle.std.proofs.Math.Numerals.{add-one}
use native.Mathlib.Omega.{arith}
use borrow.Author.Tests.{ltb-true, ltb-false}
use Rattle.std.proofs.Math.Dec.{ltb}
use Rattle.std.specs.Prelude.{ℤ, pos, Some, None, Option}
use Rattle.std.proofs.Common.{int_eq}
use Rattle.std.specs.Option.{is_some, option_eq, option_flatten, unwrap_or}
use mir.Val.{bool_byte}
use Rattle.std.proofs.Math.ListN.{length, take, drop, set, replicate, drop_of_length-le}
use Rattle.std.proofs.Math.Seq.{sets, sets-eq}
use Rattle.ground.proofs.Laws.Choice.{either}
use Rattle.ground.proofs.Laws.Lists.{left_none}
use Rattle.words.specs.declared.Word.{Word}
use Rattle.words.specs.declared.Turn.{Turn}
use Rattle.words.specs.declared.Numbers.{Numbers}
use Rattle.words.specs.Text.{first_of, words_of, WordTold, number_of, value_in, is_number, values_of, numeric, numbers_of}
use Rattle.words.specs.Text.Parts.{other_words, first_number, TurnTold}
use Rattle.words.proofs.Laws.Text.{words_none, words_next}

-- ---- a word

module _ (line : List ℕ) (at : ℕ) {w : Word} (t : WordTold line at w) (h : at ≤ length line) where
  pub turn_none : length line ≤ w.begin → TurnTold line at (record { number = None; next = w.end })
  unfolding words_of
  turn_none l =
      let f = t.forward in
      let z : words_of (drop at line) ≡ [] = words_none line at (rw t.is at l) in
      let o : words_of (drop w.end line) ≡ [] = rw (drop_of_length-le line {i = w.end} (omega arith)) in
      record { number = rw z; others = rw (z, o); inside = t.inside h }

  pub turn_one : w.begin < length line → {x : Option ℤ} → x ≡ number_of (take (w.end - w.begin) (drop w.begin line)) →
      TurnTold line at (record { number = Some x; next = w.end })
  turn_one l {x} p =
      let word = take (w.end - w.begin) (drop w.begin line) in
      let e : words_of (drop at line) ≡ word ∷ words_of (drop w.end line) = rw t.is (words_next line at (rw t.is at l)) in
      record { number = rw (e, p); others = rw e; inside = t.inside h }

-- ---- what a word adds: its number, or 0; whether it is not none; and one, where it is there

value_of_number : (x : Option ℤ) → unwrap_or x (pos 0) ≡ value_in x
value_of_number (Some z) = refl
value_of_number (None) = refl

value_told : (words : List (List ℕ)) → unwrap_or (option_flatten (first_number words)) (pos 0) ≡ value_in (number_of (first_of words))
unfolding number_of
value_told [] = refl
value_told (word ∷ rest) = value_of_number (number_of word)

good_number : (x : Option ℤ) → not (option_eq int_eq x None) ≡ is_number x
good_number (Some z) = refl
good_number (None) = refl

good_told : (words : List (List ℕ)) → not (option_eq (option_eq int_eq) (first_number words) (Some None)) ≡ numeric 1 words
unfolding numeric
good_told [] = refl
good_told (word ∷ rest) = good_number (number_of word) ∙ sym (and-true (is_number (number_of word)))

count_told : (words : List (List ℕ)) → bool_byte (is_some (first_number words)) ≡ min 1 (length words)
count_told [] = refl
count_told (word ∷ rest) = omega arith

-- ---- words in turn

values_first : (n : ℕ) (words : List (List ℕ)) → values_of (suc n) words ≡ value_in (number_of (first_of words)) ∷ values_of n (other_words words)
unfolding values_of number_of
values_first n [] = refl
values_first n (word ∷ rest) = refl

numeric_first : (n : ℕ) (words : List (List ℕ)) → numeric (suc n) words ≡ numeric 1 words && numeric n (other_words words)
unfolding numeric
numeric_first zero [] = refl
numeric_first (suc n) [] = refl
numeric_first n (word ∷ rest) = rw (and-true (is_number (number_of word)))

others_length : (words : List (List ℕ)) → length (other_words words) ≡ length words - 1
others_length [] = refl
others_length (word ∷ rest) = omega arith

values_length : (n : ℕ) (words : List (List ℕ)) → length (values_of n words) ≡ n
unfolding values_of
values_length zero words = refl
values_length (suc n) [] = ap suc (values_length n [])
values_length (suc n) (word ∷ rest) = ap suc (values_length n rest)

-- the numbers so far and the words that are left
pub record Going (line : List ℕ) (values : List ℤ) (count : ℕ) (all : Bool) (at k : ℕ) : Type 0 where
  pub turns : k ≤ 9
  pub inside : at ≤ length line
  pub stored : sets values k (values_of (9 - k) (words_of (drop at line))) ≡ values_of 9 (words_of line)
  pub each : all && numeric (9 - k) (words_of (drop at line)) ≡ numeric 9 (words_of line)
  pub counted : count ≡ min k (length (words_of line))
  pub left : length (words_of (drop at line)) ≡ length (words_of line) - k

pub going_start : (line : List ℕ) → Going line (replicate 9 (pos 0)) 0 true 0 0
going_start line =
    let vs = values_of 9 (words_of line) in
    let n = values_length 9 (words_of line) in
    let z : drop (0 + length vs) (replicate 9 (pos 0)) ≡ [] = drop_of_length-le (replicate 9 (pos 0)) {i = 0 + length vs} (omega arith) in
    record {
      turns = omega arith;
      inside = omega arith;
      stored = sets-eq vs (replicate 9 (pos 0)) 0 (omega arith) ∙ rw z (append-nil vs);
      each = refl;
      counted = omega arith;
      left = omega arith;
    }

made : {a b : ℕ} {t u : Bool} {x y : List ℤ} → a ≡ b → t ≡ u → x ≡ y →
    ◌≡◌ {A = Numbers} (record { count = a; all = t; values = x }) (record { count = b; all = u; values = y })
made p q r = rw (p, q, r)

module _ {line : List ℕ} {values : List ℤ} {count : ℕ} {all : Bool} {at k : ℕ} (g : Going line values count all at k) {t : Turn} (u : TurnTold line at t) where
  pub going_on : k < 9 → {y : ℤ} {n : ℕ} {b : Bool} → y ≡ unwrap_or (option_flatten t.number) (pos 0) → n ≡ bool_byte (is_some t.number) →
      b ≡ not (option_eq (option_eq int_eq) t.number (Some None)) → Going line (set values k y) (count + n) (all && b) t.next (k + 1)
  going_on h e f d =
      let words = words_of (drop at line) in
      let a = g.counted in
      let b = g.left in
      let c = rw u.number at f ∙ count_told words in
      record {
        turns = omega arith;
        inside = u.inside;
        stored =
            rw (e, u.number, value_told words, u.others, add-one k)
            (ap (sets values k) (sym (values_first (9 - suc k) words) ∙ ap (λ (n : ℕ). values_of n words) (omega arith)) ∙ g.stored);
        each =
            rw (d, u.number, good_told words, u.others, and_assoc)
            (ap (λ (b : Bool). all && b) (sym (numeric_first (9 - (k + 1)) words) ∙ ap (λ (n : ℕ). numeric n words) (omega arith)) ∙ g.each);
        counted = omega arith;
        left = ap length u.others ∙ others_length words ∙ omega arith;
      }

  pub gone : 9 ≤ k → {n : ℕ} → n ≡ bool_byte (is_some t.number) → ◌≡◌ {A = Numbers} (record { count = count + n; all = all; values = values }) (numbers_of (words_of line))
  unfolding numbers_of values_of numeric
  gone h {n} f =
      let words = length (words_of line) in
      let z = left_none 9 k h in
      let a = g.counted in
      let b = g.left in
      let c = rw u.number at f ∙ count_told (words_of (drop at line)) in
      let d = g.turns in
      let more : count + n ≡ (numbers_of (words_of line)).count =
      either (λ (m : ℕ). count + n ≡ m) (ltb 9 words) (λ e. omega (arith, ltb-true 9 words e)) (λ e. omega (arith, ltb-false 9 words e)) in
      made more (sym (and-true all) ∙ (rw z at g.each)) (rw z at g.stored)

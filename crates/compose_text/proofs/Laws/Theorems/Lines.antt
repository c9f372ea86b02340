-- The number that a reading names is that of one of its lines, or one more than the last.
-- Assumes nothing.
use Rattle.std.specs.Prelude.{ℕ, suc, ◌+◌, ◌≤◌, ◌≡◌, not, List, [], ◌∷◌, ltb, length}
use Rattle.std.proofs.Common.{arith}
use Rattle.ground.proofs.Laws.Choice.{either}
use Rattle.words.specs.Text.{clear, uncommented, words_of}
use Rattle.compose_lines.specs.Lines.{item_of}
use Rattle.compose_text.specs.Composing.{Progress, Advance, to, none, advanced, Read, all, unreadable, closed, gone, read_from}

-- the number that is named is one of these
record Named (least most : ℕ) (read : Read) : Type 0 where
  named : {n : ℕ} → read ≡ unreadable n → (least ≤ n) × (n ≤ most)

pub same_line : {m n : ℕ} → ◌≡◌ {A = Read} (unreadable m) (unreadable n) → m ≡ n
same_line e = cc

pub never : {p : Progress} {n : ℕ} → all p ≡ unreadable n → ⊥
never e = let z : ◌≡◌ {A = ℕ} 0 1 = cc in omega arith

here : (line most : ℕ) → line ≤ most → Named line most (unreadable line)
here line most h = record { named = λ e. let k = same_line e in (omega arith, omega arith) }

later : {least least' most most' : ℕ} {read : Read} → least ≤ least' → most' ≤ most → Named least' most' read → Named least most read
later h k n = record { named = λ e. let b = n.named e in (omega (arith, b.0), omega (arith, b.1)) }

on_gone : {least most : ℕ} (a : Advance) (line : ℕ) (next : Progress → Read) → Named least most (unreadable line) →
    ((p : Progress) → Named least most (next p)) → Named least most (gone a line next)
on_gone (to p) line next h f = f p
on_gone (none) line next h f = h

named_from : (p : Progress) (line : ℕ) (lines : List (List ℕ)) → Named line (line + length lines) (read_from p line lines)
unfolding read_from closed
named_from p line [] =
    either (Named line (line + 0)) (ltb 1 p.stage) (λ _. record { named = λ e. absurd (never e) }) (λ _. here line (line + 0) (omega arith))
named_from p line (l ∷ rest) =
    let end = line + suc (length rest) in
    either (Named line end) (not (clear l)) (λ _. here line end (omega arith))
    (λ _. on_gone (advanced p (item_of (words_of (uncommented l)))) line (λ next. read_from next (line + 1) rest) (here line end (omega arith))
    (λ next. later (omega arith) (omega arith) (named_from next (line + 1) rest)))

pub numbered_from : (p : Progress) (line : ℕ) (lines : List (List ℕ)) {n : ℕ} → read_from p line lines ≡ unreadable n →
    (line ≤ n) × (n ≤ line + length lines)
numbered_from p line lines e = (named_from p line lines).named e

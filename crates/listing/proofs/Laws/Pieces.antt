-- How many rows a piece has, and that each piece is what its case says.
-- Assumes nothing.
use Rattle.std.specs.Prelude.{ℕ, ◌+◌, ◌*◌, ◌≤◌, ◌≡◌, ◌↔◌, List, ltb, length}
use Rattle.std.proofs.Math.Path.{sym}
use Rattle.std.proofs.Common.{ap, subst, arith, ltb-true, ltb-false, lt-ltb, le-ltb}
use Rattle.ground.proofs.Laws.OnAnswers.{one_answer}
use Rattle.ground.proofs.Laws.Choice.{either, if_true, if_false}
use Rattle.constants.specs.Sizes.{line_room, piece_least, piece_rows}
use Rattle.listing.specs.declared.Stand.{Stand}
use Rattle.listing.specs.Pieces.{Written}
use Rattle.listing.specs.Pieces.{rows_at_once, Made, made, piece_of, PieceSays, PieceTold}

-- some, where some are left
pub some_left : (left size : ℕ) → piece_least ≤ size → 1 ≤ left → 1 ≤ rows_at_once left size
unfolding rows_at_once
some_left left size h l = omega arith

-- no more than are left
pub no_more : (left size : ℕ) → rows_at_once left size ≤ left
unfolding rows_at_once
no_more left size = omega arith

-- no more than have room, with a last line after them
pub room_left : (left size : ℕ) → piece_least ≤ size → line_room * rows_at_once left size + line_room ≤ size
unfolding rows_at_once
room_left left size h = omega arith

-- and no more than the most
pub at_most : (left size : ℕ) → rows_at_once left size ≤ piece_rows
unfolding rows_at_once
at_most left size = omega arith

-- ---- what each case says

module _ (job : List ℕ) (stand : Stand) (out : List ℕ) where
  abbrev Says : Made → Type 0
  Says m = PieceSays job stand out m.result m.out

  piece_says : Says (piece_of job stand out)
  unfolding piece_of
  piece_says = either Says (ltb (length out) piece_least) (λ e. PieceSays.short (ltb-true _ _ e)) (λ e. PieceSays.text (ltb-false _ _ e))

  piece_said : {answer : Written} {after : List ℕ} → PieceSays job stand out answer after → piece_of job stand out ≡ made answer after
  unfolding piece_of
  piece_said (PieceSays.short h) = sym (if_true _ _ (lt-ltb (length out) piece_least h))
  piece_said (PieceSays.text h) = sym (if_false _ _ (le-ltb (length out) piece_least h))

  pub piece_exactly : (answer : Written) (after : List ℕ) → piece_of job stand out ≡ made answer after ↔ PieceSays job stand out answer after
  piece_exactly answer after = (λ e. subst Says e piece_says, piece_said)

  -- so that a piece says what it promises, and no other is promised
  pub piece_told : {answer : Written} {after : List ℕ} → made answer after ≡ piece_of job stand out → PieceTold job stand out answer after
  piece_told {answer} {after} e = record { is = e; says = (piece_exactly answer after).0 (sym e) }

  pub one_piece : {r t : Written} {o p : List ℕ} → PieceTold job stand out r o → PieceTold job stand out t p → (r ≡ t) × (o ≡ p)
  one_piece a b = let q = one_answer a.is b.is in (ap (λ (m : Made). m.result) q, ap (λ (m : Made). m.out) q)

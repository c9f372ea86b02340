-- What the proofs share: fields as the code finds them, room for lines, and the turns of the loop over rows.
-- Assumes nothing.
use Prim.Native.Nat.{ℕ, zero, suc, ◌+◌, ◌-◌, ◌*◌, ◌≤◌, ◌<◌}
use mathlib.Core.Path.{◌≡◌, refl, sym, ◌∙◌}
use mathlib.Core.Bool.{Bool, true, false, not, ◌&&◌, ◌||◌}
use mathlib.Core.List.{List}
use native.Mathlib.Omega.{arith}
use borrow.Author.Tests.{lt-ltb, le-ltb, leb-true}
use Rattle.std.specs.Bool.{then_some}
use lib.Dec.{leb}
use lib.IntN.{ℤ, pos, negsuc}
use lib.ListN.{length}
use lib.Signed.{lt_z}
use Rattle.constants.specs.Sizes.{line_room}
use Rattle.row_values.specs.Answers.{answer_read, answers_from, whole_answers}
use Rattle.row_values.proofs.Laws.OnAnswers.{next_answer, no_answer_left}
use Rattle.listing_rules.specs.Text.{field, line, lines, placed}
use Rattle.listing_rules.proofs.Laws.Text.{placed_there}
use Rattle.listing_text.specs.declared.Pen.{Pen}
use Rattle.listing_text.specs.Asks.{Adds, AddsLines, field_of}
use Rattle.listing_text.proofs.Pens.{joined, nothing}

-- ---- room for lines

-- the test of it was met, and the text that is stored is placed
pub has_room : (size at lines : ℕ) {b : Bool} → b ≡ leb (at + line_room * lines) size → b ≡ true → at + line_room * lines ≤ size
has_room size at lines e h = leb-true _ _ (sym e ∙ h)

pub all_placed : {p q : Pen} (lines : ℕ) (text : List ℕ) {b : Bool} → b ≡ leb (p.at + line_room * lines) (length p.out.now) → b ≡ true →
    Adds p q text → AddsLines p q lines text
all_placed {p} lines text e h w = rw (placed_there lines (length p.out.now) p.at text (has_room (length p.out.now) p.at lines e h)) w

-- or it was not, and nothing is stored
pub no_room : (p : Pen) (lines : ℕ) (text : List ℕ) {b : Bool} → b ≡ leb (p.at + line_room * lines) (length p.out.now) → b ≡ false →
    AddsLines p p lines text
unfolding placed
no_room p lines text e h = rw (sym e ∙ h) (nothing p)

-- ---- a field

-- a row that is sent is none in a gap
sent_row : (state : ℤ) → lt_z (pos 0) state ≡ not (lt_z state (pos 1))
sent_row (pos zero) = refl
sent_row (pos (suc n)) = rw (lt-ltb 0 (suc n) (omega arith), le-ltb (suc n) 1 (omega arith))
sent_row (negsuc n) = refl

-- a number that is shown where a test says so
shown : (absent : Bool) (x : ℤ) → field_of (then_some (not absent) x) ≡ field absent x
unfolding field
shown true x = refl
shown false x = refl

pub power_shown : (state x : ℤ) → field_of (then_some (lt_z (pos 0) state) x) ≡ field (lt_z state (pos 1)) x
power_shown state x = rw (sent_row state) (shown (lt_z state (pos 1)) x)

-- and data power only where data are carried
pub data_shown : (state : ℤ) (sends : Bool) (x : ℤ) → field_of (then_some (lt_z (pos 0) state && sends) x) ≡ field (lt_z state (pos 1) || not sends) x
data_shown state sends x = rw (sent_row state) (both (lt_z state (pos 1)) sends)
  where
    both : (gap sends : Bool) → field_of (then_some (not gap && sends) x) ≡ field (gap || not sends) x
    both true sends = shown true x
    both false true = shown false x
    both false false = shown true x

-- ---- a row after another

-- the k-th line is stored, then the lines after it: all lines from the k-th on are
pub next_line : (sends : Bool) (row k : ℕ) (l : List ℤ) {p q r : Pen} → k < whole_answers l → Adds p q (line sends (row + k) (answer_read l k)) →
    Adds q r (lines sends (row + (k + 1)) (answers_from l (whole_answers l - (k + 1)) (k + 1))) →
    Adds p r (lines sends (row + k) (answers_from l (whole_answers l - k) k))
unfolding lines
next_line sends row k l h w rest =
    let e : row + k + 1 ≡ row + (k + 1) = omega arith in
    rw (next_answer l k h, e) (joined w rest)

-- no line is left after the last
pub last_line : (sends : Bool) (row k : ℕ) (l : List ℤ) (p : Pen) → whole_answers l ≤ k →
    Adds p p (lines sends row (answers_from l (whole_answers l - k) k))
unfolding lines
last_line sends row k l p h = rw (no_answer_left l k h) (nothing p)

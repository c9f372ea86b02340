-- What a pen has stored: one text after another, nothing, and how much room is left.
-- Assumes nothing.
use Rattle.std.specs.Prelude.{ℕ, ◌+◌, ◌≤◌, ◌≡◌, List, [], ◌++◌, length}
use Rattle.std.proofs.Common.{refl, sym, ◌∙◌, arith, append_assoc}
use Rattle.std.proofs.Math.Seq.{length-sets}
use Rattle.std.proofs.lemmas.List.{take-append-drop}
use Rattle.std.proofs.lemmas.List.Edits.{sets, sets-eq}
use Rattle.std.proofs.lemmas.Slice.{take-put_mid, drop-put_mid}
use borrow.Rule.Slice.PartMut.{put_mid}
use Rattle.listing_rules.proofs.Laws.Text.{decimal_length, ends, joined as wrote_both, nothing as wrote_nothing}
use Rattle.listing_text.specs.declared.Pen.{Pen}
use Rattle.listing_text.specs.Asks.{Adds}

-- bytes that are copied into their room are stored
pub part_stored : (l vs : List ℕ) (i k : ℕ) → k ≡ length vs → i + length vs ≤ length l → put_mid i k l vs ≡ sets l i vs
part_stored l vs i k e h =
    let a : i ≤ length l = omega arith in
    sym (take-append-drop (i + length vs) (put_mid i k l vs)) ∙
    rw (take-put_mid i k l vs (i + length vs) refl a, drop-put_mid i k l vs (i + length vs) (omega arith) a (sym e), sets-eq vs l i h) (simp append_assoc)

-- one text, then another
pub joined : {p q r : Pen} {s t : List ℕ} → Adds p q s → Adds q r t → Adds p r (s ++ t)
joined a b = record { buffer = b.buffer ∙ a.buffer; wrote = wrote_both a.wrote b.wrote }

-- no text
pub nothing : (p : Pen) → Adds p p []
nothing p = record { buffer = refl; wrote = wrote_nothing _ _ }

-- the buffer keeps its length
pub same_size : {p q : Pen} {s : List ℕ} → Adds p q s → length q.out.now ≡ length p.out.now
same_size {p} {q} {s} a = rw a.wrote.bytes (length-sets p.out.now p.at s)

-- where a pen stands after a text, and that the buffer is as long as before
pub ruleset room = (ends, same_size, decimal_length)

-- What the exported functions that write say of twelve bytes that are put into lent ones.
-- Assumes nothing.
use Rattle.std.proofs.Common.{Err}
use Prim.Native.Nat.{ℕ, ◌≤◌, ◌<◌}
use mathlib.Core.Path.{◌≡◌, sym, ap, ◌∙◌}
use mathlib.Core.List.{List, ◌++◌}
use native.Mathlib.Nat.{zero-add}
use native.Mathlib.Omega.{arith}
use borrow.Author.Tests.{lt-ltb, le-ltb}
use lib.ListN.{length, drop}
use lib.Seq.{sets, sets-eq}
use Rattle.ground.proofs.Laws.Choice.{if_true, if_false}
use Rattle.ground.specs.declared.Refusal.{Refusal}
use Rattle.constants.specs.Refusals.{refusal, short_bytes}
use Rattle.job_writer.specs.Writing.{ended, placed}
use Rattle.exports.specs.Writes.{PartTold, part_told, part_by}

abbrev part_of : Refusal → List ℕ → PartTold
part_of r out = record { refusal = r; out = out }

-- ---- a part that is put into lent bytes

module _ (part out : List ℕ) where
  pub part_short : {size : ℕ} → length part ≡ size → length out < size → part_told short_bytes size out ≡ part_by (placed part out)
  unfolding placed
  part_short twelve h =
      ap (λ (n : ℕ). part_by (ended (Err (refusal short_bytes n)) out)) (sym twelve)
      ∙ ap part_by (if_true _ _ (lt-ltb (length out) (length part) (omega (arith, twelve))))

  pub part_put : length part ≡ 12 → 12 ≤ length out → {after : List ℕ} → after ≡ part → part_told 0 0 (after ++ drop 12 out) ≡ part_by (placed part out)
  unfolding placed
  part_put twelve h {after} e =
      let there : sets out 0 part ≡ part ++ drop (length part) out =
      sets-eq part out 0 (omega arith) ∙ ap (λ (n : ℕ). part ++ drop n out) (zero-add (length part)) in
      let stored : after ++ drop 12 out ≡ sets out 0 part =
      ap (λ (l : List ℕ). l ++ drop 12 out) e ∙ ap (λ (n : ℕ). part ++ drop n out) (sym twelve) ∙ sym there in
      ap (λ (l : List ℕ). part_told 0 0 l) stored ∙ ap part_by (if_false _ _ (le-ltb (length out) (length part) (omega arith)))

-- its refusal, by its number and its place
pub put_told : {n p : ℕ} {r : Refusal} (out : List ℕ) {x : PartTold} → refusal n p ≡ r → part_of r out ≡ x → part_told n p out ≡ x
put_told out a h = ap (λ (r : Refusal). part_of r out) a ∙ h

-- The answers that a call of a live test leaves are those of rows of one test: what is proved of every test holds of them.
-- Assumes nothing.
use Rattle.std.specs.Prelude.{ℕ, ◌+◌, ◌*◌, ◌<◌, ◌≡◌, List, ℤ}
use Rattle.std.proofs.Common.{sym, ap, ◌∙◌, arith}
use Rattle.std.proofs.Math.Path.{subst}
use Rattle.constants.specs.Sizes.{answer_numbers}
use Rattle.power.specs.declared.Triple.{Triple}
use Rattle.row_values.specs.declared.Answer.{Answer}
use Rattle.row_values.specs.Rows.{whole_rows}
use Rattle.row_values.specs.Answers.{answer_from}
use Rattle.row_rules.specs.History.{History, Accepted, answer_at}
use Rattle.exports.specs.Steps.{Lent}
use Rattle.demands.specs.Rows.{row_triple, part_rows, Test, history, part_test}
use Rattle.demands.proofs.Laws.Rows.{answer_at_lem, same_rows}
use Rattle.demands.specs.Live.{accepted_in, rows_then, LiveSaid, answer_left, OnAnswersLeft}
use Rattle.demands.proofs.Laws.Live.Calls.{call}
use Rattle.demands.proofs.Laws.Live.Parts.{part_count}

module _ {job rows : List ℕ} {st : Lent} (l : LiveSaid job rows st) (more : List ℕ) (out : List ℤ) where
  abbrev m : ℕ
  m = accepted_in job rows st more out

  abbrev kept : List ℕ
  kept = rows_then job rows st more out

  -- all rows accepted so far, with those of the call
  test : Test job
  test =
      let said = (call l more out).0 in
      part_test l.taken kept said.few (subst (λ (h : History). Accepted h (whole_rows kept)) (same_rows said.taken l.taken kept) said.accepted)

  its_answer : (k : ℕ) → k < m → answer_left l more out k ≡ answer_at (part_rows l.taken kept) (whole_rows rows + k)
  its_answer k q =
      ap (λ (o : List ℤ). answer_from o (answer_numbers * k)) (call l more out).1 ∙ answer_at_lem (part_rows l.taken kept) (whole_rows rows) m _ k q

  pub on_answers : (P : History → Triple → ℕ → Answer → Type 0) →
      ((t : Test job) (k : ℕ) → k < t.n → P (history t) (row_triple t.taken k) k (answer_at (history t) k)) → OnAnswersLeft l more out P
  unfolding test
  on_answers P all k q =
      let i = whole_rows rows + k in
      subst (P (part_rows l.taken kept) (row_triple l.taken i) i) (sym (its_answer k q))
      (all test i (omega (arith, part_count rows more l.whole m (call l more out).2)))

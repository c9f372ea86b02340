-- The books of a test's rows, proved, and that they allow one answer.
-- Assumes nothing.
use Rattle.std.specs.Prelude.{ℕ, suc, ◌≤◌, ◌<◌, ◌≡◌, refl, Bool, true, false, List, ℤ, ◌+ℤ◌, ◌-ℤ◌}
use Rattle.std.proofs.Common.{sym, ap, subst, ◌∙◌, arith}
use Rattle.ground.proofs.Laws.OnAnswers.{one_answer}
use Rattle.power.specs.Gain.{gain_bracket}
use Rattle.gap_slots.specs.Slots.{opens_uplink}
use Rattle.row_values.specs.declared.Answer.{Answer}
use Rattle.row_values.specs.Answers.{numbers, answer_from}
use Rattle.row_rules.specs.History.{History, state_at, answer_at, change_on, reached, withheld}
use Rattle.row_rules.specs.Theorems.{Largest}
use Rattle.row_rules.proofs.Laws.Theorems.All.{theorems}
use Rattle.demands.specs.Rows.{row_triple, Test, history}
use Rattle.demands.specs.Demand2.{RowSaid}
use Rattle.demands.proofs.Laws.Demand2.Said.{named, row_said_lem, same_command, same_state, same_data}
use Rattle.demands.specs.Demand3.{Balanced}

-- ---- two answers with the same eight numbers are one

same_numbers : {x y : Answer} → x.state ≡ y.state → x.command ≡ y.command → x.dpcch ≡ y.dpcch → x.dpdch ≡ y.dpdch → x.total ≡ y.total →
    x.held ≡ y.held → x.uplink ≡ y.uplink → x.downlink ≡ y.downlink → x ≡ y
same_numbers {x} {y} a b c d e f g h =
    let n : numbers x ≡ numbers y = rw (a, b, c, d, e, f, g, h) in
    ap (λ (l : List ℤ). answer_from l 0) n

module _ {job : List ℕ} (t : Test job) where
  abbrev h : History
  h = history t

  -- what an answer names as withheld is what the history withholds
  held_is : (k : ℕ) → k < t.n → (answer_at h k).held ≡ withheld h (suc k)
  held_is k l = by (opens_uplink (h.slot k)) refl
    where
      by : (up : Bool) → opens_uplink (h.slot k) ≡ up → (answer_at h k).held ≡ withheld h (suc k)
      by true u = (theorems.gap h t.accepted k l u).held
      by false u = (theorems.sent h t.accepted k l u).held

  pub books : (k : ℕ) → k < t.n → Balanced h k (answer_at h k)
  books k l =
      record {
        withheld = subst (Largest h (suc k)) (sym (held_is k l)) (theorems.held h (suc k));
        control = λ u. (theorems.sent h t.accepted k l u).control ∙ ap (λ (z : ℤ). reached h (suc k) -ℤ z) (sym (held_is k l));
        limited = λ u. (theorems.sent h t.accepted k l u).limited;
        maximum = λ u. (theorems.of_triple h t.accepted k l u (row_triple t.taken k) refl).total;
      }

  pub kept : (k : ℕ) → k ≤ t.n → ((state_at h k).power ≡ reached h k -ℤ (state_at h k).held) × Largest h k (state_at h k).held
  kept k l =
      let q = theorems.books h t.accepted k l in
      (q.control ∙ ap (λ (z : ℤ). reached h k -ℤ z) (sym q.held), subst (Largest h k) (sym q.held) (theorems.held h k))

  pub same_amount : (i k : ℕ) → i < t.n → k < t.n → opens_uplink (h.slot i) ≡ false → opens_uplink (h.slot k) ≡ false → 1 ≤ (row_triple t.taken k).betad →
      (answer_at h i).dpdch -ℤ (answer_at h i).dpcch ≡ (answer_at h k).dpdch -ℤ (answer_at h k).dpcch
  same_amount i k l m u v d =
      let b = row_triple t.taken k in
      (theorems.of_triple h t.accepted i l u b refl).data_power d ∙ sym ((theorems.of_triple h t.accepted k m v b refl).data_power d)

  -- ---- one answer

  pub one_row : (k : ℕ) → k < t.n → (x : Answer) → RowSaid h (row_triple t.taken k) k x → Balanced h k x → x ≡ answer_at h k
  one_row k l x r y = by (opens_uplink (h.slot k)) refl
    where
      z : Answer
      z = answer_at h k

      held : x.held ≡ z.held
      held = theorems.one_held h (suc k) y.withheld (books k l).withheld

      uplink : x.uplink ≡ z.uplink
      uplink = one_answer r.uplink (row_said_lem t k l).uplink

      downlink : x.downlink ≡ z.downlink
      downlink = one_answer r.downlink (row_said_lem t k l).downlink

      by : (up : Bool) → opens_uplink (h.slot k) ≡ up → x ≡ z
      by true u =
          let p = r.gap u in
          let q = (row_said_lem t k l).gap u in
          same_numbers (one_answer p.state q.state) (same_command h k p.command q.command) (one_answer p.control q.control)
          (one_answer p.data_power q.data_power) (one_answer p.total q.total) held uplink downlink
      by false u =
          let c = (named t k (omega arith)).change u in
          let p = r.sent u (change_on h k) c in
          let q = (row_said_lem t k l).sent u (change_on h k) c in
          let control = one_answer p.control q.control in
          same_numbers (same_state p q) (same_command h k p.command q.command) control (same_data p q control)
          (p.total ∙ ap (λ (v : ℤ). v +ℤ gain_bracket (row_triple t.taken k)) control ∙ sym q.total) held uplink downlink

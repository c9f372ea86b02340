-- A run under way: what its loop meets at each turn.
-- Assumes nothing.
use Rattle.std.proofs.Common.{ℕ, suc, ◌+◌, ◌-◌, ◌*◌, ◌%◌, ◌≤◌, ◌<◌, ◌≡◌, refl, sym, subst, ◌∙◌, List, [], ◌∷◌, arith, ℤ, length, Ok, Err}
use borrow.Author.Tests.{lt-ltb, le-ltb}
use Rattle.ground.specs.declared.Refusal.{Refusal}
use Rattle.ground.proofs.Laws.Lists.{left_suc, left_none}
use Rattle.constants.specs.Sizes.{row_bytes, answer_numbers}
use Rattle.constants.specs.Refusals.{refusal, wrong_row}
use Rattle.gap_slots.specs.declared.Slot.{Slot}
use Rattle.gap_frames.specs.declared.Window.{Window}
use Rattle.gap_frames.specs.declared.Taken.{Taken}
use Rattle.gap_frames.specs.Windows.{taken_of}
use Rattle.gap_frames.specs.Kept.{Kept}
use Rattle.gap_frames.proofs.Laws.Windows.{taken_rest}
use Rattle.power.specs.declared.Gain.{Gain}
use Rattle.job_settings.specs.declared.Settings.{Settings}
use Rattle.row_state.specs.declared.State.{State}
use Rattle.row_state.specs.States.{StateIn}
use Rattle.row_values.specs.declared.Answer.{Answer}
use Rattle.row_values.specs.Rows.{whole_rows, is_cut, rows_offered, rows_from, row_read}
use Rattle.row_values.proofs.Laws.Rows.{row_read_lem, offered_at, with_cut_lem}
use Rattle.row_values.specs.Answers.{all_numbers, whole_answers, answer_put}
use Rattle.row_rules.specs.declared.Ran.{Ran}
use Rattle.row_rules.specs.Ranges.{InRanges}
use Rattle.row_rules.specs.Rules.{row_of}
use Rattle.row_rules.proofs.Laws.Rules.{row_closed, row_counted, on_taken}
use Rattle.row_rules.specs.Runs.{go, closing, go_over, ended, written}
use Rattle.row.specs.Asks.{Running}

-- the run from its start is the run from here over the rows that are left
pub record Turn (s : Settings) (g : Gain) (slots : ℕ → Slot) (rows : List ℕ) (out₀ : List ℤ) (st₀ : State) (out : List ℤ) (st : State) (k : ℕ) : Type 0 where
  pub at : k ≤ whole_rows rows
  pub long : length out ≡ length out₀
  pub row_is : st.row ≡ st₀.row + k
  pub state : StateIn s.links g.ceiling st
  pub is : written out₀ 0 (go_over s g slots st₀ rows) ≡
      written out (answer_numbers * k) (go s g slots st (rows_from rows (whole_rows rows - k) k) (is_cut rows))

-- the row of a turn, then those of the turns after it; and none after the last turn
next_row : (rows : List ℕ) (k : ℕ) → k < whole_rows rows →
    rows_from rows (whole_rows rows - k) k ≡ row_read rows k ∷ rows_from rows (whole_rows rows - (k + 1)) (k + 1)
unfolding rows_from
next_row rows k h = rw (left_suc (whole_rows rows) k h, row_read_lem rows k h)

no_row_left : (rows : List ℕ) (k : ℕ) → whole_rows rows ≤ k → rows_from rows (whole_rows rows - k) k ≡ []
unfolding rows_from
no_row_left rows k h = rw (left_none (whole_rows rows) k h)

one_more : (k : ℕ) → answer_numbers * (k + 1) ≡ suc (suc (suc (suc (suc (suc (suc (suc (answer_numbers * k))))))))
one_more k = omega arith

module _ {s : Settings} {g : Gain} {rows : List ℕ} {out₀ : List ℤ} {st₀ : State} (h : Running s g st₀ rows out₀) where
  -- no more whole rows than are offered
  pub whole : whole_rows rows ≤ rows_offered rows
  whole = rw (offered_at rows (is_cut rows) refl) (with_cut_lem (whole_rows rows) (is_cut rows))

  pub begun : {slots : ℕ → Slot} → Turn s g slots rows out₀ st₀ out₀ st₀ 0
  begun =
      let z : whole_rows rows - 0 ≡ whole_rows rows = omega arith in
      record { at = omega arith; long = refl; row_is = omega arith; state = h.state; is = rw z }

  module _ {slots : ℕ → Slot} {out : List ℤ} {st : State} {k : ℕ} (r : Turn s g slots rows out₀ st₀ out st k) where
    pub fine : k < whole_rows rows → InRanges s g st
    fine l = record { settings = h.settings; gain = h.gain; state = r.state; room = omega (arith, h.few, r.row_is, whole) }

    -- a row that is taken, and one that is refused
    module _ (l : k < whole_rows rows) where
      room : k < whole_answers out
      room = omega (arith, h.space, r.long, whole)

      pub turned : {next : State} {a : Answer} {out' : List ℤ} → row_of s g (slots st.row) st (row_read rows k) ≡ Ok (next, a) →
          length out' ≡ length out₀ → out' ≡ answer_put out k a → Turn s g slots rows out₀ st₀ out' next (k + 1)
      unfolding go all_numbers answer_put
      turned {next} {a} {out'} e n o =
          let slot = slots st.row in
          let counted : next.row ≡ st.row + 1 = on_taken (λ q b. q.row ≡ st.row + 1) e (row_counted s g slot st (row_read rows k)) in
          record {
            at = omega arith;
            long = n;
            row_is = omega (arith, counted, r.row_is);
            state = on_taken (λ q b. StateIn s.links g.ceiling q) e (row_closed slot (row_read rows k) (fine l));
            is = r.is ∙ rw (next_row rows k l, e, o, lt-ltb k (whole_answers out) room, one_more);
          }

      pub stopped : {x : Refusal} → row_of s g (slots st.row) st (row_read rows k) ≡ Err x →
          ended (Ran.Stopped st x) out ≡ written out₀ 0 (go_over s g slots st₀ rows)
      unfolding go all_numbers
      stopped e = sym (r.is ∙ rw (next_row rows k l, e))

    -- after the last row, where bytes are left over and where none are
    module _ (l : whole_rows rows ≤ k) where
      pub cut_short : 0 < length rows % row_bytes → ended (Ran.Stopped st (refusal wrong_row st.row)) out ≡ written out₀ 0 (go_over s g slots st₀ rows)
      unfolding go closing all_numbers
      cut_short o = sym (r.is ∙ rw (no_row_left rows k l, lt-ltb 0 (length rows % row_bytes) o))

      pub finished : length rows % row_bytes ≤ 0 → ended (Ran.Done st) out ≡ written out₀ 0 (go_over s g slots st₀ rows)
      unfolding go closing all_numbers
      finished o = sym (r.is ∙ rw (no_row_left rows k l, le-ltb 0 (length rows % row_bytes) o))

-- what is left of the slots read ahead tells those from the next row on
pub read_on : {records : List ℕ} {row next : ℕ} {w : Window} {t : Taken} → Kept records row w → t ≡ taken_of records w row → next ≡ row + 1 →
    Kept records next t.rest
read_on {records} {row} {t = t} k e f =
    subst (λ (n : ℕ). Kept records n t.rest) (sym f) (subst (λ (u : Taken). Kept records (row + 1) u.rest) (sym e) (taken_rest k))

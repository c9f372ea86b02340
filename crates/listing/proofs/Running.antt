-- The run of some rows: where they lie in the file, what their run answers, and that there is room to show them.
-- Assumes nothing.
use Rattle.std.proofs.Common.{Option}
use Prim.Native.Nat.{ℕ, ◌+◌, ◌-◌, ◌*◌, ◌≤◌}
use mathlib.Core.Path.{◌≡◌, refl, sym, ◌∙◌, ap, ap₂, subst}
use mathlib.Core.Bool.{Bool, false}
use mathlib.Core.List.{List, ◌++◌}
use native.Mathlib.Omega.{arith}
use lib.IntN.{ℤ}
use lib.ListN.{length, take, drop, length-append, length-drop}
use lib.Seq.{drop-drop, length-take-le, take_all}
use Rattle.ground.specs.declared.Refusal.{Refusal}
use Rattle.ground.proofs.Laws.Choice.{if_true, if_false}
use Rattle.constants.specs.Sizes.{row_bytes, rows_most, answer_numbers, line_room, piece_least, piece_rows}
use Rattle.gap_slots.specs.Slots.{slot_at}
use Rattle.job_settings.specs.declared.Settings.{Settings}
use Rattle.row_state.specs.declared.State.{State}
use Rattle.row_values.specs.declared.Row.{Row}
use Rattle.row_values.specs.declared.Answer.{Answer}
use Rattle.row_values.specs.Rows.{with_cut, rows_offered, rows_from, rows_in}
use Rattle.row_values.proofs.Laws.Rows.{offered_whole, rows_length, rows_part_lem}
use Rattle.row_values.specs.Answers.{all_numbers, answers_from}
use Rattle.row_values.proofs.Laws.OnAnswers.{front_answers, numbers_length}
use Rattle.row_rules.specs.declared.Ran.{Ran}
use Rattle.row_rules.specs.Rules.{admits}
use Rattle.row_rules.specs.Runs.{Rows, go, go_over, Counted, End, ended, written, unless_refused, run_of}
use Rattle.row_rules.proofs.Laws.Runs.{rows_counted, buffer, refusal_cases}
use Rattle.job_contents.specs.declared.Bodies.{Bodies}
use Rattle.job_contents.specs.Contents.{Lies}
use Rattle.job.specs.Load.{gains_body, records_body, rows_body, row_count}
use Rattle.listing.specs.Listing.{job_gain}
use Rattle.listing.specs.Pieces.{listed_rows, rows_at_once, rows_after}
use Rattle.listing.proofs.Laws.Pieces.{no_more, room_left, at_most}
use Rattle.listing.specs.Asks.{Onward, taken_by, rows_taken, rows_bytes, Showing}

-- which rows they are
pub record Chosen (job : List ℕ) (b : Bodies) (out : List ℕ) (row done count : ℕ) : Type 0 where
  pub at_row : done + count ≤ row_count job b
  pub in_rows : count ≤ rows_most - row
  pub in_file : b.rows + row_bytes * done + row_bytes * count ≤ length job
  pub has_numbers : count ≤ piece_rows
  pub room : line_room * count + line_room ≤ length out

pub chosen : {job : List ℕ} {b : Bodies} {out : List ℕ} (row done count : ℕ) → Lies job b → row_count job b ≤ rows_most → piece_least ≤ length out →
    done ≡ listed_rows (row_count job b) row → count ≡ rows_at_once (row_count job b - done) (length out) → Chosen job b out row done count
chosen {job} {b} {out} row done count lies few room d e =
    let m = no_more (row_count job b - done) (length out) in
    record {
      at_row = omega arith;
      in_rows = omega arith;
      in_file = omega (arith, lies.rows);
      has_numbers = omega (arith, at_most (row_count job b - done) (length out));
      room = omega (arith, room_left (row_count job b - done) (length out) room);
    }

-- what a run took, by how far it came
taken_by_lem : {row count : ℕ} (st : State) {answers : List Answer} {x : Ran} → row ≡ st.row → Counted st count answers x →
    Onward row x × (length answers ≡ taken_by row x) × (taken_by row x ≤ count)
unfolding Onward taken_by
taken_by_lem st e (Counted.done n a m r) = (omega arith, omega arith, omega arith)
taken_by_lem st e (Counted.stopped n a m r) = (omega arith, omega arith, omega arith)

module _ (s : Settings) (b : Bodies) (job : List ℕ) (st : State) (numbers : List ℤ) (out : List ℕ) (done count : ℕ) (h : Chosen job b out st.row done count)
    (has : answer_numbers * piece_rows ≤ length numbers) where
  -- ---- their bytes

  abbrev blk : List ℕ
  blk = rows_bytes job b done count

  blk_is : blk ≡ take (row_bytes * count) (drop (row_bytes * done) (rows_body job b))
  blk_is =
      let e : b.rows + row_bytes * done + row_bytes * count - (b.rows + row_bytes * done) ≡ row_bytes * count = omega arith in
      let l = length-drop b.rows job in
      rw (e, take_all (length job - b.rows) (drop b.rows job) (omega arith), drop-drop (row_bytes * done) b.rows job)

  blk_length : length blk ≡ row_bytes * count
  blk_length =
      let e : b.rows + row_bytes * done + row_bytes * count - (b.rows + row_bytes * done) ≡ row_bytes * count = omega arith in
      ap (λ (n : ℕ). length (take n (drop (b.rows + row_bytes * done) job))) e ∙
      length-take-le (row_bytes * count) (drop (b.rows + row_bytes * done) job)
      (rw (length-drop (b.rows + row_bytes * done) job) (omega (arith, h.in_file)))

  -- they are the file's rows
  blk_rows : rows_in blk ≡ rows_from (rows_body job b) count done
  blk_rows =
      let l = length-drop b.rows job in
      let m = take_all (length job - b.rows) (drop b.rows job) (omega arith) in
      ap rows_in blk_is ∙ rows_part_lem (rows_body job b) done count (rw m (omega (arith, h.at_row)))

  -- ---- their run

  abbrev whole : Rows
  whole = go s (job_gain job s b) (slot_at (records_body job b)) st (rows_from (rows_body job b) count done) false

  abbrev over_blk : Rows
  over_blk = go_over s (job_gain job s b) (slot_at (records_body job b)) st blk

  run_is : over_blk ≡ whole
  run_is =
      ap₂ (λ (l : List Row) (c : Bool). go s (job_gain job s b) (slot_at (records_body job b)) st l c) blk_rows
      (offered_whole blk count blk_length).1

  counted : Counted st count whole.answers whole.result
  unfolding with_cut
  counted =
      rw (rows_length (rows_body job b) count done) at
      (rows_counted s (job_gain job s b) (slot_at (records_body job b)) st (rows_from (rows_body job b) count done) false)

  -- what the run promises of its answer and of the buffer says what the lines are made of
  pub record Shows (x : Ran) (left : List ℤ) : Type 0 where
    pub showing : Showing st.row x left out
    pub rows : rows_taken st.row x left ≡ rows_after s b job st done count

  by_run : (r : Rows) → Counted st count r.answers r.result → r ≡ rows_after s b job st done count → (rest : List ℤ) →
      Shows r.result (all_numbers r.answers ++ rest)
  by_run r k e rest =
      let t = taken_by_lem st refl k in
      let n = numbers_length r.answers in
      record {
        showing = record {
          onward = t.0;
          has_numbers = rw (length-append (all_numbers r.answers) rest) (omega (arith, t.1));
          room = omega (arith, t.2, h.room);
        };
        rows = ap (λ (l : List Answer). record { result = r.result; answers = l }) (rw t.1 at (front_answers r.answers rest)) ∙ e;
      }

  pub shows : (x : Ran) (left : List ℤ) → ended x left ≡ run_of s (gains_body job b) (records_body job b) st blk numbers → Shows x left
  unfolding run_of unless_refused rows_after Onward taken_by answers_from
  shows x left =
      let o = (offered_whole blk count blk_length).2 in
      refusal_cases st.row (rows_offered blk) (length numbers) (admits s (gains_body job b) st)
      (λ (r : Option Refusal). ended x left ≡ unless_refused r numbers (written numbers 0 over_blk) → Shows x left)
      (λ many. absurd (let z : ⊥ = omega (arith, h.in_rows) in z))
      (λ _ few. absurd (let z : ⊥ = omega (arith, h.has_numbers) in z))
      (λ _ _ a e.
      let few : answer_numbers * length whole.answers ≤ length numbers = omega (arith, h.has_numbers, taken_by_lem st refl counted) in
      subst (λ (z : End). Shows z.result z.out) (sym (e ∙ ap (written numbers 0) run_is ∙ buffer numbers whole few))
      (by_run whole counted (if_true _ _ a) _))
      (λ _ _ a e.
      subst (λ (z : End). Shows z.result z.out) (sym e)
      (record {
        showing = record { onward = tt; has_numbers = omega arith; room = omega (arith, h.room) };
        rows = if_false _ _ a;
      }))

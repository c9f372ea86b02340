-- One call of a live test: how many of its rows it accepts, what it leaves, and what it tells, exactly.
-- Assumes nothing.
use Rattle.std.specs.Prelude.{ℕ, ◌+◌, ◌*◌, ◌≤◌, ◌<◌, ◌≡◌, ◌↔◌, ◌⊎◌, Bool, true, false, ltb, ℤ, length, take, drop}
use Rattle.std.proofs.Math.Path.{refl, ap, subst}
use Rattle.std.proofs.Common.{sym, ◌∙◌, le_refl, arith, ltb-true, ltb-false}
use Rattle.std.proofs.Math.Logic.{⊎_elim}
use mathlib.Core.List.{List, ◌++◌, append-nil}
use Rattle.ground.specs.declared.Refusal.{Refusal}
use Rattle.constants.specs.Sizes.{row_bytes, rows_most, answer_numbers}
use Rattle.constants.specs.Refusals.{refusal, too_many_rows, wrong_row, power_too_low, short_answers}
use Rattle.row_values.specs.declared.Answer.{Answer}
use Rattle.row_values.specs.Rows.{row_at, whole_rows, is_cut, rows_offered}
use Rattle.row_values.proofs.Laws.Rows.{first_row, whole_append, cut_append, offered_at, with_cut_lem}
use Rattle.row_values.specs.Answers.{all_numbers}
use Rattle.row_rules.specs.declared.Ran.{Ran}
use Rattle.row_rules.specs.Rules.{gain_for}
use Rattle.row_rules.specs.Runs.{Rows, End, ended, then_rest, go_over, refusal_by, OnStopped, run_of}
use Rattle.row_rules.specs.History.{History, Accepted, state_at, stepped_at}
use Rattle.row_rules.specs.Refusing.{HandedOut, RunRefused}
use Rattle.row_rules.specs.Theorems.{answers_of, Ends, GoesOn}
use Rattle.row_rules.proofs.Laws.Theorems.All.{theorems}
use Rattle.job.specs.Load.{records_body}
use Rattle.job.proofs.Laws.Theorems.Taking.{takes}
use Rattle.exports.specs.Steps.{Lent, lent_of, lent_by, NextTold, lent_after, next_of}
use Rattle.exports.proofs.Laws.Steps.{next_after}
use Rattle.demands.specs.Rows.{TakenJob, job_gains, job_slot, part_rows, part_test, RoomAfter, CameTo}
use Rattle.demands.proofs.Laws.Rows.{answers_length, ended_at, stops_at, came_once, same_accepted, same_answers}
use Rattle.demands.specs.Refusals.{NextRowJudged, CallTells}
use Rattle.demands.proofs.Laws.Demand2.Said.{of_row}
use Rattle.demands.specs.Live.{accepted_by, LiveSaid}
use Rattle.demands.proofs.Laws.Live.Parts.{part_count, part_uncut, part_row}

module _ {job rows : List ℕ} {st : Lent} (l : LiveSaid job rows st) (more : List ℕ) (out : List ℤ) where
  abbrev j : TakenJob job
  j = l.taken

  abbrev i : ℕ
  i = whole_rows rows

  abbrev h : History
  h = part_rows j (rows ++ more)

  -- the state of the rows so far, whatever rows come after them
  so_far : Accepted h i
  so_far = same_accepted j (row_at rows) (row_at (rows ++ more)) i (λ k m. sym (first_row rows more l.whole k m)) l.accepted

  same_state : st ≡ lent_of (state_at h i)
  same_state =
      l.state
      ∙ ap lent_of (theorems.state_before j.settings (job_gains j) (records_body job j.bodies) (row_at rows) (row_at (rows ++ more)) i
      (λ k m. sym (first_row rows more l.whole k m)))

  handed : HandedOut j.settings (job_gains j) (state_at h i)
  handed =
      let k = takes job j.is_taken in
      theorems.history_handed j.settings (job_gains j) (records_body job j.bodies) (row_at (rows ++ more)) k.ranged k.triple
      l.few so_far i (le_refl i)

  abbrev after : End
  after = run_of j.settings (job_gains j) (records_body job j.bodies) (state_at h i) more out

  told : next_of job more st out ≡ lent_after (lent_of (state_at h i)) after
  told = ap (λ (x : Lent). next_of job more x out) same_state ∙ next_after job j.is_taken more (state_at h i) out handed.ranged

  -- what is said where m rows were accepted
  abbrev With : ℕ → NextTold → Type 0
  With m t =
      LiveSaid job (rows ++ take (row_bytes * m) more) t.state ×
      (t.out ≡ all_numbers (answers_of (part_rows j (rows ++ take (row_bytes * m) more)) i m) ++ drop (answer_numbers * m) out) ×
      (m ≤ whole_rows more)

  abbrev Goal : NextTold → Type 0
  Goal t = With (accepted_by i (whole_rows more) t.refusal) t

  -- a refusal of the whole call leaves all as it was
  none : (r : Refusal) → accepted_by i (whole_rows more) r ≡ 0 → Goal (lent_after (lent_of (state_at h i)) (ended (Ran.Refused r) out))
  unfolding refusal_by lent_by answers_of all_numbers
  none r e =
      rw e (subst (λ (x : List ℕ). LiveSaid job x (lent_of (state_at h i))) (sym (append-nil rows)) (subst (LiveSaid job rows) same_state l), refl, omega arith)

  whole_call : RunRefused j.settings (job_gains j) (records_body job j.bodies) (state_at h i) more out
  whole_call = theorems.run_refused _ (job_gains j) _ _ more out handed.ranged.state.filter_in.level.fits

  its_row : (state_at h i).row ≡ i
  its_row = (theorems.slots h so_far i (le_refl i)).row

  -- else the history goes on
  goes : GoesOn j.settings (job_gains j) (records_body job j.bodies) (rows ++ more) i
      (go_over j.settings (gain_for j.settings (job_gains j)) (job_slot j) (state_at h i) more)
  goes = theorems.run_after j.settings (job_gains j) (records_body job j.bodies) rows more l.whole so_far

  -- what number and place tell of it, and the state
  record Tells (m : ℕ) (x : Ran) : Type 0 where
    few : m ≤ whole_rows more
    count : accepted_by i (whole_rows more) (refusal_by x) ≡ m
    state : lent_by x (lent_of (state_at h i)) ≡ lent_of (state_at h (i + m))

  -- a row's refusal names its place
  placed : (r : Refusal) (m : ℕ) → (r.number ≡ wrong_row) ⊎ (r.number ≡ power_too_low) → r.place ≡ i + m → accepted_by i (whole_rows more) r ≡ m
  unfolding accepted_by
  placed r m n p =
      ⊎_elim (λ (e : r.number ≡ wrong_row). rw (e, p) (omega arith)) (λ (e : r.number ≡ power_too_low). rw (e, p) (omega arith)) n

  tells : (m : ℕ) → Accepted h (i + m) → {x : Ran} → Ends h (rows ++ more) (i + m) x → Tells m x
  unfolding OnStopped refusal_by lent_by accepted_by
  tells m a (Ends.done w c) =
      let all = whole_append rows more l.whole in
      record { few = omega (arith, w, all); count = omega (arith, w, all); state = refl }
  tells m a (Ends.stopped {r} w f) =
      let q = (ended_at h (rows ++ more) a (Ends.stopped w f)).refused in
      record { few = omega (arith, w, whole_append rows more l.whole); count = placed r m q.0 q.1; state = refl }
  tells m a (Ends.short w c) =
      let q = (ended_at h (rows ++ more) a (Ends.short w c)).refused in
      record { few = omega (arith, w, whole_append rows more l.whole); count = placed _ m q.0 q.1; state = refl }

  -- so many rows accepted, and the call did not refuse them all
  on_rows : (m : ℕ) → i + whole_rows more ≤ rows_most → Accepted h (i + m) → {x : Ran} → Tells m x → (answers : List Answer) → answers ≡ answers_of h i m →
      Goal (lent_after (lent_of (state_at h i)) (then_rest out (record { result = x; answers = answers })))
  on_rows m room a {x} t answers e =
      rw t.count (
        record {
          taken = j;
          whole = part_uncut rows more l.whole m t.few;
          few = omega (arith, part, t.few);
          accepted = subst (Accepted (part_rows j kept)) (sym part) (same_accepted j (row_at (rows ++ more)) (row_at kept) (i + m) each a);
          state = t.state
              ∙ ap lent_of (theorems.state_before j.settings (job_gains j) (records_body job j.bodies) (row_at (rows ++ more)) (row_at kept) (i + m) each)
              ∙ ap (λ (k : ℕ). lent_of (state_at (part_rows j kept) k)) (sym part);
        },
        ap (λ (z : List Answer). all_numbers z ++ drop (length (all_numbers z)) out) (e ∙ same_answers j (row_at (rows ++ more)) (row_at kept) i m each)
            ∙ ap (λ (k : ℕ). all_numbers (answers_of (part_rows j kept) i m) ++ drop k out) (answers_length (part_rows j kept) i m),
        t.few,
      )
    where
      kept : List ℕ
      kept = rows ++ take (row_bytes * m) more

      part : whole_rows kept ≡ i + m
      part = part_count rows more l.whole m t.few

      each : (k : ℕ) → k < i + m → row_at (rows ++ more) k ≡ row_at kept k
      each = part_row rows more l.whole m t.few

  -- a call: refused by 7 or 10, and else row by row
  at_many : rows_most < i + rows_offered more → next_of job more st out ≡ lent_after (lent_of (state_at h i)) (ended (Ran.Refused (refusal too_many_rows rows_most)) out)
  at_many m = told ∙ ap (lent_after (lent_of (state_at h i))) (whole_call.seven.1 (omega (arith, l.few), omega (arith, its_row)))

  at_short : i + rows_offered more ≤ rows_most → length out < answer_numbers * rows_offered more →
      next_of job more st out ≡ lent_after (lent_of (state_at h i)) (ended (Ran.Refused (refusal short_answers (answer_numbers * rows_offered more))) out)
  at_short f r = told ∙ ap (lent_after (lent_of (state_at h i))) (whole_call.ten.1 (λ t. omega (arith, t.1, its_row), r))

  abbrev these : Rows
  these = go_over j.settings (gain_for j.settings (job_gains j)) (job_slot j) (state_at h i) more

  at_rows : RoomAfter i more out → next_of job more st out ≡ lent_after (lent_of (state_at h i)) (then_rest out these)
  at_rows room =
      told ∙ ap (lent_after (lent_of (state_at h i))) (whole_call.rows_run (λ t. omega (arith, t.1, its_row, room.few)) room.long handed.ranged)

  call_cases : (P : NextTold → Type 0) →
      (rows_most < i + rows_offered more → P (lent_after (lent_of (state_at h i)) (ended (Ran.Refused (refusal too_many_rows rows_most)) out))) →
      (i + rows_offered more ≤ rows_most → length out < answer_numbers * rows_offered more →
      P (lent_after (lent_of (state_at h i)) (ended (Ran.Refused (refusal short_answers (answer_numbers * rows_offered more))) out))) →
      (RoomAfter i more out → P (lent_after (lent_of (state_at h i)) (then_rest out these))) → P (next_of job more st out)
  call_cases P many short rows = few (ltb rows_most (i + rows_offered more)) refl
    where
      long : i + rows_offered more ≤ rows_most → (t : Bool) → ltb (length out) (answer_numbers * rows_offered more) ≡ t → P (next_of job more st out)
      long f true e = let r = ltb-true (length out) (answer_numbers * rows_offered more) e in subst P (sym (at_short f r)) (short f r)
      long f false e =
          let room : RoomAfter i more out = record { few = f; long = ltb-false (length out) (answer_numbers * rows_offered more) e } in
          subst P (sym (at_rows room)) (rows room)

      few : (t : Bool) → ltb rows_most (i + rows_offered more) ≡ t → P (next_of job more st out)
      few true e = let m = ltb-true rows_most (i + rows_offered more) e in subst P (sym (at_many m)) (many m)
      few false e = long (ltb-false rows_most (i + rows_offered more) e) (ltb (length out) (answer_numbers * rows_offered more)) refl

  fitting : RoomAfter i more out → i + whole_rows more ≤ rows_most
  fitting room = let c = with_cut_lem (whole_rows more) (is_cut more) in let o = offered_at more (is_cut more) refl in omega (arith, room.few)

  pub call : Goal (next_of job more st out)
  unfolding accepted_by
  call =
      call_cases Goal (λ m. none _ refl) (λ f r. none _ refl) (λ room.
      on_rows goes.m (fitting room) goes.all (tells goes.m goes.all goes.ends) _ goes.answers)

  -- ---- what it tells, exactly

  all_of : whole_rows (rows ++ more) ≡ i + whole_rows more
  all_of = whole_append rows more l.whole

  -- the refusals of a row that is among those offered
  row_of : RoomAfter i more out → {n : ℕ} → n ≤ i + whole_rows more → Accepted h n → NextRowJudged h n (stepped_at h n)
  row_of room {n} m a = of_row (part_test j (rows ++ more) {n = n} (omega (arith, fitting room)) a)

  stated : RoomAfter i more out → {n : ℕ} {x : Ran} → Accepted h n → Ends h (rows ++ more) n x → CallTells j rows more out (refusal_by x)
  unfolding refusal_by
  stated room {n} a (Ends.done w c) =
      CallTells.none room (sym (cut_append rows more l.whole) ∙ c) (subst (Accepted h) (sym w ∙ all_of) a)
  stated room {n} a (Ends.stopped {r} w f) =
      CallTells.row room {n = n} (omega (arith, all_of)) a (((row_of room (omega (arith, all_of)) a).refused r).0 f)
  stated room {n} a (Ends.short w c) =
      subst (λ (k : ℕ). CallTells j rows more out (refusal wrong_row k)) (sym all_of ∙ w)
      (CallTells.lacking room (sym (cut_append rows more l.whole) ∙ c) (subst (Accepted h) (sym w ∙ all_of) a))

  -- what rows run one after the other tell is what they came to
  came_here : CameTo h (rows ++ more) (i + goes.m) these.result
  came_here = ended_at h (rows ++ more) goes.all goes.ends

  tells_of : RoomAfter i more out → {x : Ran} → these.result ≡ x → (next_of job more st out).refusal ≡ refusal_by x
  tells_of room e = ap (λ (t : NextTold). t.refusal) (at_rows room) ∙ ap refusal_by e

  given : {r : Refusal} → CallTells j rows more out r → (next_of job more st out).refusal ≡ r
  unfolding refusal_by
  given (CallTells.many m) = ap (λ (t : NextTold). t.refusal) (at_many m)
  given (CallTells.short f r) = ap (λ (t : NextTold). t.refusal) (at_short f r)
  given (CallTells.row room {n} m a {r = r} w) =
      tells_of room (stops_at h (rows ++ more) came_here (omega (arith, all_of)) a (((row_of room (omega arith) a).refused r).1 w))
  given (CallTells.lacking room c a) =
      tells_of room (came_once h (rows ++ more) came_here
      (ended_at h (rows ++ more) a (Ends.short all_of (cut_append rows more l.whole ∙ c)))).result
  given (CallTells.none room c a) =
      tells_of room (came_once h (rows ++ more) came_here
      (ended_at h (rows ++ more) a (Ends.done all_of (cut_append rows more l.whole ∙ c)))).result

  pub of_a_call : (r : Refusal) → (next_of job more st out).refusal ≡ r ↔ CallTells j rows more out r
  unfolding refusal_by
  of_a_call r = (
    λ e. subst (CallTells j rows more out) e
        (call_cases (λ t. CallTells j rows more out t.refusal) CallTells.many CallTells.short (λ room. stated room goes.all goes.ends)),
    given,
  )

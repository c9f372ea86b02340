-- Rows of a caller from the start of a job: what a run of them leaves, by how far they came.
-- Assumes nothing.
use Rattle.std.specs.Prelude.{ℕ, ◌*◌, ◌≤◌, ◌<◌, ◌≡◌, List, ◌++◌, ℤ, length, drop}
use Rattle.std.proofs.Common.{ap, ◌∙◌, arith}
use Rattle.constants.specs.Sizes.{rows_most, answer_numbers}
use Rattle.constants.specs.Refusals.{refusal, too_many_rows, short_answers}
use Rattle.row_state.specs.States.{state_start}
use Rattle.row_state.proofs.Laws.States.{starts}
use Rattle.row_values.specs.declared.Answer.{Answer}
use Rattle.row_values.specs.Rows.{rows_offered}
use Rattle.row_values.specs.Answers.{all_numbers, answer_from}
use Rattle.row_rules.specs.declared.Ran.{Ran}
use Rattle.row_rules.specs.Runs.{End, ended, then_rest, run_of}
use Rattle.row_rules.specs.History.{answer_at}
use Rattle.row_rules.specs.Refusing.{HandedOut, TooMany, RunRefused}
use Rattle.row_rules.specs.Theorems.{answers_of}
use Rattle.row_rules.proofs.Laws.Theorems.All.{theorems as rules}
use Rattle.job.specs.Load.{records_body}
use Rattle.job.specs.Jobs.{ran_of}
use Rattle.job.proofs.Laws.Theorems.All.{theorems}
use Rattle.exports.specs.Calls.{callers_rows}
use Rattle.demands.specs.Rows.{TakenJob, job_gains, file_bytes, part_rows, RoomAfter, CameTo}
use Rattle.demands.proofs.Laws.Rows.{answers_length, answer_at_lem, came_once, over_rows, came}

module _ {job : List ℕ} (j : TakenJob job) where
  -- a run from the start of the job
  abbrev from_start : (rows : List ℕ) → List ℤ → End
  from_start rows out = run_of j.settings (job_gains j) (records_body job j.bodies) (state_start j.settings) rows out

  pub its : (rows : List ℕ) (out : List ℤ) → callers_rows job rows out ≡ from_start rows out
  unfolding callers_rows
  its rows out = rw j.is_taken

  pub own_rows : (out : List ℤ) → ran_of job out ≡ callers_rows job (file_bytes j) out
  unfolding ran_of callers_rows
  own_rows out = rw j.is_taken

  pub start_handed_lem : HandedOut j.settings (job_gains j) (state_start j.settings)
  start_handed_lem = theorems.start_handed job j.is_taken

  -- the run of rows, by how far they came
  pub run_is : (rows : List ℕ) {n : ℕ} {x : Ran} → CameTo (part_rows j rows) rows n x →
      over_rows j rows ≡ record { result = x; answers = answers_of (part_rows j rows) 0 n }
  run_is rows {n} {x} c =
      let q = came j rows in
      let w = came_once (part_rows j rows) rows q.came_to c in
      ap (λ (l : List Answer). record { result = (over_rows j rows).result; answers = l })
      (q.answers ∙ ap (answers_of (part_rows j rows) 0) w.rows)
      ∙ ap (λ (y : Ran). record { result = y; answers = answers_of (part_rows j rows) 0 n }) w.result

  module _ (rows : List ℕ) (out : List ℤ) where
    whole : RunRefused j.settings (job_gains j) (records_body job j.bodies) (state_start j.settings) rows out
    whole = rules.run_refused _ (job_gains j) _ _ rows out start_handed_lem.ranged.state.filter_in.level.fits

    many_from : TooMany (state_start j.settings) rows → rows_most < rows_offered rows
    many_from t = omega (arith, t.1, (starts j.settings).row)

    -- "7 | more than 30,000 rows", then "10 asks for 8 numbers a row"
    pub too_many : rows_most < rows_offered rows → callers_rows job rows out ≡ ended (Ran.Refused (refusal too_many_rows rows_most)) out
    too_many l = its rows out ∙ whole.seven.1 (omega arith, omega (arith, (starts j.settings).row))

    pub too_few : rows_offered rows ≤ rows_most → length out < answer_numbers * rows_offered rows →
        callers_rows job rows out ≡ ended (Ran.Refused (refusal short_answers (answer_numbers * rows_offered rows))) out
    too_few l m = its rows out ∙ whole.ten.1 (λ t. (let z = many_from t in omega arith), m)

    -- and else row by row
    module _ {n : ℕ} {x : Ran} (room : RoomAfter 0 rows out) (c : CameTo (part_rows j rows) rows n x) where
      pub left : callers_rows job rows out ≡ ended x (all_numbers (answers_of (part_rows j rows) 0 n) ++ drop (answer_numbers * n) out)
      left =
          its rows out
          ∙ whole.rows_run (λ t. let z = many_from t in omega (arith, room.few)) room.long start_handed_lem.ranged
          ∙ ap (then_rest out) (run_is rows c)
          ∙ ap (λ (i : ℕ). ended x (all_numbers (answers_of (part_rows j rows) 0 n) ++ drop i out)) (answers_length (part_rows j rows) 0 n)

      pub stands_at_lem : (k : ℕ) → k < n → answer_from (callers_rows job rows out).out (answer_numbers * k) ≡ answer_at (part_rows j rows) k
      stands_at_lem k m =
          ap (λ (y : End). answer_from y.out (answer_numbers * k)) left
          ∙ answer_at_lem (part_rows j rows) 0 n (drop (answer_numbers * n) out) k m
          ∙ ap (answer_at (part_rows j rows)) (omega arith)

-- A record that is left out changes the length of the file, and the contents tell; answers that differ come from records that differ.
-- Assumes nothing.
use Rattle.std.specs.Prelude.{ℕ, ◌+◌, ◌*◌, ◌%◌, ◌≤◌, ◌<◌, ◌≡◌, List, ltb, ℤ, pos, length, get_or, take, drop, Ok, Err}
use Rattle.std.proofs.Common.{sym, ◌∙◌, ap, arith, ltb-true, ltb-false, lt-ltb, le-ltb, length-append, length-drop, length-take-le, take-take}
use Rattle.std.proofs.lemmas.List.{take-append-le}
use Rattle.ground.specs.Choice.{when◌then◌else◌}
use Rattle.ground.proofs.Laws.Choice.{alike}
use Rattle.constants.specs.Sizes.{contents_bytes, record_bytes}
use Rattle.constants.specs.Refusals.{refusal, wrong_contents}
use Rattle.job_settings.specs.declared.Settings.{Settings}
use Rattle.row_state.specs.States.{state_start}
use Rattle.row_rules.specs.Runs.{End, run_of}
use Rattle.job_contents.specs.declared.Bodies.{Bodies}
use Rattle.job_contents.specs.Contents.{second, third}
use Rattle.job_contents.proofs.Laws.Contents.Cut as cut
use Rattle.job.specs.Load.{gains_body, records_body, rows_body, loaded_of}
use Rattle.job.specs.Jobs.{ran_of}
use Rattle.job.specs.Theorems.{record_place, without}
use Rattle.job.proofs.Laws.Theorems.Taking.{takes}
use Rattle.job.proofs.Laws.Theorems.Runs.{ran_job}

module _ (job : List ℕ) (b : Bodies) (i : ℕ) (low : contents_bytes ≤ b.records) (h : record_place b (i + 1) < length job + 1) where
  front : length (take (record_place b i) job) ≡ record_place b i
  front = length-take-le (record_place b i) job (omega arith)

  without_length : length (without job b i) + record_bytes ≡ length job
  without_length =
      let l = length-append (take (record_place b i) job) (drop (record_place b (i + 1)) job) in
      let d = length-drop (record_place b (i + 1)) job in
      omega (arith, l, d, front)

  without_head : take contents_bytes job ≡ take contents_bytes (without job b i)
  without_head =
      sym (take-append-le contents_bytes (take (record_place b i) job) (drop (record_place b (i + 1)) job) (omega (arith, front))
      ∙ take-take contents_bytes (record_place b i) job (omega arith))

pub dropped : (job : List ℕ) {s : Settings} {b : Bodies} → loaded_of job ≡ Ok (s, b) → (i : ℕ) → record_bytes * i < (second job).length →
    loaded_of (without job b i) ≡ Err (refusal wrong_contents (when ltb (third job).length record_bytes then 2 else 3))
unfolding loaded_of
dropped job {b} e i h =
    let t = takes job e in
    let l = t.lies in
    let whole : (second job).length % record_bytes ≡ 0 = omega (arith, t.all.stated) in
    let low : contents_bytes ≤ b.records = omega (arith, l.first, l.settings) in
    let in_file : record_place b (i + 1) < length job + 1 = omega (arith, t.all.stated, l.records, l.rows) in
    let n = without_length job b i low in_file in
    let place : ltb (length (without job b i)) b.rows ≡ ltb (third job).length record_bytes =
    alike _ _ (λ p. lt-ltb (third job).length record_bytes (omega (arith, ltb-true (length (without job b i)) b.rows p, n, l.rows)))
    (λ p. le-ltb (third job).length record_bytes (omega (arith, ltb-false (length (without job b i)) b.rows p, n, l.rows))) in
    rw (
      cut.shorter job (without job b i) (without_head job b i low in_file) t.found (omega (arith, n, l.first, l.settings, l.records, l.rows))
          (omega (arith, n)),
      place,
    )

pub one_length : (j k : List ℕ) {s t : Settings} {b c : Bodies} → take contents_bytes j ≡ take contents_bytes k → loaded_of j ≡ Ok (s, b) →
    loaded_of k ≡ Ok (t, c) → length j ≡ length k
one_length j k same e f = cut.one_length j k same (takes j e).found (takes k f).found

pub differ : (j k : List ℕ) {s : Settings} {b c : Bodies} → loaded_of j ≡ Ok (s, b) → loaded_of k ≡ Ok (s, c) →
    gains_body j b ≡ gains_body k c → rows_body j b ≡ rows_body k c →
    (out : List ℤ) (i : ℕ) → (get_or (ran_of j out).out i (pos 0) ≡ get_or (ran_of k out).out i (pos 0) → ⊥) → records_body j b ≡ records_body k c → ⊥
differ j k {s} {b} {c} e f gains rows out i apart records =
    apart (ap (λ (x : End). get_or x.out i (pos 0))
    (ran_job j out e
    ∙ ap (λ (l : List ℕ). run_of s l (records_body j b) (state_start s) (rows_body j b) out) gains
    ∙ ap (λ (l : List ℕ). run_of s (gains_body k c) l (state_start s) (rows_body j b) out) records
    ∙ ap (λ (l : List ℕ). run_of s (gains_body k c) (records_body k c) (state_start s) l out) rows
    ∙ sym (ran_job k out f)))

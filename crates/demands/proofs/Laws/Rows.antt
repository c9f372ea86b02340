-- How far the rows of a part came: there is one answer to it, a run of them from the start of a job gives it, and each accepted row's numbers stand at
-- their place. What is said of a row depends on the rows up to it alone.
-- Assumes nothing.
use Prim.Native.Nat.{ℕ, zero, suc, ◌+◌, ◌*◌, ◌≤◌, ◌<◌}
use Rattle.std.specs.Prelude.{◌≡◌, ◌⊎◌, Bool, true, ltb, ℤ, length, Ok, Err}
use Rattle.std.proofs.Math.Path.{refl, ap₂, subst}
use Rattle.std.proofs.Common.{sym, ap, ◌∙◌, inl, add-zero, not-suc-le-zero, le_refl, arith, ltb-true, ltb-false}
use mathlib.Core.List.{List, [], ◌∷◌, ◌++◌}
use Rattle.std.proofs.Math.Numerals.{towards_suc}
use Rattle.std.proofs.Math.Bool.{false}
use Rattle.ground.specs.declared.Refusal.{Refusal}
use Rattle.ground.proofs.Laws.Choice.{clash}
use Rattle.ground.proofs.Laws.Ranges.{neither_before}
use Rattle.constants.specs.Sizes.{rows_most, answer_numbers}
use Rattle.constants.specs.Refusals.{refusal, wrong_row, power_too_low}
use Rattle.row_state.specs.declared.State.{State}
use Rattle.row_state.specs.States.{state_start}
use Rattle.row_values.specs.declared.Row.{Row}
use Rattle.row_values.specs.declared.Answer.{Answer}
use Rattle.row_values.specs.Rows.{whole_rows, is_cut, rows_offered}
use Rattle.row_values.proofs.Laws.Rows.{offered_whole}
use Rattle.row_values.specs.Answers.{numbers, all_numbers, answer_from}
use Rattle.row_values.proofs.Laws.OnAnswers.{numbers_length}
use Rattle.row_rules.specs.Stepping.{Stepped}
use Rattle.row_rules.specs.declared.Ran.{Ran}
use Rattle.row_rules.specs.Rules.{row_of, gain_for}
use Rattle.row_rules.specs.Runs.{Rows, OnStopped, AtRow, go, go_over, followed}
use Rattle.row_rules.proofs.Laws.Runs.{rows_stopped}
use Rattle.row_rules.specs.History.{History, Accepted, accepted, state_at, stepped_at, answer_of, answer_at}
use Rattle.row_rules.specs.Theorems.{history_of, answers_of, Ends}
use Rattle.row_rules.proofs.Laws.Theorems.All.{theorems}
use Rattle.row_rules.specs.Refusing.{HandedOut}
use Rattle.job_settings.specs.declared.Settings.{Settings}
use Rattle.job_contents.specs.declared.Bodies.{Bodies}
use Rattle.job.specs.Load.{Loaded}
use Rattle.job.specs.Load.{gains_body, records_body}
use Rattle.job.specs.Jobs.{stepped_of}
use Rattle.job.proofs.Laws.Theorems.All.{theorems as jobs}
use Rattle.job.proofs.Laws.Theorems.Taking.{takes}
use Rattle.demands.specs.Rows.{TakenJob, job_gains, file_bytes, file_count, job_slot, offered_rows, part_rows, Test, history, CameTo}

-- ---- the numbers of accepted rows

pub answers_count : (h : History) (k n : ℕ) → length (answers_of h k n) ≡ n
unfolding answers_of
answers_count h k zero = refl
answers_count h k (suc n) = ap suc (answers_count h (suc k) n)

pub answers_length : (h : History) (k n : ℕ) → length (all_numbers (answers_of h k n)) ≡ answer_numbers * n
answers_length h k n = numbers_length (answers_of h k n) ∙ ap (λ (m : ℕ). answer_numbers * m) (answers_count h k n)

-- an answer that comes after another one's numbers
later_answer : (a : Answer) (buffer : List ℤ) (k : ℕ) → answer_from (numbers a ++ buffer) (answer_numbers * suc k) ≡ answer_from buffer (answer_numbers * k)
later_answer a buffer k =
    let e : answer_numbers * suc k ≡ answer_numbers * k + answer_numbers = omega arith in
    rw e (simp towards_suc)

-- the answer of row i + k, where those of the rows from row i on come first
pub answer_at_lem : (h : History) (i n : ℕ) (rest : List ℤ) (k : ℕ) → k < n →
    answer_from (all_numbers (answers_of h i n) ++ rest) (answer_numbers * k) ≡ answer_at h (i + k)
unfolding answers_of all_numbers
answer_at_lem h i zero rest k l = absurd (not-suc-le-zero l)
answer_at_lem h i (suc n) rest zero l = rw (add-zero i)
answer_at_lem h i (suc n) rest (suc k) l =
    let f : suc i + k ≡ i + suc k = omega arith in
    later_answer (answer_at h i) (all_numbers (answers_of h (suc i) n) ++ rest) k ∙ answer_at_lem h (suc i) n rest k (omega arith) ∙ ap (answer_at h) f

-- ---- how far rows came

abbrev refused_in : Refusal → Stepped → Refusal
refused_in r (Ok (next, a)) = r
refused_in r (Err q) = q

-- a row's refusal, and where
abbrev Named : ℕ → State → Refusal → Type 0
Named n st r = ((r.number ≡ wrong_row) ⊎ (r.number ≡ power_too_low)) × (r.place ≡ n)

module _ (h : History) where
  -- a row that is refused is not accepted
  pub unaccepted : {n k : ℕ} {r : Refusal} → Accepted h n → k < n → stepped_at h k ≡ Err r → ⊥
  unfolding accepted
  unaccepted {n} {k} a l e = clash (a k l) (ap accepted e)

  -- it is refused by 8 or 9, at its place
  pub row_named : {n : ℕ} {r : Refusal} → Accepted h n → stepped_at h n ≡ Err r → Named n (state_at h n) r
  unfolding go OnStopped
  row_named {n} {r} a e =
      let rest : State → Rows = λ next. go h.settings (h.gain n) (λ k. h.slot n) next [] false in
      let w : AtRow (state_at h n) r = subst (λ (x : Stepped). OnStopped AtRow (followed (state_at h n) x rest).result) e
      (rows_stopped h.settings (h.gain n) (λ k. h.slot n) (state_at h n) (h.row n ∷ []) false) in
      (w.its_number, w.its_place ∙ (theorems.slots h a n (le_refl n)).row)

  -- the first row that is refused is one, and so is its refusal
  one_row : {n m : ℕ} {r q : Refusal} → Accepted h n → Accepted h m → stepped_at h n ≡ Err r → stepped_at h m ≡ Err q → n ≡ m
  one_row {n} {m} a c e d = neither_before n m (λ j. unaccepted c j e) (λ j. unaccepted a j d)

  one_stop : {n m : ℕ} {r q : Refusal} → Accepted h n → Accepted h m → stepped_at h n ≡ Err r → stepped_at h m ≡ Err q →
      Ran.Stopped (state_at h n) r ≡ Ran.Stopped (state_at h m) q
  one_stop {n} {m} {r} {q} a c e d =
      let i = one_row a c e d in
      let same : r ≡ q = ap (refused_in r) (sym e ∙ ap (stepped_at h) i ∙ d) in
      ap (λ (j : ℕ). Ran.Stopped (state_at h j) r) i ∙ ap (Ran.Stopped (state_at h m)) same

  module _ (bytes : List ℕ) where
    -- how a run ended tells how far its rows came
    pub ended_at : {n : ℕ} {x : Ran} → Accepted h n → Ends h bytes n x → CameTo h bytes n x
    unfolding OnStopped
    ended_at {n} a e = record { accepted = a; ends = e; refused = by e }
      where
        by : {x : Ran} → Ends h bytes n x → OnStopped (Named n) x
        by (Ends.done w c) = tt
        by (Ends.stopped l f) = row_named a f
        by (Ends.short w c) = (inl refl, refl)

    -- they stop at the first row that is refused
    pub stops_at : {n m : ℕ} {x : Ran} {r : Refusal} → CameTo h bytes m x → n < whole_rows bytes → Accepted h n → stepped_at h n ≡ Err r →
        x ≡ Ran.Stopped (state_at h n) r
    stops_at {n} {m} {r = r} c l a e = by c.ends
      where
        by : {x : Ran} → Ends h bytes m x → x ≡ Ran.Stopped (state_at h n) r
        by (Ends.done w k) = absurd (unaccepted c.accepted (omega (arith, w)) e)
        by (Ends.stopped k d) = one_stop c.accepted a d e
        by (Ends.short w k) = absurd (unaccepted c.accepted (omega (arith, w)) e)

    -- there is one answer to how far they came
    pub record Same (n m : ℕ) (x y : Ran) : Type 0 where
      pub rows : n ≡ m
      pub result : x ≡ y

    pub came_once : {n m : ℕ} {x y : Ran} → CameTo h bytes n x → CameTo h bytes m y → Same n m x y
    came_once {n} {m} c d = by c.ends d.ends
      where
        by : {x y : Ran} → Ends h bytes n x → Ends h bytes m y → Same n m x y
        by (Ends.done w k) (Ends.done v l) = let i : n ≡ m = sym w ∙ v in record { rows = i; result = ap (λ (j : ℕ). Ran.Done (state_at h j)) i }
        by (Ends.done w k) (Ends.stopped v f) = absurd (unaccepted c.accepted (omega (arith, w)) f)
        by (Ends.done w k) (Ends.short v l) = absurd (clash l k)
        by (Ends.stopped w f) (Ends.done v l) = absurd (unaccepted d.accepted (omega (arith, v)) f)
        by (Ends.stopped w f) (Ends.stopped v g) =
            record { rows = one_row c.accepted d.accepted f g; result = one_stop c.accepted d.accepted f g }
        by (Ends.stopped w f) (Ends.short v l) = absurd (unaccepted d.accepted (omega (arith, v)) f)
        by (Ends.short w k) (Ends.done v l) = absurd (clash k l)
        by (Ends.short w k) (Ends.stopped v f) = absurd (unaccepted c.accepted (omega (arith, w)) f)
        by (Ends.short w k) (Ends.short v l) =
            let i : n ≡ m = sym w ∙ v in record { rows = i; result = ap (λ (j : ℕ). Ran.Stopped (state_at h j) (refusal wrong_row j)) i }

    -- an accepted row of the part is among them
    pub reaches : {n k : ℕ} {x : Ran} → CameTo h bytes n x → k < whole_rows bytes → Accepted h (suc k) → k < n
    reaches {n} {k} c l a = by c.ends
      where
        near : {r : Refusal} → stepped_at h n ≡ Err r → (t : Bool) → ltb k n ≡ t → k < n
        near f true q = ltb-true k n q
        near f false q = absurd (unaccepted a (omega (arith, ltb-false k n q)) f)

        by : {x : Ran} → Ends h bytes n x → k < n
        by (Ends.done w e) = omega (arith, w)
        by (Ends.stopped m f) = near f (ltb k n) refl
        by (Ends.short w e) = omega (arith, w)

-- ---- a job is taken in one way

settings_or : Settings → Loaded → Settings
settings_or s (Ok (t, b)) = t
settings_or s (Err r) = s

bodies_or : Bodies → Loaded → Bodies
bodies_or b (Ok (t, c)) = c
bodies_or b (Err r) = b

abbrev load_of : {job : List ℕ} → TakenJob job → Loaded
load_of t = Ok (t.settings, t.bodies)

module _ {job : List ℕ} (i j : TakenJob job) where
  both : load_of i ≡ load_of j
  both = sym i.is_taken ∙ j.is_taken

  pub same_rows : (rows : List ℕ) → part_rows i rows ≡ part_rows j rows
  unfolding settings_or bodies_or
  same_rows rows =
      ap₂ (λ (s : Settings) (b : Bodies). history_of s (gains_body job b) (records_body job b) rows)
      (ap (settings_or i.settings) both) (ap (bodies_or i.bodies) both)

-- ---- the rows of a job

module _ {job : List ℕ} (j : TakenJob job) where
  abbrev pub over_rows : List ℕ → Rows
  over_rows bytes = go_over j.settings (gain_for j.settings (job_gains j)) (job_slot j) (state_start j.settings) bytes

  -- a run of them from the start gives how far they came
  pub record Came (bytes : List ℕ) : Type 0 where
    pub n : ℕ
    pub came_to : CameTo (part_rows j bytes) bytes n (over_rows bytes).result
    pub answers : (over_rows bytes).answers ≡ answers_of (part_rows j bytes) 0 n

  pub came : (bytes : List ℕ) → Came bytes
  came bytes =
      let q = theorems.run_history j.settings (job_gains j) (records_body job j.bodies) bytes in
      record { n = q.n; came_to = ended_at (part_rows j bytes) bytes q.all q.ends; answers = q.answers }

  -- the file's own bytes are whole rows, as many as it has
  pub record OwnBytes : Type 0 where
    pub rows : whole_rows (file_bytes j) ≡ file_count j
    pub uncut : is_cut (file_bytes j) ≡ false
    pub offered : rows_offered (file_bytes j) ≡ file_count j

  pub own : OwnBytes
  own =
      let w = offered_whole (file_bytes j) (file_count j) (takes job j.is_taken).rows_own.its_length in
      record { rows = w.0; uncut = w.1; offered = w.2 }

  -- ---- what is said of a row depends on the rows up to it alone

  module _ (row other : ℕ → Row) where
    pub same_stepped : (k : ℕ) → ((i : ℕ) → i ≤ k → row i ≡ other i) → stepped_at (offered_rows j row) k ≡ stepped_at (offered_rows j other) k
    same_stepped k e =
        ap₂ (λ (st : State) (r : Row). row_of j.settings (gain_for j.settings (job_gains j)) (job_slot j k) st r)
        (theorems.state_before j.settings (job_gains j) (records_body job j.bodies) row other k (λ i l. e i (omega arith))) (e k (le_refl k))

    pub same_accepted : (n : ℕ) → ((i : ℕ) → i < n → row i ≡ other i) → Accepted (offered_rows j row) n → Accepted (offered_rows j other) n
    same_accepted n e a k l = sym (ap accepted (same_stepped k (λ i m. e i (omega arith)))) ∙ a k l

    pub same_answers : (k n : ℕ) → ((i : ℕ) → i < k + n → row i ≡ other i) → answers_of (offered_rows j row) k n ≡ answers_of (offered_rows j other) k n
    unfolding answers_of
    same_answers k zero e = refl
    same_answers k (suc n) e =
        ap₂ (λ (a : Answer) (l : List Answer). a ∷ l)
        (ap answer_of (same_stepped k (λ i m. e i (omega arith)))) (same_answers (suc k) n (λ i m. e i (omega arith)))

-- ---- the state before the next row of a test, and that row

module _ {job : List ℕ} (t : Test job) where
  pub handed_out : HandedOut t.taken.settings (job_gains t.taken) (state_at (history t) t.n)
  handed_out =
      let k = takes job t.taken.is_taken in
      theorems.history_handed t.taken.settings (job_gains t.taken) (records_body job t.taken.bodies) t.row k.ranged k.triple
      t.few t.accepted t.n (le_refl t.n)

  pub offered : t.n < rows_most → stepped_of job (state_at (history t) t.n) (t.row t.n) ≡ stepped_at (history t) t.n
  offered l =
      let k = takes job t.taken.is_taken in
      (jobs.steps job t.taken.is_taken).step _ _
      ∙ theorems.step_history t.taken.settings (job_gains t.taken) (records_body job t.taken.bodies) t.row k.ranged k.triple l
      t.accepted

  -- a test that ends earlier
  abbrev pub shorter : (n : ℕ) → n ≤ t.n → Test job
  shorter n l = record { taken = t.taken; row = t.row; n = n; few = omega (arith, t.few); accepted = λ k m. t.accepted k (omega arith) }

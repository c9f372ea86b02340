-- Demand 1, proved.
-- Assumes nothing.
use Rattle.std.specs.Prelude.{ℕ, ◌*◌, ◌≤◌, ◌<◌, ◌≡◌, refl, List, ◌++◌, Bool, true, false, ltb, ℤ, length, Ok, Err}
use Rattle.std.proofs.Common.{sym, ap, subst, ◌∙◌, le_refl, arith, ltb-true, ltb-false}
use Rattle.ground.specs.declared.Refusal.{Refusal}
use Rattle.constants.specs.Sizes.{rows_most, answer_numbers, pieces_most}
use Rattle.row_values.specs.Rows.{whole_rows, rows_offered}
use Rattle.row_rules.specs.Stepping.{Stepped}
use Rattle.row_rules.specs.declared.Ran.{Ran}
use Rattle.row_rules.specs.Runs.{Rows, End}
use Rattle.row_rules.specs.History.{Accepted, state_at, stepped_at}
use Rattle.row_rules.specs.Theorems.{answers_of}
use Rattle.listing_rules.specs.Text.{header}
use Rattle.job.specs.Load.{Loaded}
use Rattle.job.specs.Load.{refusal_of, loaded_of}
use Rattle.job.specs.Jobs.{started_of}
use Rattle.job.proofs.Laws.Theorems.All.{theorems}
use Rattle.exports.specs.Calls.{callers_rows, slot_answered}
use Rattle.exports.specs.Steps.{started_lent, next_of}
use Rattle.listing.specs.Listing.{shown, job_gain, listing_of}
use Rattle.listing.specs.Pieces.{part_of}
use Rattle.listing_theorems.proofs.Laws.Theorems.All.{theorems as listings}
use Rattle.demands.specs.Rows.{TakenJob, file_bytes, part_rows, file_rows, Test, history, RoomAfter, CameTo}
use Rattle.demands.proofs.Laws.Rows.{stops_at, came, handed_out, offered}
use Rattle.demands.proofs.Laws.Live.{live, live_left}
use Rattle.demands.proofs.Laws.Demand1.Kept.{all_kept, one_kept, start_kept}
use Rattle.demands.proofs.Laws.Demand1.Pieces.{first_piece, piece_after, no_piece, too_short}
use Rattle.demands.proofs.Laws.Demand1.Runs.{own_rows, run_is, too_many, too_few, left, stands_at_lem}
use Rattle.demands.specs.Demand1.{Prints, listing, alone, GapsOf, Leaves, Demand1}

-- ---- "gets its listing or one numbered refusal with its place"

printed : {job : List ℕ} (j : TakenJob job) {n : ℕ} {x : Ran} → CameTo (file_rows j) (file_bytes j) n x →
    listing_of job ≡ header ++ shown (job_gain job j.settings j.bodies).carries_data 0 (record { result = x; answers = answers_of (file_rows j) 0 n })
unfolding listing_of
printed {job} j c =
    rw j.is_taken (ap (λ (r : Rows). header ++ shown (job_gain job j.settings j.bodies).carries_data 0 r) (run_is j (file_bytes j) c))

pub prints : (job : List ℕ) → Prints job (listing_of job)
prints job = by (loaded_of job) refl
  where
    by : (l : Loaded) → loaded_of job ≡ l → Prints job (listing_of job)
    by (Ok (s, b)) e =
        let j : TakenJob job = record { settings = s; bodies = b; is_taken = e } in
        let q = came j (file_bytes j) in
        subst (Prints job) (sym (printed j q.came_to)) (listing j q.came_to)
    by (Err r) e = let q = listings.alone job e in subst (Prints job) (sym q.0) (alone e q.1.0 q.1.1)

pub one_text : (job text : List ℕ) → Prints job text → text ≡ listing_of job
one_text job text (listing j c) = sym (printed j c)
one_text job text (alone e l m) = sym (listings.alone job e).0

-- ---- "The list of gaps is taken whole or refused whole."

gaps : (job : List ℕ) → GapsOf job
unfolding refusal_of callers_rows started_lent next_of slot_answered part_of
gaps job = by (loaded_of job) refl
  where
    by : (l : Loaded) → loaded_of job ≡ l → GapsOf job
    by (Ok (s, b)) e =
        let t = theorems.taken job e in
        GapsOf.whole (record { settings = s; bodies = b; is_taken = e }) t.count t.all.stated t.all.few (ap refusal_of e) t.all.up
        t.all.down t.all.up_ids t.all.down_ids (λ k. rw e)
    by (Err r) e =
        GapsOf.none r e (ap refusal_of e) (theorems.refused_start job e) (λ st row. theorems.refused_step job st row e)
        (λ out. theorems.refused_run job out e)
        (λ rows out. rw e) (λ before. rw e) (λ rows before out. rw e) (λ k. rw e)
        (listings.alone job e).0 (λ size. rw e) (λ st size. rw e)

-- ---- "A refused row changes no state"

started : {job : List ℕ} (t : Test job) → started_of job ≡ Ok (state_at (history t) 0)
unfolding started_of state_at
started t = rw t.taken.is_taken

refused_row : (job : List ℕ) (j : TakenJob job) (rows : List ℕ) (out : List ℤ) {n : ℕ} {r : Refusal} → RoomAfter 0 rows out → n < whole_rows rows →
    Accepted (part_rows j rows) n → stepped_at (part_rows j rows) n ≡ Err r →
    (callers_rows job rows out).result ≡ Ran.Stopped (state_at (part_rows j rows) n) r
refused_row job j rows out room m a f =
    let q = came j rows in
    ap (λ (y : End). y.result) (left j rows out room q.came_to) ∙ stops_at (part_rows j rows) rows q.came_to m a f

-- ---- "answers already written stay, the rest of the lent buffer is untouched"

pub leaves : (job rows : List ℕ) (out : List ℤ) → Leaves job rows out (callers_rows job rows out)
unfolding callers_rows
leaves job rows out = by (loaded_of job) refl
  where
    by : (l : Loaded) → loaded_of job ≡ l → Leaves job rows out (callers_rows job rows out)
    by (Err r) e = subst (Leaves job rows out) (rw e) (Leaves.file e)
    by (Ok (s, b)) e = few (ltb rows_most (rows_offered rows)) refl
      where
        j : TakenJob job
        j = record { settings = s; bodies = b; is_taken = e }

        room : rows_offered rows ≤ rows_most → (t : Bool) → ltb (length out) (answer_numbers * rows_offered rows) ≡ t →
            Leaves job rows out (callers_rows job rows out)
        room l true f =
            let m = ltb-true (length out) (answer_numbers * rows_offered rows) f in
            subst (Leaves job rows out) (sym (too_few j rows out l m)) (Leaves.short j l m)
        room l false f =
            let r : RoomAfter 0 rows out = record { few = omega (arith, l); long = ltb-false (length out) (answer_numbers * rows_offered rows) f } in
            let q = came j rows in
            subst (Leaves job rows out) (sym (left j rows out r q.came_to)) (Leaves.answered j r q.came_to)

        few : (t : Bool) → ltb rows_most (rows_offered rows) ≡ t → Leaves job rows out (callers_rows job rows out)
        few true f =
            let l = ltb-true rows_most (rows_offered rows) f in
            subst (Leaves job rows out) (sym (too_many j rows out l)) (Leaves.many j l)
        few false f = room (ltb-false rows_most (rows_offered rows) f) (ltb (length out) (answer_numbers * rows_offered rows)) refl

one_end : (job rows : List ℕ) (out : List ℤ) (y : End) → Leaves job rows out y → y ≡ callers_rows job rows out
unfolding callers_rows
one_end job rows out y (Leaves.answered j r c) = sym (left j rows out r c)
one_end job rows out y (Leaves.many j l) = sym (too_many j rows out l)
one_end job rows out y (Leaves.short j l m) = sym (too_few j rows out l m)
one_end job rows out y (Leaves.file e) = rw e

pub demand1 : Demand1
demand1 =
    record {
      prints = prints;
      one_text = one_text;
      ends = λ job sizes enough. listings.whole job sizes enough pieces_most (le_refl pieces_most);
      first_piece = first_piece;
      piece_after = λ j st size l. piece_after j st size;
      no_piece = no_piece;
      gaps = gaps;
      none_left_out = λ job j. theorems.dropped job j.is_taken;
      own_rows = λ job j. own_rows j;
      refused_row = refused_row;
      started = started;
      handed_out = handed_out;
      step_handed = λ job j st row. theorems.step_handed job st row j.is_taken;
      all_kept = λ job rows before out. all_kept rows before out job;
      one_kept = λ job row before out one. one_kept row before out one job;
      start_kept = start_kept;
      offered = offered;
      live = live;
      live_left = live_left;
      leaves = leaves;
      one_end = one_end;
      written = λ job j rows out room c. stands_at_lem j rows out room c;
      stored = listings.stored;
      too_short = too_short;
    }

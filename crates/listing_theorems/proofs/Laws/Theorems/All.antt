-- The theorems on pieces, all of them joined are the listing and each has room, and the list of all theorems.
-- Assumes nothing.
use Rattle.std.specs.Prelude.{ℕ, zero, suc, ◌+◌, ◌-◌, ◌≤◌, ◌≡◌, refl, false, List, ◌++◌, ltb, length, drop, Ok, Err}
use Rattle.std.proofs.Common.{sym, ap, subst, append-nil, zero-add, arith, le-ltb, ltb-false, lit≤, length-append}
use Rattle.std.proofs.lemmas.List.Edits.{sets-eq}
use Rattle.std.proofs.Math.Seq.{length-sets}
use Rattle.ground.proofs.Laws.Choice.{either}
use Rattle.constants.specs.Sizes.{rows_most, line_room, piece_least, pieces_most}
use Rattle.gap_slots.specs.Slots.{slot_at}
use Rattle.job_settings.specs.declared.Settings.{Settings}
use Rattle.row_state.specs.declared.State.{State}
use Rattle.row_state.specs.States.{state_start}
use Rattle.row_values.specs.Rows.{rows_from}
use Rattle.row_values.proofs.Laws.Rows.{rows_length}
use Rattle.row_rules.specs.declared.Ran.{Ran}
use Rattle.row_rules.specs.Rules.{admits}
use Rattle.row_rules.specs.Runs.{Rows}
use Rattle.row_rules.proofs.Laws.Runs.{answers_few}
use Rattle.job_contents.specs.declared.Bodies.{Bodies}
use Rattle.listing_rules.specs.Text.{header, lines, refusal_line}
use Rattle.listing_rules.proofs.Laws.Text.{lines_length, header_length, ending_length, refusal_length}
use Rattle.job.specs.Load.{Loaded}
use Rattle.job.specs.Load.{gains_body, records_body, rows_body, row_count, loaded_of}
use Rattle.job.proofs.Laws.Theorems.Taking.{takes}
use Rattle.job.proofs.Laws.Theorems.Runs.{start_handed_lem}
use Rattle.listing.specs.declared.Stand.{Stand}
use Rattle.listing.specs.Pieces.{Written}
use Rattle.listing.specs.Listing.{job_gain, listing_of}
use Rattle.listing.specs.Pieces.{Part, part_with, listed_rows, rows_at_once, rows_after, closes, rows_part, some_rows}
use Rattle.listing.specs.Pieces.{if_taken, part_of, Made, made, piece_of}
use Rattle.listing.proofs.Laws.Pieces.{room_left, one_piece}
use Rattle.listing_theorems.specs.Theorems.{Finishes, Theorems}
use Rattle.listing_theorems.proofs.Laws.Theorems.Listings.{alone, handed}
use Rattle.listing_theorems.proofs.Laws.Theorems.Joined.{over_joined, after_part, all_rest, later_joined}
use Rattle.listing_theorems.proofs.Laws.Theorems.By.{by_ids, read_back, by_records, by_rising}

module _ (job : List ℕ) (sizes : ℕ → ℕ) (enough : (k : ℕ) → piece_least ≤ sizes k) where
  by_load : (n : ℕ) → rows_most + 1 ≤ n → (x : Loaded) → loaded_of job ≡ x → Finishes job sizes (suc n) Stand.Before (listing_of job)
  unfolding listing_of part_of state_start
  by_load n h (Ok (s, b)) e =
      let t = takes job e in
      let f = later_joined job t sizes enough e n (state_start s) (start_handed_lem job e).ranged (omega arith) (omega (arith, t.rows_few)) in
      rw (e, all_rest job t (state_start s)) (after_part job sizes (part_with header (Stand.After (state_start s))) (rw e) f)
  by_load n h (Err r) e =
      rw e
      (subst (Finishes job sizes (suc n) Stand.Before) (append-nil (refusal_line r))
      (after_part job sizes (part_with (refusal_line r) Stand.Over) (rw e) (over_joined job sizes n)))

  whole : (n : ℕ) → pieces_most ≤ n → Finishes job sizes n Stand.Before (listing_of job)
  whole zero h = absurd (let z : ⊥ = omega arith in z)
  whole (suc n) h = by_load n (omega arith) (loaded_of job) refl

-- ---- room

closes_length : (count : ℕ) (x : Ran) → length (closes count x) ≤ line_room
unfolding closes
closes_length count (Ran.Done st) =
    either (λ (l : List ℕ). length l ≤ line_room) (ltb count 1) (λ e. ending_length st.row st.held) (λ e. lit≤ tt)
closes_length count (Ran.Stopped st r) = refusal_length r
closes_length count (Ran.Refused r) = refusal_length r

-- an answer for each row at most
few : (s : Settings) (b : Bodies) (job : List ℕ) (st : State) (row count : ℕ) → length (rows_after s b job st row count).answers ≤ count
unfolding rows_after
few s b job st row count =
    either (λ (r : Rows). length r.answers ≤ count) (admits s (gains_body job b) st)
    (λ e. let l = rows_length (rows_body job b) count row in
    omega (arith, answers_few s (job_gain job s b) (slot_at (records_body job b)) st (rows_from (rows_body job b) count row) false)) (λ e. omega arith)

some_fit : (s : Settings) (b : Bodies) (job : List ℕ) (st : State) (size : ℕ) → piece_least ≤ size → length (some_rows s b job st size).text ≤ size
unfolding some_rows rows_part
some_fit s b job st size h =
    let done = listed_rows (row_count job b) st.row in
    let count = rows_at_once (row_count job b - done) size in
    let r = rows_after s b job st done count in
    let l = lines_length (job_gain job s b).carries_data st.row r.answers in
    rw (length-append (lines (job_gain job s b).carries_data st.row r.answers) (closes count r.result))
    (omega (arith, room_left (row_count job b - done) size h, few s b job st done count, closes_length count r.result))

-- a piece of a job that is taken that has room, or a refusal
taken_fit : (x : Loaded) (f : Settings → Bodies → Part) (size : ℕ) → piece_least ≤ size →
    ((s : Settings) (b : Bodies) → length (f s b).text ≤ size) → length (if_taken x f).text ≤ size
taken_fit (Ok (s, b)) f size h l = l s b
taken_fit (Err r) f size h l = omega (arith, refusal_length r)

fits : (job : List ℕ) (stand : Stand) (size : ℕ) → piece_least ≤ size → length (part_of job stand size).text ≤ size
unfolding part_of
fits job Stand.Before size h = taken_fit (loaded_of job) _ size h (λ s b. omega (arith, header_length))
fits job (Stand.After st) size h = taken_fit (loaded_of job) _ size h (λ s b. some_fit s b job st size h)
fits job Stand.Over size h = omega arith

stored : (job : List ℕ) (stand : Stand) (out : List ℕ) → piece_least ≤ length out → piece_of job stand out ≡
    (let p = part_of job stand (length out) in made (Ok ((length p.text), p.next)) (p.text ++ drop (length p.text) out))
unfolding piece_of
stored job stand out h =
    let p = part_of job stand (length out) in
    let z = zero-add (length p.text) in
    rw (le-ltb (length out) piece_least h)
    (ap (made (Ok ((length p.text), p.next))) (rw z at (sets-eq p.text out 0 (rw z (fits job stand (length out) h)))))

-- how many bytes an answer names
abbrev named : Written → ℕ
named (Ok (n, next)) = n
named (Err n) = 0

pub inside : (job : List ℕ) (stand : Stand) (out : List ℕ) {r : Written} {left : List ℕ} {n : ℕ} {next : Stand} →
    made r left ≡ piece_of job stand out → r ≡ Ok (n, next) → n ≤ length left
unfolding piece_of
inside job stand out {r} {left} {n} e f =
    let p = part_of job stand (length out) in
    let h : named r ≤ length left =
    subst (λ (m : Made). named m.result ≤ length m.out) (sym e)
    (either (λ (m : Made). named m.result ≤ length m.out) (ltb (length out) piece_least) (λ t. omega arith)
    (λ t. rw (length-sets out 0 p.text) (fits job stand (length out) (ltb-false (length out) piece_least t)))) in
    let g : named r ≡ n = ap named f in
    omega arith

pub theorems : Theorems
theorems =
    record {
      alone = alone;
      whole = whole;
      fits = fits;
      stored = stored;
      inside = inside;
      handed = λ job stand size e. handed job e stand size;
      one_piece = λ job stand out t u. one_piece job stand out t u;
      by = λ h a. by_ids h a;
      by_back = λ h a. read_back h a;
      by_records = λ job t. by_records job t;
      by_rising = by_rising;
    }

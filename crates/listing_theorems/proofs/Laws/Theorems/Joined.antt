-- The pieces of a job that is taken, joined: a piece's rows, then the rest, are all rows.
-- Assumes nothing.
use Prim.Native.Nat.{ℕ, zero, suc, ◌+◌, ◌-◌, ◌≤◌, ◌<◌}
use Rattle.std.specs.Prelude.{◌≡◌, ◌⊎◌, Bool, true, false, ltb, Ok}
use Rattle.std.proofs.Math.Path.{refl, ap, subst}
use Rattle.std.proofs.Common.{sym, ◌∙◌, ap₂, inl, inr, not-suc-le-zero, le-ltb, ltb-true, ltb-false}
use mathlib.Core.List.{List, [], ◌++◌, append-nil, append_assoc}
use Rattle.std.proofs.Math.Nat.{min-eq_left}
use native.Mathlib.Omega.{arith}
use Rattle.std.proofs.Math.ListN.{length}
use Rattle.ground.proofs.Laws.Choice.{if_true}
use Rattle.constants.specs.Sizes.{piece_least}
use Rattle.gap_slots.specs.declared.Slot.{Slot}
use Rattle.gap_slots.specs.Slots.{slot_at}
use Rattle.power.specs.declared.Gain.{Gain}
use Rattle.power.proofs.Laws.Gain.{gain_in}
use Rattle.job_settings.specs.declared.Settings.{Settings}
use Rattle.row_state.specs.declared.State.{State}
use Rattle.row_state.specs.States.{StateIn}
use Rattle.row_values.specs.declared.Row.{Row}
use Rattle.row_values.specs.declared.Answer.{Answer}
use Rattle.row_values.specs.Rows.{with_cut, rows_from}
use Rattle.row_values.proofs.Laws.Rows.{offered_whole, rows_length, rows_split}
use Rattle.row_rules.specs.declared.Ran.{Ran}
use Rattle.row_rules.specs.Runs.{Rows, closing, go, go_over, onward, OnRun, Counted}
use Rattle.row_rules.proofs.Laws.Runs.{run_append, rows_counted, rows_closed}
use Rattle.row_rules.specs.Refusing.{StateRanged}
use Rattle.row_rules.proofs.Laws.Theorems.Refusals.{ranged_admits}
use Rattle.job_contents.specs.declared.Bodies.{Bodies}
use Rattle.listing_rules.specs.Text.{lines}
use Rattle.listing_rules.proofs.Laws.Text.{lines_append}
use Rattle.job.specs.Load.{Loaded}
use Rattle.job.specs.Load.{gains_body, rows_body, records_body, row_count, loaded_of}
use Rattle.job.specs.Theorems.{Takes}
use Rattle.listing.specs.declared.Stand.{Stand}
use Rattle.listing.specs.Listing.{closing_line, shown, job_gain}
use Rattle.listing.specs.Pieces.{Part, rows_at_once, rows_after, closes, stands_at, rows_part, some_rows, part_of}
use Rattle.listing.proofs.Laws.Pieces.{some_left, no_more}
use Rattle.listing_theorems.specs.Theorems.{joined, stand_after, Finishes}

-- up to a number: below it, or there
le_cases : {a c : ℕ} → a ≤ c → (c ≡ a) ⊎ (a < c)
le_cases {a} {c} h = by (ltb a c) refl
  where
    by : (t : Bool) → ltb a c ≡ t → (c ≡ a) ⊎ (a < c)
    by true e = inr (ltb-true a c e)
    by false e = let z = ltb-false a c e in inl (omega arith)

-- a text, nothing, and two more texts
glue : (x y z : List ℕ) → x ++ [] ++ (y ++ z) ≡ x ++ y ++ z
glue x y z = rw (append-nil x) (sym (append_assoc x y z))

module _ (job : List ℕ) (sizes : ℕ → ℕ) where
  -- no text comes after the end
  pub over_joined : (n : ℕ) → Finishes job sizes n Stand.Over []
  unfolding joined stand_after part_of
  over_joined zero = record { joins = refl; ends = refl }
  over_joined (suc n) = let f = over_joined n in record { joins = f.joins; ends = f.ends }

  -- one piece, then others
  pub after_part : {n : ℕ} {stand : Stand} (p : Part) {t : List ℕ} → part_of job stand (sizes n) ≡ p → Finishes job sizes n p.next t →
      Finishes job sizes (suc n) stand (p.text ++ t)
  unfolding joined stand_after
  after_part {n} p e f =
      record {
        joins = ap (λ (q : Part). q.text ++ joined job sizes n q.next) e ∙ ap (λ (l : List ℕ). p.text ++ l) f.joins;
        ends = ap (λ (q : Part). stand_after job sizes n q.next) e ∙ f.ends;
      }

module _ (job : List ℕ) {s : Settings} {b : Bodies} (taken : Takes job s b) where
  abbrev rows : ℕ
  rows = row_count job b

  abbrev slots : ℕ → Slot
  slots = slot_at (records_body job b)

  abbrev gain : Gain
  gain = job_gain job s b

  abbrev sends : Bool
  sends = gain.carries_data

  abbrev run : State → List Row → Rows
  run st more = go s gain slots st more false

  -- so many rows of the file from a row on, and all of them
  abbrev some : (row count : ℕ) → List Row
  some row count = rows_from (rows_body job b) count row

  abbrev rest : ℕ → List Row
  rest row = some row (rows - row)

  -- ---- rows

  -- the file has no row that is cut short
  pub all_rest : (st : State) → go_over s gain slots st (rows_body job b) ≡ run st (rest 0)
  all_rest st =
      let w = offered_whole (rows_body job b) rows taken.rows_own.its_length in
      let e : rows ≡ rows - 0 = omega arith in
      ap₂ (λ (l : List Row) (c : Bool). go s gain slots st l c) (ap (λ (n : ℕ). some 0 n) (w.0 ∙ e)) w.1

  then_rest_lem : (row count : ℕ) → row + count ≤ rows → some row count ++ rest (row + count) ≡ rest row
  then_rest_lem row count h =
      let e : count + (rows - (row + count)) ≡ rows - row = omega arith in
      sym (rows_split (rows_body job b) count (rows - (row + count)) row) ∙ ap (some row) e

  -- how far their run comes
  counted : (st : State) (row count : ℕ) → Counted st count (run st (some row count)).answers (run st (some row count)).result
  unfolding with_cut
  counted st row count = rw (rows_length (rows_body job b) count row) at (rows_counted s gain slots st (some row count) false)

  module _ (sizes : ℕ → ℕ) (enough : (k : ℕ) → piece_least ≤ sizes k) where
    -- what may follow a piece of some rows, so that all rows are shown
    record Follows (n row count : ℕ) (answers : List Answer) (x : Ran) : Type 0 where
      text : List ℕ
      finishes : Finishes job sizes n (stands_at count x) text
      joins : lines sends row answers ++ closes count x ++ text ≡ shown sends row (onward x answers (λ next. run next (rest (row + count))))

    abbrev Shows : ℕ → State → Type 0
    Shows n st = Finishes job sizes n (Stand.After st) (shown sends st.row (run st (rest st.row)))

    module _ (st : State) {answers : List Answer} where
      -- no row was left: the last line ends the listing
      last : (n : ℕ) {x : Ran} → rows ≡ st.row → Counted st 0 answers x → Follows n st.row 0 answers x
      unfolding closes stands_at closing_line closing onward go rows_from
      last n e (Counted.done {after} k a m r) =
          let none : rows - (st.row + 0) ≡ 0 = omega arith in
          record { text = []; finishes = over_joined job sizes n; joins = rw (none, append-nil answers) (append-nil _) }
      last n e (Counted.stopped k a m r) = absurd (let z : ⊥ = omega arith in z)

      -- some rows were left: those that were taken are shown, then the others
      more : (n count : ℕ) {x : Ran} → 1 ≤ count → Counted st count answers x →
          OnRun (λ after. after.row ≡ st.row + count → Shows n after) x → Follows n st.row count answers x
      unfolding closes stands_at closing_line onward OnRun
      more n count c (Counted.done {after} k a m r) f =
          let e : after.row ≡ st.row + count = omega arith in
          let l : length answers ≡ count = omega arith in
          let t = run after (rest (st.row + count)) in
          record {
            text = shown sends (st.row + count) t;
            finishes =
                rw (le-ltb count 1 c) (subst (λ (k : ℕ). Finishes job sizes n (Stand.After after) (shown sends k (run after (rest k)))) e (f e));
            joins = rw (le-ltb count 1 c, lines_append sends st.row answers t.answers, l)
                (glue (lines sends st.row answers) (lines sends (st.row + count) t.answers) (closing_line t.result));
          }
      more n count c (Counted.stopped k a m r) f = record { text = []; finishes = over_joined job sizes n; joins = append-nil _ }

    module _ (loaded : loaded_of job ≡ Ok (s, b)) where
      -- a piece from a state that a job hands out
      some_rows_lem : (st : State) (size : ℕ) → StateRanged s (gains_body job b) st → st.row ≤ rows → part_of job (Stand.After st) size ≡
          (let count = rows_at_once (rows - st.row) size in rows_part sends st.row count (run st (some st.row count)))
      unfolding part_of some_rows rows_after
      some_rows_lem st size r l =
          rw (loaded, min-eq_left l)
          (ap (rows_part sends st.row (rows_at_once (rows - st.row) size)) (sym (if_true _ _ (ranged_admits s (gains_body job b) st r))))

      module _ (n : ℕ) (st : State) (r : StateRanged s (gains_body job b) st) (l : st.row ≤ rows) (h : rows - st.row < suc n)
          (next : (after : State) → StateRanged s (gains_body job b) after → after.row ≤ rows → rows - after.row < n → Shows n after) where
        abbrev count : ℕ
        count = rows_at_once (rows - st.row) (sizes n)

        abbrev blk : List Row
        blk = some st.row count

        in_file : st.row + count ≤ rows
        in_file = omega (arith, no_more (rows - st.row) (sizes n))

        go_from_lem : 1 ≤ count → (after : State) → StateIn s.links gain.ceiling after → after.row ≡ st.row + count → Shows n after
        go_from_lem c after k e =
            next after (record { settings = r.settings; triple = r.triple; state = k }) (omega (arith, in_file)) (omega (arith, in_file))

        go_on : 1 ≤ count → (x : Ran) → OnRun (StateIn s.links gain.ceiling) x → OnRun (λ after. after.row ≡ st.row + count → Shows n after) x
        unfolding OnRun
        go_on c (Ran.Done after) k = go_from_lem c after k
        go_on c (Ran.Stopped after q) k = go_from_lem c after k
        go_on c (Ran.Refused q) k = tt

        closed : OnRun (StateIn s.links gain.ceiling) (run st blk).result
        closed =
            rows_closed s gain slots st blk false r.settings (gain_in r.triple.ranged r.settings.maximum) r.state
            (rw (rows_length (rows_body job b) count st.row) (omega (arith, in_file, taken.rows_few)))

        follows : Follows n st.row count (run st blk).answers (run st blk).result
        follows = by (le_cases l)
          where
            by : (rows ≡ st.row) ⊎ (st.row < rows) → Follows n st.row count (run st blk).answers (run st blk).result
            by (inl e) =
                let z : 0 ≡ count = omega (arith, no_more (rows - st.row) (sizes n)) in
                subst (λ (c : ℕ). Follows n st.row c (run st (some st.row c)).answers (run st (some st.row c)).result) z
                (last st n e (counted st st.row 0))
            by (inr k) =
                let c = some_left (rows - st.row) (sizes n) (enough n) (omega arith) in
                more st n count c (counted st st.row count) (go_on c (run st blk).result closed)

        -- a piece's rows, then the rest, are all rows
        all : onward (run st blk).result (run st blk).answers (λ after. run after (rest (st.row + count))) ≡ run st (rest st.row)
        all = sym (run_append s gain slots st blk (rest (st.row + count)) false) ∙ ap (run st) (then_rest_lem st.row count in_file)

        piece_joined : Shows (suc n) st
        unfolding rows_part
        piece_joined =
            subst (Finishes job sizes (suc n) (Stand.After st)) (follows.joins ∙ ap (shown sends st.row) all)
            (after_part job sizes _ (some_rows_lem st (sizes n) r l) follows.finishes)

      pub later_joined : (n : ℕ) (st : State) → StateRanged s (gains_body job b) st → st.row ≤ rows → rows - st.row < n → Shows n st
      later_joined zero st r l h = absurd (not-suc-le-zero h)
      later_joined (suc n) st r l h = piece_joined n st r l h (later_joined n)

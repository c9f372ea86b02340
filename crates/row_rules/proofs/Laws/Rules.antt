-- The laws of a row: its four cases, and that the state after it is in its ranges.
-- Assumes nothing.
mod Examples
use Rattle.std.specs.Prelude.{ℕ, ◌+◌, ◌*◌, ◌^◌, ◌≤◌, ◌<◌, ◌≡◌, Bool, true, false, not, ◌&&◌, ltb, pos, negsuc, nat_abs, ◌+ℤ◌, ◌-ℤ◌, ◌≤ℤ◌, Ok, Err}
use Rattle.std.proofs.Math.Path.{refl}
use Rattle.std.proofs.Common.{sym, subst, ◌∙◌, arith, ltb-true}
use Rattle.std.proofs.lemmas.Bool.{not-false}
use Rattle.std.proofs.Math.IntN.{ℤ}
use Rattle.std.specs.Int.Signed.{lt_z}
use Rattle.ground.proofs.Laws.Choice.{clash, if_false, either, neither}
use Rattle.ground.specs.Integers.{Within, lesser}
use Rattle.ground.proofs.Laws.Integers.Parts.{sum, dif}
use Rattle.ground.proofs.Laws.Integers.Signs.{signs, lesser_of}
use Rattle.ground.proofs.Laws.Integers.Products.{abs_in}
use Rattle.ground.proofs.Laws.Ranges.{inside}
use Rattle.constants.specs.Sizes.{power_least, start_most, pilots_least, pilots_most}
use Rattle.constants.specs.Refusals.{refusal, wrong_row, power_too_low}
use Rattle.gap_slots.specs.declared.Slot.{Slot}
use Rattle.gap_slots.specs.Slots.{opens_uplink, opens_downlink}
use Rattle.gap_runs.proofs.Laws.Runs.{walked_in}
use Rattle.command_algorithms.specs.Sets.{within_links}
use Rattle.command_algorithms.proofs.Laws.Sets.{after_in}
use Rattle.power.specs.declared.Gain.{Gain}
use Rattle.command.proofs.Laws.Row.{command_in}
use Rattle.job_settings.specs.declared.Settings.{Settings}
use Rattle.row_state.specs.declared.State.{State}
use Rattle.row_state.specs.States.{held_most, UnsentIn, SentIn, StateIn}
use Rattle.row_change.specs.Change.{change_of}
use Rattle.row_change.proofs.Laws.Change.{Changes, change_first, change_most, here_up}
use Rattle.row_change.proofs.Laws.After.{filter_in, opening_in}
use Rattle.row_values.specs.declared.Row.{Row}
use Rattle.row_values.specs.declared.Answer.{Answer}
use Rattle.row_rules.specs.declared.Books.{Books}
use Rattle.row_rules.specs.Stepping.{Stepped}
use Rattle.row_rules.specs.Ranges.{InRanges}
use Rattle.row_rules.specs.Rules.{commands_wrong, pilots_wrong, row_wrong, resting, settled_of, sent_answer, gap_answer, next_state, sent_at, sent_row, row_with}
use Rattle.row_rules.specs.Rules.{row_in, row_of, here_at, command_at, sum_at, gap_next, next_at, sent_next, sent_books, OnTaken}

-- ---- the four cases of a row

module _ (s : Settings) (g : Gain) (slot : Slot) (st : State) (row : Row) where
  -- what holds in each case, holds of the row
  pub row_cases : (P : Stepped → Type 0) →
      (row_wrong s.links slot row ≡ true → P (Err (refusal wrong_row st.row))) →
      (row_wrong s.links slot row ≡ false → opens_uplink slot ≡ true →
      P (Ok ((gap_next s slot st row), (gap_answer slot (command_at s slot st row) st.held)))) →
      (row_wrong s.links slot row ≡ false → opens_uplink slot ≡ false → lt_z (sum_at s slot st row) power_least ≡ true →
      P (Err (refusal power_too_low st.row))) →
      (row_wrong s.links slot row ≡ false → opens_uplink slot ≡ false → lt_z (sum_at s slot st row) power_least ≡ false →
      P (Ok ((sent_next s g slot st row), (sent_answer g slot (command_at s slot st row) (sent_books s g slot st row))))) →
      P (row_of s g slot st row)
  unfolding row_of row_in row_with sent_row sent_at
  row_cases P wrong gap low sent =
      either P (row_wrong s.links slot row) wrong (λ w.
      either P (here_at s slot st).up (λ u. gap w (sym (here_up s.rpp slot _) ∙ u)) (λ u.
      either P (lt_z (sum_at s slot st row) power_least) (low w (sym (here_up s.rpp slot _) ∙ u)) (sent w (sym (here_up s.rpp slot _) ∙ u))))

-- ---- the bytes of a row that break no rule

pub bytes_right : (links : ℕ) (slot : Slot) (row : Row) → row_wrong links slot row ≡ false →
    (row.commands < 2 ^ links) × (opens_uplink slot ≡ false → (pilots_least ≤ row.pilots) × (row.pilots ≤ pilots_most))
unfolding row_wrong commands_wrong pilots_wrong
bytes_right links slot row e =
    let p = neither (commands_wrong links (opens_downlink slot) row.commands) (pilots_wrong (opens_uplink slot) row.pilots) e in
    let q = neither (not (within_links row.commands links)) (opens_downlink slot && ltb 0 row.commands) p.0 in
    (ltb-true row.commands (2 ^ links) (not-false _ q.0), λ u. inside pilots_least pilots_most row.pilots (if_false _ _ u ∙ p.1))

-- ---- the ranges

-- what is cut off at a ceiling joins what is withheld, and is no more than what the sum stands above it
cut_in : (held z ceiling : ℤ) (most more : ℕ) → Within (pos 0) (pos most) held → z ≤ℤ (ceiling +ℤ pos more) →
    Within (pos 0) (pos (most + more)) (held +ℤ (z -ℤ lesser z ceiling))
cut_in held z ceiling most more h k =
    let m = lesser z ceiling in
    record {
      low = omega (signs, lesser_of z ceiling, dif z m, sum held (z -ℤ m));
      high = omega (signs, lesser_of z ceiling, dif z m, sum held (z -ℤ m), sum ceiling (pos more));
    }

module _ {s : Settings} {g : Gain} {st : State} (slot : Slot) (row : Row) (h : InRanges s g st) where
  command_of_lem : nat_abs (command_at s slot st row) ≤ 1
  command_of_lem = command_in s.pca s.links (here_at s slot st).down (here_at s slot st).recovery st.row st.set row.commands

  changes : (pilots_least ≤ row.pilots) × (row.pilots ≤ pilots_most) → Changes st (command_at s slot st row) row.pilots
  changes p =
      record {
        command_in = command_of_lem;
        opening_in = h.state.opening_in;
        filter_in = h.state.filter_in;
        before_in = λ e. (h.state.sent e).pilots_in;
        pilots_in = p;
      }

  -- a power before limiting: before the first sent row the start power, later at most 2,257 from a power under the ceiling
  pub sum_first : st.sent ≡ false → Within power_least start_most (sum_at s slot st row)
  sum_first e =
      let u = (h.state.unsent e).power_in in
      let c = change_of s st (here_at s slot st) (command_at s slot st row) row.pilots in
      let z : c ≡ pos 0 = change_first s st (here_at s slot st) (command_at s slot st row) row.pilots e in
      record { low = omega (signs, sum st.power c); high = omega (signs, sum st.power c) }

  pub sum_later : st.sent ≡ true → (pilots_least ≤ row.pilots) × (row.pilots ≤ pilots_most) →
      Within (negsuc 11856) (g.ceiling +ℤ pos 2257) (sum_at s slot st row)
  sum_later e p =
      let u = (h.state.sent e).power_in in
      let c = change_of s st (here_at s slot st) (command_at s slot st row) row.pilots in
      let i = abs_in c (change_most s st (here_at s slot st) (command_at s slot st row) row.pilots (changes p)) in
      record { low = omega (signs, sum st.power c, i); high = omega (signs, sum st.power c, sum g.ceiling (pos 2257), i) }

  -- the books of a row that is sent
  books_in : (pilots_least ≤ row.pilots) × (row.pilots ≤ pilots_most) → lt_z (sum_at s slot st row) power_least ≡ false →
      SentIn g.ceiling (st.row + 1) (sent_books s g slot st row).power (sent_books s g slot st row).held row.pilots
  unfolding settled_of
  books_in p l =
      let k = lesser_of (sum_at s slot st row) g.ceiling in
      let c = h.gain.ceiling_in in
      record { power_in = record { low = omega (signs, k, c.low); high = omega (signs, k) }; held_in = by st.sent refl; pilots_in = p }
    where
      z : ℤ
      z = sum_at s slot st row

      by : (t : Bool) → st.sent ≡ t → Within (pos 0) (held_most (st.row + 1)) (st.held +ℤ (z -ℤ lesser z g.ceiling))
      by true e =
          let w = cut_in st.held z g.ceiling (7316 + 2257 * st.row) 2257 (h.state.sent e).held_in (sum_later e p).high in
          record { low = w.low; high = omega (signs, w.high) }
      by false e =
          let u = (h.state.unsent e).held_is in
          let c = h.gain.ceiling_in.low in
          let w = cut_in st.held z g.ceiling 0 7316 (record { low = omega signs; high = omega signs })
          (omega (signs, sum g.ceiling (pos 7316), (sum_first e).high)) in
          record { low = w.low; high = omega (signs, w.high) }

  -- the state after a row, from its books
  next_in : (b : Books) → row.commands < 2 ^ s.links → (b.sent ≡ false → UnsentIn b.power b.held b.pilots) →
      (b.sent ≡ true → SentIn g.ceiling (st.row + 1) b.power b.held b.pilots) → StateIn s.links g.ceiling (next_at s slot st row b)
  unfolding next_state
  next_in b c u v =
      record {
        row_in = omega (arith, h.room);
        unsent = u;
        sent = v;
        run_in = walked_in st.run slot h.state.run_in;
        opening_in = opening_in st.opening (here_at s slot st) (command_at s slot st row) h.state.opening_in command_of_lem;
        set_in = after_in st.row (here_at s slot st).down (here_at s slot st).recovery h.state.set_in c;
        filter_in = filter_in s st (here_at s slot st) (command_at s slot st row) b.limited command_of_lem h.state.filter_in;
      }

  later : Within (pos 0) (held_most st.row) st.held → Within (pos 0) (held_most (st.row + 1)) st.held
  later w = record { low = w.low; high = omega (signs, w.high) }

  -- "hold for every state handed out by … a step"
  pub row_closed : OnTaken (λ next a. StateIn s.links g.ceiling next) (row_of s g slot st row)
  unfolding OnTaken resting settled_of
  row_closed =
      row_cases s g slot st row (OnTaken (λ next a. StateIn s.links g.ceiling next))
      (λ w. tt)
      (λ w u. next_in (resting st) (bytes_right s.links slot row w).0 h.state.unsent (λ e. let b = h.state.sent e in
      record { power_in = b.power_in; held_in = later b.held_in; pilots_in = b.pilots_in }))
      (λ w u l. tt)
      (λ w u l. let r = bytes_right s.links slot row w in
      next_in (sent_books s g slot st row) r.0 (λ e. absurd (clash refl e)) (λ e. books_in (r.1 u) l))

-- its row is the next
pub row_counted : (s : Settings) (g : Gain) (slot : Slot) (st : State) (row : Row) → OnTaken (λ next a. next.row ≡ st.row + 1) (row_of s g slot st row)
unfolding OnTaken next_state
row_counted s g slot st row =
    row_cases s g slot st row (OnTaken (λ next a. next.row ≡ st.row + 1)) (λ w. tt) (λ w u. refl) (λ w u l. tt) (λ w u l. refl)

-- what holds of all that a row hands out, of the state and the answer that it handed out
pub on_taken : (P : State → Answer → Type 0) {x : Stepped} {next : State} {a : Answer} → x ≡ Ok (next, a) → OnTaken P x → P next a
unfolding OnTaken
on_taken P e h = subst (OnTaken P) e h

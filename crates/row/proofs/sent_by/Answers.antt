-- `row::sent_by` meets its contract: the power before limiting is formed as the rule has it, in a range where all that follows fits.
use Rattle.std.proofs.Common.{ℕ, ◌≡◌, ◌∙◌, false, ℤ, ◌+ℤ◌}
use Rattle.std.specs.Int.Signed.{lt_z}
use Rattle.std.specs.Int.{w8, w32}
use Rattle.std.proofs.lemmas.Int.{to_z-of_z}
use mir.Val.{SFits, to_z, of_z}
use Rattle.ground.proofs.Laws.Choice.{if_true, if_false}
use Rattle.ground.proofs.Laws.Integers.Signs.{signs, lesser_of}
use Rattle.constants.specs.Sizes.{power_least}
use Rattle.power.specs.declared.Gain.{Gain}
use Rattle.job_settings.specs.declared.Settings.{Settings}
use Rattle.row_state.specs.declared.State.{State}
use Rattle.row_rules.specs.declared.Books.{Books}
use Rattle.row_rules.specs.Rules.{settled_of, sent_at}
use Rattle.row.specs.Asks.{Settling, Answering, Summed}
use Rattle.row.proofs.Sizes.{power_fits, held_in, held_fits, ceiling_fits}
use Rattle.row.proofs.sent_by.Goals as goal

-- a number as the code reads it
abbrev read_of : ℤ → ℤ
read_of z = to_z w32 (of_z w32 z)

-- the power before limiting, as the code forms it and as the rule has it
module _ {s : Settings} {g : Gain} {st : State} {change : ℤ} (h : Summed s g st change) (f : SFits w32 change) where
  abbrev formed : ℤ
  formed = read_of (read_of st.power +ℤ read_of change)

  abbrev sum_of : ℤ
  sum_of = st.power +ℤ change

  added : read_of st.power +ℤ read_of change ≡ sum_of
  added = simp (to_z-of_z w32 _ (power_fits h.fine), to_z-of_z w32 _ f)

  added_fits : SFits w32 (read_of st.power +ℤ read_of change)
  added_fits = rw added (let w = h.sum_in in omega signs)

  formed_is : formed ≡ sum_of
  formed_is = to_z-of_z w32 _ added_fits ∙ added

  settling : Settling (read_of st.held) formed (read_of g.ceiling)
  settling =
      rw (formed_is, to_z-of_z w32 _ (held_fits h.fine), to_z-of_z w32 _ (ceiling_fits h.fine))
      (record { held_in = held_in h.fine; sum_in = h.sum_in; ceiling_in = h.fine.gain.ceiling_in })

  books_are : {b : Books} (pilots : ℕ) → b ≡ settled_of (read_of st.held) formed (read_of g.ceiling) pilots →
      b ≡ settled_of st.held sum_of g.ceiling pilots
  books_are pilots k = rw (formed_is, to_z-of_z w32 _ (held_fits h.fine), to_z-of_z w32 _ (ceiling_fits h.fine)) at k

  answering : {b : Books} (pilots : ℕ) → lt_z formed power_least ≡ false → b ≡ settled_of st.held sum_of g.ceiling pilots → Answering g b.power
  unfolding settled_of
  answering pilots e k =
      let n = rw formed_is at e in
      let l = lesser_of sum_of g.ceiling in
      let c = h.fine.gain.ceiling_in in
      rw k (record { gain = h.fine.gain; power_in = record { low = omega (signs, l, c.low, n); high = omega (signs, l, c.high) } })

pub overflow_add-sum : goal.overflow_add-sum
overflow_add-sum c = added_fits c.requires c.ranges.change

pub returns-then-sum-lt-POWER_LEAST : goal.returns-then-sum-lt-POWER_LEAST
unfolding sent_at
returns-then-sum-lt-POWER_LEAST c =
    c.refused_at.ensures ∙ if_true _ _ (rw (formed_is c.requires c.ranges.change) at c.if-sum-lt-POWER_LEAST.true)

pub settled-b-requires : goal.settled-b-requires
settled-b-requires c = settling c.requires c.ranges.change

pub sent_answer-a-requires : goal.sent_answer-a-requires
sent_answer-a-requires c =
    answering c.requires c.ranges.change _ c.if-sum-lt-POWER_LEAST.false (books_are c.requires c.ranges.change _ c.settled-b.ensures)

pub returns : goal.returns
unfolding sent_at
returns c =
    let b = books_are c.requires c.ranges.change _ c.settled-b.ensures in
    let f = to_z-of_z w8 _ c.ranges.command in
    let n = rw b at (simp f at c.next-n.ensures) in
    let a = rw b at (simp f at c.sent_answer-a.ensures) in
    rw (n, a) (if_false _ _ (rw (formed_is c.requires c.ranges.change) at c.if-sum-lt-POWER_LEAST.false))

-- `listing::close` meets its contract: a line that has room is stored whole, and where rows are left there is none.
use Rattle.std.proofs.Common.{◌≡◌, ◌≤◌, ◌+◌, ◌⊎◌, ℕ, List, length, inl, inr, rules, arith, Ok, add-zero, lt-ltb, le-ltb, to_z-of_z, SFits, w32}
use Rattle.ground.specs.declared.Refusal.{Refusal}
use Rattle.constants.specs.Sizes.{line_room}
use Rattle.row_state.specs.declared.State.{State}
use Rattle.row_rules.specs.declared.Ran.{Ran}
use Rattle.listing_rules.specs.Text.{WroteLines, ending, refusal_line}
use Rattle.listing.specs.declared.Stand.{Stand}
use Rattle.listing.specs.Asks.{closed_at}
use Rattle.listing.specs.Pieces.{made, closes, stands_at}
use Rattle.listing.proofs.Stored.{one_line}
use Rattle.listing.proofs.close.Goals as goal

-- a refusal's line closes a run that it ended, whether rows were taken before it or not
refused : (count : ℕ) {at next : ℕ} {out exit : List ℕ} {ran : Ran} {r : Refusal} →
    ((st : State) × (ran ≡ Ran.Stopped st r)) ⊎ (ran ≡ Ran.Refused r) → at + line_room ≤ length out →
    WroteLines next exit out at 1 (refusal_line r) → made (Ok (next, Stand.Over)) exit ≡ closed_at out at count ran
unfolding closed_at closes stands_at
refused count {r = r} (inl (st, e)) h w = rw e (one_line (refusal_line r) Stand.Over h w)
refused count {r = r} (inr e) h w = rw e (one_line (refusal_line r) Stand.Over h w)

pub returns-then-count-gt0 : goal.returns-then-count-gt0
unfolding closed_at closes stands_at
returns-then-count-gt0 c = rw (c.in-Done.is, le-ltb c.args.count 1 (omega arith), add-zero)

pub returns-else-count-gt0 : goal.returns-else-count-gt0
unfolding closed_at closes stands_at
returns-else-count-gt0 c =
    let st = c.in-Done.st in
    let held : SFits w32 st.held = search rules in
    rw (c.in-Done.is, lt-ltb c.args.count 1 (omega arith))
    (one_line (ending st.row st.held) Stand.Over c.requires (rw (to_z-of_z held) at c.ending.ensures))

pub returns-in-Stopped : goal.returns-in-Stopped
returns-in-Stopped c = refused c.args.count c.in-Stopped.is c.requires c.refusal_line.ensures

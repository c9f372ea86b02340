-- `Pen::by_field` meets its contract: a turn stores the next id, and after the last all ids are stored, or there is none.
use Rattle.std.proofs.Common.{◌≡◌, arith, rules, to_z-of_z, SFits, w32}
use Rattle.constants.specs.Sizes.{id_most}
use Rattle.listing_rules.specs.Text.{passing}
use Rattle.listing_text.specs.Asks.{ids_stored}
use Rattle.listing_text.proofs.Ids.{ids_end, next_in, next_out, next_id, no_id, with_dash, with_ids}
use Rattle.listing_text.proofs.Pens.{nothing, same_size}
use Rattle.listing_text.proofs.Pen.by_field.Goals.{then-ids-k-eq1, else-ids-k-eq1}
use Rattle.listing_text.proofs.Pen.by_field.Goals as goal

pub loop-k-init : goal.loop-k-init
unfolding ids_stored passing
loop-k-init c = nothing _

pub id-requires : goal.id-requires
id-requires c =
    let w = c.loop-k.invariant in
    let e = ids_end _ c.loop-k.k (omega arith) w in
    (omega (arith, same_size w), omega arith)

pub loop-k-preserved : goal.loop-k-preserved
loop-k-preserved c =
    elim c.if-ids-k-eq1.branch [
      | then-ids-k-eq1 w ↦ rw w.self-is (next_id _ c.loop-k.k (omega arith) c.loop-k.invariant (next_in _ _ w.if-ids-k-eq1.true) w.id.ensures)
      | else-ids-k-eq1 w ↦ rw w.self-is (no_id _ c.loop-k.k c.loop-k.invariant (next_out _ _ w.if-ids-k-eq1.false))
    ]

pub returns-then-start-self : goal.returns-then-start-self
returns-then-start-self c =
    let uplink : SFits w32 c.args.a.uplink = search rules in
    let downlink : SFits w32 c.args.a.downlink = search rules in
    let all : c.loop-k.k ≡ id_most = omega arith in
    let up = rw (to_z-of_z uplink) at c.id_set.ensures in
    let down = rw (to_z-of_z downlink) at c.id_set-2.ensures in
    with_ids _ _ (rw (up, down)) c.if-start-self.true (rw all at c.loop-k.invariant)

pub returns : goal.returns
returns c =
    let uplink : SFits w32 c.args.a.uplink = search rules in
    let downlink : SFits w32 c.args.a.downlink = search rules in
    let all : c.loop-k.k ≡ id_most = omega arith in
    let up = rw (to_z-of_z uplink) at c.id_set.ensures in
    let down = rw (to_z-of_z downlink) at c.id_set-2.ensures in
    with_dash _ _ (rw (up, down)) c.if-start-self.false (rw all at c.loop-k.invariant) c.word.ensures

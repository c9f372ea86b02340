-- `row::calm::calm_row` meets its contract: bytes that break no rule have 3 to 8 pilot bits, and the fifth rule of the change is the row's own.
use Rattle.std.proofs.Common.{◌≡◌, sym, ap, ◌∙◌, false, arith, ℤ}
use Rattle.std.specs.Int.{w8, w32}
use Rattle.ground.proofs.Laws.Choice.{if_true}
use Rattle.ground.proofs.Laws.Integers.Fits.{same}
use Rattle.command.proofs.Laws.Row.{command_in}
use Rattle.row_change.specs.Change.{change_of}
use Rattle.row_rules.specs.Rules.{row_wrong, sent_row, row_of}
use Rattle.row_rules.proofs.Laws.Rules.{bytes_right}
use Rattle.row.specs.Asks.{Sending}
use Rattle.row.specs.Calm.{calm_here, still}
use Rattle.row.proofs.Sending.{summed}
use Rattle.row.proofs.Quiet.{AtRest, calm_told, calm_change, calm_sent}
use Rattle.row.proofs.calm.calm_row.Goals as goal

pub returns-then-row_wrong : goal.returns-then-row_wrong
unfolding row_of
returns-then-row_wrong c = c.refused_at.ensures ∙ if_true _ _ (sym c.row_wrong.ensures ∙ c.if-row_wrong.true)

pub returns-then-row-lt-PILOTS_LEAST : goal.returns-then-row-lt-PILOTS_LEAST
returns-then-row-lt-PILOTS_LEAST c =
    let t = calm_told _ _ c.requires.calm in
    absurd (let p = ((bytes_right _ _ _ (sym c.row_wrong.ensures ∙ c.if-row_wrong.false)).1 t.up).0 in omega arith)

pub returns-then-row-gt-PILOTS_MOST : goal.returns-then-row-gt-PILOTS_MOST
returns-then-row-gt-PILOTS_MOST c =
    let t = calm_told _ _ c.requires.calm in
    absurd (let p = ((bytes_right _ _ _ (sym c.row_wrong.ensures ∙ c.if-row_wrong.false)).1 t.up).1 in omega arith)

-- its change is the rules', by the fifth of them
module _ (c : goal.After-by_step-change) where
  right : row_wrong c.args.s.links c.args.slot c.args.row ≡ false
  right = sym c.row_wrong.ensures ∙ c.if-row_wrong.false

  told : AtRest c.args.slot c.args.st
  told = calm_told _ _ c.requires.calm

  sending : Sending c.args.s c.args.g c.args.st c.command-c.result c.args.row.pilots
  sending = record { fine = c.requires.fine; command_in = rw c.command-c.ensures (command_in _ _ _ _ _ _ _); pilots_in = (bytes_right _ _ _ right).1 told.up }

  changed : c.by_step-change.result ≡ change_of c.args.s c.args.st calm_here c.command-c.result c.args.row.pilots
  changed =
      let m = c.command-c in
      (simp (same w8 m.result m.type_inv) at c.by_step-change.ensures) ∙ calm_change told c.args.s m.result c.args.row.pilots

pub sent_by-requires : goal.sent_by-requires
sent_by-requires c =
    let r = c.by_step-change in
    simp (same w32 r.result r.type_inv) (rw (changed c) (summed (sending c) calm_here))

pub returns : goal.returns
unfolding sent_row
returns c =
    let m = c.command-c in
    let r = c.by_step-change in
    let b = c.args in
    let e = simp (same w8 m.result m.type_inv, same w32 r.result r.type_inv) at c.sent_by.ensures in
    (rw (changed c.before) at e) ∙ ap (λ (x : ℤ). sent_row b.s b.g b.slot b.st calm_here still x b.row) m.ensures
    ∙ calm_sent (told c.before) b.s b.g b.row (right c.before)

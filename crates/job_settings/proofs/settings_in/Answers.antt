-- `job_settings::settings_in` meets its contract: std's reading of signed bytes is two's complement.
-- Assumes nothing.
use Rattle.std.proofs.Common.{◌∙◌, ◌≡◌, ap, arith, [], ◌∷◌, get_or, w8, w16, w32}
use Rattle.std.specs.Int.{from_le_bytes}
use Rattle.std.proofs.lemmas.Int.{ints}
use mir.Val.{to_z, of_z}
use Rattle.ground.specs.Bytes.{pair_at}
use Rattle.job_settings.proofs.Laws.Body.{signed_byte, signed_pair}
use Rattle.job_settings.specs.Body.{settings_in}
use Rattle.job_settings.proofs.settings_in.Goals as goal

pub returns : goal.returns
unfolding settings_in
returns c =
    let body = c.args.body.now in
    let eight = c.type_inv.body 8 in
    let ten = c.type_inv.body 10 in
    let eleven = c.type_inv.body 11 in
    let byte : to_z w8 (of_z w8 c.from_le_bytes.result) ≡ to_z w8 (get_or body 8 0) = omega (arith, ints) in
    let sum : from_le_bytes w16 (get_or body 10 0 ∷ get_or body 11 0 ∷ []) ≡ pair_at body 10 = omega arith in
    let two : c.from_le_bytes-2.result ≡ to_z w16 (pair_at body 10) = c.from_le_bytes-2.ensures ∙ ap (to_z w16) sum in
    let pair : to_z w32 (of_z w32 c.from.result) ≡ to_z w16 (pair_at body 10) = omega (arith, ints) in
    rw (byte ∙ signed_byte (get_or body 8 0) (omega arith), pair ∙ signed_pair (pair_at body 10) (omega arith))

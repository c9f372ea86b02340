-- `job_file::byte_bits` meets its contract: a byte holds the number.
use Rattle.std.proofs.Common.{◌∙◌, ap, w8}
use Rattle.std.proofs.lemmas.Int.{to_z-of_z}
use mir.Val.{of_z}
use Rattle.job_file.proofs.Bits.{byte_is}
use Rattle.job_file.proofs.byte_bits.Goals as goal

pub returns : goal.returns
returns c =
    let z = c.args.z in
    let h = c.ranges.z in
    c.cast_unsigned.ensures ∙ ap (of_z w8) (to_z-of_z w8 z h) ∙ byte_is z h

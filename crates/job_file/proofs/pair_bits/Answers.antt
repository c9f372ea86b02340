-- `job_file::pair_bits` meets its contract: what is held is the number, or the nearest that two bytes hold.
use Rattle.std.proofs.Common.{◌∙◌, ap, arith, w16, w32}
use Rattle.std.proofs.lemmas.Int.{ints, to_z-of_z}
use Rattle.job_file.specs.File.{pair_bytes}
use Rattle.job_file.proofs.Bits.{pair_is}
use Rattle.job_file.proofs.pair_bits.Goals as goal

pub returns : goal.returns
returns c =
    let z = c.args.z in
    let r = c.clamp.result in
    let h = c.clamp.ensures in
    (rw (to_z-of_z w32 r (omega (arith, ints, h)), to_z-of_z w16 r (omega (arith, ints, h))) at c.to_le_bytes.ensures)
    ∙ ap pair_bytes (pair_is z r (rw (to_z-of_z w32 z c.ranges.z) at h.value))

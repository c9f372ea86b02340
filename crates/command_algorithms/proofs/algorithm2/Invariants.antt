-- The bytes have been halved once for each link set passed, none of these gave -1, and `ups` of them gave +1.
use Rattle.std.proofs.Common.{◌-◌, ◌≡◌, ◌≤◌}
use Rattle.command_algorithms.specs.Algorithms.{temporaries, combined}
use Rattle.command_algorithms.proofs.Votes.{shifted, counting}
use Rattle.command_algorithms.proofs.algorithm2.Given as goal

abbrev pub invariant-loop-link : goal.invariant-loop-link
invariant-loop-link l =
    (l._link ≤ l.links) × (l.ups ≤ l._link) × (l.rest ≡ shifted l.initial.rest l._link) ×
    (combined l.links (temporaries l.initial.rest l.links 0) ≡ counting l.links l.ups (temporaries l.initial.rest (l.links - l._link) l._link))

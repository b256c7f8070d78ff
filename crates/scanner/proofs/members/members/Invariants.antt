-- `scanner::members::members` meets its contract.
use Prim.Native.Nat.{◌-◌}
use lib.ListN.{length}
use Rattle.scanner.proofs.MemberScans.{Members}
use Rattle.scanner.proofs.members.members.Given as goal

abbrev pub invariant-loop-more : goal.invariant-loop-more
invariant-loop-more l = Members l.text l.at l.initial.corners l.corners l.initial.lengths l.lengths l.initial.counts l.counts l.so_far l.place

abbrev pub decreases-loop-more : goal.decreases-loop-more
decreases-loop-more l = length l.text - l.place

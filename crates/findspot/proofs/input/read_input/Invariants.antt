-- `findspot::input::read_input`: what was read so far stands at the buffer's start, and each read leaves less room.
use Rattle.std.proofs.Common.{◌≡◌, ◌-◌, ◌≤◌, length, take}
use Rattle.std.specs.Io.KnownBytes.{Consumes}
use Rattle.findspot.proofs.input.read_input.Given as goal

abbrev pub invariant-loop-held : goal.invariant-loop-held
invariant-loop-held g l = (length l.buffer ≡ length l.initial.buffer) × (l.held ≤ length l.buffer) × Consumes (g.R.Read.remaining l.initial.source) (g.R.Read.remaining l.source) (take l.held l.buffer)

abbrev pub decreases-loop-held : goal.decreases-loop-held
decreases-loop-held g l = length l.buffer - l.held

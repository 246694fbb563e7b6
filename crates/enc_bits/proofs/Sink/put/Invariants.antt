-- `put` meets its contract: byte after byte goes out of the bits that wait and those that came, and what is left waits.
use mathlib.Core.Path.{◌≡◌}
use Rattle.enc_bits.proofs.Sent.{Draining}
use Rattle.enc_bits.proofs.Sink.put.Given as goal

abbrev pub invariant-loop-self : goal.invariant-loop-self
invariant-loop-self l =
    (l.self.pending ≡ l.initial.self.pending) × Draining l.initial.bytes l.bytes l.all l.initial.self.at l.initial.self.count l.self.at l.self.count

abbrev pub decreases-loop-self : goal.decreases-loop-self
decreases-loop-self l = l.self.count

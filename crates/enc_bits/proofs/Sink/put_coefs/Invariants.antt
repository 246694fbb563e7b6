-- What went out and the coefficients that are left are all of them.
use Rattle.enc_bits.proofs.Around.{Putting}
use Rattle.enc_bits.proofs.Sink.put_coefs.Given as goal

abbrev pub invariant-loop-j : goal.invariant-loop-j
invariant-loop-j l = Putting l.coefs l.order l.initial.bytes l.bytes l.initial.self l.self l.j

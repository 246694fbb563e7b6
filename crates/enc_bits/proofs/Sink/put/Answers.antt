-- `put` meets its contract.
use native.Mathlib.Omega.{arith}
use Rattle.enc_bits.proofs.Sent.{draining_next, draining_done, all_lt}
use Rattle.enc_bits.proofs.Sink.put.Goals as goal

pub overflow_mul-all : goal.overflow_mul-all
overflow_mul-all c =
    rw c.pow2.ensures (omega (arith, all_lt c.args.self.now c.args.bits c.args.len c.requires))

pub overflow_add-all : goal.overflow_add-all
overflow_add-all c =
    rw c.pow2.ensures (omega (arith, all_lt c.args.self.now c.args.bits c.args.len c.requires))

pub loop-self-preserved : goal.loop-self-preserved
loop-self-preserved c =
    (c.loop-self.invariant.0, rw (c.store.ensures, c.byte_of.ensures) (draining_next c.loop-self.invariant.1 c.loop-self-test.true))

pub returns : goal.returns
returns c =
    rw (c.pow2-2.ensures, c.pow2.ensures)
    (draining_done c.args.self.now c.args.bits c.args.len c.requires (rw c.pow2.ensures at c.loop-self.invariant.1) c.loop-self-test.false)

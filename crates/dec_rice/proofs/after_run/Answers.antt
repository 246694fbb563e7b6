-- A run's symbol, and whether so many samples are left.
use Rattle.std.proofs.Common.{◌^◌, ◌≤◌, arith, pow_mono, lt-ltb, le-ltb}
use lib.Bits.{and_le_l}
use Rattle.rules.specs.Rice.{run_m, run_at}
use Rattle.laws.specs.Rice.{run_k_range}
use Rattle.bitcursor.proofs.Laws.{then, then_not, holds, fails, gives, exit}
use Rattle.dec_rice.proofs.after_run.Goals as goal

pub symbol_m-requires : goal.symbol_m-requires
symbol_m-requires c =
    let range : (2 ≤ c.run_k-k.result) × (c.run_k-k.result ≤ 8) = rw c.run_k-k.ensures (run_k_range c.args.h c.requires.history_lt) in
    omega arith

pub decode_rice_symbol-requires : goal.decode_rice_symbol-requires
decode_rice_symbol-requires c =
    let range : (2 ≤ c.run_k-k.result) × (c.run_k-k.result ≤ 8) = rw c.run_k-k.ensures (run_k_range c.args.h c.requires.history_lt) in
    let w : 2 ^ c.run_k-k.result ≤ 2 ^ 8 = pow_mono range.1 in
    record {
      k_pos = omega arith;
      k_le = omega arith;
      m_lt = omega (arith, and_le_l c.symbol_m.result c.symbol_m-2.result, c.symbol_m.ensures);
      b_le = omega arith;
    }

pub returns-in_err-run : goal.returns-in_err-run
unfolding run_at run_m
returns-in_err-run c =
    rw (← c.run_k-k.ensures, ← c.symbol_m.ensures, ← c.symbol_m-2.ensures)
    (then_not _ c.decode_rice_symbol.ensures c.in_err-run.was (exit _ c.from_residual.ensures.1))

pub returns-then-left-run : goal.returns-then-left-run
unfolding run_at run_m
returns-then-left-run c =
    rw (← c.run_k-k.ensures, ← c.symbol_m.ensures, ← c.symbol_m-2.ensures)
    (then _ c.decode_rice_symbol.ensures c.in_ok-run.was (fails _ _ (le-ltb _ _ (omega arith))))

pub returns : goal.returns
unfolding run_at run_m
returns c =
    rw (← c.run_k-k.ensures, ← c.symbol_m.ensures, ← c.symbol_m-2.ensures)
    (then _ c.decode_rice_symbol.ensures c.in_ok-run.was (holds _ _ (lt-ltb _ _ (omega arith)) gives))

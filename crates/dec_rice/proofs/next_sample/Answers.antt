-- A symbol, and what follows it.
use Rattle.std.proofs.Common.{◌^◌, ◌≤◌, arith, pow_pos, pow_mono}
use Rattle.rules.specs.Rice.{sample}
use Rattle.laws.specs.Rice.{symbol_k_pos, symbol_k_le}
use Rattle.bitcursor.proofs.Laws.{then, then_not, exit}
use Rattle.dec_rice.proofs.next_sample.Goals as goal

pub symbol_m-requires : goal.symbol_m-requires
symbol_m-requires c = rw c.symbol_k-k.ensures (omega (arith, symbol_k_le c.args.c.kb c.args.state.history c.requires.history_lt))

pub decode_rice_symbol-requires : goal.decode_rice_symbol-requires
decode_rice_symbol-requires c =
    let k = c.symbol_k-k in
    let k_le : k.result ≤ 16 = rw k.ensures (symbol_k_le c.args.c.kb c.args.state.history c.requires.history_lt) in
    let w : 2 ^ k.result ≤ 2 ^ 16 = pow_mono k_le in
    record {
      k_pos = rw k.ensures (symbol_k_pos c.args.c.kb c.args.state.history c.requires.coded.kb_pos);
      k_le = k_le;
      m_lt = omega (arith, c.symbol_m.ensures, pow_pos k.result);
      b_le = c.requires.coded.bits_le;
    }

pub returns-in_err-s-clause-reads : goal.returns-in_err-s-clause-reads
unfolding sample
returns-in_err-s-clause-reads c =
    rw (← c.symbol_k-k.ensures, ← c.symbol_m.ensures) (then_not _ c.decode_rice_symbol.ensures c.in_err-s.was (exit _ c.from_residual.ensures.1))

pub returns-clause-reads : goal.returns-clause-reads
unfolding sample
returns-clause-reads c =
    rw (← c.symbol_k-k.ensures, ← c.symbol_m.ensures)
    (then _ c.decode_rice_symbol.ensures c.in_ok-s.was (rw (← c.wrapping_add_u32-value.ensures.value) c.after_value.ensures.reads))

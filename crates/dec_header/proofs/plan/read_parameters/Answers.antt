-- What was read is as small as its field.
use Prim.Native.Nat.{◌<◌}
use Rattle.std.proofs.Common.{arith}
use Rattle.std.proofs.lemmas.Grind.{common_steps}
use Rattle.bitcursor.proofs.Laws.{read_lt}
use Rattle.dec_header.proofs.plan.read_parameters.Goals as goal

pub read_coefs-requires : goal.read_coefs-requires
read_coefs-requires c = read_lt 5 c.read-4.ensures c.in_ok-order.was

pub overflow_mul-factor : goal.overflow_mul-factor
overflow_mul-factor c =
    let h : c.in_ok-pb_factor.pb_factor < 8 = read_lt 3 c.read-3.ensures c.in_ok-pb_factor.was in
    grind (arith, common_steps)

pub returns-clause-settled : goal.returns-clause-settled
returns-clause-settled c = record {
  quant_lt = read_lt 4 c.read-2.ensures c.in_ok-quant.was;
  order_lt = read_lt 5 c.read-4.ensures c.in_ok-order.was;
  rest = c.in_ok-coefs.ensures.rest;
}

-- The ones, then what the rules read after so many; and the bounds that keep the sums in a word.
use Rattle.std.proofs.Common.{◌≡◌, ◌-◌, suc, arith, eq-eqb, ne_eqb}
use Rattle.rules.specs.Symbol.{rest, symbol}
use Rattle.bitcursor.proofs.Laws.{then, then_not, gives, exit, read_lt}
use Rattle.dec_rice.proofs.Symbols.{ones_product, high_lt}
use Rattle.dec_rice.proofs.decode_rice_symbol.Goals as goal

pub returns-in_err-q : goal.returns-in_err-q
unfolding symbol
returns-in_err-q c = then_not _ c.count_ones.ensures c.in_err-q.was (exit _ c.from_residual.ensures.1)

pub returns-then-q-eq9 : goal.returns-then-q-eq9
unfolding symbol
returns-then-q-eq9 c = then _ c.count_ones.ensures c.in_ok-q.was (rw (eq-eqb _ _ c.if-q-eq9.true) c.read.ensures)

pub returns-then-k-eq1 : goal.returns-then-k-eq1
unfolding symbol rest
returns-then-k-eq1 c = then _ c.count_ones.ensures c.in_ok-q.was (rw (ne_eqb _ _ c.if-q-eq9.false, eq-eqb _ _ c.if-k-eq1.true) gives)

pub returns-in_err-high : goal.returns-in_err-high
unfolding symbol rest
returns-in_err-high c =
    then _ c.count_ones.ensures c.in_ok-q.was
    (rw (ne_eqb _ _ c.if-q-eq9.false, ne_eqb _ _ c.if-k-eq1.false)
    (then_not _ c.read-2.ensures c.in_err-high.was (exit _ c.from_residual-in_err-high.ensures.1)))

pub overflow_mul-result : goal.overflow_mul-result
overflow_mul-result c = omega (arith, ones_product c.count_ones.ensures c.in_ok-q.was c.requires.m_lt)

pub returns-then-high-eq0 : goal.returns-then-high-eq0
unfolding symbol rest
returns-then-high-eq0 c =
    then _ c.count_ones.ensures c.in_ok-q.was
    (rw (ne_eqb _ _ c.if-q-eq9.false, ne_eqb _ _ c.if-k-eq1.false)
    (then _ c.read-2.ensures c.in_ok-high.was (rw c.if-high-eq0.true gives)))

pub returns-in_err-low : goal.returns-in_err-low
unfolding symbol rest
returns-in_err-low c =
    let more : c.in_ok-high.high ≡ suc (c.in_ok-high.high - 1) = omega arith in
    then _ c.count_ones.ensures c.in_ok-q.was
    (rw (ne_eqb _ _ c.if-q-eq9.false, ne_eqb _ _ c.if-k-eq1.false)
    (then _ c.read-2.ensures c.in_ok-high.was
    (rw more (then_not _ c.read_bit.ensures c.in_err-low.was (exit _ c.from_residual-in_err-low.ensures.1)))))

pub overflow_mul-result-2 : goal.overflow_mul-result-2
overflow_mul-result-2 c = omega (arith, ones_product c.count_ones.ensures c.in_ok-q.was c.requires.m_lt)

pub overflow_mul-result-3 : goal.overflow_mul-result-3
overflow_mul-result-3 c = omega (arith, high_lt c.read-2.ensures c.requires.k_le c.in_ok-high.was)

pub overflow_add-result : goal.overflow_add-result
overflow_add-result c = omega (arith, high_lt c.read-2.ensures c.requires.k_le c.in_ok-high.was, read_lt 1 c.read_bit.ensures c.in_ok-low.was)

pub overflow_add-result-2 : goal.overflow_add-result-2
overflow_add-result-2 c =
    omega (
      arith,
      ones_product c.count_ones.ensures c.in_ok-q.was c.requires.m_lt,
      high_lt c.read-2.ensures c.requires.k_le c.in_ok-high.was,
      read_lt 1 c.read_bit.ensures c.in_ok-low.was,
    )

pub returns : goal.returns
unfolding symbol rest
returns c =
    let more : c.in_ok-high.high ≡ suc (c.in_ok-high.high - 1) = omega arith in
    then _ c.count_ones.ensures c.in_ok-q.was
    (rw (ne_eqb _ _ c.if-q-eq9.false, ne_eqb _ _ c.if-k-eq1.false)
    (then _ c.read-2.ensures c.in_ok-high.was (rw more (then _ c.read_bit.ensures c.in_ok-low.was gives))))

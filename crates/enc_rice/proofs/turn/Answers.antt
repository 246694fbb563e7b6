-- `turn` meets its contract: a sample with its symbol, and a run where the rules have one.
use Prim.Native.Nat.{◌-◌}
use mathlib.Core.Path.{◌≡◌, ap, ◌∙◌}
use mathlib.Core.Logic.{⊎_elim}
use native.Mathlib.Omega.{arith}
use lib.ListN.{length, get_or}
use lib.IntN.{pos}
use Rattle.rules.specs.Words.{folded}
use Rattle.words.proofs.Laws.{held32}
use Rattle.enc_rice.proofs.Turns.{follows_on, follows_high, follows_last, symbol_sizes, run_sizes, turn_plain, turn-run}
use Rattle.enc_rice.proofs.turn.Goals as goal

pub symbol_code-symbol-requires : goal.symbol_code-symbol-requires
symbol_code-symbol-requires c = symbol_sizes c.requires c.symbol_k-k.ensures

pub symbol_code-run-requires : goal.symbol_code-run-requires
symbol_code-run-requires c =
    run_sizes c.if-next-lt128.true c.run_k.ensures

pub returns-then-next-lt128 : goal.returns-then-next-lt128
returns-then-next-lt128 c =
    let value : c.fold-v.result ≡ folded (get_or c.args.residuals.now c.args.i (pos 0)) = c.fold-v.ensures ∙ ap folded (held32 _ (omega arith)) in
    let es = c.args.residuals.now in
    turn-run c.requires c.args.plus value c.next_history-next.ensures c.symbol_k-k.ensures (rw c.saturating_sub.ensures at c.symbol_code-symbol.ensures)
    (follows_on c.next_history-next.result (length es - 1 - c.args.i) c.if-left-gt0.true c.if-next-lt128.true)
    c.zeros_from-z.ensures c.run_k.ensures c.symbol_code-run.ensures

pub returns : goal.returns
returns c =
    let value : c.fold-v.result ≡ folded (get_or c.args.residuals.now c.args.i (pos 0)) = c.fold-v.ensures ∙ ap folded (held32 _ (omega arith)) in
    let es = c.args.residuals.now in
    turn_plain c.requires c.args.plus value c.next_history-next.ensures c.symbol_k-k.ensures (rw c.saturating_sub.ensures at c.symbol_code-symbol.ensures)
    (⊎_elim
    (λ w. follows_high c.next_history-next.result (length es - 1 - c.args.i) w.1)
    (λ w. follows_last c.next_history-next.result (length es - 1 - c.args.i) w)
    c.else-left-gt0.either)

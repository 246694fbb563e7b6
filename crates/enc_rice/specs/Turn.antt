-- One turn of the writer: a sample, and the zeros that the run after it tells of. `rice_code` is these, turn after turn.
use Prim.Native.Nat.{ℕ, zero, suc, ◌-◌}
use Rattle.std.specs.Prelude.{◌≡◌, Bool, true, false, length, drop, ℤ}
use Rattle.std.proofs.Math.Path.{refl}
use Rattle.std.proofs.Common.{sym, ap, ◌∙◌}
use mathlib.Core.List.{List, [], ◌∷◌, ◌++◌, append_assoc}
use Rattle.rules.specs.Answers.{pick}
use Rattle.rules.specs.Words.{folded}
use Rattle.rules.specs.Rice.{symbol_k, symbol_m, history_after, run_follows}
use Rattle.rules.specs.Writer.{symbol_bits, zeros, run_bits, rice_code}

-- es are the samples after e
module _ (f : ℕ) (e : ℤ) (es : List ℤ) (h : ℕ) where
  -- whether a run follows e
  abbrev pub turn_runs : Bool
  turn_runs = run_follows (history_after f h (folded e)) (length es)

  unfoldable pub turn_owed : ℕ
  turn_owed = pick turn_runs (zeros es) 0

  unfoldable pub turn_history : ℕ
  turn_history = pick turn_runs 0 (history_after f h (folded e))

  unfoldable pub turn_plus : ℕ
  turn_plus = pick turn_runs 1 0

unfoldable pub turn_bits : ℕ → ℕ → ℕ → ℤ → List ℤ → ℕ → ℕ → List ℕ
turn_bits f kb b e es h plus =
    symbol_bits (symbol_k kb h) (symbol_m (symbol_k kb h)) b (folded e - plus)
    ++ pick (turn_runs f e es h) (run_bits kb (history_after f h (folded e)) (zeros es)) []

module _ (f kb b : ℕ) where
  -- zeros that a run has told of take no bits
  rice_owed : (es : List ℤ) (owed : ℕ) → (rice_code f kb b es owed 0 1).bits ≡ (rice_code f kb b (drop owed es) 0 0 1).bits
  unfolding rice_code
  rice_owed es zero = refl
  rice_owed [] (suc owed) = refl
  rice_owed (e ∷ es) (suc owed) = rice_owed es owed

  pub rice-turn : (e : ℤ) (es : List ℤ) (h plus : ℕ)
      → (rice_code f kb b (e ∷ es) 0 h plus).bits
      ≡ turn_bits f kb b e es h plus ++ (rice_code f kb b (drop (turn_owed f e es h) es) 0 (turn_history f e es h) (turn_plus f e es h)).bits
  unfolding rice_code turn_bits turn_owed turn_history turn_plus
  rice-turn e es h plus = go (turn_runs f e es h)
    where
      w : List ℕ
      w = symbol_bits (symbol_k kb h) (symbol_m (symbol_k kb h)) b (folded e - plus)

      h' : ℕ
      h' = history_after f h (folded e)

      go : (run : Bool)
          → w ++ (pick run (run_bits kb h' (zeros es)) [] ++ (rice_code f kb b es (pick run (zeros es) 0) (pick run 0 h') (pick run 1 0)).bits)
          ≡ w ++ pick run (run_bits kb h' (zeros es)) [] ++ (rice_code f kb b (drop (pick run (zeros es) 0) es) 0 (pick run 0 h') (pick run 1 0)).bits
      go true =
          ap (λ (t : List ℕ). w ++ (run_bits kb h' (zeros es) ++ t)) (rice_owed es (zeros es))
          ∙ sym (append_assoc w (run_bits kb h' (zeros es)) (rice_code f kb b (drop (zeros es) es) 0 0 1).bits)
      go false = sym (append_assoc w [] (rice_code f kb b es 0 h' 0).bits)

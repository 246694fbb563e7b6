-- Document 01, "Rice data": residuals, and the history after every sample.
use Rattle.std.specs.Prelude.{ℕ, zero, suc, ◌+◌, ◌-◌, ◌*◌, ◌/◌, ◌%◌, ◌^◌, min, Bool, ◌&&◌, List, [], ◌∷◌, ltb, ℤ, pos}
use Rattle.std.specs.Int.Bits.{bit_and}
use Rattle.std.specs.Int.Count.{count_leading_zeros}
use Rattle.rules.specs.declared.Refusal.TheVariants.{Run}
use Rattle.rules.specs.Answers.{pick, Read, ◌>>=◌, ◌>>◌, give, check}
use Rattle.rules.specs.Words.{log2, unfolded}

-- symbol k = min(log2((h >> 9) + 3), kb)
unfoldable pub symbol_k : ℕ → ℕ → ℕ
symbol_k kb h = min (log2 (h / 512 + 3)) kb

-- m = 2^k - 1
abbrev pub symbol_m : ℕ → ℕ
symbol_m k = 2 ^ k - 1

-- run k = leading zeros of h as 32 bits, minus 24, plus (h+16) >> 6: up to 8
unfoldable pub run_k : ℕ → ℕ
run_k h = count_leading_zeros 32 h - 24 + (h + 16) / 64

-- m = (2^k - 1) masked by 2^kb - 1
unfoldable pub run_m : ℕ → ℕ → ℕ
run_m kb k = bit_and (2 ^ k - 1) (2 ^ kb - 1)

-- h = 65535 if v > 65535, else h + v x f - ((h x f) >> 9)
unfoldable pub history_after : ℕ → ℕ → ℕ → ℕ
history_after f h v = pick (ltb 65535 v) 65535 (h + v * f - h * f / 512)

-- a run follows if h < 128 and samples remain
abbrev pub run_follows : ℕ → ℕ → Bool
run_follows h left = ltb 0 left && ltb h 128

-- one sample as it stands after it was read: with the zeros of the run that are still to come, and what the next symbol gains
pub record Step : Type 0 where
  pub residual : ℤ
  pub history : ℕ
  pub owed : ℕ
  pub plus : ℕ

pub record RiceData : Type 0 where
  pub residuals : List ℤ
  pub histories : List ℕ

abbrev pub none : RiceData
none = record { residuals = []; histories = [] }

abbrev pub more : ℤ → ℕ → RiceData → RiceData
more e h d = record { residuals = e ∷ d.residuals; histories = h ∷ d.histories }

-- how a symbol is read, with k, m and b: `symbol bits` is one way
abbrev pub SymbolReader : Type 0
SymbolReader = ℕ → ℕ → ℕ → Read ℕ

module _ (symbol : SymbolReader) (f kb b : ℕ) where
  -- a run >= length - i is 13: `left` samples follow sample i, so length - i is left + 1
  unfoldable pub run_at : ℕ → ℕ → Read ℕ
  run_at h left = do
    z ← symbol (run_k h) (run_m kb (run_k h)) 16
    check (ltb z (left + 1)) Run
    give z

  -- any run, of length 0 too, sets h to 0 and adds 1 to the next symbol
  unfoldable pub after_value : ℕ → ℕ → ℕ → Read Step
  after_value h left v =
      pick (run_follows (history_after f h v) left)
      (do
        z ← run_at (history_after f h v) left
        give (record { residual = unfolded v; history = 0; owed = z; plus = 1 }))
      (give (record { residual = unfolded v; history = history_after f h v; owed = 0; plus = 0 }))

  -- a symbol, and after a run 1 more, wrapping at 32 bits
  unfoldable pub sample : ℕ → ℕ → ℕ → Read Step
  sample h plus left = do
    s ← symbol (symbol_k kb h) (symbol_m (symbol_k kb h)) b
    after_value h left ((s + plus) % 2 ^ 32)

  -- n samples; the zeros that a run still owes come first
  unfoldable pub rice : ℕ → ℕ → ℕ → ℕ → Read RiceData
  rice zero owed h plus = give none
  rice (suc n) (suc owed) h plus = do
    d ← rice n owed 0 1
    give (more (pos 0) 0 d)
  rice (suc n) zero h plus = do
    t ← sample h plus n
    d ← rice n t.owed t.history t.plus
    give (more t.residual t.history d)

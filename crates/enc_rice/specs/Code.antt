-- What the code's values stand for, and what its functions require and promise.
use Rattle.std.specs.Prelude.{ℕ, ◌+◌, ◌-◌, ◌^◌, ◌≤◌, ◌<◌, ◌≡◌, List, [], ◌++◌, length, drop, get_or, ℤ, pos, Option, None, Some, IfSome}
use Rattle.rules.specs.Bits.{digits}
use Rattle.rules.specs.Writer.{zeros}
use Rattle.dec_rice.specs.declared.Coding.{Coding}
use Rattle.enc_bits.specs.declared.Sink.{Sink}
use Rattle.enc_bits.specs.Sent.{Ready}
use Rattle.enc_rice.specs.declared.Code.{Code}
use Rattle.enc_rice.specs.declared.Step.{Step}
use Rattle.enc_rice.specs.Turn.{turn_bits, turn_owed, turn_history, turn_plus}

abbrev pub code_bits : Code → List ℕ
code_bits c = digits c.len c.bits

-- of a run, if there is one
unfoldable pub run_code : Option Code → List ℕ
run_code None = []
run_code (Some c) = code_bits c

-- a sink takes it at once
pub record Fits (c : Code) : Type 0 where
  pub len_le : c.len ≤ 41
  pub small : c.bits < 2 ^ c.len

-- the code of the bits w
pub record Codes (w : List ℕ) (c : Code) : Type 0 where
  pub are : code_bits c ≡ w
  pub fits : Fits c

-- ---- symbols

-- a symbol's k, and its raw bits where it is escaped
pub record Sizes (k b : ℕ) : Type 0 where
  pub k_pos : 1 ≤ k
  pub k_le : k ≤ 16
  pub b_le : b ≤ 32

-- a value's quotient, below 9, and remainder
pub record Parts (q r k : ℕ) : Type 0 where
  pub q_lt : q < 9
  pub k_pos : 1 ≤ k
  pub k_le : k ≤ 16
  pub r_lt : r < 2 ^ k - 1

-- ---- turns

-- the writer's ranges
pub record Ranges (c : Coding) : Type 0 where
  pub kb_ge : 8 ≤ c.kb
  pub factor_le : c.factor ≤ 127
  pub bits_le : c.bits ≤ 32

-- r samples are 0 from `from` on, and no more
pub record Zeros (es : List ℤ) (from r : ℕ) : Type 0 where
  pub are : r ≡ zeros (drop from es)
  pub fit : from + r ≤ length es

-- sample i can be taken
pub record Turns (c : Coding) (es : List ℤ) (i h : ℕ) : Type 0 where
  pub ranges : Ranges c
  pub here : i < length es
  pub short : length es ≤ 65536
  pub history_lt : h < 2 ^ 25

-- the codes of sample i and of the run after it, and what the next turn starts from, by the rules
pub record Turned (c : Coding) (es : List ℤ) (i h gain : ℕ) (t : Step) : Type 0 where
  pub bits : code_bits t.symbol ++ run_code t.run ≡ turn_bits c.factor c.kb c.bits (get_or es i (pos 0)) (drop (i + 1) es) h gain
  pub next : t.next ≡ i + 1 + turn_owed c.factor (get_or es i (pos 0)) (drop (i + 1) es) h
  pub history : t.history ≡ turn_history c.factor (get_or es i (pos 0)) (drop (i + 1) es) h
  pub plus : t.plus ≡ turn_plus c.factor (get_or es i (pos 0)) (drop (i + 1) es) h
  pub symbol_fits : Fits t.symbol
  pub run_fits : IfSome t.run Fits
  pub next_le : t.next ≤ length es
  pub history_lt : t.history < 2 ^ 25

-- both codes can go out
pub record Puts (s : Sink) (t : Step) : Type 0 where
  pub ready : Ready s
  pub room : s.at < 2 ^ 50
  pub symbol_fits : Fits t.symbol
  pub run_fits : IfSome t.run Fits

-- the residuals es can be written into the sink s
pub record Writes (c : Coding) (es : List ℤ) (s : Sink) : Type 0 where
  pub ranges : Ranges c
  pub short : length es ≤ 65536
  pub ready : Ready s
  pub room : s.at < 2 ^ 40

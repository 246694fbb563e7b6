-- What a sink has been given, and the one contract of everything that emits bits.
use Rattle.std.specs.Prelude.{ℕ, ◌+◌, ◌*◌, ◌^◌, ◌≤◌, ◌<◌, ◌≡◌, List, ◌++◌, length}
use Rattle.rules.specs.Bits.{digits, bits_of}
use Rattle.rules.specs.Buffers.{laid}
use Rattle.laws.specs.Bits.{Below}
use Rattle.enc_bits.specs.declared.Sink.{Sink}

-- nothing is out, and no bit waits
abbrev pub start : Sink
start = record { at = 0; pending = 0; count = 0 }

-- fewer than eight bits wait, and `pending` has no others
pub record Ready (s : Sink) : Type 0 where
  pub few : s.count < 8
  pub small : s.pending < 2 ^ s.count
  pub room : s.at < 2 ^ 60

-- the sink s can take the last len bits of `bits`
pub record Takes (s : Sink) (bits len : ℕ) : Type 0 where
  pub ready : Ready s
  pub len_le : len ≤ 48
  pub small : bits < 2 ^ len

-- the sink s was given the bits w, over a buffer that held `was` and holds `is`
pub record Given (was is : List ℕ) (s : Sink) (w : List ℕ) : Type 0 where
  pub sent : List ℕ
  pub are_bytes : Below 256 sent
  pub sent_length : length sent ≡ s.at
  pub bits : w ≡ bits_of sent ++ digits s.count s.pending
  pub kept : is ≡ laid sent was

-- from s to r the bits v went out, whatever went before
pub record Sent (was is : List ℕ) (s : Sink) (v : List ℕ) (r : Sink) : Type 0 where
  pub few : r.count < 8
  pub small : r.pending < 2 ^ r.count
  pub size : r.at * 8 + r.count ≡ s.at * 8 + s.count + length v
  pub same_length : length is ≡ length was
  pub more : (first w : List ℕ) → Given first was s w → Given first is r (w ++ v)

-- Laws of the cookie's definitions: numbers byte by byte, what is left past an atom, and the test of 24 bytes.
use Prim.Native.Nat.{ℕ, ◌+◌, ◌≤◌, ◌<◌}
use mathlib.Core.Path.{◌≡◌}
use mathlib.Core.Bool.{Bool, true, false}
use mathlib.Core.List.{List}
use native.Mathlib.Omega.{arith}
use lib.ListN.{length, drop, get_or, length-drop}
use lib.Seq.{drop-cons}
use lib.Dec.{eqb}
use borrow.Author.Tests.{le-leb, lt-leb}
use Rattle.rules.specs.declared.Refusal.TheVariants.{Cookie}
use Rattle.std.specs.Prelude.{Result, Err}
use Rattle.rules.specs.declared.StreamInfo.{StreamInfo}
use Rattle.rules.specs.declared.Refusal.{Refusal}
use Rattle.rules.specs.Answers.{pick}
use Rattle.rules.specs.Cookie.{big_endian, bytes_at, past_atom, from24}

pub byte_at : (c : List ℕ) (from : ℕ) → from < length c → bytes_at c from 1 ≡ get_or c from 0
unfolding big_endian
byte_at c from h = rw (drop-cons c from 0) (omega arith)

-- 12 bytes go at most
pub past_atom_length : (name : ℕ) (c : List ℕ) → length c ≤ length (past_atom name c) + 12
unfolding past_atom
past_atom_length name c = step (eqb (bytes_at c 4 4) name)
  where
    step : (t : Bool) → length c ≤ length (pick t (drop 12 c) c) + 12
    step true = simp length-drop (omega arith)
    step false = omega arith

pub from24_short : (c : List ℕ) (answer : Result StreamInfo Refusal) → length c < 24 → from24 c answer ≡ Err Cookie
unfolding from24
from24_short c answer h = rw lt-leb

pub from24_long : (c : List ℕ) (answer : Result StreamInfo Refusal) → 24 ≤ length c → from24 c answer ≡ answer
unfolding from24
from24_long c answer h = rw le-leb

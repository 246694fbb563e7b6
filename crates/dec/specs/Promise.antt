-- What the reader promises, for every kind of output: answer, output and scratch, to the last place, refused calls included.
use Rattle.std.specs.Prelude.{◌≡◌, List, ℕ, length, ℤ, Result}
use Rattle.rules.specs.declared.StreamInfo.{StreamInfo}
use Rattle.rules.specs.declared.Decoded.{Decoded}
use Rattle.rules.specs.declared.Refused.{Refused}
use Rattle.rules.specs.Stream.{Width}
use Rattle.rules.specs.Reader.{decoded, answer_of, output_after, scratch_after}

pub record Promise {A : Type 0} (w : Width A) (s : StreamInfo) (bytes : List ℕ) (out out' : List A) (scratch scratch' : List ℤ) (r : Result Decoded Refused) : Type 0 where
  pub answer : r ≡ answer_of s (decoded w s bytes (length out) (length scratch))
  pub output : out' ≡ output_after w s out scratch bytes
  pub room : scratch' ≡ scratch_after w s out scratch

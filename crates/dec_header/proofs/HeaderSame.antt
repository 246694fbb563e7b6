-- The header: its promise permits one answer.
use Prim.Native.Nat.{ℕ}
use mathlib.Core.Path.{◌≡◌, ap}
use mathlib.Core.List.{List}
use Rattle.std.specs.Prelude.{Result}
use Rattle.rules.specs.declared.Refusal.{Refusal}
use Rattle.rules.specs.Answers.{Read}
use Rattle.rules.specs.Element as rule
use Rattle.bitcursor.specs.Cursor.{Cursor}
use Rattle.bitcursor.specs.Reads.{Reads}
use Rattle.bitcursor.proofs.Laws.{reads_same}
use Rattle.dec_header.specs.declared.Header.{Header}
use Rattle.dec_header.specs.Header.{header_of}

-- the code's header, of that of the rules
abbrev header_from : rule.Header → Header
header_from h = record { code = h.code; raw = h.raw; samples = h.samples }

pub header-same : {asked : List ℕ → Read rule.Header} {was is is' : Cursor} (r q : Result Header Refusal) → Reads header_of asked was is r → Reads header_of asked was is' q → (r ≡ q) × (is.at ≡ is'.at)
header-same r q = reads_same r q (λ v w k l e. ap header_from e)

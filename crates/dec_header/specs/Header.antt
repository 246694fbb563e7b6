-- What an element's header is to the rules, and what one that was read has.
use Rattle.std.specs.Prelude.{ℕ, ◌≤◌}
use Rattle.rules.specs.Element as rule
use Rattle.dec_header.specs.declared.Header.{Header}

abbrev pub header_of : Header → rule.Header
header_of h = record { code = h.code; raw = h.raw; samples = h.samples }

-- a shift code that was not refused, and samples of at most a frame
pub record SaneHeader (frame : ℕ) (h : Header) : Type 0 where
  pub code_le : h.code ≤ 2
  pub samples_le : h.samples ≤ frame

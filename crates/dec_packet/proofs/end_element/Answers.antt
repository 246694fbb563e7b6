-- The edge first, then 17.
use Rattle.std.specs.Prelude.{◌≡◌, refl, ℕ, Option, None, Some}
use Rattle.std.specs.Option.{unwrap_or}
use borrow.Author.Tests.{le-leb, lt-leb}
use Rattle.rules.specs.Packet.{number_known, end_element}
use Rattle.bitcursor.proofs.Laws.{then, then_not, holds, fails, gives, exit}
use Rattle.dec_packet.proofs.end_element.Goals as goal

known : (m : Option ℕ) → unwrap_or m 0 ≡ number_known m
known None = refl
known (Some n) = refl

pub returns-in_err-skip_to_byte : goal.returns-in_err-skip_to_byte
unfolding end_element
returns-in_err-skip_to_byte c = then_not _ c.skip_to_byte.ensures c.in_err-skip_to_byte.was (exit _ c.from_residual.ensures.1)

pub returns-then-st-s : goal.returns-then-st-s
unfolding end_element
returns-then-st-s c = then _ c.skip_to_byte.ensures c.in_ok-skip_to_byte.was (fails _ _ (lt-leb _ _ c.if-st-s.true))

pub returns : goal.returns
unfolding end_element
returns c =
    rw (c.unwrap_or.ensures, known c.args.st.samples)
    (then _ c.skip_to_byte.ensures c.in_ok-skip_to_byte.was (holds _ _ (le-leb _ _ c.if-st-s.false) gives))

-- The four bytes of the name are compared as one number.
use mathlib.Core.Path.{sym, ◌∙◌}
use native.Mathlib.Omega.{arith}
use Prim.Native.Nat.{◌-◌}
use lib.ListN.{length, drop, length-drop}
use lib.Seq.{take_all}
use borrow.Author.Tests.{eq-eqb, ne_eqb}
use Rattle.rules.specs.Cookie.{bytes_at, past_atom}
use Rattle.stream.proofs.past_atom.Goals as goal

pub returns-then-read_be_u32-name : goal.returns-then-read_be_u32-name
unfolding past_atom
returns-then-read_be_u32-name c =
    let s = c.args.cookie.now in
    rw (eq-eqb (bytes_at s 4 4) _ (sym c.read_be_u32.ensures ∙ c.if-read_be_u32-name.true)) (take_all (length s - 12) (drop 12 s) (simp length-drop (omega arith)))

pub returns-else-read_be_u32-name : goal.returns-else-read_be_u32-name
unfolding past_atom
returns-else-read_be_u32-name c =
    let s = c.args.cookie.now in
    rw (ne_eqb (bytes_at s 4 4) _ (λ e. c.if-read_be_u32-name.false (c.read_be_u32.ensures ∙ e)))

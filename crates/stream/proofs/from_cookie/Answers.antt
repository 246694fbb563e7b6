-- Both tests of 24 bytes, and the atoms between them.
use mathlib.Core.Path.{◌≡◌, ◌∙◌, ap}
use native.Mathlib.Omega.{arith}
use lib.ListN.{length}
use Rattle.rules.specs.Cookie.{from_cookie, past_atom, past_atoms, frma, alac}
use Rattle.stream.proofs.Cookie.{from24_short, from24_long, past_atom_length}
use Rattle.stream.proofs.from_cookie.Goals as goal

pub returns-then-cookie-lt24 : goal.returns-then-cookie-lt24
unfolding from_cookie
returns-then-cookie-lt24 c = rw (from24_short c.args.cookie.now _ (omega arith))

pub past_atom-fields-requires : goal.past_atom-fields-requires
past_atom-fields-requires c =
    omega (arith, past_atom_length frma c.args.cookie.now, ap length c.past_atom-inner.ensures)

pub returns-then-fields-lt24 : goal.returns-then-fields-lt24
unfolding from_cookie
returns-then-fields-lt24 c =
    let fields-are : c.past_atom-fields.result.now ≡ past_atoms c.args.cookie.now = c.past_atom-fields.ensures ∙ ap (past_atom alac) c.past_atom-inner.ensures in
    let cookie = c.args.cookie.now in
    rw (from24_long cookie _ (omega arith), ← fields-are, from24_short c.past_atom-fields.result.now _ (omega arith))

pub returns : goal.returns
unfolding from_cookie
returns c =
    let fields-are : c.past_atom-fields.result.now ≡ past_atoms c.args.cookie.now = c.past_atom-fields.ensures ∙ ap (past_atom alac) c.past_atom-inner.ensures in
    let cookie = c.args.cookie.now in
    rw (from24_long cookie _ (omega arith), ← fields-are, from24_long c.past_atom-fields.result.now _ (omega arith), c.info_of.ensures)

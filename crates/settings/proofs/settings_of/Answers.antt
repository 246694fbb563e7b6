-- The tests are the definition's, in its order.
use Prim.Native.Nat.{◌+◌, ◌*◌}
use mathlib.Core.Path.{◌≡◌, sym, ◌∙◌}
use native.Mathlib.Omega.{arith}
use lib.ListN.{length}
use borrow.Author.Tests.{eq-eqb, ne_eqb}
use borrow.Author.Rules.{part_to_end}
use Rattle.settings.specs.Flat.{settings_of}
use Rattle.settings.specs.Laws.{wrong_length}
use Rattle.settings.proofs.settings_of.Goals as goal

pub returns-then-flat-channels : goal.returns-then-flat-channels
returns-then-flat-channels c = c.unfit_settings.ensures ∙ sym (wrong_length _ _ (λ e. omega (arith, c.if-flat-channels.true)))

pub returns-then-channels-eq1 : goal.returns-then-channels-eq1
unfolding settings_of
returns-then-channels-eq1 c =
    let a = c.args in
    let whole : length a.flat.now ≡ 2 + 33 * a.channels = omega (arith, c.if-flat-channels.false) in
    rw (c.with_second.ensures, c.no_channel.ensures, eq-eqb (length a.flat.now) (2 + 33 * a.channels) whole, eq-eqb a.channels 1 c.if-channels-eq1.true)

pub returns-then-channels-eq2 : goal.returns-then-channels-eq2
unfolding settings_of
returns-then-channels-eq2 c =
    let a = c.args in
    let whole : length a.flat.now ≡ 2 + 33 * a.channels = omega (arith, c.if-flat-channels.false) in
    rw (c.with_second-then-channels-eq2.ensures, c.channel_of.ensures, part_to_end, eq-eqb (length a.flat.now) (2 + 33 * a.channels) whole, ne_eqb a.channels 1 c.if-channels-eq1.false, eq-eqb a.channels 2 c.if-channels-eq2.true)

pub returns : goal.returns
unfolding settings_of
returns c =
    let a = c.args in
    let whole : length a.flat.now ≡ 2 + 33 * a.channels = omega (arith, c.if-flat-channels.false) in
    rw (c.unfit_settings-2.ensures, eq-eqb (length a.flat.now) (2 + 33 * a.channels) whole, ne_eqb a.channels 1 c.if-channels-eq1.false, ne_eqb a.channels 2 c.if-channels-eq2.false)

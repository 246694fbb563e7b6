-- Each of the eight tags goes its way.
use Prim.Native.Nat.{◌<◌}
use mathlib.Core.Path.{refl}
use borrow.Author.Rules.{rules}
use Rattle.rules.specs.Packet.{passed, turn}
use Rattle.bitcursor.proofs.Laws.{then_not, exit}
use Rattle.dec_packet.specs.declared.Element.{Element}
use Rattle.dec_packet.proofs.Laws.{refused_turning, passed_turning, end_turning, tag_then, tag_single, tag_pair, tag_unsupported, tag_data, tag_fill, tag_end}
use Rattle.dec_packet.proofs.tagged_element.Goals as goal

pub returns-in_err-tag : goal.returns-in_err-tag
unfolding turn
returns-in_err-tag c =
    let e = exit _ c.from_residual.ensures.1 in
    rw e (refused_turning {g = λ (x : Element). passed} (then_not _ c.read.ensures c.in_err-tag.was e) e)

pub returns-in_err-data_element-in-4 : goal.returns-in_err-data_element-in-4
returns-in_err-data_element-in-4 c =
    rw (exit _ c.from_residual-in_err-data_element-in-4.ensures.1)
    (tag_then _ c.read.ensures c.in_ok-tag.was (tag_data _ c.in-4.is (refused_turning c.data_element.ensures c.in_err-data_element-in-4.was)))

pub returns-in_err-fill_element-in-6 : goal.returns-in_err-fill_element-in-6
returns-in_err-fill_element-in-6 c =
    rw (exit _ c.from_residual-in_err-fill_element-in-6.ensures.1)
    (tag_then _ c.read.ensures c.in_ok-tag.was (tag_fill _ c.in-6.is (refused_turning c.fill_element.ensures c.in_err-fill_element-in-6.was)))

pub returns-in_err-end_element-in_default : goal.returns-in_err-end_element-in_default
returns-in_err-end_element-in_default c =
    let last : 6 < c.in_ok-tag.tag = search rules in
    rw (exit _ c.from_residual-in_err-end_element-in_default.ensures.1)
    (tag_then _ c.read.ensures c.in_ok-tag.was (tag_end _ last (refused_turning c.end_element.ensures c.in_err-end_element-in_default.was)))

pub returns-in-0 : goal.returns-in-0
returns-in-0 c = tag_then _ c.read.ensures c.in_ok-tag.was (tag_single _ c.in-0.is c.sound_element.ensures)

pub returns-in-1 : goal.returns-in-1
returns-in-1 c = tag_then _ c.read.ensures c.in_ok-tag.was (tag_pair _ c.in-1.is c.sound_element-in-1.ensures)

pub returns-in-2 : goal.returns-in-2
returns-in-2 c = tag_then _ c.read.ensures c.in_ok-tag.was (tag_unsupported _ c.in-2.is)

pub returns-in_ok-data_element-in-4 : goal.returns-in_ok-data_element-in-4
returns-in_ok-data_element-in-4 c =
    tag_then _ c.read.ensures c.in_ok-tag.was (tag_data _ c.in-4.is (passed_turning c.data_element.ensures c.in_ok-data_element-in-4.was refl))

pub returns-in_ok-fill_element-in-6 : goal.returns-in_ok-fill_element-in-6
returns-in_ok-fill_element-in-6 c =
    tag_then _ c.read.ensures c.in_ok-tag.was (tag_fill _ c.in-6.is (passed_turning c.fill_element.ensures c.in_ok-fill_element-in-6.was refl))

pub returns-in_ok-end_element-in_default : goal.returns-in_ok-end_element-in_default
returns-in_ok-end_element-in_default c =
    let last : 6 < c.in_ok-tag.tag = search rules in
    tag_then _ c.read.ensures c.in_ok-tag.was (tag_end _ last (end_turning c.end_element.ensures c.in_ok-end_element-in_default.was refl))

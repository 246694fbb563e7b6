-- `decode_planned` meets its contract: the extra bits passed, the channels, and what finishes them.
use mathlib.Core.Path.{refl, ◌∙◌}
use native.Mathlib.Omega.{arith}
use Rattle.laws.specs.Shape.{numbers-length}
use Rattle.bitcursor.proofs.Laws.{value_of, refused_of, skip-next, exit}
use Rattle.dec_header.specs.Plan.{plan_of}
use Rattle.dec_element.proofs.Sounds.{sound_refused, roomy_of, width_is, extra_refused, each_refuses, each_sounds, compressed_sounds}
use Rattle.dec_element.proofs.decode_planned.Goals as goal

pub returns-in_err-skip : goal.returns-in_err-skip
returns-in_err-skip c =
    let t = c.skip.ensures in
    sound_refused _ _ (exit _ c.from_residual.ensures.1) (extra_refused _ _ _ _ _ _ _ _ (refused_of t c.in_err-skip.was)) t.same refl

pub decode_channels-requires : goal.decode_channels-requires
decode_channels-requires c =
    let a = c.requires in
    let h = a.sounding.hearable in
    let e = width_is _ _ h.some h.two a.allowed in
    record {
      kb_ge = h.legal.kb_ge;
      kb_le = h.legal.kb_le;
      bps_ge = a.bps_ge;
      bps_le = a.bps_le;
      allowed = rw e a.allowed;
      roomy = rw e (roomy_of a.sounding _ refl);
    }

pub returns-in_err-decode_channels : goal.returns-in_err-decode_channels
returns-in_err-decode_channels c =
    let t = c.skip.ensures in
    let f = c.decode_channels.ensures in
    sound_refused _ _ (exit _ c.from_residual-in_err-decode_channels.ensures.1)
    (each_refuses _ _ _ _ _ _ _ _ (value_of t c.in_ok-skip.was) (rw t.same at (refused_of f.reads c.in_err-decode_channels.was))) (f.reads.same ∙ t.same) f.rest

pub finish-requires : goal.finish-requires
finish-requires c =
    let a = c.requires in
    rw c.fork-extra.ensures (record {
      roomy = roomy_of a.sounding _ c.decode_channels.auto.scratch;
      byte = a.allowed.mix_res_lt;
      small = a.allowed.mix_bits_le;
      few = omega (arith, a.sounding.sane.code_le);
      there = (skip-next _ _ _ (value_of c.skip.ensures c.in_ok-skip.was)).1;
    })

pub returns : goal.returns
returns c =
    let a = c.requires in
    let h = a.sounding.hearable in
    let e = width_is _ _ h.some h.two a.allowed in
    let t = c.skip.ensures in
    let f = c.decode_channels.ensures in
    compressed_sounds _ _ _ _ _ _ _ (roomy_of a.sounding _ refl) c.decode_channels.auto.scratch (rw (c.in_ok-decode_channels.was, e) at f.laid) (numbers-length _ _ _)
    (rw c.fork-extra.ensures at c.finish.ensures)
    (each_sounds _ _ _ _ _ _ (plan_of c.args.plan) _ (value_of t c.in_ok-skip.was) (rw (t.same, e) at (value_of f.reads c.in_ok-decode_channels.was))) (f.reads.same ∙ t.same)

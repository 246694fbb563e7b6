-- What is unmixed lies in scratch as the extra bits find it.
use Prim.Native.Nat.{◌*◌}
use mathlib.Core.Path.{◌∙◌}
use lib.ListN.{drop}
use Rattle.rules.specs.Words.{signed}
use Rattle.laws.specs.Shape.{numbers-length}
use Rattle.mix.proofs.Finished.{both}
use Rattle.mix.proofs.finish.Goals as goal

pub returns : goal.returns
returns c =
    let count = c.args.n * c.args.channels in
    c.extend_all.ensures
    ∙ both c.args.half c.args.n c.args.channels c.args.scratch.now c.requires.roomy _ c.args.mix_bits (signed 8 c.args.mix_res) c.args.shift _
    (numbers-length count c.args.shift (drop c.args.extra.at c.args.extra.bits)) c.unmix.ensures

-- Eight bits a byte.
use Rattle.std.specs.Prelude.{refl, List, ℕ, Result, Ok, Err}
use Rattle.rules.specs.declared.Refusal.{Refusal}
use Rattle.rules.specs.Answers.{Read, bind, got}
use Rattle.rules.specs.Packet.{passed, skip_bytes}
use Rattle.bitcursor.specs.Cursor.{Cursor}
use Rattle.bitcursor.specs.Reads.{Reads}
use Rattle.bitcursor.proofs.Laws.{then, then_not, gives}
use Rattle.dec_packet.proofs.skip_bytes.Goals as goal

skipped : {rule : List ℕ → Read (Unit {0})} {was is : Cursor} (r : Result (Unit {0}) Refusal) → Reads (λ v. v) rule was is r
    → Reads (λ v. passed) (λ bits p. bind (rule bits p) (λ u q. got passed q)) was is r
skipped (Ok u) t = then _ t refl gives
skipped (Err x) t = then_not _ t refl refl

pub returns : goal.returns
unfolding skip_bytes
returns c = skipped _ c.skip.ensures

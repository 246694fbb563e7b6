-- A slice of a wrong length is refused with 19.
use Rattle.std.specs.Prelude.{ℕ, ◌+◌, ◌*◌, ◌≡◌, false, List, length, ℤ}
use Rattle.std.proofs.Math.Bool.{and-false}
use Rattle.std.proofs.Common.{ne_eqb}
use Rattle.rules.specs.declared.StreamInfo.{StreamInfo}
use Rattle.rules.specs.Writer.{mix_in_range, in_range}
use Rattle.settings.specs.Flat.{unfit, settings_of}

pub wrong_length : (channels : ℕ) (flat : List ℤ) → (length flat ≡ 2 + 33 * channels → ⊥) → settings_of channels flat ≡ unfit
unfolding settings_of
wrong_length channels flat h = rw (ne_eqb (length flat) (2 + 33 * channels) h)

pub unfit_refused : (s : StreamInfo) → in_range s unfit ≡ false
unfolding in_range mix_in_range
unfit_refused s = simp and-false

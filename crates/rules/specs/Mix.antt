-- Document 01, "Unmix", and the writer's mix beside it.
use Rattle.std.specs.Prelude.{ℕ, List, [], ◌∷◌, ℤ}
use Rattle.rules.specs.Answers.{pick}
use Rattle.rules.specs.Words.{add32, sub32, mul32, shift_right, is_zero}
use Rattle.rules.specs.Buffers.{pairs}

-- (v x mix_res) >> mix_bits
unfoldable pub share : ℕ → ℤ → ℤ → ℤ
share mix_bits mix_res v = shift_right (mul32 v mix_res) mix_bits

-- r = u - share
unfoldable pub right_of : ℕ → ℤ → ℤ → ℤ → ℤ
right_of mix_bits mix_res u v = sub32 u (share mix_bits mix_res v)

-- l = r + v
unfoldable pub left_of : ℕ → ℤ → ℤ → ℤ → ℤ
left_of mix_bits mix_res u v = add32 (right_of mix_bits mix_res u v) v

-- v = l - r, which wraps, and u = r + share
unfoldable pub mid_of : ℕ → ℤ → ℤ → ℤ → ℤ
mid_of mix_bits mix_res l r = add32 r (share mix_bits mix_res (sub32 l r))

-- two channels become two others; anything else is as it is
unfoldable pub on_pair : (ℤ → ℤ → ℤ) → (ℤ → ℤ → ℤ) → List (List ℤ) → List (List ℤ)
on_pair f g [] = []
on_pair f g (us ∷ []) = us ∷ []
on_pair f g (us ∷ vs ∷ []) = pairs f us vs ∷ pairs g us vs ∷ []
on_pair f g (us ∷ vs ∷ ws ∷ more) = us ∷ vs ∷ ws ∷ more

-- a pair whose mix_res is not 0; otherwise as they are
unfoldable pub unmixed : ℕ → ℤ → List (List ℤ) → List (List ℤ)
unmixed mix_bits mix_res chans = pick (is_zero mix_res) chans (on_pair (left_of mix_bits mix_res) (right_of mix_bits mix_res) chans)

unfoldable pub mixed : ℕ → ℤ → List (List ℤ) → List (List ℤ)
mixed mix_bits mix_res chans = pick (is_zero mix_res) chans (on_pair (mid_of mix_bits mix_res) sub32 chans)

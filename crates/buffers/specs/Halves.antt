-- How an element's channels lie in scratch, `half` places apart.
use Rattle.std.specs.Prelude.{ℕ, zero, suc, List, [], ◌∷◌, ◌++◌, take, drop, ℤ}
use Rattle.rules.specs.Buffers.{laid}

-- n samples of each of w channels
unfoldable pub parts : ℕ → ℕ → ℕ → List ℤ → List (List ℤ)
parts half n zero scr = []
parts half n (suc w) scr = take n scr ∷ parts half n w (drop half scr)

-- scratch with channels laid into it, each from its half on; other places stay
unfoldable pub with_parts : ℕ → List (List ℤ) → List ℤ → List ℤ
with_parts half [] scr = scr
with_parts half (xs ∷ chans) scr = laid xs (take half scr) ++ with_parts half chans (drop half scr)

-- Document 01, "When the dock is told no": what lent buffers become, and how channels lie in them. Said once for any kind of place.
use Rattle.std.specs.Prelude.{ℕ, zero, suc, ◌+◌, ◌-◌, List, [], ◌∷◌, ◌++◌, map, length, take, drop, set, replicate}

module _ {A : Type 0} where
  -- the first places are xs, as many as there are; later ones stay
  unfoldable pub laid : List A → List A → List A
  laid xs was = take (length was) xs ++ drop (length xs) was

  -- the first n places become z (zero, silence); later ones stay
  abbrev pub cleared : A → ℕ → List A → List A
  cleared z n was = laid (replicate n z) was

  -- the first sample of each channel, and what follows it
  unfoldable pub heads : List (List A) → List A
  heads [] = []
  heads ([] ∷ chans) = heads chans
  heads ((x ∷ xs) ∷ chans) = x ∷ heads chans

  unfoldable pub tails : List (List A) → List (List A)
  tails [] = []
  tails ([] ∷ chans) = [] ∷ tails chans
  tails ((x ∷ xs) ∷ chans) = xs ∷ tails chans

  -- n samples of each channel, sample by sample
  unfoldable pub interleaved : ℕ → List (List A) → List A
  interleaved zero chans = []
  interleaved (suc n) chans = heads chans ++ interleaved n (tails chans)

  -- samples into the places k, k + c, k + 2 x c, ..; the others stay
  unfoldable pub placed : ℕ → ℕ → List A → List A → List A
  placed c k [] out = out
  placed c k (x ∷ xs) out = placed c (k + c) xs (set out k x)

  -- channels j, j + 1, .. of c, each into its places
  unfoldable pub stored : ℕ → ℕ → List (List A) → List A → List A
  stored c j [] out = out
  stored c j (xs ∷ chans) out = stored c (suc j) chans (placed c j xs out)

  -- the sample after `wait` others, and every later one after `gap` more
  unfoldable pub every : ℕ → ℕ → List A → List A
  every gap wait [] = []
  every gap zero (x ∷ xs) = x ∷ every gap gap xs
  every gap (suc wait) (x ∷ xs) = every gap wait xs

  -- channel j of c interleaved ones
  abbrev pub lane : ℕ → List A → ℕ → List A
  lane c xs j = every (c - 1) j xs

-- 0, 1, .. up to n
unfoldable pub up_to : ℕ → List ℕ
up_to zero = []
up_to (suc n) = 0 ∷ map suc (up_to n)

module _ {A : Type 0} where
  -- the channels of c interleaved ones
  abbrev pub lanes : ℕ → List A → List (List A)
  lanes c xs = map (lane c xs) (up_to c)

module _ {A B C : Type 0} where
  -- f of each two that stand at one place
  unfoldable pub pairs : (A → B → C) → List A → List B → List C
  pairs f [] ys = []
  pairs f (x ∷ xs) [] = []
  pairs f (x ∷ xs) (y ∷ ys) = f x y ∷ pairs f xs ys

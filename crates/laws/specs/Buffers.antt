-- Laws of buffers: what was laid into a buffer, and that interleaving undoes the parting into lanes.
use Prim.Native.Nat.{ℕ, zero, suc, ◌+◌, ◌-◌, ◌*◌, ◌≤◌}
use Rattle.std.specs.Prelude.{◌≡◌, take, drop, replicate}
use Rattle.std.proofs.Math.Path.{refl, sym, ap, ap₂}
use Rattle.std.proofs.Common.{◌∙◌, add-zero, add-suc, suc-mul, length-append, length-drop, take-append-drop, take_all, length-take-le, drop-drop}
use mathlib.Core.List.{List, [], ◌∷◌, ◌++◌, map, map-map}
use Rattle.std.proofs.Math.Nat.{sub-zero, zero-add, suc-add}
use native.Mathlib.Omega.{arith}
use Rattle.std.proofs.Math.ListN.{length, length-take}
use Rattle.std.proofs.lemmas.List.{length-map}
use Rattle.std.proofs.Math.Seq.{drop-append-add}
use Rattle.rules.specs.Buffers.{laid, heads, tails, interleaved, every, lane, up_to, lanes, pairs}
use Rattle.laws.specs.Words.{Every, none, one}

-- ---- laid

module _ {A : Type 0} (xs was : List A) where
  pub laid-length : length (laid xs was) ≡ length was
  unfolding laid
  laid-length = simp (length-append, length-take, length-drop) (omega arith)

  pub laid-all : length xs ≤ length was → laid xs was ≡ xs ++ drop (length xs) was
  unfolding laid
  laid-all h = rw (take_all (length was) xs h)

  drop-laid : (k : ℕ) → length xs ≤ k → length xs ≤ length was → drop k (laid xs was) ≡ drop k was
  drop-laid k h l =
      let e : k ≡ length xs + (k - length xs) = omega arith in
      rw (laid-all l, e, drop-append-add, drop-drop)

-- over the same places the last wins
pub laid-laid : {A : Type 0} (xs ys was : List A) → length xs ≤ length ys → length ys ≤ length was → laid ys (laid xs was) ≡ laid ys was
laid-laid xs ys was h k =
    let l : length ys ≤ length (laid xs was) = rw laid-length k in
    rw (laid-all ys (laid xs was) l, laid-all ys was k, drop-laid xs was (length ys) h (omega arith))

pub drop-replicate : {A : Type 0} (n m : ℕ) (a : A) → n ≤ m → drop n (replicate m a) ≡ replicate (m - n) a
drop-replicate zero m a h = rw sub-zero
drop-replicate (suc n) zero a h = absurd (omega arith)
drop-replicate (suc n) (suc m) a h = let e : suc m - suc n ≡ m - n = omega arith in rw e (drop-replicate n m a (omega arith))

-- ---- pairs

module _ {A B C : Type 0} (f : A → B → C) where
  pub pairs-length : {n : ℕ} (xs : List A) (ys : List B) → length xs ≡ n → length ys ≡ n → length (pairs f xs ys) ≡ n
  unfolding pairs
  pairs-length [] ys h k = h
  pairs-length (x ∷ xs) [] h k = k
  pairs-length {n = zero} (x ∷ xs) (y ∷ ys) h k = absurd (omega arith)
  pairs-length {n = suc n} (x ∷ xs) (y ∷ ys) h k = ap suc (pairs-length xs ys (omega arith) (omega arith))

module _ {A B C D : Type 0} (g : C → D) (f : A → B → C) where
  pub map-pairs : (xs : List A) (ys : List B) → map g (pairs f xs ys) ≡ pairs (λ x y. g (f x y)) xs ys
  unfolding pairs
  map-pairs [] ys = refl
  map-pairs (x ∷ xs) [] = refl
  map-pairs (x ∷ xs) (y ∷ ys) = ap (λ (zs : List D). g (f x y) ∷ zs) (map-pairs xs ys)

module _ {A B : Type 0} where
  pub pairs-second : (xs : List A) (ys : List B) → length xs ≡ length ys → pairs (λ x y. y) xs ys ≡ ys
  unfolding pairs
  pairs-second [] [] e = refl
  pairs-second [] (y ∷ ys) e = absurd (omega arith)
  pairs-second (x ∷ xs) [] e = absurd (omega arith)
  pairs-second (x ∷ xs) (y ∷ ys) e = ap (λ (zs : List B). y ∷ zs) (pairs-second xs ys (omega arith))

-- ---- lanes

pub up_to-length : (n : ℕ) → length (up_to n) ≡ n
unfolding up_to
up_to-length zero = refl
up_to-length (suc n) = ap suc (length-map (up_to n) suc ∙ up_to-length n)

module _ {A B : Type 0} {P : B → Type 0} where
  pub every_of_map : (f : A → B) → ((x : A) → P (f x)) → (xs : List A) → Every P (map f xs)
  every_of_map f h [] = none
  every_of_map f h (x ∷ xs) = one (h x) (every_of_map f h xs)

module _ {A : Type 0} where
  pub lanes_count : (c : ℕ) (xs : List A) → length (lanes c xs) ≡ c
  lanes_count c xs = length-map (up_to c) (lane c xs) ∙ up_to-length c

  every_of_every : {P : A → Type 0} (gap wait : ℕ) {xs : List A} → Every P xs → Every P (every gap wait xs)
  unfolding every
  every_of_every gap wait none = none
  every_of_every gap zero (one p ps) = one p (every_of_every gap gap ps)
  every_of_every gap (suc wait) (one p ps) = every_of_every gap wait ps

  pub every-lane : {P : A → Type 0} (c : ℕ) {xs : List A} → Every P xs → Every (Every P) (lanes c xs)
  every-lane c {xs} h = every_of_map (lane c xs) (λ j. every_of_every (c - 1) j h) (up_to c)

  -- ---- lanes row by row

  every_past : (gap wait : ℕ) (ys xs : List A) → every gap (length ys + wait) (ys ++ xs) ≡ every gap wait xs
  unfolding every
  every_past gap wait [] xs = rw zero-add
  every_past gap wait (y ∷ ys) xs = rw suc-add (every_past gap wait ys xs)

  -- samples of one row, each before what is left of its lane
  row_by : (gap k : ℕ) (row rest : List A) → k + length row ≡ suc gap
      → map (λ j. every gap j (row ++ rest)) (up_to (length row)) ≡ pairs ◌∷◌ row (map (λ j. every gap (k + j) rest) (up_to (length row)))
  unfolding every up_to pairs
  row_by gap k [] rest h = refl
  row_by gap k (x ∷ row) rest h =
      let e : gap ≡ length row + k = omega arith in
      ap₂ (λ (l : List A) (ls : List (List A)). (x ∷ l) ∷ ls)
      (ap (λ (w : ℕ). every gap w (row ++ rest)) e ∙ every_past gap k row rest ∙ rw add-zero)
      (simp (map-map, add-suc) (row_by gap (suc k) row rest (omega arith) ∙ simp suc-add))

  -- a row is the first sample of each lane
  pub lanes_row : (c : ℕ) (row rest : List A) → 1 ≤ c → length row ≡ c → lanes c (row ++ rest) ≡ pairs ◌∷◌ row (lanes c rest)
  lanes_row c row rest l e = rw (← e) (row_by (length row - 1) 0 row rest (omega arith) ∙ simp zero-add)

  heads-pairs : (row : List A) (chans : List (List A)) → length row ≡ length chans → heads (pairs ◌∷◌ row chans) ≡ row
  unfolding heads pairs
  heads-pairs [] chans e = refl
  heads-pairs (x ∷ row) [] e = absurd (omega arith)
  heads-pairs (x ∷ row) (ys ∷ chans) e = ap (λ (l : List A). x ∷ l) (heads-pairs row chans (omega arith))

  tails-pairs : (row : List A) (chans : List (List A)) → length row ≡ length chans → tails (pairs ◌∷◌ row chans) ≡ chans
  unfolding tails pairs
  tails-pairs [] [] e = refl
  tails-pairs [] (ys ∷ chans) e = absurd (omega arith)
  tails-pairs (x ∷ row) [] e = absurd (omega arith)
  tails-pairs (x ∷ row) (ys ∷ chans) e = ap (λ (l : List (List A)). ys ∷ l) (tails-pairs row chans (omega arith))

  longer : {n : ℕ} (row : List A) {chans : List (List A)} → Every (λ l. length l ≡ n) chans → Every (λ l. length l ≡ suc n) (pairs ◌∷◌ row chans)
  unfolding pairs
  longer [] ls = none
  longer (x ∷ row) none = none
  longer (x ∷ row) (one l ls) = one (ap suc l) (longer row ls)

  -- the first row of n + 1
  first_row : (n c : ℕ) (xs : List A) → 1 ≤ c → length xs ≡ suc n * c
      → (length (take c xs) ≡ c) × (length (drop c xs) ≡ n * c) × (lanes c xs ≡ pairs ◌∷◌ (take c xs) (lanes c (drop c xs)))
  first_row n c xs l e =
      let m = suc-mul n c in
      let k : length (take c xs) ≡ c = length-take-le c xs (omega arith) in
      (k, omega (arith, length-drop c xs), ap (lanes c) (sym (take-append-drop c xs)) ∙ lanes_row c (take c xs) (drop c xs) l k)

  pub lanes-length : (n c : ℕ) (xs : List A) → 1 ≤ c → length xs ≡ n * c → Every (λ l. length l ≡ n) (lanes c xs)
  unfolding every
  lanes-length zero c [] l e = every_of_map (lane c []) (λ j. refl) (up_to c)
  lanes-length zero c (x ∷ xs) l e = absurd (omega arith)
  lanes-length (suc n) c xs l e =
      let r = first_row n c xs l e in
      rw r.2 (longer (take c xs) (lanes-length n c (drop c xs) l r.1))

  pub interleaved-lanes : (n c : ℕ) (xs : List A) → 1 ≤ c → length xs ≡ n * c → interleaved n (lanes c xs) ≡ xs
  unfolding interleaved
  interleaved-lanes zero c [] l e = refl
  interleaved-lanes zero c (x ∷ xs) l e = absurd (omega arith)
  interleaved-lanes (suc n) c xs l e =
      let r = first_row n c xs l e in
      let rest : List (List A) = lanes c (drop c xs) in
      let k : length (take c xs) ≡ length rest = r.0 ∙ sym (lanes_count c (drop c xs)) in
      rw (r.2, heads-pairs (take c xs) rest k, tails-pairs (take c xs) rest k, interleaved-lanes n c (drop c xs) l r.1) (take-append-drop c xs)

-- Channels stored one by one, each in every c-th place: all of them lie sample by sample, and clearing covers what some of them left.
use Prim.Native.Nat.{ℕ, zero, suc, ◌+◌, ◌*◌, ◌≤◌, ◌<◌}
use Rattle.std.specs.Prelude.{◌≡◌, take, drop, set}
use Rattle.std.proofs.Math.Path.{refl, sym, ap}
use Rattle.std.proofs.Common.{◌∙◌, zero-add, suc-add, add-suc, take-append-drop, drop_of_length-le}
use mathlib.Core.List.{List, [], ◌∷◌, ◌++◌, append-nil}
use Rattle.std.proofs.Math.Nat.{add-zero, suc-mul, mul-le-mul_right}
use native.Mathlib.Omega.{arith}
use Rattle.std.proofs.Math.ListN.{length, length-drop, length-set}
use Rattle.std.proofs.lemmas.List.{length-replicate, set-append_left}
use Rattle.std.proofs.Math.Seq.{take-nil, length-take-le, drop-set-lt}
use Rattle.std.proofs.lemmas.List.Edits.{sets, sets-eq}
use Rattle.rules.specs.Buffers.{laid, cleared, heads, tails, interleaved, placed, stored}
use Rattle.laws.specs.Words.{Every, none, one}

module _ {A : Type 0} where
  -- ---- placed

  placed-length : (c k : ℕ) (xs out : List A) → length (placed c k xs out) ≡ length out
  unfolding placed
  placed-length c k [] out = refl
  placed-length c k (x ∷ xs) out = placed-length c (k + c) xs (set out k x) ∙ length-set out k x

  placed-rest : (c k l : ℕ) (xs out : List A) → k + length xs * c < l + c → drop l (placed c k xs out) ≡ drop l out
  unfolding placed
  placed-rest c k l [] out h = refl
  placed-rest c k l (x ∷ xs) out h =
      let e = suc-mul (length xs) c in
      placed-rest c (k + c) l xs (set out k x) (omega arith) ∙ drop-set-lt l out k x (omega arith)

  set_append_right : (a b : List A) (k : ℕ) (x : A) → set (a ++ b) (length a + k) x ≡ a ++ set b k x
  set_append_right [] b k x = rw zero-add
  set_append_right (y ∷ a) b k x = rw suc-add (ap (λ (r : List A). y ∷ r) (set_append_right a b k x))

  placed-append : (c k : ℕ) (xs a b : List A) → placed c (length a + k) xs (a ++ b) ≡ a ++ placed c k xs b
  unfolding placed
  placed-append c k [] a b = refl
  placed-append c k (x ∷ xs) a b =
      let e : length a + k + c ≡ length a + (k + c) = omega arith in
      rw (set_append_right a b k x, e) (placed-append c (k + c) xs a (set b k x))

  -- a sample into a row of c places, the rest of its channel into the rows after it
  placed_row : (c j : ℕ) (x : A) (xs row rest : List A) → length row ≡ c → j < c
      → placed c j (x ∷ xs) (row ++ rest) ≡ set row j x ++ placed c j xs rest
  unfolding placed
  placed_row c j x xs row rest l h =
      let e : j + c ≡ length (set row j x) + j = simp length-set (omega arith) in
      rw (set-append_left row rest j x (omega arith), e) (placed-append c j xs (set row j x) rest)

  -- ---- stored

  pub stored-length : (c j : ℕ) (chans : List (List A)) (out : List A) → length (stored c j chans out) ≡ length out
  unfolding stored
  stored-length c j [] out = refl
  stored-length c j (xs ∷ chans) out = stored-length c (suc j) chans (placed c j xs out) ∙ placed-length c j xs out

  pub stored-append : (c j : ℕ) (xs ys : List (List A)) (out : List A) → stored c j (xs ++ ys) out ≡ stored c (j + length xs) ys (stored c j xs out)
  unfolding stored
  stored-append c j [] ys out = rw add-zero
  stored-append c j (x ∷ xs) ys out = rw (add-suc, ← suc-add) (stored-append c (suc j) xs ys (placed c j x out))

  pub stored-rest : (m c j : ℕ) (chans : List (List A)) (out : List A) → Every (λ l. length l ≤ m) chans → j + length chans ≤ c
      → drop (m * c) (stored c j chans out) ≡ drop (m * c) out
  unfolding stored
  stored-rest m c j [] out a h = refl
  stored-rest m c j (xs ∷ chans) out (one l a) h =
      let e = mul-le-mul_right c l in
      stored-rest m c (suc j) chans (placed c j xs out) a (omega arith) ∙ placed-rest c j (m * c) xs out (omega arith)

  -- ---- stored, row by row

  stored-none : (c j : ℕ) (chans : List (List A)) (out : List A) → Every (λ l. length l ≡ 0) chans → stored c j chans out ≡ out
  unfolding stored placed
  stored-none c j [] out a = refl
  stored-none c j ([] ∷ chans) out (one l a) = stored-none c (suc j) chans out a
  stored-none c j ((x ∷ xs) ∷ chans) out (one l a) = absurd (omega arith)

  pub tails-length : (chans : List (List A)) → length (tails chans) ≡ length chans
  unfolding tails
  tails-length [] = refl
  tails-length ([] ∷ chans) = ap suc (tails-length chans)
  tails-length ((x ∷ xs) ∷ chans) = ap suc (tails-length chans)

  module _ (n : ℕ) where
    stored_row : (c j : ℕ) (chans : List (List A)) (row rest : List A) → Every (λ l. length l ≡ suc n) chans → length row ≡ c → j + length chans ≤ c
        → stored c j chans (row ++ rest) ≡ sets row j (heads chans) ++ stored c j (tails chans) rest
    unfolding stored heads tails
    stored_row c j [] row rest a l h = refl
    stored_row c j ([] ∷ chans) row rest (one e a) l h = absurd (omega arith)
    stored_row c j ((x ∷ xs) ∷ chans) row rest (one e a) l h =
        rw (placed_row c j x xs row rest l (omega arith)) (stored_row c (suc j) chans (set row j x) (placed c j xs rest) a (length-set row j x ∙ l) (omega arith))

    pub heads-length : (chans : List (List A)) → Every (λ l. length l ≡ suc n) chans → length (heads chans) ≡ length chans
    unfolding heads
    heads-length [] a = refl
    heads-length ([] ∷ chans) (one e a) = absurd (omega arith)
    heads-length ((x ∷ xs) ∷ chans) (one e a) = ap suc (heads-length chans a)

    pub tails-every : (chans : List (List A)) → Every (λ l. length l ≡ suc n) chans → Every (λ l. length l ≡ n) (tails chans)
    unfolding tails
    tails-every [] a = none
    tails-every ([] ∷ chans) (one e a) = absurd (omega arith)
    tails-every ((x ∷ xs) ∷ chans) (one e a) = one {x = xs} (omega arith) (tails-every chans a)

  -- a row of c places that all become others
  row_full : (hs row : List A) → length hs ≡ length row → sets row 0 hs ≡ hs
  row_full hs row e = sets-eq hs row 0 (omega arith) ∙ rw (zero-add (length hs), drop_of_length-le row {i = length hs} (omega arith)) (append-nil hs)

  laid_row : (hs xs row rest : List A) → length hs ≡ length row → laid (hs ++ xs) (row ++ rest) ≡ hs ++ laid xs rest
  unfolding laid
  laid_row [] xs [] rest e = refl
  laid_row [] xs (y ∷ row) rest e = absurd (omega arith)
  laid_row (x ∷ hs) xs [] rest e = absurd (omega arith)
  laid_row (x ∷ hs) xs (y ∷ row) rest e = ap (λ (r : List A). x ∷ r) (laid_row hs xs row rest (omega arith))

  -- all the channels, stored one by one
  pub stored-interleaved : (n c : ℕ) (chans : List (List A)) (out : List A) → Every (λ l. length l ≡ n) chans → length chans ≡ c → n * c ≤ length out
      → stored c 0 chans out ≡ laid (interleaved n chans) out
  unfolding interleaved laid
  stored-interleaved zero c chans out a l h = stored-none c 0 chans out a ∙ rw take-nil
  stored-interleaved (suc n) c chans out a l h =
      let m = suc-mul n c in
      let row : length (take c out) ≡ c = length-take-le c out (omega arith) in
      let full : length (heads chans) ≡ length (take c out) = heads-length n chans a ∙ l ∙ sym row in
      ap (stored c 0 chans) (sym (take-append-drop c out))
      ∙ stored_row n c 0 chans (take c out) (drop c out) a row (omega arith)
      ∙ rw (row_full (heads chans) (take c out) full, stored-interleaved n c (tails chans) (drop c out) (tails-every n chans a) (tails-length chans ∙ l) (simp length-drop (omega arith)))
      (sym (laid_row (heads chans) (interleaved n (tails chans)) (take c out) (drop c out) full))
      ∙ ap (laid (heads chans ++ interleaved n (tails chans))) (take-append-drop c out)

  -- ---- cleared

  -- what lay in the places that are cleared has no say
  pub cleared-same : (z : A) (n : ℕ) (a b : List A) → length a ≡ length b → drop n a ≡ drop n b → cleared z n a ≡ cleared z n b
  unfolding laid
  cleared-same z n a b l h = rw (length-replicate n z, l, h)

-- The loops over scratch, unmixing and extra bits: what is done, with what the rules make of the rest, is the whole.
use Prim.Native.Nat.{ℕ, zero, suc, ◌+◌, ◌-◌, ◌*◌, ◌≤◌, ◌<◌}
use mathlib.Core.Path.{◌≡◌, refl, sym, ◌∙◌}
use mathlib.Core.List.{List, [], ◌∷◌, ◌++◌, append_assoc, append-nil}
use native.Mathlib.Nat.{one-mul, add-mul, mul-add}
use native.Mathlib.Numerals.{add-one}
use native.Mathlib.Omega.{arith}
use lib.ListN.{length, get_or, take, drop, set, length-append, length-take, length-drop, length-set, take-append-drop, drop_of_length-le}
use lib.Seq.{length-take-le, take_all, take-take, take-suc-set, take-set-lt, take-set-le, drop-cons, drop-set-lt, drop-set-add, drop-drop, get_or-take, get_or-drop, get_or-set_other}
use lib.IntN.{ℤ, pos}
use Rattle.std.specs.Prelude.{Result, Ok, Err, IsOk}
use Rattle.rules.specs.declared.Refusal.{Refusal}
use Rattle.rules.specs.Bits.{num, field}
use Rattle.rules.specs.Buffers.{laid, every, up_to, lanes, pairs}
use Rattle.rules.specs.Mix.{on_pair}
use Rattle.rules.specs.Element.{numbers, extended}
use Rattle.bitcursor.specs.Cursor.{Cursor}
use Rattle.bitcursor.specs.Reads.{Reads}
use Rattle.bitcursor.proofs.Laws.{within_value, within_got, value_of, refused_of}
use Rattle.buffers.specs.Halves.{parts, with_parts}
use Rattle.mix.specs.Finish.{Extendable, Took}
use Rattle.laws.specs.Buffers.{laid-all}

-- ---- a store to a channel that is done up to i

module _ (n : ℕ) (s : List ℤ) (i : ℕ) (x : ℤ) (h : i < n) (k : i < length s) where
  done_next : (xs : List ℤ) → take (i + 1) (take n (set s i x)) ++ xs ≡ take i (take n s) ++ (x ∷ xs)
  done_next xs =
      rw (add-one, take-take (suc i) n (set s i x) h, take-take i n s (omega arith), take-suc-set s i x k, append_assoc)

  -- the samples after it stay
  rest-next : drop i (take n s) ≡ get_or s i (pos 0) ∷ drop (i + 1) (take n (set s i x))
  rest-next =
      let l : i < length (take n s) = simp length-take (omega arith) in
      rw (
        add-one,
        take-set-lt n s i x h,
        drop-set-lt (suc i) (take n s) i x (omega arith),
        drop-cons (take n s) i (pos 0) l,
        get_or-take n s i (pos 0) h,
      )

  module _ (half : ℕ) (short : n ≤ half) where
    -- what is laid hides it
    laid_next : (xs : List ℤ) → laid (take i (take n s) ++ (x ∷ xs)) (take half (set s i x)) ≡ laid (take i (take n s) ++ (x ∷ xs)) (take half s)
    unfolding laid
    laid_next xs =
        let done : List ℤ = take i (take n s) ++ (x ∷ xs) in
        let l : i < length done = simp (length-append, length-take) (omega arith) in
        rw (take-set-lt half s i x (omega arith), length-set, drop-set-lt (length done) (take half s) i x l)

    next-half : drop half (set s i x) ≡ drop half s
    next-half = drop-set-lt half s i x (omega arith)

-- ---- a sample of one channel or two

module _ (half n : ℕ) (s : List ℤ) (i : ℕ) (h : i < n) (short : n ≤ half) (room : 2 * half ≤ length s) where
  in_first : i < length s
  in_first = omega arith

  in_second : i < length (drop half s)
  in_second = simp length-drop (omega arith)

  turn_one : (x : ℤ) (xs : List ℤ)
      → with_parts half ((take (i + 1) (take n (set s i x)) ++ xs) ∷ []) (set s i x) ≡ with_parts half ((take i (take n s) ++ (x ∷ xs)) ∷ []) s
  unfolding with_parts
  turn_one x xs = rw (done_next n s i x h in_first xs, laid_next n s i x h in_first half short xs, next-half n s i x h in_first half short)

  module _ (x y : ℤ) where
    abbrev stored : List ℤ
    stored = set (set s i x) (half + i) y

    low : take n stored ≡ take n (set s i x)
    low = take-set-le n (set s i x) (half + i) y (omega arith)

    high : drop half stored ≡ set (drop half s) i y
    high = rw (drop-set-add, next-half n s i x h in_first half short)

    low_next : drop i (take n s) ≡ get_or s i (pos 0) ∷ drop (i + 1) (take n stored)
    low_next = rw low (rest-next n s i x h in_first)

    high_next : drop i (take n (drop half s)) ≡ get_or s (half + i) (pos 0) ∷ drop (i + 1) (take n (drop half stored))
    high_next = rw (high, ← get_or-drop half s i (pos 0)) (rest-next n (drop half s) i y h in_second)

    turn_two : (xs ys : List ℤ)
        → with_parts half ((take (i + 1) (take n stored) ++ xs) ∷ (take (i + 1) (take n (drop half stored)) ++ ys) ∷ []) stored
        ≡ with_parts half ((take i (take n s) ++ (x ∷ xs)) ∷ (take i (take n (drop half s)) ++ (y ∷ ys)) ∷ []) s
    unfolding with_parts
    turn_two xs ys =
        rw (
          low,
          high,
          done_next n s i x h in_first xs,
          done_next n (drop half s) i y h in_second ys,
          take-set-le half (set s i x) (half + i) y (omega arith),
          laid_next n s i x h in_first half short xs,
          laid_next n (drop half s) i y h in_second half short ys,
          next-half n (drop half s) i y h in_second half short,
        )

-- ---- the end: all is done, and lies where it lay

laid_own : (n : ℕ) (t : List ℤ) → n ≤ length t → laid (take n t) t ≡ t
laid_own n t h =
    let e : length (take n t) ≡ n = length-take-le n t h in
    rw (laid-all (take n t) t (omega arith), e, take-append-drop)

module _ (half n : ℕ) (s : List ℤ) (i : ℕ) (h : n ≤ i) where
  none_left : drop i (take n s) ≡ []
  none_left = drop_of_length-le (take n s) {i = i} (simp length-take (omega arith))

  all_done : n ≤ half → half ≤ length s → laid (take i (take n s) ++ []) (take half s) ≡ take half s
  all_done short k =
      let l : length (take n s) ≤ i = simp length-take (omega arith) in
      rw (append-nil, take_all i (take n s) l, ← take-take n half s short) (laid_own n (take half s) (rw (length-take-le half s k) short))

-- ---- unmixing

module _ (f g : ℤ → ℤ → ℤ) (half n : ℕ) where
  -- two channels that are done up to i
  abbrev unmixed_from : ℕ → List ℤ → List ℤ → List (List ℤ)
  unmixed_from i us vs = (take i us ++ pairs f (drop i us) (drop i vs)) ∷ (take i vs ++ pairs g (drop i us) (drop i vs)) ∷ []

  pub record Unmixing (was is : List ℤ) (i : ℕ) : Type 0 where
    pub same : length is ≡ length was
    pub goes : with_parts half (unmixed_from i (take n is) (take n (drop half is))) is ≡ with_parts half (on_pair f g (parts half n 2 was)) was

  pub unmixing_start : (was : List ℤ) → Unmixing was was 0
  unfolding parts on_pair
  unmixing_start was = record { same = refl; goes = refl }

module _
    {f g : ℤ → ℤ → ℤ} {half n : ℕ} {was is : List ℤ} {i : ℕ}
    (short : n ≤ half) (room : 2 * half ≤ length was) (u : Unmixing f g half n was is i) where
  pub unmixing_next : {x y : ℤ} → i < n
      → x ≡ f (get_or is i (pos 0)) (get_or is (half + i) (pos 0)) → y ≡ g (get_or is i (pos 0)) (get_or is (half + i) (pos 0))
      → Unmixing f g half n was (set (set is i x) (half + i) y) (i + 1)
  unfolding pairs
  unmixing_next {x} {y} h d e =
      let k : 2 * half ≤ length is = omega (arith, u.same) in
      record {
        same = simp length-set u.same;
        goes =
            turn_two half n is i h short k x y _ _
            ∙ (rw (low_next half n is i h short k x y, high_next half n is i h short k x y, ← d, ← e) at u.goes);
      }

  pub unmixing_done : n ≤ i → is ≡ with_parts half (on_pair f g (parts half n 2 was)) was
  unfolding pairs with_parts
  unmixing_done h =
      let k : half ≤ length is = omega (arith, u.same) in
      let l : half ≤ length (drop half is) = simp length-drop (omega (arith, u.same)) in
      rw (
        none_left half n is i h,
        all_done half n is i h short k,
        all_done half n (drop half is) i h short l,
        take-append-drop,
        take-append-drop,
      ) at u.goes

-- ---- extra bits

module _ {was is : Cursor} (shift : ℕ) {r : Result ℕ Refusal} (t : Reads (λ v. v) (λ bits. field bits shift) was is r) where
  pub never_short : was.at + shift ≤ length was.bits → IsOk r
  never_short h = by r refl
    where
      by : (q : Result ℕ Refusal) → r ≡ q → IsOk q
      by (Ok v) e = refl
      by (Err x) e =
          let a = sym (within_value was.bits shift (num (take shift (drop was.at was.bits))) was.at h) ∙ refused_of t e in
          cc

  pub takes_in : (k : ℕ) (scr : List ℤ) {v : ℕ} {x : ℤ} → r ≡ Ok v → x ≡ extended shift (get_or scr k (pos 0)) v → Took was is shift k scr (set scr k x)
  takes_in k scr e d =
      let a = within_got was.bits shift (num (take shift (drop was.at was.bits))) was.at (value_of t e) in
      record { sample = rw (d, a.0); after = a.1; same = t.same }

-- w fields of `shift` bits further on
place_next : (start shift i w : ℕ) {p : ℕ} → p ≡ start + shift * (i * w) → p + shift * w ≡ start + shift * ((i + 1) * w)
place_next start shift i w e =
    let a : (i + 1) * w ≡ i * w + w = omega (arith, add-mul i 1 w, one-mul w) in
    rw a (omega (arith, mul-add shift (i * w) w))

module _ (start : Cursor) (half n shift : ℕ) where
  -- channels that are done up to i; the other samples' extra bits come next
  abbrev extended_from : ℕ → ℕ → Cursor → List ℤ → List (List ℤ)
  extended_from w i now s =
      pairs (λ xs es. take i xs ++ pairs (extended shift) (drop i xs) es) (parts half n w s) (lanes w (numbers ((n - i) * w) shift (drop now.at now.bits)))

  abbrev all_extended : ℕ → List ℤ → List (List ℤ)
  all_extended w s = pairs (pairs (extended shift)) (parts half n w s) (lanes w (numbers (n * w) shift (drop start.at start.bits)))

  pub record Appending (w : ℕ) (was is : List ℤ) (now : Cursor) (i : ℕ) : Type 0 where
    pub same : length is ≡ length was
    pub bits : now.bits ≡ start.bits
    pub place : now.at ≡ start.at + shift * (i * w)
    pub goes : with_parts half (extended_from w i now is) is ≡ with_parts half (all_extended w was) was

module _
    {start now now' : Cursor} {half n shift : ℕ} {was is is' : List ℤ} {i : ℕ}
    (h : i < n) (short : n ≤ half) (room : 2 * half ≤ length was) where
  next_one : Appending start half n shift 1 was is now i → Took now now' shift i is is' → Appending start half n shift 1 was is' now' (i + 1)
  unfolding parts pairs up_to every numbers
  next_one u t =
      let k : 2 * half ≤ length is = omega (arith, u.same) in
      let e : (n - i) * 1 ≡ suc ((n - (i + 1)) * 1) = omega arith in
      let x : ℤ = extended shift (get_or is i (pos 0)) (num (take shift (drop now.at now.bits))) in
      rw t.sample (record {
        same = simp length-set u.same;
        bits = t.same ∙ u.bits;
        place = omega (arith, t.after, place_next start.at shift i 1 u.place);
        goes =
            rw (t.after, t.same) (turn_one half n is i h short k x _
            ∙ (rw (e, drop-drop, rest-next n is i x h (in_first half n is i h short k)) at u.goes));
      })

  next_two : {mid : List ℤ} {between : Cursor} → Appending start half n shift 2 was is now i
      → Took now between shift i is mid → Took between now' shift (half + i) mid is' → Appending start half n shift 2 was is' now' (i + 1)
  unfolding parts pairs up_to every numbers
  next_two u t r =
      let k : 2 * half ≤ length is = omega (arith, u.same) in
      let e : (n - i) * 2 ≡ suc (suc ((n - (i + 1)) * 2)) = omega arith in
      let p : ℕ = now.at in
      let x : ℤ = extended shift (get_or is i (pos 0)) (num (take shift (drop p now.bits))) in
      let y : ℤ = extended shift (get_or is (half + i) (pos 0)) (num (take shift (drop (p + shift) now.bits))) in
      let other : half + i ≡ i → ⊥ = λ a. omega arith in
      let stored : is' ≡ set (set is i x) (half + i) y =
      r.sample ∙ rw (t.sample, t.after, t.same, get_or-set_other is i (half + i) x (pos 0) other) in
      let after : now'.at ≡ p + shift + shift = omega (arith, t.after, r.after) in
      let same : now'.bits ≡ now.bits = r.same ∙ t.same in
      rw stored (record {
        same = simp length-set u.same;
        bits = same ∙ u.bits;
        place = omega (arith, after, place_next start.at shift i 2 u.place);
        goes =
            rw (after, same) (turn_two half n is i h short k x y _ _
            ∙ (rw (
              e,
              drop-drop shift p now.bits,
              drop-drop shift (p + shift) now.bits,
              low_next half n is i h short k x y,
              high_next half n is i h short k x y,
            ) at u.goes));
      })

module _
    {start now : Cursor} {half n shift w : ℕ} {was is : List ℤ} {i : ℕ}
    (a : Extendable start half n w shift was) (u : Appending start half n shift w was is now i) (h : i < n) where
  pub appending_one : (w ≡ 2 → ⊥) → {now' : Cursor} {is' : List ℤ} → Took now now' shift i is is' → Appending start half n shift w was is' now' (i + 1)
  appending_one other t =
      let e : w ≡ 1 = omega (arith, a.roomy.some, a.roomy.two) in
      rw e (next_one h a.roomy.short a.roomy.room (rw e at u) t)

  pub appending_two : w ≡ 2 → {between now' : Cursor} {mid is' : List ℤ}
      → Took now between shift i is mid → Took between now' shift (half + i) mid is' → Appending start half n shift w was is' now' (i + 1)
  appending_two e t r = rw e (next_two h a.roomy.short a.roomy.room (rw e at u) t r)

module _ {start now : Cursor} {half n shift : ℕ} {was is : List ℤ} {i : ℕ} where
  pub appending_done : (w : ℕ) → Extendable start half n w shift was → Appending start half n shift w was is now i → n ≤ i
      → is ≡ with_parts half (all_extended start half n shift w was) was
  unfolding parts pairs up_to with_parts
  appending_done zero a u h = absurd (omega (arith, a.roomy.some))
  appending_done (suc zero) a u h =
      let k : half ≤ length is = omega (arith, u.same, a.roomy.room) in
      rw (none_left half n is i h, all_done half n is i h a.roomy.short k, take-append-drop) at u.goes
  appending_done (suc (suc zero)) a u h =
      let k : half ≤ length is = omega (arith, u.same, a.roomy.room) in
      let l : half ≤ length (drop half is) = simp length-drop (omega (arith, u.same, a.roomy.room)) in
      rw (
        none_left half n is i h,
        none_left half n (drop half is) i h,
        all_done half n is i h a.roomy.short k,
        all_done half n (drop half is) i h a.roomy.short l,
        take-append-drop,
        take-append-drop,
      ) at u.goes
  appending_done (suc (suc (suc w))) a u h = absurd (omega (arith, a.roomy.two))

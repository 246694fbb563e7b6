-- Uncompressed samples: one sample, one row, and the rows done before what the rule makes of the rest, which is what it makes of all.
use Prim.Native.Nat.{ℕ, zero, suc, ◌+◌, ◌-◌, ◌*◌, ◌≤◌, ◌<◌, zero-le}
use mathlib.Core.Path.{◌≡◌, refl, sym, ap, ap₂, ◌∙◌}
use mathlib.Core.List.{List, [], ◌∷◌, ◌++◌, map, append_assoc, append-nil}
use native.Mathlib.Nat.{sub-zero, zero-mul, zero-add, suc-add, suc-mul, mul-le-mul_right}
use native.Mathlib.Numerals.{add-one}
use native.Mathlib.Omega.{arith}
use lib.ListN.{length, take, drop, set, length-drop, length-set, length-map, take-append-drop}
use lib.Seq.{length-take-le, take-take, take-suc-set, take-set-lt, take-set-le, drop-set-lt, drop-set-add, drop-drop}
use lib.IntN.{ℤ}
use Rattle.std.specs.Prelude.{Result, Ok, Err}
use Rattle.rules.specs.declared.Refusal.{Refusal}
use Rattle.rules.specs.Answers.{Ans, got, bad, bind, answered, Read, times}
use Rattle.rules.specs.Bits.{field}
use Rattle.rules.specs.Buffers.{laid, lanes, pairs}
use Rattle.rules.specs.Words.{signed}
use Rattle.laws.specs.Words.{Every, none, one}
use Rattle.laws.specs.Buffers.{laid-all, lanes_count, lanes_row, lanes-length}
use Rattle.laws.specs.Answers.{answered_got, answered_bad, answered-answered}
use Rattle.bitcursor.specs.Cursor.{Cursor}
use Rattle.bitcursor.specs.Reads.{told, Reads}
use Rattle.bitcursor.proofs.Laws.{value_of, refused_of}
use Rattle.buffers.specs.Halves.{parts, with_parts}
use Rattle.buffers.specs.Fills.{Fills, Roomy}
use Rattle.dec_element.specs.Raw.{Stores, row_laid, Rows}

-- ---- answers

module _ {A B : Type 0} where
  answered-same : (f g : A → B) → ((x : A) → f x ≡ g x) → (a : Ans A) → answered f a ≡ answered g a
  unfolding answered
  answered-same f g h (got x p) = ap (λ (y : B). got y p) (h x)
  answered-same f g h (bad x p) = refl

  bind-same : (a : Ans A) (f g : A → ℕ → Ans B) → ((x : A) (q : ℕ) → f x q ≡ g x q) → bind a f ≡ bind a g
  unfolding bind
  bind-same (got x p) f g h = h x p
  bind-same (bad x p) f g h = refl

  bind_got : (a : Ans A) (k : A → ℕ → Ans B) {y : B} {q : ℕ} → bind a k ≡ got y q → (x : A) × (r : ℕ) × (a ≡ got x r) × (k x r ≡ got y q)
  unfolding bind
  bind_got (got x r) k e = (x, r, refl, e)
  bind_got (bad x r) k e = let z : ◌≡◌ {A = ℕ} 0 1 = cc in absurd (omega arith)

module _ {A B C : Type 0} where
  bind-bind : (a : Ans A) (f : A → ℕ → Ans B) (g : B → ℕ → Ans C) → bind (bind a f) g ≡ bind a (λ x q. bind (f x q) g)
  unfolding bind
  bind-bind (got x p) f g = refl
  bind-bind (bad x p) f g = refl

module _ {A B : Type 0} (f : A → B) where
  map-append : (xs ys : List A) → map f (xs ++ ys) ≡ map f xs ++ map f ys
  map-append [] ys = refl
  map-append (x ∷ xs) ys = ap (λ (zs : List B). f x ∷ zs) (map-append xs ys)

-- ---- so many times, and as many more

module _ {A : Type 0} where
  times-length : (n : ℕ) (read : Read A) (p : ℕ) {xs : List A} {q : ℕ} → times n read p ≡ got xs q → length xs ≡ n
  unfolding times
  times-length zero read p {xs} {q} e = let d : xs ≡ [] = cc in ap length d
  times-length (suc n) read p {xs} {q} e =
      let a = bind_got (read p) (λ x r. bind (times n read r) (λ ys t. got (x ∷ ys) t)) e in
      let b = bind_got (times n read a.1) (λ ys t. got (a.0 ∷ ys) t) a.3 in
      let d : xs ≡ a.0 ∷ b.0 = cc in
      ap length d ∙ ap suc (times-length n read a.1 b.2)

  before_more : (x : A) (xs : List A) (a : Ans (List A)) → bind (answered (λ ys. xs ++ ys) a) (λ zs r. got (x ∷ zs) r) ≡ answered (λ ys. x ∷ (xs ++ ys)) a
  unfolding bind answered
  before_more x xs (got ys r) = refl
  before_more x xs (bad y r) = refl

  before-all : (x : A) (a : Ans (List A)) (k : ℕ → Ans (List A))
      → bind (bind a (λ xs r. answered (λ ys. xs ++ ys) (k r))) (λ zs r. got (x ∷ zs) r)
      ≡ bind (bind a (λ xs r. got (x ∷ xs) r)) (λ xs r. answered (λ ys. xs ++ ys) (k r))
  unfolding bind
  before-all x (got xs r) k = before_more x xs (k r)
  before-all x (bad y r) k = refl

  before-none : (a : Ans (List A)) → answered (λ ys. [] ++ ys) a ≡ a
  unfolding answered
  before-none (got ys r) = refl
  before-none (bad y r) = refl

  times_add : (m n : ℕ) (read : Read A) (p : ℕ) → times (m + n) read p ≡ bind (times m read p) (λ xs q. answered (λ ys. xs ++ ys) (times n read q))
  unfolding times bind
  times_add zero n read p = rw zero-add (sym (before-none (times n read p)))
  times_add (suc m) n read p =
      rw suc-add
      (bind-same (read p) _ _ (λ x q. ap (λ (a : Ans (List A)). bind a (λ zs r. got (x ∷ zs) r)) (times_add m n read q) ∙ before-all x (times m read q) (times n read))
      ∙ sym (bind-bind (read p) (λ x q. bind (times m read q) (λ xs r. got (x ∷ xs) r)) (λ xs q. answered (λ ys. xs ++ ys) (times n read q))))

  module _ (m n : ℕ) (read : Read A) (p : ℕ) where
    times_on : {xs : List A} {q : ℕ} → times m read p ≡ got xs q → times (m + n) read p ≡ answered (λ ys. xs ++ ys) (times n read q)
    unfolding bind
    times_on e = rw (times_add m n read p, e)

    times_off : {x : Refusal} {q : ℕ} → times m read p ≡ bad x q → times (m + n) read p ≡ bad x q
    unfolding bind
    times_off e = rw (times_add m n read p, e)

-- ---- one sample

drop-later : (k m : ℕ) (xs ys : List ℤ) → k ≤ m → drop k xs ≡ drop k ys → drop m xs ≡ drop m ys
drop-later k m xs ys h e =
    let d : m ≡ k + (m - k) = omega arith in
    rw (d, ← drop-drop (m - k) k xs, ← drop-drop (m - k) k ys, e)

module _ {was is : Cursor} (depth k : ℕ) (scr : List ℤ) {r : Result ℕ Refusal} (t : Reads (λ v. v) (λ bits. field bits depth) was is r) where
  pub stores_cut : {x : Refusal} {q : Result (Unit {0}) Refusal} → r ≡ Err x → q ≡ Err x → Stores depth k was is scr scr q
  unfolding told answered
  stores_cut e d = rw d (record { reads = record { tells = rw (refused_of t e); same = t.same }; same = refl; rest = refl })

  pub stores_value : {v : ℕ} {x : ℤ} → r ≡ Ok v → x ≡ signed depth v → Stores depth k was is scr (set scr k x) (Ok tt)
  unfolding told answered
  stores_value {x = x} e d = record {
    reads = record { tells = rw (value_of t e, d); same = t.same };
    same = length-set scr k x;
    rest = drop-set-lt (k + 1) scr k x (omega arith);
  }

-- ---- one row

module _ {was mid : Cursor} (depth half i : ℕ) {scr scr' : List ℤ} {r : Result (Unit {0}) Refusal} (s : Stores depth i was mid scr scr' r) (short : i + 1 ≤ half) where
  first_rest : drop (2 * half) scr' ≡ drop (2 * half) scr
  first_rest = drop-later (i + 1) (2 * half) scr' scr (omega arith) s.rest

  pub rows_cut : (w : ℕ) → 1 ≤ w → {x : Refusal} {q : Result (Unit {0}) Refusal} → r ≡ Err x → q ≡ Err x → Rows depth w half i was mid scr scr' q
  unfolding times bind told answered
  rows_cut zero h e d = absurd (omega arith)
  rows_cut (suc w) h e d =
      let a = answered_bad (λ v. set scr i (signed depth v)) (field was.bits depth was.at) (refused_of s.reads e) in
      rw d (record { reads = record { tells = rw a; same = s.reads.same }; same = s.same; rest = first_rest })

  module _ {u : Unit {0}} (e : r ≡ Ok u) where
    pub rows_one : (w : ℕ) → w ≡ 1 → Rows depth w half i was mid scr scr' (Ok tt)
    unfolding times bind told answered row_laid
    rows_one w d =
        let a = answered_got (λ v. set scr i (signed depth v)) (field was.bits depth was.at) (value_of s.reads e) in
        rw d (record { reads = record { tells = rw a.1 (ap (λ (m : List ℤ). got m mid.at) a.2); same = s.reads.same }; same = s.same; rest = first_rest })

    second_of : (v : ℕ) (a : Ans ℕ)
        → answered (λ y. set (set scr i (signed depth v)) (half + i) (signed depth y)) a
        ≡ answered (λ raw. row_laid half i (map (signed depth) raw) scr) (bind (bind a (λ y r. got (y ∷ []) r)) (λ xs r. got (v ∷ xs) r))
    unfolding answered bind row_laid
    second_of v (got y r) = refl
    second_of v (bad x r) = refl

    pub rows_two : (w : ℕ) → w ≡ 2 → {is : Cursor} {scr'' : List ℤ} {q : Result (Unit {0}) Refusal} → Stores depth (half + i) mid is scr' scr'' q → Rows depth w half i was is scr scr'' q
    unfolding times bind
    rows_two w d {is} {scr''} t =
        let a = answered_got (λ v. set scr i (signed depth v)) (field was.bits depth was.at) (value_of s.reads e) in
        let b = (rw (s.reads.same, a.2) at t.reads.tells) ∙ second_of a.0 (field was.bits depth mid.at) in
        rw d (record {
          reads = record { tells = rw a.1 b; same = t.reads.same ∙ s.reads.same };
          same = t.same ∙ s.same;
          rest = drop-later (half + i + 1) (2 * half) scr'' scr' (omega arith) t.rest ∙ first_rest;
        })

-- ---- a row in its channels' halves

module _ (half : ℕ) where
  row_none : (k : ℕ) (s : List ℤ) → row_laid half k [] s ≡ s
  unfolding row_laid
  row_none k s = refl

  row_low : (k : ℕ) (row s : List ℤ) → half ≤ k → take half (row_laid half k row s) ≡ take half s
  unfolding row_laid
  row_low k [] s h = refl
  row_low k (x ∷ row) s h = row_low (half + k) row (set s k x) (omega arith) ∙ take-set-le half s k x h

  row_high : (k : ℕ) (row s : List ℤ) → drop half (row_laid half (half + k) row s) ≡ row_laid half k row (drop half s)
  unfolding row_laid
  row_high k [] s = refl
  row_high k (x ∷ row) s = row_high (half + k) row (set s (half + k) x) ∙ ap (row_laid half (half + k) row) (drop-set-add half s k x)

  module _ (i : ℕ) (h : i < half) where
    first_low : (x : ℤ) (row s : List ℤ) → take half (row_laid half i (x ∷ row) s) ≡ set (take half s) i x
    unfolding row_laid
    first_low x row s = row_low (half + i) row (set s i x) (omega arith) ∙ take-set-lt half s i x h

    first_high : (x : ℤ) (row s : List ℤ) → drop half (row_laid half i (x ∷ row) s) ≡ row_laid half i row (drop half s)
    unfolding row_laid
    first_high x row s = row_high i row (set s i x) ∙ ap (row_laid half i row) (drop-set-lt half s i x h)

    first_done : (x : ℤ) (row s : List ℤ) → half ≤ length s → take (i + 1) (row_laid half i (x ∷ row) s) ≡ take i s ++ (x ∷ [])
    first_done x row s l =
        let k : i < length (take half s) = rw (length-take-le half s l) h in
        sym (take-take (i + 1) half (row_laid half i (x ∷ row) s) (omega arith))
        ∙ rw (first_low x row s, add-one) (take-suc-set (take half s) i x k ∙ rw (take-take i half s (omega arith)))

    -- a row more is done, a row less is left
    row_turn : (row s : List ℤ) (rests : List (List ℤ)) → length row * half ≤ length s
        → pairs ◌++◌ (parts half (i + 1) (length row) (row_laid half i row s)) rests ≡ pairs ◌++◌ (parts half i (length row) s) (pairs ◌∷◌ row rests)
    unfolding parts pairs
    row_turn [] s rests l = refl
    row_turn (x ∷ row) s [] l = refl
    row_turn (x ∷ row) s (r ∷ rests) l =
        let m = suc-mul (length row) half in
        ap₂ ◌∷◌
        (ap (λ (xs : List ℤ). xs ++ r) (first_done x row s (omega arith)) ∙ append_assoc (take i s) (x ∷ []) r)
        (rw (first_high x row s) (row_turn row (drop half s) rests (rw length-drop (omega arith))))

  -- beyond its first i places each channel's half is as it was, and so is what lies after the halves
  unfoldable pub Kept : ℕ → ℕ → List ℤ → List ℤ → Type 0
  Kept i zero was is = is ≡ was
  Kept i (suc w) was is = (drop i (take half is) ≡ drop i (take half was)) × Kept i w (drop half was) (drop half is)

  kept-all : (i w : ℕ) (was : List ℤ) → Kept i w was was
  unfolding Kept
  kept-all i zero was = refl
  kept-all i (suc w) was = (refl, kept-all i w (drop half was))

  kept_next : (i : ℕ) → i < half → (row was is : List ℤ) → Kept i (length row) was is → Kept (i + 1) (length row) was (row_laid half i row is)
  unfolding Kept
  kept_next i h [] was is k = row_none i is ∙ k
  kept_next i h (x ∷ row) was is k = (
    rw (first_low i h x row is) (drop-set-lt (i + 1) (take half is) i x (omega arith) ∙ drop-later i (i + 1) (take half is) (take half was) (omega arith) k.0),
    rw (first_high i h x row is) (kept_next i h row (drop half was) (drop half is) k.1),
  )

  kept-laid : (n w : ℕ) (was is : List ℤ) → n ≤ half → w * half ≤ length was → length is ≡ length was → Kept n w was is
      → is ≡ with_parts half (parts half n w is) was
  unfolding parts with_parts Kept
  kept-laid n zero was is short room same k = k
  kept-laid n (suc w) was is short room same k =
      let m = suc-mul w half in
      let e : length (take n is) ≡ n = length-take-le n is (omega arith) in
      let f : length (take half was) ≡ half = length-take-le half was (omega arith) in
      let low : laid (take n is) (take half was) ≡ take half is =
      laid-all (take n is) (take half was) (omega arith) ∙ rw (e, ← k.0, ← take-take n half is short) (take-append-drop n (take half is)) in
      let high = kept-laid n w (drop half was) (drop half is) short (rw length-drop (omega arith)) (rw (length-drop, length-drop, same)) k.1 in
      sym (ap₂ ◌++◌ low (sym high) ∙ take-append-drop half is)

  -- none done, or none left
  ahead_none : (w : ℕ) (s : List ℤ) (rests : List (List ℤ)) → length rests ≡ w → pairs ◌++◌ (parts half 0 w s) rests ≡ rests
  unfolding parts pairs
  ahead_none zero s [] e = refl
  ahead_none zero s (r ∷ rests) e = absurd (omega arith)
  ahead_none (suc w) s [] e = refl
  ahead_none (suc w) s (r ∷ rests) e = ap (λ (ls : List (List ℤ)). r ∷ ls) (ahead_none w (drop half s) rests (omega arith))

  ahead-all : (n w : ℕ) (s : List ℤ) {rests : List (List ℤ)} → Every (λ l. length l ≡ 0) rests → length rests ≡ w
      → pairs ◌++◌ (parts half n w s) rests ≡ parts half n w s
  unfolding parts pairs
  ahead-all n zero s es e = refl
  ahead-all n (suc w) s none e = absurd (omega arith)
  ahead-all n (suc w) s (one {x = []} d es) e = ap₂ ◌∷◌ (append-nil (take n s)) (ahead-all n w (drop half s) es (omega arith))
  ahead-all n (suc w) s (one {x = y ∷ ys} d es) e = absurd (omega arith)

-- ---- the rows done, before what the rule makes of the rest

module _ (depth half n w : ℕ) where
  abbrev whole : List ℕ → Read (List (List ℤ))
  whole bits p = answered (λ raw. lanes w (map (signed depth) raw)) (times (n * w) (field bits depth) p)

  -- what the rule makes of the n - i rows that come next, after the i rows that lie in s
  abbrev ahead : ℕ → List ℤ → List ℕ → Read (List (List ℤ))
  ahead i s bits p = answered (λ raw. pairs ◌++◌ (parts half i w s) (lanes w (map (signed depth) raw))) (times ((n - i) * w) (field bits depth) p)

  pub record Filling (start now : Cursor) (was is : List ℤ) (i : ℕ) : Type 0 where
    pub upto : i ≤ n
    pub same : length is ≡ length was
    pub bits : now.bits ≡ start.bits
    pub rest : drop (2 * half) is ≡ drop (2 * half) was
    pub kept : Kept half i w was is
    pub goes : ahead i is now.bits now.at ≡ whole start.bits start.at

  pub filling_start : (was : List ℤ) (now : Cursor) → Filling now now was was 0
  filling_start was now = record {
    upto = zero-le;
    same = refl;
    bits = refl;
    rest = refl;
    kept = kept-all half 0 w was;
    goes = rw sub-zero (answered-same _ _ (λ raw. ahead_none half w was (lanes w (map (signed depth) raw)) (lanes_count w (map (signed depth) raw))) (times (n * w) (field now.bits depth) now.at));
  }

  module _ {start now : Cursor} {was is : List ℤ} {i : ℕ} (a : Roomy half n w was) (u : Filling start now was is i) where
    pub filling_done : n ≤ i → Fills half n w whole start now was is (Ok tt)
    unfolding times told answered
    filling_done h =
        let e : i ≡ n = omega (arith, u.upto) in
        let l : n - i ≡ 0 = omega arith in
        let z : (n - i) * w ≡ 0 = rw l (zero-mul w) in
        let k : Kept half n w was is = rw e at u.kept in
        let room : w * half ≤ length was = omega (arith, mul-le-mul_right {m = w} {n = 2} half a.two, a.room) in
        let d = ahead-all half n w is (lanes-length 0 w [] a.some (sym (zero-mul w))) (lanes_count w []) in
        record {
          reads = record { tells = rw (← d) (rw (z, e) at u.goes); same = u.bits };
          laid = kept-laid half n w was is a.short room u.same k;
          rest = u.rest;
        }

    module _ (h : i < n) {now' : Cursor} {is' : List ℤ} {r : Result (Unit {0}) Refusal} (row : Rows depth w half i now now' is is' r) where
      rows_left : (n - i) * w ≡ w + (n - (i + 1)) * w
      rows_left = let e : n - i ≡ suc (n - (i + 1)) = omega arith in rw (e, suc-mul) (omega arith)

      pub filling_cut : {x : Refusal} {q : Result (Unit {0}) Refusal} → r ≡ Err x → q ≡ Err x → Fills half n w whole start now' was is' q
      unfolding told answered
      filling_cut e d =
          let b = times_off w ((n - (i + 1)) * w) (field now.bits depth) now.at (answered_bad (λ raw. row_laid half i (map (signed depth) raw) is) (times w (field now.bits depth) now.at) (refused_of row.reads e)) in
          rw d (record {
            reads = record { tells = rw (rows_left, b) at u.goes; same = row.reads.same ∙ u.bits };
            laid = tt;
            rest = row.rest ∙ u.rest;
          })

      next_by : (raw : List ℕ) → times w (field now.bits depth) now.at ≡ got raw now'.at → is' ≡ row_laid half i (map (signed depth) raw) is
          → Filling start now' was is' (i + 1)
      next_by raw e d =
          let xs : List ℤ = map (signed depth) raw in
          let l : length xs ≡ w = length-map raw (signed depth) ∙ times-length w (field now.bits depth) now.at e in
          let in_half : i < half = omega (arith, a.short) in
          let room : length xs * half ≤ length is = rw l (omega (arith, mul-le-mul_right {m = w} {n = 2} half a.two, a.room, u.same)) in
          let left : Ans (List ℕ) = times ((n - (i + 1)) * w) (field now.bits depth) now'.at in
          let t = times_on w ((n - (i + 1)) * w) (field now.bits depth) now.at e in
          let turn : (rest : List ℕ)
          → pairs ◌++◌ (parts half (i + 1) w is') (lanes w (map (signed depth) rest))
          ≡ pairs ◌++◌ (parts half i w is) (lanes w (map (signed depth) (raw ++ rest))) =
          λ rest.
          let rests : List ℤ = map (signed depth) rest in
          rw (d, map-append (signed depth) raw rest, lanes_row w xs rests a.some l, ← l) (row_turn half i in_half xs is (lanes (length xs) rests) room) in
          record {
            upto = omega arith;
            same = row.same ∙ u.same;
            bits = row.reads.same ∙ u.bits;
            rest = row.rest ∙ u.rest;
            kept = rw (d, ← l) (kept_next half i in_half xs was is (rw (← l) at u.kept));
            goes = rw row.reads.same (answered-same _ _ turn left ∙ sym (answered-answered _ _ left) ∙ (rw (rows_left, t) at u.goes));
          }

      pub filling_next : {v : Unit {0}} → r ≡ Ok v → Filling start now' was is' (i + 1)
      filling_next e =
          let b = answered_got (λ raw. row_laid half i (map (signed depth) raw) is) (times w (field now.bits depth) now.at) (value_of row.reads e) in
          next_by b.0 b.1 b.2

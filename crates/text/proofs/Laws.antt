-- The reader of settings, from byte to byte.
use Prim.Native.Nat.{ℕ, suc, ◌+◌, ◌^◌, ◌≤◌, ◌<◌}
use mathlib.Core.Path.{◌≡◌, refl, sym, ap, ◌∙◌}
use mathlib.Core.Bool.{Bool, true, false}
use mathlib.Core.List.{List, [], ◌∷◌, ◌++◌}
use native.Mathlib.Numerals.{add-one}
use native.Mathlib.Omega.{arith}
use lib.ListN.{length, get_or, drop, set, length-append, drop_of_length-le}
use lib.Seq.{drop-cons, take-nil}
use lib.Dec.{ltb}
use borrow.Author.Tests.{ltb-true}
use lib.IntN.{ℤ, pos, ◌-ℤ◌}
use mir.Syntax.{w64}
use mir.Val.{SFits, to_z, of_z}
use mir.Facts.{to_z_pos, to_z-of_z}
use Rattle.std.specs.Prelude.{Option, None, Some, Result, Ok, Err}
use Rattle.rules.specs.Buffers.{laid}
use Rattle.laws.specs.Words.{mag_minus}
use Rattle.text.specs.declared.Kind.TheVariants.{Line}
use Rattle.text.specs.declared.Mode.{Mode}
use Rattle.text.specs.declared.Mode.TheVariants.{Between}
use Rattle.text.specs.declared.Turn.{Turn}
use Rattle.text.specs.declared.Turn.TheVariants.{On, Stores}
use Rattle.text.specs.declared.State.{State}
use Rattle.text.specs.declared.TextError.{TextError}
use Rattle.text.specs.declared.TextError.TheVariants.{Wrong, TooMany}
use Rattle.text.specs.Text.{most_of, kind_of, turn_of, value_of, Read, whole, wrong, full, onward, read_on, numbers_of, answer_of, found_of, Tells, Takes}

pub most_small : (below : Bool) → most_of below ≤ 32768
most_small true = omega arith
most_small false = omega arith

-- ---- a size at 64 bits, and below zero

module _ (size : ℕ) (h : size < 2 ^ 32) where
  pub plain_is : to_z w64 size ≡ pos size
  plain_is = to_z_pos w64 {n = size} (omega arith)

  below_fits : SFits w64 (pos 0 -ℤ pos size)
  below_fits = record { sfits = omega (arith, mag_minus (pos 0) (pos size)) }

  pub minus_fits : SFits w64 (pos 0 -ℤ to_z w64 size)
  minus_fits = rw plain_is below_fits

  pub minus_is : to_z w64 (of_z w64 (pos 0 -ℤ to_z w64 size)) ≡ pos 0 -ℤ pos size
  minus_is = rw plain_is (to_z-of_z below_fits)

-- ---- the text of the settings

set-laid : (xs was : List ℤ) (v : ℤ) → set (laid xs was) (length xs) v ≡ laid (xs ++ (v ∷ [])) was
unfolding laid
set-laid [] [] v = refl
set-laid [] (w ∷ was) v = ap (λ (r : List ℤ). v ∷ (r ++ was)) (sym (take-nil (length was)))
set-laid (x ∷ xs) [] v = refl
set-laid (x ∷ xs) (w ∷ was) v = ap (λ (r : List ℤ). x ∷ r) (set-laid xs was v)

-- the turn leads on, with the numbers ys
pub record Onto (turn : Option Turn) (mode : Mode) (at : ℕ) (xs was is : List ℤ) (st : State) : Type 0 where
  pub ys : List ℤ
  pub count_is : st.count ≡ length ys
  pub few : length ys ≤ 68
  pub laid_is : is ≡ laid ys was
  pub on : (rest : Mode → ℕ → List ℤ → Read) → onward turn mode at xs rest ≡ rest st.mode (at + 1) ys

-- the turn stops with this answer
pub record Halts (turn : Option Turn) (mode : Mode) (at : ℕ) (xs was is : List ℤ) (x : TextError) : Type 0 where
  pub end : Read
  pub end_is : answer_of end ≡ Err x
  pub found_is : found_of end ≡ xs
  pub laid_is : is ≡ laid xs was
  pub stops : (rest : Mode → ℕ → List ℤ → Read) → onward turn mode at xs rest ≡ end

module _ (st : State) (at : ℕ) (xs was is is' : List ℤ) (count_is : st.count ≡ length xs) (few : length xs ≤ 68) (laid_is : is ≡ laid xs was) where
  carried_on : (turn : Option Turn) (r : Result State TextError) (next : State) → Takes turn st at is is' r → r ≡ Ok next → Onto turn st.mode at xs was is' next
  unfolding onward
  carried_on (Some (On mode)) r next k e =
      let same : Ok (record { mode = mode; count = st.count }) ≡ Ok next = sym k.does ∙ e in
      let a : ◌≡◌ {A = State} (record { mode = mode; count = st.count }) next = cc in
      record { ys = xs; count_is = rw (← a) count_is; few = few; laid_is = k.puts ∙ laid_is; on = λ rest. rw (← a) }
  carried_on (Some (Stores mode)) r next k e = by (ltb st.count 68) refl
    where
      by : (t : Bool) → ltb st.count 68 ≡ t → Onto (Some (Stores mode)) st.mode at xs was is' next
      by true t =
          let same : Ok (record { mode = mode; count = st.count + 1 }) ≡ Ok next = sym (rw t at k.does) ∙ e in
          let a : ◌≡◌ {A = State} (record { mode = mode; count = st.count + 1 }) next = cc in
          let l : length xs < 68 = omega (arith, ltb-true st.count 68 t) in
          let u : ltb (length xs) 68 ≡ true = rw count_is at t in
          record {
            ys = xs ++ (value_of st.mode ∷ []);
            count_is = rw (← a, length-append) (omega arith);
            few = simp length-append (omega arith);
            laid_is = (rw t at k.puts) ∙ (rw (laid_is, count_is) (set-laid xs was (value_of st.mode)));
            on = λ rest. rw (u, ← a);
          }
      by false t = let z : ◌≡◌ {A = ℕ} 0 1 = cc (rw t at k.does) in absurd (omega arith)
  carried_on None r next k e = let z : ◌≡◌ {A = ℕ} 0 1 = cc k.does in absurd (omega arith)

  carried_not : (turn : Option Turn) (r : Result State TextError) (x : TextError) → Takes turn st at is is' r → r ≡ Err x → Halts turn st.mode at xs was is' x
  unfolding onward
  carried_not (Some (On mode)) r x k e = let z : ◌≡◌ {A = ℕ} 0 1 = cc k.does in absurd (omega arith)
  carried_not (Some (Stores mode)) r x k e = by (ltb st.count 68) refl
    where
      by : (t : Bool) → ltb st.count 68 ≡ t → Halts (Some (Stores mode)) st.mode at xs was is' x
      by true t = let z : ◌≡◌ {A = ℕ} 0 1 = cc (rw t at k.does) in absurd (omega arith)
      by false t =
          let u : ltb (length xs) 68 ≡ false = rw count_is at t in
          let same : Err TooMany ≡ Err x = sym (rw t at k.does) ∙ e in
          let a : TooMany ≡ x = cc in
          record { end = full xs; end_is = ap Err a; found_is = refl; laid_is = (rw t at k.puts) ∙ laid_is; stops = λ rest. rw u }
  carried_not None r x k e =
      let same : Err (Wrong at) ≡ Err x = sym k.does ∙ e in
      let a : Wrong at ≡ x = cc in
      record { end = wrong at xs; end_is = ap Err a; found_is = refl; laid_is = k.puts ∙ laid_is; stops = λ rest. refl }

module _ (text : List ℕ) (was : List ℤ) where
  -- the numbers xs are read from the bytes before `at`
  pub record Going (is : List ℤ) (st : State) (at : ℕ) : Type 0 where
    pub xs : List ℤ
    pub count_is : st.count ≡ length xs
    pub few : length xs ≤ 68
    pub laid_is : is ≡ laid xs was
    pub at_le : at ≤ length text
    pub go : numbers_of text ≡ read_on (drop at text) st.mode at xs

  pub going_start : Going was (record { mode = Between; count = 0 }) 0
  unfolding laid
  going_start = record { xs = []; count_is = refl; few = omega arith; laid_is = rw take-nil; at_le = omega arith; go = refl }

  module _ {is is' : List ℤ} {st : State} {at : ℕ} {r : Result State TextError} (turn : Option Turn) (g : Going is st at) (k : Takes turn st at is is' r) where
    -- what the rules do at this byte
    here : at < length text → turn ≡ turn_of st.mode (kind_of (get_or text at 0)) → numbers_of text ≡ onward turn st.mode at g.xs (read_on (drop (suc at) text))
    unfolding read_on
    here h e = rw e (rw (drop-cons text at 0 h) at g.go)

    -- and at the end
    last : length text ≤ at → turn ≡ turn_of st.mode Line → numbers_of text ≡ onward turn st.mode at g.xs (λ m p ys. whole ys)
    unfolding read_on
    last h e = rw e (rw (drop_of_length-le text h) at g.go)

    onto : (next : State) → r ≡ Ok next → Onto turn st.mode at g.xs was is' next
    onto next e = carried_on st at g.xs was is is' g.count_is g.few g.laid_is turn r next k e

    stopped : (x : TextError) → r ≡ Err x → (rest : Mode → ℕ → List ℤ → Read) → numbers_of text ≡ onward turn st.mode at g.xs rest → Tells text was is' (Err x)
    stopped x e rest w =
        let s = carried_not st at g.xs was is is' g.count_is g.few g.laid_is turn r x k e in
        let f : numbers_of text ≡ s.end = w ∙ s.stops rest in
        record { told = rw f (sym s.end_is); places = rw (f, s.found_is) s.laid_is; most = rw (f, s.found_is) g.few }

    module _ (h : at < length text) (e : turn ≡ turn_of st.mode (kind_of (get_or text at 0))) where
      pub going_next : (next : State) → r ≡ Ok next → Going is' next (at + 1)
      going_next next q =
          let o = onto next q in
          record { xs = o.ys; count_is = o.count_is; few = o.few; laid_is = o.laid_is; at_le = omega arith; go = here h e ∙ o.on (read_on (drop (suc at) text)) ∙ rw add-one }

      pub going_not : (x : TextError) → r ≡ Err x → Tells text was is' (Err x)
      going_not x q = stopped x q (read_on (drop (suc at) text)) (here h e)

    module _ (h : length text ≤ at) (e : turn ≡ turn_of st.mode Line) where
      pub last_ok : (next : State) → r ≡ Ok next → Tells text was is' (Ok next.count)
      last_ok next q =
          let o = onto next q in
          let f : numbers_of text ≡ whole o.ys = last h e ∙ o.on (λ m p ys. whole ys) in
          record { told = ap Ok o.count_is ∙ sym (ap answer_of f); places = rw f o.laid_is; most = rw f o.few }

      pub last_not : (x : TextError) → r ≡ Err x → Tells text was is' (Err x)
      last_not x q = stopped x q (λ m p ys. whole ys) (last h e)

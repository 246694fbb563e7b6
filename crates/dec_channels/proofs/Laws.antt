-- How a channel comes of its Rice data, and how the channels of an element come together in scratch.
use Prim.Native.Nat.{ℕ, ◌+◌, ◌-◌, ◌*◌, ◌≤◌}
use mathlib.Core.Path.{◌≡◌, sym, ap, ◌∙◌}
use mathlib.Core.Bool.{◌||◌}
use mathlib.Core.List.{List, [], ◌∷◌, ◌++◌, map}
use native.Mathlib.Omega.{arith}
use borrow.Author.Tests.{ne_eqb}
use lib.Dec.{eqb}
use lib.ListN.{length, take, drop, length-append, length-drop}
use lib.Seq.{length-take-le}
use lib.IntN.{ℤ}
use borrow.Rule.Slice.PartMut.{put_mid}
use Rattle.std.specs.Prelude.{Result, Ok, Err, Option, None, Some, OnOk}
use Rattle.rules.specs.declared.Refusal.{Refusal}
use Rattle.rules.specs.declared.Refusal.TheVariants as refusal
use Rattle.rules.specs.Answers.{Ans, got, bad, bind, answered, check, Read, each}
use Rattle.rules.specs.Rice.{RiceData}
use Rattle.rules.specs.Prediction.{predicted, summed}
use Rattle.rules.specs.Element.{Channel, Params, channel_of}
use Rattle.laws.specs.Answers.{answered_got, answered_bad}
use Rattle.laws.specs.Words.{Every, none, one}
use Rattle.bitcursor.specs.Cursor.{Cursor}
use Rattle.bitcursor.specs.Reads.{told, Reads}
use Rattle.bitcursor.proofs.Laws.{value_of, refused_of}
use Rattle.dec_rice.specs.Promise.{filled, Decompressed}
use Rattle.buffers.specs.Halves.{parts, with_parts}
use Rattle.buffers.proofs.Halves.{halves_fit, with_rest, parts_with, with_first, with_second}
use Rattle.buffers.specs.Fills.{Roomy, Fills}
use Rattle.dec_header.specs.declared.plan.Parameters.{Parameters}
use Rattle.dec_header.specs.Plan.{params_of, channels_of}

-- a lent buffer's values, as the rules read them
abbrev Filled : {B : Type 0} → B → (List ℕ → Read B) → Cursor → Cursor → Result (Unit {0}) Refusal → Type 0
Filled v rule was is r = Reads (λ u. v) rule was is r

-- ---- one channel

-- the Rice data that was read, which the buffer has
rice_data : {rule : List ℕ → Read RiceData} {was is : Cursor} {old buf : List ℤ} {r : Result (Unit {0}) Refusal} {u : Unit {0}} → Decompressed rule was is old buf r → r ≡ Ok u
    → (d : RiceData) × (rule was.bits was.at ≡ got d is.at) × (buf ≡ d.residuals)
unfolding filled
rice_data {rule} {was} t k =
    let e = answered_got (λ (d : RiceData). tt) (rule was.bits was.at) (value_of t.reads k) in
    (e.0, e.1, rw e.1 at t.buffer)

module _ (b : ℕ) (c : Params) (rule : List ℕ → Read RiceData) where
  -- the channel of Rice data that was read, or of none
  abbrev from : List ℕ → Read (List ℤ)
  from bits p = answered (λ x. x.values) (bind (rule bits p) (λ d q. bind (check (eqb c.mode 0 || eqb c.mode 15) refusal.Mode q) (λ u i. got (channel_of b c d) i)))

  abbrev sampled : List ℤ → List ℤ
  sampled xs = (predicted b c.quant [] c.coefs xs).values

  module _ {was is : Cursor} {old buf new : List ℤ} {r : Result (Unit {0}) Refusal} (t : Decompressed rule was is old buf r) where
    pub from_refused : {x : Refusal} → r ≡ Err x → Filled new from was is (Err x)
    unfolding answered bind told
    from_refused k =
        let e = answered_bad (λ (d : RiceData). tt) (rule was.bits was.at) (refused_of t.reads k) in
        record { tells = rw e; same = t.reads.same }

    module _ {u : Unit {0}} (k : r ≡ Ok u) where
      pub from_plain : c.mode ≡ 0 → new ≡ sampled buf → Filled new from was is (Ok tt)
      unfolding answered bind told channel_of
      from_plain m f = let d = rice_data t k in record { tells = go d.0 d.1 d.2; same = t.reads.same }
        where
          go : (d : RiceData) → rule was.bits was.at ≡ got d is.at → buf ≡ d.residuals → got new is.at ≡ from was.bits was.at
          go d e g = rw (e, m, f, g)

      pub from_summed : c.mode ≡ 15 → new ≡ sampled (summed b buf) → Filled new from was is (Ok tt)
      unfolding answered bind told channel_of
      from_summed m f = let d = rice_data t k in record { tells = go d.0 d.1 d.2; same = t.reads.same }
        where
          go : (d : RiceData) → rule was.bits was.at ≡ got d is.at → buf ≡ d.residuals → got new is.at ≡ from was.bits was.at
          go d e g = rw (e, m, f, g)

      pub from_other : (c.mode ≡ 0 → ⊥) → (c.mode ≡ 15 → ⊥) → Filled new from was is (Err refusal.Mode)
      unfolding answered bind told
      from_other f g = let d = rice_data t k in record { tells = rw (d.1, ne_eqb c.mode 0 f, ne_eqb c.mode 15 g); same = t.reads.same }

-- ---- the channels, one after the other

module _ (f : List ℕ → Params → Read Channel) where
  abbrev single : Params → List ℕ → Read (List ℤ)
  single c bits p = answered (λ x. x.values) (f bits c p)

  abbrev all : List Params → List ℕ → Read (List (List ℤ))
  all cs bits p = answered (map (λ x. x.values)) (each cs (f bits) p)

  module _ (c : Params) {was mid : Cursor} {ys : List ℤ} {r : Result (Unit {0}) Refusal} (t : Filled ys (single c) was mid r) where
    all_refused : {x : Refusal} {chans : List (List ℤ)} (cs : List Params) → r ≡ Err x → Filled chans (all (c ∷ cs)) was mid (Err x)
    unfolding answered bind each told
    all_refused cs k =
        let e = answered_bad (λ (x : Channel). x.values) (f was.bits c was.at) (refused_of t k) in
        record { tells = rw e; same = t.same }

    module _ {u : Unit {0}} (k : r ≡ Ok u) where
      pub all_one : Filled (ys ∷ []) (all (c ∷ [])) was mid (Ok tt)
      unfolding answered bind each told
      all_one =
          let e = answered_got (λ (x : Channel). x.values) (f was.bits c was.at) (value_of t k) in
          record { tells = go e.0 e.1 e.2; same = t.same }
        where
          go : (x : Channel) → f was.bits c was.at ≡ got x mid.at → ys ≡ x.values → got (ys ∷ []) mid.at ≡ all (c ∷ []) was.bits was.at
          go x e g = rw (e, g)

      pub all_two : (d : Params) {is : Cursor} {zs : List ℤ} (q : Result (Unit {0}) Refusal) → Filled zs (single d) mid is q → Filled (ys ∷ zs ∷ []) (all (c ∷ d ∷ [])) was is q
      unfolding answered bind each told
      all_two d {is} {zs} q s =
          let e = answered_got (λ (x : Channel). x.values) (f was.bits c was.at) (value_of t k) in
          record { tells = go e.0 e.1 e.2 q (rw t.same at s.tells); same = s.same ∙ t.same }
        where
          last : (x : Channel) → ys ≡ x.values → (a : Ans Channel) (h : Result (Unit {0}) Refusal) → told (λ u. zs) h is.at ≡ answered (λ x. x.values) a
              → told (λ u. ys ∷ zs ∷ []) h is.at ≡ answered (map (λ x. x.values)) (bind (bind a (λ y i. got (y ∷ []) i)) (λ xs i. got (x ∷ xs) i))
          last x g (got y j) (Ok v) i = let e : zs ≡ y.values = cc in let p : j ≡ is.at = cc in rw (g, e, p)
          last x g (bad y j) (Ok v) i = absurd (cc)
          last x g (got y j) (Err z) i = absurd (cc)
          last x g (bad y j) (Err z) i = cc

          go : (x : Channel) → f was.bits c was.at ≡ got x mid.at → ys ≡ x.values → (h : Result (Unit {0}) Refusal) → told (λ u. zs) h is.at ≡ single d was.bits mid.at
              → told (λ u. ys ∷ zs ∷ []) h is.at ≡ all (c ∷ d ∷ []) was.bits was.at
          go x e g h i = rw e (last x g (f was.bits d mid.at) h i)

  -- the first of a plan's channels, whether the second is there or not
  pub plan_refused : (first : Parameters) (second : Option Parameters) {was mid : Cursor} {ys : List ℤ} {r : Result (Unit {0}) Refusal} {x : Refusal} {chans : List (List ℤ)}
      → Filled ys (single (params_of first)) was mid r → r ≡ Err x → Filled chans (all (channels_of first second)) was mid (Err x)
  plan_refused first None t k = all_refused (params_of first) t [] k
  plan_refused first (Some second) t k = all_refused (params_of first) t (params_of second ∷ []) k

-- ---- where they lie

on_ok : {A E P : Type 0} (r : Result A E) → P → OnOk r P
on_ok (Ok v) p = p
on_ok (Err x) p = tt

module _ {half n w : ℕ} {scratch : List ℤ} (r : Roomy half n w scratch) where
  first_laid : (ys : List ℤ) → length ys ≡ n → ys ++ drop n scratch ≡ with_parts half (ys ∷ []) scratch
  first_laid ys e = with_first half n r.short ys scratch e (omega (arith, r.room))

  module _ {rule : List ℕ → Read (List (List ℤ))} {was now : Cursor} where
    -- channels that were laid, each in its half
    laid_fills : (chans : List (List ℤ)) {is : List ℤ} {q : Result (Unit {0}) Refusal} → is ≡ with_parts half chans scratch → w ≡ length chans → Every (λ c. length c ≡ n) chans
        → Filled chans rule was now q → Fills half n w rule was now scratch is q
    laid_fills chans {is} {q} e l h t =
        let fit = halves_fit half (length chans) (length scratch) (omega (arith, r.two)) r.room in
        let k : parts half n w is ≡ chans = ap (parts half n w) e ∙ rw l (parts_with half n r.short scratch h fit) in
        record {
          reads = rw k t;
          laid = on_ok q (e ∙ ap (λ (x : List (List ℤ)). with_parts half x scratch) (sym k));
          rest = ap (drop (2 * half)) e ∙ with_rest half 2 chans scratch (omega (arith, r.two)) r.room;
        }

    pub one_fills : (ys : List ℤ) → length ys ≡ n → w ≡ 1 → Filled (ys ∷ []) rule was now (Ok tt) → Fills half n w rule was now scratch (ys ++ drop n scratch) (Ok tt)
    one_fills ys e l t = laid_fills (ys ∷ []) (first_laid ys e) l (one e none) t

    pub two_fill : (ys zs : List ℤ) {q : Result (Unit {0}) Refusal} → length ys ≡ n → length zs ≡ n → w ≡ 2 → Filled (ys ∷ zs ∷ []) rule was now q
        → Fills half n w rule was now scratch (put_mid half (half + n - half) (ys ++ drop n scratch) zs) q
    two_fill ys zs e f l t =
        let k : put_mid half (half + n - half) (ys ++ drop n scratch) zs ≡ with_parts half (ys ∷ zs ∷ []) scratch =
        ap (λ (x : List ℤ). put_mid half (half + n - half) x zs) (first_laid ys e) ∙ with_second half n r.short ys zs {more = []} scratch e f none (omega arith) r.room in
        laid_fills (ys ∷ zs ∷ []) k l (one e (one f none)) t

    pub refused_fills : (ys : List ℤ) {x : Refusal} → length ys ≡ n → Filled (parts half n w (ys ++ drop n scratch)) rule was now (Err x)
        → Fills half n w rule was now scratch (ys ++ drop n scratch) (Err x)
    refused_fills ys e t =
        record { reads = t; laid = tt; rest = ap (drop (2 * half)) (first_laid ys e) ∙ with_rest half 2 (ys ∷ []) scratch (omega arith) r.room }

  pub length-first : length (take n scratch) ≡ n
  length-first = length-take-le n scratch (omega (arith, r.short, r.room))

  -- the part that is lent to the second channel
  pub length-second : (ys : List ℤ) → length ys ≡ n → length (take (half + n - half) (drop half (ys ++ drop n scratch))) ≡ n
  length-second ys e =
      let l : length (ys ++ drop n scratch) ≡ length scratch = length-append ys (drop n scratch) ∙ omega (arith, r.short, r.room, length-drop n scratch) in
      let k : half + n - half ≤ length (drop half (ys ++ drop n scratch)) = omega (arith, r.short, r.room, length-drop half (ys ++ drop n scratch)) in
      length-take-le (half + n - half) (drop half (ys ++ drop n scratch)) k ∙ omega arith

-- What an audio element gives: as many channels as its tag says, each of its sample number, which is at most the frame length.
use Prim.Native.Nat.{ℕ, zero, suc, ◌+◌, ◌*◌, ◌≤◌}
use Rattle.std.specs.Prelude.{◌≡◌, Bool, ◌&&◌, ◌||◌, leb, ltb, drop, ℤ}
use Rattle.std.proofs.Math.Path.{refl, ap}
use Rattle.std.proofs.Common.{◌∙◌, le_refl, leb-true}
use Rattle.std.proofs.Math.Bool.{true, false}
use mathlib.Core.List.{List, [], ◌∷◌, map}
use Rattle.std.proofs.Math.Dec.{eqb}
use Rattle.std.proofs.Math.ListN.{length, length-map}
use Rattle.rules.specs.declared.StreamInfo.{StreamInfo}
use Rattle.rules.specs.declared.Refusal.{Refusal}
use Rattle.rules.specs.declared.Refusal.TheVariants as refusal
use Rattle.rules.specs.Answers.{Ans, got, bad, pick, bind, Read, times, each, check}
use Rattle.rules.specs.Bits.{within, field}
use Rattle.rules.specs.Words.{is_zero, signed, wrap, add32}
use Rattle.rules.specs.Stream.{channel_bits}
use Rattle.rules.specs.Buffers.{lanes, pairs}
use Rattle.rules.specs.Symbol.{symbol}
use Rattle.rules.specs.Rice.{SymbolReader, RiceData, sample, rice}
use Rattle.rules.specs.Prediction.{summed, summed_from}
use Rattle.rules.specs.Mix.{left_of, right_of, on_pair, unmixed}
use Rattle.rules.specs.Element.{Sound, Channel, Params, params_ok, mix_ok, all_of, numbers, extended, with_extra, extra_bits, channel_of, assembled, raw_sound, sample_number, params, channel, planned, compressed, uncompressed, header, audio_element}
use Rattle.laws.specs.Words.{Every, none, one}
use Rattle.laws.specs.Buffers.{pairs-length, lanes_count, lanes-length}
use Rattle.laws.specs.Prediction.{predicted-length}

module _ {A : Type 0} where
  -- what holds of an answer's value, if it has one
  pub data All (P : A → Type 0) : Ans A → Type 0 where
    of_got : {a : A} {p : ℕ} → P a → All P (got a p)
    of_bad : {x : Refusal} {p : ℕ} → All P (bad x p)

  pub all_got : {P : A → Type 0} {a : A} {p : ℕ} → All P (got a p) → P a
  all_got (of_got h) = h

  all-pick : (P : A → Type 0) (t : Bool) {a b : Ans A} → All P a → All P b → All P (pick t a b)
  all-pick P true h g = h
  all-pick P false h g = g

module _ {A B : Type 0} {P : A → Type 0} {Q : B → Type 0} (k : A → Read B) where
  pub all-bind : {a : Ans A} → All P a → ((v : A) → P v → (p : ℕ) → All Q (k v p)) → All Q (bind a k)
  unfolding bind
  all-bind (of_got {a = a} {p = p} h) f = f a h p
  all-bind of_bad f = of_bad

-- nothing is said of the value
abbrev pub Any : {A : Type 0} → A → Type 0
Any a = Unit {0}

pub all_any : {A : Type 0} (a : Ans A) → All Any a
all_any (got a p) = of_got tt
all_any (bad x p) = of_bad

pub check_holds : (t : Bool) (x : Refusal) (p : ℕ) → All (λ u. t ≡ true) (check t x p)
check_holds true x p = of_got refl
check_holds false x p = of_bad

module _ {A : Type 0} where
  times_count : (n : ℕ) (m : Read A) (p : ℕ) → All (λ xs. length xs ≡ n) (times n m p)
  unfolding times
  times_count zero m p = of_got refl
  times_count (suc n) m p = all-bind _ (all_any (m p)) (λ x u q. all-bind _ (times_count n m q) (λ xs e r. of_got (ap suc e)))

-- n of a kind
record Counted {A : Type 0} (Q : A → Type 0) (n : ℕ) (ys : List A) : Type 0 where
  pub count : length ys ≡ n
  pub all : Every Q ys

module _ {A B : Type 0} (Q : B → Type 0) where
  each_counted : (xs : List A) (f : A → Read B) → ((x : A) (p : ℕ) → All Q (f x p)) → (p : ℕ) → All (Counted Q (length xs)) (each xs f p)
  unfolding each
  each_counted [] f h p = of_got (record { count = refl; all = none })
  each_counted (x ∷ xs) f h p =
      all-bind _ (h x p) (λ y g q.
      all-bind _ (each_counted xs f h q) (λ ys e r. of_got (record { count = ap suc e.count; all = one g e.all })))

-- ---- a channel

module _ (S : SymbolReader) (f kb b : ℕ) where
  rice_count : (n owed h plus p : ℕ) → All (λ d. length d.residuals ≡ n) (rice S f kb b n owed h plus p)
  unfolding rice
  rice_count zero owed h plus p = of_got refl
  rice_count (suc n) (suc owed) h plus p = all-bind _ (rice_count n owed 0 1 p) (λ d e q. of_got (ap suc e))
  rice_count (suc n) zero h plus p =
      all-bind _ (all_any (sample S f kb b h plus n p))
      (λ t u q. all-bind _ (rice_count n t.owed t.history t.plus q) (λ d e r. of_got (ap suc e)))

summed-length : (b : ℕ) (xs : List ℤ) → length (summed b xs) ≡ length xs
unfolding summed summed_from
summed-length b [] = refl
summed-length b (x ∷ xs) = ap suc (from x xs)
  where
    from : (last : ℤ) (es : List ℤ) → length (summed_from b last es) ≡ length es
    from last [] = refl
    from last (e ∷ es) = ap suc (from (wrap b (add32 last e)) es)

pick-length : (t : Bool) {n : ℕ} (xs ys : List ℤ) → length xs ≡ n → length ys ≡ n → length (pick t xs ys) ≡ n
pick-length true xs ys h g = h
pick-length false xs ys h g = g

channel_of_length : (b : ℕ) (c : Params) (d : RiceData) {n : ℕ} → length d.residuals ≡ n → length (channel_of b c d).values ≡ n
unfolding channel_of
channel_of_length b c d h =
    (predicted-length b c.quant [] c.coefs _).of_values
    ∙ pick-length (eqb c.mode 15) (summed b d.residuals) d.residuals (summed-length b d.residuals ∙ h) h

module _ (bits : List ℕ) (s : StreamInfo) where
  channel-length : (n b : ℕ) (c : Params) (p : ℕ) → All (λ x. length x.values ≡ n) (channel bits s n b c p)
  unfolding channel
  channel-length n b c p =
      all-bind _ (rice_count (symbol bits) c.factor s.kb b n 0 s.mb 0 p)
      (λ d e q. all-bind _ (check_holds (eqb c.mode 0 || eqb c.mode 15) refusal.Mode q) (λ u t r. of_got (channel_of_length b c d e)))

-- ---- the element

pub numbers-length : (n w : ℕ) (bits : List ℕ) → length (numbers n w bits) ≡ n
unfolding numbers
numbers-length zero w bits = refl
numbers-length (suc n) w bits = ap suc (numbers-length n w (drop w bits))

-- channels of n samples each
abbrev pub Long : {A : Type 0} → ℕ → List (List A) → Type 0
Long {A} n = Every (λ (l : List A). length l ≡ n)

-- w channels of n samples each
pub record Formed {A : Type 0} (w n : ℕ) (chans : List (List A)) : Type 0 where
  pub count : length chans ≡ w
  pub long : Long n chans

pair_formed : (f g : ℤ → ℤ → ℤ) {w n : ℕ} (chans : List (List ℤ)) → Formed w n chans → Formed w n (on_pair f g chans)
unfolding on_pair
pair_formed f g [] h = h
pair_formed f g (us ∷ []) h = h
pair_formed f g (us ∷ vs ∷ []) h = record { count = h.count; long = both h.long }
  where
    both : {n : ℕ} → Long n (us ∷ vs ∷ []) → Long n (pairs f us vs ∷ pairs g us vs ∷ [])
    both (one a (one b none)) = one (pairs-length f us vs a b) (one (pairs-length g us vs a b) none)
pair_formed f g (us ∷ vs ∷ ws ∷ chans) h = h

pub unmixed_formed : (mix_bits : ℕ) (mix_res : ℤ) {w n : ℕ} (chans : List (List ℤ)) → Formed w n chans → Formed w n (unmixed mix_bits mix_res chans)
unfolding unmixed
unmixed_formed mix_bits mix_res {w} {n} chans h = go (is_zero mix_res)
  where
    go : (t : Bool) → Formed w n (pick t chans (on_pair (left_of mix_bits mix_res) (right_of mix_bits mix_res) chans))
    go true = h
    go false = pair_formed (left_of mix_bits mix_res) (right_of mix_bits mix_res) chans h

pairs_formed : (f : ℤ → ℕ → ℤ) {w n : ℕ} (chans : List (List ℤ)) (extra : List (List ℕ)) → Formed w n chans → length extra ≡ w
    → Every (λ l. length l ≡ n) extra → Formed w n (pairs (pairs f) chans extra)
unfolding pairs
pairs_formed f {w} {n} chans extra h e l = record { count = pairs-length (pairs f) chans extra h.count e; long = all chans extra h.long l }
  where
    all : (xs : List (List ℤ)) (ys : List (List ℕ)) → Long n xs → Every (λ m. length m ≡ n) ys → Long n (pairs (pairs f) xs ys)
    all [] ys a b = none
    all (x ∷ xs) [] a b = none
    all (x ∷ xs) (y ∷ ys) (one a as') (one b bs) = one (pairs-length f x y a b) (all xs ys as' bs)

pub extra_formed : (w shift n : ℕ) (extra : List ℕ) (chans : List (List ℤ)) → 1 ≤ w → length extra ≡ n * w → Formed w n chans → Formed w n (with_extra w shift extra chans)
unfolding with_extra
extra_formed w shift n extra chans l e h = go (eqb shift 0)
  where
    go : (t : Bool) → Formed w n (pick t chans (pairs (pairs (extended shift)) chans (lanes w extra)))
    go true = h
    go false = pairs_formed (extended shift) chans (lanes w extra) h (lanes_count w extra) (lanes-length n w extra l e)

-- an element's sound
pub record Shaped (frame w : ℕ) (sound : Sound) : Type 0 where
  pub samples_le : sound.samples ≤ frame
  pub formed : Formed w sound.samples sound.chans

values_formed : {w n : ℕ} (read : List Channel) → Counted (λ c. length c.values ≡ n) w read → Formed w n (map (λ c. c.values) read)
values_formed read h = record { count = length-map read (λ c. c.values) ∙ h.count; long = all h.all }
  where
    all : {n : ℕ} {cs : List Channel} → Every (λ c. length c.values ≡ n) cs → Long n (map (λ c. c.values) cs)
    all none = none
    all (one a as') = one a (all as')

module _ (bits : List ℕ) (s : StreamInfo) (w : ℕ) (w-ge : 1 ≤ w) where
  abbrev frame : ℕ
  frame = s.frame_length

  number_le : (partial p : ℕ) → All (λ n. n ≤ frame) (sample_number bits s partial p)
  unfolding sample_number
  number_le zero p = of_got (le_refl frame)
  number_le (suc partial) p =
      all-bind _ (all_any (field bits 32 p)) (λ n u q. all-bind _ (check_holds (leb n frame) refusal.Partial q) (λ v t r. of_got (leb-true n frame t)))

  header_le : (p : ℕ) → All (λ h. h.samples ≤ frame) (header bits s p)
  unfolding header
  header_le p =
      all-bind _ (all_any (field bits 4 p)) (λ a u q.
      all-bind _ (all_any (field bits 12 q)) (λ b u q.
      all-bind _ (all_any (check (eqb b 0) refusal.Unused q)) (λ c u q.
      all-bind _ (all_any (field bits 1 q)) (λ d u q.
      all-bind _ (all_any (field bits 2 q)) (λ e u q.
      all-bind _ (all_any (check (ltb e 3) refusal.Shift q)) (λ f u q.
      all-bind _ (all_any (field bits 1 q)) (λ g u q.
      all-bind _ (number_le d q) (λ n l q. of_got l))))))))

  plan_count : (p : ℕ) → All (λ x. length x.params ≡ w) (planned bits s w p)
  unfolding planned
  plan_count p =
      all-bind _ (all_any (field bits 8 p)) (λ a u q.
      all-bind _ (all_any (field bits 8 q)) (λ b u q.
      all-bind _ (times_count w (params bits s) q) (λ cs e q.
      all-bind _ (all_any (check (all_of params_ok cs && mix_ok w a (signed 8 b)) refusal.Parameters q)) (λ c u q. of_got e))))

  extra_count : (count shift p : ℕ) → All (λ xs. length xs ≡ count) (extra_bits bits count shift p)
  unfolding extra_bits within
  extra_count count shift p = all-pick _ (leb (p + shift * count) (length bits)) (of_got (numbers-length count shift (drop p bits))) of_bad

  compressed_shaped : (shift n p : ℕ) → n ≤ frame → All (Shaped frame w) (compressed bits s w shift n p)
  unfolding compressed assembled
  compressed_shaped shift n p l =
      let b : ℕ = channel_bits s shift w in
      all-bind _ (all_any (check (leb b 32) refusal.WideChannel p)) (λ a u q.
      all-bind _ (all_any (check (ltb 0 b) refusal.NoChannelBits q)) (λ a u q.
      all-bind _ (plan_count q) (λ plan e q.
      all-bind _ (extra_count (n * w) shift q) (λ extra f q.
      all-bind _ (each_counted (λ c. length c.values ≡ n) plan.params (channel bits s n b) (channel-length bits s n b) q) (λ read g q.
      of_got (record {
        samples_le = l;
        formed = extra_formed w shift n extra _ w-ge f (unmixed_formed plan.mix_bits plan.mix_res _ (values_formed read (rw e at g)));
      }))))))

  uncompressed_shaped : (code n p : ℕ) → n ≤ frame → All (Shaped frame w) (uncompressed bits s w code n p)
  unfolding uncompressed raw_sound
  uncompressed_shaped code n p l =
      all-bind _ (all_any (check (eqb code 0) refusal.ShiftedRaw p)) (λ a u q.
      all-bind _ (times_count (n * w) (field bits s.bit_depth) q) (λ raw e q.
      let f : length (map (signed s.bit_depth) raw) ≡ n * w = length-map raw (signed s.bit_depth) ∙ e in
      of_got (record {
        samples_le = l;
        formed = record { count = lanes_count w (map (signed s.bit_depth) raw); long = lanes-length n w (map (signed s.bit_depth) raw) w-ge f };
      })))

  pub element_shaped : (p : ℕ) → All (Shaped frame w) (audio_element bits s w p)
  unfolding audio_element
  element_shaped p = all-bind _ (header_le p) (λ h l q. either (eqb h.raw 0) _ _ q (compressed_shaped (8 * h.code) h.samples q l) (uncompressed_shaped h.code h.samples q l))
    where
      either : (t : Bool) (a b : Read Sound) (q : ℕ) → All (Shaped frame w) (a q) → All (Shaped frame w) (b q) → All (Shaped frame w) (pick t a b q)
      either true a b q h g = h
      either false a b q h g = g

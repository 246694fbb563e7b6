-- The reader: an accepted packet has as many channels as the stream, each of its sample number, and they lie in the output sample by sample.
use Prim.Native.Nat.{ℕ, zero, suc, ◌+◌, ◌*◌, ◌/◌, ◌≤◌}
use Rattle.std.specs.Prelude.{◌≡◌, refl, Bool, true, false, leb, eqb, take, drop, replicate, ℤ, Option, None, Some}
use Rattle.std.proofs.Math.Path.{sym, ap}
use Rattle.std.proofs.Common.{◌∙◌, zero-mul, suc-mul, mul-le-mul_right, arith, take_at, drop_at}
use mathlib.Core.List.{List, [], ◌∷◌, ◌++◌, map, append_assoc}
use borrow.Author.Tests.{leb-true, eqb-true, eq-eqb}
use Rattle.std.proofs.Math.ListN.{length, length-append}
use Rattle.std.proofs.lemmas.List.{length-map, length-replicate}
use Rattle.rules.specs.declared.StreamInfo.{StreamInfo}
use Rattle.rules.specs.declared.Refusal.{Refusal}
use Rattle.rules.specs.declared.Refusal.TheVariants as refusal
use Rattle.rules.specs.Answers.{Ans, got, pick, Read, check, refuse}
use Rattle.rules.specs.Bits.{bits_of, field, skip, skip_to_byte}
use Rattle.rules.specs.Stream.{Width, output_places}
use Rattle.rules.specs.Buffers.{cleared, tails, interleaved, stored}
use Rattle.rules.specs.Element.{Sound}
use Rattle.rules.specs.Packet.{Turn, audio, passed, end, agrees, number_known, followed, onward, skip_bytes, data_count, aligned, data_bytes, data_element, fill_element, sound_element, end_element, tagged, turn, run, packet}
use Rattle.rules.specs.Reader.{written}
use Rattle.laws.specs.Words.{Every, none, one}
use Rattle.laws.specs.Buffers.{laid-length, laid-all}
use Rattle.laws.specs.Stored.{tails-length, heads-length, tails-every, stored-interleaved, cleared-same}
use Rattle.laws.specs.Shape.{All, of_got, of_bad, all-bind, all_any, check_holds, Long, Formed, Shaped, element_shaped}

-- ---- bits and buffers

pub bits_append : (xs ys : List ℕ) → bits_of (xs ++ ys) ≡ bits_of xs ++ bits_of ys
unfolding bits_of
bits_append [] ys = refl
bits_append (x ∷ xs) ys = rw (bits_append xs ys, append_assoc)

pub cleared-cleared : {A : Type 0} (z : A) (n : ℕ) (was : List A) → n ≤ length was → cleared z n (cleared z n was) ≡ cleared z n was
cleared-cleared z n was h =
    let e : drop n (cleared z n was) ≡ drop n was =
    rw (laid-all (replicate n z) was (rw length-replicate h), length-replicate) (drop_at (replicate n z) (drop n was) n (length-replicate n z)) in
    cleared-same z n (cleared z n was) was (laid-length (replicate n z) was) e

-- ---- the channels of a packet

pub every_append : {A : Type 0} {P : A → Type 0} {xs ys : List A} → Every P xs → Every P ys → Every P (xs ++ ys)
every_append none b = b
every_append (one h a) b = one h (every_append a b)

all_map : {A : Type 0} {P Q : A → Type 0} {a : Ans A} → ((x : A) → P x → Q x) → All P a → All Q a
all_map f (of_got {a = x} h) = of_got (f x h)
all_map f of_bad = of_bad

agrees_self : (m : Option ℕ) → agrees m (number_known m) ≡ true
unfolding agrees
agrees_self None = refl
agrees_self (Some k) = eq-eqb k k refl

module _ (s : StreamInfo) where
  -- an element's sound, after so many channels and with that sample number
  pub record Joins (so_far : ℕ) (m : Option ℕ) (sound : Sound) : Type 0 where
    pub samples_le : sound.samples ≤ s.frame_length
    pub long : Long sound.samples sound.chans
    pub two : length sound.chans ≤ 2
    pub channels_le : so_far + length sound.chans ≤ s.num_channels
    pub agree : agrees m sound.samples ≡ true

  unfoldable pub Fits : ℕ → Option ℕ → Turn → Type 0
  Fits so_far m (audio sound) = Joins so_far m sound
  Fits so_far m passed = Unit {0}
  Fits so_far m (end n) = (s.num_channels ≤ so_far) × (n ≡ number_known m)

  -- the sound that is still to come
  record Rest (so_far : ℕ) (m : Option ℕ) (sound : Sound) : Type 0 where
    pub samples_le : sound.samples ≤ s.frame_length
    pub long : Long sound.samples sound.chans
    pub width : so_far + length sound.chans ≡ s.num_channels
    pub agree : agrees m sound.samples ≡ true

  onward_fits : (so_far : ℕ) (m : Option ℕ) (go : ℕ → Option ℕ → Read Sound) → so_far ≤ s.num_channels → number_known m ≤ s.frame_length
      → ((c : ℕ) (l : Option ℕ) (p : ℕ) → c ≤ s.num_channels → number_known l ≤ s.frame_length → All (Rest c l) (go c l p))
      → (t : Turn) → Fits so_far m t → (p : ℕ) → All (Rest so_far m) (onward so_far m go t p)
  unfolding Fits onward followed agrees
  onward_fits so_far m go h l f (audio sound) k p =
      all-bind (λ rest q. got (followed sound rest) q) (f (so_far + length sound.chans) (Some sound.samples) p k.channels_le k.samples_le) (λ rest g q.
      let e : sound.samples ≡ rest.samples = eqb-true _ _ g.agree in
      of_got (record {
        samples_le = g.samples_le;
        long = every_append (rw e at k.long) g.long;
        width = omega (arith, g.width, length-append sound.chans rest.chans);
        agree = rw e at k.agree;
      }))
  onward_fits so_far m go h l f passed k p = f so_far m p h l
  onward_fits so_far m go h l f (end n) k p =
      of_got {a = record { samples = n; chans = []; tracks = [] }} (record { samples_le = rw k.1 l; long = none; width = omega arith; agree = rw k.1 (agrees_self m) })

module _ (bits : List ℕ) (s : StreamInfo) where
  module _ (so_far : ℕ) (m : Option ℕ) where
    sound_fits : (w : ℕ) → 1 ≤ w → w ≤ 2 → (p : ℕ) → All (Fits s so_far m) (sound_element bits s so_far m w p)
    unfolding sound_element Fits
    sound_fits w lo hi p =
        all-bind _ (check_holds (leb (so_far + w) s.num_channels) refusal.ManyChannels p) (λ u t q.
        all-bind _ (element_shaped bits s w lo q) (λ sound h q.
        all-bind _ (check_holds (agrees m sound.samples) refusal.Disagree q) (λ v a q.
        let e = h.formed.count in
        of_got (record { samples_le = h.samples_le; long = h.formed.long; two = omega arith; channels_le = omega (arith, leb-true (so_far + w) s.num_channels t); agree = a }))))

    passed_fits : (n p : ℕ) → All (Fits s so_far m) (skip_bytes bits n p)
    unfolding skip_bytes Fits
    passed_fits n p = all-bind _ (all_any (skip bits (n * 8) p)) (λ a u q. of_got tt)

    data_fits : (p : ℕ) → All (Fits s so_far m) (data_element bits p)
    unfolding data_element data_bytes
    data_fits p =
        all-bind _ (all_any (field bits 4 p)) (λ a u q.
        all-bind _ (all_any (field bits 1 q)) (λ asked u q.
        all-bind _ (all_any (data_count bits q)) (λ n u q.
        all-bind _ (all_any (aligned bits asked q)) (λ b u q. passed_fits n q))))

    fill_fits : (p : ℕ) → All (Fits s so_far m) (fill_element bits p)
    unfolding fill_element
    fill_fits p =
        all-bind _ (all_any (field bits 4 p)) (λ n u q.
        all-bind _ (all_any (check (leb n 14) refusal.Fill q)) (λ a u q. passed_fits n q))

    end_fits : (p : ℕ) → All (Fits s so_far m) (end_element bits s so_far m p)
    unfolding end_element Fits
    end_fits p =
        all-bind _ (all_any (skip_to_byte bits p)) (λ a u q.
        all-bind _ (check_holds (leb s.num_channels so_far) refusal.FewChannels q) (λ b t q. of_got (leb-true _ _ t, refl)))

    bad_fits : (x : Refusal) (p : ℕ) → All (Fits s so_far m) (refuse x p)
    bad_fits x p = of_bad

    pick_fits : (t : Bool) {f g : Read Turn} → ((p : ℕ) → All (Fits s so_far m) (f p)) → ((p : ℕ) → All (Fits s so_far m) (g p)) → (p : ℕ) → All (Fits s so_far m) (pick t f g p)
    pick_fits true h k = h
    pick_fits false h k = k

    tagged_fits : (tag p : ℕ) → All (Fits s so_far m) (tagged bits s so_far m tag p)
    unfolding tagged
    tagged_fits tag =
        pick_fits (eqb tag 0) (sound_fits 1 (omega arith) (omega arith))
        (pick_fits (eqb tag 1) (sound_fits 2 (omega arith) (omega arith))
        (pick_fits (eqb tag 2) (bad_fits refusal.Unsupported)
        (pick_fits (eqb tag 3) (sound_fits 1 (omega arith) (omega arith))
        (pick_fits (eqb tag 4) data_fits
        (pick_fits (eqb tag 5) (bad_fits refusal.Unsupported)
        (pick_fits (eqb tag 6) fill_fits
        end_fits))))))

    pub turn_fits : (p : ℕ) → All (Fits s so_far m) (turn bits s so_far m p)
    unfolding turn
    turn_fits p = all-bind _ (all_any (field bits 3 p)) (λ tag u q. tagged_fits tag q)

  run_fits : (most so_far : ℕ) (m : Option ℕ) (p : ℕ) → so_far ≤ s.num_channels → number_known m ≤ s.frame_length → All (Rest s so_far m) (run bits s most so_far m p)
  unfolding run
  run_fits zero so_far m p h l = of_bad
  run_fits (suc most) so_far m p h l = all-bind _ (turn_fits so_far m p) (onward_fits s so_far m (run bits s most) h l (run_fits most))

  pub packet_shaped : All (Shaped s.frame_length s.num_channels) (packet bits s)
  unfolding packet
  packet_shaped =
      all_map (λ sound r. record { samples_le = r.samples_le; formed = record { count = omega (arith, r.width); long = r.long } })
      (run_fits (length bits / 3 + 1) 0 None 0 (omega arith) (omega arith))

-- ---- an accepted packet in the output

interleaved-length : {A : Type 0} (n : ℕ) (chans : List (List A)) → Every (λ l. length l ≡ n) chans → length (interleaved n chans) ≡ n * length chans
unfolding interleaved
interleaved-length zero chans a = sym (zero-mul (length chans))
interleaved-length (suc n) chans a =
    rw (length-append, heads-length n chans a, interleaved-length n (tails chans) (tails-every n chans a), tails-length, suc-mul) (omega arith)

map_formed : {A : Type 0} (f : ℤ → A) {w n : ℕ} (chans : List (List ℤ)) → Formed w n chans → Formed w n (map (map f) chans)
map_formed f chans h = record { count = length-map chans (map f) ∙ h.count; long = all h.long }
  where
    all : {n : ℕ} {ls : List (List ℤ)} → Long n ls → Long n (map (map f) ls)
    all none = none
    all (one {x = l} a as') = one (length-map l f ∙ a) (all as')

-- what a kind of output keeps of the channels
abbrev pub kept : {A : Type 0} → Width A → StreamInfo → Sound → List (List A)
kept w s sound = map (map (w.keep s.bit_depth)) sound.chans

module _ {A : Type 0} (w : Width A) (s : StreamInfo) {sound : Sound} (h : Shaped s.frame_length s.num_channels sound) (out : List A) (r : output_places s ≤ length out) where
  kept_formed : Formed s.num_channels sound.samples (kept w s sound)
  kept_formed = map_formed (w.keep s.bit_depth) sound.chans h.formed

  count_le : sound.samples * s.num_channels ≤ length out
  count_le = omega (arith, mul-le-mul_right s.num_channels h.samples_le)

  -- the channels stored one by one are what the rules say
  pub written-stored : (p : ℕ) → written w s (got sound p) out ≡ stored s.num_channels 0 (kept w s sound) out
  unfolding written
  written-stored p = sym (stored-interleaved sound.samples s.num_channels (kept w s sound) out kept_formed.long kept_formed.count count_le)

  -- the first count places
  pub written_samples : (p : ℕ) → take (sound.samples * s.num_channels) (written w s (got sound p) out) ≡ interleaved sound.samples (kept w s sound)
  unfolding written
  written_samples p =
      let e : length (interleaved sound.samples (kept w s sound)) ≡ sound.samples * s.num_channels =
      interleaved-length sound.samples (kept w s sound) kept_formed.long ∙ ap (λ (c : ℕ). sound.samples * c) kept_formed.count in
      rw (laid-all (interleaved sound.samples (kept w s sound)) out (omega (arith, count_le))) (take_at _ _ _ e)

-- What the promise settles, once for every kind of output: one answer, its samples and its count, and what has no say in them.
use Prim.Native.Nat.{ℕ, ◌*◌, ◌≤◌}
use mathlib.Core.Path.{◌≡◌, refl, sym, ap, ◌∙◌}
use mathlib.Core.Bool.{Bool, true, false}
use mathlib.Core.List.{List, [], ◌++◌}
use native.Mathlib.Omega.{arith}
use lib.ListN.{length, take}
use lib.IntN.{ℤ}
use Rattle.std.specs.Prelude.{Result, Ok}
use Rattle.rules.specs.declared.Place.{Place}
use Rattle.rules.specs.declared.StreamInfo.{StreamInfo}
use Rattle.rules.specs.declared.Decoded.{Decoded}
use Rattle.rules.specs.declared.Refused.{Refused}
use Rattle.rules.specs.declared.Refusal.TheVariants.{Stream, Room}
use Rattle.rules.specs.Refusals.{read_count}
use Rattle.rules.specs.Answers.{Ans, got, bad, pick}
use Rattle.rules.specs.Bits.{bit_of, place_of, bits_of}
use Rattle.rules.specs.Stream.{Width, accepted}
use Rattle.rules.specs.Buffers.{interleaved}
use Rattle.rules.specs.Element.{Sound}
use Rattle.rules.specs.Packet.{packet}
use Rattle.rules.specs.Reader.{roomy, decoded, answer_of, output_after}
use Rattle.laws.specs.Bits.{length-bits_of}
use Rattle.laws.specs.Packet.{Decided, later_bits}
use Rattle.laws.specs.Shape.{all_got}
use Rattle.laws.specs.Reader.{bits_append, packet_shaped, kept, written_samples}
use Rattle.dec.specs.Promise.{Promise}
use Rattle.dec.proofs.Entry.{room_is}

-- any two answers that it permits are one
pub one_answer : {A : Type 0} {w : Width A} {s : StreamInfo} {bytes : List ℕ} {out out₁ out₂ : List A} {scr scr₁ scr₂ : List ℤ} {r q : Result Decoded Refused}
    → Promise w s bytes out out₁ scr scr₁ r → Promise w s bytes out out₂ scr scr₂ q → (r ≡ q) × (out₁ ≡ out₂) × (scr₁ ≡ scr₂)
one_answer f g = (f.answer ∙ sym g.answer, f.output ∙ sym g.output, f.room ∙ sym g.room)

-- the samples that stand in the first count places
unfoldable pub samples_of : {A : Type 0} → Width A → StreamInfo → Ans Sound → List A
samples_of w s (got sound p) = interleaved sound.samples (kept w s sound)
samples_of w s (bad x p) = []

module _ {A : Type 0} (w : Width A) (s : StreamInfo) (bytes : List ℕ) (o c : ℕ) where
  decoded_got : {sound : Sound} {p : ℕ} → decoded w s bytes o c ≡ got sound p → (accepted w s ≡ true) × (roomy s o c ≡ true) × (packet (bits_of bytes) s ≡ got sound p)
  unfolding decoded
  decoded_got {sound} {p} e = by (accepted w s) (roomy s o c) refl refl e
    where
      by : (t u : Bool) → accepted w s ≡ t → roomy s o c ≡ u → pick t (pick u (packet (bits_of bytes) s) (bad Room 0)) (bad Stream 0) ≡ got sound p
          → (accepted w s ≡ true) × (roomy s o c ≡ true) × (packet (bits_of bytes) s ≡ got sound p)
      by true true a b e = (a, b, e)
      by true false a b e = let z : ◌≡◌ {A = ℕ} 0 1 = cc in absurd (omega arith)
      by false u a b e = let z : ◌≡◌ {A = ℕ} 0 1 = cc in absurd (omega arith)

module _ {A : Type 0} {w : Width A} {s : StreamInfo} {bytes : List ℕ} {out out' : List A} {scr scr' : List ℤ} {r : Result Decoded Refused} (h : Promise w s bytes out out' scr scr' r) where
  pub promise_samples : take (read_count r) out' ≡ samples_of w s (decoded w s bytes (length out) (length scr))
  unfolding answer_of output_after samples_of
  promise_samples = by (decoded w s bytes (length out) (length scr)) refl
    where
      by : (a : Ans Sound) → decoded w s bytes (length out) (length scr) ≡ a → take (read_count r) out' ≡ samples_of w s a
      by (got sound p) e =
          let d = decoded_got w s bytes (length out) (length scr) e in
          let room = room_is s (length out) (length scr) d.1 in
          rw (h.answer, e, h.output, d.0, d.1, d.2) (written_samples w s (all_got (rw d.2 at (packet_shaped (bits_of bytes) s))) out room.0 p)
      by (bad x p) e = rw (h.answer, e)

-- the rules' sound behind an accepted answer: its count is samples x channels
pub record Sounds (s : StreamInfo) (bytes : List ℕ) (n : ℕ) (at : Place) : Type 0 where
  pub sound : Sound
  pub read : packet (bits_of bytes) s ≡ got sound (bit_of at)
  pub channels : length sound.chans ≡ s.num_channels
  pub count : n ≡ sound.samples * s.num_channels

pub accepted_count : {A : Type 0} {w : Width A} {s : StreamInfo} {bytes : List ℕ} {out out' : List A} {scr scr' : List ℤ} {d : Decoded}
    → Promise w s bytes out out' scr scr' (Ok d) → Sounds s bytes d.count d.at
unfolding answer_of
accepted_count {w} {s} {bytes} {out} {scr} {d} h = by (decoded w s bytes (length out) (length scr)) refl
  where
    by : (a : Ans Sound) → decoded w s bytes (length out) (length scr) ≡ a → Sounds s bytes d.count d.at
    by (got sound p) e =
        let same : ◌≡◌ {A = Result Decoded Refused} (Ok d) (Ok (record { count = sound.samples * s.num_channels; at = place_of p })) = rw e at h.answer in
        let whole : d ≡ record { count = sound.samples * s.num_channels; at = place_of p } = cc in
        let place : d.at ≡ place_of p = ap (λ (d : Decoded). d.at) whole in
        let read = (decoded_got w s bytes (length out) (length scr) e).2 in
        let b : bit_of (place_of p) ≡ p = omega arith in
        record { sound = sound; read = rw (place, b) read; channels = (all_got (rw read at (packet_shaped (bits_of bytes) s))).formed.count; count = ap (λ (d : Decoded). d.count) whole }
    by (bad x p) e = let z : ◌≡◌ {A = ℕ} 0 1 = cc (rw e at h.answer) in absurd (omega arith)

-- two calls of which the rules say the same
module _ {A : Type 0} {w : Width A} {s : StreamInfo} {bytes bytes₂ : List ℕ} {out out' : List A} {scr scr' : List ℤ} {out₂ out₂' : List A} {scr₂ scr₂' : List ℤ} {r q : Result Decoded Refused}
    (same-output : length out ≡ length out₂) (same-scratch : length scr ≡ length scr₂) (h : Promise w s bytes out out' scr scr' r) (g : Promise w s bytes₂ out₂ out₂' scr₂ scr₂' q) where
  pub same_reading : packet (bits_of bytes) s ≡ packet (bits_of bytes₂) s → (r ≡ q) × (take (read_count r) out' ≡ take (read_count r) out₂')
  unfolding decoded
  same_reading e =
      let d : decoded w s bytes (length out) (length scr) ≡ decoded w s bytes₂ (length out₂) (length scr₂) = rw (same-output, same-scratch, e) in
      let a : r ≡ q = h.answer ∙ ap (answer_of s) d ∙ sym g.answer in
      (a, promise_samples h ∙ ap (samples_of w s) d ∙ sym (promise_samples g) ∙ rw a)

-- what output and scratch held before has no say in the answer, nor in the samples
pub former_contents : {A : Type 0} {w : Width A} {s : StreamInfo} {bytes : List ℕ} {out out' : List A} {scr scr' : List ℤ} {out₂ out₂' : List A} {scr₂ scr₂' : List ℤ} {r q : Result Decoded Refused}
    → length out ≡ length out₂ → length scr ≡ length scr₂
    → Promise w s bytes out out' scr scr' r → Promise w s bytes out₂ out₂' scr₂ scr₂' q → (r ≡ q) × (take (read_count r) out' ≡ take (read_count r) out₂')
former_contents same-output same-scratch h g = same_reading same-output same-scratch h g refl

-- nor has anything after END's byte
pub later_bytes : {A : Type 0} {w : Width A} {s : StreamInfo} (xs ys zs : List ℕ) {out out' : List A} {scr scr' : List ℤ} {out₂ out₂' : List A} {scr₂ scr₂' : List ℤ} {d : Decoded} {q : Result Decoded Refused}
    → length out ≡ length out₂ → length scr ≡ length scr₂
    → Promise w s (xs ++ ys) out out' scr scr' (Ok d) → bit_of d.at ≤ 8 * length xs → Promise w s (xs ++ zs) out₂ out₂' scr₂ scr₂' q
    → (q ≡ Ok d) × (take d.count out' ≡ take d.count out₂')
unfolding Decided
later_bytes {w} {s} xs ys zs {d} same-output same-scratch h near g =
    let a = accepted_count h in
    let e = rw bits_append at a.read in
    let decided : Decided (length (bits_of xs)) (packet (bits_of xs ++ bits_of ys) s) = rw (e, length-bits_of) (omega arith) in
    let p : packet (bits_of (xs ++ ys)) s ≡ packet (bits_of (xs ++ zs)) s = rw (bits_append xs ys, bits_append xs zs) (sym (later_bits (bits_of xs) (bits_of ys) (bits_of zs) s decided)) in
    let r = same_reading same-output same-scratch h g p in
    (sym r.0, r.1)

-- The promise `Sent` permits one answer: it determines the sink and the buffer.
use Prim.Native.Nat.{ℕ, zero, suc, ◌-◌, ◌*◌, ◌/◌, ◌%◌, ◌^◌, ◌≤◌, ◌<◌}
use mathlib.Core.Path.{◌≡◌, refl, sym, ap, ◌∙◌}
use mathlib.Core.List.{List, [], ◌∷◌, ◌++◌, append-nil}
use native.Mathlib.Nat.{mod-eq_of_lt}
use native.Mathlib.Decide.{dec_le}
use native.Mathlib.Omega.{arith}
use lib.ListN.{length, take, drop, replicate, length-append, length-take, length-replicate, take-append-drop, drop_of_length-le}
use lib.Seq.{take_at, drop_at, take_all}
use Rattle.rules.specs.Bits.{digits, bits_of, bytes_of, num}
use Rattle.rules.specs.Buffers.{laid}
use Rattle.laws.specs.Bits.{num-digits, length-bits_of, Below}
use Rattle.enc_bits.specs.declared.Sink.{Sink}
use Rattle.enc_bits.specs.Sent.{Given, Sent}
use Rattle.enc_bits.proofs.Digits.{bytes_bits}
use Rattle.enc_bits.proofs.Sent.{given_length}

below_take : (m n : ℕ) (xs : List ℕ) → Below m xs → Below m (take n xs)
below_take m zero xs h = tt
below_take m (suc n) [] h = tt
below_take m (suc n) (x ∷ xs) h = (h.0, below_take m n xs h.1)

below_zeros : (n : ℕ) → Below 256 (replicate n 0)
below_zeros zero = tt
below_zeros (suc n) = (omega arith, below_zeros n)

below_append : (m : ℕ) (xs ys : List ℕ) → Below m xs → Below m ys → Below m (xs ++ ys)
below_append m [] ys h g = g
below_append m (x ∷ xs) ys h g = (h.0, below_append m xs ys h.1 g)

-- every sink over a buffer of bytes was given something
given_some : (was : List ℕ) (s : Sink) → Below 256 was → (w : List ℕ) × Given was was s w
unfolding laid
given_some was s b = (
  bits_of xs ++ digits s.count s.pending,
  record {
    sent = xs;
    are_bytes = below_append 256 (take s.at was) (replicate (s.at - length was) 0) (below_take 256 s.at was b) (below_zeros (s.at - length was));
    sent_length = l;
    bits = refl;
    kept = rw l (go (dec_le s.at (length was)));
  },
)
  where
    xs : List ℕ
    xs = take s.at was ++ replicate (s.at - length was) 0

    l : length xs ≡ s.at
    l = simp (length-append, length-take, length-replicate) (omega arith)

    go : Dec (s.at ≤ length was) → was ≡ take (length was) (take s.at was ++ replicate (s.at - length was) 0) ++ drop s.at was
    go (yes h) =
        let z : s.at - length was ≡ 0 = omega arith in
        rw (z, append-nil, take_all (length was) (take s.at was) (omega (arith, length-take s.at was))) (sym (take-append-drop s.at was))
    go (no h) =
        let t : take s.at was ≡ was = take_all s.at was (omega arith) in
        let d : drop s.at was ≡ [] = drop_of_length-le was {i = s.at} (omega arith) in
        rw (t, d, take_at was _ (length was) refl, append-nil)

sink_same : {a a' p p' n n' : ℕ} → a ≡ a' → p ≡ p' → n ≡ n'
    → ◌≡◌ {A = Sink} (record { at = a; pending = p; count = n }) (record { at = a'; pending = p'; count = n' })
sink_same ea ep en = cc

-- the sink and the buffer, from the bits w alone
abbrev sink_of : List ℕ → Sink
sink_of w = record { at = length w / 8; pending = num (drop (length w / 8 * 8) w); count = length w % 8 }

given_is : {first is : List ℕ} {s : Sink} {w : List ℕ} → Given first is s w → s.count < 8 → s.pending < 2 ^ s.count
    → (s ≡ sink_of w) × (is ≡ laid (bytes_of (length w / 8) (take (length w / 8 * 8) w)) first)
given_is {s} {w} g few small =
    let at : length w / 8 ≡ s.at = omega (arith, given_length g) in
    let l : length (bits_of g.sent) ≡ s.at * 8 = length-bits_of g.sent ∙ ap (λ (n : ℕ). n * 8) g.sent_length in
    let t : take (s.at * 8) w ≡ bits_of g.sent = rw g.bits (take_at (bits_of g.sent) _ (s.at * 8) l) in
    let d : drop (s.at * 8) w ≡ digits s.count s.pending = rw g.bits (drop_at (bits_of g.sent) _ (s.at * 8) l) in
    let x : bytes_of s.at (take (s.at * 8) w) ≡ g.sent = rw (t, ← g.sent_length) (bytes_bits g.sent g.are_bytes) in (
      sink_same (sym at) (rw (at, d) (sym (num-digits s.count s.pending ∙ mod-eq_of_lt small))) (omega (arith, given_length g)),
      rw (at, x) g.kept,
    )

pub sent_same : {was is is' : List ℕ} {s r r' : Sink} {v : List ℕ} → Below 256 was → Sent was is s v r → Sent was is' s v r' → (r ≡ r') × (is ≡ is')
sent_same {was} {s} b x y =
    let g = given_some was s b in
    let p = given_is (x.more was g.0 g.1) x.few x.small in
    let q = given_is (y.more was g.0 g.1) y.few y.small in
    (p.0 ∙ sym q.0, p.1 ∙ sym q.1)

-- Laws of sinks: bits that went out one after the other, what a sink has laid at the end, and the steps of `put`.
use Prim.Native.Nat.{ℕ, ◌+◌, ◌-◌, ◌*◌, ◌/◌, ◌%◌, ◌^◌, ◌≤◌, ◌<◌}
use mathlib.Core.Path.{◌≡◌, refl, sym, ap, ap₂, ◌∙◌}
use mathlib.Core.List.{List, [], ◌∷◌, ◌++◌, append_assoc, append-nil}
use native.Mathlib.Nat.{mod-lt, lt_of_lt_of_le}
use native.Mathlib.Omega.{arith}
use lib.ListN.{length, set, replicate, length-append, length-set, length-replicate}
use lib.Pow.{pow_pos, pow-add, pow_mono}
use lib.Arith.{digits_lt}
use Rattle.rules.specs.Bits.{digits, bits_of, bytes_of, to_edge, padded}
use Rattle.rules.specs.Buffers.{laid}
use Rattle.laws.specs.Bits.{length_digits, length-bits_of}
use Rattle.enc_bits.specs.declared.Sink.{Sink}
use Rattle.enc_bits.specs.Sent.{Ready, Takes, Given, Sent, start}
use Rattle.enc_bits.proofs.Digits.{digits_split, digits_mod, digits_join, below_snoc, bits_snoc, bytes_bits, laid_none, laid_more}

-- ---- one after the other

pub sent_none : (a : List ℕ) (s : Sink) → Ready s → Sent a a s [] s
sent_none a s q = record {
  few = q.few;
  small = q.small;
  size = omega arith;
  same_length = refl;
  more = λ first u g. rw append-nil g;
}

pub sent_sent : {a b c : List ℕ} {s m r : Sink} (v w : List ℕ) → Sent a b s v m → Sent b c m w r → Sent a c s (v ++ w) r
sent_sent v w x y = record {
  few = y.few;
  small = y.small;
  size = omega (arith, x.size, y.size, length-append v w);
  same_length = y.same_length ∙ x.same_length;
  more = λ first u g. rw append_assoc at (y.more first (u ++ v) (x.more first u g));
}

pub sent_ready : {a b : List ℕ} {s r : Sink} {v : List ℕ} → Sent a b s v r → s.at * 8 + s.count + length v < 2 ^ 62 → Ready r
sent_ready d h = record { few = d.few; small = d.small; room = omega (arith, d.size) }

-- ---- from nothing to the end

pub given_none : (was : List ℕ) → Given was was start []
unfolding bits_of digits
given_none was = record { sent = []; are_bytes = tt; sent_length = refl; bits = refl; kept = sym (laid_none was) }

module _ {was is : List ℕ} {s : Sink} {w : List ℕ} (g : Given was is s w) where
  pub given_length : length w ≡ s.at * 8 + s.count
  given_length =
      ap length g.bits
      ∙ length-append (bits_of g.sent) (digits s.count s.pending)
      ∙ omega (arith, length-bits_of g.sent, length_digits s.count s.pending, g.sent_length)

  -- all bits are out: the bytes are those of w
  given_bytes : s.count ≡ 0 → bytes_of s.at w ≡ g.sent
  unfolding digits
  given_bytes e =
      let b : w ≡ bits_of g.sent = rw e at g.bits ∙ append-nil (bits_of g.sent) in
      rw (b, ← g.sent_length) (bytes_bits g.sent g.are_bytes)

  -- whole bytes
  pub given_all : s.count ≡ 0 → (is ≡ laid (padded w) was) × (s.at ≡ length (padded w))
  unfolding padded
  given_all e =
      let l : length w ≡ s.at * 8 = omega (arith, given_length) in
      let n : (length w + 7) / 8 ≡ s.at = omega arith in
      let z : to_edge (length w) ≡ 0 = omega arith in
      let p : padded w ≡ g.sent = rw (n, z, append-nil w) (given_bytes e) in
      (rw p g.kept, rw p (sym g.sent_length))

-- zero bits to the edge change nothing in what is padded
padded-padded : (w : List ℕ) → padded (w ++ replicate (to_edge (length w)) 0) ≡ padded w
unfolding padded
padded-padded w =
    let z : List ℕ = replicate (to_edge (length w)) 0 in
    let l : length (w ++ z) ≡ length w + to_edge (length w) = length-append w z ∙ ap (λ (n : ℕ). length w + n) (length-replicate (to_edge (length w)) 0) in
    let n : (length (w ++ z) + 7) / 8 ≡ (length w + 7) / 8 = omega arith in
    let e : to_edge (length (w ++ z)) ≡ 0 = omega arith in
    rw (n, e, append-nil (w ++ z))

-- the writer's end: all that was put, with zero bits to the byte edge, lies in the buffer as bytes
pub sent_padded : {was is : List ℕ} {r : Sink} (w : List ℕ) → Sent was is start (w ++ replicate (to_edge (length w)) 0) r
    → (is ≡ laid (padded w) was) × (r.at ≡ length (padded w))
sent_padded {was} w d =
    let z : List ℕ = replicate (to_edge (length w)) 0 in
    let g = d.more was [] (given_none was) in
    let e : to_edge (length w) ≡ length z = sym (length-replicate (to_edge (length w)) 0) in
    rw padded-padded at (given_all g (omega (arith, d.few, given_length g, length-append w z)))

-- ---- the steps of `put`

-- more bits that wait
given_wait : {was is : List ℕ} (at p n x k : ℕ) {w : List ℕ} → x < 2 ^ k → Given was is (record { at = at; pending = p; count = n }) w
    → Given was is (record { at = at; pending = p * 2 ^ k + x; count = n + k }) (w ++ digits k x)
given_wait at p n x k h g = record {
  sent = g.sent;
  are_bytes = g.are_bytes;
  sent_length = g.sent_length;
  bits = rw (digits_join n k p x h, g.bits) (append_assoc (bits_of g.sent) (digits n p) (digits k x));
  kept = g.kept;
}

-- the first eight of the bits that wait go out
given_byte : {was is : List ℕ} (at p n : ℕ) {w : List ℕ} → Given was is (record { at = at; pending = p; count = 8 + n }) w
    → Given was (set is at (p / 2 ^ n % 256)) (record { at = at + 1; pending = p; count = n }) w
given_byte {was} at p n g =
    let b : ℕ = p / 2 ^ n % 256 in
    let xs : List ℕ = g.sent in
    record {
      sent = xs ++ (b ∷ []);
      are_bytes = below_snoc 256 xs b g.are_bytes (omega arith);
      sent_length = length-append xs (b ∷ []) ∙ ap (λ (x : ℕ). x + 1) g.sent_length;
      bits = g.bits ∙ rw (digits_split 8 n p, bits_snoc xs b, digits_mod 8 (p / 2 ^ n)) (sym (append_assoc (bits_of xs) (digits 8 (p / 2 ^ n)) (digits n p)));
      kept = ap₂ (λ (l : List ℕ) (i : ℕ). set l i b) g.kept (sym g.sent_length) ∙ laid_more xs was b;
    }

-- bits that do not wait have no say
given_cut : {was is : List ℕ} (at p n : ℕ) {w : List ℕ} → Given was is (record { at = at; pending = p; count = n }) w
    → Given was is (record { at = at; pending = p % 2 ^ n; count = n }) w
given_cut at p n g = record {
  sent = g.sent;
  are_bytes = g.are_bytes;
  sent_length = g.sent_length;
  bits = rw (digits_mod n p) g.bits;
  kept = g.kept;
}

-- at the head of the loop that sends whole bytes, from a sink {at₀, all, n₀}
pub record Draining (was is : List ℕ) (all at₀ n₀ at n : ℕ) : Type 0 where
  pub few : n < 56
  pub size : at * 8 + n ≡ at₀ * 8 + n₀
  pub room : at₀ * 8 + n₀ < 2 ^ 64
  pub same_length : length is ≡ length was
  pub same : (first w : List ℕ) → Given first was (record { at = at₀; pending = all; count = n₀ }) w → Given first is (record { at = at; pending = all; count = n }) w

module _ {was is : List ℕ} {all at₀ n₀ at n : ℕ} (d : Draining was is all at₀ n₀ at n) where
  pub draining_next : 8 ≤ n → Draining was (set is at (all / 2 ^ (n - 8) % 256)) all at₀ n₀ (at + 1) (n - 8)
  draining_next h =
      let e : n ≡ 8 + (n - 8) = omega arith in
      record {
        few = omega (arith, d.few);
        size = omega (arith, d.size);
        room = d.room;
        same_length = length-set is at (all / 2 ^ (n - 8) % 256) ∙ d.same_length;
        same = λ first w g. given_byte {is = is} at all (n - 8) (rw (← e) (d.same first w g));
      }

module _ (s : Sink) (x k : ℕ) (t : Takes s x k) where
  abbrev all : ℕ
  all = s.pending * 2 ^ k + x

  pub all_lt : all < 2 ^ 55
  all_lt =
      let l : all < 2 ^ (s.count + k) = rw (pow-add 2 s.count k) (digits_lt t.ready.small t.small) in
      lt_of_lt_of_le l (pow_mono {j = 55} (omega (arith, t.ready.few, t.len_le)))

  pub draining_done : {was is : List ℕ} {at n : ℕ} → Draining was is all s.at (s.count + k) at n → n < 8
      → Sent was is s (digits k x) (record { at = at; pending = all % 2 ^ n; count = n })
  draining_done {at} {n} d h = record {
    few = h;
    small = mod-lt all (pow_pos n);
    size = omega (arith, d.size, length_digits k x);
    same_length = d.same_length;
    more = λ first w g. given_cut at all n (d.same first (w ++ digits k x) (given_wait s.at s.pending s.count x k t.small g));
  }

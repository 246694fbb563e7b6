-- Laws of what stands around the Rice data: fields that go out at once, the coefficients one after the other, END.
use Prim.Native.Nat.{ℕ, suc, ◌+◌, ◌-◌, ◌*◌, ◌%◌, ◌^◌, ◌≤◌, ◌<◌}
use mathlib.Core.Path.{◌≡◌, refl, sym, ap, ap₂, ◌∙◌}
use mathlib.Core.List.{List, [], ◌++◌, map, append_assoc, append-nil}
use native.Mathlib.Numerals.{add-one}
use native.Mathlib.Omega.{arith}
use lib.ListN.{length, take, drop, get_or, replicate, length-append}
use lib.Seq.{drop-cons, drop-length, get_or-take, length-take-le}
use lib.Pow.{pow_pos}
use lib.IntN.{ℤ, pos}
use borrow.Author.Tests.{lt-ltb, le-ltb}
use Rattle.rules.specs.Bits.{digits, to_edge}
use Rattle.rules.specs.Words.{mod_z}
use Rattle.rules.specs.Writer.{coefs_used, joined, param_bits, count_bits, head_bits}
use Rattle.rules.specs.declared.ChannelSettings.{ChannelSettings}
use Rattle.laws.specs.Bits.{length_digits}
use Rattle.laws.specs.Words.{mod_z_lt}
use Rattle.enc_bits.specs.declared.Sink.{Sink}
use Rattle.enc_bits.specs.Sent.{Ready, Takes, Sent}
use Rattle.enc_bits.proofs.Digits.{digits_join, digits_zero}
use Rattle.enc_bits.proofs.Sent.{sent_none, sent_sent, sent_ready}
use Rattle.enc_bits.specs.Around.{Open, Heads, Params, Coefs}

-- after one put the sink is ready for another
pub next_ready : {a b : List ℕ} {s r : Sink} (k x : ℕ) → Open s → Sent a b s (digits k x) r → k ≤ 48 → Ready r
next_ready k x o d h = sent_ready d (omega (arith, length_digits k x, o.ready.few, o.room))

-- ---- fields that go out at once

-- a field behind others, in one number
field_join : (a b x y : ℕ) {v : ℕ} {w : List ℕ} → v ≡ x * 2 ^ b + y → digits a x ≡ w → y < 2 ^ b → digits (a + b) v ≡ w ++ digits b y
field_join a b x y ev ew h = ap (digits (a + b)) ev ∙ digits_join a b x y h ∙ ap (λ (t : List ℕ). t ++ digits b y) ew

module _ {s : Sink} {channels x y : ℕ} (p : Heads s channels x y) (n frame : ℕ) where
  pub head_partial : n < frame → head_bits channels n frame x y ≡ digits 23 ((channels - 1) * 1048576 + 8) ++ digits 48 (n * 65536 + (x * 256 + y))
  unfolding head_bits count_bits digits
  head_partial h =
      rw (lt-ltb n frame h)
      (sym (ap₂ (λ (v w : List ℕ). v ++ w)
      (field_join 3 20 (channels - 1) 8 refl refl (omega arith))
      (field_join 40 8 (n * 256 + x) y (omega arith) (field_join 32 8 n x refl refl p.bits_lt) p.res_lt)))

  pub head_full : frame ≤ n → head_bits channels n frame x y ≡ digits 23 ((channels - 1) * 1048576) ++ digits 16 (x * 256 + y)
  unfolding head_bits count_bits digits
  head_full h =
      rw (le-ltb n frame h)
      (sym (ap₂ (λ (v w : List ℕ). v ++ w)
      (field_join 3 20 (channels - 1) 0 (omega arith) refl (omega arith))
      (field_join 8 8 x y refl refl p.res_lt)))

abbrev coef_bits : List ℤ → List ℕ
coef_bits xs = joined (map (λ x. digits 16 (mod_z (2 ^ 16) x)) xs)

pub params-joined : {s : Sink} {c : ChannelSettings} → Params s c
    → param_bits c ≡ digits 16 ((c.quant * 8 + c.pb_factor) * 32 + c.order) ++ coef_bits (coefs_used c)
unfolding param_bits digits
params-joined {c} p =
    let q = c.quant in
    let f = c.pb_factor in
    sym (ap (λ (t : List ℕ). t ++ coef_bits (coefs_used c))
    (field_join 11 5 (q * 8 + f) c.order refl
    (field_join 8 3 q f refl (field_join 4 4 0 q (omega arith) refl p.quant_lt) p.factor_lt)
    (omega (arith, p.order_le))))

-- the coefficients can follow the fields
pub coefs_next : {a b : List ℕ} {s r : Sink} {c : ChannelSettings} (x : ℕ) → Params s c → Sent a b s (digits 16 x) r → Coefs r c.order
coefs_next x p d = record {
  ready = next_ready 16 x p.sink d (omega arith);
  room = omega (arith, d.size, length_digits 16 x, p.sink.ready.few, p.sink.room);
  order_le = p.order_le;
}

-- ---- the loop over the coefficients: `done` went out, and those after the first i are to follow

pub record Putting (coefs : List ℤ) (order : ℕ) (was is : List ℕ) (s out : Sink) (i : ℕ) : Type 0 where
  pub done : List ℕ
  pub sent : Sent was is s done out
  pub size : length done ≡ 16 * i
  pub rest : coef_bits (take order coefs) ≡ done ++ coef_bits (drop i (take order coefs))
  pub i_le : i ≤ order
  pub order_le : order ≤ length coefs

pub putting_start : {coefs : List ℤ} {order : ℕ} {was : List ℕ} {s : Sink} → Ready s → order ≤ length coefs → Putting coefs order was was s s 0
putting_start {order} {was} {s} q h =
    record { done = []; sent = sent_none was s q; size = refl; rest = refl; i_le = omega arith; order_le = h }

module _ {coefs : List ℤ} {order : ℕ} {was is : List ℕ} {s out : Sink} {i : ℕ} (g : Putting coefs order was is s out i) where
  pub putting_takes : Coefs s order → {v : ℕ} (z : ℤ) → v ≡ mod_z (2 ^ 16) z → Takes out v 16
  putting_takes p z e = record {
    ready = sent_ready g.sent (omega (arith, g.size, g.i_le, p.ready.few, p.room, p.order_le));
    len_le = omega arith;
    small = omega (arith, mod_z_lt (2 ^ 16) z (pow_pos 16));
  }

  pub putting_next : i < order → {v : ℕ} → v ≡ mod_z (2 ^ 16) (get_or coefs i (pos 0)) → {now : List ℕ} {r : Sink} → Sent is now out (digits 16 v) r
      → Putting coefs order was now s r (i + 1)
  unfolding joined
  putting_next l {v} e d =
      let xs : List ℤ = take order coefs in
      let tail : List ℕ = coef_bits (drop (suc i) xs) in
      let here : i < length xs = omega (arith, length-take-le order coefs g.order_le) in
      let x : coef_bits (drop i xs) ≡ digits 16 v ++ tail =
      rw (e, ← get_or-take order coefs i (pos 0) l, drop-cons xs i (pos 0) here) in
      record {
        done = g.done ++ digits 16 v;
        sent = sent_sent g.done (digits 16 v) g.sent d;
        size = omega (arith, length-append g.done (digits 16 v), length_digits 16 v, g.size);
        rest = rw add-one (g.rest ∙ ap (λ (u : List ℕ). g.done ++ u) x ∙ sym (append_assoc g.done (digits 16 v) tail));
        i_le = omega arith;
        order_le = g.order_le;
      }

  pub putting_done : order ≤ i → Sent was is s (coef_bits (take order coefs)) out
  unfolding joined
  putting_done l =
      let e : i ≡ length (take order coefs) = omega (arith, length-take-le order coefs g.order_le, g.i_le) in
      let d : drop i (take order coefs) ≡ [] = rw e (drop-length (take order coefs)) in
      let w : coef_bits (take order coefs) ≡ g.done = g.rest ∙ rw d (append-nil g.done) in
      rw w g.sent

-- ---- END

pub sent_end : {a b c : List ℕ} {s m r : Sink} → Sent a b s (digits 3 7) m → Sent b c m (digits ((8 - m.count) % 8) 0) r
    → Sent a c s (digits 3 7 ++ replicate (to_edge (s.at * 8 + s.count + 3)) 0) r
sent_end {s} {m} p q =
    let e : (8 - m.count) % 8 ≡ to_edge (s.at * 8 + s.count + 3) = omega (arith, p.size, p.few, length_digits 3 7) in
    rw (← e) (sent_sent (digits 3 7) (replicate ((8 - m.count) % 8) 0) p (rw digits_zero at q))

-- Laws of turns: zeros ahead, a sample with and without a run after it, and the loop over the residuals.
use Prim.Native.Nat.{ℕ, zero, suc, ◌+◌, ◌-◌, ◌*◌, ◌^◌, ◌≤◌, ◌<◌, max}
use mathlib.Core.Path.{◌≡◌, refl, sym, ap, ◌∙◌}
use mathlib.Core.Bool.{true, false, true≢false, false≢true, and-false}
use mathlib.Core.List.{List, [], ◌∷◌, ◌++◌, append_assoc, append-nil}
use native.Mathlib.Nat.{mul-le-mul}
use native.Mathlib.Numerals.{add-one}
use native.Mathlib.Omega.{arith}
use lib.ListN.{length, drop, get_or, length-append, length-drop}
use lib.Seq.{drop-cons, drop-length, drop-drop}
use lib.Dec.{ltb}
use lib.IntN.{ℤ, pos, negsuc}
use borrow.Author.Tests.{lt-ltb, le-ltb}
use Rattle.std.specs.Prelude.{Option, None, Some}
use Rattle.rules.specs.Words.{folded, is_zero}
use Rattle.rules.specs.Rice.{symbol_k, symbol_m, run_k, run_m, history_after, run_follows}
use Rattle.rules.specs.Writer.{symbol_bits, zeros, rice_code}
use Rattle.laws.specs.Bits.{length_digits}
use Rattle.laws.specs.Rice.{symbol_k_pos, symbol_k_le, run_k_range, run_m_is, run_follows_lt, history_lt}
use Rattle.laws.specs.Length.{rice-length}
use Rattle.dec_rice.specs.declared.Coding.{Coding}
use Rattle.enc_bits.specs.declared.Sink.{Sink}
use Rattle.enc_bits.specs.Sent.{Ready, Takes, Sent}
use Rattle.enc_bits.proofs.Sent.{sent_none, sent_sent, sent_ready}
use Rattle.enc_rice.specs.declared.Code.{Code}
use Rattle.enc_rice.specs.declared.Step.{Step}
use Rattle.enc_rice.specs.Turn.{turn_bits, turn_owed, turn_history, turn_plus, rice-turn}
use Rattle.enc_rice.specs.Code.{code_bits, run_code, Codes, Sizes, Zeros, Turns, Turned, Puts, Writes}

-- ---- zeros ahead

zeros_zero : (e : ℤ) (es : List ℤ) → is_zero e ≡ true → zeros (e ∷ es) ≡ suc (zeros es)
unfolding zeros
zeros_zero (pos zero) es h = refl
zeros_zero (pos (suc n)) es h = absurd (false≢true h)
zeros_zero (negsuc n) es h = absurd (false≢true h)

zeros_other : (e : ℤ) (es : List ℤ) → is_zero e ≡ false → zeros (e ∷ es) ≡ 0
unfolding zeros
zeros_other (pos zero) es h = absurd (true≢false h)
zeros_other (pos (suc n)) es h = refl
zeros_other (negsuc n) es h = refl

module _ (es : List ℤ) (j : ℕ) (l : j < length es) where
  pub zeros-next : is_zero (get_or es j (pos 0)) ≡ true → zeros (drop j es) ≡ suc (zeros (drop (j + 1) es))
  zeros-next h = rw (drop-cons es j (pos 0) l, add-one j) (zeros_zero (get_or es j (pos 0)) (drop (suc j) es) h)

  pub zeros_stop : is_zero (get_or es j (pos 0)) ≡ false → zeros (drop j es) ≡ 0
  zeros_stop h = rw (drop-cons es j (pos 0) l) (zeros_other (get_or es j (pos 0)) (drop (suc j) es) h)

pub zeros_end : (es : List ℤ) → zeros (drop (length es) es) ≡ 0
unfolding zeros
zeros_end es = rw (drop-length es)

-- ---- whether a run follows

pub follows_on : (n left : ℕ) → 0 < left → n < 128 → run_follows n left ≡ true
follows_on n left l h = rw (lt-ltb 0 left l, lt-ltb n 128 h)

pub follows_high : (n left : ℕ) → 128 ≤ n → run_follows n left ≡ false
follows_high n left h = rw (le-ltb n 128 h) (and-false (ltb 0 left))

pub follows_last : (n left : ℕ) → left ≤ 0 → run_follows n left ≡ false
follows_last n left l = rw (le-ltb 0 left l)

-- ---- a sample

module _ {c : Coding} {es : List ℤ} {i h : ℕ} (q : Turns c es i h) where
  pub symbol_sizes : {k : ℕ} → k ≡ symbol_k c.kb h → Sizes k c.bits
  symbol_sizes e = record {
    k_pos = omega (arith, symbol_k_pos c.kb h (omega (arith, q.ranges.kb_ge)));
    k_le = omega (arith, symbol_k_le c.kb h q.history_lt);
    b_le = q.ranges.bits_le;
  }

pub run_sizes : {n k : ℕ} → n < 128 → k ≡ run_k n → Sizes k 16
run_sizes {n} l e = record { k_pos = omega (arith, run_k_range n l); k_le = omega (arith, run_k_range n l); b_le = omega arith }

module _ {c : Coding} {es : List ℤ} {i h : ℕ} (q : Turns c es i h) (gain : ℕ) {v n k : ℕ} {symbol : Code}
    (ev : v ≡ folded (get_or es i (pos 0))) (en : n ≡ history_after c.factor h v) (ek : k ≡ symbol_k c.kb h)
    (hs : Codes (symbol_bits k (symbol_m k) c.bits (v - gain)) symbol) where
  symbol_is : code_bits symbol ≡ symbol_bits (symbol_k c.kb h) (symbol_m (symbol_k c.kb h)) c.bits (folded (get_or es i (pos 0)) - gain)
  symbol_is = rw (← ev, ← ek) hs.are

  follows_is : run_follows (history_after c.factor h (folded (get_or es i (pos 0)))) (length (drop (i + 1) es)) ≡ run_follows n (length es - 1 - i)
  follows_is =
      let l : length (drop (i + 1) es) ≡ length es - 1 - i = omega (arith, length-drop (i + 1) es) in
      rw (← ev, ← en, l)

  pub turn_plain : run_follows n (length es - 1 - i) ≡ false
      → Turned c es i h gain (record { symbol = symbol; run = None; next = i + 1; history = n; plus = 0 })
  unfolding turn_bits turn_owed turn_history turn_plus run_code
  turn_plain f =
      let r = follows_is ∙ f in
      record {
        bits = rw (r, symbol_is);
        next = rw r (omega arith);
        history = rw (r, ← ev) en;
        plus = rw r;
        symbol_fits = hs.fits;
        run_fits = tt;
        next_le = omega (arith, q.here);
        history_lt = rw en (history_lt c.factor h v q.ranges.factor_le q.history_lt);
      }

  pub turn-run : run_follows n (length es - 1 - i) ≡ true → {z j : ℕ} {run : Code} → Zeros es (i + 1) z → j ≡ run_k n → Codes (symbol_bits j (symbol_m j) 16 z) run
      → Turned c es i h gain (record { symbol = symbol; run = Some run; next = i + 1 + z; history = 0; plus = 1 })
  unfolding turn_bits turn_owed turn_history turn_plus run_code
  turn-run f {run = run} hz ej hr =
      let r = follows_is ∙ f in
      let m : run_m c.kb (run_k n) ≡ symbol_m (run_k n) =
      run_m_is c.kb (run_k n) (omega (arith, run_k_range n (run_follows_lt n (length es - 1 - i) f), q.ranges.kb_ge)) in
      let s : code_bits run ≡ symbol_bits (run_k n) (run_m c.kb (run_k n)) 16 (zeros (drop (i + 1) es)) = rw (m, ← ej, ← hz.are) hr.are in
      record {
        bits = rw (r, ← ev, ← en, s, symbol_is, ← ev);
        next = rw (r, hz.are);
        history = rw r;
        plus = rw r;
        symbol_fits = hs.fits;
        run_fits = hr.fits;
        next_le = hz.fit;
        history_lt = omega arith;
      }

-- ---- both codes go out

pub run_takes : {a b : List ℕ} {s r : Sink} {t : Step} {run : Code} → Puts s t → t.run ≡ Some run → Sent a b s (code_bits t.symbol) r → Takes r run.bits run.len
run_takes {t} p e d =
    let fits = rw e at p.run_fits in
    record {
      ready = sent_ready d (omega (arith, length_digits t.symbol.len t.symbol.bits, p.symbol_fits.len_le, p.ready.few, p.room));
      len_le = omega (arith, fits.len_le);
      small = fits.small;
    }

-- no run
pub sent_alone : {a b : List ℕ} {s r : Sink} {v : List ℕ} {run : Option Code} → run ≡ None → Sent a b s v r → Sent a b s (v ++ run_code run) r
unfolding run_code
sent_alone e d = rw (e, append-nil) d

-- a run after the symbol
pub sent_both : {a b c : List ℕ} {s m r : Sink} {v : List ℕ} {run : Option Code} {code : Code} → run ≡ Some code → Sent a b s v m → Sent b c m (code_bits code) r
    → Sent a c s (v ++ run_code run) r
unfolding run_code
sent_both {v} {code} e d f = rw e (sent_sent v (code_bits code) d f)

-- ---- the loop over the residuals: `done` went out, and the rest follows from the state

abbrev pub rice_bits : Coding → List ℤ → ℕ → ℕ → List ℕ
rice_bits c es h plus = (rice_code c.factor c.kb c.bits es 0 h plus).bits

pub record Going (c : Coding) (es : List ℤ) (mb : ℕ) (was is : List ℕ) (s out : Sink) (h plus i : ℕ) : Type 0 where
  pub done : List ℕ
  pub sent : Sent was is s done out
  pub rest : rice_bits c es mb 0 ≡ done ++ rice_bits c (drop i es) h plus
  pub i_le : i ≤ length es
  pub history_lt : h < 2 ^ 25

pub going_start : {c : Coding} {es : List ℤ} {mb : ℕ} {was : List ℕ} {s : Sink} → Ready s → mb < 256 → Going c es mb was was s s mb 0 0
going_start {was} {s} q h = record { done = []; sent = sent_none was s q; rest = refl; i_le = omega arith; history_lt = omega arith }

module _ {c : Coding} {es : List ℤ} {mb : ℕ} {was is : List ℕ} {s out : Sink} {h plus i : ℕ} (g : Going c es mb was is s out h plus i) (w : Writes c es s) where
  pub going_turns : i < length es → Turns c es i h
  going_turns l = record { ranges = w.ranges; here = l; short = w.short; history_lt = g.history_lt }

  pub going_puts : mb < 256 → {t : Step} → Turned c es i h plus t → Puts out t
  going_puts l d =
      let whole : length (rice_bits c es mb 0) ≤ length es * (9 + max 16 c.bits + 25) =
      rice-length c.factor c.kb c.bits es 0 mb 0 w.ranges.factor_le (omega arith) in
      let each : 9 + max 16 c.bits + 25 ≤ 66 = omega (arith, w.ranges.bits_le) in
      let most : length es * (9 + max 16 c.bits + 25) ≤ 65536 * 66 = mul-le-mul w.short each in
      let room : length g.done ≤ 4325376 =
      omega (arith, ap length g.rest, length-append g.done (rice_bits c (drop i es) h plus)) in
      record {
        ready = sent_ready g.sent (omega (arith, w.ready.few, w.room));
        room = omega (arith, g.sent.size, w.ready.few, w.room);
        symbol_fits = d.symbol_fits;
        run_fits = d.run_fits;
      }

  pub going_next : i < length es → {t : Step} → Turned c es i h plus t → {now : List ℕ} {r : Sink} → Sent is now out (code_bits t.symbol ++ run_code t.run) r
      → Going c es mb was now s r t.history t.plus t.next
  going_next l {t} d {now} {r} p =
      let e : ℤ = get_or es i (pos 0) in
      let v : List ℕ = code_bits t.symbol ++ run_code t.run in
      let tail : List ℕ = rice_bits c (drop t.next es) t.history t.plus in
      let x : rice_bits c (drop i es) h plus ≡ v ++ tail =
      rw (d.bits, d.next, d.history, d.plus, drop-cons es i (pos 0) l, ← add-one i, ← drop-drop (turn_owed c.factor e (drop (i + 1) es) h) (i + 1) es)
      (rice-turn c.factor c.kb c.bits e (drop (i + 1) es) h plus) in
      record {
        done = g.done ++ v;
        sent = sent_sent g.done v g.sent p;
        rest = g.rest ∙ ap (λ (u : List ℕ). g.done ++ u) x ∙ sym (append_assoc g.done v tail);
        i_le = d.next_le;
        history_lt = d.history_lt;
      }

  pub going_done : length es ≤ i → Sent was is s (rice_bits c es mb 0) out
  unfolding rice_code
  going_done l =
      let e : i ≡ length es = omega (arith, g.i_le) in
      let d : drop i es ≡ [] = rw e (drop-length es) in
      let w : rice_bits c es mb 0 ≡ g.done = g.rest ∙ rw d (append-nil g.done) in
      rw w g.sent

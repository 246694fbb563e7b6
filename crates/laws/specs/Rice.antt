-- Document 01, "Rice data": bounds of its parameters, and residuals that were written are read back, with the same history after every sample.
use Rattle.std.specs.Prelude.{◌≡◌, ◌&&◌, ◌⊎◌, ltb, leb, ℤ, pos, negsuc}
use Rattle.std.proofs.Math.Path.{refl, ap, subst}
use Rattle.std.proofs.Common.{sym, ◌∙◌, inl, inr, le_trans, mul-le-mul_left, mul-le-mul_right, add-mul, eq-or-lt_of_le, lt_of_lt_of_le, lt_irrefl, pow-suc, pow_mono}
use Rattle.std.proofs.Math.Bool.{Bool, true, false}
use mathlib.Core.List.{List, [], ◌∷◌, ◌++◌, append_assoc}
use Prim.Native.Nat.{ℕ, zero, suc, ◌+◌, ◌-◌, ◌*◌, ◌/◌, ◌%◌, ◌^◌, ◌≤◌, ◌<◌}
use Rattle.std.proofs.Math.Nat.{mod-eq_of_lt}
use native.Mathlib.Omega.{arith}
use Rattle.std.proofs.Math.Decide.{dec_lt}
use Rattle.std.proofs.Math.ListN.{length, length-append}
use Rattle.std.proofs.Math.Pow.{ones_lt}
use Rattle.std.proofs.lemmas.Nat.{and_mask, leading_le, leading_top}
use Rattle.std.specs.Int.Count.{count_leading_zeros}
use Rattle.std.specs.Int.Signed.{mag}
use borrow.Author.Tests.{lt-ltb, ltb-true, ltb-false, leb-true}
use Rattle.rules.specs.Answers.{got, bind, pick}
use Rattle.rules.specs.Words.{unfolded, folded, log2}
use Rattle.rules.specs.Symbol.{symbol}
use Rattle.rules.specs.Rice.{symbol_k, symbol_m, run_k, run_m, history_after, run_follows, Step, none, SymbolReader, run_at, after_value, sample, rice}
use Rattle.rules.specs.Writer.{symbol_bits, zeros, run_bits, rice_code}
use Rattle.laws.specs.Bits.{At, at_first, at_next}
use Rattle.laws.specs.Symbol.{symbol_at}
use Rattle.laws.specs.Tests.{and_parts}

-- ---- folded signs

pub unfolded-folded : (e : ℤ) → unfolded (folded e) ≡ e
unfolding unfolded folded
unfolded-folded (pos n) =
    let r : n * 2 % 2 ≡ 0 = omega arith in
    let q : n * 2 / 2 ≡ n = omega arith in
    rw (r, q)
unfolded-folded (negsuc n) =
    let r : (n * 2 + 1) % 2 ≡ 1 = omega arith in
    let q : (n * 2 + 1) / 2 ≡ n = omega arith in
    rw (r, q)

pub folded_lt : (b : ℕ) (e : ℤ) → 1 ≤ b → 2 * mag e < 2 ^ b → folded e < 2 ^ b
unfolding folded
folded_lt zero e l h = absurd (omega arith)
folded_lt (suc b) (pos n) l h = omega arith
folded_lt (suc b) (negsuc n) l h = omega (arith, pow-suc 2 b)

-- ---- the symbol's k

leading_two : (n : ℕ) → count_leading_zeros 32 (suc (suc n)) ≤ 30
unfolding count_leading_zeros
leading_two n = go (suc (suc n) / 2) (omega arith)
  where
    go : (x : ℕ) → 1 ≤ x → count_leading_zeros 31 x ≤ 30
    go zero h = absurd (omega arith)
    go (suc x) h = leading_le 30 (suc x / 2)

pub symbol_k_pos : (kb h : ℕ) → 1 ≤ kb → 1 ≤ symbol_k kb h
unfolding symbol_k log2
symbol_k_pos kb h l =
    let e : h / 512 + 3 ≡ suc (suc (h / 512 + 1)) = omega arith in
    rw e (omega (arith, leading_two (h / 512 + 1)))

log2_le : (n k : ℕ) → 0 < n → n < 2 ^ suc k → suc k ≤ 32 → log2 n ≤ k
unfolding log2
log2_le n k p h l =
    let t = leading_top 32 n p (lt_of_lt_of_le h (pow_mono l)) in
    go t.0 t.1 t.2 (dec_lt k t.0)
  where
    go : (j : ℕ) → count_leading_zeros 32 n + suc j ≡ 32 → 2 ^ j ≤ n → Dec (k < j) → 31 - count_leading_zeros 32 n ≤ k
    go j e g (yes c) = absurd (lt_irrefl n (lt_of_lt_of_le h (le_trans (pow_mono c) g)))
    go j e g (no c) = omega arith

pub symbol_k_le : (kb h : ℕ) → h < 2 ^ 25 → symbol_k kb h ≤ 16
unfolding symbol_k
symbol_k_le kb h l = omega (arith, log2_le (h / 512 + 3) 16 (omega arith) (omega arith) (omega arith))

-- ---- the run's k, by one test over all histories that a run can follow

-- the test holds of every number below n
unfoldable all_below : ℕ → (ℕ → Bool) → Bool
all_below zero test = true
all_below (suc n) test = test n && all_below n test

all_below_at : (n : ℕ) (test : ℕ → Bool) → all_below n test ≡ true → (i : ℕ) → i < n → test i ≡ true
unfolding all_below
all_below_at zero test e i h = absurd (omega arith)
all_below_at (suc n) test e i h =
    let t = and_parts (test n) (all_below n test) e in
    let l : i ≤ n = omega arith in
    go t.0 (all_below_at n test t.1 i) (eq-or-lt_of_le l)
  where
    go : test n ≡ true → (i < n → test i ≡ true) → (i ≡ n) ⊎ (i < n) → test i ≡ true
    go t r (inl q) = rw q t
    go t r (inr q) = r q

run_k_test : ℕ → Bool
run_k_test h = leb 2 (run_k h) && leb (run_k h) 8

run_k-all : all_below 128 run_k_test ≡ true
unfolding all_below run_k_test run_k count_leading_zeros
run_k-all = refl

pub run_k_range : (h : ℕ) → h < 128 → (2 ≤ run_k h) × (run_k h ≤ 8)
unfolding run_k_test
run_k_range h l =
    let t = and_parts (leb 2 (run_k h)) (leb (run_k h) 8) (all_below_at 128 run_k_test run_k-all h l) in
    (leb-true 2 (run_k h) t.0, leb-true (run_k h) 8 t.1)

pub run_m_is : (kb k : ℕ) → k ≤ kb → run_m kb k ≡ 2 ^ k - 1
unfolding run_m
run_m_is kb k h = and_mask (2 ^ k - 1) kb ∙ mod-eq_of_lt (lt_of_lt_of_le (ones_lt k) (pow_mono h))

pub run_follows_lt : (h left : ℕ) → run_follows h left ≡ true → h < 128
run_follows_lt h left e = ltb-true h 128 (and_parts (ltb 0 left) (ltb h 128) e).1

-- ---- the history

-- 2 ^ 25 - 1 is 33554431, and a 512th of it is just above 65535
history_next : (f h v : ℕ) → f ≤ 127 → h < 2 ^ 25 → v ≤ 65535 → h + v * f - h * f / 512 < 2 ^ 25
history_next f h v lf lh lv =
    let d : ℕ = 33554431 - h in
    let whole : h + d ≡ 33554431 = omega arith in
    let split : h * f + d * f ≡ 33554431 * f = sym (add-mul h d f) ∙ ap (λ (x : ℕ). x * f) whole in
    let small : d * f ≤ d * 127 = mul-le-mul_left d lf in
    let value : v * f ≤ 65535 * f = mul-le-mul_right f lv in
    omega arith

pub history_lt : (f h v : ℕ) → f ≤ 127 → h < 2 ^ 25 → history_after f h v < 2 ^ 25
unfolding history_after
history_lt f h v lf lh = go (ltb 65535 v) refl
  where
    go : (c : Bool) → ltb 65535 v ≡ c → pick c 65535 (h + v * f - h * f / 512) < 2 ^ 25
    go true e = omega arith
    go false e = history_next f h v lf lh (ltb-false 65535 v e)

-- ---- zeros

pub zeros_le : (es : List ℤ) → zeros es ≤ length es
unfolding zeros
zeros_le [] = omega arith
zeros_le (pos zero ∷ es) = omega (arith, zeros_le es)
zeros_le (pos (suc n) ∷ es) = omega arith
zeros_le (negsuc n ∷ es) = omega arith

-- ---- reading what was written

-- every residual has b bits
abbrev pub Ranged : ℕ → List ℤ → Type 0
Ranged b [] = Unit {0}
Ranged b (e ∷ es) = (folded e < 2 ^ b) × Ranged b es

-- a reader of symbols reads written symbols back
abbrev pub SymbolsBack : List ℕ → SymbolReader → Type 0
SymbolsBack bits S =
    (k b s p : ℕ) → 1 ≤ k → s < 2 ^ b → At bits p (symbol_bits k (2 ^ k - 1) b s)
    → S k (2 ^ k - 1) b p ≡ got s (p + length (symbol_bits k (2 ^ k - 1) b s))

-- how things stand after a sample, where a run follows and where none does
abbrev step_after : Bool → ℤ → ℕ → List ℤ → Step
step_after run e h es = record { residual = e; history = pick run 0 h; owed = pick run (zeros es) 0; plus = pick run 1 0 }

module _ (bits : List ℕ) (S : SymbolReader) (f kb b : ℕ) where
  -- residuals, written at place p, are read back, with the history after each
  abbrev pub RiceBack : List ℤ → ℕ → ℕ → ℕ → ℕ → Type 0
  RiceBack es owed h plus p =
      let code = rice_code f kb b es owed h plus in
      At bits p code.bits
      → rice S f kb b (length es) owed h plus p ≡ got (record { residuals = es; histories = code.histories }) (p + length code.bits)

module _ (bits : List ℕ) (S : SymbolReader) (S-at : SymbolsBack bits S) (f kb b : ℕ) (kb_le : 8 ≤ kb) (b_le : b ≤ 32) where
  run_at_lem : {p : ℕ} (h : ℕ) (es : List ℤ) → h < 128 → length es < 2 ^ 16 → At bits p (run_bits kb h (zeros es))
      → run_at S f kb b h (length es) p ≡ got (zeros es) (p + length (run_bits kb h (zeros es)))
  unfolding run_at bind
  run_at_lem {p} h es l n a =
      let k : (2 ≤ run_k h) × (run_k h ≤ 8) = run_k_range h l in
      let m : run_m kb (run_k h) ≡ 2 ^ run_k h - 1 = run_m_is kb (run_k h) (omega arith) in
      let z : zeros es ≤ length es = zeros_le es in
      rw (m, S-at (run_k h) 16 (zeros es) p (omega arith) (omega arith) (rw m at a), lt-ltb (zeros es) (length es + 1) (omega arith))

  -- what follows the sample's own symbol
  after_value_at : {p : ℕ} (h : ℕ) (e : ℤ) (es : List ℤ) (run : Bool)
      → let h' = history_after f h (folded e) in
      let u = pick run (run_bits kb h' (zeros es)) [] in
      length es < 2 ^ 16 → run_follows h' (length es) ≡ run → At bits p u
      → after_value S f kb b h (length es) (folded e) p ≡ got (step_after run e h' es) (p + length u)
  unfolding after_value bind
  after_value_at h e es true n c a =
      let h' : ℕ = history_after f h (folded e) in
      rw (c, run_at_lem h' es (run_follows_lt h' (length es) c) n a, unfolded-folded)
  after_value_at h e es false n c a =
      rw (c, unfolded-folded) (ap (got (step_after false e (history_after f h (folded e)) es)) (omega arith))

  sample_at : {p : ℕ} (h plus : ℕ) (e : ℤ) (es : List ℤ) (run : Bool)
      → let h' = history_after f h (folded e) in
      let w = symbol_bits (symbol_k kb h) (symbol_m (symbol_k kb h)) b (folded e - plus) in
      let u = pick run (run_bits kb h' (zeros es)) [] in
      plus ≤ folded e → folded e < 2 ^ b → length es < 2 ^ 16 → run_follows h' (length es) ≡ run → At bits p (w ++ u)
      → sample S f kb b h plus (length es) p ≡ got (step_after run e h' es) (p + length w + length u)
  unfolding sample bind
  sample_at {p} h plus e es run le lt n c a =
      let k : ℕ = symbol_k kb h in
      let w : List ℕ = symbol_bits k (symbol_m k) b (folded e - plus) in
      let whole : folded e - plus + plus ≡ folded e = omega arith in
      let v : folded e % 2 ^ 32 ≡ folded e = mod-eq_of_lt (lt_of_lt_of_le lt (pow_mono b_le)) in
      rw (S-at k b (folded e - plus) p (symbol_k_pos kb h (omega arith)) (omega arith) (at_first w _ a), whole, v)
      (after_value_at h e es run n c (at_next w _ a))

  -- a sample that is read, and what follows it
  cons_at : (e : ℤ) (es : List ℤ) (h plus p : ℕ) → plus ≤ folded e → folded e < 2 ^ b → length es < 2 ^ 16
      → ((run : Bool) (h q : ℕ) → RiceBack bits S f kb b es (pick run (zeros es) 0) h (pick run 1 0) q)
      → RiceBack bits S f kb b (e ∷ es) 0 h plus p
  unfolding rice bind rice_code
  cons_at e es h plus p le lt n back a =
      let h' : ℕ = history_after f h (folded e) in
      let run : Bool = run_follows h' (length es) in
      let w : List ℕ = symbol_bits (symbol_k kb h) (symbol_m (symbol_k kb h)) b (folded e - plus) in
      let u : List ℕ = pick run (run_bits kb h' (zeros es)) [] in
      let t : List ℕ = (rice_code f kb b es (pick run (zeros es) 0) (pick run 0 h') (pick run 1 0)).bits in
      let a₁ : At bits p (w ++ u ++ t) = rw (append_assoc w u t) a in
      let l : length (w ++ u) ≡ length w + length u = length-append w u in
      let a₂ : At bits (p + length w + length u) t = subst (λ (q : ℕ). At bits q t) (omega arith) (at_next (w ++ u) t a₁) in
      let end : p + length w + length u + length t ≡ p + length (w ++ (u ++ t)) = omega (arith, length-append w (u ++ t), length-append u t) in
      rw (sample_at h plus e es run le lt n refl (at_first (w ++ u) t a₁), back run (pick run 0 h') (p + length w + length u) a₂, end)

  -- Between samples the state is `pick run (zeros es) 0` and `pick run 1 0`: zeros are owed exactly where a run was written, and after them no 0 comes
  pub rice_at : (es : List ℤ) (run : Bool) (h p : ℕ) → Ranged b es → length es ≤ 2 ^ 16
      → RiceBack bits S f kb b es (pick run (zeros es) 0) h (pick run 1 0) p
  unfolding rice bind rice_code zeros folded
  rice_at [] run h p r n a = ap (got none) (omega arith)
  rice_at (e ∷ es) false h p r n a =
      cons_at e es h 0 p (omega arith) r.0 (omega arith) (λ run h q. rice_at es run h q r.1 (omega arith)) a
  rice_at (pos zero ∷ es) true h p r n a = rw (rice_at es true 0 p r.1 (omega arith) a)
  rice_at (pos (suc m) ∷ es) true h p r n a =
      cons_at (pos (suc m)) es h 1 p (omega arith) r.0 (omega arith) (λ run h q. rice_at es run h q r.1 (omega arith)) a
  rice_at (negsuc m ∷ es) true h p r n a =
      cons_at (negsuc m) es h 1 p (omega arith) r.0 (omega arith) (λ run h q. rice_at es run h q r.1 (omega arith)) a

-- the plain reader, from the start
pub rice_back : {bits : List ℕ} {p : ℕ} (f kb b : ℕ) (es : List ℤ) (h : ℕ) → 8 ≤ kb → b ≤ 32 → Ranged b es → length es ≤ 2 ^ 16
    → At bits p (rice_code f kb b es 0 h 0).bits
    → rice (symbol bits) f kb b (length es) 0 h 0 p
    ≡ got (record { residuals = es; histories = (rice_code f kb b es 0 h 0).histories }) (p + length (rice_code f kb b es 0 h 0).bits)
rice_back {bits} {p} f kb b es h kb_le b_le r n a =
    rice_at bits (symbol bits) (λ k b s p. symbol_at k b s) f kb b kb_le b_le es false h p r n a

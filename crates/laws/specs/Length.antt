-- How long the bits are that the writer's rules give for symbols and Rice data, and that each is 0 or 1.
use Rattle.std.specs.Prelude.{◌≡◌, refl, Bool, true, false, List, [], ◌∷◌, ◌++◌, ℕ, zero, suc, ◌+◌, ◌-◌, ◌*◌, ◌/◌, ◌%◌, ◌^◌, ◌≤◌, ◌<◌, max, length, replicate, ltb, eqb, ℤ}
use Rattle.std.proofs.Common.{suc-mul, arith, length-append, ltb-true}
use Rattle.std.proofs.lemmas.List.{length-replicate}
use Rattle.rules.specs.Answers.{pick}
use Rattle.rules.specs.Bits.{digits}
use Rattle.rules.specs.Words.{folded}
use Rattle.rules.specs.Rice.{symbol_k, symbol_m, run_k, run_m, history_after, run_follows}
use Rattle.rules.specs.Writer.{rest_bits, symbol_bits, zeros, run_bits, rice_code}
use Rattle.laws.specs.Bits.{length_digits, Bin, bin_append, bin_replicate, bin_digits}
use Rattle.laws.specs.Rice.{symbol_k_le, run_k_range, run_follows_lt, history_lt}

-- ---- lengths

rest-length : (k r : ℕ) → length (rest_bits k r) ≤ k
unfolding rest_bits
rest-length k r = go (eqb k 1) (eqb r 0)
  where
    go : (c d : Bool) → length (pick c [] (pick d (replicate (k - 1) 0) (digits k (r + 1)))) ≤ k
    go true d = omega arith
    go false true = omega (arith, length-replicate {A = ℕ} (k - 1) 0)
    go false false = omega (arith, length_digits k (r + 1))

pub symbol-length : (k m b s : ℕ) → length (symbol_bits k m b s) ≤ 9 + max k b
unfolding symbol_bits
symbol-length k m b s = go (ltb (s / m) 9) refl
  where
    go : (c : Bool) → ltb (s / m) 9 ≡ c
        → length (pick c (replicate (s / m) 1 ++ 0 ∷ rest_bits k (s % m)) (replicate 9 1 ++ digits b s)) ≤ 9 + max k b
    go true e = simp (length-append, length-replicate) (omega (arith, ltb-true (s / m) 9 e, rest-length k (s % m)))
    go false e = omega (arith, length_digits b s)

run_length : (run : Bool) (kb h z : ℕ) → (run ≡ true → h < 128) → length (pick run (run_bits kb h z) []) ≤ 25
run_length true kb h z l = omega (arith, run_k_range h (l refl), symbol-length (run_k h) (run_m kb (run_k h)) 16 z)
run_length false kb h z l = omega arith

then_lt : (run : Bool) (h : ℕ) → h < 2 ^ 25 → pick run 0 h < 2 ^ 25
then_lt true h l = omega arith
then_lt false h l = l

-- a symbol of at most 9 + max 16 b bits a sample, and a run of at most 25
pub rice-length : (f kb b : ℕ) (es : List ℤ) (owed h plus : ℕ) → f ≤ 127 → h < 2 ^ 25
    → length (rice_code f kb b es owed h plus).bits ≤ length es * (9 + max 16 b + 25)
unfolding rice_code
rice-length f kb b [] owed h plus lf lh = omega arith
rice-length f kb b (e ∷ es) (suc owed) h plus lf lh =
    omega (arith, suc-mul (length es) (9 + max 16 b + 25), rice-length f kb b es owed 0 1 lf (omega arith))
rice-length f kb b (e ∷ es) zero h plus lf lh =
    let h' : ℕ = history_after f h (folded e) in
    let run : Bool = run_follows h' (length es) in
    let w : List ℕ = symbol_bits (symbol_k kb h) (symbol_m (symbol_k kb h)) b (folded e - plus) in
    let u : List ℕ = pick run (run_bits kb h' (zeros es)) [] in
    let t : List ℕ = (rice_code f kb b es (pick run (zeros es) 0) (pick run 0 h') (pick run 1 0)).bits in
    let lt : length t ≤ length es * (9 + max 16 b + 25) =
    rice-length f kb b es (pick run (zeros es) 0) (pick run 0 h') (pick run 1 0) lf (then_lt run h' (history_lt f h (folded e) lf lh)) in
    let lw : length w ≤ 9 + max (symbol_k kb h) b = symbol-length (symbol_k kb h) (symbol_m (symbol_k kb h)) b (folded e - plus) in
    let lu : length u ≤ 25 = run_length run kb h' (zeros es) (run_follows_lt h' (length es)) in
    omega (arith, suc-mul (length es) (9 + max 16 b + 25), length-append w (u ++ t), length-append u t, symbol_k_le kb h lh)

-- ---- bits

bin_rest : (k r : ℕ) → Bin (rest_bits k r)
unfolding rest_bits
bin_rest k r = go (eqb k 1) (eqb r 0)
  where
    go : (c d : Bool) → Bin (pick c [] (pick d (replicate (k - 1) 0) (digits k (r + 1))))
    go true d = tt
    go false true = bin_replicate (k - 1) 0 (omega arith)
    go false false = bin_digits k (r + 1)

pub bin_symbol : (k m b s : ℕ) → Bin (symbol_bits k m b s)
unfolding symbol_bits
bin_symbol k m b s = go (ltb (s / m) 9)
  where
    go : (c : Bool) → Bin (pick c (replicate (s / m) 1 ++ 0 ∷ rest_bits k (s % m)) (replicate 9 1 ++ digits b s))
    go true =
        bin_append
        (replicate (s / m) 1)
        (0 ∷ rest_bits k (s % m))
        (bin_replicate (s / m) 1 (omega arith))
        (omega arith, bin_rest k (s % m))
    go false = bin_append (replicate 9 1) (digits b s) (bin_replicate 9 1 (omega arith)) (bin_digits b s)

bin_run : (run : Bool) (kb h z : ℕ) → Bin (pick run (run_bits kb h z) [])
bin_run true kb h z = bin_symbol (run_k h) (run_m kb (run_k h)) 16 z
bin_run false kb h z = tt

pub bin_rice : (f kb b : ℕ) (es : List ℤ) (owed h plus : ℕ) → Bin (rice_code f kb b es owed h plus).bits
unfolding rice_code
bin_rice f kb b [] owed h plus = tt
bin_rice f kb b (e ∷ es) (suc owed) h plus = bin_rice f kb b es owed 0 1
bin_rice f kb b (e ∷ es) zero h plus =
    let h' : ℕ = history_after f h (folded e) in
    let run : Bool = run_follows h' (length es) in
    bin_append
    (symbol_bits (symbol_k kb h) (symbol_m (symbol_k kb h)) b (folded e - plus))
    _
    (bin_symbol (symbol_k kb h) (symbol_m (symbol_k kb h)) b (folded e - plus))
    (bin_append
    (pick run (run_bits kb h' (zeros es)) [])
    _
    (bin_run run kb h' (zeros es))
    (bin_rice f kb b es (pick run (zeros es) 0) (pick run 0 h') (pick run 1 0)))

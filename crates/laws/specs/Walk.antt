-- One walk over the reading rules: a relation that the smallest readers keep, and that goes through `bind`, holds of the whole reader.
use Prim.Native.Nat.{ℕ, zero, suc, ◌+◌, ◌-◌, ◌*◌, ◌%◌, ◌^◌}
use Rattle.std.specs.Prelude.{Bool, true, false, ◌&&◌, ◌||◌, leb, ltb, Option}
use mathlib.Core.List.{List, [], ◌∷◌}
use Rattle.std.proofs.Math.Dec.{eqb}
use Rattle.rules.specs.declared.StreamInfo.{StreamInfo}
use Rattle.rules.specs.declared.Refusal.{Refusal}
use Rattle.rules.specs.declared.Refusal.TheVariants as refusal
use Rattle.rules.specs.Answers.{pick, Read, ◌>>=◌, give, refuse, times, each, check}
use Rattle.rules.specs.Bits.{field, skip, skip_to_byte}
use Rattle.rules.specs.Symbol.{ones, rest, symbol}
use Rattle.rules.specs.Rice.{SymbolReader, Step, RiceData, symbol_k, symbol_m, run_k, run_m, history_after, run_follows, none, run_at, after_value, sample, rice}
use Rattle.rules.specs.Words.{signed}
use Rattle.rules.specs.Stream.{channel_bits}
use Rattle.rules.specs.Element.{Sound, Channel, Header, Params, Plan, params_ok, mix_ok, all_of, extra_bits, channel_of, assembled, raw_sound, sample_number, params, channel, planned, compressed, uncompressed, header, audio_element}
use Rattle.rules.specs.Packet.{Turn, audio, passed, end, agrees, number_known, skip_bytes, data_count, aligned, data_bytes, data_element, fill_element, sound_element, end_element, tagged, turn, onward, run}

-- a relation between a reader of some bits and the same reader of others
module _ (bits bits' : List ℕ) (s : StreamInfo) (R : (A : Type 0) → Read A → Read A → Type 0) where
  pub record Kept : Type 1 where
    pub gives : {A : Type 0} (a : A) → R A (give a) (give a)
    pub refuses : {A : Type 0} (x : Refusal) → R A (refuse x) (refuse x)
    pub binds : {A B : Type 0} {m m' : Read A} {k k' : A → Read B} → R A m m' → ((a : A) → R B (k a) (k' a)) → R B (m >>= k) (m' >>= k')
    pub fields : (n : ℕ) → R ℕ (field bits n) (field bits' n)
    pub skips : (n : ℕ) → R (Unit {0}) (skip bits n) (skip bits' n)
    pub edges : R (Unit {0}) (skip_to_byte bits) (skip_to_byte bits')
    pub extras : (count shift : ℕ) → R (List ℕ) (extra_bits bits count shift) (extra_bits bits' count shift)

  module _ (kept : Kept) where
    pick-kept : {A : Type 0} (t : Bool) {a a' b b' : Read A} → R A a a' → R A b b' → R A (pick t a b) (pick t a' b')
    pick-kept true h g = h
    pick-kept false h g = g

    check-kept : (t : Bool) (x : Refusal) → R (Unit {0}) (check t x) (check t x)
    check-kept true x = kept.gives tt
    check-kept false x = kept.refuses x

    times-kept : {A : Type 0} (n : ℕ) {m m' : Read A} → R A m m' → R (List A) (times n m) (times n m')
    unfolding times
    times-kept zero h = kept.gives []
    times-kept (suc n) h = kept.binds h (λ x. kept.binds (times-kept n h) (λ xs. kept.gives (x ∷ xs)))

    each-kept : {A B : Type 0} (as' : List A) {f f' : A → Read B} → ((a : A) → R B (f a) (f' a)) → R (List B) (each as' f) (each as' f')
    unfolding each
    each-kept [] h = kept.gives []
    each-kept (a ∷ as') h = kept.binds (h a) (λ x. kept.binds (each-kept as' h) (λ xs. kept.gives (x ∷ xs)))

    -- ---- symbol

    ones-kept : (n : ℕ) → R ℕ (ones bits n) (ones bits' n)
    unfolding ones
    ones-kept zero = kept.gives 0
    ones-kept (suc n) = kept.binds (kept.fields 1) (bit (ones-kept n))
      where
        bit : R ℕ (ones bits n) (ones bits' n) → (d : ℕ)
            → R ℕ (elim d as (λ x. Read ℕ) [ zero ↦ give 0 | suc u ↦ ones bits n >>= (λ q. give (suc q)) ])
            (elim d as (λ x. Read ℕ) [ zero ↦ give 0 | suc u ↦ ones bits' n >>= (λ q. give (suc q)) ])
        bit h zero = kept.gives 0
        bit h (suc d) = kept.binds h (λ q. kept.gives (suc q))

    rest-kept : (q k m : ℕ) → R ℕ (rest bits q k m) (rest bits' q k m)
    unfolding rest
    rest-kept q k m = pick-kept (eqb k 1) (kept.gives q) (kept.binds (kept.fields (k - 1)) high)
      where
        high : (x : ℕ)
            → R ℕ (elim x as (λ y. Read ℕ) [ zero ↦ give (q * m) | suc y ↦ field bits 1 >>= (λ low. give (q * m + (suc y * 2 + low - 1))) ])
            (elim x as (λ y. Read ℕ) [ zero ↦ give (q * m) | suc y ↦ field bits' 1 >>= (λ low. give (q * m + (suc y * 2 + low - 1))) ])
        high zero = kept.gives (q * m)
        high (suc x) = kept.binds (kept.fields 1) (λ low. kept.gives (q * m + (suc x * 2 + low - 1)))

    pub symbol-kept : (k m b : ℕ) → R ℕ (symbol bits k m b) (symbol bits' k m b)
    unfolding symbol
    symbol-kept k m b = kept.binds (ones-kept 9) (λ q. pick-kept (eqb q 9) (kept.fields b) (rest-kept q k m))

    -- ---- Rice data

    module _ (f kb b : ℕ) (S S' : SymbolReader) (both : (k m b : ℕ) → R ℕ (S k m b) (S' k m b)) where
      run-kept : (h left : ℕ) → R ℕ (run_at S f kb b h left) (run_at S' f kb b h left)
      unfolding run_at
      run-kept h left = kept.binds (both (run_k h) (run_m kb (run_k h)) 16) (λ z. kept.binds (check-kept (ltb z (left + 1)) refusal.Run) (λ u. kept.gives z))

      value_kept : (h left v : ℕ) → R Step (after_value S f kb b h left v) (after_value S' f kb b h left v)
      unfolding after_value
      value_kept h left v =
          pick-kept (run_follows (history_after f h v) left) (kept.binds (run-kept (history_after f h v) left) (λ z. kept.gives _)) (kept.gives _)

      sample-kept : (h plus left : ℕ) → R Step (sample S f kb b h plus left) (sample S' f kb b h plus left)
      unfolding sample
      sample-kept h plus left = kept.binds (both (symbol_k kb h) (symbol_m (symbol_k kb h)) b) (λ v. value_kept h left ((v + plus) % 2 ^ 32))

      pub rice-kept : (n owed h plus : ℕ) → R RiceData (rice S f kb b n owed h plus) (rice S' f kb b n owed h plus)
      unfolding rice
      rice-kept zero owed h plus = kept.gives none
      rice-kept (suc n) (suc owed) h plus = kept.binds (rice-kept n owed 0 1) (λ d. kept.gives _)
      rice-kept (suc n) zero h plus =
          kept.binds (sample-kept h plus n) (λ t. kept.binds (rice-kept n t.owed t.history t.plus) (λ d. kept.gives _))

    -- ---- element

    number-kept : (partial : ℕ) → R ℕ (sample_number bits s partial) (sample_number bits' s partial)
    unfolding sample_number
    number-kept zero = kept.gives _
    number-kept (suc partial) = kept.binds (kept.fields 32) (λ n. kept.binds (check-kept (leb n s.frame_length) refusal.Partial) (λ u. kept.gives n))

    params-kept : R Params (params bits s) (params bits' s)
    unfolding params
    params-kept =
        kept.binds (kept.fields 4) (λ mode.
        kept.binds (kept.fields 4) (λ quant.
        kept.binds (kept.fields 3) (λ factor.
        kept.binds (kept.fields 5) (λ order.
        kept.binds (times-kept order (kept.fields 16)) (λ coefs. kept.gives _)))))

    channel-kept : (n b : ℕ) (c : Params) → R Channel (channel bits s n b c) (channel bits' s n b c)
    unfolding channel
    channel-kept n b c =
        kept.binds (rice-kept c.factor s.kb b (symbol bits) (symbol bits') symbol-kept n 0 s.mb 0)
        (λ d. kept.binds (check-kept (eqb c.mode 0 || eqb c.mode 15) refusal.Mode) (λ u. kept.gives (channel_of b c d)))

    plan-kept : (channels : ℕ) → R Plan (planned bits s channels) (planned bits' s channels)
    unfolding planned
    plan-kept channels =
        kept.binds (kept.fields 8) (λ mix_bits.
        kept.binds (kept.fields 8) (λ mix_res.
        kept.binds (times-kept channels params-kept) (λ cs.
        kept.binds (check-kept (all_of params_ok cs && mix_ok channels mix_bits (signed 8 mix_res)) refusal.Parameters) (λ u.
        kept.gives (record { mix_bits = mix_bits; mix_res = signed 8 mix_res; params = cs })))))

    compressed-kept : (channels shift n : ℕ) → R Sound (compressed bits s channels shift n) (compressed bits' s channels shift n)
    unfolding compressed
    compressed-kept channels shift n =
        let b : ℕ = channel_bits s shift channels in
        kept.binds (check-kept (leb b 32) refusal.WideChannel) (λ u.
        kept.binds (check-kept (ltb 0 b) refusal.NoChannelBits) (λ v.
        kept.binds (plan-kept channels) (λ plan.
        kept.binds (kept.extras (n * channels) shift) (λ extra.
        kept.binds (each-kept plan.params (channel-kept n b)) (λ read. kept.gives (assembled channels shift n plan extra read))))))

    uncompressed-kept : (channels code n : ℕ) → R Sound (uncompressed bits s channels code n) (uncompressed bits' s channels code n)
    unfolding uncompressed
    uncompressed-kept channels code n =
        kept.binds (check-kept (eqb code 0) refusal.ShiftedRaw) (λ u.
        kept.binds (times-kept (n * channels) (kept.fields s.bit_depth)) (λ raw. kept.gives (raw_sound channels s.bit_depth n raw)))

    header-kept : R Header (header bits s) (header bits' s)
    unfolding header
    header-kept =
        kept.binds (kept.fields 4) (λ instance.
        kept.binds (kept.fields 12) (λ unused.
        kept.binds (check-kept (eqb unused 0) refusal.Unused) (λ u.
        kept.binds (kept.fields 1) (λ partial.
        kept.binds (kept.fields 2) (λ code.
        kept.binds (check-kept (ltb code 3) refusal.Shift) (λ v.
        kept.binds (kept.fields 1) (λ raw.
        kept.binds (number-kept partial) (λ n. kept.gives (record { code = code; raw = raw; samples = n })))))))))

    element-kept : (channels : ℕ) → R Sound (audio_element bits s channels) (audio_element bits' s channels)
    unfolding audio_element
    element-kept channels =
        kept.binds header-kept (λ h.
        pick-kept (eqb h.raw 0) (compressed-kept channels (8 * h.code) h.samples) (uncompressed-kept channels h.code h.samples))

    -- ---- packet

    bytes_kept : (n : ℕ) → R Turn (skip_bytes bits n) (skip_bytes bits' n)
    unfolding skip_bytes
    bytes_kept n = kept.binds (kept.skips (n * 8)) (λ u. kept.gives passed)

    count_kept : R ℕ (data_count bits) (data_count bits')
    unfolding data_count
    count_kept = kept.binds (kept.fields 8) (λ n. pick-kept (eqb n 255) (kept.binds (kept.fields 8) (λ m. kept.gives (n + m))) (kept.gives n))

    aligned-kept : (asked : ℕ) → R (Unit {0}) (aligned bits asked) (aligned bits' asked)
    unfolding aligned
    aligned-kept zero = kept.gives tt
    aligned-kept (suc asked) = kept.edges

    data_kept : R Turn (data_element bits) (data_element bits')
    unfolding data_element data_bytes
    data_kept =
        kept.binds (kept.fields 4) (λ instance.
        kept.binds (kept.fields 1) (λ align. kept.binds count_kept (λ n. kept.binds (aligned-kept align) (λ u. bytes_kept n))))

    fill_kept : R Turn (fill_element bits) (fill_element bits')
    unfolding fill_element
    fill_kept = kept.binds (kept.fields 4) (λ n. kept.binds (check-kept (leb n 14) refusal.Fill) (λ u. bytes_kept n))

    sound-kept : (so_far : ℕ) (m : Option ℕ) (channels : ℕ) → R Turn (sound_element bits s so_far m channels) (sound_element bits' s so_far m channels)
    unfolding sound_element
    sound-kept so_far m channels =
        kept.binds (check-kept (leb (so_far + channels) s.num_channels) refusal.ManyChannels) (λ u.
        kept.binds (element-kept channels) (λ sound. kept.binds (check-kept (agrees m sound.samples) refusal.Disagree) (λ v. kept.gives (audio sound))))

    end_kept : (so_far : ℕ) (m : Option ℕ) → R Turn (end_element bits s so_far m) (end_element bits' s so_far m)
    unfolding end_element
    end_kept so_far m = kept.binds kept.edges (λ u. kept.binds (check-kept (leb s.num_channels so_far) refusal.FewChannels) (λ v. kept.gives (end (number_known m))))

    pub tagged-kept : (so_far : ℕ) (m : Option ℕ) (tag : ℕ) → R Turn (tagged bits s so_far m tag) (tagged bits' s so_far m tag)
    unfolding tagged
    tagged-kept so_far m tag =
        pick-kept (eqb tag 0) (sound-kept so_far m 1)
        (pick-kept (eqb tag 1) (sound-kept so_far m 2)
        (pick-kept (eqb tag 2) (kept.refuses refusal.Unsupported)
        (pick-kept (eqb tag 3) (sound-kept so_far m 1)
        (pick-kept (eqb tag 4) data_kept
        (pick-kept (eqb tag 5) (kept.refuses refusal.Unsupported)
        (pick-kept (eqb tag 6) fill_kept (end_kept so_far m)))))))

    turn-kept : (so_far : ℕ) (m : Option ℕ) → R Turn (turn bits s so_far m) (turn bits' s so_far m)
    unfolding turn
    turn-kept so_far m = kept.binds (kept.fields 3) (tagged-kept so_far m)

    onward-kept : (so_far : ℕ) (m : Option ℕ) {go go' : ℕ → Option ℕ → Read Sound} → ((c : ℕ) (n : Option ℕ) → R Sound (go c n) (go' c n))
        → (t : Turn) → R Sound (onward so_far m go t) (onward so_far m go' t)
    unfolding onward
    onward-kept so_far m h (audio sound) = kept.binds (h _ _) (λ rest. kept.gives _)
    onward-kept so_far m h passed = h so_far m
    onward-kept so_far m h (end n) = kept.gives _

    pub turns_kept : (most so_far : ℕ) (m : Option ℕ) → R Sound (run bits s most so_far m) (run bits' s most so_far m)
    unfolding run
    turns_kept zero so_far m = kept.refuses refusal.Short
    turns_kept (suc most) so_far m = kept.binds (turn-kept so_far m) (onward-kept so_far m (turns_kept most))

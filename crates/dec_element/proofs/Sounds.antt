-- An element's sound, from what its parts left in scratch.
use Prim.Native.Nat.{ℕ, zero, suc, ◌+◌, ◌*◌, ◌≤◌, ◌<◌}
use mathlib.Core.Path.{◌≡◌, refl, sym, ap, ◌∙◌}
use mathlib.Core.Bool.{Bool, true, false}
use mathlib.Core.List.{List, [], map}
use native.Mathlib.Omega.{arith}
use borrow.Author.Tests.{le-leb, lt-leb, lt-ltb, eq-eqb, ne_eqb}
use lib.Dec.{leb}
use lib.ListN.{length, drop}
use lib.IntN.{ℤ, pos}
use Rattle.std.specs.Prelude.{Result, Ok, Err, is_err, Option, None, Some}
use Rattle.rules.specs.declared.StreamInfo.{StreamInfo}
use Rattle.rules.specs.declared.Refusal.{Refusal}
use Rattle.rules.specs.declared.Refusal.TheVariants as refusal
use Rattle.rules.specs.Answers.{Ans, got, bad, bind, answered, pick, Read, each, times}
use Rattle.rules.specs.Bits.{within, field, skip}
use Rattle.rules.specs.Words.{signed}
use Rattle.rules.specs.Stream.{channel_bits}
use Rattle.rules.specs.Buffers.{lanes, cleared}
use Rattle.rules.specs.Mix.{unmixed}
use Rattle.rules.specs.Element.{Sound, Channel, Header, Plan, numbers, with_extra, extra_bits, assembled, raw_sound, channel, planned, compressed, uncompressed, header, audio_element}
use Rattle.laws.specs.Stored.{cleared-same}
use Rattle.laws.specs.Shape.{Formed, unmixed_formed, extra_formed}
use Rattle.laws.specs.Answers.{answered_got, answered_bad}
use Rattle.bitcursor.specs.Cursor.{Cursor}
use Rattle.bitcursor.specs.Reads.{told}
use Rattle.bitcursor.proofs.Laws.{value_of, refused_of}
use Rattle.buffers.specs.Halves.{parts, with_parts}
use Rattle.buffers.specs.Fills.{Fills, Roomy}
use Rattle.buffers.proofs.Halves.{halves_fit, parts_formed, with_rest, parts_with, with_with}
use Rattle.dec_header.specs.declared.Header as dec
use Rattle.dec_header.specs.declared.plan.Plan as dec_plan
use Rattle.dec_header.specs.declared.plan.Parameters.{Parameters}
use Rattle.dec_header.specs.Plan.{AllowedPlan}
use Rattle.dec_channels.specs.Channels.{width_of}
use Rattle.dec_element.specs.Heard.{untracked, scratch_heard, Hears}
use Rattle.dec_element.specs.Sounds.{after_plan, here, Sounds, Sounding}

-- ---- the last of the parts leaves the sound's channels where the first ones lay

module _ (half n w : ℕ) (was mid : List ℤ) (chans : List (List ℤ)) (r : Roomy half n w was) (long : length mid ≡ length was)
    (before : mid ≡ with_parts half (parts half n w mid) was) (formed : Formed w n chans) where
  room_of : (k : ℕ) → k ≤ 2 → k * half ≤ length was
  room_of k l = halves_fit half k (length was) l r.room

  mid_formed : Formed w n (parts half n w mid)
  mid_formed = parts_formed half n r.short w mid (omega (arith, room_of w r.two))

  pub laid_again : with_parts half chans mid ≡ with_parts half chans was
  laid_again =
      ap (with_parts half chans) before
      ∙ with_with half n r.short was mid_formed.long formed.long (omega (arith, mid_formed.count, formed.count)) (room_of (length chans) (omega (arith, formed.count, r.two)))

  pub lies_there : parts half n w (with_parts half chans mid) ≡ chans
  lies_there =
      ap (parts half n w) laid_again ∙ ap (λ (k : ℕ). parts half n k (with_parts half chans was)) (sym formed.count)
      ∙ parts_with half n r.short was formed.long (room_of (length chans) (omega (arith, formed.count, r.two)))

  pub rest_there : drop (2 * half) (with_parts half chans mid) ≡ drop (2 * half) was
  rest_there = ap (drop (2 * half)) laid_again ∙ with_rest half 2 chans was (omega (arith, formed.count, r.two)) r.room

-- a refusal, wherever it came from
pub sound_refused : (half w : ℕ) {rule : List ℕ → Read Sound} {was is : Cursor} {scr scr' : List ℤ} {x : Refusal} {r : Result ℕ Refusal} → r ≡ Err x
    → rule was.bits was.at ≡ bad x is.at → is.bits ≡ was.bits → drop (2 * half) scr' ≡ drop (2 * half) scr → Sounds half w rule was is scr scr' r
unfolding told answered
sound_refused half w d e b h = rw d (record { reads = record { tells = rw e; same = b }; laid = tt; rest = h })

-- what was read so far leads on to the rest
pub sounds_on : {half w : ℕ} {rule next : List ℕ → Read Sound} {was mid is : Cursor} {scr scr' : List ℤ} {r : Result ℕ Refusal} → mid.bits ≡ was.bits
    → rule was.bits was.at ≡ next was.bits mid.at → Sounds half w next mid is scr scr' r → Sounds half w rule was is scr scr' r
sounds_on b e s = record { reads = record { tells = rw e (rw b at s.reads.tells); same = s.reads.same ∙ b }; laid = s.laid; rest = s.rest }

-- ---- a compressed element

-- what is skipped at once are the extra bits
extra_got : (bits : List ℕ) (count shift p : ℕ) {q : ℕ} → skip bits (shift * count) p ≡ got tt q → extra_bits bits count shift p ≡ got (numbers count shift (drop p bits)) q
unfolding extra_bits within
extra_got bits count shift p {q} e = go (leb (p + shift * count) (length bits)) tt e
  where
    go : (t : Bool) (u : Unit {0}) → pick t (got u (p + shift * count)) (bad refusal.Short p) ≡ got u q
        → pick t (got (numbers count shift (drop p bits)) (p + shift * count)) (bad refusal.Short p) ≡ got (numbers count shift (drop p bits)) q
    go true u h = cc
    go false u h = cc

extra_bad : (bits : List ℕ) (count shift p : ℕ) {x : Refusal} {q : ℕ} → skip bits (shift * count) p ≡ bad x q → extra_bits bits count shift p ≡ bad x q
unfolding extra_bits within
extra_bad bits count shift p {x} {q} e = go (leb (p + shift * count) (length bits)) tt e
  where
    go : (t : Bool) (u : Unit {0}) → pick t (got u (p + shift * count)) (bad refusal.Short p) ≡ bad x q
        → pick t (got (numbers count shift (drop p bits)) (p + shift * count)) (bad refusal.Short p) ≡ bad x q
    go true u h = cc
    go false u h = cc

module _ (bits : List ℕ) (s : StreamInfo) (w shift n p : ℕ) where
  abbrev b : ℕ
  b = channel_bits s shift w

  abbrev whole : Ans Sound
  whole = compressed bits s w shift n p

  pub wide_refused : 32 < b → whole ≡ bad refusal.WideChannel p
  unfolding compressed bind
  wide_refused h = rw (lt-leb b 32 h)

  pub none_refused : b ≡ 0 → whole ≡ bad refusal.NoChannelBits p
  unfolding compressed bind
  none_refused h = rw h

  module _ (b-ge : 0 < b) (b_le : b ≤ 32) where
    pub plan_refused : {x : Refusal} {q : ℕ} → planned bits s w p ≡ bad x q → whole ≡ bad x q
    unfolding compressed bind
    plan_refused e = rw (le-leb b 32 b_le, lt-ltb 0 b b-ge, e)

    pub plan-read : {plan : Plan} {q : ℕ} → planned bits s w p ≡ got plan q → whole ≡ after_plan bits s w b shift n plan q
    unfolding compressed bind after_plan
    plan-read e = rw (le-leb b 32 b_le, lt-ltb 0 b b-ge, e)

-- ---- after the plan

-- the channels have room
pub roomy_of : {s : StreamInfo} {w : ℕ} {h : dec.Header} {scr : List ℤ} → Sounding s w h scr → (scr' : List ℤ) → length scr' ≡ length scr → Roomy s.frame_length h.samples w scr'
roomy_of a scr' e =
    record { half_le = a.hearable.legal.frame_le; short = a.sane.samples_le; some = a.hearable.some; two = a.hearable.two; room = omega (arith, a.hearable.room) }

-- the plan is of as many channels as it was read for
pub width_is : (w : ℕ) (plan : dec_plan.Plan) → 1 ≤ w → w ≤ 2 → AllowedPlan w plan → width_of plan ≡ w
width_is w plan some two a = go plan.second refl
  where
    go : (o : Option Parameters) → plan.second ≡ o → width_of plan ≡ w
    go None e = rw e (by w refl)
      where
        by : (v : ℕ) → w ≡ v → 1 ≡ v
        by (suc zero) h = refl
        by zero h = absurd (omega arith)
        by (suc (suc v)) h = absurd (rw e at (a.pair (omega arith)))
    go (Some c) e = rw e (by w refl)
      where
        by : (v : ℕ) → w ≡ v → 2 ≡ v
        by (suc (suc zero)) h = refl
        by zero h = absurd (omega arith)
        by (suc zero) h = let d : Some c ≡ None = sym e ∙ a.alone h in cc
        by (suc (suc (suc v))) h = absurd (omega arith)

module _ (bits : List ℕ) (s : StreamInfo) (w b shift n : ℕ) (plan : Plan) (q : ℕ) where
  abbrev later : Ans Sound
  later = after_plan bits s w b shift n plan q

  pub extra_refused : {x : Refusal} {i : ℕ} → skip bits (shift * (n * w)) q ≡ bad x i → later ≡ bad x i
  unfolding after_plan bind
  extra_refused f = rw (extra_bad bits (n * w) shift q f)

  module _ {r : ℕ} (f : skip bits (shift * (n * w)) q ≡ got tt r) where
    abbrev read : Ans (List Channel)
    read = each plan.params (channel bits s n b) r

    past : later ≡ bind read (λ cs t. got (assembled w shift n plan (numbers (n * w) shift (drop q bits)) cs) t)
    unfolding after_plan bind
    past = rw (extra_got bits (n * w) shift q f)

    pub each_refuses : {x : Refusal} {t : ℕ} → answered (map (λ c. c.values)) read ≡ bad x t → later ≡ bad x t
    unfolding answered bind
    each_refuses {x} {t} g = past ∙ go read g
      where
        go : (a : Ans (List Channel)) → answered (map (λ c. c.values)) a ≡ bad x t
            → bind a (λ cs t. got (assembled w shift n plan (numbers (n * w) shift (drop q bits)) cs) t) ≡ bad x t
        go (got cs u) h = cc
        go (bad y u) h = cc

    pub each_sounds : {chans : List (List ℤ)} {t : ℕ} → answered (map (λ c. c.values)) read ≡ got chans t
        → answered untracked later ≡ got (record { samples = n; chans = with_extra w shift (numbers (n * w) shift (drop q bits)) (unmixed plan.mix_bits plan.mix_res chans); tracks = [] }) t
    unfolding answered bind assembled untracked
    each_sounds {chans} {t} g = ap (answered untracked) past ∙ go read g
      where
        go : (a : Ans (List Channel)) → answered (map (λ c. c.values)) a ≡ got chans t
            → answered untracked (bind a (λ cs t. got (assembled w shift n plan (numbers (n * w) shift (drop q bits)) cs) t))
            ≡ got (record { samples = n; chans = with_extra w shift (numbers (n * w) shift (drop q bits)) (unmixed plan.mix_bits plan.mix_res chans); tracks = [] }) t
        go (bad y u) h = cc
        go (got cs u) h =
            let k : map (λ c. c.values) cs ≡ chans = cc in
            let l : u ≡ t = cc in
            rw (k, l)

-- the finished channels of a compressed element
pub compressed_sounds : (half n w : ℕ) {rule : List ℕ → Read Sound} {was is : Cursor} {scr mid scr' : List ℤ} (shift mix_bits : ℕ) (mix_res : ℤ) (extra : List ℕ)
    → Roomy half n w scr → length mid ≡ length scr → mid ≡ with_parts half (parts half n w mid) scr → length extra ≡ n * w
    → scr' ≡ with_parts half (with_extra w shift extra (unmixed mix_bits mix_res (parts half n w mid))) mid
    → answered untracked (rule was.bits was.at) ≡ got (record { samples = n; chans = with_extra w shift extra (unmixed mix_bits mix_res (parts half n w mid)); tracks = [] }) is.at
    → is.bits ≡ was.bits → Sounds half w rule was is scr scr' (Ok n)
unfolding told
compressed_sounds half n w {scr = scr} {mid = mid} {scr' = scr'} shift mix_bits mix_res extra r l before e laid_is tells same =
    let chans : List (List ℤ) = with_extra w shift extra (unmixed mix_bits mix_res (parts half n w mid)) in
    let m = parts_formed half n r.short w mid (omega (arith, halves_fit half w (length scr) r.two r.room)) in
    let f : Formed w n chans = extra_formed w shift n extra _ r.some e (unmixed_formed mix_bits mix_res (parts half n w mid) m) in
    let there : parts half n w scr' ≡ chans = ap (parts half n w) laid_is ∙ lies_there half n w scr mid chans r l before f in
    record {
      reads = record { tells = rw there (sym tells); same = same };
      laid = laid_is ∙ laid_again half n w scr mid chans r l before f ∙ ap (λ (x : List (List ℤ)). with_parts half x scr) (sym there);
      rest = ap (drop (2 * half)) laid_is ∙ rest_there half n w scr mid chans r l before f;
    }

-- ---- an uncompressed element

pub raw_refused : (bits : List ℕ) (s : StreamInfo) (w code n p : ℕ) → (code ≡ 0 → ⊥) → uncompressed bits s w code n p ≡ bad refusal.ShiftedRaw p
unfolding uncompressed bind
raw_refused bits s w code n p h = rw (ne_eqb code 0 h)

module _ (s : StreamInfo) (half w n : ℕ) {code : ℕ} (z : code ≡ 0) {was is : Cursor} {scr scr' : List ℤ} {r : Result (Unit {0}) Refusal}
    (f : Fills half n w (λ bits p. answered (λ raw. lanes w (map (signed s.bit_depth) raw)) (times (n * w) (field bits s.bit_depth) p)) was is scr scr' r) where
  abbrev raw : Ans (List ℕ)
  raw = times (n * w) (field was.bits s.bit_depth) was.at

  pub raw_short : {x : Refusal} {q : Result ℕ Refusal} → r ≡ Err x → q ≡ Err x → Sounds half w (λ bits. uncompressed bits s w code n) was is scr scr' q
  unfolding uncompressed bind
  raw_short e d =
      let a = answered_bad (λ raw. lanes w (map (signed s.bit_depth) raw)) raw (refused_of f.reads e) in
      sound_refused half w d (rw (eq-eqb code 0 z, a)) f.reads.same f.rest

  pub raw_sounds : {u : Unit {0}} → r ≡ Ok u → Sounds half w (λ bits. uncompressed bits s w code n) was is scr scr' (Ok n)
  unfolding uncompressed bind told answered raw_sound untracked
  raw_sounds e =
      let a = answered_got (λ raw. lanes w (map (signed s.bit_depth) raw)) raw (value_of f.reads e) in
      record {
        reads = record { tells = rw (eq-eqb code 0 z, a.1) (ap (λ (chans : List (List ℤ)). got (record { samples = n; chans = chans; tracks = [] }) is.at) a.2); same = f.reads.same };
        laid = rw e at f.laid;
        rest = f.rest;
      }

-- ---- the element

pub header_refused : (bits : List ℕ) (s : StreamInfo) (w p : ℕ) {x : Refusal} {q : ℕ} → header bits s p ≡ bad x q → audio_element bits s w p ≡ bad x q
unfolding audio_element bind
header_refused bits s w p e = rw e

module _ (bits : List ℕ) (s : StreamInfo) (w p : ℕ) {h : Header} {q : ℕ} (e : header bits s p ≡ got h q) where
  pub body_compressed : h.raw ≡ 0 → audio_element bits s w p ≡ compressed bits s w (8 * h.code) h.samples q
  unfolding audio_element bind
  body_compressed z = rw (e, eq-eqb h.raw 0 z)

  pub body_raw : (h.raw ≡ 0 → ⊥) → audio_element bits s w p ≡ uncompressed bits s w h.code h.samples q
  unfolding audio_element bind
  body_raw z = rw (e, ne_eqb h.raw 0 z)

module _ (half w : ℕ) (rule : List ℕ → Read Sound) {was is : Cursor} {scr scr' : List ℤ} where
  pub hears_value : (r : Result ℕ Refusal) → is_err r ≡ false → Sounds half w rule was is scr scr' r → Hears half w rule was is scr scr' r
  unfolding told answered scratch_heard untracked
  hears_value (Ok n) e s = record { reads = s.reads; scratch_is = go (rule was.bits was.at) s.reads.tells }
    where
      go : (a : Ans Sound) → got (here half n w scr') is.at ≡ answered untracked a → scr' ≡ scratch_heard half a scr
      go (got sound p) k =
          let same : here half n w scr' ≡ untracked sound = cc in
          s.laid ∙ ap (λ (x : Sound). with_parts half x.chans scr) same
      go (bad x p) k = cc
  hears_value (Err x) e s = cc

  pub hears_refusal : (r : Result ℕ Refusal) → is_err r ≡ true → Sounds half w rule was is scr scr' r → length scr' ≡ length scr
      → {end : List ℤ} → end ≡ cleared (pos 0) (2 * half) scr' → Hears half w rule was is scr end r
  unfolding told answered scratch_heard
  hears_refusal (Ok n) e s l d = cc
  hears_refusal (Err x) e s l {end} d = record { reads = record { tells = s.reads.tells; same = s.reads.same }; scratch_is = go (rule was.bits was.at) s.reads.tells }
    where
      go : (a : Ans Sound) → bad x is.at ≡ answered untracked a → end ≡ scratch_heard half a scr
      go (got sound p) k = cc
      go (bad y p) k = d ∙ cleared-same (pos 0) (2 * half) scr' scr l s.rest

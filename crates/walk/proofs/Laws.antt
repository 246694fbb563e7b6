-- What the stream, the reader, the writer and the text of the settings say of lengths.
use Rattle.std.proofs.Common.{◌≡◌, ℕ, ◌≤◌, true, List, ◌++◌, length, take, drop, ℤ, refl, ap, ◌∙◌, mul-le-mul_right, mul-le-mul, arith, length-append, length-drop, length-take-le}
use Rattle.rules.specs.declared.StreamInfo.{StreamInfo}
use Rattle.rules.specs.declared.PackingSettings.{PackingSettings}
use Rattle.std.specs.Prelude.{Result, Ok}
use Rattle.rules.specs.declared.Decoded.{Decoded}
use Rattle.rules.specs.declared.Refusal.{Refusal}
use Rattle.rules.specs.declared.Refused.{Refused}
use Rattle.rules.specs.Bits.{bits_of}
use Rattle.rules.specs.Stream.{Width, accepted, output_places}
use Rattle.laws.specs.Buffers.{laid-length}
use Rattle.laws.specs.Tests.{accepted_fields}
use Rattle.laws.specs.Shape.{all_got}
use Rattle.laws.specs.Reader.{packet_shaped}
use Rattle.dec.specs.Promise as dec
use Rattle.dec.proofs.Promises.{accepted_count}
use Rattle.enc.specs.Promise as enc
use Rattle.theorems.specs.Refused.{Cause, all_hold, refused_when}
use Rattle.text.specs.declared.TextError.{TextError}
use Rattle.text.specs.Text.{Read, whole, wrong, full, numbers_of, Tells}
use Rattle.walk.specs.Held.{Small}

-- ---- the stream

pub small : {A : Type 0} (w : Width A) (s : StreamInfo) → accepted w s ≡ true → Small s
small w s e =
    let f = accepted_fields w s e in
    record { frame_le = f.frame_le; channels_le = f.channels_le; channels_ge = f.channels_ge }

pub places_le : (s : StreamInfo) → Small s → output_places s ≤ 32768
places_le s h = mul-le-mul h.frame_le h.channels_le

-- ---- the reader and the writer

-- a part of n places came back as long as it went
pub back_le : {A : Type 0} (n k : ℕ) (xs ys : List A) → n ≤ length xs → length ys ≡ length (take n xs) → k ≤ length xs → k ≤ length (ys ++ drop n xs)
back_le n k xs ys h e l = simp (length-append, length-drop) (omega (arith, length-take-le n xs h))

-- the samples of a packet lie in the memory that they came back to
pub passage_le : (s : StreamInfo) → Small s → {n : ℕ} (xs ys : List ℤ) → 32768 ≡ length xs → length ys ≡ length (take (output_places s) xs) → n ≤ output_places s → n ≤ length (ys ++ drop (output_places s) xs)
passage_le s h {n} xs ys e f l =
    let fit = places_le s h in
    back_le (output_places s) n xs ys (omega arith) f (omega arith)

-- an accepted packet has no more samples than a frame
pub read_le : {A : Type 0} {w : Width A} {s : StreamInfo} {bytes : List ℕ} {out out' : List A} {scr scr' : List ℤ} {d : Decoded} {r : Result Decoded Refused}
    → dec.Promise w s bytes out out' scr scr' r → r ≡ Ok d → d.count ≤ output_places s
read_le {s = s} {bytes = bytes} h e =
    let a = accepted_count (rw e at h) in
    let shaped = all_got (rw a.read at (packet_shaped (bits_of bytes) s)) in
    rw a.count (mul-le-mul_right s.num_channels shaped.samples_le)

-- a packet lies in the lent bytes
pub packed_le : {s : StreamInfo} {t : PackingSettings} {passage : List ℤ} {bytes bytes' : List ℕ} {scr scr' : List ℤ} {n : ℕ} {r : Result ℕ Refusal}
    → enc.Promise s t passage bytes bytes' scr scr' r → r ≡ Ok n → n ≤ length bytes
packed_le {s} {t} {passage} {bytes} {scr} {n} h e = by ((refused_when h (Ok n)).0 e)
  where
    by : {m : ℕ} → Cause s t passage (length bytes) (length scr) (Ok m) → m ≤ length bytes
    by (all_hold f g h i j) = j

-- ---- the text

pub same_long : {text : List ℕ} {was is : List ℤ} {r : Result ℕ TextError} → Tells text was is r → length is ≡ length was
same_long {was} h = ap length h.places ∙ laid-length _ was

pub many_few : {text : List ℕ} {was is : List ℤ} {r : Result ℕ TextError} (n : ℕ) → Tells text was is r → r ≡ Ok n → n ≤ 68
many_few {text} n h e = by (numbers_of text) refl
  where
    by : (a : Read) → numbers_of text ≡ a → n ≤ 68
    by (whole xs) f = let g : n ≡ length xs = cc (rw f at h.told) in omega (arith, rw f at h.most)
    by (wrong at xs) f = let z : ◌≡◌ {A = ℕ} 0 1 = cc (rw f at h.told) in absurd (omega arith)
    by (full xs) f = let z : ◌≡◌ {A = ℕ} 0 1 = cc (rw f at h.told) in absurd (omega arith)

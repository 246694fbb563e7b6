-- One element: what the rules read where it was read, and its channels in the output; for every kind of output.
use Prim.Native.Nat.{ℕ, ◌+◌, ◌-◌}
use mathlib.Core.Path.{◌≡◌}
use mathlib.Core.List.{List, map}
use native.Mathlib.Numerals.{add-one}
use native.Mathlib.Omega.{arith}
use lib.ListN.{length, take, drop}
use lib.IntN.{ℤ}
use Rattle.std.specs.Prelude.{Result, Ok, IfOk}
use Rattle.rules.specs.declared.StreamInfo.{StreamInfo}
use Rattle.rules.specs.declared.Refusal.{Refusal}
use Rattle.rules.specs.Answers.{Ans, got, bad, answered}
use Rattle.rules.specs.Element.{Sound}
use Rattle.rules.specs.Packet.{Turn, audio, passed, end}
use Rattle.rules.specs.Buffers.{placed, stored}
use Rattle.buffers.specs.Halves.{parts}
use Rattle.dec_element.specs.Heard.{untracked}
use Rattle.dec_packet.specs.declared.Element.{Element}
use Rattle.dec_packet.specs.declared.Element.TheVariants.{Audio}
use Rattle.dec_packet.specs.Told.{untracked_turn, Sane}
use Rattle.dec.specs.Told.{Readable, Layable}

-- ---- the element of the rules

pub heard_audio : {here : Sound} {p : ℕ} (a : Ans Turn) → answered untracked_turn a ≡ got (audio here) p → (sound : Sound) × (a ≡ got (audio sound) p) × (here ≡ untracked sound)
unfolding answered untracked_turn
heard_audio (got (audio sound) q) e = (sound, cc, cc)
heard_audio (got passed q) e = let z : ◌≡◌ {A = ℕ} 0 1 = cc in absurd (omega arith)
heard_audio (got (end n) q) e = let z : ◌≡◌ {A = ℕ} 0 1 = cc in absurd (omega arith)
heard_audio (bad x q) e = let z : ◌≡◌ {A = ℕ} 0 1 = cc in absurd (omega arith)

pub heard_passed : {p : ℕ} (a : Ans Turn) → answered untracked_turn a ≡ got passed p → a ≡ got passed p
unfolding answered untracked_turn
heard_passed (got (audio sound) q) e = let z : ◌≡◌ {A = ℕ} 0 1 = cc in absurd (omega arith)
heard_passed (got passed q) e = cc
heard_passed (got (end n) q) e = let z : ◌≡◌ {A = ℕ} 0 1 = cc in absurd (omega arith)
heard_passed (bad x q) e = let z : ◌≡◌ {A = ℕ} 0 1 = cc in absurd (omega arith)

pub heard_end : {n p : ℕ} (a : Ans Turn) → answered untracked_turn a ≡ got (end n) p → a ≡ got (end n) p
unfolding answered untracked_turn
heard_end (got (audio sound) q) e = let z : ◌≡◌ {A = ℕ} 0 1 = cc in absurd (omega arith)
heard_end (got passed q) e = let z : ◌≡◌ {A = ℕ} 0 1 = cc in absurd (omega arith)
heard_end (got (end n) q) e = cc
heard_end (bad x q) e = let z : ◌≡◌ {A = ℕ} 0 1 = cc in absurd (omega arith)

-- ---- what `lay` asks

pub layable : {A : Type 0} {s : StreamInfo} {so_far k n : ℕ} {out : List A} {scr scr' : List ℤ} {r : Result Element Refusal} → Readable s out scr → length scr' ≡ length scr
    → IfOk r (Sane s so_far) → r ≡ Ok (Audio k n) → Layable s so_far k n scr' out
unfolding Sane
layable r l sane e =
    let p = rw e at sane in
    record {
      readable = record { legal = r.legal; places = r.places; room = rw l r.room };
      samples_le = p.0;
      some = p.1;
      two = p.2;
      channels_le = p.3;
    }

-- ---- channels into their places

module _ {A : Type 0} {s : StreamInfo} {so_far k n : ℕ} {scr : List ℤ} {out : List A} (g : Layable s so_far k n scr out) where
  abbrev half : ℕ
  half = s.frame_length

  -- the second channel's part of scratch, as it is lent
  abbrev second : List ℤ
  second = take (half + n - half) (drop half scr)

  lent : half + n - half ≡ n
  lent = omega arith

  module _ (keep : ℤ → A) {out' : List A} (first : out' ≡ placed s.num_channels so_far (map keep (take n scr)) out) where
    pub laid_one : k ≡ 1 → out' ≡ stored s.num_channels so_far (map (map keep) (parts half n k scr)) out
    unfolding stored parts
    laid_one e = rw e first

    pub laid_two : {out'' : List A} → (k ≡ 1 → ⊥) → out'' ≡ placed s.num_channels (so_far + 1) (map keep second) out'
        → out'' ≡ stored s.num_channels so_far (map (map keep) (parts half n k scr)) out
    unfolding stored parts
    laid_two not-one later =
        let two : k ≡ 2 = omega (arith, g.some, g.two, not-one) in
        rw two (rw (lent, add-one, first) at later)

-- Tests joined by `&&`: where the whole holds, each of them does. What this tells of an accepted stream.
use Rattle.std.specs.Prelude.{◌≤◌, ◌≡◌, refl, Bool, true, false, ◌&&◌, List, [], ◌∷◌, leb}
use Rattle.std.proofs.Common.{leb-true}
use Rattle.rules.specs.declared.StreamInfo.{StreamInfo}
use Rattle.rules.specs.Stream.{Width, accepted}

pub and_parts : (a b : Bool) → a && b ≡ true → (a ≡ true) × (b ≡ true)
and_parts true b e = (refl, e)
and_parts false b e = (e, cc)

-- tests joined one after the other
abbrev pub chain : Bool → List Bool → Bool
chain a [] = a
chain a (b ∷ bs) = chain (a && b) bs

abbrev pub Passed : List Bool → Type 0
Passed [] = Unit {0}
Passed (b ∷ bs) = (b ≡ true) × Passed bs

pub chain_passed : (a : Bool) (bs : List Bool) → chain a bs ≡ true → Passed (a ∷ bs)
chain_passed a [] e = (e, tt)
chain_passed a (b ∷ bs) e =
    let r = chain_passed (a && b) bs e in
    let p = and_parts a b r.0 in
    (p.0, (p.1, r.1))

pub record AcceptedFields {A : Type 0} (w : Width A) (s : StreamInfo) : Type 0 where
  pub frame_ge : 1 ≤ s.frame_length
  pub frame_le : s.frame_length ≤ 4096
  pub depth : w.takes s.bit_depth ≡ true
  pub channels_ge : 1 ≤ s.num_channels
  pub channels_le : s.num_channels ≤ 8
  pub kb_ge : 1 ≤ s.kb
  pub kb_le : s.kb ≤ 31

pub accepted_fields : {A : Type 0} (w : Width A) (s : StreamInfo) → accepted w s ≡ true → AcceptedFields w s
unfolding accepted
accepted_fields w s e =
    let frame = s.frame_length in
    let channels = s.num_channels in
    let p = chain_passed (leb 1 frame) (leb frame 4096 ∷ w.takes s.bit_depth ∷ leb 1 channels ∷ leb channels 8 ∷ leb 1 s.kb ∷ leb s.kb 31 ∷ []) e in
    record {
      frame_ge = leb-true 1 frame p.0;
      frame_le = leb-true frame 4096 p.1.0;
      depth = p.1.1.0;
      channels_ge = leb-true 1 channels p.1.1.1.0;
      channels_le = leb-true channels 8 p.1.1.1.1.0;
      kb_ge = leb-true 1 s.kb p.1.1.1.1.1.0;
      kb_le = leb-true s.kb 31 p.1.1.1.1.1.1.0;
    }

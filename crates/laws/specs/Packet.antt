-- The packet: every element goes on by 3 bits at least, so the turns are enough; and what lies behind an answer's place has no say in it.
use Prim.Native.Nat.{ℕ, zero, suc, ◌+◌, ◌*◌, ◌/◌, ◌≤◌, ◌<◌}
use Rattle.std.proofs.Math.Path.{◌≡◌, refl, sym, ap}
use Rattle.std.proofs.Common.{ap₂, ◌∙◌, mul-suc, leb-true, le-leb, length-append, take-take}
use Rattle.std.proofs.Math.Bool.{Bool, true, false}
use Rattle.std.specs.Prelude.{List, [], ◌∷◌, ◌++◌, take, drop, Option, None}
use native.Mathlib.Omega.{arith}
use Rattle.std.proofs.Math.Dec.{leb}
use Rattle.std.proofs.Math.ListN.{length}
use Rattle.std.proofs.Math.Seq.{take-append_seam}
use Rattle.rules.specs.declared.StreamInfo.{StreamInfo}
use Rattle.rules.specs.declared.Refusal.TheVariants.{Short}
use Rattle.rules.specs.Answers.{Ans, got, bad, pick, bind, Read, ◌>>=◌}
use Rattle.rules.specs.Bits.{num, within, to_edge}
use Rattle.rules.specs.Element.{Sound, numbers, extra_bits}
use Rattle.rules.specs.Packet.{Turn, audio, passed, end, tagged, turn, onward, run, packet}
use Rattle.laws.specs.Walk.{Kept, tagged-kept, turns_kept}

-- a part of a list is a part of its front
part_front : {A : Type 0} (n p edge : ℕ) (l : List A) → p + n ≤ edge → take n (drop p l) ≡ take n (drop p (take edge l))
part_front n zero edge l h = sym (take-take n edge l (omega arith))
part_front n (suc p) zero l h = absurd (omega arith)
part_front n (suc p) (suc edge) [] h = refl
part_front n (suc p) (suc edge) (x ∷ l) h = part_front n p edge l (omega arith)

numbers_front : (n w : ℕ) (l : List ℕ) → numbers n w l ≡ numbers n w (take (w * n) l)
unfolding numbers
numbers_front zero w l = refl
numbers_front (suc n) w l =
    let e = mul-suc w n in
    let rest : numbers n w (drop w l) ≡ numbers n w (drop w (take (w * suc n) l)) =
    numbers_front n w (drop w l) ∙ ap (numbers n w) (part_front (w * n) w (w * suc n) l (omega arith)) ∙ sym (numbers_front n w (drop w (take (w * suc n) l))) in
    ap₂ (λ (x : ℕ) (xs : List ℕ). x ∷ xs) (ap num (sym (take-take w (w * suc n) l (omega arith)))) rest

module _ {A : Type 0} where
  -- an answer for another cause than a short packet, whose place lies in the first `edge` bits
  unfoldable pub Decided : ℕ → Ans A → Type 0
  Decided edge (got a q) = q ≤ edge
  Decided edge (bad x q) = (q ≤ edge) × (x ≡ Short → ⊥)

-- two packets whose first `edge` bits are alike: answers grow, and those that are decided there are the same
module _ (bits bits' : List ℕ) (edge : ℕ) (alike : take edge bits ≡ take edge bits') (long : edge ≤ length bits') (s : StreamInfo) where
  -- the place of an answer lies from p on, and in the packet
  unfoldable pub Grows : {A : Type 0} → ℕ → Ans A → Type 0
  Grows p (got a q) = (p ≤ q) × (q ≤ length bits)
  Grows p (bad x q) = (p ≤ q) × (q ≤ length bits)

  record Goes (A : Type 0) (m m' : Read A) : Type 0 where
    pub from : (p : ℕ) → p ≤ length bits → Grows p (m p) × (Decided edge (m p) → m' p ≡ m p)

  goes_bind : {A B : Type 0} {m m' : Read A} {k k' : A → Read B} → Goes A m m' → ((a : A) → Goes B (k a) (k' a))
      → Goes B (m >>= k) (m' >>= k')
  unfolding bind Grows Decided
  goes_bind {A} {B} {m} {m'} {k} {k'} f g = record { from = λ p h. go p (m p) (f.from p h) }
    where
      further : (p q : ℕ) (b : Ans B) → p ≤ q → Grows q b → Grows p b
      further p q (got b r) l c = (omega (arith, c.0), c.1)
      further p q (bad x r) l c = (omega (arith, c.0), c.1)

      earlier : (q : ℕ) (b : Ans B) → Grows q b → Decided edge b → q ≤ edge
      earlier q (got b r) c d = omega (arith, c.0)
      earlier q (bad x r) c d = omega (arith, c.0, d.0)

      go : (p : ℕ) (a : Ans A) → Grows p a × (Decided edge a → m' p ≡ a) → Grows p (bind a k) × (Decided edge (bind a k) → bind (m' p) k' ≡ bind a k)
      go p (got a q) c =
          let d = (g a).from q c.0.1 in
          (further p q (k a q) c.0.0 d.0, λ i. rw (c.1 (earlier q (k a q) d.0 i)) (d.1 i))
      go p (bad x q) c = (c.0, λ i. rw (c.1 i))

  goes_within : {A : Type 0} (n p : ℕ) (v v' : A) → p ≤ length bits → (p + n ≤ edge → v' ≡ v)
      → Grows p (within bits n v p) × (Decided edge (within bits n v p) → within bits' n v' p ≡ within bits n v p)
  unfolding within Grows Decided
  goes_within {A} n p v v' h e = go (leb (p + n) (length bits)) refl
    where
      a : Bool → Ans A
      a t = pick t (got v (p + n)) (bad Short p)

      go : (t : Bool) → leb (p + n) (length bits) ≡ t → Grows p (a t) × (Decided edge (a t) → pick (leb (p + n) (length bits')) (got v' (p + n)) (bad Short p) ≡ a t)
      go true i = ((omega arith, leb-true _ _ i), λ l. rw (le-leb (p + n) (length bits') (omega arith), e l))
      go false i = ((omega arith, h), λ d. absurd (d.1 refl))

  part_alike : (n p : ℕ) → p + n ≤ edge → take n (drop p bits') ≡ take n (drop p bits)
  part_alike n p h = part_front n p edge bits' h ∙ ap (λ (l : List ℕ). take n (drop p l)) (sym alike) ∙ sym (part_front n p edge bits h)

  goes : Kept bits bits' s Goes
  unfolding Grows Decided extra_bits
  goes = record {
    gives = λ a. record { from = λ p h. ((omega arith, h), λ l. refl) };
    refuses = λ x. record { from = λ p h. ((omega arith, h), λ l. refl) };
    binds = goes_bind;
    fields = λ n. record { from = λ p h. goes_within n p _ _ h (λ l. ap num (part_alike n p l)) };
    skips = λ n. record { from = λ p h. goes_within n p _ _ h (λ l. refl) };
    edges = record { from = λ p h. goes_within (to_edge p) p _ _ h (λ l. refl) };
    extras = λ count shift. record {
      from = λ p h. goes_within (shift * count) p _ _ h (λ l.
          numbers_front count shift (drop p bits') ∙ ap (numbers count shift) (part_alike (shift * count) p l) ∙ sym (numbers_front count shift (drop p bits)));
    };
  }

  -- the whole reader, however many turns
  settled : (most so_far : ℕ) (m : Option ℕ) → Goes Sound (run bits s most so_far m) (run bits' s most so_far m)
  settled = turns_kept bits bits' s Goes goes

module _ (bits : List ℕ) (s : StreamInfo) where
  tagged_goes : (so_far : ℕ) (m : Option ℕ) (tag : ℕ) → Goes bits bits 0 refl (omega arith) s Turn (tagged bits s so_far m tag) (tagged bits s so_far m tag)
  tagged_goes = tagged-kept bits bits s (Goes bits bits 0 refl (omega arith) s) (goes bits bits 0 refl (omega arith) s)

  -- an element takes 3 bits at least, and ends in the packet
  pub turn_grows : (so_far : ℕ) (m : Option ℕ) (p : ℕ) {t : Turn} {q : ℕ} → turn bits s so_far m p ≡ got t q → (p + 3 ≤ q) × (q ≤ length bits)
  unfolding turn bind within Grows
  turn_grows so_far m p {t} {q} e = go (leb (p + 3) (length bits)) refl e
    where
      go : (c : Bool) → leb (p + 3) (length bits) ≡ c
          → bind (pick c (got (num (take 3 (drop p bits))) (p + 3)) (bad Short p)) (tagged bits s so_far m) ≡ got t q → (p + 3 ≤ q) × (q ≤ length bits)
      go true i f = rw f at ((tagged_goes so_far m (num (take 3 (drop p bits)))).from (p + 3) (leb-true _ _ i)).0
      go false i f = let z : ◌≡◌ {A = ℕ} 0 1 = cc in absurd (omega arith)

  -- past the packet's last element no turn is left over
  abbrev Same : ℕ → ℕ → Type 0
  Same f g = (so_far : ℕ) (m : Option ℕ) (p : ℕ) → p ≤ length bits → length bits < p + 3 * f → length bits < p + 3 * g
      → run bits s f so_far m p ≡ run bits s g so_far m p

  same-onward : (f g so_far : ℕ) (m : Option ℕ) (p : ℕ) → Same f g → length bits < p + 3 * suc f → length bits < p + 3 * suc g → (a : Ans Turn)
      → ((t : Turn) (q : ℕ) → a ≡ got t q → (p + 3 ≤ q) × (q ≤ length bits))
      → bind a (onward so_far m (run bits s f)) ≡ bind a (onward so_far m (run bits s g))
  unfolding bind onward
  same-onward f g so_far m p same h k (got (audio sound) q) l = let b = l (audio sound) q refl in rw (same _ _ q b.1 (omega arith) (omega arith))
  same-onward f g so_far m p same h k (got passed q) l = let b = l passed q refl in same so_far m q b.1 (omega arith) (omega arith)
  same-onward f g so_far m p same h k (got (end n) q) l = refl
  same-onward f g so_far m p same h k (bad x q) l = refl

  same_turns : (f g : ℕ) → Same f g
  unfolding run
  same_turns zero g so_far m p i h k = absurd (omega arith)
  same_turns (suc f) zero so_far m p i h k = absurd (omega arith)
  same_turns (suc f) (suc g) so_far m p i h k =
      same-onward f g so_far m p (same_turns f g) h k (turn bits s so_far m p) (λ t q e. turn_grows so_far m p e)

  -- more turns than the rules allow come to the same
  pub enough_turns : (most : ℕ) → length bits / 3 < most → run bits s most 0 None 0 ≡ packet bits s
  unfolding packet
  enough_turns most h = same_turns most (length bits / 3 + 1) 0 None 0 (omega arith) (omega arith) (omega arith)

-- what lies behind a decided answer's place, and how much of it there is, has no say: so nothing after END's byte has
pub later_bits : (w x y : List ℕ) (s : StreamInfo) → Decided (length w) (packet (w ++ x) s) → packet (w ++ y) s ≡ packet (w ++ x) s
later_bits w x y s d =
    let most : ℕ = (length (w ++ x) + length (w ++ y)) / 3 + 1 in
    let one : run (w ++ x) s most 0 None 0 ≡ packet (w ++ x) s = enough_turns (w ++ x) s most (omega arith) in
    let two : run (w ++ y) s most 0 None 0 ≡ packet (w ++ y) s = enough_turns (w ++ y) s most (omega arith) in
    let same = ((settled (w ++ x) (w ++ y) (length w) (take-append_seam w x ∙ sym (take-append_seam w y)) (omega (arith, length-append w y)) s most 0 None).from 0 (omega arith)).1 in
    sym two ∙ same (rw one d) ∙ one

-- The loop over a channel's samples: what holds at its head, that it starts, goes on and ends.
use Rattle.std.proofs.Common.{◌≡◌, ℕ, suc, ◌+◌, ◌-◌, ◌^◌, ◌<◌, ◌≤◌, List, [], ◌∷◌, ◌++◌, length, take, set, ℤ, pos, Result, Ok, Err, sym, refl, ap, ◌∙◌, append_assoc, append-nil, add-one, arith, length-set, take_all, take-suc-set}
use native.Mathlib.Nat.{sub-zero}
use Rattle.rules.specs.declared.Refusal.{Refusal}
use Rattle.rules.specs.Answers.{Ans, got, bad, bind, answered, Read}
use Rattle.rules.specs.Words.{unfolded}
use Rattle.rules.specs.Symbol.{symbol}
use Rattle.rules.specs.Rice.{RiceData, more, sample, rice}
use Rattle.bitcursor.specs.Cursor.{Cursor}
use Rattle.bitcursor.specs.Reads.{told, Reads}
use Rattle.bitcursor.proofs.Laws.{value_of, refused_of}
use Rattle.dec_rice.specs.declared.Coding.{Coding}
use Rattle.dec_rice.specs.declared.State.{State}
use Rattle.dec_rice.specs.declared.Step.{Step}
use Rattle.dec_rice.specs.Steps.{Kept, step_of, residuals_of}

-- xs, and then the residuals of an answer
abbrev ahead : List ℤ → Ans RiceData → Ans (List ℤ)
ahead xs a = answered (λ d. xs ++ d.residuals) a

ahead_more : (xs : List ℤ) (e : ℤ) (h : ℕ) (a : Ans RiceData)
    → ahead xs (bind a (λ d p. got (more e h d) p)) ≡ ahead (xs ++ (e ∷ [])) a
unfolding answered bind
ahead_more xs e h (got d p) = ap (λ (l : List ℤ). got l p) (sym (append_assoc xs (e ∷ []) d.residuals))
ahead_more xs e h (bad x p) = refl

-- n samples from the start
abbrev whole : Coding → ℕ → ℕ → List ℕ → Read (List ℤ)
whole c n mb bits p = residuals_of (rice (symbol bits) c.factor c.kb c.bits n 0 mb 0 p)

-- k samples from a state on
abbrev rest : Coding → List ℕ → ℕ → State → Read RiceData
rest c bits k s = rice (symbol bits) c.factor c.kb c.bits k s.owed s.history s.plus

-- they came into the buffer, or why not
abbrev Told : Coding → ℕ → ℕ → Cursor → Cursor → List ℤ → Result (Unit {0}) Refusal → Type 0
Told c n mb was is buf r = Reads (λ u. buf) (whole c n mb) was is r

-- i samples are done: with what the rules read from here they are the whole
pub record Going (c : Coding) (n mb : ℕ) (was is : Cursor) (buf : List ℤ) (s : State) (i : ℕ) : Type 0 where
  pub done : i ≤ n
  pub places : length buf ≡ n
  pub go : whole c n mb was.bits was.at ≡ ahead (take i buf) (rest c was.bits (n - i) s is.at)
  pub same : is.bits ≡ was.bits
  pub kept : Kept s

pub going_start : (c : Coding) (mb : ℕ) (was : Cursor) (buf : List ℤ) → mb < 2 ^ 25
    → Going c (length buf) mb was was buf (record { history = mb; plus = 0; owed = 0 }) 0
going_start c mb was buf h =
    record { done = omega arith; places = refl; go = rw sub-zero; same = refl; kept = record { history_lt = h; after_run = λ o. absurd (omega arith) } }

module _ {c : Coding} {n mb : ℕ} {was is : Cursor} {buf : List ℤ} {s : State} {i : ℕ} (g : Going c n mb was is buf s i) where
  pub going_end : n ≤ i → Told c n mb was is buf (Ok tt)
  unfolding rice answered told
  going_end l =
      let e : n - i ≡ 0 = omega arith in
      let t : take i buf ++ [] ≡ buf = append-nil (take i buf) ∙ take_all i buf (omega (arith, g.places)) in
      record { tells = sym (rw (e, t) at g.go); same = g.same }

  module _ (l : i < n) where
    left : n - i ≡ suc (n - (i + 1))
    left = omega arith

    front : (x : ℤ) → take (i + 1) (set buf i x) ≡ take i buf ++ (x ∷ [])
    front x = rw add-one (take-suc-set buf i x (omega (arith, g.places)))

    pub going_zero : 0 < s.owed → Going c n mb was is (set buf i (pos 0)) (record s { owed = s.owed - 1 }) (i + 1)
    unfolding rice bind
    going_zero o =
        let r = g.kept.after_run o in
        let e : s.owed ≡ suc (s.owed - 1) = omega arith in
        record {
          done = omega arith;
          places = length-set buf i (pos 0) ∙ g.places;
          go = rw (front (pos 0), r.0, r.1) ((rw (left, e) at g.go) ∙ ahead_more (take i buf) (pos 0) 0 (rice (symbol was.bits) c.factor c.kb c.bits (n - (i + 1)) (s.owed - 1) 0 1 is.at));
          same = g.same;
          kept = record { history_lt = g.kept.history_lt; after_run = λ k. r };
        }

    module _ (o : s.owed ≤ 0) {room : ℕ} (k : room ≡ n - (i + 1)) {is' : Cursor} {r : Result Step Refusal}
        (t : Reads step_of (λ bits. sample (symbol bits) c.factor c.kb c.bits s.history s.plus room) is is' r) where
      -- the next sample, and what the rules read behind it
      next : whole c n mb was.bits was.at
          ≡ ahead (take i buf) (bind (sample (symbol is.bits) c.factor c.kb c.bits s.history s.plus room is.at)
          (λ u p. bind (rice (symbol was.bits) c.factor c.kb c.bits (n - (i + 1)) u.owed u.history u.plus p) (λ d q. got (more u.residual u.history d) q)))
      unfolding rice
      next =
          let z : s.owed ≡ 0 = omega arith in
          rw (k, g.same) (rw (left, z) at g.go)

      pub going_cut : {x : Refusal} → r ≡ Err x → Told c n mb was is' buf (Err x)
      unfolding bind answered told
      going_cut q = record { tells = sym (rw (refused_of t q) at next); same = t.same ∙ g.same }

      pub going_next : {u : Step} {x : ℤ} → r ≡ Ok u → Kept u.next → x ≡ unfolded u.value → Going c n mb was is' (set buf i x) u.next (i + 1)
      unfolding bind
      going_next {u} {x} q kept e =
          record {
            done = omega arith;
            places = length-set buf i x ∙ g.places;
            go = rw (front x, e) ((rw (value_of t q) at next) ∙ ahead_more (take i buf) (unfolded u.value) u.next.history (rest c was.bits (n - (i + 1)) u.next is'.at));
            same = t.same ∙ g.same;
            kept = kept;
          }

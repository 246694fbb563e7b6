-- How the promise of `rice_decompress` is met: the buffer is whole or it is cleared.
use Rattle.std.proofs.Common.{◌≡◌, ℕ, true, false, List, length, replicate, ℤ, pos, Result, Ok, Err, is_err, ap, refl, sym, ◌∙◌, append-nil, arith}
use lib.ListN.{length-replicate}
use lib.Seq.{drop-length}
use Rattle.rules.specs.declared.Refusal.{Refusal}
use Rattle.rules.specs.Answers.{Read, answered}
use Rattle.rules.specs.Buffers.{cleared}
use Rattle.rules.specs.Rice.{RiceData}
use Rattle.laws.specs.Answers.{answered_got, answered_bad}
use Rattle.laws.specs.Buffers.{laid-all}
use Rattle.bitcursor.specs.Cursor.{Cursor}
use Rattle.bitcursor.specs.Reads.{told, Reads}
use Rattle.bitcursor.proofs.Laws.{value_of, refused_of, reads_same}
use Rattle.dec_rice.specs.Promise.{filled, Decompressed}
use Rattle.dec_rice.specs.Steps.{residuals_of}

-- a buffer that is cleared to its end is all zero
cleared-whole : (xs : List ℤ) → cleared (pos 0) (length xs) xs ≡ replicate (length xs) (pos 0)
cleared-whole xs =
    rw (laid-all (replicate (length xs) (pos 0)) xs (rw length-replicate (omega arith)), length-replicate, drop-length, append-nil)

module _ {rule : List ℕ → Read RiceData} {was is : Cursor} {old buf : List ℤ} where
  pub met_whole : (r : Result (Unit {0}) Refusal) → Reads (λ u. buf) (λ bits p. residuals_of (rule bits p)) was is r → is_err r ≡ false
      → Decompressed rule was is old buf r
  unfolding answered told filled
  met_whole (Ok u) t e =
      let d = answered_got (λ d. d.residuals) (rule was.bits was.at) (value_of t refl) in
      record { reads = record { tells = rw d.1; same = t.same }; buffer = rw d.1 d.2 }
  met_whole (Err x) t e = absurd (cc)

  pub met_cleared : (r : Result (Unit {0}) Refusal) → Reads (λ u. buf) (λ bits p. residuals_of (rule bits p)) was is r → is_err r ≡ true
      → {buf' : List ℤ} → length buf ≡ length old → buf' ≡ cleared (pos 0) (length buf) buf → Decompressed rule was is old buf' r
  unfolding answered told filled
  met_cleared (Ok u) t e l z = absurd (cc)
  met_cleared (Err x) t e l z =
      let d = answered_bad (λ d. d.residuals) (rule was.bits was.at) (refused_of t refl) in
      record {
        reads = record { tells = rw d; same = t.same };
        buffer = rw d (z ∙ cleared-whole buf ∙ ap (λ (n : ℕ). replicate n (pos 0)) l);
      }

-- the promise permits one answer
pub decompressed_same : {rule : List ℕ → Read RiceData} {was is is' : Cursor} {old buf buf' : List ℤ} (r q : Result (Unit {0}) Refusal)
    → Decompressed rule was is old buf r → Decompressed rule was is' old buf' q → (r ≡ q) × (is.at ≡ is'.at) × (buf ≡ buf')
decompressed_same r q s t =
    let e = reads_same r q (λ v w k l e. refl) s.reads t.reads in
    (e.0, e.1, s.buffer ∙ sym t.buffer)

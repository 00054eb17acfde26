-- What a reading has taken so far, and what one more piece adds to it.
use Rattle.std.proofs.Common.{◌≡◌, ◌++◌, ◌+◌, ℕ, List, Option, length, length-append, take, subst, arith}
use Rattle.std.proofs.Math.Seq.{take-append_seam}
use Rattle.std.specs.Io.KnownBytes.{Consumes}
use Rattle.std.proofs.KnownBytes.{Consumes-trans}

-- so many bytes, which were read and taken
pub record TakenSoFar (count : ℕ) (before after : Option (List ℕ)) (HasTaken : List ℕ → Type 0) : Type 0 where
  pub bytes : List ℕ
  pub are_read : Consumes before after bytes
  pub many : length bytes ≡ count
  pub taken : HasTaken bytes

module _ {count : ℕ} {before after : Option (List ℕ)} {HasTaken : List ℕ → Type 0} (so_far : TakenSoFar count before after HasTaken) (later : Option (List ℕ)) (piece : List ℕ) (size : ℕ) where
  -- what was read with the piece, which is taken or not
  pub read_on : Consumes after later piece → length piece ≡ size → (bytes : List ℕ) × Consumes before later bytes × (length bytes ≡ count + size)
  read_on more is = (so_far.bytes ++ piece, Consumes-trans _ _ _ so_far.bytes piece so_far.are_read more, omega (arith, length-append so_far.bytes piece, so_far.many, is))

  pub taken_on : (HasNow : List ℕ → Type 0) → Consumes after later piece → length piece ≡ size → ((taken : List ℕ) → HasTaken taken → HasNow (taken ++ piece)) → TakenSoFar (count + size) before later HasNow
  taken_on HasNow more is takes = record {
    bytes = so_far.bytes ++ piece;
    are_read = Consumes-trans _ _ _ so_far.bytes piece so_far.are_read more;
    many = omega (arith, length-append so_far.bytes piece, so_far.many, is);
    taken = takes so_far.bytes so_far.taken;
  }

-- a buffer that was written from its front to its end
pub written_over : (size : ℕ) (buf rest : List ℕ) → length buf ≡ size → take size (buf ++ rest) ≡ buf
written_over size buf rest is = subst (λ (n : ℕ). take n (buf ++ rest) ≡ buf) is (take-append_seam buf rest)

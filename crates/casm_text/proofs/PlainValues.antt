-- What the offsets and numbers of a plain statement stand for.
use mir.Syntax.{w16}
use mir.Val.{SFits}
use Rattle.casm_text.specs.Words.{offset_value}
use Rattle.casm_text.specs.Working.Rendering.{plain_offset}
use Rattle.casm_text.proofs.Decimals.{decimal_value}
use Rattle.std.proofs.Common.{◌≡◌, ℕ, zero, suc, ℤ, pos, negsuc, refl, ap, arith}
use Rattle.std.specs.Prelude.{neg_ℤ}

pub plain_offset_value : (k : ℤ) → SFits w16 k → offset_value (plain_offset k) ≡ k
plain_offset_value (pos zero) h = refl
plain_offset_value (pos (suc k)) h = ap pos (decimal_value (suc k) (omega arith))
plain_offset_value (negsuc k) h = ap (λ (n : ℕ). neg_ℤ (pos n)) (decimal_value (suc k) (omega arith))

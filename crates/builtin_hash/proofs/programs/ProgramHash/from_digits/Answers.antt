use Rattle.std.proofs.Common.{refl, sym}
use Rattle.hex.proofs.HexLemmas.{IsOk-decode_sized}
use Rattle.builtin_hash.proofs.programs.ProgramHash.from_digits.Goals as goal

pub returns-in-Ok-clause-found : goal.returns-in-Ok-clause-found
returns-in-Ok-clause-found c =
    let digits = IsOk-decode_sized c.args.text.now 32 in
    (λ found. digits.0 (rw (sym c.in-Ok.ensures) refl), λ all. refl)

pub returns-in-Err-clause-found : goal.returns-in-Err-clause-found
returns-in-Err-clause-found c =
    let digits = IsOk-decode_sized c.args.text.now 32 in
    (λ found. absurd (cc), λ all. rw (sym c.in-Err.ensures) at (digits.1 all))

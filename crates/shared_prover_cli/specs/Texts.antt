-- The lines that answer the file of a PIE, and the exit statuses beside them.
use Rattle.std.specs.Prelude.{ℕ, List, [], ◌∷◌, ◌++◌, codes}
use Rattle.cairo_model.specs.Pie.Acceptance.{FactRecord}
use Rattle.cairo_model.specs.Refusals.Verdicts.{Verdict, no_file, not_alone, admitted}
use Rattle.cairo_model.specs.Texts.Facts.{fact_text}
use Rattle.cairo_model.specs.Texts.Refusals.{read_text, replay_text}

abbrev pub admitted_text : FactRecord → List ℕ
admitted_text fact = codes "admitted program " ++ fact_text fact ++ 10 ∷ []

abbrev pub verdict_text : Verdict → List ℕ
verdict_text (no_file refusal) = codes "refused" ++ read_text refusal ++ 10 ∷ []
verdict_text (not_alone cause) = codes "refused" ++ replay_text cause ++ 10 ∷ []
verdict_text (admitted found) = admitted_text found.fact

-- 0 where the PIE is admitted, else 1
abbrev pub verdict_status : Verdict → ℕ
verdict_status (no_file refusal) = 1
verdict_status (not_alone cause) = 1
verdict_status (admitted found) = 0

-- Tasks that are all accepted, each with its acceptance.
use Rattle.std.proofs.Common.{◌≡◌, List, [], ◌∷◌, All, refl, sym, ap, subst}
use Rattle.std.proofs.lemmas.List.Elements.{All-head, All-tail}
use Rattle.cairo_model.specs.Pie.Acceptance.{CheckedRecord}
use Rattle.boot_program.specs.Batch.Parcels.{WithinBatch}
use Rattle.batch_runner.specs.Laws.{IsAccepted, OfEveryBatch}
use Rattle.batch_runner.specs.Working.Tasks.{Task, checked_of}

tasks_of : (ts : List CheckedRecord) → All IsAccepted ts → List Task
tasks_of [] all = []
tasks_of (t ∷ ts) all = record { checked = t; accepted = All-head IsAccepted t ts all } ∷ tasks_of ts (All-tail IsAccepted t ts all)

same_tasks : (ts : List CheckedRecord) (all : All IsAccepted ts) → checked_of (tasks_of ts all) ≡ ts
unfolding tasks_of
same_tasks [] all = refl
same_tasks (t ∷ ts) all = ap (λ (xs : List CheckedRecord). t ∷ xs) (same_tasks ts (All-tail IsAccepted t ts all))

pub of_tasks : (Holds : CheckedRecord → List CheckedRecord → Type 0) → ((t : Task) (ts : List Task) → WithinBatch (checked_of (t ∷ ts)) → Holds t.checked (checked_of ts)) → OfEveryBatch Holds
of_tasks Holds proof t ts all within =
    let others = All-tail IsAccepted t ts all in
    let same = same_tasks ts others in
    subst (λ (xs : List CheckedRecord). Holds t xs) same
    (proof (record { checked = t; accepted = All-head IsAccepted t ts all }) (tasks_of ts others) (subst (λ (xs : List CheckedRecord). WithinBatch (t ∷ xs)) (sym same) within))

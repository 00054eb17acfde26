-- In a batch in order a row is inside one task at most.
use Rattle.std.proofs.Common.{◌≡◌, ℕ, ◌<◌, List, inl, inr, arith}
use Rattle.std.proofs.lemmas.Bool.{cases_lt}
use Rattle.cairo_model.specs.Pie.Acceptance.{CheckedRecord}
use Rattle.cairo_model.specs.Certificate.Records.{CertRecord}
use Rattle.boot_program.specs.Batch.Order.{InOrder, IsInsideTask}

module _ (cert : CertRecord) (tasks : List CheckedRecord) (order : InOrder cert tasks) where
  -- not inside a later one
  not_later : (i j row : ℕ) → IsInsideTask cert tasks i row → IsInsideTask cert tasks j row → i < j → ⊥
  not_later i j row here there lt =
      let before = order.after_others i j row there.mark lt here there.is_mark in
      let from = there.from in
      omega (arith, before, from)

  pub one_task : (i j row : ℕ) → IsInsideTask cert tasks i row → IsInsideTask cert tasks j row → i ≡ j
  one_task i j row here there = elim (cases_lt i j) [
    | inl lt ↦ absurd (not_later i j row here there lt)
    | inr far ↦ elim (cases_lt j i) [
      | inl lt ↦ absurd (not_later j i row there here lt)
      | inr near ↦ omega (arith, far, near)
    ]
  ]

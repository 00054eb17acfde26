-- Which rule the fields of a line break first.
use Rattle.std.proofs.Common.{ℕ, ◌<◌, List, arith}
use Rattle.desk_script.specs.Scripts.{FieldsKeep, kind_number}
use Rattle.desk_script.specs.declared.kinds.ScriptKind.{ScriptKind}
use Rattle.desk_script.specs.declared.kinds.ScriptKind.TheVariants as kind

-- the fields break this rule, and none before it
pub record FieldsBreak (clients : ℕ) (fields : List (List ℕ)) (broken : ScriptKind) : Type 0 where
  pub breaks : ¬ FieldsKeep clients fields broken
  pub keeps_before : (other : ScriptKind) → kind_number other < kind_number broken → FieldsKeep clients fields other

module _ (clients : ℕ) (fields : List (List ℕ)) where
  until : (limit : ℕ) → (2 < limit → FieldsKeep clients fields kind.Verb) → (3 < limit → FieldsKeep clients fields kind.Fields) → (4 < limit → FieldsKeep clients fields kind.Client)
      → (5 < limit → FieldsKeep clients fields kind.Hex) → (6 < limit → FieldsKeep clients fields kind.Number) → (other : ScriptKind) → kind_number other < limit → FieldsKeep clients fields other
  until limit v f c h n kind.NoEnd below = tt
  until limit v f c h n kind.Verb below = v below
  until limit v f c h n kind.Fields below = f below
  until limit v f c h n kind.Client below = c below
  until limit v f c h n kind.Hex below = h below
  until limit v f c h n kind.Number below = n below
  until limit v f c h n kind.TooMany below = tt

  pub all_kept : FieldsKeep clients fields kind.Verb → FieldsKeep clients fields kind.Fields → FieldsKeep clients fields kind.Client → FieldsKeep clients fields kind.Hex → FieldsKeep clients fields kind.Number
      → (other : ScriptKind) → FieldsKeep clients fields other
  all_kept v f c h n kind.NoEnd = tt
  all_kept v f c h n kind.Verb = v
  all_kept v f c h n kind.Fields = f
  all_kept v f c h n kind.Client = c
  all_kept v f c h n kind.Hex = h
  all_kept v f c h n kind.Number = n
  all_kept v f c h n kind.TooMany = tt

  pub breaks_verb : ¬ FieldsKeep clients fields kind.Verb → FieldsBreak clients fields kind.Verb
  breaks_verb fault = record { breaks = fault; keeps_before = until 2 (λ b. absurd (omega arith)) (λ b. absurd (omega arith)) (λ b. absurd (omega arith)) (λ b. absurd (omega arith)) (λ b. absurd (omega arith)) }

  pub breaks_fields : FieldsKeep clients fields kind.Verb → ¬ FieldsKeep clients fields kind.Fields → FieldsBreak clients fields kind.Fields
  breaks_fields v fault = record { breaks = fault; keeps_before = until 3 (λ b. v) (λ b. absurd (omega arith)) (λ b. absurd (omega arith)) (λ b. absurd (omega arith)) (λ b. absurd (omega arith)) }

  pub breaks_client : FieldsKeep clients fields kind.Verb → FieldsKeep clients fields kind.Fields → ¬ FieldsKeep clients fields kind.Client → FieldsBreak clients fields kind.Client
  breaks_client v f fault = record { breaks = fault; keeps_before = until 4 (λ b. v) (λ b. f) (λ b. absurd (omega arith)) (λ b. absurd (omega arith)) (λ b. absurd (omega arith)) }

  pub breaks_hex : FieldsKeep clients fields kind.Verb → FieldsKeep clients fields kind.Fields → FieldsKeep clients fields kind.Client → ¬ FieldsKeep clients fields kind.Hex → FieldsBreak clients fields kind.Hex
  breaks_hex v f c fault = record { breaks = fault; keeps_before = until 5 (λ b. v) (λ b. f) (λ b. c) (λ b. absurd (omega arith)) (λ b. absurd (omega arith)) }

  pub breaks_number : FieldsKeep clients fields kind.Verb → FieldsKeep clients fields kind.Fields → FieldsKeep clients fields kind.Client → FieldsKeep clients fields kind.Hex → ¬ FieldsKeep clients fields kind.Number
      → FieldsBreak clients fields kind.Number
  breaks_number v f c h fault = record { breaks = fault; keeps_before = until 6 (λ b. v) (λ b. f) (λ b. c) (λ b. h) (λ b. absurd (omega arith)) }

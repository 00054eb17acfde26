-- Laws of the machine.
use Rattle.std.specs.Prelude.{ℕ, ◌≡◌, ◌↔◌, List, Option, Some}
use Rattle.std.specs.List.{Contains}
use Rattle.cairo_model.specs.Machine.FieldMemories.{FieldCell, AddressesRise, cell_at}
use Rattle.cairo_model.specs.Machine.Runs.{RunsByStates, RunsByParts}
use Rattle.cairo_model.specs.Machine.Steps.{Arithmetic, Registers, field_arithmetic, value_arithmetic, Step, StepFaultOf, Moves, Transition}
use Rattle.cairo_model.specs.declared.fault.StepFault.TheVariants.{Res, Jump, Frame}

-- the computed step and the rule say the same
abbrev pub Agree : {V : Type 0} → Arithmetic V → Type 0
Agree {V} A = (m : V → Option V) (s t : Registers V) → Step A m s t ↔ Moves A m s t

abbrev pub FormsAgree : Type 0
FormsAgree = Agree field_arithmetic × Agree value_arithmetic

-- over the field these three faults never come
pub record NeverInField (m : ℕ → Option ℕ) (s : Registers ℕ) : Type 0 where
  pub res : ¬ StepFaultOf field_arithmetic m s Res
  pub jump : ¬ StepFaultOf field_arithmetic m s Jump
  pub frame : ¬ StepFaultOf field_arithmetic m s Frame

-- so does the rule with its fields by number
abbrev pub RuleAgrees : {V : Type 0} → Arithmetic V → Type 0
RuleAgrees {V} A = (m : V → Option V) (s t : Registers V) → Step A m s t ↔ Transition A m s t

abbrev pub RulesAgree : Type 0
RulesAgree = RuleAgrees field_arithmetic × RuleAgrees value_arithmetic

-- the two forms of a run, over both arithmetics
abbrev pub RunsAreStates : Type 0
RunsAreStates = RunsByStates field_arithmetic × RunsByStates value_arithmetic

abbrev pub RunsAreParts : Type 0
RunsAreParts = RunsByParts field_arithmetic × RunsByParts value_arithmetic

-- where addresses rise, a look-up finds a value exactly where its cell stands
abbrev pub LooksUp : Type 0
LooksUp = (cells : List FieldCell) → AddressesRise cells → (a v : ℕ) → (cell_at cells a ≡ Some v) ↔ Contains cells (a, v)

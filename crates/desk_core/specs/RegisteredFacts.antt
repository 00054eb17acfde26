-- The registry of a desk, by its registered batches.
use Rattle.std.specs.Prelude.{◌≡◌, ◌↔◌, ℕ, List, [], Any, Contains}
use Rattle.cairo_model.specs.Pie.Acceptance.{FactRecord}
use Rattle.fact_registry.specs.Registries.{with_facts}
use Rattle.desk_core.specs.Desks.{PlainDesk, phase_at, jobs_at, shown_facts}
use Rattle.cairo_model.specs.Pie.Facts.{fact_of}
use Rattle.desk_core.specs.SoundDesks.{IsSound}
use Rattle.desk_core.specs.declared.phase.Phase.TheVariants as phase

-- the facts of the registered batches' jobs in order of registration, each where it comes first
abbrev pub registry_of : PlainDesk → List FactRecord
registry_of d = with_facts [] (shown_facts d)

-- it is the fact of some job in a registered batch
abbrev pub IsShown : PlainDesk → FactRecord → Type 0
IsShown d fact = (b : ℕ) × ((phase_at d b ≡ phase.Registered) × Any (λ j. fact_of j.pie ≡ fact) (jobs_at d b))

abbrev pub RegistryLaw : Type 0
RegistryLaw = (d : PlainDesk) → IsSound d → (fact : FactRecord) → Contains (registry_of d) fact ↔ IsShown d fact

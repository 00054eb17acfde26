-- What an accepted certificate has: a state, and the cells of its output span.
use Rattle.std.proofs.Common.{◌≡◌, IfOk, Result, Ok, Err, true, Option, None, is_some, option_map, ℕ, ◌+◌, ◌-◌, ◌<◌, ◌≤◌, List, [], ◌∷◌, ◌++◌, length, slice_index, Some, inl, inr, refl, sym, ap, ◌∙◌, arith}
use Rattle.std.proofs.lemmas.Bool.{cases_lt}
use Rattle.std.proofs.lemmas.List.{get_or_append_left, get_or_push, length-append}
use Rattle.cairo_model.specs.Machine.FieldMemories.{FieldCell, cell_at}
use Rattle.cairo_model.specs.Machine.Steps.{Registers, RunsTo, field_arithmetic}
use Rattle.cairo_model.specs.Certificate.Acceptance.{MachineAccepts, SpanHolds}
use Rattle.cairo_model.specs.Certificate.Records.{CertRecord}

-- one more cell of a span
pub holds_more : (cells : List FieldCell) (start address : ℕ) (numbers : List ℕ) (v : ℕ) → start ≤ address → SpanHolds cells (record { start = start; stop = address }) numbers → cell_at cells address ≡ Some v
    → SpanHolds cells (record { start = start; stop = address + 1 }) (numbers ++ v ∷ [])
holds_more cells start address numbers v above holds there = record {
  count = omega (arith, length-append numbers (v ∷ []), holds.count);
  each = λ i lt. elim (cases_lt i (address - start)) [
    | inl before ↦ holds.each i before ∙ ap Some (sym (get_or_append_left numbers (v ∷ []) 0 i (omega (arith, holds.count))))
    | inr past ↦ last_cell i (omega arith)
  ];
}
  where
    last_cell : (i : ℕ) → i ≡ address - start → cell_at cells (start + i) ≡ Some (slice_index (numbers ++ v ∷ []) i)
    last_cell i is =
        let here : start + i ≡ address = omega arith in
        ap (cell_at cells) here ∙ there ∙ ap Some (sym (get_or_push numbers v 0 i (omega (arith, holds.count))))

-- what is there before a map is there after it, and the other way round
pub mapped_there : {A B : Type 0} (f : A → B) (o : Option A) → is_some (option_map f o) ≡ true → is_some o ≡ true
mapped_there f None e = e
mapped_there f (Some x) e = refl

pub is_there : {A : Type 0} (o : Option A) (x : A) → o ≡ Some x → is_some o ≡ true
is_there o x e = rw e refl

starts_somewhere : (m : ℕ → Option ℕ) (s t : Registers ℕ) (states : List (Registers ℕ)) → RunsTo field_arithmetic m s states t → 0 < length states
starts_somewhere m s t [] run = absurd run
starts_somewhere m s t (u ∷ us) run = omega arith

-- what is accepted has a state
pub has_state : (cert : CertRecord) → MachineAccepts cert → 0 < length cert.states
has_state cert accepts = starts_somewhere (cell_at cert.cells) accepts.first accepts.last cert.states accepts.runs

-- what follows from what an answer without a refusal keeps
pub under_ok : {A E : Type 0} (P Q : A → Type 0) (result : Result A E) → ((x : A) → P x → Q x) → IfOk result P → IfOk result Q
under_ok P Q (Ok x) follows kept = follows x kept
under_ok P Q (Err e) follows kept = kept

-- What is read off a task's cells and states is what its acceptance says.
use Rattle.std.proofs.Common.{◌≡◌, ℕ, zero, suc, ◌+◌, ◌<◌, List, [], ◌∷◌, length, slice_index, Option, Some, unwrap_or, option_map, refl, sym, ap, ◌∙◌, arith}
use Rattle.std.proofs.lemmas.Grind.{same_number_lists}
use Rattle.builtin_hash.specs.Programs.{program_hash_of}
use Rattle.cairo_model.specs.Machine.Values.{Datum, number}
use Rattle.cairo_model.specs.Machine.Steps.{Registers, value_arithmetic, RunsTo}
use Rattle.cairo_model.specs.Pie.Records.{MemoryCell, value_at}
use Rattle.batch_runner.specs.Working.Tasks.{Task}
use Rattle.batch_runner.specs.Layout.{code_from, code_of, last_ap, plain_number, size}

length_code : (cells : List MemoryCell) (i n : ℕ) → length (code_from cells i n) ≡ n
unfolding code_from
length_code cells i zero = refl
length_code cells i (suc n) = ap suc (length_code cells (suc i) n)

code_index : (cells : List MemoryCell) (i n k : ℕ) → k < n → slice_index (code_from cells i n) k ≡ unwrap_or (option_map plain_number (value_at cells 0 (i + k))) 0
unfolding code_from
code_index cells i zero k lt = absurd (omega (arith, lt))
code_index cells i (suc n) zero lt = ap (λ x. unwrap_or (option_map plain_number (value_at cells 0 x)) 0) (omega arith)
code_index cells i (suc n) (suc k) lt = code_index cells (suc i) n k (omega (arith, lt)) ∙ ap (λ x. unwrap_or (option_map plain_number (value_at cells 0 x)) 0) (shift i k)
  where
    shift : (i k : ℕ) → suc i + k ≡ i + suc k
    shift i k = omega arith

pub code_count : (t : Task) → length (code_of t.checked) ≡ size t.checked 0
code_count t = length_code t.checked.pie.cells 0 (size t.checked 0)

code_is : (t : Task) (k : ℕ) → k < size t.checked 0 → slice_index (code_of t.checked) k ≡ slice_index t.accepted.shows.code k
code_is t k lt = code_index t.checked.pie.cells 0 (size t.checked 0) k lt
    ∙ ap (λ x. unwrap_or (option_map plain_number (value_at t.checked.pie.cells 0 x)) 0) (omega arith)
    ∙ ap (λ (o : Option Datum). unwrap_or (option_map plain_number o) 0) (t.accepted.shows.has_code.each k lt)

pub code_each : (t : Task) (k : ℕ) → k < size t.checked 0 → value_at t.checked.pie.cells 0 k ≡ Some (number (slice_index (code_of t.checked) k))
code_each t k lt = t.accepted.shows.has_code.each k lt ∙ ap (λ x. Some (number x)) (sym (code_is t k lt))

code_same : (t : Task) → t.accepted.shows.code ≡ code_of t.checked
code_same t =
    let n = code_count t in
    let c = t.accepted.shows.has_code.count in
    same_number_lists t.accepted.shows.code (code_of t.checked) (c ∙ sym n) (λ k lt. sym (code_is t k (omega (arith, lt, c))))

pub program_is : (t : Task) → t.checked.fact.program ≡ program_hash_of t.checked.pie.main 7 (code_of t.checked)
program_is t = t.accepted.shows.is_program ∙ ap (program_hash_of t.checked.pie.main 7) (code_same t)

pub last_is : (m : Datum → Option Datum) (s e : Registers Datum) (ss : List (Registers Datum)) → RunsTo value_arithmetic m s ss e → last_ap ss ≡ e.ap
last_is m s e [] none = absurd none
last_is m s e (u ∷ us) run = ap (λ (x : Registers Datum). x.ap) run.1.1

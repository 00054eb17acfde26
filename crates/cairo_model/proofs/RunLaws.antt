-- A run is told by its start and its length.
use Rattle.std.proofs.Common.{◌≡◌, ℕ, ◌<◌, List, [], ◌∷◌, ◌++◌, length, get_or, Option, Some, Result, Ok, Err, refl, sym, ap, ◌∙◌, subst, arith}
use Rattle.std.proofs.lemmas.List.{ext_get_or}
use Rattle.cairo_model.specs.Machine.Values.{Datum, number}
use Rattle.cairo_model.specs.Machine.Steps.{Arithmetic, Registers, next, Step, RunFrom, RunsTo, last_of}
use Rattle.cairo_model.specs.Pie.Records.{MemoryCell, PieRecord, segment_size}
use Rattle.cairo_model.specs.Pie.Acceptance.{HoldsNumbers, IsolatedRun, AcceptedWith, FactRecord, IsFactOf}
use Rattle.cairo_model.specs.Segments.{builtin_mask, program_segment, output_segment}
use Rattle.cairo_model.proofs.RunParts.{runs_join, ends_join}
use Rattle.builtin_hash.specs.Programs.{program_hash_of}
use Rattle.cairo_model.specs.declared.fault.StepFault.{StepFault}

ok_is : {A E : Type 0} (x y : A) → ◌≡◌ {A = Result A E} (Ok x) (Ok y) → x ≡ y
ok_is x y e = cc

not_both : {A E R : Type 0} (x : A) (e : E) → ◌≡◌ {A = Result A E} (Ok x) (Err e) → R
not_both x e same = absurd (cc)

module _ {V : Type 0} (A : Arithmetic V) (m : V → Option V) where
  -- one step leads to one state
  same_next : (s u v : Registers V) → next A m s ≡ Ok u → next A m s ≡ Ok v → u ≡ v
  same_next s u v first second = ok_is u v (sym first ∙ second)

  same_rest : (s : Registers V) (us vs : List (Registers V)) → RunFrom A m s us → RunFrom A m s vs → length us ≡ length vs → us ≡ vs
  same_rest s [] [] run other count = refl
  same_rest s [] (v ∷ vs) run other count = absurd (omega arith)
  same_rest s (u ∷ us) [] run other count = absurd (omega arith)
  same_rest s (u ∷ us) (v ∷ vs) run other count =
      let same : u ≡ v = same_next s u v run.0 other.0 in
      let rest : us ≡ vs = same_rest u us vs run.1 (subst (λ (r : Registers V). RunFrom A m r vs) (sym same) other.1) (omega arith) in
      cc

  pub same_runs : (s : Registers V) (us : List (Registers V)) (t : Registers V) (vs : List (Registers V)) (w : Registers V) → RunsTo A m s us t → RunsTo A m s vs w → length us ≡ length vs → (us ≡ vs) × (t ≡ w)
  same_runs s [] t vs w run other count = absurd run
  same_runs s (u ∷ us) t [] w run other count = absurd other
  same_runs s (u ∷ us) t (v ∷ vs) w run other count =
      let same : u ≡ v = run.0 ∙ sym other.0 in
      let rest : us ≡ vs = same_rest u us vs run.1.0 (subst (λ (r : Registers V). RunFrom A m r vs) (sym same) other.1.0) (omega arith) in
      let ends : last_of u us ≡ last_of v vs = ap (λ (r : Registers V). last_of r us) same ∙ ap (λ (rs : List (Registers V)). last_of v rs) rest in
      (cc, sym run.1.1 ∙ ends ∙ other.1.1)

  -- where a run can't go on, no run from the same state is longer
  pub no_longer : (s : Registers V) (us vs : List (Registers V)) (d : StepFault) → RunFrom A m s us → next A m (last_of s us) ≡ Err d → RunFrom A m s vs → length us < length vs → ⊥
  no_longer s us [] d run fails other longer = omega arith
  no_longer s [] (v ∷ vs) d run fails other longer = not_both v d (sym other.0 ∙ fails)
  no_longer s (u ∷ us) (v ∷ vs) d run fails other longer =
      let same : u ≡ v = same_next s u v run.0 other.0 in
      no_longer u us vs d run.1 fails (subst (λ (r : Registers V). RunFrom A m r vs) (sym same) other.1) (omega arith)

  pub no_longer_run : (s : Registers V) (us : List (Registers V)) (t : Registers V) (vs : List (Registers V)) (w : Registers V) (d : StepFault) → RunsTo A m s us t → next A m t ≡ Err d → RunsTo A m s vs w → length us < length vs → ⊥
  no_longer_run s [] t vs w d run fails other longer = run
  no_longer_run s (u ∷ us) t [] w d run fails other longer = other
  no_longer_run s (u ∷ us) t (v ∷ vs) w d run fails other longer =
      let same : u ≡ v = run.0 ∙ sym other.0 in
      no_longer u us vs d run.1.0 (subst (λ (r : Registers V). next A m r ≡ Err d) (sym run.1.1) fails) (subst (λ (r : Registers V). RunFrom A m r vs) (sym same) other.1.0) (omega arith)

-- a run goes on by one step
module _ {V : Type 0} (A : Arithmetic V) (m : V → Option V) where
  pub runs_on : (s : Registers V) (ss : List (Registers V)) (t u : Registers V) → RunsTo A m s ss t → Step A m t u → RunsTo A m s (ss ++ (u ∷ [])) u
  runs_on s [] t u none step = absurd none
  runs_on s (v ∷ vs) t u run step =
      (run.0, (runs_join A m v vs (u ∷ []) run.1.0 (subst (λ (x : Registers V). Step A m x u) (sym run.1.1) step, tt), ends_join A m v vs (u ∷ [])))

pub one_isolated_run : (pie : PieRecord) (us vs : List (Registers Datum)) → IsolatedRun pie us → IsolatedRun pie vs → us ≡ vs
one_isolated_run pie us vs run other = (same_runs _ _ _ us run.last vs other.last run.runs other.runs (omega (arith, run.count, other.count))).0

number_is : (a b : ℕ) → Some (number a) ≡ Some (number b) → a ≡ b
number_is a b e = cc

-- the numbers of a segment are told by the segment
pub one_content : (cells : List MemoryCell) (segment size : ℕ) (xs ys : List ℕ) → HoldsNumbers cells segment size xs → HoldsNumbers cells segment size ys → xs ≡ ys
one_content cells segment size xs ys holds other =
    ext_get_or 0 xs ys (omega (arith, holds.count, other.count)) (λ i lt.
    let inside : i < size = omega (arith, holds.count) in
    number_is (get_or xs i 0) (get_or ys i 0) (sym (holds.each i inside) ∙ other.each i inside))

abbrev fact_with : List ℕ → List ℕ → FactRecord
fact_with program outputs = record { program = program; outputs = outputs }

-- a PIE has one fact
pub one_fact : (pie : PieRecord) (f g : FactRecord) → IsFactOf pie f → IsFactOf pie g → f ≡ g
one_fact pie f g is other =
    let code : is.code ≡ other.code = one_content pie.cells program_segment (segment_size pie program_segment) is.code other.code is.has_code other.has_code in
    let program : f.program ≡ g.program = is.is_program ∙ ap (λ (c : List ℕ). program_hash_of pie.main builtin_mask c) code ∙ sym other.is_program in
    let outputs : f.outputs ≡ g.outputs = one_content pie.cells output_segment (segment_size pie output_segment) f.outputs g.outputs is.has_outputs other.has_outputs in
    ap (λ (p : List ℕ). fact_with p f.outputs) program ∙ ap (fact_with g.program) outputs

pub one_acceptance : (pie : PieRecord) (f g : FactRecord) (us vs : List (Registers Datum)) → AcceptedWith pie f us → AcceptedWith pie g vs → (f ≡ g) × (us ≡ vs)
one_acceptance pie f g us vs accepted other = (one_fact pie f g accepted.shows other.shows, one_isolated_run pie us vs accepted.isolated other.isolated)

-- Each step of the runner keeps what a memory keeps, and its registers stay in the seven segments.
use Rattle.std.proofs.Common.{◌≡◌, ℕ, ◌-◌, ◌/◌, ◌%◌, ◌^◌, ◌==◌, ◌&&◌, nat_le, nat_lt, option_map, List, [], ◌∷◌, slice_index, Option, Some, None, Result, Ok, Err, refl, ap, subst, arith}
use Rattle.builtin_hash.proofs.InstanceLemmas.{AreWords-instance_of}
use Rattle.std.specs.List.{list_all}
use Rattle.builtin_hash.specs.Instances.{cells_per_instance, input_numbers, input_words, instance_of}
use Rattle.cairo_word.specs.Word.{Fields, instruction_size}
use Rattle.goldi_field.specs.Numbers.{IsFelt}
use Rattle.cairo_model.proofs.Chains.{required_gives}
use Rattle.cairo_model.proofs.Finding.{option_map_gives}
use Rattle.cairo_model.proofs.NumberTests.{pick}
use Rattle.cairo_model.proofs.Outcomes.{and_then_gives, bind_gives, ok_is, some_is, tested, then_gives}
use Rattle.cairo_model.proofs.RunsStay.{end_in, states_stay, values_stay}
use Rattle.cairo_model.specs.Machine.Steps.{Registers, ◌>>=◌, required, register_in, value_arithmetic, after, next}
use Rattle.cairo_model.specs.Machine.Values.{Datum, number, place, Sum, Difference, Product}
use Rattle.cairo_model.specs.Pie.Records.{IsValueIn}
use Rattle.cairo_model.specs.Pie.Staying.{AreIn}
use Rattle.cairo_model.specs.declared.fault.StepFault.{StepFault}
use Rattle.cairo_model.specs.declared.fault.StepFault.TheVariants.{Dst, Op0}
use Rattle.seg_runner.proofs.Quotients.{quotient_lies}
use Rattle.seg_runner.proofs.Sound.{IsSound, LiesIn, absent_keeps}
use Rattle.seg_runner.specs.Deductions.{Quotient, quotient_of, by_hash, by_assertion, caller_frame, deduced_dst, deduced_op0, deduced_op1, put_asserted, return_address}
use Rattle.seg_runner.specs.Hashes.{digest_of, hash_output, inputs_of, inputs_per_instance, output_word, outputs_of}
use Rattle.seg_runner.specs.Memories.{GrowingMemory, put_where_absent}
use Rattle.seg_runner.specs.Refusals.{RunCause, unknown_cell, faulty}
use Rattle.seg_runner.specs.Steps.{Configuration, concluded, consistent, fetched_fields, op1_at, operand_at, refused_at, run_step, with_first_puts, with_last_puts}

-- ---- what the rules give lies in the segments

words_lie : (words numbers : List ℕ) (k : ℕ) → IsFelt (slice_index (instance_of words numbers) k)
words_lie words numbers k = let small = (AreWords-instance_of words numbers).fit k in omega arith

pub outputs_lie : (cells : Datum → Option Datum) (i : ℕ) (words : List ℕ) (k : ℕ) → outputs_of cells i ≡ Some words → IsFelt (slice_index words k)
unfolding outputs_of
outputs_lie cells i words k e =
    and_then_gives (inputs_of cells i) digest_of words e (λ inputs there given.
    let made = instance_of (input_words inputs) (input_numbers inputs) in
    then_gives (list_all (λ n. nat_lt n (2 ^ 32)) (input_words inputs)) (Some made) words given (λ valid is.
    subst (λ (ws : List ℕ). IsFelt (slice_index ws k)) (some_is made words is) (words_lie (input_words inputs) (input_numbers inputs) k)))

hash_lies : (cells : Datum → Option Datum) (s o : ℕ) → LiesIn (hash_output cells s o)
unfolding hash_output
hash_lies cells s o v e =
    let i = o / cells_per_instance in
    let k = o % cells_per_instance - inputs_per_instance in
    let give : List ℕ → Datum = λ words. output_word words k in
    then_gives (s == 4 && nat_le inputs_per_instance (o % cells_per_instance)) (option_map give (outputs_of cells i)) v e (λ is_output given.
    option_map_gives give (outputs_of cells i) v given (λ words are is. subst (IsValueIn 7) is (outputs_lie cells i words k are)))

pub by_hash_lies : (m : GrowingMemory) (at : Datum) → LiesIn (by_hash m at)
by_hash_lies m (number a) v e = absurd (cc)
by_hash_lies m (place s o) v e = hash_lies m.cells s o v e

size_lies : (f : Fields) → IsFelt (instruction_size f)
size_lies f = pick IsFelt (f.op1_src == 1) 2 1 (λ e. omega arith) (λ e. omega arith)

return_lies : (f : Fields) (s : Registers Datum) → AreIn 7 s → LiesIn (return_address f s)
return_lies f s are v e =
    then_gives (f.opcode == 1) (after value_arithmetic f s) v e (λ call back. (values_stay 7).sums s.pc (number (instruction_size f)) v are.pc (size_lies f) back)

caller_lies : (f : Fields) (s : Registers Datum) → AreIn 7 s → LiesIn (caller_frame f s)
caller_lies f s are v e = then_gives (f.opcode == 1) (Some s.fp) v e (λ call is. subst (IsValueIn 7) (some_is s.fp v is) are.fp)

quotients_lie : (a b v : Datum) → Quotient a b ≡ Some v → IsValueIn 7 v
quotients_lie (number a) (number b) v e = option_map_gives number (quotient_of a b) v e (λ q is same. subst (IsValueIn 7) same (quotient_lies a b q is))
quotients_lie (number a) (place s o) v e = absurd (cc)
quotients_lie (place s o) (number b) v e = absurd (cc)
quotients_lie (place s o) (place t q) v e = absurd (cc)

op0_lies : (f : Fields) (dst op1 : Datum) → IsValueIn 7 dst → IsValueIn 7 op1 → LiesIn (deduced_op0 f dst op1)
op0_lies f dst op1 g h v e =
    tested (f.res_logic == 1) (Difference dst op1) _ (Some v) e
    (λ _ is. (values_stay 7).differences dst op1 v g h is)
    (λ _ rest. then_gives (f.res_logic == 2) (Quotient dst op1) v rest (λ _ is. quotients_lie dst op1 v is))

op1_lies : (f : Fields) (dst op0 : Datum) → IsValueIn 7 dst → IsValueIn 7 op0 → LiesIn (deduced_op1 f dst op0)
op1_lies f dst op0 g h v e =
    tested (f.res_logic == 0) (Some dst) _ (Some v) e
    (λ _ is. subst (IsValueIn 7) (some_is dst v is) g)
    (λ _ rest. tested (f.res_logic == 1) (Difference dst op0) (Quotient dst op0) (Some v) rest
    (λ _ is. (values_stay 7).differences dst op0 v g h is)
    (λ _ is. quotients_lie dst op0 v is))

dst_lies : (f : Fields) (op0 op1 : Datum) → IsValueIn 7 op0 → IsValueIn 7 op1 → LiesIn (deduced_dst f op0 op1)
dst_lies f op0 op1 g h v e =
    tested (f.pc_update == 4) (Some op1) _ (Some v) e
    (λ _ is. subst (IsValueIn 7) (some_is op1 v is) h)
    (λ _ rest. tested (f.res_logic == 0) (Some op1) _ (Some v) rest
    (λ _ is. subst (IsValueIn 7) (some_is op1 v is) h)
    (λ _ more. tested (f.res_logic == 1) (Sum op0 op1) (Product op0 op1) (Some v) more
    (λ _ is. (values_stay 7).sums op0 op1 v g h is)
    (λ _ is. (values_stay 7).products op0 op1 v g h is)))

-- ---- an assertion

asserted_keeps : (words : List ℕ) (n : ℕ) (m : GrowingMemory) (f : Fields) (x y z : Datum) (dst op0 op1 : Option Datum) (after : GrowingMemory)
    → IsSound words m → LiesIn dst → LiesIn op0 → LiesIn op1 → put_asserted n m f x y z dst op0 op1 ≡ Ok after → IsSound words after
asserted_keeps words n m f x y z (Some d) None (Some b) after sound g h i e = absent_keeps words n m y _ after sound (op0_lies f d b (g d refl) (i b refl)) e
asserted_keeps words n m f x y z (Some d) (Some a) None after sound g h i e = absent_keeps words n m z _ after sound (op1_lies f d a (g d refl) (h a refl)) e
asserted_keeps words n m f x y z None (Some a) (Some b) after sound g h i e = absent_keeps words n m x _ after sound (dst_lies f a b (h a refl) (i b refl)) e
asserted_keeps words n m f x y z (Some d) (Some a) (Some b) after sound g h i e = subst (IsSound words) (ok_is m after e) sound
asserted_keeps words n m f x y z (Some d) None None after sound g h i e = subst (IsSound words) (ok_is m after e) sound
asserted_keeps words n m f x y z None None (Some b) after sound g h i e = subst (IsSound words) (ok_is m after e) sound
asserted_keeps words n m f x y z None (Some a) None after sound g h i e = subst (IsSound words) (ok_is m after e) sound
asserted_keeps words n m f x y z None None None after sound g h i e = subst (IsSound words) (ok_is m after e) sound

assertion_keeps : (words : List ℕ) (n : ℕ) (m : GrowingMemory) (f : Fields) (x y z : Datum) (after : GrowingMemory) → IsSound words m → by_assertion n m f x y z ≡ Ok after → IsSound words after
unfolding by_assertion
assertion_keeps words n m f x y z after sound e =
    tested (f.opcode == 4) (put_asserted n m f x y z (m.cells x) (m.cells y) (m.cells z)) (Ok m) (Ok after) e
    (λ _ put. asserted_keeps words n m f x y z (m.cells x) (m.cells y) (m.cells z) after sound (sound.values x) (sound.values y) (sound.values z) put)
    (λ _ same. subst (IsSound words) (ok_is m after same) sound)

-- ---- the parts of a step

first_keeps : (words : List ℕ) (n : ℕ) (m : GrowingMemory) (f : Fields) (s : Registers Datum) (x y : Datum) (after : GrowingMemory) → IsSound words m → AreIn 7 s → with_first_puts n m f s x y ≡ Ok after → IsSound words after
unfolding with_first_puts
first_keeps words n m f s x y after sound are e =
    bind_gives (put_where_absent n m x (by_hash m x)) _ after e (λ a is_a e.
    let sound_a = absent_keeps words n m x (by_hash m x) a sound (by_hash_lies m x) is_a in
    bind_gives (put_where_absent n a y (by_hash a y)) _ after e (λ b is_b e.
    let sound_b = absent_keeps words n a y (by_hash a y) b sound_a (by_hash_lies a y) is_b in
    bind_gives (put_where_absent n b y (return_address f s)) _ after e (λ c is_c e.
    let sound_c = absent_keeps words n b y (return_address f s) c sound_b (return_lies f s are) is_c in
    absent_keeps words n c x (caller_frame f s) after sound_c (caller_lies f s are) e)))

last_keeps : (words : List ℕ) (n : ℕ) (m : GrowingMemory) (f : Fields) (x y z : Datum) (after : GrowingMemory) → IsSound words m → with_last_puts n m f x y z ≡ Ok after → IsSound words after
unfolding with_last_puts
last_keeps words n m f x y z after sound e =
    bind_gives (put_where_absent n m z (by_hash m z)) _ after e (λ a is_a e.
    let sound_a = absent_keeps words n m z (by_hash m z) a sound (by_hash_lies m z) is_a in
    assertion_keeps words n a f x y z after sound_a e)

was_ok : {R : Type 0} (n : ℕ) (r : Result (Registers Datum) StepFault) (t : Registers Datum) → refused_at n r ≡ Ok t → (r ≡ Ok t → R) → R
was_ok n (Ok s) t e go = go (ap Ok (ok_is s t e))
was_ok n (Err fault) t e go = absurd (cc)

-- the transition that a step ends with
pub concluded_by : (n : ℕ) (m : GrowingMemory) (f : Fields) (s : Registers Datum) (x y z : Datum) (t : Registers Datum) → concluded n m f s x y z ≡ Ok t → next value_arithmetic m.cells s ≡ Ok t
unfolding concluded
concluded_by n m f s x y z t e =
    required_gives (unknown_cell n) (m.cells x) _ t e (λ dst has_dst e.
    required_gives (unknown_cell n) (m.cells y) _ t e (λ op0 has_op0 e.
    required_gives (unknown_cell n) (m.cells z) _ t e (λ op1 has_op1 e.
    bind_gives (consistent n f dst op0 op1) _ t e (λ holds is e.
    was_ok n (next value_arithmetic m.cells s) t e (λ is. is)))))

stays : (m : GrowingMemory) (s t : Registers Datum) (words : List ℕ) → IsSound words m → AreIn 7 s → next value_arithmetic m.cells s ≡ Ok t → AreIn 7 t
stays m s t words sound are step =
    end_in value_arithmetic (AreIn 7) m.cells s t (s ∷ t ∷ []) (refl, ((step, tt), refl)) (states_stay 7 m.cells sound.values s t (s ∷ t ∷ []) are (refl, ((step, tt), refl)))

-- a configuration whose memory is sound and whose registers lie in the segments
pub record IsGood (words : List ℕ) (now : Configuration) : Type 0 where
  pub memory : IsSound words now.memory
  pub registers : AreIn 7 now.registers

-- the rest of a step, from one of its parts on
module _ (n : ℕ) (now : Configuration) (f : Fields) where
  abbrev pub from_op1 : Datum → Datum → GrowingMemory → Datum → Result Configuration RunCause
  from_op1 dst op0 first op1 =
      with_last_puts n first f dst op0 op1 >>= λ last.
      concluded n last f now.registers dst op0 op1 >>= λ registers.
      Ok (record { memory = last; registers = registers })

  abbrev pub from_puts : Datum → Datum → GrowingMemory → Result Configuration RunCause
  from_puts dst op0 first = op1_at n first f now.registers op0 >>= from_op1 dst op0 first

  abbrev pub from_op0 : Datum → Datum → Result Configuration RunCause
  from_op0 dst op0 = with_first_puts n now.memory f now.registers dst op0 >>= from_puts dst op0

  abbrev pub from_dst : Datum → Result Configuration RunCause
  from_dst dst = required (faulty n Op0) (operand_at (register_in now.registers f.op0_reg) f.off_op0) >>= from_op0 dst

  abbrev pub from_fields : Result Configuration RunCause
  from_fields = required (faulty n Dst) (operand_at (register_in now.registers f.dst_reg) f.off_dst) >>= from_dst

pub step_keeps : (words : List ℕ) (n : ℕ) (now after : Configuration) → IsGood words now → run_step n now ≡ Ok after → IsGood words after
unfolding run_step
step_keeps words n now after good e =
    bind_gives (fetched_fields n now) (λ f. from_fields n now f) after e (λ f is_f e.
    required_gives (faulty n Dst) (operand_at (register_in now.registers f.dst_reg) f.off_dst) (from_dst n now f) after e (λ dst is_dst e.
    required_gives (faulty n Op0) (operand_at (register_in now.registers f.op0_reg) f.off_op0) (from_op0 n now f dst) after e (λ op0 is_op0 e.
    bind_gives (with_first_puts n now.memory f now.registers dst op0) (from_puts n now f dst op0) after e (λ first is_first e.
    let sound = first_keeps words n now.memory f now.registers dst op0 first good.memory good.registers is_first in
    bind_gives (op1_at n first f now.registers op0) (from_op1 n now f dst op0 first) after e (λ op1 is_op1 e.
    bind_gives (with_last_puts n first f dst op0 op1) _ after e (λ last is_last e.
    let kept = last_keeps words n first f dst op0 op1 last sound is_last in
    bind_gives (concluded n last f now.registers dst op0 op1) _ after e (λ t is_t e.
    let made : Configuration = record { memory = last; registers = t } in
    subst (IsGood words) (ok_is made after e)
    (record { memory = kept; registers = stays last now.registers t words kept good.registers (concluded_by n last f now.registers dst op0 op1 t is_t) }))))))))

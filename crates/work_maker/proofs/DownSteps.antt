-- The steps of DOWN over a memory that has it.
use Rattle.std.proofs.Common.{◌≡◌, ℕ, zero, suc, ◌+◌, ◌^◌, ◌<◌, ◌==◌, false, ℤ, pos, negsuc, Option, Some, refl, ap, ◌∙◌, arith}
use Rattle.std.specs.Prelude.{option_and_then}
use Rattle.std.proofs.lemmas.Bool.{lt-ltb}
use Rattle.cairo_word.specs.Word.{Fields}
use Rattle.cairo_word.specs.declared.word.Reg.{Reg}
use Rattle.cairo_word.specs.declared.word.Reg.TheVariants.{Ap, Fp}
use Rattle.goldi_field.specs.Numbers.{sum_of, difference_of}
use Rattle.cairo_model.specs.Machine.Values.{Datum, number, place, place_at, Difference}
use Rattle.cairo_model.specs.Machine.Steps.{Registers, Step, after, decoded, found, moved, next_pc, offset_number, op1_from, register_in, result_of, value_arithmetic}
use Rattle.cairo_model.specs.Segments.{program_segment, execution_segment, output_segment, range_segment, hash_segment, return_fp_segment, return_pc_segment}
use Rattle.cairo_model.proofs.Inversion.{moved_so, value_exact}
use Rattle.cairo_model.proofs.NumberTests.{is_not}
use Rattle.work_maker.proofs.DownCells.{HasDown}

-- ---- places

-- a place so far on, by an offset of a word
moved_to : (segment from k to : ℕ) → sum_of from k ≡ to → to < 2 ^ 31 → moved value_arithmetic (place segment from) k ≡ Some (place segment to)
moved_to segment from k to is near =
    let same : place_at segment (sum_of from k) ≡ place_at segment to = ap (place_at segment) is in
    same ∙ rw (lt-ltb to (2 ^ 31) near) refl

found_at : (m : Datum → Option Datum) (segment from to : ℕ) (offset : ℤ) (value : Datum) → sum_of from (offset_number offset) ≡ to → to < 2 ^ 31 → m (place segment to) ≡ Some value
    → found value_arithmetic m (place segment from) offset ≡ Some value
found_at m segment from to offset value is near there = ap (option_and_then m) (moved_to segment from (offset_number offset) to is near) ∙ there

-- the value so many cells below
pub found_below : (m : Datum → Option Datum) (from to below : ℕ) (value : Datum) → to + below ≡ from → from < 2 ^ 31 → m (place execution_segment to) ≡ Some value
    → option_and_then m (Difference (place execution_segment from) (number below)) ≡ Some value
found_below m from to below value is near there =
    let down : sum_of from (difference_of 0 below) ≡ to = omega (arith, is, near) in
    let back : Difference (place execution_segment from) (number below) ≡ Some (place execution_segment to) = moved_to execution_segment from (difference_of 0 below) to down (omega (arith, is, near)) in
    ap (option_and_then m) back ∙ there

-- ---- states

-- a state inside the run, whose frame begins behind five cells
abbrev pub inside : ℕ → ℕ → Registers Datum
inside pc top = record { pc = place program_segment pc; ap = place execution_segment top; fp = place execution_segment 5 }

-- the state in which the run ends
abbrev pub home : ℕ → Registers Datum
home top = record { pc = place return_pc_segment 0; ap = place execution_segment top; fp = place return_fp_segment 0 }

-- ---- a step that puts a value on the stack: [ap] = .., ap++

abbrev put_fields : ℤ → Reg → ℤ → ℕ → ℕ → Fields
put_fields op0_offset op0_from op1_offset op1_source logic = record {
  off_dst = pos 0;
  off_op0 = op0_offset;
  off_op1 = op1_offset;
  dst_reg = Ap;
  op0_reg = op0_from;
  op1_src = op1_source;
  res_logic = logic;
  pc_update = 0;
  ap_update = 2;
  opcode = 4;
}

module _ (m : Datum → Option Datum) where
  abbrev Leads : Registers Datum → Registers Datum → Type 0
  Leads s t = Step value_arithmetic m s t

  put_step : (pc to top word : ℕ) (op0_offset op1_offset : ℤ) (op0_from : Reg) (op1_source logic : ℕ) (op0 op1 value : Datum) → suc top < 2 ^ 31
      → m (place program_segment pc) ≡ Some (number word)
      → decoded word ≡ Some (put_fields op0_offset op0_from op1_offset op1_source logic)
      → m (place execution_segment top) ≡ Some value
      → found value_arithmetic m (register_in (inside pc top) op0_from) op0_offset ≡ Some op0
      → found value_arithmetic m (op1_from (put_fields op0_offset op0_from op1_offset op1_source logic) (inside pc top) op0) op1_offset ≡ Some op1
      → result_of value_arithmetic (put_fields op0_offset op0_from op1_offset op1_source logic) op0 op1 ≡ Some value
      → after value_arithmetic (put_fields op0_offset op0_from op1_offset op1_source logic) (inside pc top) ≡ Some (place program_segment to)
      → Leads (inside pc top) (inside to (suc top))
  put_step pc to top word op0_offset op1_offset op0_from op1_source logic op0 op1 value near fetched decodes put has_op0 has_op1 gives goes =
      moved_so value_arithmetic value_exact m (inside pc top) (inside to (suc top))
      (record {
        cell = number word;
        f = put_fields op0_offset op0_from op1_offset op1_source logic;
        dst = value;
        op0 = op0;
        op1 = op1;
        res = value;
        is_fetched = fetched;
        is_decoded = decodes;
        has_dst = found_at m execution_segment top top (pos 0) value (omega arith) (omega arith) put;
        has_op0 = has_op0;
        has_op1 = has_op1;
        has_result = gives;
        calls = λ e. absurd (omega (arith, e));
        asserts = λ e. refl;
        leads_to = goes;
        allocates = moved_to execution_segment top 1 (suc top) (omega arith) near;
        frames = refl;
      })

-- ---- the jump of a round

-- where a round leads: to the next round, or to the end
abbrev pub head_of : ℕ → ℕ
head_of zero = 12
head_of (suc left) = 6

abbrev jump_fields : Fields
jump_fields = record {
  off_dst = negsuc 0;
  off_op0 = negsuc 0;
  off_op1 = pos 1;
  dst_reg = Ap;
  op0_reg = Fp;
  op1_src = 1;
  res_logic = 0;
  pc_update = 4;
  ap_update = 0;
  opcode = 0;
}

jump_leads : (top left : ℕ) → next_pc value_arithmetic jump_fields (inside 10 top) (number left) (number 0xfffffffefffffffd) (number 0xfffffffefffffffd) ≡ Some (place program_segment (head_of left))
jump_leads top zero = refl
jump_leads top (suc left) =
    let some : (suc left == 0) ≡ false = is_not (suc left) 0 (λ e. omega (arith, e)) in
    rw some refl

-- ---- the steps

module _ (m : Datum → Option Datum) (rounds : ℕ) (has : HasDown m rounds) where
  -- [ap] = 1, ap++; again; [ap] = the rounds, ap++
  pub one_put : Leads m (inside 0 5) (inside 2 6)
  one_put =
      put_step m 0 2 5 0x480680017fff8000 (negsuc 0) (pos 1) Fp 1 0 (place return_pc_segment 0) (number 1) (number 1) (omega arith) (has.code 0 (omega arith)) refl has.stack.0
      (has.frame 4 (omega arith)) (has.code 1 (omega arith)) refl refl

  pub second_put : Leads m (inside 2 6) (inside 4 7)
  second_put =
      put_step m 2 4 6 0x480680017fff8000 (negsuc 0) (pos 1) Fp 1 0 (place return_pc_segment 0) (number 1) (number 1) (omega arith) (has.code 2 (omega arith)) refl has.stack.1.0
      (has.frame 4 (omega arith)) (has.code 3 (omega arith)) refl refl

  pub rounds_put : Leads m (inside 4 7) (inside 6 8)
  rounds_put =
      put_step m 4 6 7 0x480680017fff8000 (negsuc 0) (pos 1) Fp 1 0 (place return_pc_segment 0) (number rounds) (number rounds) (omega arith) (has.code 4 (omega arith)) refl has.stack.1.1.0
      (has.frame 4 (omega arith)) (has.code 5 (omega arith)) refl refl

  -- [ap] = [ap-2], ap++
  pub cell_copied : (top : ℕ) (value : Datum) → suc (suc (suc top)) < 2 ^ 31 → m (place execution_segment top) ≡ Some value → m (place execution_segment (suc (suc top))) ≡ Some value
      → Leads m (inside 6 (suc (suc top))) (inside 7 (suc (suc (suc top))))
  cell_copied top value near from to =
      put_step m 6 7 (suc (suc top)) 0x48127ffe7fff8000 (negsuc 0) (negsuc 1) Fp 4 0 (place return_pc_segment 0) value value near (has.code 6 (omega arith)) refl to
      (has.frame 4 (omega arith)) (found_at m execution_segment (suc (suc top)) top (negsuc 1) value (omega arith) (omega arith) from) refl refl

  -- [ap] = [ap-3], ap++
  pub cell_kept : (top : ℕ) (value : Datum) → suc (suc (suc (suc top))) < 2 ^ 31 → m (place execution_segment top) ≡ Some value → m (place execution_segment (suc (suc (suc top)))) ≡ Some value
      → Leads m (inside 7 (suc (suc (suc top)))) (inside 8 (suc (suc (suc (suc top)))))
  cell_kept top value near from to =
      put_step m 7 8 (suc (suc (suc top))) 0x48127ffd7fff8000 (negsuc 0) (negsuc 2) Fp 4 0 (place return_pc_segment 0) value value near (has.code 7 (omega arith)) refl to
      (has.frame 4 (omega arith)) (found_at m execution_segment (suc (suc (suc top))) top (negsuc 2) value (omega arith) (omega arith) from) refl refl

  -- [ap] = [ap-3] + -1, ap++
  pub one_less : (top left : ℕ) → suc (suc (suc (suc top))) < 2 ^ 31 → left < 2 ^ 31 → m (place execution_segment top) ≡ Some (number (suc left)) → m (place execution_segment (suc (suc (suc top)))) ≡ Some (number left)
      → Leads m (inside 8 (suc (suc (suc top)))) (inside 10 (suc (suc (suc (suc top)))))
  one_less top left near few from to =
      put_step m 8 10 (suc (suc (suc top))) 0x482480017ffd8000 (negsuc 2) (pos 1) Ap 1 1 (number (suc left)) (number 0xffffffff00000000) (number left) near (has.code 8 (omega arith)) refl to
      (found_at m execution_segment (suc (suc (suc top))) top (negsuc 2) (number (suc left)) (omega arith) (omega arith) from) (has.code 9 (omega arith)) less refl
    where
      lower : sum_of (suc left) 0xffffffff00000000 ≡ left
      lower = omega (arith, few)

      less : Some (number (sum_of (suc left) 0xffffffff00000000)) ≡ Some (number left)
      less = ap (λ (k : ℕ). Some (number k)) lower

  -- jmp rel -4 if [ap-1] != 0
  pub jumped : (top left : ℕ) → suc top < 2 ^ 31 → m (place execution_segment top) ≡ Some (number left) → Leads m (inside 10 (suc top)) (inside (head_of left) (suc top))
  jumped top left near tested =
      moved_so value_arithmetic value_exact m (inside 10 (suc top)) (inside (head_of left) (suc top))
      (record {
        cell = number 0x020680017fff7fff;
        f = jump_fields;
        dst = number left;
        op0 = place return_pc_segment 0;
        op1 = number 0xfffffffefffffffd;
        res = number 0xfffffffefffffffd;
        is_fetched = has.code 10 (omega arith);
        is_decoded = refl;
        has_dst = found_at m execution_segment (suc top) top (negsuc 0) (number left) (omega arith) (omega arith) tested;
        has_op0 = has.frame 4 (omega arith);
        has_op1 = has.code 11 (omega arith);
        has_result = refl;
        calls = λ e. absurd (omega (arith, e));
        asserts = λ e. absurd (omega (arith, e));
        leads_to = jump_leads (suc top) left;
        allocates = refl;
        frames = refl;
      })

  -- [ap-3] = [[fp-5]]
  pub output_is : (top : ℕ) → suc (suc (suc top)) < 2 ^ 31 → m (place execution_segment top) ≡ Some (number 1) → Leads m (inside 12 (suc (suc (suc top)))) (inside 13 (suc (suc (suc top))))
  output_is top near stands =
      let s = suc (suc (suc top)) in
      moved_so value_arithmetic value_exact m (inside 12 s) (inside 13 s)
      (record {
        cell = number 0x400280007ffb7ffd;
        f = record {
          off_dst = negsuc 2;
          off_op0 = negsuc 4;
          off_op1 = pos 0;
          dst_reg = Ap;
          op0_reg = Fp;
          op1_src = 0;
          res_logic = 0;
          pc_update = 0;
          ap_update = 0;
          opcode = 4;
        };
        dst = number 1;
        op0 = place output_segment 0;
        op1 = number 1;
        res = number 1;
        is_fetched = has.code 12 (omega arith);
        is_decoded = refl;
        has_dst = found_at m execution_segment s top (negsuc 2) (number 1) (omega arith) (omega arith) stands;
        has_op0 = has.frame 0 (omega arith);
        has_op1 = has.output;
        has_result = refl;
        calls = λ e. absurd (omega (arith, e));
        asserts = λ e. refl;
        leads_to = refl;
        allocates = refl;
        frames = refl;
      })

  -- [ap] = [fp-5] + 1, ap++; [ap] = [fp-4], ap++; [ap] = [fp-3], ap++
  pub output_stops : (top : ℕ) → suc top < 2 ^ 31 → m (place execution_segment top) ≡ Some (place output_segment 1) → Leads m (inside 13 top) (inside 15 (suc top))
  output_stops top near stands =
      put_step m 13 15 top 0x482680017ffb8000 (negsuc 4) (pos 1) Fp 1 1 (place output_segment 0) (number 1) (place output_segment 1) near (has.code 13 (omega arith)) refl stands
      (has.frame 0 (omega arith)) (has.code 14 (omega arith)) refl refl

  pub range_stops : (top : ℕ) → suc top < 2 ^ 31 → m (place execution_segment top) ≡ Some (place range_segment 0) → Leads m (inside 15 top) (inside 16 (suc top))
  range_stops top near stands =
      put_step m 15 16 top 0x480a7ffc7fff8000 (negsuc 0) (negsuc 3) Fp 2 0 (place return_pc_segment 0) (place range_segment 0) (place range_segment 0) near (has.code 15 (omega arith)) refl stands
      (has.frame 4 (omega arith)) (has.frame 1 (omega arith)) refl refl

  pub hash_stops : (top : ℕ) → suc top < 2 ^ 31 → m (place execution_segment top) ≡ Some (place hash_segment 0) → Leads m (inside 16 top) (inside 17 (suc top))
  hash_stops top near stands =
      put_step m 16 17 top 0x480a7ffd7fff8000 (negsuc 0) (negsuc 2) Fp 2 0 (place return_pc_segment 0) (place hash_segment 0) (place hash_segment 0) near (has.code 16 (omega arith)) refl stands
      (has.frame 4 (omega arith)) (has.frame 2 (omega arith)) refl refl

  -- ret
  pub returned : (top : ℕ) → Leads m (inside 17 top) (home top)
  returned top =
      moved_so value_arithmetic value_exact m (inside 17 top) (home top)
      (record {
        cell = number 0x208b7fff7fff7ffe;
        f = record {
          off_dst = negsuc 1;
          off_op0 = negsuc 0;
          off_op1 = negsuc 0;
          dst_reg = Fp;
          op0_reg = Fp;
          op1_src = 2;
          res_logic = 0;
          pc_update = 1;
          ap_update = 0;
          opcode = 2;
        };
        dst = place return_fp_segment 0;
        op0 = place return_pc_segment 0;
        op1 = place return_pc_segment 0;
        res = place return_pc_segment 0;
        is_fetched = has.code 17 (omega arith);
        is_decoded = refl;
        has_dst = has.frame 3 (omega arith);
        has_op0 = has.frame 4 (omega arith);
        has_op1 = has.frame 4 (omega arith);
        has_result = refl;
        calls = λ e. absurd (omega (arith, e));
        asserts = λ e. absurd (omega (arith, e));
        leads_to = refl;
        allocates = refl;
        frames = refl;
      })

-- The bootloader's instructions, statement by statement (docs/BOOTLOADER.md has them as a text with comments).
use Rattle.std.specs.Prelude.{ℕ, suc, ℤ, pos, negsuc, ◌+◌, ◌-◌, ◌==◌, ◌≡◌, map, if◌then◌else◌, List, [], ◌∷◌, ◌++◌, Option, Some, None, option_map}
use Rattle.cairo_word.specs.Word.{Fields, instruction_size}
use Rattle.cairo_word.specs.declared.word.Reg.{Reg}
use Rattle.cairo_word.specs.declared.word.Reg.TheVariants.{Ap, Fp}
use Rattle.cairo_model.specs.Segments.{builtin_mask}
use Rattle.boot_program.specs.Words.{boot_code}
use Rattle.boot_program.specs.Rows.{decoded_at}

-- an instruction: the fields of its word, and the number in its second word where it has one
pub record Instruction : Type 0 where
  pub fields : Fields
  pub number : Option ℕ

-- the instruction that a program has at an address
abbrev pub instruction_of : (ℕ → Option ℕ) → ℕ → Fields → Instruction
instruction_of code address f = record { fields = f; number = if f.op1_src == 1 then code (suc address) else None }

abbrev pub instruction_in : (ℕ → Option ℕ) → ℕ → Option Instruction
instruction_in code address = option_map (instruction_of code address) (decoded_at code address)

-- the addresses of these instructions, the first of them at an address
unfoldable pub addresses_from : ℕ → List Instruction → List ℕ
addresses_from address [] = []
addresses_from address (i ∷ rest) = address ∷ addresses_from (address + instruction_size i.fields) rest

-- the address after them
unfoldable pub address_after : ℕ → List Instruction → ℕ
address_after address [] = address
address_after address (i ∷ rest) = address_after (address + instruction_size i.fields) rest

-- ---- the statements

-- a cell so far from a register
pub record CellName : Type 0 where
  pub register : Reg
  pub offset : ℤ

abbrev pub ap_up : ℕ → CellName
ap_up k = record { register = Ap; offset = pos k }

abbrev pub ap_down : ℕ → CellName
ap_down k = record { register = Ap; offset = negsuc (k - 1) }

abbrev pub fp_up : ℕ → CellName
fp_up k = record { register = Fp; offset = pos k }

abbrev pub fp_down : ℕ → CellName
fp_down k = record { register = Fp; offset = negsuc (k - 1) }

-- an operand that a statement doesn't name is the cell below fp
abbrev pub no_operands : Fields
no_operands = record { off_dst = negsuc 0; off_op0 = negsuc 0; off_op1 = pos 0; dst_reg = Fp; op0_reg = Fp; op1_src = 0; res_logic = 0; pc_update = 0; ap_update = 0; opcode = 0 }

-- where an operand in a cell is counted from
abbrev pub source_of : Reg → ℕ
source_of Fp = 2
source_of Ap = 4

abbrev pub with_target : CellName → Fields → Fields
with_target d f = record f { off_dst = d.offset; dst_reg = d.register }

abbrev pub with_first : CellName → Fields → Fields
with_first c f = record f { off_op0 = c.offset; op0_reg = c.register }

abbrev pub with_second : CellName → Fields → Fields
with_second c f = record f { off_op1 = c.offset; op1_src = source_of c.register }

abbrev pub with_number : Fields → Fields
with_number f = record f { off_op1 = pos 1; op1_src = 1 }

abbrev pub asserts : CellName → Fields
asserts d = record (with_target d no_operands) { opcode = 4 }

abbrev pub of_one_word : Fields → Instruction
of_one_word f = record { fields = f; number = None }

abbrev pub of_two_words : Fields → ℕ → Instruction
of_two_words f n = record { fields = with_number f; number = Some n }

-- D = N
abbrev pub sets : CellName → ℕ → Instruction
sets d n = of_two_words (asserts d) n

-- D = C
abbrev pub copies : CellName → CellName → Instruction
copies d c = of_one_word (with_second c (asserts d))

-- D = [P + k]
abbrev pub reads : CellName → CellName → ℤ → Instruction
reads d p k = of_one_word (record (with_first p (asserts d)) { off_op1 = k })

-- D = C + E
abbrev pub adds : CellName → CellName → CellName → Instruction
adds d c e = of_one_word (record (with_second e (with_first c (asserts d))) { res_logic = 1 })

-- D = C + N
abbrev pub adds_number : CellName → CellName → ℕ → Instruction
adds_number d c n = of_two_words (record (with_first c (asserts d)) { res_logic = 1 }) n

-- D = C * E
abbrev pub multiplies : CellName → CellName → CellName → Instruction
multiplies d c e = of_one_word (record (with_second e (with_first c (asserts d))) { res_logic = 2 })

-- call rel N, call abs C
abbrev pub call_fields : ℕ → Fields
call_fields update = record (with_first (ap_up 1) (with_target (ap_up 0) no_operands)) { pc_update = update; opcode = 1 }

abbrev pub calls_at : ℕ → Instruction
calls_at n = of_two_words (call_fields 2) n

abbrev pub calls : CellName → Instruction
calls c = of_one_word (with_second c (call_fields 1))

-- jmp rel N if D != 0
abbrev pub jumps_if : CellName → ℕ → Instruction
jumps_if d n = of_two_words (record (with_target d no_operands) { pc_update = 4 }) n

-- ret
abbrev pub returns : Instruction
returns = of_one_word (record (with_second (fp_down 1) (with_target (fp_down 2) no_operands)) { pc_update = 1; opcode = 2 })

-- ap += N, ap += C
abbrev pub moves_ap : ℕ → Instruction
moves_ap n = of_two_words (record no_operands { ap_update = 1 }) n

abbrev pub moves_ap_by : CellName → Instruction
moves_ap_by c = of_one_word (with_second c (record no_operands { ap_update = 1 }))

-- .., ap++
abbrev pub then_up : Instruction → Instruction
then_up i = record i { fields = record i.fields { ap_update = 2 } }

-- ---- the listing, stretch by stretch

-- from the entry: the first task's turn is prepared
abbrev pub entry_listing : List Instruction
entry_listing =
    then_up (reads (ap_up 0) (fp_down 5) (pos 0)) ∷
    then_up (adds_number (ap_up 0) (fp_down 5) 1) ∷
    then_up (copies (ap_up 0) (fp_down 4)) ∷
    then_up (copies (ap_up 0) (fp_down 3)) ∷
    []

-- the loop over tasks, and the return at its end
abbrev pub tasks_listing : List Instruction
tasks_listing =
    calls_at 5 ∷
    jumps_if (ap_down 4) 18446744069414584319 ∷
    returns ∷
    []

-- a task: its inputs, and the first hash instance
abbrev pub prologue_listing : List Instruction
prologue_listing =
    sets (fp_up 10) 0 ∷
    sets (fp_up 11) 1 ∷
    sets (fp_up 12) 7 ∷
    adds_number (fp_up 13) (fp_up 2) 4 ∷
    adds (fp_up 14) (fp_up 0) (fp_up 2) ∷
    adds (fp_up 15) (fp_up 0) (fp_up 1) ∷
    multiplies (fp_up 3) (fp_up 3) (fp_up 3) ∷
    multiplies (fp_up 4) (fp_up 4) (fp_up 4) ∷
    adds (fp_up 16) (fp_up 2) (fp_up 3) ∷
    adds (fp_up 17) (fp_up 16) (fp_up 4) ∷
    adds (fp_up 20) (fp_up 17) (fp_up 4) ∷
    reads (fp_up 10) (fp_up 14) (pos 0) ∷
    reads (fp_up 10) (fp_up 14) (pos 1) ∷
    reads (fp_up 10) (fp_up 14) (pos 2) ∷
    reads (fp_up 10) (fp_down 3) (pos 0) ∷
    reads (fp_up 10) (fp_down 3) (pos 1) ∷
    reads (fp_up 10) (fp_down 3) (pos 2) ∷
    reads (fp_up 10) (fp_down 3) (pos 3) ∷
    reads (fp_up 10) (fp_down 3) (pos 4) ∷
    reads (fp_up 10) (fp_down 3) (pos 5) ∷
    reads (fp_up 10) (fp_down 3) (pos 6) ∷
    reads (fp_up 13) (fp_down 3) (pos 7) ∷
    reads (fp_up 11) (fp_down 3) (pos 8) ∷
    reads (fp_up 1) (fp_down 3) (pos 9) ∷
    reads (fp_up 2) (fp_down 3) (pos 10) ∷
    reads (fp_up 12) (fp_down 3) (pos 11) ∷
    adds_number (fp_up 18) (fp_down 3) 20 ∷
    copies (fp_up 19) (fp_up 0) ∷
    moves_ap 21 ∷
    []

-- one hash instance of the code
abbrev pub block_listing : List Instruction
block_listing =
    reads (ap_up 0) (ap_down 3) (negsuc 7) ∷
    reads (ap_up 0) (ap_down 3) (pos 0) ∷
    reads (ap_up 1) (ap_down 3) (negsuc 6) ∷
    reads (ap_up 1) (ap_down 3) (pos 1) ∷
    reads (ap_up 2) (ap_down 3) (negsuc 5) ∷
    reads (ap_up 2) (ap_down 3) (pos 2) ∷
    reads (ap_up 3) (ap_down 3) (negsuc 4) ∷
    reads (ap_up 3) (ap_down 3) (pos 3) ∷
    reads (ap_up 4) (ap_down 3) (negsuc 3) ∷
    reads (ap_up 4) (ap_down 3) (pos 4) ∷
    reads (ap_up 5) (ap_down 3) (negsuc 2) ∷
    reads (ap_up 5) (ap_down 3) (pos 5) ∷
    reads (ap_up 6) (ap_down 3) (negsuc 1) ∷
    reads (ap_up 6) (ap_down 3) (pos 6) ∷
    reads (ap_up 7) (ap_down 3) (negsuc 0) ∷
    reads (ap_up 7) (ap_down 3) (pos 7) ∷
    reads (ap_up 8) (ap_down 2) (pos 0) ∷
    reads (ap_up 8) (ap_down 3) (pos 8) ∷
    reads (ap_up 9) (ap_down 2) (pos 1) ∷
    reads (ap_up 9) (ap_down 3) (pos 9) ∷
    reads (ap_up 10) (ap_down 2) (pos 2) ∷
    reads (ap_up 10) (ap_down 3) (pos 10) ∷
    reads (ap_up 11) (ap_down 2) (pos 3) ∷
    reads (ap_up 11) (ap_down 3) (pos 11) ∷
    adds_number (ap_up 12) (ap_down 3) 20 ∷
    adds_number (ap_up 13) (ap_down 2) 4 ∷
    adds_number (ap_up 14) (ap_down 1) 18446744069414584317 ∷
    moves_ap 15 ∷
    jumps_if (ap_down 1) 18446744069414584289 ∷
    []

-- the header's words, and the frame that the task finds
abbrev pub header_listing : List Instruction
header_listing =
    reads (ap_up 0) (ap_down 3) (negsuc 7) ∷
    reads (ap_up 0) (fp_down 5) (pos 1) ∷
    reads (ap_up 1) (ap_down 3) (negsuc 6) ∷
    reads (ap_up 1) (fp_down 5) (pos 2) ∷
    reads (ap_up 2) (ap_down 3) (negsuc 5) ∷
    reads (ap_up 2) (fp_down 5) (pos 3) ∷
    reads (ap_up 3) (ap_down 3) (negsuc 4) ∷
    reads (ap_up 3) (fp_down 5) (pos 4) ∷
    reads (ap_up 4) (ap_down 3) (negsuc 3) ∷
    reads (ap_up 4) (fp_down 5) (pos 5) ∷
    reads (ap_up 5) (ap_down 3) (negsuc 2) ∷
    reads (ap_up 5) (fp_down 5) (pos 6) ∷
    reads (ap_up 6) (ap_down 3) (negsuc 1) ∷
    reads (ap_up 6) (fp_down 5) (pos 7) ∷
    reads (ap_up 7) (ap_down 3) (negsuc 0) ∷
    reads (ap_up 7) (fp_down 5) (pos 8) ∷
    copies (ap_up 8) (fp_up 0) ∷
    copies (ap_up 9) (fp_up 1) ∷
    copies (ap_up 10) (fp_up 2) ∷
    adds_number (ap_up 11) (fp_down 5) 9 ∷
    copies (ap_up 12) (fp_down 4) ∷
    copies (ap_up 13) (ap_down 3) ∷
    moves_ap 14 ∷
    []

-- the call of the task
abbrev pub call_listing : List Instruction
call_listing =
    calls (fp_up 15) ∷
    []

-- the return of the task: its stops, the header's and the next turn
abbrev pub return_listing : List Instruction
return_listing =
    copies (fp_up 6) (ap_down 3) ∷
    copies (fp_up 7) (ap_down 2) ∷
    copies (fp_up 8) (ap_down 1) ∷
    moves_ap_by (fp_up 5) ∷
    adds (fp_up 6) (fp_down 5) (fp_up 9) ∷
    reads (fp_up 9) (fp_down 5) (pos 0) ∷
    then_up (adds_number (ap_up 0) (fp_down 6) 18446744069414584320) ∷
    then_up (copies (ap_up 0) (fp_up 6)) ∷
    then_up (copies (ap_up 0) (fp_up 7)) ∷
    then_up (copies (ap_up 0) (fp_up 8)) ∷
    returns ∷
    []

abbrev pub boot_listing : List Instruction
boot_listing = entry_listing ++ (tasks_listing ++ (prologue_listing ++ (block_listing ++ (header_listing ++ (call_listing ++ return_listing)))))

-- The program has just these instructions, one after the other between the addresses.
pub record HasInstructions (code : ℕ → Option ℕ) (from to : ℕ) (listing : List Instruction) : Type 0 where
  pub instructions : map (instruction_in code) (addresses_from from listing) ≡ map Some listing
  pub ends : address_after from listing ≡ to

-- the instruction at this address calls the start of a task, and the task's builtins are all of them
abbrev pub IsCallOfTasks : ℕ × ℕ → Type 0
IsCallOfTasks (address, mask) = (instruction_in boot_code address ≡ Some (calls (fp_up 15))) × (mask ≡ builtin_mask)

-- The rules by which a step of the runner gives absent cells a value (docs/RUNNER.md). Each says what it gives; where it
-- is undefined nothing is put.
use Rattle.std.specs.Prelude.{ℕ, ◌==◌, Bool, if◌then◌else◌, zero, suc, Option, Some, None, option_map, Result, Ok}
use Rattle.std.specs.Option.{option_or}
use Rattle.goldi_field.specs.Numbers.{prime, product_of}
use Rattle.cairo_word.specs.Word.{Fields}
use Rattle.cairo_model.specs.Machine.Steps.{Registers, value_arithmetic, after, result_of}
use Rattle.cairo_model.specs.Machine.Values.{Datum, number, place, Difference}
use Rattle.seg_runner.specs.Hashes.{hash_output}
use Rattle.seg_runner.specs.Memories.{GrowingMemory, put_where_absent}
use Rattle.seg_runner.specs.Refusals.{RunCause}

-- ---- quotients

-- the least number below a limit that passes a test
unfoldable pub least_below : (ℕ → Bool) → ℕ → Option ℕ
least_below test zero = None
least_below test (suc n) = option_or (least_below test n) (if test n then Some n else None)

-- the field number whose product with b is a, where b isn't 0
unfoldable pub quotient_of : ℕ → ℕ → Option ℕ
quotient_of a b = if b == 0 then None else least_below (λ q. product_of q b == a) prime

-- the quotient of two values, which both have to be numbers
abbrev pub Quotient : Datum → Datum → Option Datum
Quotient (number a) (number b) = option_map number (quotient_of a b)
Quotient (number a) (place s o) = None
Quotient (place s o) (number b) = None
Quotient (place s o) (place t q) = None

-- ---- the rules

-- an output of the hash builtin, by the inputs of its instance
abbrev pub by_hash : GrowingMemory → Datum → Option Datum
by_hash m (number a) = None
by_hash m (place segment offset) = hash_output m.cells segment offset

-- op0 of a call is the address after it
abbrev pub return_address : Fields → Registers Datum → Option Datum
return_address f s = if f.opcode == 1 then after value_arithmetic f s else None

-- dst of a call is the present frame pointer
abbrev pub caller_frame : Fields → Registers Datum → Option Datum
caller_frame f s = if f.opcode == 1 then Some s.fp else None

-- op0 of an assertion, by dst and op1
abbrev pub deduced_op0 : Fields → Datum → Datum → Option Datum
deduced_op0 f dst op1 = if f.res_logic == 1 then Difference dst op1 else (if f.res_logic == 2 then Quotient dst op1 else None)

-- op1 of an assertion, by dst and op0
abbrev pub deduced_op1 : Fields → Datum → Datum → Option Datum
deduced_op1 f dst op0 = if f.res_logic == 0 then Some dst else (if f.res_logic == 1 then Difference dst op0 else Quotient dst op0)

-- dst of an assertion is its result
abbrev pub deduced_dst : Fields → Datum → Datum → Option Datum
deduced_dst f op0 op1 = result_of value_arithmetic f op0 op1

-- ---- the rules of an assertion, by which of its cells stand: at most one cell is put

abbrev pub put_asserted : ℕ → GrowingMemory → Fields → Datum → Datum → Datum → Option Datum → Option Datum → Option Datum → Result GrowingMemory RunCause
put_asserted n m f at_dst at_op0 at_op1 (Some dst) None (Some op1) = put_where_absent n m at_op0 (deduced_op0 f dst op1)
put_asserted n m f at_dst at_op0 at_op1 (Some dst) (Some op0) None = put_where_absent n m at_op1 (deduced_op1 f dst op0)
put_asserted n m f at_dst at_op0 at_op1 None (Some op0) (Some op1) = put_where_absent n m at_dst (deduced_dst f op0 op1)
put_asserted n m f at_dst at_op0 at_op1 (Some dst) (Some op0) (Some op1) = Ok m
put_asserted n m f at_dst at_op0 at_op1 (Some dst) None None = Ok m
put_asserted n m f at_dst at_op0 at_op1 None None (Some op1) = Ok m
put_asserted n m f at_dst at_op0 at_op1 None (Some op0) None = Ok m
put_asserted n m f at_dst at_op0 at_op1 None None None = Ok m

unfoldable pub by_assertion : ℕ → GrowingMemory → Fields → Datum → Datum → Datum → Result GrowingMemory RunCause
by_assertion n m f at_dst at_op0 at_op1 =
    if f.opcode == 4 then put_asserted n m f at_dst at_op0 at_op1 (m.cells at_dst) (m.cells at_op0) (m.cells at_op1) else Ok m

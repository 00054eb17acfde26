-- The machine's transition from the values of an instruction's cells on: the rest of a step, once it has its operands.
use Rattle.std.specs.Prelude.{Result, Ok}
use Rattle.cairo_word.specs.Word.{Fields}
use Rattle.cairo_model.specs.Machine.Steps.{Registers, value_arithmetic, ◌>>=◌, required, demanded, result_of, next_pc, keeps_call, keeps_assert, next_ap, next_fp}
use Rattle.cairo_model.specs.Machine.Values.{Datum}
use Rattle.cairo_model.specs.declared.fault.StepFault.{StepFault}
use Rattle.cairo_model.specs.declared.fault.StepFault.TheVariants.{Res, Jump, Call, Assert, Frame}

-- the registers after an instruction whose cells hold dst, op0 and op1, or the first fault, as `next` has them
unfoldable pub moved_on : Fields → Registers Datum → Datum → Datum → Datum → Result (Registers Datum) StepFault
moved_on f s dst op0 op1 = do
  res ← required Res (result_of value_arithmetic f op0 op1)
  pc ← required Jump (next_pc value_arithmetic f s dst op1 res)
  call ← demanded Call (keeps_call value_arithmetic f s dst op0)
  assert ← demanded Assert (keeps_assert value_arithmetic f dst res)
  ap ← required Frame (next_ap value_arithmetic f s res)
  fp ← required Frame (next_fp value_arithmetic f s dst)
  Ok (record { pc = pc; ap = ap; fp = fp })

use Rattle.cairo_word.specs.Word.{Fields}
use Rattle.cairo_word.specs.declared.word.Instruction.{Instruction}

-- an instruction's fields
abbrev pub fields : Instruction → Fields
fields i = record {
  off_dst = i.off_dst;
  off_op0 = i.off_op0;
  off_op1 = i.off_op1;
  dst_reg = i.dst_reg;
  op0_reg = i.op0_reg;
  op1_src = i.op1_src;
  res_logic = i.res_logic;
  pc_update = i.pc_update;
  ap_update = i.ap_update;
  opcode = i.opcode;
}

use Rattle.cairo_word.proofs.Spelling.{AreNarrow, Parts, fields_of_parts, parts_of_sum, same_word, sound_word, sum_below, sum_of_parts}
use Rattle.cairo_word.proofs.encoding.encode.Goals as goal
use Rattle.cairo_word.specs.Instructions.{fields}
use Rattle.std.proofs.Common.{sym, ap, ◌∙◌, rules}

parts : goal.After-from-5 → Parts
parts c = record {
  off_dst = c.biased.result;
  off_op0 = c.biased-2.result;
  off_op1 = c.biased-3.result;
  dst_reg = c.register_bit.result;
  op0_reg = c.register_bit-2.result;
  op1_src = c.from.result;
  res_logic = c.from-2.result;
  pc_update = c.from-3.result;
  ap_update = c.from-4.result;
  opcode = c.from-5.result;
}

narrow : (c : goal.After-from-5) → AreNarrow (parts c)
unfolding parts
narrow c = record {
  off_dst = c.biased.ensures.below;
  off_op0 = c.biased-2.ensures.below;
  off_op1 = c.biased-3.ensures.below;
  dst_reg = c.register_bit.ensures.below;
  op0_reg = c.register_bit-2.ensures.below;
  op1_src = search rules;
  res_logic = search rules;
  pc_update = search rules;
  ap_update = search rules;
  opcode = search rules;
}

pub returns-clause-value : goal.returns-clause-value
unfolding parts
returns-clause-value c = ap fields_of_parts (parts_of_sum (parts c) (narrow c)) ∙ search rules

pub returns-clause-sound : goal.returns-clause-sound
unfolding parts
returns-clause-sound c =
    sound_word (sum_of_parts (parts c)) (fields c.args.i.now) (sum_below (parts c) (narrow c)) (returns-clause-value c) c.args.i.now.defined

pub returns-clause-only : goal.returns-clause-only
returns-clause-only c w sound same = same_word w _ sound (returns-clause-sound c) (same ∙ sym (returns-clause-value c))

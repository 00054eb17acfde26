use Rattle.casm_text.proofs.instructions.built.Goals as goal

pub invariant_of-result-clause-defined : goal.invariant_of-result-clause-defined
invariant_of-result-clause-defined c = c.requires.sound

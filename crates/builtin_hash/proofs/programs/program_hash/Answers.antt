use Rattle.std.proofs.Common.{[], ◌∷◌, length, ◌∙◌, ap, sym}
use Rattle.builtin_hash.specs.Instances.{instance_of}
use Rattle.builtin_hash.specs.Chains.{chain_from}
use Rattle.builtin_hash.proofs.ProgramLemmas.{program_hash_of-header}
use Rattle.builtin_hash.proofs.programs.program_hash.Goals as goal

pub returns : goal.returns
returns c =
    let header = c.args.main ∷ length c.args.code.now ∷ c.args.mask ∷ [] in
    let started = ap (λ words. instance_of words (1 ∷ header)) c.started.ensures in
    c.continued-words.ensures
    ∙ ap (λ words. chain_from words c.args.code.now) (c.instance.ensures ∙ started)
    ∙ sym (program_hash_of-header c.args.main c.args.mask c.args.code.now)

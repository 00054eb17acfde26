use Rattle.std.proofs.Common.{◌≡◌, ◌^◌, Bool, true, nat_lt, Some, None, if◌then◌else◌, sym, ap, ap₂, ◌∙◌, rules}
use Rattle.std.specs.List.{list_all}
use Rattle.builtin_hash.specs.Instances.{input_numbers, input_words, instance_of}
use Rattle.seg_runner.proofs.hashes.digest_of.Goals as goal

pub returns : goal.returns
returns c =
    let inputs = c.args.inputs.now in
    let test : list_all (λ n. nat_lt n (2 ^ 32)) (input_words inputs) ≡ true = search rules in
    ap Some (c.instance.ensures ∙ ap₂ instance_of c.eight_words.ensures c.four_numbers.ensures)
    ∙ sym (ap (λ (b : Bool). if b then Some (instance_of (input_words inputs) (input_numbers inputs)) else None) test)

use Rattle.std.proofs.Common.{◌≡◌, ℕ, ◌+◌, ◌*◌, Option, Some, refl, sym, ap, ◌∙◌, arith, rules}
use Rattle.std.proofs.lemmas.List.{length-set, take_all}
use Rattle.seg_memory.specs.Memory.{memory_in}
use Rattle.seg_runner.specs.Hashes.{hashed_number, numbers_from_start}
use Rattle.seg_runner.proofs.Turns.{no_number, numbers_more, numbers_stop}
use Rattle.seg_runner.proofs.hashes.inputs_of.Goals as goal

pub loop-k-init : goal.loop-k-init
loop-k-init c = record { twelve = refl; so_far = no_number (λ k. hashed_number (memory_in c.args.memory.now) (20 * c.args.index + k)) }

pub loop-k-preserved : goal.loop-k-preserved
loop-k-preserved c =
    let there : ℕ → Option ℕ = λ k. hashed_number (memory_in c.args.memory.now) (20 * c.args.index + k) in
    let xs = c.loop-k.numbers in
    let k = c.loop-k.k in
    let twelve = c.loop-k.invariant.twelve in
    record {
      twelve = length-set xs k c.value.result ∙ twelve;
      so_far = numbers_more there k xs c.value.result (omega arith) c.loop-k.invariant.so_far (search rules);
    }

pub returns-in_default : goal.returns-in_default
returns-in_default c =
    let there : ℕ → Option ℕ = λ k. hashed_number (memory_in c.args.memory.now) (20 * c.args.index + k) in
    sym (numbers_stop there c.loop-k.k 12 (omega arith) (search rules))

pub returns : goal.returns
returns c =
    let there : ℕ → Option ℕ = λ k. hashed_number (memory_in c.args.memory.now) (20 * c.args.index + k) in
    let xs = c.loop-k.numbers in
    let twelve = c.loop-k.invariant.twelve in
    let end : c.loop-k.k ≡ 12 = omega arith in
    ap Some (sym (take_all c.loop-k.k xs (omega arith))) ∙ sym c.loop-k.invariant.so_far ∙ ap (numbers_from_start there) end

use Rattle.std.proofs.Common.{◌≡◌, ℕ, List, ◌++◌, IfOk, ap, ap₂, subst, ◌∙◌}
use Rattle.builtin_hash.specs.Chains.{groups_of}
use Rattle.cairo_model.specs.Machine.Addresses.{up}
use Rattle.boot_program.specs.Cells.{TaskInputs, padded_length}
use Rattle.relocator.specs.Working.Lists.{numbers}
use Rattle.batch_runner.specs.Layout.{boot_frame, next_place, output_size}
use Rattle.batch_runner.specs.Memory.{first_words, gap_of, stops_at, turn_values_at}
use Rattle.batch_runner.specs.Working.Turns.{turns_from}
use Rattle.batch_runner.specs.Working.Values.{program_list}
use Rattle.batch_runner.proofs.OwnValues.{own_is}
use Rattle.batch_runner.proofs.values.own_values.Goals as goal

pub returns : goal.returns
returns c =
    let placed = c.args.placed.now in
    let n = turn_values_at placed.task placed.place in
    let turn = c.first_turn.result in
    let inputs = c.inputs_for-inputs.ensures in
    let program = c.first_turn.ensures.code ∙ ap (λ (t : TaskInputs). t.program) inputs in
    let left = c.first_turn.ensures.left ∙ ap padded_length inputs in
    let start = first_words placed.task in
    let words =
    ap₂ (λ (i a : ℕ). turns_from i a turn.left.number c.first_words.result (groups_of c.code.result.now)) c.first_turn.ensures.instance program
    ∙ ap₂ (λ (l : ℕ) (w : List ℕ). turns_from (up placed.place.hash 20) n.task.program l w (groups_of c.code.result.now)) left c.first_words.ensures
    ∙ ap (λ (code : List ℕ). turns_from (up placed.place.hash 20) n.task.program (padded_length n.task) start (groups_of code)) c.code.ensures.value in
    let turns = c.in_ok-turns.ensures ∙ ap₂ (λ (xs ys : List ℕ). xs ++ ys) c.in_ok-head.ensures words in
    let values = c.in_ok-values.ensures ∙ ap₂ (λ (xs ys : List ℕ). xs ++ ys) turns c.digest_of.ensures in
    let same =
    ap₂ (λ (xs : List ℕ) (t : TaskInputs). xs ++ program_list t) values inputs
    ∙ own_is (record { checked = placed.task; accepted = c.code.ensures.accepted }) placed.place boot_frame c.args.left (gap_of placed.task placed.place) (output_size placed.task) (stops_at (next_place placed.task placed.place)) in
    subst (λ (xs : List ℕ). IfOk c.push_program.result (λ out. numbers out.items ≡ xs)) same c.push_program.ensures

use Rattle.std.proofs.Common.{◌≡◌, ℕ, ◌-◌, List, Option, length, sym, ap, ◌∙◌, subst, arith}
use Rattle.std.specs.List.{AllZip}
use Rattle.row_checker.specs.Working.Chunks.{AnswersChunk, AreChunks, first_of}
use Rattle.row_checker.specs.Working.Walks.{IsAnswer, Leads}
use Rattle.row_checker.proofs.Cutting.{answered}
use Rattle.row_checker.proofs.chunks.in_chunks.Goals as goal

pub returns : goal.returns
returns g c = λ rows is.
    let cells = c.args.memory.now in
    let states = c.args.states.now in
    let chunks = c.in_ok-chunks.chunks.items in
    let answers = c.in_ok-answers.answers.items in
    let count : length states - 1 ≡ rows = omega (arith, is) in
    let cut : AreChunks 0 chunks rows = subst (λ (n : ℕ). AreChunks 0 chunks n) count c.in_ok-chunks.ensures in
    let by : AllZip (AnswersChunk cells states) chunks answers =
    subst (λ (cs : List (ℕ × ℕ)). AllZip (AnswersChunk cells states) cs answers) c.as_slice.ensures.value c.in_ok-answers.ensures in
    subst (λ (o : Option ℕ). IsAnswer (Leads cells states) 0 rows o) (sym (c.first_answer.ensures ∙ ap first_of c.as_slice-2.ensures.value))
    (answered cells states 0 chunks answers rows cut (omega (arith, is)) by)

use Rattle.casm_text.proofs.TokenSteps.{Kept, begun_in, few_more, first_tokens, step_on, step_end}
use Rattle.casm_text.proofs.tokens.tokens.Goals.{then-not-goes_on+in_ok-end_token+else-len-gt-MOST_TOKENS, else-not-goes_on}
use Rattle.casm_text.proofs.tokens.tokens.Goals as goal
use Rattle.casm_text.specs.Working.Tokenizing.{most_tokens, tokens_after, whole_token}
use Rattle.std.proofs.Common.{◌≡◌, ℕ, ◌+◌, ◌==◌, List, [], ◌++◌, Vec, Global, Bor, get_or, length, map, take, cond, sym, ap, subst, ◌∙◌, arith, rules}
use Rattle.std.proofs.lemmas.List.{length-map}

abbrev now : Vec (Bor (List ℕ)) Global → List (List ℕ)
now found = map (λ t. t.now) found.items

pub returns-then-len-gt-MOST_TOKENS : goal.returns-then-len-gt-MOST_TOKENS
returns-then-len-gt-MOST_TOKENS c =
    let off = sym c.goes_on.ensures ∙ c.if-not-goes_on.true in
    let next = step_end c.before_comment-code.result.now (now c.loop-i.found) c.loop-i.start c.loop-i.i c.loop-i.invariant.kept c.loop-i-test.true off in
    let found : now c.end_token.new.found ≡ now c.loop-i.found ++ whole_token (begun_in c.before_comment-code.result.now c.loop-i.start c.loop-i.i) = c.in_ok-end_token.ensures in
    let size : c.len.result ≡ length c.end_token.new.found.items = search rules in
    let count : length (now c.loop-i.found ++ whole_token (begun_in c.before_comment-code.result.now c.loop-i.start c.loop-i.i)) ≡ most_tokens + 1 =
    omega (
      arith,
      size,
      c.if-len-gt-MOST_TOKENS.true,
      ap length found,
      length-map c.end_token.new.found.items (λ (t : Bor (List ℕ)). t.now),
      c.loop-i.invariant.few,
      few_more (now c.loop-i.found) (begun_in c.before_comment-code.result.now c.loop-i.start c.loop-i.i),
    ) in
    found
    ∙ (first_tokens (now c.loop-i.found ++ whole_token (begun_in c.before_comment-code.result.now c.loop-i.start c.loop-i.i)) _ (tokens_after [] c.before_comment-code.result.now) next.told count
    ∙ ap (λ (line : List ℕ). take (most_tokens + 1) (tokens_after [] line)) c.before_comment-code.ensures)

pub loop-i-preserved : goal.loop-i-preserved
loop-i-preserved c =
    elim c.if-not-goes_on.branch [
      | then-not-goes_on+in_ok-end_token+else-len-gt-MOST_TOKENS w ↦
          let off = sym c.goes_on.ensures ∙ w.if-not-goes_on.true in
          let next = step_end c.before_comment-code.result.now (now c.loop-i.found) c.loop-i.start c.loop-i.i c.loop-i.invariant.kept c.loop-i-test.true off in
          let found : now c.if-not-goes_on.found ≡ now c.loop-i.found ++ whole_token (begun_in c.before_comment-code.result.now c.loop-i.start c.loop-i.i) = ap now w.found-is ∙ w.in_ok-end_token.ensures in
          let size : w.len.result ≡ length w.end_token.new.found.items = search rules in
          record {
            kept = subst (λ (s : ℕ). Kept c.before_comment-code.result.now (now c.if-not-goes_on.found) s (c.loop-i.i + 1)) (sym (w.start-is ∙ w.next_start-start.ensures))
                (subst (λ (f : List (List ℕ)). Kept c.before_comment-code.result.now f (cond (get_or c.before_comment-code.result.now c.loop-i.i 0 == 32) (c.loop-i.i + 1) c.loop-i.i) (c.loop-i.i + 1))
                (sym found) next);
            few = omega (arith, size, w.if-len-gt-MOST_TOKENS.false, ap length (ap now w.found-is), length-map w.end_token.new.found.items (λ (t : Bor (List ℕ)). t.now));
          }
      | else-not-goes_on w ↦
          let on = sym c.goes_on.ensures ∙ w.if-not-goes_on.false in
          let next = step_on c.before_comment-code.result.now (now c.loop-i.found) c.loop-i.start c.loop-i.i c.loop-i.invariant.kept c.loop-i-test.true on in
          record {
            kept = subst (λ (s : ℕ). Kept c.before_comment-code.result.now (now c.if-not-goes_on.found) s (c.loop-i.i + 1)) (sym w.start-is)
                (subst (λ (f : Vec (Bor (List ℕ)) Global). Kept c.before_comment-code.result.now (now f) c.loop-i.start (c.loop-i.i + 1)) (sym w.found-is) next);
            few = omega (arith, ap length (ap now w.found-is), c.loop-i.invariant.few);
          }
    ]

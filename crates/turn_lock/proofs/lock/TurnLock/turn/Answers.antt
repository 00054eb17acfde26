use Rattle.std.proofs.Common.{◌≡◌, [], ◌+◌, ◌%◌, ◌^◌, ◌++◌, ap, ap₂, sym, subst, ◌∙◌}
use Rattle.turn_lock.specs.Journals.{entries_by, IsAtMostOne}
use Rattle.turn_lock.specs.Views.{raised}
use Rattle.turn_lock.proofs.Logs.{entries_added}
use Rattle.turn_lock.specs.Passes.{Token, Turned}
use Rattle.turn_lock.proofs.lock.TurnLock.turn.Given as given
use Rattle.turn_lock.proofs.lock.TurnLock.turn.Goals as goal

-- the seat after the turn
ended : (g : given.Over) (c : goal.After-serve_next g) → c.serve_next.new.seat.me ≡ (raised c.pass.inside.seat.me.0 (g.V.Kept.journal c.apply-answer.new.value) c.apply-answer.ensures.adds.0, [])
ended g c =
    let after = c.apply-answer.new.value in
    let adds = c.apply-answer.ensures.adds in
    let view = c.put_back.ensures.view ∙ ap (λ m. m.0) c.begin-value.ensures.begun.becomes in
    c.serve_next.ensures.ended after adds.0 c.put_back.ensures.put (adds.1 ∙ ap (λ xs. xs ++ adds.0) (sym (ap (λ v. v.seen) view))) ∙ ap (λ v. (raised v (g.V.Kept.journal after) adds.0, [])) view

pub serve_next-requires-clause-turn : goal.serve_next-requires-clause-turn
serve_next-requires-clause-turn g c =
    let begun = c.begin-value.ensures.begun in
    let adds = c.apply-answer.ensures.adds in
    let view = c.put_back.ensures.view ∙ ap (λ m. m.0) begun.becomes in (
      c.apply-answer.new.value,
      record {
        ticket = begun.ticket;
        added = adds.0;
        turn = ap (λ v. v.stage) view;
        has = c.put_back.ensures.put;
        counts = c.apply-answer.ensures.turns ∙ ap (λ n. (n + 1) % 2 ^ 64) begun.turns_is;
        keeps_width = c.apply-answer.ensures.width ∙ begun.width_is ∙ sym (ap (λ v. v.width) view);
        grows = adds.1 ∙ ap (λ xs. xs ++ adds.0) (sym (ap (λ v. v.seen) view));
        one = subst (λ n. IsAtMostOne n adds.0) (sym (ap (λ v. v.number) view ∙ c.pass.invariant.2)) adds.2;
      },
    )

pub invariant_of-pass : goal.invariant_of-pass
invariant_of-pass g c =
    let end = ended g c in
    let start = c.pass.inside.seat.me.0 in
    let before = c.begin-value.result in
    let begun = c.begin-value.ensures.begun in
    let adds = c.apply-answer.ensures.adds in
    let number = c.pass.inside.number in
    let rest = c.pass.invariant.0 in (
      record { rests = ap (λ m. m.0.stage) end; alone = ap (λ m. m.0.joined) end ∙ rest.alone; quiet = ap (λ m. m.0.heard) end ∙ rest.quiet },
      ap (λ m. m.1) end,
      ap (λ m. m.0.number) end ∙ c.pass.invariant.2,
      ap (entries_by number) (ap (λ m. m.0.seen) end ∙ adds.1)
          ∙ entries_added number (g.V.Kept.journal before) adds.0 start.mine (subst (λ n. entries_by n (g.V.Kept.journal before) ≡ start.mine) c.pass.invariant.2 begun.has_mine) adds.2
          ∙ sym (ap (λ m. m.0.mine) end),
    )

pub returns : goal.returns
returns g c =
    let start = c.pass.inside.seat.me.0 in
    let before = c.begin-value.result in
    let begun = c.begin-value.ensures.begun in
    let adds = c.apply-answer.ensures.adds in
    let number = c.pass.inside.number in
    let last : Token g.row.V-Note.Denot = let m = c.serve_next.new.seat.me.0 in record { lock = c.serve_next.new.seat.table_id; number = number; width = m.width; seen = m.seen; mine = m.mine } in
    subst (λ old. Turned g.V.Kept.journal g.V.Kept.width g.C.Change.does c.args.change old last c.apply-answer.result) c.pass.view_is record {
      before = before;
      after = c.apply-answer.new.value;
      added = adds.0;
      width_is = begun.width_is;
      has_seen = begun.has_seen;
      has_mine = subst (λ n. entries_by n (g.V.Kept.journal before) ≡ start.mine) c.pass.invariant.2 begun.has_mine;
      done = c.apply-answer.ensures.does;
      grows = adds.1;
      one = adds.2;
      becomes = ap₂ (λ z m. record { lock = z; number = number; width = m.0.width; seen = m.0.seen; mine = m.0.mine }) (c.serve_next.ensures.own ∙ c.put_back.ensures.own ∙ c.begin-value.ensures.own) (ended g c);
    }

use denote.Ref.{Bor}
use Rattle.std.proofs.Common.{◌≡◌, ℕ, ◌+◌, ◌^◌, ◌<◌, ◌≤◌, List, [], ◌∷◌, ◌++◌, length, map, Option, Ok, Err, Result, ap, sym, subst, ◌∙◌, arith, rules}
use Rattle.std.proofs.lemmas.List.{length-map, map-append}
use Rattle.cairo_model.specs.declared.end.End.{End}
use Rattle.cairo_model.specs.declared.end.End.TheVariants.{Refused}
use Rattle.std.specs.Vec.Iter.{into_iter_items}
use Rattle.desk_script.specs.Working.Ahead.{AreAhead}
use Rattle.desk_script.specs.Limits.{most_lines}
use Rattle.desk_script.proofs.ReadLines.{Told, told}
use Rattle.desk_script.proofs.Refusing.{fields_found, made_so, no_end_found, refusal_is, too_many_found}
use Rattle.desk_script.proofs.Walks.{Walked, nothing, walk_begins, walk_ends, walk_on}
use Rattle.desk_script.proofs.script.script_of.Goals as goal
use Rattle.desk_script.specs.Lines.{ScriptLine, line_fields}
use Rattle.desk_script.specs.Scripts.{pieces_of}
use Rattle.desk_script.specs.Views.{line_view}
use Rattle.desk_script.specs.Working.Reading.{parts_left, read_line}
use Rattle.desk_script.specs.declared.kinds.ScriptKind.{ScriptKind}
use Rattle.desk_script.specs.declared.kinds.ScriptKind.TheVariants as kind
use Rattle.desk_script.specs.declared.line.Line.{Line}

pub loop-left-init : goal.loop-left-init
loop-left-init c =
    record {
      walked = subst (λ (lines : List Line). Walked c.args.clients c.args.bytes.now (map line_view lines) c.args.bytes.now) (sym c.new-lines.ensures.items) (walk_begins c.args.clients c.args.bytes.now);
      ahead = subst (λ (read : List (Result Line (End ScriptKind))). AreAhead c.args.clients read (pieces_of c.args.bytes.now)) (sym c.into_iter-ahead.ensures.rest) c.requires.ahead;
    }

pub next_line-requires : goal.next_line-requires
next_line-requires c =
    let cut : pieces_of c.loop-left.left.now ≡ c.cut.result.0.now ∷ pieces_of c.in-Some.after.now = c.cut.ensures ∙ ap (λ (left : Option (Bor (List ℕ))). c.cut.result.0.now ∷ parts_left 10 left) c.in-Some.is in
    record { ahead = (pieces_of c.in-Some.after.now, subst (AreAhead c.args.clients (into_iter_items c.loop-left.ahead)) cut c.loop-left.invariant.ahead) }

pub returns-in_default-clause-refused : goal.returns-in_default-clause-refused
returns-in_default-clause-refused c =
    λ r same.
    let count : c.len.result ≡ length c.loop-left.lines.items = search rules in
    let before : c.len.result ≡ length (map line_view c.loop-left.lines.items) = count ∙ sym (length-map c.loop-left.lines.items line_view) in
    let some : 0 < length c.loop-left.left.now = search rules in
    no_end_found c.args.clients c.args.bytes.now (map line_view c.loop-left.lines.items) c.loop-left.left.now c.cut.result.0.now r c.loop-left.invariant.walked
    (λ none. absurd (omega (arith, some, ap length none)))
    (c.cut.ensures ∙ ap (λ (left : Option (Bor (List ℕ))). c.cut.result.0.now ∷ parts_left 10 left) c.in_default.is)
    (refusal_is c.refused.result r _ same c.refused.ensures ∙ made_so c.len.result (length (map line_view c.loop-left.lines.items)) kind.NoEnd before)

pub returns-in-Err-Refused-clause-refused : goal.returns-in-Err-Refused-clause-refused
returns-in-Err-Refused-clause-refused c =
    λ r same.
    let count : c.len-in-Err-Refused.result ≡ length c.loop-left.lines.items = search rules in
    let before : c.len-in-Err-Refused.result ≡ length (map line_view c.loop-left.lines.items) = count ∙ sym (length-map c.loop-left.lines.items line_view) in
    let few : c.args.clients ≤ 2 ^ 64 = search rules in
    let read : read_line c.args.clients (line_fields c.cut.result.0.now) ≡ Err c.in-Err-Refused.kind = search rules in
    let made : c.refused-in-Err-Refused.result ≡ Refused (record { line = c.len-in-Err-Refused.result + 1; kind = c.in-Err-Refused.kind }) = search rules in
    fields_found c.args.clients c.args.bytes.now (map line_view c.loop-left.lines.items) c.loop-left.left.now c.cut.result.0.now c.in-Some.after.now c.in-Err-Refused.kind r c.loop-left.invariant.walked
    (c.cut.ensures ∙ ap (λ (left : Option (Bor (List ℕ))). c.cut.result.0.now ∷ parts_left 10 left) c.in-Some.is)
    (subst (Told c.args.clients (line_fields c.cut.result.0.now)) read (told c.args.clients few (line_fields c.cut.result.0.now)))
    (refusal_is c.refused-in-Err-Refused.result r _ same made ∙ made_so c.len-in-Err-Refused.result (length (map line_view c.loop-left.lines.items)) c.in-Err-Refused.kind before)

pub returns-then-len-ge-MOST_LINES-clause-refused : goal.returns-then-len-ge-MOST_LINES-clause-refused
returns-then-len-ge-MOST_LINES-clause-refused c =
    λ r same.
    let count : c.len-then-len-ge-MOST_LINES.result ≡ length c.loop-left.lines.items = search rules in
    let before : c.len-then-len-ge-MOST_LINES.result ≡ length (map line_view c.loop-left.lines.items) = count ∙ sym (length-map c.loop-left.lines.items line_view) in
    let few : c.args.clients ≤ 2 ^ 64 = search rules in
    let full : most_lines ≤ length c.loop-left.lines.items = search rules in
    let read : read_line c.args.clients (line_fields c.cut.result.0.now) ≡ Ok (line_view c.in-Ok.line) = search rules in
    too_many_found c.args.clients c.args.bytes.now (map line_view c.loop-left.lines.items) c.loop-left.left.now c.cut.result.0.now c.in-Some.after.now r c.loop-left.invariant.walked
    (c.cut.ensures ∙ ap (λ (left : Option (Bor (List ℕ))). c.cut.result.0.now ∷ parts_left 10 left) c.in-Some.is)
    (subst (Told c.args.clients (line_fields c.cut.result.0.now)) read (told c.args.clients few (line_fields c.cut.result.0.now))).1
    (omega (arith, full, length-map c.loop-left.lines.items line_view))
    (refusal_is c.refused-then-len-ge-MOST_LINES.result r _ same c.refused-then-len-ge-MOST_LINES.ensures ∙ made_so c.len-then-len-ge-MOST_LINES.result (length (map line_view c.loop-left.lines.items)) kind.TooMany before)

pub loop-left-preserved : goal.loop-left-preserved
loop-left-preserved c =
    let few : c.args.clients ≤ 2 ^ 64 = search rules in
    let room : length c.loop-left.lines.items < most_lines = search rules in
    let read : read_line c.args.clients (line_fields c.cut.result.0.now) ≡ Ok (line_view c.in-Ok.line) = search rules in
    let pushed : c.push.new.self.items ≡ c.loop-left.lines.items ++ c.in-Ok.line ∷ [] = search rules in
    let both = subst (Told c.args.clients (line_fields c.cut.result.0.now)) read (told c.args.clients few (line_fields c.cut.result.0.now)) in
    let lines : map line_view c.push.new.self.items ≡ map line_view c.loop-left.lines.items ++ line_view c.in-Ok.line ∷ [] = ap (map line_view) pushed ∙ map-append line_view c.loop-left.lines.items (c.in-Ok.line ∷ []) in
    let cut : pieces_of c.loop-left.left.now ≡ c.cut.result.0.now ∷ pieces_of c.in-Some.after.now = c.cut.ensures ∙ ap (λ (left : Option (Bor (List ℕ))). c.cut.result.0.now ∷ parts_left 10 left) c.in-Some.is in
    record {
      walked = subst (λ (ls : List ScriptLine). Walked c.args.clients c.args.bytes.now ls c.in-Some.after.now) (sym lines)
          (walk_on c.args.clients c.args.bytes.now (map line_view c.loop-left.lines.items) c.loop-left.left.now c.cut.result.0.now c.in-Some.after.now (line_view c.in-Ok.line) c.loop-left.invariant.walked
          cut both.0 both.1 (omega (arith, room, length-map c.loop-left.lines.items line_view)));
      ahead = c.next_line.ensures.ahead (pieces_of c.in-Some.after.now) (subst (AreAhead c.args.clients (into_iter_items c.loop-left.ahead)) cut c.loop-left.invariant.ahead);
    }

pub returns-clause-script : goal.returns-clause-script
returns-clause-script c =
    let none : length c.loop-left.left.now ≡ 0 = search rules in
    walk_ends c.args.clients c.args.bytes.now (map line_view c.loop-left.lines.items) c.loop-left.left.now c.loop-left.invariant.walked (nothing c.loop-left.left.now none)

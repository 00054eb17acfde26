use Rattle.std.proofs.Common.{◌<◌, ◌++◌, [], ◌∷◌, length, map, ◌∙◌, ap, ap₂, sym, arith}
use Rattle.std.specs.Int.{w32, to_be_bytes}
use Rattle.std.proofs.Math.ListN.{length-set}
use Rattle.std.proofs.lemmas.List.{map-append, take_more, take_more_set, take_all}
use Rattle.builtin_hash.proofs.programs.word_bytes.Goals as goal

pub loop-place-preserved : goal.loop-place-preserved
loop-place-preserved c =
    let pieces = c.loop-place.pieces in
    let inside : c.loop-place.place < length pieces = omega arith in
    let in_words : c.loop-place.place < length c.args.words.now = omega arith in
    let words = take_more c.args.words.now c.loop-place.place 0 in_words in (
      length-set pieces c.loop-place.place c.to_be_bytes.result ∙ c.loop-place.invariant.0,
      take_more_set pieces c.loop-place.place c.to_be_bytes.result inside
          ∙ ap₂ (λ done piece. done ++ piece ∷ []) c.loop-place.invariant.1 c.to_be_bytes.ensures
          ∙ sym (ap (map (to_be_bytes w32)) words ∙ map-append _ _ _),
    )

pub returns : goal.returns
returns c =
    sym (take_all c.loop-place.place c.loop-place.pieces (omega arith)) ∙ c.loop-place.invariant.1
    ∙ ap (map (to_be_bytes w32)) (take_all c.loop-place.place c.args.words.now (omega arith))

use Rattle.std.proofs.Common.{◌≡◌, ◌≤◌, ℕ, List, length, subst, sym, ap, ◌∙◌}
use Rattle.serde_json.specs.Data.{Data, depth}
use Rattle.serde_json.specs.View.{view}
use Rattle.serde_json.specs.Written.{has_float, compact_text}
use Rattle.pie_format.specs.Writing.{metadata_text}
use Rattle.pie_format.specs.Working.MetadataData.{metadata_data}
use Rattle.pie_format.proofs.WritingLaws.{no_float, is_shallow, is_metadata, text_written, text_short}
use Rattle.pie_format.proofs.metadata_writing.text_of.Goals as goal

pub returns-clause-text : goal.returns-clause-text
returns-clause-text c =
    let pie = c.args.pie.now in
    let is : view c.in_ok-value.value ≡ metadata_data pie = c.in_ok-value.ensures.value in
    c.in_ok-text.ensures.text (ap has_float is ∙ no_float pie) ∙ ap compact_text is ∙ text_written pie

pub returns-clause-says : goal.returns-clause-says
returns-clause-says c =
    let pie = c.args.pie.now in
    let is : view c.in_ok-value.value ≡ metadata_data pie = c.in_ok-value.ensures.value in
    is_metadata c.in_ok-text.text.items pie (view c.in_ok-value.value) c.in_ok-text.ensures.utf8 is (c.in_ok-text.ensures.reads_back (subst (λ (d : Data). depth d ≤ 127) (sym is) (is_shallow pie)))

pub returns-clause-short : goal.returns-clause-short
returns-clause-short c =
    let pie = c.args.pie.now in
    let is : view c.in_ok-value.value ≡ metadata_data pie = c.in_ok-value.ensures.value in
    let text : c.in_ok-text.text.items ≡ metadata_text pie = c.in_ok-text.ensures.text (ap has_float is ∙ no_float pie) ∙ ap compact_text is ∙ text_written pie in
    subst (λ (t : List ℕ). length t ≤ 600) (sym text) (text_short pie c.requires c.in_ok-value.ensures.main)

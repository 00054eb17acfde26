use Rattle.std.proofs.Common.{rules, ◌≡◌, ℕ, List, Bool, true, false, Some, None, refl, ap}
use Rattle.std.specs.Prelude.{IsUtf8}
use Rattle.std.specs.Str.{is_utf8}
use Rattle.std.proofs.lemmas.Str.{IsUtf8-from_is_utf8, is_utf8-from_IsUtf8}
use Rattle.serde_json.specs.Data.{Data}
use Rattle.serde_json.specs.Read.{read}
use Rattle.serde_json.specs.declared.error.Code.TheVariants.{OutOfMemory}
use Rattle.cairo_model.specs.Pie.Files.{metadata_of}
use Rattle.cairo_model.specs.Machine.Steps.{required}
use Rattle.cairo_model.specs.declared.read_refusal.ReadRefusal.TheVariants.{BadMetadata}
use Rattle.pie_format.specs.Working.Reading.{metadata_in}
use Rattle.pie_format.proofs.metadata.read_metadata.Goals as goal

-- text that is read says what its reading says
says : (text : List ℕ) (d : Data) → IsUtf8 text → read text ≡ Some d → metadata_in text ≡ metadata_of d
says text d is_text is_read = rw (is_utf8-from_IsUtf8 text is_text, is_read) refl

says_nothing : (text : List ℕ) (b : Bool) → is_utf8 text ≡ b → (IsUtf8 text → read text ≡ None) → metadata_in text ≡ None
says_nothing text true e unread = rw (e, unread (IsUtf8-from_is_utf8 text e)) refl
says_nothing text false e unread = rw e refl

pub returns-in-Ok : goal.returns-in-Ok
returns-in-Ok c = rw (says c.args.text.now _ c.in-Ok.ensures.ok.0 c.in-Ok.ensures.ok.1) c.metadata_of_value.ensures

pub returns-in-Err-2 : goal.returns-in-Err-2
returns-in-Err-2 c =
    let other : ¬ (c.in-Err-2.field-0.code ≡ OutOfMemory) = search rules in
    ap (required BadMetadata) (says_nothing c.args.text.now _ refl (c.in-Err-2.ensures.err other))

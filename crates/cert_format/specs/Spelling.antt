-- The bytes of a certificate (docs/CERTIFICATE.md).
use Rattle.std.specs.Prelude.{ℕ, ◌≡◌, List, [], ◌∷◌, ◌++◌, length}
use Rattle.std.specs.Int.{w32, w64, to_be_bytes}
use Rattle.std.specs.List.{flat_map}
use Rattle.cairo_model.specs.Machine.Steps.{Registers}
use Rattle.cairo_model.specs.Machine.FieldMemories.{FieldCell}
use Rattle.cairo_model.specs.Certificate.Records.{CertKind, alone, batch, SpanRecord, MarkRecord, CertRecord, IsCertificate}

-- the letters CCRT64, then 0 and 1
abbrev pub certificate_magic : List ℕ
certificate_magic = 0x43 ∷ 0x43 ∷ 0x52 ∷ 0x54 ∷ 0x36 ∷ 0x34 ∷ 0x00 ∷ 0x01 ∷ []

abbrev pub kind_byte : CertKind → ℕ
kind_byte alone = 0
kind_byte batch = 1

abbrev pub span_bytes : SpanRecord → List ℕ
span_bytes s = to_be_bytes w64 s.start ++ to_be_bytes w64 s.stop

-- how many there are, and each of them
abbrev pub counted_bytes : {A : Type 0} → (A → List ℕ) → List A → List ℕ
counted_bytes bytes items = to_be_bytes w32 (length items) ++ flat_map bytes items

abbrev pub mark_bytes : MarkRecord → List ℕ
mark_bytes m = to_be_bytes w32 m.row ++ counted_bytes (to_be_bytes w64) m.bases

abbrev pub field_cell_bytes : FieldCell → List ℕ
field_cell_bytes c = to_be_bytes w64 c.0 ++ to_be_bytes w64 c.1

abbrev pub state_bytes : Registers ℕ → List ℕ
state_bytes s = to_be_bytes w64 s.pc ++ (to_be_bytes w64 s.ap ++ to_be_bytes w64 s.fp)

-- all behind the kind
abbrev pub body_bytes : CertRecord → List ℕ
body_bytes c = span_bytes c.output ++ (span_bytes c.range ++ (span_bytes c.hash ++ (counted_bytes mark_bytes c.tasks ++ (counted_bytes field_cell_bytes c.cells ++ counted_bytes state_bytes c.states))))

-- the one spelling of a certificate
abbrev pub spelling : CertRecord → List ℕ
spelling c = certificate_magic ++ (kind_byte c.kind ∷ body_bytes c)

-- the bytes are those of this certificate
pub record CertBytes (bytes : List ℕ) (c : CertRecord) : Type 0 where
  pub is_certificate : IsCertificate c
  pub spelled : bytes ≡ spelling c

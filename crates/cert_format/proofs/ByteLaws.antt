-- The bytes of a certificate are bytes.
use Rattle.std.proofs.Common.{ℕ, ◌<◌, List, [], ◌∷◌, ◌++◌, length, arith}
use Rattle.std.specs.Int.{w32, w64, to_be_bytes}
use Rattle.std.specs.List.{flat_map, AllByRecursion}
use Rattle.cairo_model.specs.Certificate.Records.{CertKind, alone, batch, MarkRecord, CertRecord}
use Rattle.cairo_model.specs.Machine.Steps.{Registers}
use Rattle.cairo_model.proofs.Bytes.{IsBytes, IsBytes-append, IsBytes-nil, IsBytes-cons, number_fits}
use Rattle.cert_format.specs.Spelling.{certificate_magic, kind_byte, span_bytes, counted_bytes, mark_bytes, field_cell_bytes, state_bytes, spelling}

two_fit : (a b : ℕ) → IsBytes (to_be_bytes w64 a ++ to_be_bytes w64 b)
two_fit a b = IsBytes-append (to_be_bytes w64 a) (to_be_bytes w64 b) (number_fits w64 a) (number_fits w64 b)

all_fit : {A : Type 0} (bytes : A → List ℕ) (each : (a : A) → IsBytes (bytes a)) (items : List A) → IsBytes (flat_map bytes items)
all_fit bytes each [] = IsBytes-nil
all_fit bytes each (a ∷ items) = IsBytes-append (bytes a) (flat_map bytes items) (each a) (all_fit bytes each items)

counted_fit : {A : Type 0} (bytes : A → List ℕ) (each : (a : A) → IsBytes (bytes a)) (items : List A) → IsBytes (counted_bytes bytes items)
counted_fit bytes each items = IsBytes-append (to_be_bytes w32 (length items)) (flat_map bytes items) (number_fits w32 (length items)) (all_fit bytes each items)

mark_fits : (m : MarkRecord) → IsBytes (mark_bytes m)
mark_fits m = IsBytes-append (to_be_bytes w32 m.row) (counted_bytes (to_be_bytes w64) m.bases) (number_fits w32 m.row) (counted_fit (to_be_bytes w64) (number_fits w64) m.bases)

state_fits : (s : Registers ℕ) → IsBytes (state_bytes s)
state_fits s = IsBytes-append (to_be_bytes w64 s.pc) (to_be_bytes w64 s.ap ++ to_be_bytes w64 s.fp) (number_fits w64 s.pc) (two_fit s.ap s.fp)

kind_fits : (kind : CertKind) → kind_byte kind < 256
kind_fits alone = omega arith
kind_fits batch = omega arith

bytes_fit : (xs : List ℕ) → AllByRecursion (λ b. b < 256) xs → IsBytes xs
bytes_fit [] h = IsBytes-nil
bytes_fit (x ∷ xs) h = IsBytes-cons x xs h.0 (bytes_fit xs h.1)

magic_fits : IsBytes certificate_magic
magic_fits = bytes_fit certificate_magic (omega arith, (omega arith, (omega arith, (omega arith, (omega arith, (omega arith, (omega arith, (omega arith, tt))))))))

pub spelling_fits : (c : CertRecord) → IsBytes (spelling c)
spelling_fits c =
    let b6 = counted_bytes state_bytes c.states in
    let b5 = counted_bytes field_cell_bytes c.cells ++ b6 in
    let b4 = counted_bytes mark_bytes c.tasks ++ b5 in
    let b3 = span_bytes c.hash ++ b4 in
    let b2 = span_bytes c.range ++ b3 in
    let b1 = span_bytes c.output ++ b2 in
    let f5 : IsBytes b5 = IsBytes-append (counted_bytes field_cell_bytes c.cells) b6 (counted_fit field_cell_bytes (λ x. two_fit x.0 x.1) c.cells) (counted_fit state_bytes state_fits c.states) in
    let f4 : IsBytes b4 = IsBytes-append (counted_bytes mark_bytes c.tasks) b5 (counted_fit mark_bytes mark_fits c.tasks) f5 in
    let f3 : IsBytes b3 = IsBytes-append (span_bytes c.hash) b4 (two_fit c.hash.start c.hash.stop) f4 in
    let f2 : IsBytes b2 = IsBytes-append (span_bytes c.range) b3 (two_fit c.range.start c.range.stop) f3 in
    let f1 : IsBytes b1 = IsBytes-append (span_bytes c.output) b2 (two_fit c.output.start c.output.stop) f2 in
    IsBytes-append certificate_magic (kind_byte c.kind ∷ b1) magic_fits (IsBytes-cons (kind_byte c.kind) b1 (kind_fits c.kind) f1)

-- Causes of refusals by their numbers: that none applies before one, and that there is one first cause.
use Rattle.std.proofs.Common.{◌≡◌, ℕ, ◌+◌, ◌<◌, List, length, sum, [], ◌∷◌, get_or, refl, sym, ap, subst, ◌∙◌, arith}
use Rattle.cairo_model.proofs.Firsts as firsts
use Rattle.cairo_model.specs.Refusals.FirstFailing.{IsFirstFailing, NoneBelow}
use Rattle.cairo_model.specs.Pie.Files.{Metadata, IsMetadata}
use Rattle.cairo_model.specs.Refusals.ReadRefusals.{read_number, text_of, cell_count, IsGoodCell, IsReadCause, IsFirstReadCause}
use Rattle.cairo_model.specs.declared.read_refusal.ReadRefusal.{ReadRefusal}
use Rattle.cairo_model.specs.declared.read_refusal.ReadRefusal.TheVariants.{TooLong, BadMagic, Truncated, BadMetadata, BadVersion, BadSizes, TooManySegments, TooLarge, TooManySteps, BadCell, TrailingBytes}
use Rattle.cairo_model.proofs.Outcomes.{some_is}

-- what a refusal names, 0 where it names nothing
abbrev value_of : ReadRefusal → ℕ
value_of (TooLong n) = n
value_of BadMagic = 0
value_of (Truncated n) = n
value_of BadMetadata = 0
value_of (BadVersion v) = v
value_of BadSizes = 0
value_of (TooManySegments k) = k
value_of (TooLarge n) = n
value_of (TooManySteps k) = k
value_of (BadCell i) = i
value_of (TrailingBytes k) = k

-- the refusal of a number from 1 to 11 that names this
abbrev pub refusal : ℕ → ℕ → ReadRefusal
refusal m v = get_or (BadMagic ∷ TooLong v ∷ BadMagic ∷ Truncated v ∷ BadMetadata ∷ BadVersion v ∷ BadSizes ∷ TooManySegments v ∷ TooLarge v ∷ TooManySteps v ∷ BadCell v ∷ TrailingBytes v ∷ []) m BadMagic

again : (r : ReadRefusal) → refusal (read_number r) (value_of r) ≡ r
again (TooLong n) = refl
again BadMagic = refl
again (Truncated n) = refl
again BadMetadata = refl
again (BadVersion v) = refl
again BadSizes = refl
again (TooManySegments k) = refl
again (TooLarge n) = refl
again (TooManySteps k) = refl
again (BadCell i) = refl
again (TrailingBytes k) = refl

-- the numbers begin at 1 and end at 11
in_order : (r : ReadRefusal) → (0 < read_number r) × (read_number r < 12)
in_order (TooLong n) = (omega arith, omega arith)
in_order BadMagic = (omega arith, omega arith)
in_order (Truncated n) = (omega arith, omega arith)
in_order BadMetadata = (omega arith, omega arith)
in_order (BadVersion v) = (omega arith, omega arith)
in_order BadSizes = (omega arith, omega arith)
in_order (TooManySegments k) = (omega arith, omega arith)
in_order (TooLarge n) = (omega arith, omega arith)
in_order (TooManySteps k) = (omega arith, omega arith)
in_order (BadCell i) = (omega arith, omega arith)
in_order (TrailingBytes k) = (omega arith, omega arith)

-- a refusal of this number is one of those above
named : (r : ReadRefusal) (m : ℕ) → read_number r ≡ m → r ≡ refusal m (value_of r)
named r m e = sym (again r) ∙ ap (λ (k : ℕ). refusal k (value_of r)) e

-- ---- that no cause applies

-- none of this number
abbrev pub Absent : List ℕ → ℕ → Type 0
Absent bytes m = (v : ℕ) → ¬ IsReadCause bytes (refusal m v)

-- none of a lower number
abbrev pub Clear : List ℕ → ℕ → Type 0
Clear bytes n = NoneBelow read_number (IsReadCause bytes) n

pub clear_start : (bytes : List ℕ) → Clear bytes 1
clear_start bytes other lt cause = absurd (omega (arith, (in_order other).0))

pub clear_next : (bytes : List ℕ) (m : ℕ) → Clear bytes m → Absent bytes m → Clear bytes (m + 1)
clear_next bytes m clear absent = firsts.none_below_next read_number (IsReadCause bytes) m clear (λ other is.
    λ cause. absent (value_of other) (subst (λ (r : ReadRefusal). IsReadCause bytes r) (named other m is) cause))

pub none_at_all : (bytes : List ℕ) → Clear bytes 12 → (r : ReadRefusal) → ¬ IsReadCause bytes r
none_at_all bytes clear r = clear r (in_order r).1

pub same_first : (bytes : List ℕ) (r s : ReadRefusal) → IsFirstReadCause bytes r → r ≡ s → IsFirstReadCause bytes s
same_first bytes r s h e = subst (λ (q : ReadRefusal). IsFirstReadCause bytes q) e h

-- ---- one first cause

pub one_metadata : (text : List ℕ) (m n : Metadata) → IsMetadata text m → IsMetadata text n → m ≡ n
one_metadata text m n a b = some_is m n (sym a.says ∙ b.says)

-- a cause of the number of a refusal that applies is that refusal
one_value : (bytes : List ℕ) (r : ReadRefusal) (v : ℕ) → IsReadCause bytes r → IsReadCause bytes (refusal (read_number r) v) → r ≡ refusal (read_number r) v
one_value bytes (TooLong n) v a b = ap TooLong (a.0 ∙ sym b.0)
one_value bytes BadMagic v a b = refl
one_value bytes (Truncated n) v a b = ap Truncated (a.0 ∙ sym b.0)
one_value bytes BadMetadata v a b = refl
one_value bytes (BadVersion n) v a b = ap BadVersion (a.1.1.0 ∙ ap (λ (m : Metadata). m.version) (one_metadata (text_of bytes) a.0 b.0 a.1.0 b.1.0) ∙ sym b.1.1.0)
one_value bytes BadSizes v a b = refl
one_value bytes (TooManySegments k) v a b = ap TooManySegments (a.1.1.0 ∙ ap (λ (m : Metadata). length m.sizes) (one_metadata (text_of bytes) a.0 b.0 a.1.0 b.1.0) ∙ sym b.1.1.0)
one_value bytes (TooLarge n) v a b = ap TooLarge (a.1.1.0 ∙ ap (λ (m : Metadata). sum m.sizes) (one_metadata (text_of bytes) a.0 b.0 a.1.0 b.1.0) ∙ sym b.1.1.0)
one_value bytes (TooManySteps k) v a b = ap TooManySteps (a.1.1.0 ∙ ap (λ (m : Metadata). m.steps) (one_metadata (text_of bytes) a.0 b.0 a.1.0 b.1.0) ∙ sym b.1.1.0)
one_value bytes (BadCell i) v a b =
    let same : a.0 ≡ b.0 = one_metadata (text_of bytes) a.0 b.0 a.1.0 b.1.0 in
    let Failing : Metadata → ℕ → Type 0 = λ m k. IsFirstFailing (λ j. j < cell_count bytes) (IsGoodCell m.sizes bytes) k in
    let first : Failing b.0 i = subst (λ (m : Metadata). Failing m i) same a.1.1 in
    ap BadCell (firsts.one_failing (λ j. j < cell_count bytes) (IsGoodCell b.0.sizes bytes) i v first b.1.1)
one_value bytes (TrailingBytes k) v a b = ap TrailingBytes (a.0 ∙ sym b.0)

-- bytes have at most one first cause
pub one_first_read_cause : (bytes : List ℕ) (r s : ReadRefusal) → IsFirstReadCause bytes r → IsFirstReadCause bytes s → r ≡ s
one_first_read_cause bytes = firsts.one_first_cause read_number (IsReadCause bytes) (λ r s same a b.
    let is : s ≡ refusal (read_number r) (value_of s) = named s (read_number r) (sym same) in
    one_value bytes r (value_of s) a (subst (λ (q : ReadRefusal). IsReadCause bytes q) is b) ∙ sym is)

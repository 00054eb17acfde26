-- What a reader keeps while it takes bytes: what was fed is told by what it has read and by the bytes that it carries.
use Rattle.std.specs.Prelude.{ℕ, ◌≡◌, ◌+◌, ◌-◌, ◌^◌, ◌<◌, ◌≤◌, Bool, false, List, ◌++◌, length}
use Rattle.cert_format.specs.declared.stage.Stage.TheVariants.{Front}
use Rattle.cert_format.specs.Feeding.{Partial, ReaderRecord, IsFed, rest_of}
use Rattle.cert_format.specs.Working.Taking.{size_of, IsAwaiting, nothing}

abbrev pub reader_with : Bool → Partial → List ℕ → ReaderRecord
reader_with failed partial carry = record { failed = failed; partial = partial; carry = carry }

-- A part is awaited, the first one only before a byte was taken.
pub record IsReady (p : Partial) : Type 0 where
  pub awaiting : IsAwaiting p.stage
  pub fresh : p.stage ≡ Front → p ≡ nothing

-- The bytes that are carried are not yet the part.
pub record IsWaiting (p : Partial) (carry : List ℕ) : Type 0 where
  pub ready : IsReady p
  pub short : length carry ≤ size_of p.stage - 1

-- Of these bytes all were taken but the rest: what follows means the same.
pub record Goes (p : Partial) (bytes : List ℕ) (q : Partial) (rest : List ℕ) : Type 0 where
  pub ready : IsReady q
  pub many : q.place + length rest ≡ p.place + length bytes
  pub answers : (more : List ℕ) → rest_of p (bytes ++ more) ≡ rest_of q (rest ++ more)

-- And the rest is not yet a part.
pub record Passes (p : Partial) (bytes : List ℕ) (q : Partial) (rest : List ℕ) : Type 0 where
  pub goes : Goes p bytes q rest
  pub short : length rest ≤ size_of q.stage - 1

-- There are bytes that it was fed.
pub record WasFed (r : ReaderRecord) : Type 0 where
  pub waiting : IsWaiting r.partial r.carry
  pub in_all : r.partial.place + length r.carry < 2 ^ 64
  pub bytes : List ℕ
  pub is_fed : IsFed r bytes

abbrev pub HasInside : ReaderRecord → Type 0
HasInside r = r.failed ≡ false → WasFed r

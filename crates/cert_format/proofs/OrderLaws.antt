-- A certificate has no fault of order exactly where its spans are ordered and its addresses rise.
use Rattle.std.proofs.Common.{◌≡◌, ℕ, ◌-◌, Bool, true, false, cond, List, [], ◌∷◌, Option, Some, None, refl, ap, ◌∙◌}
use Rattle.std.proofs.lemmas.Bool.{ltb-false, le-ltb}
use Rattle.cairo_model.specs.Machine.FieldMemories.{FieldCell, addresses}
use Rattle.cairo_model.proofs.Rising.{Chain, rise_of, chain_of}
use Rattle.cairo_model.specs.Working.Keys.{is_after}
use Rattle.cert_format.specs.Reading.{Draft, fallen_at, falls, order_fault}
use Rattle.cert_format.specs.Working.Ordering.{IsOrdered}

-- ---- the tests

-- no fault at true
no_fault_then : {A R : Type 0} (b : Bool) (o : Option A) (p : A) → cond b o (Some p) ≡ None → (b ≡ true → o ≡ None → R) → R
no_fault_then true o p e go = go refl e
no_fault_then false o p e go = absurd (cc)

-- no fault at false
no_fault_else : {A R : Type 0} (b : Bool) (p : A) (o : Option A) → cond b (Some p) o ≡ None → (b ≡ false → o ≡ None → R) → R
no_fault_else true p o e go = absurd (cc)
no_fault_else false p o e go = go refl e

none_fallen : (whole left : ℕ) (before : Option ℕ) (cells : List FieldCell) → fallen_at whole left before cells ≡ None → Chain before (addresses cells)
none_fallen whole left before [] e = tt
none_fallen whole left before (c ∷ cs) e =
    no_fault_then (is_after before c.0) (fallen_at whole (left - 16) (Some c.0) cs) (whole - left) e (λ above later. (above, none_fallen whole (left - 16) (Some c.0) cs later))

chain_stands : (whole left : ℕ) (before : Option ℕ) (cells : List FieldCell) → Chain before (addresses cells) → fallen_at whole left before cells ≡ None
chain_stands whole left before [] h = refl
chain_stands whole left before (c ∷ cs) h =
    ap (λ (b : Bool). cond b (fallen_at whole (left - 16) (Some c.0) cs) (Some (whole - left))) h.0 ∙ chain_stands whole (left - 16) (Some c.0) cs h.1

pub is_ordered : (whole : ℕ) (d : Draft) → order_fault whole d ≡ None → IsOrdered d.cert
is_ordered whole d e =
    let c = d.cert in
    let last = fallen_at whole d.from_cells None c.cells in
    no_fault_else (falls c.output) 17 (cond (falls c.range) (Some 33) (cond (falls c.hash) (Some 49) last)) e (λ output e1.
    no_fault_else (falls c.range) 33 (cond (falls c.hash) (Some 49) last) e1 (λ range e2.
    no_fault_else (falls c.hash) 49 last e2 (λ hash e3.
    record {
      output = ltb-false c.output.stop c.output.start output;
      range = ltb-false c.range.stop c.range.start range;
      hash = ltb-false c.hash.stop c.hash.start hash;
      rise = rise_of (addresses c.cells) (none_fallen whole d.from_cells None c.cells e3);
    })))

pub no_order_fault : (whole : ℕ) (d : Draft) → IsOrdered d.cert → order_fault whole d ≡ None
no_order_fault whole d h =
    let c = d.cert in
    let stands : fallen_at whole d.from_cells None c.cells ≡ None = chain_stands whole d.from_cells None c.cells (chain_of (addresses c.cells) h.rise) in
    let four : (x y z : Bool) (o : Option ℕ) → x ≡ false → y ≡ false → z ≡ false → o ≡ None → cond x (Some 17) (cond y (Some 33) (cond z (Some 49) o)) ≡ None = λ x y z o p q r s. rw (p, q, r, s) refl in
    four (falls c.output) (falls c.range) (falls c.hash) (fallen_at whole d.from_cells None c.cells)
    (le-ltb c.output.stop c.output.start h.output) (le-ltb c.range.stop c.range.start h.range) (le-ltb c.hash.stop c.hash.start h.hash) stands

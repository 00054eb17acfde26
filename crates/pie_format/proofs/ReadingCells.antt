-- The cells: what is read is spelled so, and what is spelled so is read.
use Rattle.std.proofs.Common.{◌≡◌, ℕ, zero, suc, ◌+◌, ◌-◌, ◌*◌, ◌/◌, ◌%◌, ◌^◌, ◌<◌, ◌≤◌, Bool, true, cond, ltb, eqb, ◌&&◌, List, [], ◌∷◌, ◌++◌, length, map, drop, Option, Some, None, option_map, Result, Ok, refl, sym, ap, subst, ◌∙◌, append_assoc, arith, length-append, length-drop}
use Rattle.std.specs.Prelude.{slice_index}
use Rattle.std.specs.Int.{w16, w32, w64, to_be_bytes}
use Rattle.std.specs.List.{flat_map, AllByRecursion}
use Rattle.std.proofs.lemmas.Bool.{ltb-true, lt-ltb, and_parts, and_from, eqb-true}
use Rattle.std.proofs.lemmas.List.{drop-drop, drop_at}
use Rattle.std.proofs.lemmas.Nat.{div-mul-add, div-add-mod'}
use Rattle.goldi_field.specs.Numbers.{prime}
use Rattle.cairo_model.specs.declared.read_refusal.ReadRefusal.{ReadRefusal}
use Rattle.cairo_model.specs.declared.read_refusal.ReadRefusal.TheVariants.{BadCell}
use Rattle.cairo_model.specs.Machine.Steps.{◌>>=◌, required}
use Rattle.cairo_model.specs.Machine.Values.{Datum, number, place}
use Rattle.cairo_model.specs.Pie.Records.{MemoryCell, IsValueIn, IsCellOf, place_number}
use Rattle.cairo_model.specs.Pie.Files.{tag_of, payload_of, cell_bytes}
use Rattle.cairo_model.proofs.Outcomes.{bind_gives, bind_goes, required_is, then_gives, ok_is, some_is, no_some, tested}
use Rattle.cairo_model.proofs.Bytes.{IsBytes, Takes, Takes-then, wide16, wide32, wide64, front_takes, front_again, rest_again}
use Rattle.cairo_model.proofs.Rising.{Chain}
use Rattle.cairo_model.specs.Working.Keys.{is_after}
use Rattle.pie_format.specs.Working.Reading.{front, number_value, place_value, value_in, all_below, is_inside, cell_in, cell_at, cells_at}
use Rattle.pie_format.proofs.ReadingSizes.{below_at}
use Rattle.pie_format.proofs.ReadingLoop.{cell_parts}

-- ---- values

-- a value that a tag and a payload say
pub record IsSaid (segments tag payload : ℕ) (v : Datum) : Type 0 where
  pub tag_is : tag_of v ≡ tag
  pub payload_is : payload_of v ≡ payload
  pub is_value : IsValueIn segments v

number_said : (segments payload : ℕ) (v : Datum) → number_value payload ≡ Some v → IsSaid segments 0 payload v
number_said segments payload v e =
    then_gives (ltb payload prime) (Some (number payload)) v e (λ below same.
    subst (λ (w : Datum). IsSaid segments 0 payload w) (some_is (number payload) v same) (record { tag_is = refl; payload_is = refl; is_value = ltb-true payload prime below }))

place_said : (segments payload : ℕ) (v : Datum) → place_value segments (payload / 2 ^ 32) (payload % 2 ^ 32) ≡ Some v → IsSaid segments 1 payload v
place_said segments payload v e =
    let s = payload / 2 ^ 32 in
    let o = payload % 2 ^ 32 in
    then_gives (ltb s segments && ltb o (2 ^ 31)) (Some (place s o)) v e (λ both same.
    let p = and_parts (ltb s segments) (ltb o (2 ^ 31)) both in
    let in_segments : s < segments = ltb-true s segments p.0 in
    let is_near : o < 2 ^ 31 = ltb-true o (2 ^ 31) p.1 in
    let whole : place_number s o ≡ payload = div-add-mod' payload (2 ^ 32) in
    let said : IsSaid segments 1 payload (place s o) = record { tag_is = refl; payload_is = whole; is_value = record { in_segments = in_segments; is_near = is_near } } in
    subst (λ (w : Datum). IsSaid segments 1 payload w) (some_is (place s o) v same) said)

value_said : (segments tag payload : ℕ) (v : Datum) → value_in segments tag payload ≡ Some v → IsSaid segments tag payload v
value_said segments tag payload v e =
    tested (eqb tag 0) (number_value payload) (cond (eqb tag 1) (place_value segments (payload / 2 ^ 32) (payload % 2 ^ 32)) None) (Some v) e
    (λ zero_tag found. subst (λ (t : ℕ). IsSaid segments t payload v) (sym (eqb-true tag 0 zero_tag)) (number_said segments payload v found))
    (λ _ other. tested (eqb tag 1) (place_value segments (payload / 2 ^ 32) (payload % 2 ^ 32)) None (Some v) other
    (λ one_tag found. subst (λ (t : ℕ). IsSaid segments t payload v) (sym (eqb-true tag 1 one_tag)) (place_said segments payload v found))
    (λ _ none. no_some v none))

value_again : (segments : ℕ) (v : Datum) → IsValueIn segments v → value_in segments (tag_of v) (payload_of v) ≡ Some v
value_again segments (number n) h = rw (lt-ltb n prime h) refl
value_again segments (place s o) h =
    let near : o < 2 ^ 32 = omega (arith, h.is_near) in
    let segment : place_number s o / 2 ^ 32 ≡ s = div-mul-add s (2 ^ 32) o near in
    let offset : place_number s o % 2 ^ 32 ≡ o = omega (arith, segment, div-add-mod' (place_number s o) (2 ^ 32)) in
    let inside : ltb s segments && ltb o (2 ^ 31) ≡ true = and_from _ _ (lt-ltb s segments h.in_segments) (lt-ltb o (2 ^ 31) h.is_near) in
    let made : (t q : ℕ) → t ≡ s → q ≡ o → place_value segments t q ≡ Some (place s o) = λ t q e f. rw (e, f, inside) refl in
    made (place_number s o / 2 ^ 32) (place_number s o % 2 ^ 32) segment offset

-- ---- one cell

-- a cell that was read after another
pub record IsRead (sizes : List ℕ) (before : Option ℕ) (bytes : List ℕ) (c : MemoryCell) : Type 0 where
  pub taken : Takes bytes (cell_bytes c) (drop 16 bytes)
  pub is_cell : IsCellOf sizes c
  pub follows : is_after before (place_number c.segment c.offset) ≡ true

-- the sixteen bytes by their four numbers
four_taken : (bytes : List ℕ) → IsBytes bytes → 16 ≤ length bytes
    → Takes bytes (to_be_bytes w16 (front w16 bytes) ++ (to_be_bytes w32 (front w32 (drop 2 bytes)) ++ (to_be_bytes w16 (front w16 (drop 6 bytes)) ++ to_be_bytes w64 (front w64 (drop 8 bytes))))) (drop 16 bytes)
four_taken bytes fits long =
    let l2 : length (drop 2 bytes) ≡ length bytes - 2 = length-drop 2 bytes in
    let l6 : length (drop 6 bytes) ≡ length bytes - 6 = length-drop 6 bytes in
    let l8 : length (drop 8 bytes) ≡ length bytes - 8 = length-drop 8 bytes in
    let t1 : Takes bytes (to_be_bytes w16 (front w16 bytes)) (drop 2 bytes) = front_takes w16 (2 ^ 16) wide16 bytes fits (omega arith) in
    let t2' : Takes (drop 2 bytes) (to_be_bytes w32 (front w32 (drop 2 bytes))) (drop 4 (drop 2 bytes)) = front_takes w32 (2 ^ 32) wide32 (drop 2 bytes) t1.rest_fits (omega arith) in
    let t2 : Takes (drop 2 bytes) (to_be_bytes w32 (front w32 (drop 2 bytes))) (drop 6 bytes) = subst (λ (r : List ℕ). Takes (drop 2 bytes) (to_be_bytes w32 (front w32 (drop 2 bytes))) r) (drop-drop 4 2 bytes) t2' in
    let t3' : Takes (drop 6 bytes) (to_be_bytes w16 (front w16 (drop 6 bytes))) (drop 2 (drop 6 bytes)) = front_takes w16 (2 ^ 16) wide16 (drop 6 bytes) t2.rest_fits (omega arith) in
    let t3 : Takes (drop 6 bytes) (to_be_bytes w16 (front w16 (drop 6 bytes))) (drop 8 bytes) = subst (λ (r : List ℕ). Takes (drop 6 bytes) (to_be_bytes w16 (front w16 (drop 6 bytes))) r) (drop-drop 2 6 bytes) t3' in
    let t4' : Takes (drop 8 bytes) (to_be_bytes w64 (front w64 (drop 8 bytes))) (drop 8 (drop 8 bytes)) = front_takes w64 (2 ^ 64) wide64 (drop 8 bytes) t3.rest_fits (omega arith) in
    let t4 : Takes (drop 8 bytes) (to_be_bytes w64 (front w64 (drop 8 bytes))) (drop 16 bytes) = subst (λ (r : List ℕ). Takes (drop 8 bytes) (to_be_bytes w64 (front w64 (drop 8 bytes))) r) (drop-drop 8 8 bytes) t4' in
    let t34 = Takes-then (drop 6 bytes) (to_be_bytes w16 (front w16 (drop 6 bytes))) (drop 8 bytes) (to_be_bytes w64 (front w64 (drop 8 bytes))) (drop 16 bytes) t3 t4 in
    let t24 = Takes-then (drop 2 bytes) (to_be_bytes w32 (front w32 (drop 2 bytes))) (drop 6 bytes) (to_be_bytes w16 (front w16 (drop 6 bytes)) ++ to_be_bytes w64 (front w64 (drop 8 bytes))) (drop 16 bytes) t2 t34 in
    Takes-then bytes (to_be_bytes w16 (front w16 bytes)) (drop 2 bytes) (to_be_bytes w32 (front w32 (drop 2 bytes)) ++ (to_be_bytes w16 (front w16 (drop 6 bytes)) ++ to_be_bytes w64 (front w64 (drop 8 bytes)))) (drop 16 bytes) t1 t24

pub some_of : {R : Type 0} (o : Option Datum) (s q : ℕ) (c : MemoryCell) → option_map (λ v. record { segment = s; offset = q; value = v }) o ≡ Some c → ((v : Datum) → o ≡ Some v → record { segment = s; offset = q; value = v } ≡ c → R) → R
some_of (Some v) s q c e go = go v refl (some_is (record { segment = s; offset = q; value = v }) c e)
some_of None s q c e go = absurd (cc)

-- over variables: the cell of four numbers
cell_said : (sizes : List ℕ) (before : Option ℕ) (bytes rest : List ℕ) (s o t n : ℕ) (c : MemoryCell) → Takes bytes (to_be_bytes w16 s ++ (to_be_bytes w32 o ++ (to_be_bytes w16 t ++ to_be_bytes w64 n))) rest
    → cell_in sizes before s o (value_in (length sizes) t n) ≡ Some c → Takes bytes (cell_bytes c) rest × IsCellOf sizes c × (is_after before (place_number c.segment c.offset) ≡ true)
cell_said sizes before bytes rest s o t n c taken e =
    then_gives (is_inside sizes s o && is_after before (place_number s o)) (option_map (λ v. record { segment = s; offset = o; value = v }) (value_in (length sizes) t n)) c e (λ both found.
    let p = and_parts (is_inside sizes s o) (is_after before (place_number s o)) both in
    let q = and_parts (ltb s (length sizes)) (ltb o (slice_index sizes s)) p.0 in
    some_of (value_in (length sizes) t n) s o c found (λ v is same.
    let said : IsSaid (length sizes) t n v = value_said (length sizes) t n v is in
    let made : MemoryCell = record { segment = s; offset = o; value = v } in
    let spelled : Takes bytes (to_be_bytes w16 s ++ (to_be_bytes w32 o ++ (to_be_bytes w16 (tag_of v) ++ to_be_bytes w64 (payload_of v)))) rest =
    subst (λ (k : ℕ). Takes bytes (to_be_bytes w16 s ++ (to_be_bytes w32 o ++ (to_be_bytes w16 k ++ to_be_bytes w64 (payload_of v)))) rest) (sym said.tag_is)
    (subst (λ (k : ℕ). Takes bytes (to_be_bytes w16 s ++ (to_be_bytes w32 o ++ (to_be_bytes w16 t ++ to_be_bytes w64 k))) rest) (sym said.payload_is) taken) in
    let is_cell : IsCellOf sizes made = record { in_segments = ltb-true s (length sizes) q.0; in_size = ltb-true o (slice_index sizes s) q.1; has_value = said.is_value } in
    subst (λ (d : MemoryCell). Takes bytes (cell_bytes d) rest × IsCellOf sizes d × (is_after before (place_number d.segment d.offset) ≡ true)) same (spelled, is_cell, p.1)))

pub cell_takes : (sizes : List ℕ) (before : Option ℕ) (bytes : List ℕ) (c : MemoryCell) → IsBytes bytes → 16 ≤ length bytes → cell_at sizes before bytes ≡ Some c → IsRead sizes before bytes c
cell_takes sizes before bytes c fits long e =
    let said = cell_said sizes before bytes (drop 16 bytes) (front w16 bytes) (front w32 (drop 2 bytes)) (front w16 (drop 6 bytes)) (front w64 (drop 8 bytes)) c (four_taken bytes fits long) e in
    record { taken = said.0; is_cell = said.1; follows = said.2 }

tag_fits : (v : Datum) → tag_of v < 2 ^ 16
tag_fits (number n) = omega arith
tag_fits (place s o) = omega arith

payload_fits : (segments : ℕ) (v : Datum) → segments ≤ 64 → IsValueIn segments v → payload_of v < 2 ^ 64
payload_fits segments (number n) few h = omega arith
payload_fits segments (place s o) few h = omega (arith, h.in_segments, h.is_near)

-- sizes that the file can speak of
pub record AreSmall (sizes : List ℕ) : Type 0 where
  pub few : length sizes ≤ 64
  pub small : all_below (2 ^ 31) sizes ≡ true

cell_in_again : (sizes : List ℕ) (before : Option ℕ) (c : MemoryCell) → IsCellOf sizes c → is_after before (place_number c.segment c.offset) ≡ true → Some c ≡ cell_in sizes before c.segment c.offset (Some c.value)
cell_in_again sizes before c h follows =
    let inside : is_inside sizes c.segment c.offset ≡ true = and_from _ _ (lt-ltb c.segment (length sizes) h.in_segments) (lt-ltb c.offset (slice_index sizes c.segment) h.in_size) in
    let made : (a b : Bool) → a ≡ true → b ≡ true → Some c ≡ cond (a && b) (option_map (λ v. record { segment = c.segment; offset = c.offset; value = v }) (Some c.value)) None = λ a b p q. rw (p, q) refl in
    made (is_inside sizes c.segment c.offset) (is_after before (place_number c.segment c.offset)) inside follows

pub cell_again : (sizes : List ℕ) (before : Option ℕ) (c : MemoryCell) (rest : List ℕ) → AreSmall sizes → IsCellOf sizes c → is_after before (place_number c.segment c.offset) ≡ true → cell_at sizes before (cell_bytes c ++ rest) ≡ Some c
cell_again sizes before c rest small h follows =
    let size : slice_index sizes c.segment < 2 ^ 31 = below_at (2 ^ 31) sizes c.segment small.small h.in_segments in
    let segment_fits : c.segment < 2 ^ 16 = omega (arith, h.in_segments, small.few) in
    let offset_fits : c.offset < 2 ^ 32 = omega (arith, h.in_size) in
    let tag = tag_of c.value in
    let payload = payload_of c.value in
    let d = to_be_bytes w64 payload ++ rest in
    let b = to_be_bytes w16 tag ++ d in
    let a = to_be_bytes w32 c.offset ++ b in
    let regrouped : cell_bytes c ++ rest ≡ to_be_bytes w16 c.segment ++ a =
    append_assoc (to_be_bytes w16 c.segment) (to_be_bytes w32 c.offset ++ (to_be_bytes w16 tag ++ to_be_bytes w64 payload)) rest
    ∙ ap (λ (x : List ℕ). to_be_bytes w16 c.segment ++ x) (append_assoc (to_be_bytes w32 c.offset) (to_be_bytes w16 tag ++ to_be_bytes w64 payload) rest
    ∙ ap (λ (x : List ℕ). to_be_bytes w32 c.offset ++ x) (append_assoc (to_be_bytes w16 tag) (to_be_bytes w64 payload) rest)) in
    let read : Some c ≡ cell_at sizes before (to_be_bytes w16 c.segment ++ a) = cell_parts sizes before (to_be_bytes w16 c.segment ++ a) a b d c.segment c.offset tag payload (Some c.value) (Some c)
    (sym (front_again w16 (2 ^ 16) wide16 c.segment a segment_fits)) (sym (rest_again w16 (2 ^ 16) wide16 c.segment a))
    (sym (front_again w32 (2 ^ 32) wide32 c.offset b offset_fits)) (sym (rest_again w32 (2 ^ 32) wide32 c.offset b))
    (sym (front_again w16 (2 ^ 16) wide16 tag d (tag_fits c.value))) (sym (rest_again w16 (2 ^ 16) wide16 tag d))
    (sym (front_again w64 (2 ^ 64) wide64 payload rest (payload_fits (length sizes) c.value small.few h.has_value)))
    (sym (value_again (length sizes) c.value h.has_value)) (cell_in_again sizes before c h follows) in
    ap (cell_at sizes before) regrouped ∙ sym read

pub cell_len : (c : MemoryCell) → length (cell_bytes c) ≡ 16
cell_len c = refl

-- ---- several cells

abbrev pub numbers : List MemoryCell → List ℕ
numbers cells = map (λ c. place_number c.segment c.offset) cells

pub record AreRead (sizes : List ℕ) (before : Option ℕ) (n : ℕ) (bytes : List ℕ) (x : List MemoryCell × List ℕ) : Type 0 where
  pub taken : Takes bytes (flat_map cell_bytes x.0) x.1
  pub count : length x.0 ≡ n
  pub are_cells : AllByRecursion (IsCellOf sizes) x.0
  pub chain : Chain before (numbers x.0)

pub cells_take : (sizes : List ℕ) (index : ℕ) (before : Option ℕ) (n : ℕ) (bytes : List ℕ) (x : List MemoryCell × List ℕ) → IsBytes bytes → 16 * n ≤ length bytes → cells_at sizes index before n bytes ≡ Ok x → AreRead sizes before n bytes x
unfolding cells_at
cells_take sizes index before zero bytes x fits long e =
    subst (λ (y : List MemoryCell × List ℕ). AreRead sizes before 0 bytes y) (ok_is ([], bytes) x e) (record { taken = record { parts = refl; rest_fits = fits }; count = refl; are_cells = tt; chain = tt })
cells_take sizes index before (suc n) bytes x fits long e =
    bind_gives (required (BadCell index) (cell_at sizes before bytes)) (λ c. cells_at sizes (index + 1) (Some (place_number c.segment c.offset)) n (drop 16 bytes) >>= λ others. Ok (c ∷ others.0, others.1)) x e (λ c found after.
    required_is (BadCell index) (cell_at sizes before bytes) c found (λ is.
    bind_gives (cells_at sizes (index + 1) (Some (place_number c.segment c.offset)) n (drop 16 bytes)) (λ others. Ok (c ∷ others.0, others.1)) x after (λ others later same.
    let first : IsRead sizes before bytes c = cell_takes sizes before bytes c fits (omega arith) is in
    let rest_len : length (drop 16 bytes) ≡ length bytes - 16 = length-drop 16 bytes in
    let second : AreRead sizes (Some (place_number c.segment c.offset)) n (drop 16 bytes) others = cells_take sizes (index + 1) (Some (place_number c.segment c.offset)) n (drop 16 bytes) others first.taken.rest_fits (omega arith) later in
    let made : List MemoryCell × List ℕ = (c ∷ others.0, others.1) in
    let whole : AreRead sizes before (suc n) bytes made = record {
      taken = Takes-then bytes (cell_bytes c) (drop 16 bytes) (flat_map cell_bytes others.0) others.1 first.taken second.taken;
      count = ap suc second.count;
      are_cells = (first.is_cell, second.are_cells);
      chain = (first.follows, second.chain);
    } in
    subst (λ (y : List MemoryCell × List ℕ). AreRead sizes before (suc n) bytes y) (ok_is made x same) whole)))

abbrev ok_of : List MemoryCell × List ℕ → Result (List MemoryCell × List ℕ) ReadRefusal
ok_of x = Ok x

step_again : (sizes : List ℕ) (index : ℕ) (before : Option ℕ) (n : ℕ) (bytes after rest : List ℕ) (c : MemoryCell) (cs : List MemoryCell) → cell_at sizes before bytes ≡ Some c → drop 16 bytes ≡ after
    → cells_at sizes (index + 1) (Some (place_number c.segment c.offset)) n after ≡ Ok (cs, rest) → cells_at sizes index before (suc n) bytes ≡ Ok (c ∷ cs, rest)
unfolding cells_at
step_again sizes index before n bytes after rest c cs one behind others =
    let joined = λ (x : MemoryCell) (y : List MemoryCell × List ℕ). let both : List MemoryCell × List ℕ = (x ∷ y.0, y.1) in ok_of both in
    let later : cells_at sizes (index + 1) (Some (place_number c.segment c.offset)) n (drop 16 bytes) ≡ Ok (cs, rest) = ap (cells_at sizes (index + 1) (Some (place_number c.segment c.offset)) n) behind ∙ others in
    bind_goes (required (BadCell index) (cell_at sizes before bytes)) (λ x. cells_at sizes (index + 1) (Some (place_number x.segment x.offset)) n (drop 16 bytes) >>= joined x) (c ∷ cs, rest) c (ap (required (BadCell index)) one)
    (bind_goes (cells_at sizes (index + 1) (Some (place_number c.segment c.offset)) n (drop 16 bytes)) (joined c) (c ∷ cs, rest) (cs, rest) later refl)

pub cells_again : (sizes : List ℕ) (index : ℕ) (before : Option ℕ) (cs : List MemoryCell) (rest : List ℕ) → AreSmall sizes → AllByRecursion (IsCellOf sizes) cs → Chain before (numbers cs) → cells_at sizes index before (length cs) (flat_map cell_bytes cs ++ rest) ≡ Ok (cs, rest)
unfolding cells_at
cells_again sizes index before [] rest small are chain = refl
cells_again sizes index before (c ∷ cs) rest small are chain =
    let others = flat_map cell_bytes cs ++ rest in
    let one : cell_at sizes before (cell_bytes c ++ others) ≡ Some c = cell_again sizes before c others small are.0 chain.0 in
    let behind : drop 16 (cell_bytes c ++ others) ≡ others = drop_at (cell_bytes c) others 16 (cell_len c) in
    let later : cells_at sizes (index + 1) (Some (place_number c.segment c.offset)) (length cs) others ≡ Ok (cs, rest) = cells_again sizes (index + 1) (Some (place_number c.segment c.offset)) cs rest small are.1 chain.1 in
    ap (cells_at sizes index before (suc (length cs))) (append_assoc (cell_bytes c) (flat_map cell_bytes cs) rest) ∙ step_again sizes index before (length cs) (cell_bytes c ++ others) others rest c cs one behind later

pub cells_len : (cs : List MemoryCell) → length (flat_map cell_bytes cs) ≡ 16 * length cs
cells_len [] = refl
cells_len (c ∷ cs) =
    let whole : length (cell_bytes c ++ flat_map cell_bytes cs) ≡ length (cell_bytes c) + length (flat_map cell_bytes cs) = length-append (cell_bytes c) (flat_map cell_bytes cs) in
    omega (arith, whole, cell_len c, cells_len cs)

-- ---- the order

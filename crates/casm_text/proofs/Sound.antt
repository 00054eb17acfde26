-- A statement that is read off tokens is well spelled and has these tokens.
use Rattle.casm_text.specs.Statements.{Piece, token, space, positive, negative, Cell, cell, numeral, copy, double, sum, product, Aim, by, label, Statement, assert, jump, jump_abs, jump_if, call, call_abs, ret, add_ap, word, tokens_in, tokens_of, offset_then, numeral_then, register_name, cell_then, operand_then, source_then, aim_then, step_pieces, is_name, offset_spelled, numeral_spelled, operand_spelled, source_spelled, aim_spelled, is_spelled}
use Rattle.casm_text.specs.Tokens.{is_digits}
use Rattle.casm_text.specs.Working.Parsing.{Read, then_read, next_is, others, expect, digits_first, offset_first, register_first, cell_first, numeral_first, operand_first, source_after, double_first, source_first, label_first, aim_first, ended, step_at_end, assert_in, jump_after, jump_in, call_in, add_in, statement_in}
use Rattle.cairo_word.specs.declared.word.Reg.{Reg}
use Rattle.std.proofs.Common.{◌≡◌, ℕ, Bool, true, false, ◌&&◌, List, [], ◌∷◌, Option, Some, None, refl, ap, sym, ◌∙◌, cond}
use Rattle.std.specs.Prelude.{codes}
use Rattle.std.proofs.lemmas.Slice.Eq.{bytes_eq-Decides}
use Rattle.std.proofs.lemmas.Bool.{false≢true}

-- ---- what holds of what is read, if anything is

abbrev pub On : {B : Type 0} → (B → Type 0) → Option B → Type 0
On P None = Unit {0}
On P (Some b) = P b

pub on_if : {B : Type 0} (P : B → Type 0) (b : Bool) (x y : Option B) → (b ≡ true → On P x) → (b ≡ false → On P y) → On P (cond b x y)
on_if P true x y h k = h refl
on_if P false x y h k = k refl

pub next_gives : (t : List ℕ) (ts : List (List ℕ)) → next_is t ts ≡ true → t ∷ others ts ≡ ts
next_gives t [] h = absurd (false≢true h)
next_gives t (u ∷ us) h = ap (λ (v : List ℕ). v ∷ us) (sym ((bytes_eq-Decides u t).0 h))

on_expect : {B : Type 0} (P : B → Type 0) (t : List ℕ) (ts : List (List ℕ)) (f : List (List ℕ) → Option B) → (t ∷ others ts ≡ ts → On P (f (others ts))) → On P (expect t ts f)
on_expect P t ts f h = on_if P (next_is t ts) (f (others ts)) None (λ e. h (next_gives t ts e)) (λ e. tt)

on_then : {A B : Type 0} (P : A × List (List ℕ) → Type 0) (Q : B → Type 0) (r : Read A) (f : A → List (List ℕ) → Option B) → On P r → ((a : A) (us : List (List ℕ)) → P (a, us) → On Q (f a us)) → On Q (then_read r f)
on_then P Q None f h k = tt
on_then P Q (Some r) f h k = k r.0 r.1 h

-- a part is well spelled, and its tokens stand before those that are left
pub record IsRead {A : Type 0} (spell : A → List Piece → List Piece) (spelled : A → Bool) (ts : List (List ℕ)) (r : A × List (List ℕ)) : Type 0 where
  pub well : spelled (r.0) ≡ true
  pub tokens : (rest : List Piece) → tokens_in rest ≡ r.1 → tokens_in (spell (r.0) rest) ≡ ts

abbrev digits_then : List ℕ → List Piece → List Piece
digits_then ds rest = token ds ∷ rest

read_digits : (ts : List (List ℕ)) → On (IsRead digits_then is_digits ts) (digits_first ts)
read_digits [] = tt
read_digits (u ∷ us) =
    on_if (IsRead digits_then is_digits (u ∷ us)) (is_digits u) (Some (u, us)) None
    (λ is_so. record { well = is_so; tokens = λ rest e. ap (λ (l : List (List ℕ)). u ∷ l) e })
    (λ is_not. tt)

read_offset : (ts : List (List ℕ)) → On (IsRead offset_then offset_spelled ts) (offset_first ts)
read_offset ts =
    let P = IsRead offset_then offset_spelled ts in
    on_if P (next_is (codes "+") ts) _ _
    (λ is_so. on_then (IsRead digits_then is_digits (others ts)) P (digits_first (others ts)) _ (read_digits (others ts))
    (λ ds us d. record { well = d.well; tokens = λ rest e. ap (λ (l : List (List ℕ)). codes "+" ∷ l) (d.tokens rest e) ∙ next_gives (codes "+") ts is_so }))
    (λ is_not. on_if P (next_is (codes "-") ts) _ _
    (λ is_so. on_then (IsRead digits_then is_digits (others ts)) P (digits_first (others ts)) _ (read_digits (others ts))
    (λ ds us d. record { well = d.well; tokens = λ rest e. ap (λ (l : List (List ℕ)). codes "-" ∷ l) (d.tokens rest e) ∙ next_gives (codes "-") ts is_so }))
    (λ none_there. record { well = refl; tokens = λ rest e. e }))

abbrev register_then : Reg → List Piece → List Piece
register_then r rest = token (register_name r) ∷ rest

read_register : (ts : List (List ℕ)) → On (IsRead register_then (λ r. true) ts) (register_first ts)
read_register ts =
    let P = IsRead register_then (λ r. true) ts in
    on_if P (next_is (codes "ap") ts) _ _
    (λ is_so. record { well = refl; tokens = λ rest e. ap (λ (l : List (List ℕ)). codes "ap" ∷ l) e ∙ next_gives (codes "ap") ts is_so })
    (λ is_not. on_if P (next_is (codes "fp") ts) _ _
    (λ is_so. record { well = refl; tokens = λ rest e. ap (λ (l : List (List ℕ)). codes "fp" ∷ l) e ∙ next_gives (codes "fp") ts is_so })
    (λ none_there. tt))

after_mark : (t : List ℕ) (ts us : List (List ℕ)) → us ≡ others ts → t ∷ others ts ≡ ts → t ∷ us ≡ ts
after_mark t ts us e is = ap (λ (l : List (List ℕ)). t ∷ l) e ∙ is

-- the token t and what follows it, where it is the next
on_mark : {B : Type 0} (P : B → Type 0) (t : List ℕ) (ts : List (List ℕ)) (f : List (List ℕ) → Option B)
    → (((us : List (List ℕ)) → us ≡ others ts → t ∷ us ≡ ts) → On P (f (others ts))) → On P (expect t ts f)
on_mark P t ts f h = on_expect P t ts f (λ is. h (λ us e. after_mark t ts us e is))

on_next : {B : Type 0} (P : B → Type 0) (t : List ℕ) (ts : List (List ℕ)) (x y : Option B)
    → (((us : List (List ℕ)) → us ≡ others ts → t ∷ us ≡ ts) → On P x) → (next_is t ts ≡ false → On P y) → On P (cond (next_is t ts) x y)
on_next P t ts x y h k = on_if P (next_is t ts) x y (λ is. h (λ us e. after_mark t ts us e (next_gives t ts is))) k

abbrev cell_is_spelled : Cell → Bool
cell_is_spelled c = offset_spelled c.offset

read_cell : (ts : List (List ℕ)) → On (IsRead cell_then cell_is_spelled ts) (cell_first ts)
read_cell ts =
    let P = IsRead cell_then cell_is_spelled ts in
    on_mark P (codes "[") ts (λ a. then_read (register_first a) (λ r b. then_read (offset_first b) (λ o c. expect (codes "]") c (λ rest. Some (record { register = r; offset = o }, rest))))) (λ opens.
    on_then (IsRead register_then (λ r. true) (others ts)) P (register_first (others ts)) (λ r b. then_read (offset_first b) (λ o c. expect (codes "]") c (λ rest. Some (record { register = r; offset = o }, rest)))) (read_register (others ts)) (λ r b reg.
    on_then (IsRead offset_then offset_spelled b) P (offset_first b) (λ o c. expect (codes "]") c (λ rest. Some (record { register = r; offset = o }, rest))) (read_offset b) (λ o c off.
    on_mark P (codes "]") c (λ rest. Some (record { register = r; offset = o }, rest)) (λ closes.
    record {
      well = off.well;
      tokens = λ rest e. opens _ (reg.tokens (offset_then o (token (codes "]") ∷ rest)) (off.tokens (token (codes "]") ∷ rest) (closes _ e)));
    }))))

read_numeral : (ts : List (List ℕ)) → On (IsRead numeral_then numeral_spelled ts) (numeral_first ts)
read_numeral ts =
    let P = IsRead numeral_then numeral_spelled ts in
    on_next P (codes "-") ts (then_read (digits_first (others ts)) (λ ds rest. Some (negative ds, rest))) (then_read (digits_first ts) (λ ds rest. Some (positive ds, rest)))
    (λ sign. on_then (IsRead digits_then is_digits (others ts)) P (digits_first (others ts)) (λ ds rest. Some (negative ds, rest)) (read_digits (others ts))
    (λ ds us d. record { well = d.well; tokens = λ rest e. sign _ (d.tokens rest e) }))
    (λ plain. on_then (IsRead digits_then is_digits ts) P (digits_first ts) (λ ds rest. Some (positive ds, rest)) (read_digits ts)
    (λ ds us d. record { well = d.well; tokens = d.tokens }))

read_operand : (ts : List (List ℕ)) → On (IsRead operand_then operand_spelled ts) (operand_first ts)
read_operand ts =
    let P = IsRead operand_then operand_spelled ts in
    on_next P (codes "[") ts (then_read (cell_first ts) (λ c rest. Some (cell c, rest))) (then_read (numeral_first ts) (λ n rest. Some (numeral n, rest)))
    (λ opens. on_then (IsRead cell_then cell_is_spelled ts) P (cell_first ts) (λ c rest. Some (cell c, rest)) (read_cell ts)
    (λ c us d. record { well = d.well; tokens = d.tokens }))
    (λ plain. on_then (IsRead numeral_then numeral_spelled ts) P (numeral_first ts) (λ n rest. Some (numeral n, rest)) (read_numeral ts)
    (λ n us d. record { well = d.well; tokens = d.tokens }))

pub both_true : (a b : Bool) → a ≡ true → b ≡ true → a && b ≡ true
both_true true b h k = k
both_true false b h k = h

read_after : (c : Cell) (ts us : List (List ℕ)) → IsRead cell_then cell_is_spelled ts (c, us) → On (IsRead source_then source_spelled ts) (source_after c us)
read_after c ts us left =
    let P = IsRead source_then source_spelled ts in
    on_next P (codes "+") us (then_read (operand_first (others us)) (λ x rest. Some (sum c x, rest))) _
    (λ mark. on_then (IsRead operand_then operand_spelled (others us)) P (operand_first (others us)) (λ x rest. Some (sum c x, rest)) (read_operand (others us))
    (λ x vs d. record {
      well = both_true _ _ left.well d.well;
      tokens = λ rest e. left.tokens (space ∷ token (codes "+") ∷ space ∷ operand_then x rest) (mark _ (d.tokens rest e));
    }))
    (λ other. on_next P (codes "*") us (then_read (operand_first (others us)) (λ x rest. Some (product c x, rest))) (Some (copy (cell c), us))
    (λ mark. on_then (IsRead operand_then operand_spelled (others us)) P (operand_first (others us)) (λ x rest. Some (product c x, rest)) (read_operand (others us))
    (λ x vs d. record {
      well = both_true _ _ left.well d.well;
      tokens = λ rest e. left.tokens (space ∷ token (codes "*") ∷ space ∷ operand_then x rest) (mark _ (d.tokens rest e));
    }))
    (λ neither. record { well = left.well; tokens = left.tokens }))

read_double : (ts : List (List ℕ)) → On (IsRead source_then source_spelled ts) (double_first ts)
read_double ts =
    let P = IsRead source_then source_spelled ts in
    on_mark P (codes "[") ts (λ a. then_read (cell_first a) (λ c b. then_read (offset_first b) (λ k d. expect (codes "]") d (λ rest. Some (double c k, rest))))) (λ opens.
    on_then (IsRead cell_then cell_is_spelled (others ts)) P (cell_first (others ts)) (λ c b. then_read (offset_first b) (λ k d. expect (codes "]") d (λ rest. Some (double c k, rest)))) (read_cell (others ts)) (λ c b inner.
    on_then (IsRead offset_then offset_spelled b) P (offset_first b) (λ k d. expect (codes "]") d (λ rest. Some (double c k, rest))) (read_offset b) (λ k d off.
    on_mark P (codes "]") d (λ rest. Some (double c k, rest)) (λ closes.
    record {
      well = both_true _ _ inner.well off.well;
      tokens = λ rest e. opens _ (inner.tokens (offset_then k (token (codes "]") ∷ rest)) (off.tokens (token (codes "]") ∷ rest) (closes _ e)));
    }))))

read_source : (ts : List (List ℕ)) → On (IsRead source_then source_spelled ts) (source_first ts)
read_source ts =
    let P = IsRead source_then source_spelled ts in
    on_next P (codes "[") ts (cond (next_is (codes "[") (others ts)) (double_first ts) (then_read (cell_first ts) source_after)) (then_read (numeral_first ts) (λ n rest. Some (copy (numeral n), rest)))
    (λ opens. on_if P (next_is (codes "[") (others ts)) (double_first ts) (then_read (cell_first ts) source_after)
    (λ twice. read_double ts)
    (λ once. on_then (IsRead cell_then cell_is_spelled ts) P (cell_first ts) source_after (read_cell ts) (λ c us left. read_after c ts us left)))
    (λ plain. on_then (IsRead numeral_then numeral_spelled ts) P (numeral_first ts) (λ n rest. Some (copy (numeral n), rest)) (read_numeral ts)
    (λ n us d. record { well = d.well; tokens = d.tokens }))

read_label : (ts : List (List ℕ)) → On (IsRead aim_then aim_spelled ts) (label_first ts)
read_label [] = tt
read_label (u ∷ us) =
    on_if (IsRead aim_then aim_spelled (u ∷ us)) (is_name u) (Some (label u, us)) None
    (λ is_so. record { well = is_so; tokens = λ rest e. ap (λ (l : List (List ℕ)). u ∷ l) e })
    (λ is_not. tt)

read_aim : (ts : List (List ℕ)) → On (IsRead aim_then aim_spelled ts) (aim_first ts)
read_aim ts =
    let P = IsRead aim_then aim_spelled ts in
    on_next P (codes "rel") ts (then_read (operand_first (others ts)) (λ x rest. Some (by x, rest))) (label_first ts)
    (λ mark. on_then (IsRead operand_then operand_spelled (others ts)) P (operand_first (others ts)) (λ x rest. Some (by x, rest)) (read_operand (others ts))
    (λ x us d. record { well = d.well; tokens = λ rest e. mark _ (d.tokens rest e) }))
    (λ other. read_label ts)

-- ---- ends

pub on_ended : {B : Type 0} (Q : B → Type 0) (x : B) (ts : List (List ℕ)) → ([] ≡ ts → Q x) → On Q (ended x ts)
on_ended Q x [] h = h refl
on_ended Q x (u ∷ us) h = tt

on_step : {B : Type 0} (Q : B → Type 0) (f : Bool → B) (ts : List (List ℕ)) → ((step : Bool) → tokens_in (step_pieces step) ≡ ts → Q (f step)) → On Q (step_at_end f ts)
on_step Q f [] h = h false refl
on_step Q f (u ∷ us) h =
    on_mark Q (codes ",") (u ∷ us) (λ a. expect (codes "ap") a (λ b. expect (codes "++") b (ended (f true)))) (λ comma.
    on_mark Q (codes "ap") us (λ b. expect (codes "++") b (ended (f true))) (λ register.
    on_mark Q (codes "++") (others us) (ended (f true)) (λ plus_plus.
    on_ended Q (f true) (others (others us)) (λ e. h true (comma _ (register _ (plus_plus _ e)))))))

-- ---- statements

pub record IsParsed (ts : List (List ℕ)) (s : Statement) : Type 0 where
  pub well : is_spelled s ≡ true
  pub tokens : tokens_of s ≡ ts

read_assert : (ts : List (List ℕ)) → On (IsParsed ts) (assert_in ts)
read_assert ts =
    on_then (IsRead cell_then cell_is_spelled ts) (IsParsed ts) (cell_first ts) (λ c a. expect (codes "=") a (λ b. then_read (source_first b) (λ s d. step_at_end (assert c s) d))) (read_cell ts) (λ c a left.
    on_mark (IsParsed ts) (codes "=") a (λ b. then_read (source_first b) (λ s d. step_at_end (assert c s) d)) (λ mark.
    on_then (IsRead source_then source_spelled (others a)) (IsParsed ts) (source_first (others a)) (λ s d. step_at_end (assert c s) d) (read_source (others a)) (λ s d right.
    on_step (IsParsed ts) (assert c s) d (λ step e.
    record {
      well = both_true _ _ left.well right.well;
      tokens = left.tokens (space ∷ token (codes "=") ∷ space ∷ source_then s (step_pieces step)) (mark _ (right.tokens (step_pieces step) e));
    }))))

-- after its first word, a jump has these tokens
pub record IsJump (ts : List (List ℕ)) (s : Statement) : Type 0 where
  pub well : is_spelled s ≡ true
  pub tokens : tokens_of s ≡ codes "jmp" ∷ ts

read_jump_after : (a : Aim) (ts us : List (List ℕ)) → IsRead aim_then aim_spelled ts (a, us) → On (IsJump ts) (jump_after a us)
read_jump_after a ts us aim =
    let first = λ (l : List (List ℕ)). codes "jmp" ∷ l in
    on_next (IsJump ts) (codes "if") us (then_read (cell_first (others us)) (λ c b. expect (codes "!=") b (λ d. expect (codes "0") d (step_at_end (jump_if a c))))) (step_at_end (jump a) us)
    (λ mark. on_then (IsRead cell_then cell_is_spelled (others us)) (IsJump ts) (cell_first (others us)) (λ c b. expect (codes "!=") b (λ d. expect (codes "0") d (step_at_end (jump_if a c)))) (read_cell (others us)) (λ c b tested.
    on_mark (IsJump ts) (codes "!=") b (λ d. expect (codes "0") d (step_at_end (jump_if a c))) (λ unequal.
    on_mark (IsJump ts) (codes "0") (others b) (step_at_end (jump_if a c)) (λ nought.
    on_step (IsJump ts) (jump_if a c) (others (others b)) (λ step e.
    record {
      well = both_true _ _ aim.well tested.well;
      tokens = ap first (aim.tokens (space ∷ token (codes "if") ∷ space ∷ cell_then c (space ∷ token (codes "!=") ∷ space ∷ token (codes "0") ∷ step_pieces step))
          (mark _ (tested.tokens (space ∷ token (codes "!=") ∷ space ∷ token (codes "0") ∷ step_pieces step) (unequal _ (nought _ e)))));
    })))))
    (λ other. on_step (IsJump ts) (jump a) us (λ step e. record { well = aim.well; tokens = ap first (aim.tokens (step_pieces step) e) }))

read_jump : (ts : List (List ℕ)) → On (IsJump ts) (jump_in ts)
read_jump ts =
    let first = λ (l : List (List ℕ)). codes "jmp" ∷ l in
    on_next (IsJump ts) (codes "abs") ts (then_read (operand_first (others ts)) (λ x a. step_at_end (jump_abs x) a)) (then_read (aim_first ts) jump_after)
    (λ mark. on_then (IsRead operand_then operand_spelled (others ts)) (IsJump ts) (operand_first (others ts)) (λ x a. step_at_end (jump_abs x) a) (read_operand (others ts)) (λ x a d.
    on_step (IsJump ts) (jump_abs x) a (λ step e. record { well = d.well; tokens = ap first (mark _ (d.tokens (step_pieces step) e)) })))
    (λ other. on_then (IsRead aim_then aim_spelled ts) (IsJump ts) (aim_first ts) jump_after (read_aim ts) (λ a us aim. read_jump_after a ts us aim))

pub record IsCall (ts : List (List ℕ)) (s : Statement) : Type 0 where
  pub well : is_spelled s ≡ true
  pub tokens : tokens_of s ≡ codes "call" ∷ ts

read_call : (ts : List (List ℕ)) → On (IsCall ts) (call_in ts)
read_call ts =
    let first = λ (l : List (List ℕ)). codes "call" ∷ l in
    on_next (IsCall ts) (codes "abs") ts (then_read (operand_first (others ts)) (λ x a. ended (call_abs x) a)) (then_read (aim_first ts) (λ aim a. ended (call aim) a))
    (λ mark. on_then (IsRead operand_then operand_spelled (others ts)) (IsCall ts) (operand_first (others ts)) (λ x a. ended (call_abs x) a) (read_operand (others ts)) (λ x a d.
    on_ended (IsCall ts) (call_abs x) a (λ e. record { well = d.well; tokens = ap first (mark _ (d.tokens [] e)) })))
    (λ other. on_then (IsRead aim_then aim_spelled ts) (IsCall ts) (aim_first ts) (λ aim a. ended (call aim) a) (read_aim ts) (λ aim a d.
    on_ended (IsCall ts) (call aim) a (λ e. record { well = d.well; tokens = ap first (d.tokens [] e) })))

-- what holds of some read thing holds of another that follows from it
pub on_weaken : {B : Type 0} (P Q : B → Type 0) (o : Option B) → On P o → ((b : B) → P b → Q b) → On Q o
on_weaken P Q None h k = tt
on_weaken P Q (Some b) h k = k b h

pub read_statement : (ts : List (List ℕ)) → On (IsParsed ts) (statement_in ts)
read_statement ts =
    let P = IsParsed ts in
    on_if P (next_is (codes "[") ts) (assert_in ts) _ (λ opens. read_assert ts) (λ n1.
    on_next P (codes "jmp") ts (jump_in (others ts)) _ (λ mark. on_weaken (IsJump (others ts)) P (jump_in (others ts)) (read_jump (others ts)) (λ s j. record { well = j.well; tokens = j.tokens ∙ mark _ refl })) (λ n2.
    on_next P (codes "call") ts (call_in (others ts)) _ (λ mark. on_weaken (IsCall (others ts)) P (call_in (others ts)) (read_call (others ts)) (λ s j. record { well = j.well; tokens = j.tokens ∙ mark _ refl })) (λ n3.
    on_next P (codes "ret") ts (ended ret (others ts)) _ (λ mark. on_ended P ret (others ts) (λ e. record { well = refl; tokens = mark _ e })) (λ n4.
    on_next P (codes "ap") ts (add_in (others ts)) _
    (λ mark. on_mark P (codes "+=") (others ts) (λ a. then_read (operand_first a) (λ x b. ended (add_ap x) b)) (λ adds.
    on_then (IsRead operand_then operand_spelled (others (others ts))) P (operand_first (others (others ts))) (λ x b. ended (add_ap x) b) (read_operand (others (others ts))) (λ x b d.
    on_ended P (add_ap x) b (λ e. record { well = d.well; tokens = mark _ (adds _ (d.tokens [] e)) }))))
    (λ n5.
    on_next P (codes "word") ts (then_read (numeral_first (others ts)) (λ n a. ended (word n) a)) None
    (λ mark. on_then (IsRead numeral_then numeral_spelled (others ts)) P (numeral_first (others ts)) (λ n a. ended (word n) a) (read_numeral (others ts)) (λ n a d.
    on_ended P (word n) a (λ e. record { well = d.well; tokens = mark _ (d.tokens [] e) })))
    (λ n6. tt))))))

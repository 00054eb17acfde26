-- The listing as a function is the listing, so each list of words has one.
use Rattle.casm_text.specs.Statements.{Statement, word, positive}
use Rattle.casm_text.specs.Words.{IsInstructed, IsWordOf, statement_fields, statement_numbers, numbers_at}
use Rattle.casm_text.specs.Lines.{fields_count, statement_size}
use Rattle.casm_text.specs.Listings.{IsPlain, nowhere, BeginsWith, IsListed, Lists}
use Rattle.casm_text.specs.Working.Rendering.{statement_for, reg_eq, fields_eq, is_word_of, is_given, listed_at, walk, statements_of}
use Rattle.casm_text.proofs.Tokenizing.{and_both}
use Rattle.casm_text.proofs.PlainStatements.{plain_for}
use Rattle.casm_text.proofs.Relists.{length_numbers}
use Rattle.casm_text.proofs.Sound.{both_true}
use Rattle.casm_text.proofs.Unique.{IsFor, same_for, first_of}
use Rattle.cairo_word.specs.Word.{Fields, fields_of, word_fault_of}
use Rattle.cairo_word.specs.declared.word.Reg.{Reg}
use Rattle.cairo_word.specs.declared.word.Reg.TheVariants.{Ap, Fp}
use Rattle.goldi_field.specs.Numbers.{prime}
use Rattle.std.proofs.Common.{◌≡◌, ℕ, zero, suc, ◌-◌, ◌<◌, ◌==◌, ℤ, Bool, true, false, not, inl, inr, List, [], ◌∷◌, ◌++◌, length, take, drop, get_or, Option, Some, None, is_some, refl, ap, sym, subst, ◌∙◌, arith, cond}
use Rattle.std.specs.Prelude.{decimal, bytes_eq}
use Rattle.std.specs.Ordering.{int_eq}
use Rattle.std.specs.List.{AllByRecursion}
use Rattle.std.proofs.lemmas.Bool.Decides.{Decides-int_eq, nat_tests}
use Rattle.std.proofs.lemmas.Bool.{false≢true}
use Rattle.std.proofs.lemmas.Slice.Eq.{bytes_eq-Decides}
use Rattle.std.proofs.lemmas.List.{take-append-drop, take_at}

same_reg : (a b : Reg) → reg_eq a b ≡ true → a ≡ b
same_reg Ap Ap h = refl
same_reg Fp Fp h = refl
same_reg Ap Fp h = absurd (false≢true h)
same_reg Fp Ap h = absurd (false≢true h)

reg_self : (a : Reg) → reg_eq a a ≡ true
reg_self Ap = refl
reg_self Fp = refl

same_int : (a b : ℤ) → int_eq a b ≡ true → a ≡ b
same_int a b h = (Decides-int_eq a b).0 h

same_nat : (a b : ℕ) → a == b ≡ true → a ≡ b
same_nat a b h = grind (arith, nat_tests)

nat_self : (a : ℕ) → a == a ≡ true
nat_self a = grind (arith, nat_tests)

pub same_fields : (f g : Fields) → fields_eq f g ≡ true → f ≡ g
same_fields f g h =
    let a = and_both (int_eq f.off_dst g.off_dst) _ h in
    let b = and_both (int_eq f.off_op0 g.off_op0) _ a.1 in
    let c = and_both (int_eq f.off_op1 g.off_op1) _ b.1 in
    let d = and_both (reg_eq f.dst_reg g.dst_reg) _ c.1 in
    let e = and_both (reg_eq f.op0_reg g.op0_reg) _ d.1 in
    let k = and_both (f.op1_src == g.op1_src) _ e.1 in
    let l = and_both (f.res_logic == g.res_logic) _ k.1 in
    let m = and_both (f.pc_update == g.pc_update) _ l.1 in
    let n = and_both (f.ap_update == g.ap_update) (f.opcode == g.opcode) m.1 in
    let off_dst = same_int f.off_dst g.off_dst a.0 in
    let off_op0 = same_int f.off_op0 g.off_op0 b.0 in
    let off_op1 = same_int f.off_op1 g.off_op1 c.0 in
    let dst_reg = same_reg f.dst_reg g.dst_reg d.0 in
    let op0_reg = same_reg f.op0_reg g.op0_reg e.0 in
    let op1_src = same_nat f.op1_src g.op1_src k.0 in
    let res_logic = same_nat f.res_logic g.res_logic l.0 in
    let pc_update = same_nat f.pc_update g.pc_update m.0 in
    let ap_update = same_nat f.ap_update g.ap_update n.0 in
    let opcode = same_nat f.opcode g.opcode n.1 in
    λ i. record {
      off_dst = off_dst i;
      off_op0 = off_op0 i;
      off_op1 = off_op1 i;
      dst_reg = dst_reg i;
      op0_reg = op0_reg i;
      op1_src = op1_src i;
      res_logic = res_logic i;
      pc_update = pc_update i;
      ap_update = ap_update i;
      opcode = opcode i;
    }

int_self : (a : ℤ) → int_eq a a ≡ true
int_self a = (Decides-int_eq a a).1 refl

pub fields_self : (f : Fields) → fields_eq f f ≡ true
fields_self f =
    both_true _ _ (int_self f.off_dst) (both_true _ _ (int_self f.off_op0) (both_true _ _ (int_self f.off_op1) (both_true _ _ (reg_self f.dst_reg) (both_true _ _ (reg_self f.op0_reg)
    (both_true _ _ (nat_self f.op1_src) (both_true _ _ (nat_self f.res_logic) (both_true _ _ (nat_self f.pc_update) (both_true _ _ (nat_self f.ap_update) (nat_self f.opcode)))))))))

pub no_fault : {A : Type 0} (o : Option A) → not (is_some o) ≡ true → o ≡ None
no_fault None h = refl
no_fault (Some a) h = absurd (false≢true h)

pub no_fault_is : {A : Type 0} (o : Option A) → o ≡ None → not (is_some o) ≡ true
no_fault_is None h = refl
no_fault_is (Some a) h = cc

instructed : (o : Option Fields) (w : ℕ) (ns : List ℕ) → is_word_of o w ≡ true → IsInstructed o ns (w ∷ ns)
instructed None w ns h = absurd (false≢true h)
instructed (Some f) w ns h =
    let both = and_both (not (is_some (word_fault_of w))) (fields_eq (fields_of w) f) h in
    (w, record { sound = no_fault (word_fault_of w) both.0; fields = same_fields (fields_of w) f both.1 }, refl)

-- the two parts of the test, from words that begin so
pub record IsTold (o : Option Fields) (w : ℕ) (words ns rest : List ℕ) : Type 0 where
  pub word : is_word_of o w ≡ true
  pub numbers : words ≡ ns ++ rest

instructed_is : (f : Fields) (w : ℕ) (words ns first rest : List ℕ) → IsInstructed (Some f) ns first → w ∷ words ≡ first ++ rest → IsTold (Some f) w words ns rest
instructed_is f w words ns first rest (v, is_word, same) is =
    let both : w ∷ words ≡ v ∷ (ns ++ rest) = is ∙ ap (λ (l : List ℕ). l ++ rest) same in
    let head : v ≡ w = cc in
    let tail : words ≡ ns ++ rest = cc in
    let of_word = subst (λ (x : ℕ). IsWordOf f x) head is_word in
    record {
      word = both_true _ _ (no_fault_is (word_fault_of w) of_word.sound) (subst (λ (g : Fields). fields_eq g f ≡ true) (sym of_word.fields) (fields_self f));
      numbers = tail;
    }

told : (o : Option Fields) (s : Statement) (w : ℕ) (words ns first rest : List ℕ) → IsFor s o → IsInstructed o ns first → w ∷ words ≡ first ++ rest → IsTold o w words ns rest
told None s w words ns first rest same h is = absurd same
told (Some f) s w words ns first rest same h is = instructed_is f w words ns first rest h is

-- where a plain statement gives the words, the test is true of it
given_is : (s : Statement) (w : ℕ) (words rest : List ℕ) → BeginsWith (w ∷ words) s rest → is_given s w words ≡ true
given_is s w words rest (first, is, gives, plain) =
    let t = told (statement_fields s) s w words (numbers_at nowhere 0 (statement_numbers s)) first rest (same_for s plain) gives is in
    let count : length (numbers_at nowhere 0 (statement_numbers s)) ≡ length (statement_numbers s) = length_numbers nowhere 0 (statement_numbers s) in
    let front : take (length (statement_numbers s)) words ≡ numbers_at nowhere 0 (statement_numbers s) =
    ap (take (length (statement_numbers s))) t.numbers ∙ take_at (numbers_at nowhere 0 (statement_numbers s)) rest (length (statement_numbers s)) count in
    both_true _ _ t.word ((bytes_eq-Decides (take (length (statement_numbers s)) words) (numbers_at nowhere 0 (statement_numbers s))).1 front)

-- and where it is true, the statement gives the words
given_gives : (s : Statement) (w : ℕ) (words : List ℕ) → IsPlain s → is_given s w words ≡ true → BeginsWith (w ∷ words) s (drop (length (statement_numbers s)) words)
given_gives s w words plain h =
    let both = and_both (is_word_of (statement_fields s) w) (bytes_eq (take (length (statement_numbers s)) words) (numbers_at nowhere 0 (statement_numbers s))) h in
    let front = (bytes_eq-Decides (take (length (statement_numbers s)) words) (numbers_at nowhere 0 (statement_numbers s))).0 both.1 in
    let parts : words ≡ numbers_at nowhere 0 (statement_numbers s) ++ drop (length (statement_numbers s)) words =
    sym (take-append-drop (length (statement_numbers s)) words) ∙ ap (λ (l : List ℕ). l ++ drop (length (statement_numbers s)) words) front in
    (w ∷ numbers_at nowhere 0 (statement_numbers s), ap (λ (l : List ℕ). w ∷ l) parts, instructed (statement_fields s) w (numbers_at nowhere 0 (statement_numbers s)) both.0, plain)

-- a word's statement has an instruction
size_of_plain : (o : Option Fields) (s : Statement) → IsFor s o → fields_count o ≡ 1
size_of_plain None s h = absurd h
size_of_plain (Some f) s h = refl

below_head : (words : List ℕ) → AllByRecursion (λ w. w < prime) words → get_or words 0 0 < prime
below_head [] h = omega arith
below_head (w ∷ words) h = h.0

-- the statement at the front, by the outcome of the test
front_listed : (b : Bool) (s : Statement) (w : ℕ) (words : List ℕ) → is_given s w words ≡ b → IsPlain s → ((other : Statement) (after : List ℕ) → BeginsWith (w ∷ words) other after → other ≡ s)
    → IsListed (w ∷ words) (cond b s (word (positive (decimal w)))) (drop (statement_size (cond b s (word (positive (decimal w)))) - 1) words)
front_listed true s w words h plain only =
    let one = size_of_plain (statement_fields s) s (same_for s plain) in
    let count : statement_size s - 1 ≡ length (statement_numbers s) = omega arith in
    inl (subst (λ (n : ℕ). BeginsWith (w ∷ words) s (drop n words)) (sym count) (given_gives s w words plain h))
front_listed false s w words h plain only =
    inr (w, refl, refl, λ other after begins. false≢true (sym h ∙ given_is s w words after (subst (λ (t : Statement). BeginsWith (w ∷ words) t after) (only other after begins) begins)))

walk_lists : (skip : ℕ) (words : List ℕ) → AllByRecursion (λ w. w < prime) words → Lists (drop skip words) (walk skip words)
walk_lists zero [] h = refl
walk_lists (suc skip) [] h = refl
walk_lists (suc skip) (w ∷ words) h = walk_lists skip words h.1
walk_lists zero (w ∷ words) h =
    let listed = front_listed (is_given (statement_for (fields_of w) words) w words) (statement_for (fields_of w) words) w words refl (plain_for w words (below_head words h.1))
    (λ other after begins. sym (first_of (w ∷ words) other after begins)) in
    (drop (statement_size (listed_at w words) - 1) words, listed, walk_lists (statement_size (listed_at w words) - 1) words h.1)

-- each list of words has a listing
pub lists_statements : (words : List ℕ) → AllByRecursion (λ w. w < prime) words → Lists words (statements_of words)
lists_statements words h = walk_lists 0 words h

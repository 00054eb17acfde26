-- The tokens of a line spell at most one line, and reading gives it; so a text is at most one list of lines.
use Rattle.casm_text.specs.Tokens.{before_comment}
use Rattle.casm_text.proofs.LongestTokens.{one_token_list}
use Rattle.casm_text.specs.Statements.{Statement, tokens_of, is_name}
use Rattle.casm_text.specs.Lines.{Line, empty_line, label_line, statement_line, Spells, IsLine, AreLines}
use Rattle.casm_text.specs.Working.Parsing.{next_is, others, ended, statement_in, label_in, line_or, line_in}
use Rattle.casm_text.proofs.Parses.{parse_statement, no_word, not_true}
use Rattle.casm_text.proofs.Sound.{On, IsParsed, read_statement, next_gives, on_ended, on_if}
use Rattle.casm_text.proofs.Tokenizing.{and_both}
use Rattle.std.proofs.Common.{◌≡◌, ℕ, true, false, ◌&&◌, List, [], ◌∷◌, Option, Some, None, refl, ap, ap₂, sym, subst, ◌∙◌}
use Rattle.std.specs.Prelude.{codes, bytes_eq, option_map}

no_label_statement : (name : List ℕ) (ts : List (List ℕ)) → is_name name ≡ true → statement_in (name ∷ ts) ≡ None
no_label_statement name ts h =
    let a : bytes_eq name (codes "[") ≡ false = no_word name (codes "[") h refl in
    let b : bytes_eq name (codes "jmp") ≡ false = no_word name (codes "jmp") h refl in
    let c : bytes_eq name (codes "call") ≡ false = no_word name (codes "call") h refl in
    let d : bytes_eq name (codes "ret") ≡ false = no_word name (codes "ret") h refl in
    let e : bytes_eq name (codes "ap") ≡ false = no_word name (codes "ap") h refl in
    let f : bytes_eq name (codes "word") ≡ false = no_word name (codes "word") h refl in
    rw (a, b, c, d, e, f) refl

label_parsed : (name : List ℕ) → is_name name ≡ true → line_in (name ∷ codes ":" ∷ []) ≡ Some (label_line name)
label_parsed name h = rw h refl

-- the label reading of a statement's tokens fails
no_statement_label : (ts : List (List ℕ)) (s : Statement) → statement_in ts ≡ Some s → label_in ts ≡ None
no_statement_label [] s h = refl
no_statement_label (t ∷ ts) s h =
    let no_name : is_name t ≡ false = not_true (is_name t) (λ is. cc (no_label_statement t ts is, h)) in
    rw no_name refl

line_parsed : (ts : List (List ℕ)) (s : Statement) → statement_in ts ≡ Some s → line_in ts ≡ Some (statement_line s)
line_parsed [] s h = cc
line_parsed (t ∷ ts) s h =
    let no_label : label_in (t ∷ ts) ≡ None = no_statement_label (t ∷ ts) s h in
    rw (no_label, h) refl

pub spelled_line : (ts : List (List ℕ)) (l : Line) → Spells ts l → line_in ts ≡ Some l
spelled_line ts empty_line h = ap line_in h
spelled_line ts (label_line name) h = ap line_in h.0 ∙ label_parsed name h.1
spelled_line ts (statement_line s) h = ap line_in h.0 ∙ line_parsed (tokens_of s) s (parse_statement s h.1)

on_or : {B : Type 0} (P : B → Type 0) (a b : Option B) → On P a → On P b → On P (line_or a b)
on_or P None b h k = k
on_or P (Some x) b h k = h

on_map : {A B : Type 0} (P : A → Type 0) (Q : B → Type 0) (f : A → B) (o : Option A) → On P o → ((a : A) → P a → Q (f a)) → On Q (option_map f o)
on_map P Q f None h k = tt
on_map P Q f (Some a) h k = k a h

read_label : (t : List ℕ) (ts : List (List ℕ)) → On (Spells (t ∷ ts)) (label_in (t ∷ ts))
read_label t ts =
    on_if (Spells (t ∷ ts)) (is_name t && next_is (codes ":") ts) (ended (label_line t) (others ts)) None
    (λ is.
    let both = and_both (is_name t) (next_is (codes ":") ts) is in
    on_ended (Spells (t ∷ ts)) (label_line t) (others ts) (λ e. (ap (λ (l : List (List ℕ)). t ∷ l) (sym (next_gives (codes ":") ts both.1) ∙ ap (λ (l : List (List ℕ)). codes ":" ∷ l) (sym e)), both.0)))
    (λ is_not. tt)

pub read_line : (ts : List (List ℕ)) → On (Spells ts) (line_in ts)
read_line [] = refl
read_line (t ∷ ts) =
    on_or (Spells (t ∷ ts)) (label_in (t ∷ ts)) (option_map (λ s. statement_line s) (statement_in (t ∷ ts))) (read_label t ts)
    (on_map (IsParsed (t ∷ ts)) (Spells (t ∷ ts)) (λ s. statement_line s) (statement_in (t ∷ ts)) (read_statement (t ∷ ts)) (λ s p. (sym p.tokens, p.well)))

pub one_line : (ts : List (List ℕ)) (a b : Line) → Spells ts a → Spells ts b → a ≡ b
one_line ts a b h k =
    let same : Some a ≡ Some b = sym (spelled_line ts a h) ∙ spelled_line ts b k in
    cc

pub same_line : (bytes : List ℕ) (a b : Line) → IsLine bytes a → IsLine bytes b → a ≡ b
same_line bytes a b (ts, are, spells) (us, are_too, spells_too) =
    let same : us ≡ ts = one_token_list (before_comment bytes) us ts are_too are in
    one_line ts a b spells (subst (λ (l : List (List ℕ)). Spells l b) same spells_too)

pub one_text : (ls : List (List ℕ)) (a b : List Line) → AreLines ls a → AreLines ls b → a ≡ b
one_text [] a b h k = h ∙ sym k
one_text (l ∷ ls) a b (x, xs, is_a, line_x, more_x) (y, ys, is_b, line_y, more_y) =
    is_a ∙ (ap₂ (λ (z : Line) (zs : List Line). z ∷ zs) (same_line l x y line_x line_y) (one_text ls xs ys more_x more_y) ∙ sym is_b)

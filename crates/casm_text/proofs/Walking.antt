-- The walk over words, a statement at a time.
use Rattle.casm_text.specs.Lines.{statement_size}
use Rattle.casm_text.specs.Listings.{listing_text}
use Rattle.casm_text.specs.Statements.{Statement, statement_text}
use Rattle.casm_text.specs.Working.Rendering.{listed_at, walk, statements_of}
use Rattle.casm_text.specs.Working.Writing.{PutsLine}
use Rattle.goldi_field.specs.Numbers.{IsFelt}
use Rattle.std.proofs.Common.{◌≡◌, ℕ, zero, suc, ◌+◌, ◌-◌, ◌<◌, ◌≤◌, List, [], ◌∷◌, ◌++◌, length, drop, get_or, refl, ap, sym, subst, ◌∙◌, arith, append_assoc, append-nil}
use Rattle.std.proofs.lemmas.List.{drop_all, drop_more, drop-drop}
use Rattle.std.specs.List.{AllByRecursion}

all_dropped : (n : ℕ) (words : List ℕ) → AllByRecursion IsFelt words → AllByRecursion IsFelt (drop n words)
all_dropped zero words h = h
all_dropped (suc n) [] h = h
all_dropped (suc n) (w ∷ words) h = all_dropped n words h.1

-- the word at an index and those after it are field numbers
pub record AreFelts (w : ℕ) (words : List ℕ) : Type 0 where
  pub word : IsFelt w
  pub after : AllByRecursion IsFelt words

pub felts_from : (words : List ℕ) (at : ℕ) → at < length words → AllByRecursion IsFelt words → AreFelts (get_or words at 0) (drop (at + 1) words)
felts_from words at inside h =
    let here : AllByRecursion IsFelt (get_or words at 0 ∷ drop (at + 1) words) = subst (AllByRecursion IsFelt) (drop_more words at 0 inside) (all_dropped at words h) in
    record { word = here.0; after = here.1 }

walk_dropped : (n : ℕ) (words : List ℕ) → walk n words ≡ statements_of (drop n words)
walk_dropped zero words = refl
walk_dropped (suc n) [] = refl
walk_dropped (suc n) (w ∷ words) = walk_dropped n words

-- the text so far and the listing of the words from here on are the listing of all
abbrev pub Told : List ℕ → List ℕ → ℕ → Type 0
Told words text at = text ++ listing_text (statements_of (drop at words)) ≡ listing_text (statements_of words)

ended : (before after line more : List ℕ) → after ≡ before ++ (line ++ (10 ∷ [])) → after ++ more ≡ before ++ (line ++ (10 ∷ more))
ended before after line more h =
    ap (λ (text : List ℕ). text ++ more) h ∙ (append_assoc before (line ++ (10 ∷ [])) more ∙ ap (λ (text : List ℕ). before ++ text) (append_assoc line (10 ∷ []) more))

pub line_on : (words before after : List ℕ) (at size : ℕ) → at < length words → 0 < size → size ≡ statement_size (listed_at (get_or words at 0) (drop (at + 1) words))
    → Told words before at → PutsLine before after (listed_at (get_or words at 0) (drop (at + 1) words)) → Told words after (at + size)
line_on words before after at size inside some is told line =
    let s : Statement = listed_at (get_or words at 0) (drop (at + 1) words) in
    let count : at + 1 + (statement_size s - 1) ≡ at + size = omega (arith, is) in
    let rest : walk (statement_size s - 1) (drop (at + 1) words) ≡ statements_of (drop (at + size) words) =
    walk_dropped (statement_size s - 1) (drop (at + 1) words) ∙ (ap statements_of (drop-drop (statement_size s - 1) (at + 1) words) ∙ ap (λ (n : ℕ). statements_of (drop n words)) count) in
    let here : listing_text (statements_of (drop at words)) ≡ statement_text s ++ (10 ∷ listing_text (statements_of (drop (at + size) words))) =
    ap (λ (ws : List ℕ). listing_text (statements_of ws)) (drop_more words at 0 inside) ∙ ap (λ (ss : List Statement). statement_text s ++ (10 ∷ listing_text ss)) rest in
    ended before after (statement_text s) (listing_text (statements_of (drop (at + size) words))) line ∙ (ap (λ (text : List ℕ). before ++ text) (sym here) ∙ told)

-- at the end of the words the text is their listing
pub listed_all : (words text : List ℕ) (at : ℕ) → length words ≤ at → Told words text at → text ≡ listing_text (statements_of words)
listed_all words text at past told =
    sym (append-nil text) ∙ (ap (λ (rest : List ℕ). text ++ listing_text (statements_of rest)) (sym (drop_all at words past)) ∙ told)

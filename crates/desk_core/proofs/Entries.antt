-- Journals of which one entry more is written.
use Rattle.std.proofs.Common.{◌≡◌, ℕ, ◌+◌, Bool, true, false, cond, List, [], ◌∷◌, ◌++◌, length, refl, ap, ◌∙◌, arith}
use Rattle.std.specs.Prelude.{Option, Some, None}
use Rattle.std.proofs.lemmas.List.{append-nil}
use Rattle.std.proofs.lemmas.List.Elements.{filter_map-append}
use Rattle.cairo_model.specs.Pie.Records.{PieRecord}
use Rattle.desk_core.specs.DeskRecords.{admitted_in, full_entries, pie_taken, pies_left, registered_in, registers_at}
use Rattle.desk_core.specs.Quotas.{is_admitted}
use Rattle.desk_core.specs.declared.entry.Entry.{Entry}
use Rattle.desk_core.specs.declared.entry.FullEntry.{FullEntry}

left_counts : (b : Bool) (pies : List PieRecord) (n : ℕ) → cond b 1 0 + n ≡ length pies → n ≡ length (pies_left b pies)
left_counts true [] n h = absurd (omega (arith, h))
left_counts true (p ∷ pies) n h = omega (arith, h)
left_counts false pies n h = omega (arith, h)

taken_same : (b : Bool) (pies : List PieRecord) (n : ℕ) (p : PieRecord) → cond b 1 0 + n ≡ length pies → pie_taken b (pies ++ p ∷ []) ≡ pie_taken b pies
taken_same true [] n p h = absurd (omega (arith, h))
taken_same true (q ∷ pies) n p h = refl
taken_same false pies n p h = refl

left_more : (b : Bool) (pies : List PieRecord) (n : ℕ) (p : PieRecord) → cond b 1 0 + n ≡ length pies → pies_left b (pies ++ p ∷ []) ≡ pies_left b pies ++ p ∷ []
left_more true [] n p h = absurd (omega (arith, h))
left_more true (q ∷ pies) n p h = refl
left_more false pies n p h = refl

abbrev full : Entry → Option PieRecord → FullEntry
full e o = record { entry = e; pie = o }

-- no PIE was admitted
pub full_same : (es : List Entry) (e : Entry) (pies : List PieRecord) → is_admitted e.reply ≡ false → full_entries (es ++ e ∷ []) pies ≡ full_entries es pies ++ full e None ∷ []
full_same [] e pies not_in = ap (λ (b : Bool). full e (pie_taken b pies) ∷ []) not_in
full_same (x ∷ es) e pies not_in = ap (λ (fs : List FullEntry). full x (pie_taken (is_admitted x.reply) pies) ∷ fs) (full_same es e (pies_left (is_admitted x.reply) pies) not_in)

-- one was
pub full_new : (es : List Entry) (e : Entry) (pies : List PieRecord) (p : PieRecord) → admitted_in es ≡ length pies → is_admitted e.reply ≡ true
    → full_entries (es ++ e ∷ []) (pies ++ p ∷ []) ≡ full_entries es pies ++ full e (Some p) ∷ []
full_new [] e [] p h is_in = ap (λ (b : Bool). full e (pie_taken b (p ∷ [])) ∷ []) is_in
full_new [] e (q ∷ pies) p h is_in = absurd (omega (arith, h))
full_new (x ∷ es) e pies p h is_in =
    let b : Bool = is_admitted x.reply in
    let rest = full_new es e (pies_left b pies) p (left_counts b pies (admitted_in es) h) is_in in
    let taken = taken_same b pies (admitted_in es) p h in
    let left = left_more b pies (admitted_in es) p h in
    λ i. full x (taken i) ∷ (ap (full_entries (es ++ e ∷ [])) left ∙ rest) i

pub admitted_more : (es : List Entry) (e : Entry) → admitted_in (es ++ e ∷ []) ≡ admitted_in es + cond (is_admitted e.reply) 1 0
admitted_more [] e = omega arith
admitted_more (x ∷ es) e = omega (arith, admitted_more es e)

-- none is registered
pub registered_same : (es : List Entry) (e : Entry) → registers_at e.event e.reply ≡ None → registered_in (es ++ e ∷ []) ≡ registered_in es
registered_same es e none = filter_map-append (λ (x : Entry). registers_at x.event x.reply) es (e ∷ []) ∙ rw none (append-nil (registered_in es))

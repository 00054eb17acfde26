-- The magic, the kind, the spans and the number of tasks are taken.
use Rattle.std.proofs.Common.{◌≡◌, ℕ, ◌+◌, Bool, true, false, cond, eqb, ◌&&◌, not, List, [], ◌++◌, length, take, drop, Option, Some, Result, Ok, Err, refl, sym, ap, ap₂, subst, ◌∙◌, arith, length-append}
use Rattle.std.specs.Prelude.{option_and_then, ◌==◌}
use Rattle.std.specs.List.{starts_with}
use Rattle.std.proofs.lemmas.Bool.{le-ltb, cond-true, cond-false}
use Rattle.std.proofs.lemmas.List.{drop-drop, length-drop, take-append-le, drop-append-le}
use Rattle.cairo_model.specs.Machine.Steps.{◌>>=◌, required, demanded}
use Rattle.cairo_model.specs.Certificate.Records.{CertRecord}
use Rattle.cert_format.specs.declared.refusal.CertRefusal.{CertRefusal}
use Rattle.cert_format.specs.declared.refusal.CertRefusal.TheVariants.{BadMagic, Truncated, BadNumber}
use Rattle.cert_format.specs.declared.stage.Stage.{Stage}
use Rattle.cert_format.specs.declared.stage.Stage.TheVariants.{Foreign, Marks}
use Rattle.cert_format.specs.Spelling.{certificate_magic}
use Rattle.cert_format.specs.Reading.{has_magic, bytes_after, after_lists, after_all, after_marks, after_counted, place_of, count_at, Reads, kind_at, span_at, is_alone, task_count_at, items_at, list_at, mark_at, cell_numbers_at, state_at, Draft, draft_at, with_draft, reading}
use Rattle.cert_format.specs.Feeding.{FrontRecord, Partial, after_tasks, with_front, marks_read, noted, body_in, rest_of}
use Rattle.cert_format.specs.Working.Taking.{head_at, front_at, kept, going, count_in, marks_left, front_taken, nothing}
use Rattle.cert_format.proofs.LocalReads.{with_tail, front_with, head_local, count_unit, task_count_of, task_count_is}
use Rattle.cert_format.proofs.FieldLaws.{count_parts}
use Rattle.cert_format.proofs.PartsPass.{to_marks}
use Rattle.cert_format.proofs.ReadersScan.{with_count, with_kind, with_output, with_range, with_hash}

-- ---- the draft by its head

by_bind : {A B C : Type 0} (m : Reads A) (f : A × List ℕ → Reads B) (g : B × List ℕ → Reads C) (h : A × List ℕ → Reads C) → ((x : A × List ℕ) → f x >>= g ≡ h x) → (m >>= f) >>= g ≡ m >>= h
by_bind (Ok x) f g h same = same x
by_bind (Err e) f g h same = refl

abbrev with_head : ℕ → FrontRecord × List ℕ → Reads Draft
with_head whole f = task_count_at whole f.0.kind f.1 >>= with_count whole f.0.kind f.0.output f.0.range f.0.hash

draft_head : (whole : ℕ) (bytes : List ℕ) → head_at whole bytes >>= with_head whole ≡ draft_at whole bytes
unfolding head_at draft_at
draft_head whole bytes =
    by_bind (kind_at whole bytes) (λ k. span_at whole k.1 >>= λ o. span_at whole o.1 >>= λ r. span_at whole r.1 >>= λ h. Ok (front_with k.0 o.0 r.0 h.0, h.1)) (with_head whole) (with_kind whole) (λ k.
    by_bind (span_at whole k.1) (λ o. span_at whole o.1 >>= λ r. span_at whole r.1 >>= λ h. Ok (front_with k.0 o.0 r.0 h.0, h.1)) (with_head whole) (with_output whole k.0) (λ o.
    by_bind (span_at whole o.1) (λ r. span_at whole r.1 >>= λ h. Ok (front_with k.0 o.0 r.0 h.0, h.1)) (with_head whole) (with_range whole k.0 o.0) (λ r.
    by_bind (span_at whole r.1) (λ h. Ok (front_with k.0 o.0 r.0 h.0, h.1)) (with_head whole) (with_hash whole k.0 o.0 r.0) (λ h. refl))))

-- with nothing in front
none_before : {A B : Type 0} (r : Reads (List A)) (g h : List A × List ℕ → Reads B) → ((x : List A × List ℕ) → g x ≡ h x) → r >>= g ≡ with_front [] r >>= h
none_before (Ok x) g h same = same x
none_before (Err e) g h same = refl

-- a reader that has read the front, and nothing else
abbrev with_nothing : ℕ → Stage → FrontRecord → Partial
with_nothing place stage f = record nothing { place = place; stage = stage; front = f }

tasks_from : (w place c : ℕ) (stage : Stage) (f : FrontRecord) (t : List ℕ) → with_count w f.kind f.output f.range f.hash (c, t) ≡ marks_read w (with_nothing place stage f) c t
tasks_from w place c stage f t =
    none_before (items_at (mark_at w) c t) _ _ (λ ms.
    none_before (list_at w (cell_numbers_at w) ms.1) _ _ (λ cs.
    none_before (list_at w (state_at w) cs.1) _ _ (λ ss. refl)))

-- ---- the head and the number of tasks

module _ (u t : List ℕ) (len : length u ≡ 61) where
  abbrev d : List ℕ
  d = drop 8 u

  abbrev last : List ℕ
  last = drop 57 u

  abbrev c : ℕ
  c = count_in last

  abbrev w : ℕ
  w = 61 + length t

  -- the bytes behind the magic: 49 of the head, and four
  head : List ℕ
  head = take 49 d

  d_long : length d ≡ 53
  d_long = omega (arith, len, length-drop 8 u)

  last_is : drop 49 d ≡ last
  last_is = drop-drop 49 8 u

  last_long : length last ≡ 4
  last_long = omega (arith, len, length-drop 57 u)

  -- lengths
  pub all_after : after_all (d ++ t) ≡ after_tasks c t
  unfolding after_lists
  all_after =
      let there : bytes_after 49 (d ++ t) ≡ Some (last ++ t) =
      rw (le-ltb (length (d ++ t)) 49 (omega (arith, d_long, length-append d t)), drop-append-le 49 d t (omega (arith, d_long)), last_is) refl in
      ap (option_and_then after_lists) there
      ∙ ap (option_and_then (λ (m : ℕ × List ℕ). option_and_then (λ cells. option_and_then (after_counted 24) (after_counted 16 cells)) (after_marks m.0 m.1))) (count_unit last t last_long)

  -- what is read of it
  abbrev keep : FrontRecord → Partial
  keep f = record nothing { front = f }

  abbrev reader : Stage → Reads FrontRecord → Partial
  reader stage r = going (kept nothing r keep) 61 stage

  abbrev Same : Stage → Reads FrontRecord → Type 0
  Same stage r = draft_at w (d ++ t) ≡ noted (reader stage r).bad (marks_read w (reader stage r) c t)

  refused : (stage : Stage) (e : CertRefusal) → front_at 61 d ≡ Err e → draft_at w (d ++ t) ≡ Err e → Same stage (front_at 61 d)
  refused stage e front draft = subst (λ (r : Reads FrontRecord). Same stage r) (sym front) draft

  read_on : (stage : Stage) (x : FrontRecord × List ℕ) → front_at 61 d ≡ Ok x → draft_at w (d ++ t) ≡ with_count w x.0.kind x.0.output x.0.range x.0.hash (c, t) → Same stage (front_at 61 d)
  read_on stage x front draft = subst (λ (r : Reads FrontRecord). Same stage r) (sym front) (draft ∙ tasks_from w 61 c stage x.0 t)

  abbrev then_count : FrontRecord × List ℕ → Reads FrontRecord
  then_count head = task_count_at 61 head.0.kind head.1 >>= λ count. Ok (head.0, count.1)

  module _ (stage : Stage) (h : FrontRecord × List ℕ) (is : head_at 61 d ≡ Ok h) where
    abbrev test : Bool
    test = is_alone h.0.kind && not (eqb c 0)

    behind : h.1 ≡ last
    behind = head_local.rest 61 d h (omega (arith, d_long)) is ∙ last_is

    front_is : front_at 61 d ≡ task_count_of 57 h.0.kind c (drop 4 last) >>= λ count. Ok (h.0, count.1)
    unfolding front_at
    front_is =
        let counts : count_at last ≡ Some (c, drop 4 last) = count_parts last (drop 4 last) c (omega (arith, last_long)) refl refl in
        let place : place_of 61 last ≡ 57 = omega (arith, last_long) in
        ap (λ (r : Reads FrontRecord). r >>= then_count) is
        ∙ (ap (λ (b : List ℕ). then_count (h.0, b)) behind
        ∙ (ap (λ (r : Reads ℕ). r >>= λ count. Ok (h.0, count.1)) (task_count_is 61 h.0.kind last (drop 4 last) c counts)
        ∙ ap (λ (p : ℕ). task_count_of p h.0.kind c (drop 4 last) >>= λ count. Ok (h.0, count.1)) place))

    draft_is : draft_at w (d ++ t) ≡ task_count_of 57 h.0.kind c t >>= with_count w h.0.kind h.0.output h.0.range h.0.hash
    draft_is =
        let place : place_of w (last ++ t) ≡ 57 = omega (arith, last_long, length-append last t) in
        let next = with_count w h.0.kind h.0.output h.0.range h.0.hash in
        sym (draft_head w (d ++ t))
        ∙ (ap (λ (r : Reads FrontRecord). r >>= with_head w) (head_local.same 61 d t (omega (arith, d_long)) ∙ ap (with_tail t) is)
        ∙ (ap (λ (b : List ℕ). with_head w (h.0, b ++ t)) behind
        ∙ (ap (λ (r : Reads ℕ). r >>= next) (task_count_is w h.0.kind (last ++ t) t c (count_unit last t last_long))
        ∙ ap (λ (p : ℕ). task_count_of p h.0.kind c t >>= next) place)))

    abbrev last_count : FrontRecord → Reads ℕ → Reads FrontRecord
    last_count f r = r >>= λ count. Ok (f, count.1)

    by_count : (b : Bool) → test ≡ b → Same stage (front_at 61 d)
    by_count true bad =
        let first : task_count_of 57 h.0.kind c (drop 4 last) ≡ Err (BadNumber 57) = cond-true _ _ _ bad in
        let second : task_count_of 57 h.0.kind c t ≡ Err (BadNumber 57) = cond-true _ _ _ bad in
        refused stage (BadNumber 57) (front_is ∙ ap (last_count h.0) first)
        (draft_is ∙ ap (λ (r : Reads ℕ). r >>= with_count w h.0.kind h.0.output h.0.range h.0.hash) second)
    by_count false good =
        let first : task_count_of 57 h.0.kind c (drop 4 last) ≡ Ok (c, drop 4 last) = cond-false _ _ _ good in
        let second : task_count_of 57 h.0.kind c t ≡ Ok (c, t) = cond-false _ _ _ good in
        read_on stage (h.0, drop 4 last) (front_is ∙ ap (last_count h.0) first)
        (draft_is ∙ ap (λ (r : Reads ℕ). r >>= with_count w h.0.kind h.0.output h.0.range h.0.hash) second)

  by_head : (stage : Stage) (r : Reads FrontRecord) → head_at 61 d ≡ r → Same stage (front_at 61 d)
  unfolding front_at
  by_head stage (Ok h) is = by_count stage h is (is_alone h.0.kind && not (eqb c 0)) refl
  by_head stage (Err e) is =
      refused stage e (ap (λ (r : Reads FrontRecord). r >>= then_count) is)
      (sym (draft_head w (d ++ t)) ∙ ap (λ (r : Reads FrontRecord). r >>= with_head w) (head_local.same 61 d t (omega (arith, d_long)) ∙ ap (with_tail t) is))

  front_same : (stage : Stage) → Same stage (front_at 61 d)
  front_same stage = by_head stage (head_at 61 d) refl

  kept_at : (r : Reads FrontRecord) → (kept nothing r keep).place ≡ 0
  kept_at (Ok x) = refl
  kept_at (Err e) = refl

  -- ---- the reading

  abbrev chain : ℕ → Bool → Option (List ℕ) → Result CertRecord CertRefusal
  chain whole b o = demanded BadMagic b >>= λ m. (required (Truncated whole) o >>= λ body. (required (Truncated whole) (after_all body) >>= λ rest. (draft_at whole body >>= λ draft. with_draft whole draft)))

  whole_is : length (u ++ t) ≡ w
  whole_is = omega (arith, len, length-append u t)

  reading_is : reading (u ++ t) ≡ chain w (has_magic u) (Some (d ++ t))
  unfolding reading
  reading_is =
      let begins : has_magic (u ++ t) ≡ has_magic u = ap (λ (x : List ℕ). starts_with ◌==◌ certificate_magic x) (take-append-le 8 u t (omega (arith, len))) in
      let there : bytes_after 8 (u ++ t) ≡ Some (d ++ t) = rw (le-ltb (length (u ++ t)) 8 (omega (arith, whole_is)), drop-append-le 8 u t (omega (arith, len))) refl in
      ap (λ (n : ℕ). chain n (has_magic (u ++ t)) (bytes_after 8 (u ++ t))) whole_is
      ∙ (ap (λ (b : Bool). chain w b (bytes_after 8 (u ++ t))) begins ∙ ap (λ (o : Option (List ℕ)). chain w (has_magic u) o) there)

  by_magic : (b : Bool) → has_magic u ≡ b → chain w b (Some (d ++ t)) ≡ rest_of (front_taken nothing u) t
  unfolding rest_of
  by_magic true is =
      let q : Partial = reader (marks_left c) (front_at 61 d) in
      let place : w ≡ q.place + length t = omega (arith, kept_at (front_at 61 d)) in
      ap₂ (λ (o : Option (List ℕ)) (r : Reads Draft). required (Truncated w) o >>= λ rest. (r >>= with_draft w)) all_after (front_same (marks_left c))
      ∙ (ap (λ (n : ℕ). body_in n (Marks c) q t) place
      ∙ (sym (to_marks c q t refl)
      ∙ ap (λ (b : Bool). rest_of (cond b q (going nothing 61 Foreign)) t) (sym is)))
  by_magic false is = ap (λ (b : Bool). rest_of (cond b (reader (marks_left c) (front_at 61 d)) (going nothing 61 Foreign)) t) (sym is)

  pub front_pass : reading (u ++ t) ≡ rest_of (front_taken nothing u) t
  front_pass = reading_is ∙ by_magic (has_magic u) refl

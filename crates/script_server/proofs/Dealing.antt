-- The passes of a new desk are dealt, and each of them can start.
use Rattle.std.proofs.Common.{◌≡◌, ℕ, zero, suc, ◌+◌, ◌<◌, List, [], ◌∷◌, ◌++◌, map, length, vec_len, refl, sym, ap, ◌∙◌, arith, length-append}
use Rattle.std.specs.List.{range_with_len}
use Rattle.std.specs.Prelude.{All}
use Rattle.std.proofs.lemmas.List.Elements.{All-cons, All-map, All-nil, All-same}
use Rattle.std.proofs.lemmas.List.FromFn.{length-map-range_with_len, map-range_with_len_more}
use Rattle.atomic_table.specs.Seated.{TableId}
use Rattle.desk_core.specs.declared.entry.FullEntry.{FullEntry}
use Rattle.script_server.specs.Working.Dealing.{AreDealt, CanAllStart, CanStart, IsClientPass}
use Rattle.script_server.specs.declared.passes.Dealt.{Dealt}
use Rattle.turn_lock.specs.Passes.{Token, fresh}
use Rattle.script_server.proofs.Lists.{cut_same, range_cut, same_last}

-- ---- who has which

whole_range : (f : ℕ → Token FullEntry) (c w n : ℕ) → n ≡ c + w + 1 → map f (range_with_len 0 n) ≡ map f (range_with_len 0 c) ++ (map f (range_with_len c w) ++ f (c + w) ∷ [])
whole_range f c w n count =
    let all : n ≡ c + (w + 1) = omega (arith, count) in
    let from : 0 + c ≡ c = omega arith in
    ap (λ (k : ℕ). map f (range_with_len 0 k)) all
    ∙ (range_cut f 0 c (w + 1)
    ∙ ap (λ (l : List (Token FullEntry)). map f (range_with_len 0 c) ++ l) (ap (λ (k : ℕ). map f (range_with_len k (w + 1))) from ∙ map-range_with_len_more f c w (c + w) refl))

pub are_dealt : (lock : TableId) (c w n : ℕ) (whole : List (Token FullEntry)) (d : Dealt) → n ≡ c + w + 1 → whole ≡ map (fresh lock c) (range_with_len 0 n)
    → whole ≡ d.clients.items ++ (d.workers.items ++ d.own ∷ []) → vec_len d.clients ≡ c → AreDealt lock c w d
are_dealt lock c w n whole d count are cut len =
    let f : ℕ → Token FullEntry = fresh lock c in
    let first = cut_same d.clients.items (map f (range_with_len 0 c)) (d.workers.items ++ d.own ∷ []) (map f (range_with_len c w) ++ f (c + w) ∷ []) (sym d.clients.ok.0 ∙ (len ∙ sym (length-map-range_with_len f 0 c))) (sym cut ∙ (are ∙ whole_range f c w n count)) in
    let rest : length (d.workers.items ++ d.own ∷ []) ≡ length (map f (range_with_len c w) ++ f (c + w) ∷ []) = ap length first.1 in
    let long : length d.workers.items ≡ length (map f (range_with_len c w)) = omega (arith, rest, length-append d.workers.items (d.own ∷ []), length-append (map f (range_with_len c w)) (f (c + w) ∷ [])) in
    let second = cut_same d.workers.items (map f (range_with_len c w)) (d.own ∷ []) (f (c + w) ∷ []) long first.1 in
    record { to_clients = first.0; to_workers = second.0; to_caller = same_last d.own (f (c + w)) second.1 }

-- so many workers have one
pub worker_count : (lock : TableId) (c w : ℕ) (d : Dealt) → AreDealt lock c w d → vec_len d.workers ≡ w
worker_count lock c w d are = d.workers.ok.0 ∙ (ap length are.to_workers ∙ length-map-range_with_len (fresh lock c) c w)

-- ---- fresh passes can start

fresh_starts : (lock : TableId) (width n : ℕ) → CanStart lock (fresh lock width n)
fresh_starts lock width n = record { own = refl; idle = λ b. refl }

fresh_clients : (lock : TableId) (width a n : ℕ) → a + n < width + 1 → All (IsClientPass lock) (map (fresh lock width) (range_with_len a n))
fresh_clients lock width a zero lt = All-nil (IsClientPass lock)
fresh_clients lock width a (suc n) lt =
    All-cons (IsClientPass lock) (fresh lock width a) (map (fresh lock width) (range_with_len (a + 1) n))
    (record { starts = fresh_starts lock width a; number = omega (arith, lt) })
    (fresh_clients lock width (a + 1) n (omega (arith, lt)))

pub can_all_start : (lock : TableId) (c w : ℕ) (d : Dealt) → AreDealt lock c w d → CanAllStart lock d
can_all_start lock c w d are = record {
  clients = All-same (IsClientPass lock) d.clients.items (map (fresh lock c) (range_with_len 0 c)) are.to_clients (fresh_clients lock c 0 c (omega arith));
  workers = All-same (CanStart lock) d.workers.items (map (fresh lock c) (range_with_len c w)) are.to_workers (All-map (CanStart lock) (fresh lock c) (range_with_len c w) (λ k x small. fresh_starts lock c _));
  own = ap (λ (p : Token FullEntry). p.lock) are.to_caller;
}

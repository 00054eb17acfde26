-- What stands in a memory stays while it grows.
use Rattle.std.proofs.Common.{◌≡◌, ℕ, ◌==◌, nat_le, Bool, true, false, if◌then◌else◌, sum, Option, Some, None, is_some, Result, Ok, Err, refl, sym, ap, subst, ◌∙◌}
use Rattle.cairo_word.specs.Word.{Fields}
use Rattle.cairo_model.proofs.Inversion.{value_exact}
use Rattle.cairo_model.proofs.Outcomes.{bind_gives, ok_is, tested, then_ok}
use Rattle.cairo_model.specs.Limits.{most_cells}
use Rattle.cairo_model.specs.Machine.Steps.{Registers}
use Rattle.cairo_model.specs.Machine.Values.{Datum, number, place, same_datum}
use Rattle.seg_runner.specs.Deductions.{by_assertion, by_hash, caller_frame, deduced_dst, deduced_op0, deduced_op1, put_asserted, return_address}
use Rattle.seg_runner.specs.Memories.{GrowingMemory, may_grow, put_at, put_deduced, put_where_absent, sizes_with, with_cell}
use Rattle.seg_runner.specs.Refusals.{RunCause, over_size}
use Rattle.seg_runner.specs.Steps.{with_first_puts, with_last_puts}

abbrev pub KeepsCells : GrowingMemory → GrowingMemory → Type 0
KeepsCells old new = (at v : Datum) → old.cells at ≡ Some v → new.cells at ≡ Some v

pub same_kept : (m after : GrowingMemory) → ◌≡◌ {A = Result GrowingMemory RunCause} (Ok m) (Ok after) → KeepsCells m after
same_kept m after e at v is = subst (λ (x : GrowingMemory). x.cells at ≡ Some v) (ok_is m after e) is

pub then_kept : (a b c : GrowingMemory) → KeepsCells a b → KeepsCells b c → KeepsCells a c
then_kept a b c first second at v is = second at v (first at v is)

stands_not : (o : Option Datum) (v : Datum) → o ≡ Some v → is_some o ≡ false → ⊥
stands_not (Some w) v is none = cc
stands_not None v is none = cc

cell_kept : (cells : Datum → Option Datum) (here w at v : Datum) (b : Bool) → is_some (cells here) ≡ false → same_datum at here ≡ b → cells at ≡ Some v → with_cell cells here w at ≡ Some v
cell_kept cells here w at v true absent same is =
    absurd (stands_not (cells here) v (sym (ap cells (value_exact.same_is at here same)) ∙ is) absent)
cell_kept cells here w at v false absent differs is = ap (λ (c : Bool). if c then Some w else cells at) differs ∙ is

at_kept : (n : ℕ) (m : GrowingMemory) (s o : ℕ) (w : Datum) (after : GrowingMemory) → is_some (m.cells (place s o)) ≡ false → put_at n m s o w ≡ Ok after → KeepsCells m after
unfolding put_at
at_kept n m s o w after absent e =
    let grown : GrowingMemory = record { sizes = sizes_with m.sizes s o; cells = with_cell m.cells (place s o) w } in
    let checked : Result GrowingMemory RunCause = if nat_le (sum (sizes_with m.sizes s o)) most_cells then Ok grown else Err (over_size n) in
    tested (may_grow s) checked (Ok m) (Ok after) e
    (λ grows put. then_ok (nat_le (sum (sizes_with m.sizes s o)) most_cells) (over_size n) (Ok grown) after put (λ fits is at v stands.
    subst (λ (x : GrowingMemory). x.cells at ≡ Some v) (ok_is grown after is)
    (cell_kept m.cells (place s o) w at v (same_datum at (place s o)) absent refl stands)))
    (λ closed same. same_kept m after same)

deduced_kept : (n : ℕ) (m : GrowingMemory) (s o : ℕ) (value : Option Datum) (after : GrowingMemory) → is_some (m.cells (place s o)) ≡ false → put_deduced n m s o value ≡ Ok after → KeepsCells m after
deduced_kept n m s o None after absent e = same_kept m after e
deduced_kept n m s o (Some w) after absent e = at_kept n m s o w after absent e

pub absent_kept : (n : ℕ) (m : GrowingMemory) (at : Datum) (value : Option Datum) (after : GrowingMemory) → put_where_absent n m at value ≡ Ok after → KeepsCells m after
absent_kept n m (number a) value after e = same_kept m after e
absent_kept n m (place s o) value after e =
    tested (is_some (m.cells (place s o))) (Ok m) (put_deduced n m s o value) (Ok after) e
    (λ stands same. same_kept m after same)
    (λ absent put. deduced_kept n m s o value after absent put)

asserted_kept : (n : ℕ) (m : GrowingMemory) (f : Fields) (x y z : Datum) (dst op0 op1 : Option Datum) (after : GrowingMemory) → put_asserted n m f x y z dst op0 op1 ≡ Ok after → KeepsCells m after
asserted_kept n m f x y z (Some d) None (Some b) after e = absent_kept n m y (deduced_op0 f d b) after e
asserted_kept n m f x y z (Some d) (Some a) None after e = absent_kept n m z (deduced_op1 f d a) after e
asserted_kept n m f x y z None (Some a) (Some b) after e = absent_kept n m x (deduced_dst f a b) after e
asserted_kept n m f x y z (Some d) (Some a) (Some b) after e = same_kept m after e
asserted_kept n m f x y z (Some d) None None after e = same_kept m after e
asserted_kept n m f x y z None None (Some b) after e = same_kept m after e
asserted_kept n m f x y z None (Some a) None after e = same_kept m after e
asserted_kept n m f x y z None None None after e = same_kept m after e

assertion_kept : (n : ℕ) (m : GrowingMemory) (f : Fields) (x y z : Datum) (after : GrowingMemory) → by_assertion n m f x y z ≡ Ok after → KeepsCells m after
unfolding by_assertion
assertion_kept n m f x y z after e =
    tested (f.opcode == 4) (put_asserted n m f x y z (m.cells x) (m.cells y) (m.cells z)) (Ok m) (Ok after) e
    (λ _ put. asserted_kept n m f x y z (m.cells x) (m.cells y) (m.cells z) after put)
    (λ _ same. same_kept m after same)

pub first_kept : (n : ℕ) (m : GrowingMemory) (f : Fields) (s : Registers Datum) (x y : Datum) (after : GrowingMemory) → with_first_puts n m f s x y ≡ Ok after → KeepsCells m after
unfolding with_first_puts
first_kept n m f s x y after e =
    bind_gives (put_where_absent n m x (by_hash m x)) _ after e (λ a is_a e.
    bind_gives (put_where_absent n a y (by_hash a y)) _ after e (λ b is_b e.
    bind_gives (put_where_absent n b y (return_address f s)) _ after e (λ c is_c e.
    then_kept m a after (absent_kept n m x (by_hash m x) a is_a)
    (then_kept a b after (absent_kept n a y (by_hash a y) b is_b)
    (then_kept b c after (absent_kept n b y (return_address f s) c is_c) (absent_kept n c x (caller_frame f s) after e))))))

pub last_kept : (n : ℕ) (m : GrowingMemory) (f : Fields) (x y z : Datum) (after : GrowingMemory) → with_last_puts n m f x y z ≡ Ok after → KeepsCells m after
unfolding with_last_puts
last_kept n m f x y z after e =
    bind_gives (put_where_absent n m z (by_hash m z)) _ after e (λ a is_a e.
    then_kept m a after (absent_kept n m z (by_hash m z) a is_a) (assertion_kept n a f x y z after e))

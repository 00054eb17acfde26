-- A turn of the pass that places the tasks.
use Rattle.std.proofs.Common.{◌≡◌, ℕ, suc, ◌+◌, ◌<◌, List, [], ◌∷◌, ◌++◌, drop, get_or, length, sym, ap, subst, ◌∙◌, arith, append_assoc, length-drop}
use Rattle.std.proofs.lemmas.List.{drop_more}
use Rattle.cairo_model.specs.Pie.Acceptance.{CheckedRecord}
use Rattle.batch_plan.specs.Parts.{BatchParts, moved_by, sizes_of_all, task_parts}
use Rattle.batch_plan.specs.Plans.{bases_of_all}
use Rattle.batch_plan.proofs.Rooms.{bases_count}
use Rattle.batch_runner.specs.Laws.{IsAccepted}
use Rattle.batch_runner.specs.Layout.{bases_at, next_place}
use Rattle.batch_runner.specs.Working.Placing.{PlacedRecord, placed_from}
use Rattle.batch_runner.specs.Working.Rooms.{HasRoom, HasRooms}
use Rattle.batch_runner.specs.Working.Tasks.{Task}
use Rattle.batch_runner.proofs.ByPlan.{bases_are, next_is}
use Rattle.batch_runner.proofs.WholeBatch.{room_here, room_next}

-- what is known of the tasks from number i on, which begin at p
pub record ArePlaceable (tasks : List CheckedRecord) (layouts : List (List ℕ)) (i : ℕ) (p : BatchParts) : Type 0 where
  pub rooms : HasRooms p (drop i tasks)
  pub planned : drop i layouts ≡ bases_of_all p (sizes_of_all (drop i tasks))

same_head : {A : Type 0} (x y : A) (xs ys : List A) → x ∷ xs ≡ y ∷ ys → x ≡ y
same_head x y xs ys e = cc

same_tail : {A : Type 0} (x y : A) (xs ys : List A) → x ∷ xs ≡ y ∷ ys → xs ≡ ys
same_tail x y xs ys e = cc

module _ (tasks : List CheckedRecord) (layouts : List (List ℕ)) (i : ℕ) (p : BatchParts) (t : CheckedRecord) (accepted : IsAccepted t) (lt : i < length tasks) (is : t ≡ get_or tasks i t) (able : ArePlaceable tasks layouts i p) where
  abbrev others : List CheckedRecord
  others = drop (i + 1) tasks

  task : Task
  task = record { checked = t; accepted = accepted }

  here : drop i tasks ≡ t ∷ others
  here = drop_more tasks i t lt ∙ ap (λ (x : CheckedRecord). x ∷ others) (sym is)

  rooms : HasRooms p (t ∷ others)
  rooms = subst (HasRooms p) here able.rooms

  pub room : HasRoom t p
  room = room_here t others p rooms

  pub has_layout : i < length layouts
  has_layout =
      let a = length-drop i layouts in
      let b : length (drop i layouts) ≡ length (sizes_of_all (drop i tasks)) = ap length able.planned ∙ bases_count p (sizes_of_all (drop i tasks)) in
      let c : length (sizes_of_all (drop i tasks)) ≡ suc (length (sizes_of_all others)) = ap (λ (xs : List CheckedRecord). length (sizes_of_all xs)) here in
      omega (arith, a, b, c)

  both : get_or layouts i [] ∷ drop (i + 1) layouts ≡ bases_at t p ∷ bases_of_all (next_place t p) (sizes_of_all others)
  unfolding bases_of_all task
  both =
      sym (drop_more layouts i [] has_layout) ∙ able.planned ∙ ap (λ (xs : List CheckedRecord). bases_of_all p (sizes_of_all xs)) here
      ∙ ap (λ (b : List ℕ). b ∷ bases_of_all (moved_by p (task_parts t.pie.sizes)) (sizes_of_all others)) (sym (bases_are task p))
      ∙ ap (λ (q : BatchParts). bases_at t p ∷ bases_of_all q (sizes_of_all others)) (sym (next_is task p))

  pub layout_is : get_or layouts i [] ≡ bases_at t p
  layout_is = same_head _ _ _ _ both

  pub placeable_on : ArePlaceable tasks layouts (i + 1) (next_place t p)
  placeable_on = record { rooms = room_next t others p rooms; planned = same_tail _ _ _ _ both }

  pub placed_on : (so_far : List PlacedRecord) → (so_far ++ record { task = t; place = p } ∷ []) ++ placed_from (next_place t p) others ≡ so_far ++ placed_from p (drop i tasks)
  unfolding placed_from
  placed_on so_far = append_assoc so_far _ _ ∙ ap (λ (xs : List CheckedRecord). so_far ++ placed_from p xs) (sym here)

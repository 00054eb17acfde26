-- Plans worked out by hand. The PIEs stand in examples/.
use Rattle.std.specs.Prelude.{ℕ, ◌≡◌, List, [], ◌∷◌}
use Rattle.batch_plan.specs.Plans.{PlanRecord, plan_of}

-- four words, and eight cells of stack
abbrev pub empty_sizes : List ℕ
empty_sizes = 4 ∷ 8 ∷ 0 ∷ 0 ∷ 0 ∷ 0 ∷ 0 ∷ []

-- eight words, nine cells of stack and one output
abbrev pub five_sizes : List ℕ
five_sizes = 8 ∷ 9 ∷ 1 ∷ 0 ∷ 0 ∷ 0 ∷ 0 ∷ []

-- as EMPTY, with two cells that no step reaches
abbrev pub tall_sizes : List ℕ
tall_sizes = 4 ∷ 10 ∷ 0 ∷ 0 ∷ 0 ∷ 0 ∷ 0 ∷ []

abbrev pub plan_of_five : PlanRecord
plan_of_five = record {
  tasks = (276 ∷ 192 ∷ 215 ∷ 216 ∷ 276 ∷ 130 ∷ 106 ∷ []) ∷ [];
  frame = record { start = 119; stop = 205 };
  output = record { start = 205; stop = 216 };
  range = record { start = 216; stop = 216 };
  hash = record { start = 216; stop = 276 };
  free = 287;
}

abbrev pub plan_of_empty_five_five : PlanRecord
plan_of_empty_five_five = record {
  tasks =
      (533 ∷ 177 ∷ 353 ∷ 373 ∷ 413 ∷ 130 ∷ 106 ∷ [])
      ∷ (540 ∷ 253 ∷ 362 ∷ 373 ∷ 473 ∷ 191 ∷ 106 ∷ [])
      ∷ (551 ∷ 330 ∷ 372 ∷ 373 ∷ 533 ∷ 268 ∷ 106 ∷ [])
      ∷ [];
  frame = record { start = 119; stop = 343 };
  output = record { start = 343; stop = 373 };
  range = record { start = 373; stop = 373 };
  hash = record { start = 373; stop = 533 };
  free = 562;
}

abbrev pub plan_of_tall_five : PlanRecord
plan_of_tall_five = record {
  tasks = (388 ∷ 177 ∷ 278 ∷ 288 ∷ 328 ∷ 130 ∷ 106 ∷ []) ∷ (395 ∷ 255 ∷ 287 ∷ 288 ∷ 388 ∷ 193 ∷ 106 ∷ []) ∷ [];
  frame = record { start = 119; stop = 268 };
  output = record { start = 268; stop = 288 };
  range = record { start = 288; stop = 288 };
  hash = record { start = 288; stop = 388 };
  free = 406;
}

pub record WorkedPlans : Type 0 where
  pub five : plan_of (five_sizes ∷ []) ≡ plan_of_five
  pub empty_five_five : plan_of (empty_sizes ∷ five_sizes ∷ five_sizes ∷ []) ≡ plan_of_empty_five_five
  pub tall_five : plan_of (tall_sizes ∷ five_sizes ∷ []) ≡ plan_of_tall_five

-- What stands in a cell and what is read there.
use Rattle.std.proofs.Common.{◌≡◌, ℕ, Option, Some, unwrap_or, ap, sym, ◌∙◌}
use Rattle.boot_program.specs.Rows.{cell_value}

module _ (m : ℕ → Option ℕ) where
  pub value : (x v : ℕ) → m x ≡ Some v → cell_value m x ≡ v
  value x v e = ap (λ o. unwrap_or o 0) e

  pub here : (x v : ℕ) → m x ≡ Some v → m x ≡ Some (cell_value m x)
  here x v e = e ∙ ap Some (sym (value x v e))

  -- two cells that were both asserted to be a third
  pub linked : {x y v : ℕ} → m x ≡ Some (cell_value m x) → m y ≡ Some (cell_value m x) → m y ≡ Some v → m x ≡ Some v
  linked {x} {y} {v} there first second = there ∙ sym first ∙ second

  -- what stands there is what is read there
  pub there : {x v : ℕ} → m x ≡ Some v → m x ≡ Some (cell_value m x)
  there {x} {v} e = here x v e

  -- two cells with one value
  pub meets : {q x v : ℕ} → m q ≡ Some v → m x ≡ Some v → m q ≡ Some (cell_value m x)
  meets {q} {x} {v} p e = p ∙ ap Some (sym (value x v e))

  pub equals : {q v w : ℕ} → m q ≡ Some v → v ≡ w → m q ≡ Some w
  equals p e = p ∙ ap Some e

  pub told : {q v w : ℕ} → m q ≡ Some v → m q ≡ Some w → v ≡ w
  told {q} {v} {w} p e = sym (value q v p) ∙ value q w e

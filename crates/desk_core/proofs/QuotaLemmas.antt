-- What is admitted keeps the client's limits.
use Rattle.std.proofs.Common.{◌≡◌, ℕ, ◌+◌, ◌≤◌, Bool, true, false, cond, List, [], ◌∷◌, ◌++◌, length, refl, arith, length-append}
use Rattle.std.specs.Prelude.{nat_lt}
use Rattle.cairo_model.specs.declared.shape.Shape.{Shape}
use Rattle.desk_core.specs.SoundDesks.{KeepsLimits}
use Rattle.batch_plan.specs.Cuts.{cells_together, steps_together}
use Rattle.desk_core.specs.Limits.{most_client_cells, most_client_pies, most_client_steps}
use Rattle.desk_core.specs.Quotas.{is_admitted, quota_reply}
use Rattle.desk_core.specs.declared.reply.QuotaKind.TheVariants.{Pies, Steps, Sizes}
use Rattle.desk_core.specs.declared.reply.Reply.TheVariants as reply
use Rattle.desk_core.proofs.ListFacts.{total_more}
use Rattle.std.proofs.lemmas.Bool.Decides.{nat_tests}

record Below (pies steps cells : ℕ) : Type 0 where
  few : pies ≤ most_client_pies
  short : steps ≤ most_client_steps
  small : cells ≤ most_client_cells

quota_chosen : (number pies steps cells : ℕ) (a b c : Bool) → nat_lt most_client_pies pies ≡ a → nat_lt most_client_steps steps ≡ b → nat_lt most_client_cells cells ≡ c
    → is_admitted (cond a (reply.Quota Pies pies most_client_pies) (cond b (reply.Quota Steps steps most_client_steps) (cond c (reply.Quota Sizes cells most_client_cells) (reply.Admitted number)))) ≡ true
    → Below pies steps cells
quota_chosen number pies steps cells true b c p q r e = absurd (cc)
quota_chosen number pies steps cells false true c p q r e = absurd (cc)
quota_chosen number pies steps cells false false true p q r e = absurd (cc)
quota_chosen number pies steps cells false false false p q r e = record { few = grind (arith, nat_tests); short = grind (arith, nat_tests); small = grind (arith, nat_tests) }

pub keeps_limits : (shapes : List Shape) (x : Shape) → is_admitted (quota_reply shapes x) ≡ true → KeepsLimits (shapes ++ x ∷ [])
unfolding quota_reply
keeps_limits shapes x e =
    let b = quota_chosen (length shapes) (length shapes + 1) (steps_together shapes + x.steps) (cells_together shapes + x.size) _ _ _ refl refl refl e in
    record {
      few = omega (arith, b.few, length-append shapes (x ∷ []));
      short = omega (arith, b.short, total_more (λ (y : Shape). y.steps) shapes x);
      small = omega (arith, b.small, total_more (λ (y : Shape). y.size) shapes x);
    }

number_chosen : (number pies steps cells k : ℕ) (a b c : Bool)
    → cond a (reply.Quota Pies pies most_client_pies) (cond b (reply.Quota Steps steps most_client_steps) (cond c (reply.Quota Sizes cells most_client_cells) (reply.Admitted number))) ≡ reply.Admitted k → number ≡ k
number_chosen number pies steps cells k true b c e = absurd (cc)
number_chosen number pies steps cells k false true c e = absurd (cc)
number_chosen number pies steps cells k false false true e = absurd (cc)
number_chosen number pies steps cells k false false false e = cc

pub number_is : (shapes : List Shape) (x : Shape) (k : ℕ) → quota_reply shapes x ≡ reply.Admitted k → length shapes ≡ k
unfolding quota_reply
number_is shapes x k e = number_chosen (length shapes) (length shapes + 1) (steps_together shapes + x.steps) (cells_together shapes + x.size) k _ _ _ e

-- A countdown, round by round, and how long it is.
use Rattle.std.proofs.Common.{◌≡◌, ℕ, zero, suc, ◌+◌, ◌-◌, ◌*◌, ◌<◌, ◌≤◌, List, [], ◌++◌, length, map, refl, sym, ap, ◌∙◌, arith, append_assoc, length-append}
use Rattle.std.proofs.lemmas.List.{append-nil, length-map}
use Rattle.cairo_model.specs.Machine.Values.{Datum}
use Rattle.cairo_model.specs.Views.Machine.{datum}
use Rattle.cairo_model.specs.declared.value.Value.{Value}
use Rattle.work_maker.specs.Down.{round_values, countdown, down_stack, down_stops}

next_round : (left : ℕ) → countdown (suc left) ≡ round_values left ++ countdown left
unfolding countdown
next_round left = refl

no_round : countdown 0 ≡ []
unfolding countdown
no_round = refl

round_next : (rounds round : ℕ) → round < rounds → countdown (rounds - round) ≡ round_values (rounds - 1 - round) ++ countdown (rounds - (round + 1))
round_next rounds round lt =
    let e : rounds - round ≡ suc (rounds - (round + 1)) = omega arith in
    let same : rounds - (round + 1) ≡ rounds - 1 - round = omega arith in
    ap countdown e ∙ next_round (rounds - (round + 1)) ∙ ap (λ (n : ℕ). round_values n ++ countdown (rounds - (round + 1))) same

-- one round more is put
pub round_put : (now later all : List Datum) (rounds round : ℕ) → round < rounds → later ≡ now ++ round_values (rounds - 1 - round) → now ++ countdown (rounds - round) ≡ all → later ++ countdown (rounds - (round + 1)) ≡ all
round_put now later all rounds round lt put is =
    let rest = countdown (rounds - (round + 1)) in
    ap (λ (t : List Datum). t ++ rest) put ∙ append_assoc now (round_values (rounds - 1 - round)) rest ∙ ap (λ (t : List Datum). now ++ t) (sym (round_next rounds round lt)) ∙ is

-- no round is left
pub rounds_put : (now all : List Datum) (rounds round : ℕ) → rounds ≤ round → now ++ countdown (rounds - round) ≡ all → now ≡ all
rounds_put now all rounds round le is =
    let none : rounds - round ≡ 0 = omega arith in
    sym (append-nil now) ∙ ap (λ (t : List Datum). now ++ t) (sym (ap countdown none ∙ no_round)) ∙ is

countdown_length : (rounds : ℕ) → length (countdown rounds) ≡ 3 * rounds
unfolding countdown
countdown_length zero = refl
countdown_length (suc left) = omega (arith, countdown_length left)

pub stack_length : (rounds : ℕ) → length (down_stack rounds) ≡ 11 + 3 * rounds
stack_length rounds = omega (arith, countdown_length rounds, length-append (countdown rounds) down_stops)

pub few_values : (values : List Value) (rounds : ℕ) → rounds ≤ 500 → map datum values ≡ down_stack rounds → length values ≤ 65536
few_values values rounds few is = omega (arith, length-map values datum, stack_length rounds, ap (λ (t : List Datum). length t) is)

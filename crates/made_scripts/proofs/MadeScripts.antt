-- The generator's script is the script of its lines, and what they hand in is admitted.
use Rattle.std.proofs.Common.{◌≡◌, ℕ, zero, suc, ◌*◌, ◌^◌, ◌<◌, ◌≤◌, ◌==◌, Bool, true, false, if◌then◌else◌, List, [], ◌∷◌, ◌++◌, length, codes, decimal, Ok, refl, sym, ap, subst, ◌∙◌, arith, append_assoc, length-append}
use Rattle.std.specs.List.{AllByRecursion}
use Rattle.std.proofs.lemmas.List.{append-nil}
use Rattle.std.proofs.lemmas.List.Splits.{slice_split_at}
use Rattle.desk_script.specs.Lines.{ScriptLine, submits, asks_status, IsScriptLine, line_fields}
use Rattle.desk_script.specs.Scripts.{AreScriptLines, IsScript, pieces_of}
use Rattle.hex.specs.Hex.{decode_of}
use Rattle.pie_format.specs.Writing.{file_of}
use Rattle.work_maker.specs.Down.{down_outputs, down_pie}
use Rattle.work_maker.specs.Generator.{client_of_job, down_digits, is_asked_about, lines_of_job, number_of_job, rounds_of_job, script_of, status_line, submit_line}
use Rattle.work_maker.specs.Limits.{script_clients}
use Rattle.work_maker.proofs.AdmittedJobs.{down_decodes, few_rounds, file_admitted, some_rounds}
use Rattle.made_scripts.specs.MadeLines.{HandsInAdmitted, made_lines, made_question, made_submit}
use Rattle.made_scripts.proofs.LineBytes.{HasNo, fields_text, no_feed, question_nested, solid_decimal, solid_digits, solid_text, submit_nested, three_fields}

-- ---- parts of a script

-- what follows a part may be any script: with the part before it, it is one of the part's lines more
abbrev Adds : List ℕ → List ScriptLine → Type 0
Adds part lines = (rest : List ℕ) (more : List ScriptLine) → AreScriptLines script_clients (pieces_of rest) more → AreScriptLines script_clients (pieces_of (part ++ rest)) (lines ++ more)

adds_both : (p q : List ℕ) (ls ks : List ScriptLine) → Adds p ls → Adds q ks → Adds (p ++ q) (ls ++ ks)
adds_both p q ls ks first second rest more are =
    subst (λ (bytes : List ℕ). AreScriptLines script_clients (pieces_of bytes) ((ls ++ ks) ++ more)) (sym (append_assoc p q rest))
    (subst (λ (lines : List ScriptLine). AreScriptLines script_clients (pieces_of (p ++ (q ++ rest))) lines) (sym (append_assoc ls ks more)) (first (q ++ rest) (ks ++ more) (second rest more are)))

one_more : (text : List ℕ) (line : ScriptLine) (pieces : List (List ℕ)) (more : List ScriptLine) → IsScriptLine script_clients (line_fields text) line → AreScriptLines script_clients pieces more
    → AreScriptLines script_clients (text ∷ pieces) (line ∷ more)
one_more text line [] more is are = absurd are
one_more text line (next ∷ others) more is are = (line, more, refl, is, are)

adds_line : (text : List ℕ) (line : ScriptLine) → HasNo 10 text → IsScriptLine script_clients (line_fields text) line → Adds (text ++ 10 ∷ []) (line ∷ [])
adds_line text line plain is rest more are =
    let cut : pieces_of ((text ++ 10 ∷ []) ++ rest) ≡ text ∷ pieces_of rest = ap pieces_of (append_assoc text (10 ∷ []) rest) ∙ slice_split_at (λ x. x == 10) text 10 rest plain refl in
    subst (λ (pieces : List (List ℕ)). AreScriptLines script_clients pieces (line ∷ more)) (sym cut) (one_more text line (pieces_of rest) more is are)

-- ---- the lines of a job

client_below : (job : ℕ) → client_of_job job < script_clients
client_below job = omega arith

submit_adds : (job : ℕ) → Adds (submit_line job) (made_submit job ∷ [])
submit_adds job =
    let verb = codes "submit" in
    let client = decimal (client_of_job job) in
    let rounds = rounds_of_job job in
    let digits = down_digits rounds in
    let bytes = file_of (down_pie rounds) in
    let decodes : decode_of digits ≡ Ok bytes = down_decodes rounds (few_rounds job) in
    let is_verb = solid_text verb refl in
    let is_client = solid_decimal (client_of_job job) (omega (arith, client_below job)) in
    let is_digits = solid_digits digits bytes decodes in
    let fields = three_fields verb client digits is_verb is_client is_digits in
    subst (λ (part : List ℕ). Adds part (submits (client_of_job job) bytes ∷ [])) (sym (submit_nested verb client digits))
    (adds_line (fields_text verb client digits) (submits (client_of_job job) bytes) (no_feed verb client digits is_verb is_client is_digits) (client_below job, (digits, decodes, fields)))

status_adds : (job : ℕ) → job < 2 ^ 32 → Adds (status_line job) (asks_status (client_of_job job) (number_of_job job) ∷ [])
status_adds job few =
    let verb = codes "status" in
    let client = decimal (client_of_job job) in
    let number = decimal (number_of_job job) in
    let is_verb = solid_text verb refl in
    let is_client = solid_decimal (client_of_job job) (omega (arith, client_below job)) in
    let is_number = solid_decimal (number_of_job job) (omega (arith, few)) in
    let fields = three_fields verb client number is_verb is_client is_number in
    let small : number_of_job job < 2 ^ 32 = omega (arith, few) in
    subst (λ (part : List ℕ). Adds part (asks_status (client_of_job job) (number_of_job job) ∷ [])) (sym (question_nested verb client number))
    (adds_line (fields_text verb client number) (asks_status (client_of_job job) (number_of_job job)) (no_feed verb client number is_verb is_client is_number) (client_below job, small, fields))

question_adds : (asked : Bool) (part : List ℕ) (lines : List ScriptLine) → Adds part lines → Adds (if asked then part else []) (if asked then lines else [])
question_adds true part lines adds = adds
question_adds false part lines adds = λ rest more are. are

job_adds : (job : ℕ) → job < 2 ^ 32 → Adds (lines_of_job job) (made_submit job ∷ made_question job)
job_adds job few =
    adds_both (submit_line job) (if is_asked_about job then status_line job else []) (made_submit job ∷ []) (made_question job) (submit_adds job)
    (question_adds (is_asked_about job) (status_line job) (asks_status (client_of_job job) (number_of_job job) ∷ []) (status_adds job few))

-- ---- the script

jobs_add : (jobs : ℕ) → jobs ≤ 256 → Adds (script_of jobs) (made_lines jobs)
unfolding script_of made_lines
jobs_add zero few = λ rest more are. are
jobs_add (suc job) few = adds_both (script_of job) (lines_of_job job) (made_lines job) (made_submit job ∷ made_question job) (jobs_add job (omega (arith, few))) (job_adds job (omega (arith, few)))

question_count : (asked : Bool) (line : ScriptLine) → length (if asked then line ∷ [] else []) ≤ 1
question_count true line = omega arith
question_count false line = omega arith

line_count : (jobs : ℕ) → length (made_lines jobs) ≤ 2 * jobs
unfolding made_lines
line_count zero = omega arith
line_count (suc job) =
    omega (arith, line_count job, length-append (made_lines job) (made_submit job ∷ made_question job), question_count (is_asked_about job) (asks_status (client_of_job job) (number_of_job job)))

pub made_is_script : (jobs : ℕ) → jobs ≤ 256 → IsScript script_clients (script_of jobs) (made_lines jobs)
made_is_script jobs few =
    let lines = jobs_add jobs few [] [] (refl, refl) in
    let whole : AreScriptLines script_clients (pieces_of (script_of jobs)) (made_lines jobs ++ []) =
    subst (λ (bytes : List ℕ). AreScriptLines script_clients (pieces_of bytes) (made_lines jobs ++ [])) (append-nil (script_of jobs)) lines in
    (subst (λ (ls : List ScriptLine). AreScriptLines script_clients (pieces_of (script_of jobs)) ls) (append-nil (made_lines jobs)) whole, omega (arith, few, line_count jobs))

-- ---- what is handed in

abbrev AreAdmitted : List ScriptLine → Type 0
AreAdmitted lines = AllByRecursion (HandsInAdmitted script_clients down_outputs) lines

both_admitted : (ls ks : List ScriptLine) → AreAdmitted ls → AreAdmitted ks → AreAdmitted (ls ++ ks)
both_admitted [] ks first second = second
both_admitted (l ∷ ls) ks first second = (first.0, both_admitted ls ks first.1 second)

question_admitted : (asked : Bool) (client number : ℕ) → AreAdmitted (if asked then asks_status client number ∷ [] else [])
question_admitted true client number = (tt, tt)
question_admitted false client number = tt

pub made_admitted : (jobs : ℕ) → AreAdmitted (made_lines jobs)
unfolding made_lines
made_admitted zero = tt
made_admitted (suc job) =
    both_admitted (made_lines job) (made_submit job ∷ made_question job) (made_admitted job)
    ((client_below job, file_admitted (rounds_of_job job) (some_rounds job) (few_rounds job)), question_admitted (is_asked_about job) (client_of_job job) (number_of_job job))

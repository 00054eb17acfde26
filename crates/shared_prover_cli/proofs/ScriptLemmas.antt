-- Scripts that were read and run: their lines' clients, and the certificates of the batches.
use Rattle.std.proofs.Common.{◌≡◌, ℕ, zero, suc, ◌+◌, ◌<◌, ◌≤◌, ◌^◌, Bool, true, false, cond, List, [], ◌∷◌, length, map, refl, sym, ap, ◌∙◌, subst, arith, ◌&&◌}
use Rattle.std.specs.Prelude.{All, Option, Some, None, find, nat_le, nat_lt, slice_get, slice_index_or}
use Rattle.std.specs.Option.{option_map_or}
use Rattle.std.proofs.lemmas.Bool.{le-leb, lt-ltb, ltb-true}
use Rattle.std.proofs.lemmas.List.Sorted.{length_permutation}
use Rattle.std.proofs.lemmas.List.Elements.{All-cons, All-head, All-nil, All-tail}
use Rattle.batch_workers.specs.Works.{AllRegistered}
use Rattle.desk_core.proofs.Turns.{jobs_few}
use Rattle.desk_core.specs.DeskRecords.{DeskRecord, plain_batch, plain_of}
use Rattle.desk_core.specs.Desks.{PlainBatch, PlainJob, has_job, told_of}
use Rattle.desk_core.specs.GoodDesks.{IsGoodDesk, KeepsCert}
use Rattle.desk_core.specs.SoundDesks.{AreNeighbours, IsBatchOf}
use Rattle.desk_core.specs.declared.batch.Batch.{Batch}
use Rattle.desk_core.specs.declared.job.Job.{Job}
use Rattle.desk_core.specs.declared.phase.JobPhase.{JobPhase}
use Rattle.desk_core.specs.declared.phase.JobPhase.TheVariants as at
use Rattle.desk_core.specs.declared.phase.Phase.{Phase}
use Rattle.desk_core.specs.declared.phase.Phase.TheVariants as phase
use Rattle.desk_script.specs.Lines.{IsScriptLine, ScriptLine, asks, asks_status, line_fields, settles, submits}
use Rattle.desk_script.specs.Scripts.{AreScriptLines, IsFirstBadScriptLine, IsScript, pieces_of}
use Rattle.desk_script.specs.Views.{line_view}
use Rattle.desk_script.specs.declared.kinds.ScriptRefusal.{ScriptRefusal}
use Rattle.desk_script.specs.declared.line.Line.{Line}
use Rattle.made_scripts.specs.MadeLines.{made_lines}
use Rattle.script_runner.specs.Lines.{line_client}
use Rattle.script_runner.specs.Runs.{RunsScript}
use Rattle.work_maker.specs.Generator.{script_of}
use Rattle.work_maker.specs.Limits.{most_jobs, script_clients}
use Rattle.shared_prover_cli.specs.Answers.Scripts.{DidScript, TellsBadLine, TellsBatch, few_batches_text}
use Rattle.shared_prover_cli.specs.Replies.{ReplyRecord}
use Rattle.shared_prover_cli.specs.Working.Scripting.{AllCertified, IsCertified, IsFileOfBatch, NamesBadLine}

-- ---- clients

abbrev IsBelow : ℕ → ScriptLine → Type 0
IsBelow clients l = line_client l < clients

below_clients : (clients : ℕ) (fields : List (List ℕ)) (l : ScriptLine) → IsScriptLine clients fields l → line_client l < clients
below_clients clients fields (submits client bytes) h = h.0
below_clients clients fields (asks client fact) h = h.0
below_clients clients fields (asks_status client number) h = h.0
below_clients clients fields (settles client) h = h.0

lines_below : (clients : ℕ) (pieces : List (List ℕ)) (lines : List ScriptLine) → AreScriptLines clients pieces lines → All (IsBelow clients) lines
lines_below clients [] lines h = absurd h
lines_below clients (last ∷ []) lines h = subst (All (IsBelow clients)) (sym h.1) (All-nil (IsBelow clients))
lines_below clients (text ∷ next ∷ more) lines (line, rest, are, this, those) =
    subst (All (IsBelow clients)) (sym are) (All-cons (IsBelow clients) line rest (below_clients clients (line_fields text) line this) (lines_below clients (next ∷ more) rest those))

all_of_map : {X Y : Type 0} (P : Y → Type 0) (f : X → Y) (xs : List X) → All P (map f xs) → All (λ (x : X). P (f x)) xs
all_of_map P f [] all = All-nil (λ (x : _). P (f x))
all_of_map P f (x ∷ xs) all = All-cons (λ (y : _). P (f y)) x xs (All-head P (f x) (map f xs) all) (all_of_map P f xs (All-tail P (f x) (map f xs) all))

pub script_clients_below : {X : Type 0} (view : X → ScriptLine) (xs : List X) (clients : ℕ) (bytes : List ℕ) → IsScript clients bytes (map view xs) → All (λ (x : X). line_client (view x) < clients) xs
script_clients_below view xs clients bytes h = all_of_map (IsBelow clients) view xs (lines_below clients (pieces_of bytes) (map view xs) h.0)

-- ---- certificates

abbrev told : List PlainBatch → ℕ → JobPhase
told bs i = option_map_or (λ (b : PlainBatch). told_of b.phase) (find (has_job i) bs) at.Waiting

registered_of : (p : Phase) → told_of p ≡ at.Registered → p ≡ phase.Registered
registered_of phase.Sealed is = absurd (cc)
registered_of (phase.Taken by) is = absurd (cc)
registered_of phase.Registered is = refl
registered_of phase.NoBatch is = absurd (cc)

both_are : (a b t : Bool) → a ≡ true → b ≡ t → (a && b) ≡ t
both_are true b t p q = q
both_are false b t p q = absurd (cc)

told_at : (x : PlainBatch) (bs : List PlainBatch) (i : ℕ) (t : Bool) → has_job i x ≡ t → told (x ∷ bs) i ≡ option_map_or (λ (b : PlainBatch). told_of b.phase) (cond t (Some x) (find (has_job i) bs)) at.Waiting
told_at x bs i t is = ap (λ (t : Bool). option_map_or (λ (b : PlainBatch). told_of b.phase) (cond t (Some x) (find (has_job i) bs)) at.Waiting) is

abbrev StandsRegistered : PlainBatch → Type 0
StandsRegistered b = b.phase ≡ phase.Registered

-- each of neighbouring batches has a job, so where all jobs are registered it is
batches_registered : (jobs : List PlainJob) (bs : List PlainBatch) (first : ℕ) → AreNeighbours first bs → All (IsBatchOf jobs) bs → ((i : ℕ) → first ≤ i → i < length jobs → told bs i ≡ at.Registered) → All StandsRegistered bs
batches_registered jobs [] first n all are = All-nil StandsRegistered
batches_registered jobs (x ∷ bs) first n all are =
    let h = All-head (IsBatchOf jobs) x bs all in
    let here : has_job first x ≡ true = both_are (nat_le x.first first) (nat_lt first (x.first + x.count)) true (le-leb x.first first (omega (arith, n.0))) (lt-ltb first (x.first + x.count) (omega (arith, n.0, h.some))) in
    let own : x.phase ≡ phase.Registered = registered_of x.phase (sym (told_at x bs first true here) ∙ are first (omega arith) (omega (arith, n.0, h.some, h.within))) in
    All-cons StandsRegistered x bs own
    (batches_registered jobs bs (first + x.count) n.1 (All-tail (IsBatchOf jobs) x bs all)
    (λ i le lt. sym (told_at x bs i false (past i le)) ∙ are i (omega (arith, le)) lt)) where
      past : (i : ℕ) → first + x.count ≤ i → has_job i x ≡ false
      past i le = both_are (nat_le x.first i) (nat_lt i (x.first + x.count)) false (le-leb x.first i (omega (arith, le, n.0))) (not_below (nat_lt i (x.first + x.count)) refl) where
        not_below : (t : Bool) → nat_lt i (x.first + x.count) ≡ t → t ≡ false
        not_below true is = absurd (omega (arith, le, n.0, ltb-true i (x.first + x.count) is))
        not_below false is = refl

keep_certs : (jobs : List Job) (bs : List Batch) → All (KeepsCert jobs) bs → All StandsRegistered (map plain_batch bs) → AllCertified bs
keep_certs jobs [] keeps all = All-nil IsCertified
keep_certs jobs (b ∷ bs) keeps all =
    let has = (All-head (KeepsCert jobs) b bs keeps).has (All-head StandsRegistered (plain_batch b) (map plain_batch bs) all) in
    All-cons IsCertified b bs (has.cert, has.is) (keep_certs jobs bs (All-tail (KeepsCert jobs) b bs keeps) (All-tail StandsRegistered (plain_batch b) (map plain_batch bs) all))

pub all_certified : (d : DeskRecord) → IsGoodDesk d → AllRegistered (plain_of d) → AllCertified d.batches
all_certified d good all =
    keep_certs d.jobs d.batches good.certs
    (batches_registered (plain_of d).jobs (plain_of d).batches 0 good.sound.neighbours good.sound.batches (λ i le lt. all i lt))

pub ran_certified : (clients : ℕ) (bytes : List ℕ) (d : DeskRecord) → DidScript RunsScript clients bytes d → AllCertified d.batches
ran_certified clients bytes d r = all_certified d r.good r.does.serves.registered

-- ---- what is told

pub tells_bad_line : (clients : ℕ) (bytes : List ℕ) (refusal : ScriptRefusal) (reply : ReplyRecord) → IsFirstBadScriptLine clients bytes refusal → NamesBadLine refusal reply → TellsBadLine clients bytes reply
tells_bad_line clients bytes refusal reply first names = record { refusal = refusal; first = first; has_status = names.has_status; has_text = names.has_text }

pub lines_below_clients : (lines : List Line) (clients : ℕ) (bytes : List ℕ) → IsScript clients bytes (map line_view lines) → All (λ (l : Line). line_client (line_view l) < clients) lines
lines_below_clients lines clients bytes h = script_clients_below line_view lines clients bytes h

pub did_script : (Does : ℕ → List ScriptLine → DeskRecord → Type 0) (clients : ℕ) (bytes : List ℕ) (lines : List ScriptLine) (d : DeskRecord) → IsScript clients bytes lines → Does clients lines d → IsGoodDesk d → DidScript Does clients bytes d
did_script Does clients bytes lines d script does good = record { lines = lines; is_script = script; does = does; good = good }

at_index : (bs : List Batch) (b : ℕ) (batch : Batch) → b < length bs → batch ≡ slice_index_or bs b batch → slice_get bs b ≡ Some batch
at_index [] b batch lt is = absurd (omega (arith, lt))
at_index (x ∷ bs) zero batch lt is = ap (λ (y : Batch). Some y) (sym is)
at_index (x ∷ bs) (suc b) batch lt is = at_index bs b batch (omega (arith, lt)) is

past_all : (bs : List Batch) (b : ℕ) → length bs ≤ b → slice_get bs b ≡ None
past_all [] b le = refl
past_all (x ∷ bs) zero le = absurd (omega (arith, le))
past_all (x ∷ bs) (suc b) le = past_all bs b (omega (arith, le))

pub got_certified : (bs ds : List Batch) (b : ℕ) (batch : Batch) → bs ≡ ds → b < length bs → batch ≡ slice_index_or bs b batch → AllCertified ds → IsCertified batch
got_certified bs ds b batch same lt is all = subst IsCertified (sym is) (subst AllCertified (sym same) all b batch lt)

pub got_file : (bs ds : List Batch) (b : ℕ) (batch : Batch) (reply : ReplyRecord) → bs ≡ ds → b < length bs → batch ≡ slice_index_or bs b batch → IsFileOfBatch batch reply.text → reply.status ≡ 0
    → TellsBatch b (length ds) (slice_get ds b) reply
got_file bs ds b batch reply same lt is (cert, kept, file) status =
    subst (λ (xs : List Batch). TellsBatch b (length xs) (slice_get xs b) reply) same
    (subst (λ (o : Option Batch). TellsBatch b (length bs) o reply) (sym (at_index bs b batch lt is)) (record { cert = cert; kept = kept; has_status = status; is_file = file }))

pub got_few : (bs ds : List Batch) (b : ℕ) (reply : ReplyRecord) → bs ≡ ds → length bs ≤ b → reply.status ≡ 1 → reply.text ≡ few_batches_text b (length bs) → TellsBatch b (length ds) (slice_get ds b) reply
got_few bs ds b reply same le status text =
    subst (λ (xs : List Batch). TellsBatch b (length xs) (slice_get xs b) reply) same
    (subst (λ (o : Option Batch). TellsBatch b (length bs) o reply) (sym (past_all bs b le)) (record { has_status = status; has_text = text }))

pub jobs_below : (d : DeskRecord) → IsGoodDesk d → length d.jobs < 2 ^ 32
jobs_below d good = omega (arith, jobs_few d good)

-- what the generator writes is a script, so that no line of it is bad
pub never_refused : ((jobs : ℕ) → jobs ≤ most_jobs → IsScript script_clients (script_of jobs) (made_lines jobs))
    → ((clients : ℕ) (bytes : List ℕ) (lines : List ScriptLine) (r : ScriptRefusal) → clients ≤ 2 ^ 32 → IsScript clients bytes lines → ¬ IsFirstBadScriptLine clients bytes r)
    → (jobs : ℕ) (bytes : List ℕ) (r : ScriptRefusal) → jobs ≤ most_jobs → bytes ≡ script_of jobs → IsFirstBadScriptLine script_clients bytes r → ⊥
never_refused made taken jobs bytes r few are first =
    taken script_clients (script_of jobs) (made_lines jobs) r (omega arith) (made jobs few) (subst (λ (b : List ℕ). IsFirstBadScriptLine script_clients b r) are first)

-- ---- by function

pub ruleset desk_counts = (length_permutation, jobs_below)

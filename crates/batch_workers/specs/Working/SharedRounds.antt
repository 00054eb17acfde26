-- What one round of a worker at a shared desk does, and its steps.
use Rattle.std.specs.Prelude.{ℕ, ◌≡◌, ◌≢◌, Bool, true, false, [], ◌∷◌, Option, Some, None, Result, MatchResult}
use Rattle.cairo_model.specs.Certificate.Records.{CertRecord}
use Rattle.cairo_model.specs.declared.end.End.{End}
use Rattle.cairo_model.specs.declared.end.End.TheVariants as end
use Rattle.boot_program.specs.Batch.Parcels.{ParcelRecord}
use Rattle.boot_program.specs.declared.run_fault.RunFault.{RunFault}
use Rattle.desk_core.specs.Desks.{phase_at}
use Rattle.desk_core.specs.Hands.{in_hand}
use Rattle.desk_core.specs.Journals.{no_pie}
use Rattle.desk_core.specs.Registrations.{pies_in}
use Rattle.desk_core.specs.Stays.{pies_at}
use Rattle.desk_core.specs.Turns.{entry_of}
use Rattle.desk_core.specs.declared.entry.FullEntry.{FullEntry}
use Rattle.desk_core.specs.declared.event.Event.TheVariants as event
use Rattle.desk_core.specs.declared.phase.Phase.TheVariants as phase
use Rattle.desk_core.specs.declared.reply.Reply.{Reply}
use Rattle.desk_core.specs.declared.reply.Reply.TheVariants as reply
use Rattle.session_desk.specs.SeenDesks.{IsIdlePass, seen_desk}
use Rattle.session_desk.specs.Sessions.{notes_in}
use Rattle.std.specs.declared.alloc.AllocError.{AllocError}
use Rattle.turn_lock.specs.Passes.{Token}
use Rattle.batch_workers.specs.SharedWorks.{PassWorks}
use Rattle.batch_workers.specs.Working.Rounds.{Are}
use Rattle.batch_workers.specs.Works.{EndBusy, IsRejected, idle_turns}
use Rattle.batch_workers.specs.declared.shared_round.SharedRound.{SharedRound}
use Rattle.batch_workers.specs.declared.shared_round.SharedRound.TheVariants as round
use Rattle.batch_workers.specs.declared.work_end.WorkEnd.TheVariants as work

-- ---- the batch in hand

-- by its own entries the pass has this batch alone in hand, and by what it has seen the batch is there
pub record HasBatch (p : Token FullEntry) (b : ℕ) : Type 0 where
  pub has : in_hand b false (notes_in p.mine) ≡ true
  pub alone : (k : ℕ) → k ≢ b → in_hand k false (notes_in p.mine) ≡ false
  pub there : phase_at (seen_desk p) b ≢ phase.NoBatch

-- what the pass has seen gives the batch the same PIEs as before
abbrev pub SamePies : ℕ → (old new : Token FullEntry) → Type 0
SamePies b old new = pies_at (seen_desk new) b ≡ pies_at (seen_desk old) b

-- the parcel is of the PIEs that the pass has seen its batch to have
abbrev pub IsItsParcel : Token FullEntry → ParcelRecord → Type 0
IsItsParcel p parcel = pies_in parcel.tasks ≡ pies_at (seen_desk p) parcel.batch

-- ---- steps

-- a batch was taken, or none is sealed
abbrev pub PassTook : (old new : Token FullEntry) → Option ParcelRecord → Type 0
PassTook old new None = PassWorks (Are (entry_of old.number event.Take no_pie reply.NothingSealed ∷ [])) old new × IsIdlePass new
PassTook old new (Some parcel) = PassWorks EndBusy old new × (HasBatch new parcel.batch × IsItsParcel new parcel)

abbrev pub PassTaking : (old new : Token FullEntry) → Result (Option ParcelRecord) AllocError → Type 0
PassTaking old new answer = MatchResult answer (PassTook old new) (λ _. PassWorks EndBusy old new)

-- what a sealing with this reply comes to
abbrev pub shared_sealing : Reply → SharedRound
shared_sealing (reply.NothingWaiting closed) = round.Idle closed
shared_sealing r = round.Went

-- whether the batch was given back, and else it is still in hand
abbrev pub PassBack : ℕ → (old new : Token FullEntry) → Bool → Type 0
PassBack b old new true = PassWorks EndBusy old new × (IsIdlePass new × (SamePies b old new × (phase_at (seen_desk new) b ≡ phase.Sealed)))
PassBack b old new false = PassWorks EndBusy old new × (HasBatch new b × SamePies b old new)

-- ---- rounds

abbrev pub PassRound : (H : Type 0) (M : ParcelRecord → CertRecord → Type 0) (old new : Token FullEntry) → SharedRound → Type 0
PassRound H M old new round.Went = PassWorks EndBusy old new × IsIdlePass new
PassRound H M old new (round.Idle closed) = PassWorks (Are (idle_turns old.number closed)) old new × IsIdlePass new
PassRound H M old new (round.Ended work.Drained) = ⊥
PassRound H M old new (round.Ended work.OutOfMemory) = PassWorks EndBusy old new
PassRound H M old new (round.Ended (work.Rejected b fault)) = PassWorks EndBusy old new × (IsIdlePass new × IsRejected H M (seen_desk new) b fault)

-- the round of a batch in hand
abbrev pub PassBatch : (H : Type 0) (M : ParcelRecord → CertRecord → Type 0) (old new : Token FullEntry) → SharedRound → Type 0
PassBatch H M old new round.Went = PassWorks EndBusy old new × IsIdlePass new
PassBatch H M old new (round.Idle closed) = ⊥
PassBatch H M old new (round.Ended work.Drained) = ⊥
PassBatch H M old new (round.Ended work.OutOfMemory) = PassWorks EndBusy old new
PassBatch H M old new (round.Ended (work.Rejected b fault)) = PassWorks EndBusy old new × (IsIdlePass new × IsRejected H M (seen_desk new) b fault)

-- the round where no batch is sealed
abbrev pub PassSealing : (old new : Token FullEntry) → SharedRound → Type 0
PassSealing old new round.Went = PassWorks EndBusy old new × IsIdlePass new
PassSealing old new (round.Idle closed) = PassWorks (Are (entry_of old.number event.Seal no_pie (reply.NothingWaiting closed) ∷ [])) old new × IsIdlePass new
PassSealing old new (round.Ended work.Drained) = ⊥
PassSealing old new (round.Ended work.OutOfMemory) = PassWorks EndBusy old new
PassSealing old new (round.Ended (work.Rejected b fault)) = ⊥

-- the round of a batch that got no certificate
abbrev pub PassUncertified : ℕ → End RunFault → (old new : Token FullEntry) → SharedRound → Type 0
PassUncertified b e old new round.Went = ⊥
PassUncertified b e old new (round.Idle closed) = ⊥
PassUncertified b e old new (round.Ended work.Drained) = ⊥
PassUncertified b e old new (round.Ended work.OutOfMemory) = PassWorks EndBusy old new
PassUncertified b e old new (round.Ended (work.Rejected k fault)) = PassBack b old new true × ((k ≡ b) × (e ≡ end.Refused fault))

-- what a certificate with this fault comes to, by whether the batch was given back
abbrev pub shared_rejecting : Bool → ℕ → RunFault → SharedRound
shared_rejecting true b fault = round.Ended (work.Rejected b fault)
shared_rejecting false b fault = round.Ended work.OutOfMemory

-- the round of a batch with its certificate
abbrev pub PassRegister : (old new : Token FullEntry) → SharedRound → Type 0
PassRegister old new round.Went = PassWorks EndBusy old new × IsIdlePass new
PassRegister old new (round.Idle closed) = ⊥
PassRegister old new (round.Ended work.Drained) = ⊥
PassRegister old new (round.Ended work.OutOfMemory) = PassWorks EndBusy old new
PassRegister old new (round.Ended (work.Rejected b fault)) = ⊥

-- whether the batch in hand was registered, and else it is still in hand
abbrev pub PassKept : ℕ → (old new : Token FullEntry) → Bool → Type 0
PassKept b old new true = PassWorks EndBusy old new × IsIdlePass new
PassKept b old new false = PassWorks EndBusy old new × HasBatch new b

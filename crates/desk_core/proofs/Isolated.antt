-- A journal stays isolated where room alone was made.
use Rattle.std.proofs.Common.{◌≡◌, List, map, sym, subst}
use Rattle.desk_core.specs.DeskRecords.{DeskRecord, full_entries, pies_of}
use Rattle.desk_core.specs.GoodDesks.{IsGoodDesk}
use Rattle.desk_core.specs.Isolation.{IsIsolated, answered_of}
use Rattle.desk_core.specs.declared.entry.Entry.{Entry}
use Rattle.desk_core.specs.declared.entry.FullEntry.{FullEntry}
use Rattle.desk_core.specs.declared.job.Job.{Job}
use Rattle.desk_core.proofs.Turns.{journal_isolated}

pub still_isolated : (d : DeskRecord) → IsGoodDesk d → (jobs : List Job) (entries : List Entry) → jobs ≡ d.jobs → entries ≡ d.entries → IsIsolated (map answered_of (full_entries entries (pies_of jobs)))
still_isolated d good jobs entries js es =
    subst (λ (x : List FullEntry). IsIsolated (map answered_of x)) (sym (λ i. full_entries (es i) (pies_of (js i)))) (journal_isolated d good)

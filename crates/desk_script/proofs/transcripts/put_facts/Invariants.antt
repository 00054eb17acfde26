use Rattle.std.proofs.Common.{◌≡◌, ◌++◌, take}
use Rattle.std.specs.List.{flat_map}
use Rattle.desk_script.specs.Transcripts.{fact_line}
use Rattle.desk_script.proofs.transcripts.put_facts.Given as goal

abbrev pub invariant-loop-fact : goal.invariant-loop-fact
invariant-loop-fact l = l.text.items ≡ l.fn.text.items ++ flat_map fact_line (take l.fact-index l.facts)

use Rattle.std.proofs.Common.{◌≡◌, ◌+◌, ◌≤◌, List, length}
use Rattle.perf_data.specs.Records.{RecordValue}
use Rattle.perf_data.specs.Streams.{GoesOn, due_left}
use Rattle.sampled_profile.specs.Kept.{IsScript}
use Rattle.sampled_profile.specs.Profiles.{tables}
use Rattle.sampled_profile.proofs.StreamedLemmas.{ReadsOn}
use Rattle.sampled_profile.proofs.streamed.put_records.Given as goal

abbrev pub invariant-loop-script : goal.invariant-loop-script
invariant-loop-script g l = record {
  told : (earlier : List RecordValue) × ReadsOn earlier (due_left l.fn.reader (g.I.Source.left l.fn.input)) (due_left l.reader (g.I.Source.left l.input)) × (IsScript (tables l.space l.origins l.limit) l.script earlier)
      × (length earlier + l.reader.size ≤ l.fn.reader.size);
  same : l.cache ≡ l.space;
  on : GoesOn (g.I.Source.left l.fn.input) (g.I.Source.left l.input) (g.I.Source.faults l.fn.input) (g.I.Source.faults l.input);
}

abbrev pub decreases-loop-script : goal.decreases-loop-script
decreases-loop-script g l = l.reader.size

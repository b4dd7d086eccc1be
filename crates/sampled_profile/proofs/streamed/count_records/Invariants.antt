use Rattle.std.proofs.Common.{◌≡◌, ◌+◌, ◌≤◌, List, length}
use Rattle.perf_data.specs.Records.{RecordValue}
use Rattle.perf_data.specs.Streams.{GoesOn, due_left}
use Rattle.stack_snapshot.specs.Origins.{OriginValue}
use Rattle.sampled_profile.specs.Kept.{IsTally}
use Rattle.sampled_profile.specs.Profiles.{tables}
use Rattle.sampled_profile.proofs.StreamedLemmas.{ReadsOn}
use Rattle.sampled_profile.proofs.streamed.count_records.Given as goal

abbrev pub invariant-loop-tally : goal.invariant-loop-tally
invariant-loop-tally g l = record {
  told : (earlier : List RecordValue) × ReadsOn earlier (due_left l.fn.reader (g.I.Source.left l.fn.input)) (due_left l.reader (g.I.Source.left l.input)) × ((origins : List OriginValue) → IsTally (tables l.space origins l.limit) l.tally earlier)
      × (length earlier + l.reader.size ≤ l.fn.reader.size);
  same : l.cache ≡ l.space;
  on : GoesOn (g.I.Source.left l.fn.input) (g.I.Source.left l.input) (g.I.Source.faults l.fn.input) (g.I.Source.faults l.input);
}

abbrev pub decreases-loop-tally : goal.decreases-loop-tally
decreases-loop-tally g l = l.reader.size

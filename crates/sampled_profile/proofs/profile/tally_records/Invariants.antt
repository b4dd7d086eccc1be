use Rattle.std.proofs.Common.{◌≡◌, ◌+◌, ◌≤◌, List, length}
use Rattle.perf_data.specs.Records.{RecordValue}
use Rattle.perf_data.specs.Views.{records_left}
use Rattle.stack_snapshot.specs.Origins.{OriginValue}
use Rattle.sampled_profile.specs.Kept.{IsTally}
use Rattle.sampled_profile.specs.Profiles.{read_after, read_all, tables}
use Rattle.sampled_profile.proofs.profile.tally_records.Given as goal

abbrev pub invariant-loop-tally : goal.invariant-loop-tally
invariant-loop-tally l =
    (earlier : List RecordValue) × (read_after earlier (records_left l.records) ≡ read_all (records_left l.fn.records)) × ((origins : List OriginValue) → IsTally (tables l.space origins l.limit) l.tally earlier)
    × (length earlier + length (records_left l.records) ≤ length (records_left l.fn.records)) × (l.cache ≡ l.space)

abbrev pub decreases-loop-tally : goal.decreases-loop-tally
decreases-loop-tally l = length (records_left l.records)

use Rattle.std.proofs.Common.{◌≡◌, List, length}
use Rattle.perf_data.specs.Records.{RecordValue}
use Rattle.perf_data.specs.Views.{records_left}
use Rattle.sampled_profile.specs.Kept.{IsScript}
use Rattle.sampled_profile.specs.Profiles.{read_after, read_all, tables}
use Rattle.sampled_profile.proofs.script.script_records.Given as goal

abbrev pub invariant-loop-script : goal.invariant-loop-script
invariant-loop-script l =
    (earlier : List RecordValue) × (read_after earlier (records_left l.records) ≡ read_all (records_left l.fn.records)) × IsScript (tables l.space l.origins l.limit) l.script earlier × (l.cache ≡ l.space)

abbrev pub decreases-loop-script : goal.decreases-loop-script
decreases-loop-script l = length (records_left l.records)

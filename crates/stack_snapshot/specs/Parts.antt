-- What a snapshot's parts hold, and which of them is the first faulty one.
use Rattle.std.specs.Prelude.{Result, Ok}
use Rattle.stack_snapshot.specs.declared.errors.Field.{Field}
use Rattle.stack_snapshot.specs.declared.errors.Field.TheVariants as fields
use Rattle.stack_snapshot.specs.declared.parts.SnapshotParts.{SnapshotParts}
use Rattle.stack_snapshot.specs.Content.{Content}
use Rattle.stack_snapshot.specs.Owned.{spans_of}
use Rattle.memory_image.specs.Results.{◌>>=◌}
use Rattle.stack_snapshot.specs.Snapshot.{needs, if_taken, if_space_takes, if_in_range}

abbrev pub content_in : SnapshotParts → Content
content_in p = record {
  regions = spans_of p.regions.items;
  modules = p.modules.items;
  start = p.start;
  exception = p.exception;
  class = p.class;
  resumes = p.resumes;
  limit = p.limit;
  interrupted = p.interrupted;
}

-- what these parts make, where each of them is taken
abbrev pub content_if_taken : Content → Result Content Field
content_if_taken s = do
  regions ← needs fields.Regions (if_taken s.regions)
  modules ← needs fields.Modules (if_space_takes s.modules)
  limit ← needs fields.Limit (if_in_range s.limit)
  Ok (record s { regions = regions; modules = modules; limit = limit })

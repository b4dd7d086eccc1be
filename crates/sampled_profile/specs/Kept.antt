-- What the code holds: names by threads, and what is known after the records so far. No public clause cites this.
use Rattle.std.specs.Prelude.{◌≡◌, ◌<◌, ◌^◌, ℕ, List, Option, Result, Ok, Err, length, option_map}
use Rattle.std.specs.Ordering.{nat_cmp}
use Rattle.std.specs.BTreeMap.{get}
use Rattle.perf_data.specs.Records.{RecordValue}
use Rattle.perf_data.specs.declared.errors.PerfError.{PerfError}
use Rattle.stack_snapshot.specs.Origins.{OriginValue}
use Rattle.sampled_profile.specs.declared.names.ThreadNames.{ThreadNames}
use Rattle.sampled_profile.specs.declared.profile.Tally.{Tally}
use Rattle.sampled_profile.specs.declared.profile.ProfileError.{ProfileError}
use Rattle.sampled_profile.specs.declared.profile.ProfileError.TheVariants.{NoMemory, Unread}
use Rattle.sampled_profile.specs.declared.script.Script.{Script}
use Rattle.sampled_profile.specs.declared.stack_table.StackTable.{StackTable}
use Rattle.sampled_profile.specs.Names.{name_within, own_name, parent_of}
use Rattle.sampled_profile.specs.Profiles.{Tables, read_all, stacks_of}
use Rattle.sampled_profile.specs.Scripts.{script_text}
use Rattle.sampled_profile.specs.Tables.{ShowsStacks, total_of}

-- the name that is kept of a thread, and its parent
abbrev pub own_kept : ThreadNames → ℕ → Option (List ℕ)
own_kept names thread = option_map (λ name. name.items) (get nat_cmp names.names thread)

abbrev pub parent_kept : ThreadNames → ℕ → Option ℕ
parent_kept names thread = get nat_cmp names.parents thread

abbrev pub name_kept : ThreadNames → ℕ → ℕ → Option (List ℕ)
name_kept names most thread = name_within most (own_kept names) (parent_kept names) thread

-- each thread has the name and the parent that these records say
abbrev pub Knows : ThreadNames → List RecordValue → Type 0
Knows names earlier = (thread : ℕ) → (own_kept names thread ≡ own_name earlier thread) × (parent_kept names thread ≡ parent_of earlier thread)

-- The names and the numbers are those after these records, and the room has its places.
pub record IsTally (t : Tables) (tally : Tally) (earlier : List RecordValue) : Type 0 where
  pub names : Knows tally.names earlier
  pub shows : ShowsStacks t.origins tally.stacks.counts.entries (stacks_of t earlier)
  pub total : total_of tally.stacks.counts.entries ≡ length (stacks_of t earlier)
  pub places : tally.room.limit ≡ t.limit

-- after all records, by whatever files frames are named
pub record IsCounted (tables_by : List OriginValue → Tables) (table : StackTable) (read : List RecordValue) : Type 0 where
  pub shows : (origins : List OriginValue) → ShowsStacks origins table.counts.entries (stacks_of (tables_by origins) read)
  pub few : total_of table.counts.entries < 2 ^ 64

-- the stacks of records, or the error at which reading stops
abbrev pub Counts : Result StackTable ProfileError → (List OriginValue → Tables) → List (Result RecordValue PerfError) → Type 0
Counts (Ok table) tables_by records = (read : List RecordValue) × (read_all records ≡ Ok read) × IsCounted tables_by table read
Counts (Err NoMemory) tables_by records = Unit {0}
Counts (Err (Unread e)) tables_by records = read_all records ≡ Err e

-- The names and the lines are those after these records, and the room has its places.
pub record IsScript (t : Tables) (script : Script) (earlier : List RecordValue) : Type 0 where
  pub names : Knows script.names earlier
  pub text : script.text ≡ script_text t earlier
  pub places : script.room.limit ≡ t.limit

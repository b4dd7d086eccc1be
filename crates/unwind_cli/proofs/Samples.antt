-- Snapshots of valid processes are described ones.
use Rattle.std.proofs.Common.{◌≡◌, ◌<◌, List, ◌∷◌, length, Some, refl}
use Rattle.unwind_definitions.specs.Caller.{Columns}
use Rattle.unwind_definitions.specs.State.{State, Shows, column_of, value_of}
use Rattle.unwind_definitions.specs.Function.{Function}
use Rattle.unwind_definitions.specs.Chain.{Call}
use Rattle.unwind_definitions.specs.Valid.{IsElfValid}
use Rattle.unwind_laws.specs.Three as three
use Rattle.unwind_laws.specs.Storing as storing
use Rattle.unwind_laws.proofs.RowFacts.{by_register}
use Rattle.format_definitions.specs.Calls.{IsDescribedCall}
use Rattle.format_laws.proofs.Parts.{valid_described}
use Rattle.unwind_arch.specs.ContextViews.{columns_of}
use Rattle.stack_steps.specs.Modules.{AreElf}
use Rattle.stack_steps.specs.SpaceViews.{process_of, formats_of}
use Rattle.stack_walks.specs.Walking.{StartsChain}
use Rattle.stack_walks.proofs.LineShows.{call_in}
use Rattle.stack_deliver.proofs.ElfDeliveries.{elf_starts_valid}
use Rattle.stack_snapshot.specs.Content.{Content, space_of}
use Rattle.unwind_cli.specs.Caught as caught
use Rattle.unwind_cli.specs.FramePointer as frame_pointer
use Rattle.stack_snapshot.specs.Described.{DescribesChain}

pub described : (s : Content) (functions : List Function) (start : State) (calls : List Call) (columns : Columns) → IsElfValid (process_of (space_of s)) columns s.resumes functions start calls
    → AreElf (space_of s).modules → Shows (columns_of s.start) start → length calls < s.limit → DescribesChain s functions start calls
described s functions start calls columns w elf shows shorter = elf_starts_valid (space_of s) functions start s.resumes calls columns elf w s.start s.limit shows shorter

-- so is a walk over such a chain
pub walk_described : (s : Content) (functions : List Function) (start : State) (calls : List Call) → DescribesChain s functions start calls → StartsChain (space_of s) s.start s.limit functions start calls
walk_described s functions start calls is = record {
  described = valid_described (space_of s).image (formats_of (space_of s)) (columns_of s.start) s.resumes functions start calls is.valid;
  shows = is.valid.shows;
  shorter = is.shorter;
}

-- the innermost call of a described chain is described
pub first_described : (s : Content) (functions : List Function) (start : State) (c : Call) (calls : List Call) → DescribesChain s functions start (c ∷ calls) → IsDescribedCall (space_of s).image (formats_of (space_of s)) functions start c
unfolding call_in
first_described s functions start c calls is = call_in (space_of s) functions start c calls is.valid.chain (walk_described s functions start (c ∷ calls) is).described.described.0

-- ---- what the starts show

pub shows_start : Shows (columns_of (caught.start_at 0x70b0 0x70c0)) three.start
shows_start = record { ra = refl; sp = refl; saved = λ r. by_register (λ r. columns_of (caught.start_at 0x70b0 0x70c0) (column_of r) ≡ Some (value_of r three.start)) refl refl refl refl refl refl r }

pub shows_deep : Shows (columns_of (caught.start_at 0x7090 0x70a0)) three.deep_start
shows_deep = record { ra = refl; sp = refl; saved = λ r. by_register (λ r. columns_of (caught.start_at 0x7090 0x70a0) (column_of r) ≡ Some (value_of r three.deep_start)) refl refl refl refl refl refl r }

pub shows_stored : Shows (columns_of frame_pointer.snapshot.start) storing.start
shows_stored = record { ra = refl; sp = refl; saved = λ r. by_register (λ r. columns_of frame_pointer.snapshot.start (column_of r) ≡ Some (value_of r storing.start)) refl refl refl refl refl refl r }

-- Walks and deliveries may start over a space with modules of three formats.
use Rattle.std.proofs.Common.{◌≡◌, ◌∷◌, Some, refl, lit<}
use Rattle.unwind_definitions.specs.State.{CalleeSaved, RBX, RBP, R12, R13, R14, R15, State, value_of, column_of, Shows}
use Rattle.unwind_laws.specs.Three as three
use Rattle.unwind_laws.specs.Columns as states
use Rattle.unwind_arch.specs.ContextViews.{columns_of}
use Rattle.format_laws.specs.Sample as mixed
use Rattle.format_laws.specs.PeSamples.{room_image}
use Rattle.format_laws.proofs.Caught.{caught_valid}
use Rattle.format_laws.proofs.Stops.{macho_body, room_described, pe_body, pe_prologue, outer_described}
use Rattle.format_laws.proofs.Parts.{valid_described}
use Rattle.stack_steps.specs.Stopped.{StartsStopped}
use Rattle.stack_walks.specs.Walking.{StartsChain}
use Rattle.stack_deliver.specs.Delivering.{StartsValidChain}
use Rattle.stack_steps.specs.FormatStopSample.{space_of_three}
use Rattle.delivery_laws.specs.StateRegisters.{registers_of}

-- the registers of a state show it
pub registers_show : (s : State) → Shows (columns_of (registers_of s)) s
registers_show s = record { ra = refl; sp = refl; saved = each }
  where
    each : (r : CalleeSaved) → columns_of (registers_of s) (column_of r) ≡ Some (value_of r s)
    each RBX = refl
    each RBP = refl
    each R12 = refl
    each R13 = refl
    each R14 = refl
    each R15 = refl

pub chain_starts : StartsChain space_of_three (registers_of mixed.caught_start) 5 mixed.functions mixed.caught_start mixed.caught_calls
chain_starts = record {
  described = valid_described room_image mixed.modules (states.columns_of mixed.caught_start) three.resumes mixed.functions mixed.caught_start mixed.caught_calls caught_valid;
  shows = registers_show mixed.caught_start;
  shorter = lit< tt;
}

pub valid_starts : StartsValidChain space_of_three (registers_of mixed.caught_start) three.resumes 5 mixed.functions mixed.caught_start mixed.caught_calls
valid_starts = record {
  valid = record { parts = caught_valid.parts; no_others = caught_valid.no_others; shows = registers_show mixed.caught_start; chain = caught_valid.chain; resumed = caught_valid.resumed };
  shorter = lit< tt;
}

pub macho_body_starts : StartsStopped space_of_three (registers_of mixed.caught_start) 5 mixed.functions mixed.caught_start mixed.caught_frameless (mixed.caught_pushing ∷ mixed.outer_calls)
macho_body_starts = record { stopped = macho_body; described = room_described; shows = registers_show mixed.caught_start; shorter = lit< tt }

pub pe_body_starts : StartsStopped space_of_three (registers_of mixed.caught_room) 4 mixed.functions mixed.caught_room mixed.caught_pushing mixed.outer_calls
pe_body_starts = record { stopped = pe_body; described = outer_described; shows = registers_show mixed.caught_room; shorter = lit< tt }

pub pe_prologue_starts : StartsStopped space_of_three (registers_of mixed.pushed_room) 4 mixed.functions mixed.pushed_room mixed.caught_pushing mixed.outer_calls
pe_prologue_starts = record { stopped = pe_prologue; described = outer_described; shows = registers_show mixed.pushed_room; shorter = lit< tt }

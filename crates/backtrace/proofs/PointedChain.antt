-- The sample of a frame pointer: it leads to the second state of a described chain.
use Rattle.std.proofs.Common.{◌≡◌, false, [], ◌∷◌, List, Some, None, refl, arith, lit<}
use Rattle.memory_image.specs.Image.{word_at}
use Rattle.unwind_definitions.specs.State.{CalleeSaved, RBX, RBP, R12, R13, R14, R15, IsState, Shows, column_of, value_of}
use Rattle.unwind_definitions.specs.Chain.{Call}
use Rattle.unwind_definitions.specs.Prologue.{distance}
use Rattle.unwind_definitions.specs.Entered.{IsEntered}
use Rattle.unwind_laws.specs.Three as three
use Rattle.unwind_laws.proofs.RowFacts.{by_register, state_fits}
use Rattle.unwind_arch.specs.ContextViews.{columns_of}
use Rattle.stack_walks.specs.Walking.{StartsChain}
use Rattle.stack_snapshot.specs.Content.{space_of}
use Rattle.backtrace.specs.FramePointers.{frame_pointer_steps}
use Rattle.backtrace.specs.PointedSample.{callee, caller, snapshot, start}
use Rattle.backtrace.proofs.CallingChain as calling

-- the calls of the chain after its first
abbrev pub later : List Call
later = record { callee = three.fb; caller = three.third 0x401060 } ∷ record { callee = three.fc; caller = three.last } ∷ []

caller_shows : Shows (columns_of caller) three.second
caller_shows = record { ra = refl; sp = refl; saved = λ r. by_register (λ r. columns_of caller (column_of r) ≡ Some (value_of r three.second)) refl refl refl refl refl refl r }

pub starts : StartsChain (space_of snapshot) caller 7 three.functions three.second later
starts = record {
  described = record { chain = calling.starts.described.chain.1; described = calling.starts.described.described.1; ends = calling.starts.described.ends };
  shows = caller_shows;
  shorter = omega arith;
}

-- ---- what a frame pointer asks

pub shows : Shows (columns_of start) callee
shows = record { ra = refl; sp = refl; saved = λ r. by_register (λ r. columns_of start (column_of r) ≡ Some (value_of r callee)) refl refl refl refl refl refl r }

pub entered : IsEntered (space_of snapshot).image false frame_pointer_steps three.second callee
unfolding word_at
entered = record {
  room = omega arith;
  returns = λ inner. refl;
  leaves = (omega arith, refl, (lit< tt, tt));
  stack = (omega arith, refl);
  keeps = keeps;
}
  where
    keeps : (r : CalleeSaved) → distance r frame_pointer_steps ≡ None → value_of r callee ≡ value_of r three.second
    keeps RBX none = refl
    keeps RBP none = absurd cc
    keeps R12 none = refl
    keeps R13 none = refl
    keeps R14 none = refl
    keeps R15 none = refl

pub fits : IsState three.second
fits = state_fits three.second (lit< tt) (lit< tt) (lit< tt) (lit< tt) (lit< tt) (lit< tt) (lit< tt) (lit< tt)

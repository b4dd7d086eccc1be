-- The sample of a call through a null pointer: it was entered by a call, and its caller ends the stack.
use Rattle.std.proofs.Common.{inl, inr, ◌≡◌, ◌≢◌, ℕ, false, [], Some, refl, arith, lit<}
use Rattle.memory_image.specs.Image.{word_at}
use Rattle.unwind_definitions.specs.State.{CalleeSaved, RBX, RBP, R12, R13, R14, R15, IsState, Shows, column_of, value_of}
use Rattle.unwind_definitions.specs.Entered.{IsEntered}
use Rattle.unwind_arch.specs.ContextViews.{columns_of}
use Rattle.unwind_laws.proofs.Booleans.{none_in_nil}
use Rattle.unwind_laws.proofs.RowFacts.{state_fits}
use Rattle.format_definitions.specs.Modules.{IsDescribedChain}
use Rattle.stack_steps.specs.SpaceViews.{formats_of}
use Rattle.stack_snapshot.specs.Content.{space_of}
use Rattle.backtrace.specs.Code.{without_code}
use Rattle.backtrace.specs.Sample.{callee, caller, snapshot}
use Rattle.backtrace.specs.Due.{DescribesCallToNowhere}
use Rattle.backtrace.specs.KnownStacks.{BeginsByCallToNowhere}

pub kept : (r : CalleeSaved) → value_of r callee ≡ value_of r caller
kept RBX = refl
kept RBP = refl
kept R12 = refl
kept R13 = refl
kept R14 = refl
kept R15 = refl

shown : (r : CalleeSaved) → columns_of snapshot.start (column_of r) ≡ Some (value_of r callee)
shown RBX = refl
shown RBP = refl
shown R12 = refl
shown R13 = refl
shown R14 = refl
shown R15 = refl

pub shows : Shows (columns_of snapshot.start) callee
shows = record { ra = refl; sp = refl; saved = shown }

pub entered : IsEntered (space_of snapshot).image false [] caller callee
unfolding word_at
entered = record { room = omega arith; returns = λ inner. refl; leaves = tt; stack = refl; keeps = λ r none. kept r }

returns_somewhere : ◌≢◌ {A = ℕ} 0x1005 0
returns_somewhere h = cc

fits : IsState caller
fits = state_fits caller (lit< tt) (lit< tt) (lit< tt) (lit< tt) (lit< tt) (lit< tt) (lit< tt) (lit< tt)

-- no module holds the caller's return address
alone : IsDescribedChain (space_of snapshot).image (formats_of (space_of snapshot)) [] caller []
alone = record { chain = record { state = fits; ends = inr (returns_somewhere, λ m has. absurd (none_in_nil m has)) }; described = tt; ends = inr (λ m has. absurd (none_in_nil m has)) }

pub described : DescribesCallToNowhere snapshot (without_code []) [] callee caller []
described = record { nowhere = (refl, inl refl, refl); entered = entered; returns = returns_somewhere; shows = shows; described = alone; shorter = lit< tt }

-- it is a known stack by itself
pub begins : BeginsByCallToNowhere snapshot (without_code []) callee caller []
begins = record {
  nowhere = (refl, inl refl, refl);
  entered = entered;
  returns = returns_somewhere;
  shows = shows;
  stack = record { state = fits; ends = inr (returns_somewhere, λ m has. absurd (none_in_nil m has)) };
  shorter = lit< tt;
}

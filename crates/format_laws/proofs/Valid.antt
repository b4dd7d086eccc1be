-- Calls through modules of three formats are a described chain.
use Rattle.std.proofs.Common.{◌≡◌, Some, refl, inl, lit<, lit≤}
use Rattle.memory_image.specs.Image.{word_at, IsLaidOut}
use Rattle.unwind_definitions.specs.Chain.{IsChain}
use Rattle.unwind_laws.specs.Three as three
use Rattle.unwind_laws.proofs.RowFacts.{state_fits}
use Rattle.unwind_laws.proofs.ThreeValid.{function_c, words}
use Rattle.format_definitions.specs.Modules.{Elf, Macho, Pe, IsUncoveredBy, LiesDescribed, IsDescribedChain}
use Rattle.format_laws.specs.Sample.{modules, functions, calls}
use Rattle.format_laws.specs.Undone.{CanUndo}
use Rattle.format_laws.specs.MachoSamples.{sample_module, frameless_function, frameless_state, frameless_caller}
use Rattle.format_laws.specs.PeSamples.{module_of_one, room_image, room_function, room_state}
use Rattle.format_laws.proofs.MachoValid.{frameless_is_function, described_in, frameless_entered}
use Rattle.format_laws.proofs.ElfThree as elf
use Rattle.format_laws.proofs.PeRoom as room

pub laid_out : IsLaidOut 0 room_image
laid_out = (lit≤ tt, lit< tt, lit≤ tt, (lit≤ tt, lit< tt, lit≤ tt, (lit≤ tt, lit< tt, lit≤ tt, (lit≤ tt, lit< tt, lit≤ tt, (lit≤ tt, lit< tt, lit≤ tt, (lit≤ tt, lit< tt, lit≤ tt, (lit≤ tt, lit< tt, lit≤ tt, (lit≤ tt, lit< tt, lit≤ tt, tt))))))))

unfoldable pub frameless_lies : LiesDescribed room_image modules functions frameless_function
frameless_lies = record { home = Macho sample_module; known = (1, lit< tt, refl); inside = refl; is_function = frameless_is_function; describes = described_in room_image refl }

unfoldable pub room_lies : LiesDescribed room_image modules functions room_function
room_lies = record { home = Pe module_of_one; known = (2, lit< tt, refl); inside = refl; is_function = room.is_function; describes = room.module_described }

pub third_lies : LiesDescribed room_image modules functions three.fc
third_lies = record { home = Elf three.module_of_them; known = (0, lit< tt, refl); inside = refl; is_function = function_c; describes = elf.described }

return_at : word_at room_image 0x70a0 ≡ Some 0x140001050
unfolding word_at
return_at = refl

chain : IsChain room_image (IsUncoveredBy room_image modules) functions frameless_state calls
chain = (
  record { state = state_fits frameless_state (lit< tt) (lit< tt) (lit< tt) (lit< tt) (lit< tt) (lit< tt) (lit< tt) (lit< tt); listed = (2, lit< tt, refl); called = record { returns = λ e. absurd cc; inside = refl; entered = frameless_entered room_image return_at }; last = λ outer. absurd cc },
  (
    record { state = state_fits room_state (lit< tt) (lit< tt) (lit< tt) (lit< tt) (lit< tt) (lit< tt) (lit< tt) (lit< tt); listed = (0, lit< tt, refl); called = record { returns = λ e. absurd cc; inside = refl; entered = room.entered }; last = λ outer. absurd cc },
    (
      record { state = room.caller_fits; listed = (6, lit< tt, refl); called = record { returns = λ e. absurd cc; inside = refl; entered = elf.entered }; last = λ outer. absurd cc },
      record { state = words three.last (lit< tt) (lit< tt) (lit< tt) (lit< tt) (lit< tt) refl refl refl; ends = inl refl },
    ),
  ),
)

pub is_chain : IsDescribedChain room_image modules functions frameless_state calls
is_chain = record { chain = chain; described = (frameless_lies, (room_lies, (third_lies, tt))); ends = inl refl }

-- the step of its innermost call may be taken
pub innermost : CanUndo room_image modules functions 0x10000100f frameless_state (record { callee = frameless_function; caller = frameless_caller })
innermost = record {
  listed = (2, lit< tt, refl);
  lies = frameless_lies;
  inside = refl;
  entered = frameless_entered room_image return_at;
  caller = state_fits room_state (lit< tt) (lit< tt) (lit< tt) (lit< tt) (lit< tt) (lit< tt) (lit< tt) (lit< tt);
  ends = λ outer. absurd cc;
}

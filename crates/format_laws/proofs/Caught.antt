-- Calls through modules of three formats are valid, and an exception in them is caught.
use Rattle.std.proofs.Common.{◌≡◌, zero, suc, false, None, ◌∷◌, refl, arith, inl, lit<, lit≤}
use Rattle.std.specs.List.{AllPairs}
use Rattle.memory_image.specs.Image.{word_at}
use Rattle.unwind_definitions.specs.State.{IsState, value_of}
use Rattle.unwind_definitions.specs.Prologue.{steps_of, distance}
use Rattle.unwind_definitions.specs.Entered.{IsEntered}
use Rattle.unwind_definitions.specs.Chain.{IsChain}
use Rattle.unwind_laws.specs.Columns.{columns_of}
use Rattle.unwind_laws.specs.Three as three
use Rattle.unwind_laws.proofs.PushingValid.{columns_show}
use Rattle.unwind_laws.proofs.RowFacts.{by_register, state_fits}
use Rattle.unwind_laws.proofs.ThreeValid.{function_a, function_b, function_c, words}
use Rattle.format_definitions.specs.Modules.{Elf, Macho, Pe, IsUncoveredBy}
use Rattle.format_definitions.specs.Process.{FormatsApart, IsProcess}
use Rattle.format_definitions.specs.Valid.{DescribesItsPart, IsValid}
use Rattle.format_laws.specs.Sample.{modules, functions, caught_start, caught_room, outer_calls, caught_calls}
use Rattle.format_laws.specs.MachoSamples.{sample_module, frameless_function}
use Rattle.format_laws.specs.PeSamples.{module_of_one, room_image, room_function}
use Rattle.format_laws.proofs.MachoValid.{frameless_is_function, framed_is_function, described_in}
use Rattle.format_laws.proofs.ElfThree as elf
use Rattle.format_laws.proofs.PeRoom as room
use Rattle.format_laws.proofs.Valid.{laid_out}

-- ---- the process

pub modules_apart : AllPairs FormatsApart modules
modules_apart i zero d lt below = absurd (omega arith)
modules_apart zero (suc zero) d lt below = inl (lit≤ tt)
modules_apart zero (suc (suc zero)) d lt below = inl (lit≤ tt)
modules_apart (suc zero) (suc zero) d lt below = absurd (omega arith)
modules_apart (suc zero) (suc (suc zero)) d lt below = inl (lit≤ tt)
modules_apart (suc (suc i)) (suc zero) d lt below = absurd (omega arith)
modules_apart (suc (suc i)) (suc (suc zero)) d lt below = absurd (omega arith)
modules_apart i (suc (suc (suc j))) d lt below = absurd (omega arith)

pub is_process : IsProcess room_image modules
is_process = record { regions = laid_out; ranges = ((lit< tt, lit< tt), ((lit< tt, lit< tt), ((lit< tt, lit< tt), tt))); apart = modules_apart }

-- ---- what its modules describe

elf_part : DescribesItsPart room_image functions (Elf three.module_of_them)
elf_part = record { are_functions = (function_a, (function_b, (function_c, tt))); describes = elf.described }

macho_part : DescribesItsPart room_image functions (Macho sample_module)
macho_part = record { are_functions = (frameless_is_function, (framed_is_function, tt)); describes = described_in room_image refl }

pe_part : DescribesItsPart room_image functions (Pe module_of_one)
pe_part = record { are_functions = (room.is_function, (room.leaf_is_function, tt)); describes = room.module_described }

-- ---- the calls

pub frameless_entered : IsEntered room_image false (steps_of frameless_function.prologue) caught_room caught_start
unfolding word_at
frameless_entered = record { room = lit≤ tt; returns = λ _. refl; leaves = tt; stack = refl; keeps = λ r e. by_register (λ q. value_of q caught_start ≡ value_of q caught_room) refl refl refl refl refl refl r }

pub room_entered : IsEntered room_image false (steps_of room_function.prologue) three.second caught_room
unfolding word_at
room_entered = record {
  room = lit≤ tt;
  returns = λ _. refl;
  leaves = (lit≤ tt, refl, (lit≤ tt, tt));
  stack = refl;
  keeps = by_register (λ r. distance r (steps_of room_function.prologue) ≡ None → value_of r caught_room ≡ value_of r three.second) (λ e. absurd cc) (λ e. refl) (λ e. refl) (λ e. refl) (λ e. refl) (λ e. refl);
}

second_entered : IsEntered room_image false (steps_of three.fb.prologue) (three.third 0x401060) three.second
unfolding word_at
second_entered = record {
  room = lit≤ tt;
  returns = λ _. refl;
  leaves = (lit≤ tt, refl, tt);
  stack = refl;
  keeps = by_register (λ r. distance r (steps_of three.fb.prologue) ≡ None → value_of r three.second ≡ value_of r (three.third 0x401060)) (λ e. absurd cc) (λ e. refl) (λ e. refl) (λ e. refl) (λ e. refl) (λ e. refl);
}

pub start_fits : IsState caught_start
start_fits = state_fits caught_start (lit< tt) (lit< tt) (lit< tt) (lit< tt) (lit< tt) (lit< tt) (lit< tt) (lit< tt)

pub room_fits : IsState caught_room
room_fits = state_fits caught_room (lit< tt) (lit< tt) (lit< tt) (lit< tt) (lit< tt) (lit< tt) (lit< tt) (lit< tt)

pub second_fits : IsState three.second
second_fits = words three.second (lit< tt) (lit< tt) (lit< tt) (lit< tt) (lit< tt) refl refl refl

-- the calls of the ELF functions
pub outer_chain : IsChain room_image (IsUncoveredBy room_image modules) functions three.second outer_calls
outer_chain = (
  record { state = second_fits; listed = (5, lit< tt, refl); called = record { returns = λ e. absurd cc; inside = refl; entered = second_entered }; last = λ outer. absurd cc },
  (
    record {
      state = words (three.third 0x401060) (lit< tt) (lit< tt) (lit< tt) (lit< tt) (lit< tt) refl refl refl;
      listed = (6, lit< tt, refl);
      called = record { returns = λ e. absurd cc; inside = refl; entered = elf.entered };
      last = λ outer. absurd cc;
    },
    record { state = words three.last (lit< tt) (lit< tt) (lit< tt) (lit< tt) (lit< tt) refl refl refl; ends = inl refl },
  ),
)

pub room_chain : IsChain room_image (IsUncoveredBy room_image modules) functions caught_room (record { callee = room_function; caller = three.second } ∷ outer_calls)
room_chain = (record { state = room_fits; listed = (0, lit< tt, refl); called = record { returns = λ e. absurd cc; inside = refl; entered = room_entered }; last = λ outer. absurd cc }, outer_chain)

chain : IsChain room_image (IsUncoveredBy room_image modules) functions caught_start caught_calls
chain = (record { state = start_fits; listed = (2, lit< tt, refl); called = record { returns = λ e. absurd cc; inside = refl; entered = frameless_entered }; last = λ outer. absurd cc }, room_chain)

pub caught_valid : IsValid room_image modules (columns_of caught_start) three.resumes functions caught_start caught_calls
caught_valid = record {
  parts = (elf_part, (macho_part, (pe_part, tt)));
  no_others = (refl, (refl, (refl, (refl, (refl, (refl, (refl, tt)))))));
  shows = columns_show caught_start;
  chain = chain;
  resumed = λ f found accepted. (tt, (tt, ((λ e. absurd cc, refl, refl), tt)));
}

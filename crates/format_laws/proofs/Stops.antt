-- States that were stopped where they stand, in functions of Mach-O and PE modules, and the chains that their callers begin.
use Rattle.std.proofs.Common.{◌≡◌, false, List, [], ◌∷◌, refl, inl, lit<, lit≤}
use Rattle.memory_image.specs.Image.{word_at}
use Rattle.unwind_definitions.specs.State.{RBX, value_of}
use Rattle.unwind_definitions.specs.Prologue.{Followed, Push, Allocate, PrologueStep, steps_of}
use Rattle.unwind_definitions.specs.Entered.{IsEntered}
use Rattle.unwind_definitions.specs.Stopped.{StandsAfter}
use Rattle.unwind_laws.specs.Three as three
use Rattle.unwind_laws.proofs.Booleans.{pairs_one}
use Rattle.unwind_laws.proofs.RowFacts.{by_register}
use Rattle.unwind_laws.proofs.ThreeValid.{function_b}
use Rattle.pe_unwind_info.specs.Epilog.{parsed_instruction, sequence_from}
use Rattle.pe_unwind_info.specs.EpilogList.{leading_epilogs}
use Rattle.pe_unwind_info.specs.Operations.{operations_of}
use Rattle.format_definitions.specs.PeImage.{memory_of}
use Rattle.format_definitions.specs.PeModules.{IsInNoEpilog}
use Rattle.format_definitions.specs.Modules.{Elf, Pe, LiesDescribed, IsDescribedChain}
use Rattle.format_definitions.specs.Process.{FormatsApart, IsProcess}
use Rattle.format_definitions.specs.Stops.{at_body, at_prologue, at_epilog, IsDescribedStop}
use Rattle.format_laws.specs.Sample.{modules, functions, caught_start, caught_room, caught_frameless, caught_pushing, outer_calls, pushed_room, pe_modules, epilog_call}
use Rattle.format_laws.specs.PeSamples.{module_of_one, room_image, room_info, room_function, loop_record, epilog_image, epilog_function, epilog_start, epilog_state, epilog_caller}
use Rattle.format_laws.proofs.ElfThree as elf
use Rattle.format_laws.proofs.PeQuiet.{quiet_at}
use Rattle.format_laws.proofs.PeRoom as room
use Rattle.format_laws.proofs.PeListed as listed
use Rattle.format_laws.proofs.Valid.{frameless_lies, room_lies, third_lies}
use Rattle.format_laws.proofs.Caught.{frameless_entered, room_entered, room_fits, second_fits, outer_chain, room_chain}

-- ---- the chains
second_lies : LiesDescribed room_image modules functions three.fb
second_lies = record { home = Elf three.module_of_them; known = (0, lit< tt, refl); inside = refl; is_function = function_b; describes = elf.described }

pub outer_described : IsDescribedChain room_image modules functions three.second outer_calls
outer_described = record { chain = outer_chain; described = (second_lies, (third_lies, tt)); ends = inl refl }

pub room_described : IsDescribedChain room_image modules functions caught_room (caught_pushing ∷ outer_calls)
room_described = record { chain = room_chain; described = (room_lies, (second_lies, (third_lies, tt))); ends = inl refl }

-- ---- in a body
pub macho_body : IsDescribedStop room_image modules functions caught_start caught_frameless
unfolding frameless_lies
macho_body = record { inner = refl; listed = (2, lit< tt, refl); lies = frameless_lies; returns = λ e. absurd cc; stands = record { inside = refl; entered = frameless_entered }; caller = room_fits }

pub pe_body : IsDescribedStop room_image modules functions caught_room caught_pushing
unfolding room_lies room.module_described
pe_body = record { inner = refl; listed = (0, lit< tt, refl); lies = room_lies; returns = λ e. absurd cc; stands = at_body (record { inside = refl; entered = room_entered }); caller = second_fits }

-- ---- after the push of a prologue
abbrev done : List PrologueStep
done = record { step = Push (Followed RBX); end = 1 } ∷ []

abbrev later : List PrologueStep
later = record { step = Allocate 40; end = 5 } ∷ []

pushed_entered : IsEntered room_image false (steps_of done) three.second pushed_room
unfolding word_at
pushed_entered = record {
  room = lit≤ tt;
  returns = λ _. refl;
  leaves = (lit≤ tt, refl, tt);
  stack = refl;
  keeps = λ r e. by_register (λ q. value_of q pushed_room ≡ value_of q three.second) refl refl refl refl refl refl r;
}

pushed_stands : StandsAfter room_image room_function done later three.second pushed_room
pushed_stands = record {
  steps = refl;
  entered = pushed_entered;
  intact = λ r h. by_register (λ q. value_of q pushed_room ≡ value_of q three.second) refl refl refl refl refl refl r;
  after = lit≤ tt;
  below = lit< tt;
}

quiet_here : IsInNoEpilog (memory_of room_image 0x140000000) loop_record room_info 0x1001
unfolding parsed_instruction sequence_from leading_epilogs operations_of
quiet_here = quiet_at (memory_of room_image 0x140000000) loop_record room_info 0x1001 refl

pub pe_prologue : IsDescribedStop room_image modules functions pushed_room caught_pushing
unfolding room_lies room.module_described room.described
pe_prologue = record {
  inner = refl;
  listed = (0, lit< tt, refl);
  lies = room_lies;
  returns = λ e. absurd cc;
  stands = at_prologue (record { function = loop_record; listed = (0, lit< tt, refl); describes = room.described }) quiet_here (record { done = done; later = later; stands = pushed_stands });
  caller = second_fits;
}

-- ---- in an epilog
pub epilog_process : IsProcess epilog_image pe_modules
epilog_process = record { regions = (lit≤ tt, lit< tt, lit≤ tt, (lit≤ tt, lit< tt, lit≤ tt, (lit≤ tt, lit< tt, lit≤ tt, (lit≤ tt, lit< tt, lit≤ tt, tt)))); ranges = ((lit< tt, lit< tt), tt); apart = pairs_one FormatsApart (Pe module_of_one) }

epilog_lies : LiesDescribed epilog_image pe_modules (epilog_function ∷ []) epilog_function
epilog_lies = record { home = Pe module_of_one; known = (0, lit< tt, refl); inside = refl; is_function = listed.is_function; describes = listed.module_described }

pub before_pop : IsDescribedStop epilog_image pe_modules (epilog_function ∷ []) epilog_start epilog_call
unfolding epilog_lies listed.module_described listed.has_record listed.described
before_pop = record { inner = refl; listed = (0, lit< tt, refl); lies = epilog_lies; returns = λ e. absurd cc; stands = at_epilog listed.has_record listed.stands_before; caller = listed.caller_fits }

pub after_pop : IsDescribedStop epilog_image pe_modules (epilog_function ∷ []) epilog_state epilog_call
unfolding epilog_lies listed.module_described listed.has_record listed.described
after_pop = record { inner = refl; listed = (0, lit< tt, refl); lies = epilog_lies; returns = λ e. absurd cc; stands = at_epilog listed.has_record listed.stands_after; caller = listed.caller_fits }

pub nobody_above : IsDescribedChain epilog_image pe_modules (epilog_function ∷ []) epilog_caller []
nobody_above = record { chain = record { state = listed.caller_fits; ends = inl refl }; described = tt; ends = inl refl }

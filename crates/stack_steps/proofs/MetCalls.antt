-- Frames and callers of described calls and stops, in modules of whatever format.
use Rattle.std.proofs.Common.{◌≡◌, ◌≢◌, ℕ, ◌-◌, ◌^◌, ◌<◌, ◌≤◌, Bool, true, false, eqb, List, Some, ap, ◌∙◌, arith}
use Rattle.std.specs.Prelude.{IsTrue}
use Rattle.std.specs.List.{Contains}
use Rattle.std.proofs.lemmas.Bool.Decides.{nat_tests}
use Rattle.memory_image.specs.Image.{IsLaidOut}
use Rattle.unwind_definitions.specs.State.{State, Shows}
use Rattle.unwind_definitions.specs.Prologue.{SystemV, Windows}
use Rattle.unwind_definitions.specs.Function.{Function, IsFunction}
use Rattle.unwind_definitions.specs.LanguageSearch.{address_of_call}
use Rattle.unwind_definitions.specs.Chain.{Call}
use Rattle.unwind_definitions.specs.Module as described
use Rattle.unwind_arch.specs.declared.x86_64.Context.{Context}
use Rattle.unwind_arch.specs.ContextViews.{columns_of}
use Rattle.format_definitions.specs.Calls.{IsDescribedCall}
use Rattle.format_definitions.specs.Modules.{FormatModule, Elf, Macho, Pe, in_format, convention_of, part_of, DescribesFormat}
use Rattle.format_definitions.specs.Stops.{StandsIn, IsDescribedStop}
use Rattle.format_laws.specs.Undone.{FormatUndone, CanUndo}
use Rattle.format_laws.proofs.Homes.{in_home, in_part, body_lies}
use Rattle.format_laws.proofs.Steps.{undone_in}
use Rattle.format_laws.proofs.Stopped.{stop_lies, undone_at}
use Rattle.stack_steps.specs.Modules.{SpaceValue, AreApart}
use Rattle.stack_steps.specs.SpaceViews.{process_of, formats_of}
use Rattle.stack_steps.specs.Stepping.{step_of}
use Rattle.stack_steps.specs.Undoing.{Undone, UndoneIn}
use Rattle.stack_steps.proofs.FoundFrames.{FormatFrame, Met}
use Rattle.stack_steps.proofs.ElfFrames.{IsElfCall}
use Rattle.stack_steps.proofs.ElfFrames as elf
use Rattle.stack_steps.proofs.MachoFrames as macho
use Rattle.stack_steps.proofs.PeFrames as pe
use Rattle.stack_steps.proofs.Holders.{elf_from_format, HoldsAt, added_at}
use Rattle.stack_steps.proofs.StepParts.{some_next, stepped_by, step_is}
use Rattle.stack_steps.proofs.StoppedUndone.{IsElfStop, stopped_undone}

module _ (space : SpaceValue) (c : Context) (functions : List Function) (s : State) (call : Call) (apart : AreApart 0 space.modules) (laid : IsLaidOut 0 space.image) where
  abbrev Lies : FormatModule → Type 0
  Lies home = Contains (formats_of space) home × IsTrue (in_format call.callee.start home) × IsFunction (convention_of home) call.callee

  -- ---- ELF modules

  -- a call of a function in an ELF module is one of the process
  call_in_elf : (m : described.Module) → Lies (Elf m) → DescribesFormat space.image (Elf m) (part_of (Elf m) functions) → IsDescribedCall space.image (formats_of space) functions s call → IsElfCall (process_of space) functions s call
  call_in_elf m lies d is = record {
    is_function = lies.2;
    listed = is.listed;
    lies = record { home = m; known = elf_from_format space.modules m lies.0; inside = lies.1; describes = d };
    called = is.called;
    caller = is.caller;
    ends = is.ends;
  }

  stop_in_elf : (m : described.Module) → Lies (Elf m) → (d : DescribesFormat space.image (Elf m) (part_of (Elf m) functions)) → StandsIn space.image (Elf m) (part_of (Elf m) functions) d s call →
      IsDescribedStop space.image (formats_of space) functions s call → IsElfStop (process_of space) functions s call
  stop_in_elf m lies d stands is = record {
    is_function = lies.2;
    inner = is.inner;
    listed = is.listed;
    lies = record { home = m; known = elf_from_format space.modules m lies.0; inside = lies.1; describes = d };
    returns = is.returns;
    stands = stands;
    caller = is.caller;
  }

  -- ---- the address asked

  module _ (shows : Shows (columns_of c) s) (returns : s.ra ≢ 0) where
    ra_is : c.ra ≡ s.ra
    ra_is = let e : columns_of c 16 ≡ Some s.ra = shows.ra in cc

    not_zero : eqb c.ra 0 ≡ false
    not_zero = let some : s.ra ≢ 0 = returns in let at : c.ra ≡ s.ra = ra_is in grind (arith, nat_tests)

    call_asked : s.ra < 2 ^ 64 → address_of_call c.ra false ≡ s.ra - 1
    call_asked low = let some : s.ra ≢ 0 = returns in let at : c.ra ≡ s.ra = ra_is in omega arith

  -- an address of the function lies in its module
  added_module : (home : FormatModule) → Lies home → DescribesFormat space.image home (part_of home functions) → Contains functions call.callee → (a : ℕ) → call.callee.start ≤ a → a < call.callee.end → HoldsAt space.modules home a
  added_module home lies d listed a low high =
      added_at space.modules home a apart lies.0
      (in_home space.image (formats_of space) functions call.callee (record { home = home; known = lies.0; inside = lies.1; is_function = lies.2; describes = d }) listed a low high)

  -- so the function ends below 2 ^ 64
  ends_low : (home : FormatModule) → Lies home → DescribesFormat space.image home (part_of home functions) → Contains functions call.callee → (a : ℕ) → call.callee.start ≤ a → a < call.callee.end → call.callee.end < 2 ^ 64
  ends_low home lies d listed a low high =
      let last = (added_module home lies d listed (call.callee.end - 1) (omega arith) (omega arith)).low in
      omega arith

  -- and the return address of a call is an address
  pub returns_low : IsDescribedCall space.image (formats_of space) functions s call → s.ra < 2 ^ 64
  returns_low is =
      let at = body_lies (convention_of is.lies.home) call.callee (s.ra - 1) is.lies.is_function is.called.inside in
      let next = (added_module is.lies.home (is.lies.known, is.lies.inside, is.lies.is_function) is.lies.describes is.listed (s.ra - 1) at.0 at.1).low in
      let some : s.ra ≢ 0 = is.called.returns in
      omega arith

  -- ---- what a frame gives

  undone_by : (home : FormatModule) (interrupted : Bool) (a : ℕ) → FormatFrame space c interrupted home call.callee a call.caller → UndoneIn home (step_of space c interrupted) (columns_of c) call.caller
  undone_by home interrupted a f = record {
    next = f.next;
    answered = step_is space c interrupted ∙ ap (stepped_by space.image c) f.framed ∙ ap some_next f.called;
    unmarked = f.unmarked;
    shows = f.shows;
    others = f.others;
  }

  -- one that asks what its function does
  met_by : (home : FormatModule) → FormatFrame space c false home call.callee (s.ra - 1) call.caller → call.callee.end < 2 ^ 64 → s.ra < 2 ^ 64 → Met space c s call
  met_by home f small low = record {
    frame = f.frame;
    framed = f.framed;
    asks = f.asks small;
    no_arguments = f.no_arguments;
    next = f.next;
    called = f.called;
    unmarked = f.unmarked;
    shows = f.shows;
    whole = f.whole;
    address = low;
  }

  -- ---- calls

  module _ (is : IsDescribedCall space.image (formats_of space) functions s call) (shows : Shows (columns_of c) s) (low : s.ra < 2 ^ 64) where
    can : CanUndo space.image (formats_of space) functions (s.ra - 1) s call
    can = record { listed = is.listed; lies = is.lies; inside = is.called.inside; entered = is.called.entered; caller = is.caller; ends = is.ends }

    stepped : (home : FormatModule) → Lies home → DescribesFormat space.image home (part_of home functions) → FormatUndone space.image home (columns_of c) (s.ra - 1) call
    stepped home lies d = undone_in space.image (formats_of space) functions (s.ra - 1) s call (columns_of c) can shows home lies.1 lies.2 d

    macho_call : (m : Rattle.format_definitions.specs.CompactStep.MachoModule) → Lies (Macho m) → DescribesFormat space.image (Macho m) (part_of (Macho m) functions) → FormatFrame space c false (Macho m) call.callee (s.ra - 1) call.caller
    macho_call m lies d =
        let at = body_lies SystemV call.callee (s.ra - 1) lies.2 is.called.inside in
        macho.framed space c false (s.ra - 1) (not_zero shows is.called.returns) (call_asked shows is.called.returns low) call.callee at.0 at.1 call.caller m
        (added_module (Macho m) lies d is.listed (s.ra - 1) at.0 at.1) lies.2 is.called.inside (part_of (Macho m) functions) d (in_part functions call.callee (Macho m) is.listed lies.1) (stepped (Macho m) lies d)

    pe_call : (m : Rattle.format_definitions.specs.PeImage.PeModule) → Lies (Pe m) → DescribesFormat space.image (Pe m) (part_of (Pe m) functions) → FormatFrame space c false (Pe m) call.callee (s.ra - 1) call.caller
    pe_call m lies d =
        let at = body_lies Windows call.callee (s.ra - 1) lies.2 is.called.inside in
        pe.framed space c false (s.ra - 1) (not_zero shows is.called.returns) (call_asked shows is.called.returns low) call.callee at.0 at.1 call.caller m
        (added_module (Pe m) lies d is.listed (s.ra - 1) at.0 at.1) lies.2 (part_of (Pe m) functions) d (in_part functions call.callee (Pe m) is.listed lies.1) (stepped (Pe m) lies d)

    met_in : (home : FormatModule) → Lies home → DescribesFormat space.image home (part_of home functions) → Met space c s call
    met_in (Elf m) lies d = elf.met space c functions s call apart laid (call_in_elf m lies d is) shows
    met_in (Macho m) lies d = let at = body_lies SystemV call.callee (s.ra - 1) lies.2 is.called.inside in met_by (Macho m) (macho_call m lies d) (ends_low (Macho m) lies d is.listed (s.ra - 1) at.0 at.1) low
    met_in (Pe m) lies d = let at = body_lies Windows call.callee (s.ra - 1) lies.2 is.called.inside in met_by (Pe m) (pe_call m lies d) (ends_low (Pe m) lies d is.listed (s.ra - 1) at.0 at.1) low

    undone_at_call : (home : FormatModule) → Lies home → DescribesFormat space.image home (part_of home functions) → UndoneIn home (step_of space c false) (columns_of c) call.caller
    undone_at_call (Elf m) lies d =
        let u : Undone (step_of space c false) (columns_of c) call.caller = elf.step_undone space c functions s call apart laid (call_in_elf m lies d is) shows in
        record { next = u.next; answered = u.answered; unmarked = u.unmarked; shows = u.shows; others = u.others }
    undone_at_call (Macho m) lies d = undone_by (Macho m) false (s.ra - 1) (macho_call m lies d)
    undone_at_call (Pe m) lies d = undone_by (Pe m) false (s.ra - 1) (pe_call m lies d)

  -- The frame of a call.
  pub format_met : IsDescribedCall space.image (formats_of space) functions s call → Shows (columns_of c) s → s.ra < 2 ^ 64 → Met space c s call
  format_met is shows low = met_in is shows low is.lies.home (is.lies.known, is.lies.inside, is.lies.is_function) is.lies.describes

  -- The step undoes a call.
  pub format_undone : (is : IsDescribedCall space.image (formats_of space) functions s call) → Shows (columns_of c) s → s.ra < 2 ^ 64 → UndoneIn is.lies.home (step_of space c false) (columns_of c) call.caller
  format_undone is shows low = undone_at_call is shows low is.lies.home (is.lies.known, is.lies.inside, is.lies.is_function) is.lies.describes

  -- ---- stops

  module _ (is : IsDescribedStop space.image (formats_of space) functions s call) (shows : Shows (columns_of c) s) where
    undone_at_stop : (home : FormatModule) → Lies home → (d : DescribesFormat space.image home (part_of home functions)) → StandsIn space.image home (part_of home functions) d s call →
        UndoneIn home (step_of space c true) (columns_of c) call.caller
    undone_at_stop (Elf m) lies d stands =
        let u : Undone (step_of space c true) (columns_of c) call.caller = stopped_undone space c s call apart laid is.returns shows functions (stop_in_elf m lies d stands is) in
        record { next = u.next; answered = u.answered; unmarked = u.unmarked; shows = u.shows; others = u.others }
    undone_at_stop (Macho m) lies d stands =
        let at = stop_lies space.image s call (Macho m) (part_of (Macho m) functions) d lies.2 stands in
        undone_by (Macho m) true s.ra (macho.framed space c true s.ra (not_zero shows is.returns) (ra_is shows is.returns) call.callee at.0 at.1 call.caller m
        (added_module (Macho m) lies d is.listed s.ra at.0 at.1) lies.2 stands.inside (part_of (Macho m) functions) d (in_part functions call.callee (Macho m) is.listed lies.1)
        (undone_at space.image (formats_of space) functions s call is (columns_of c) shows (Macho m) lies.1 lies.2 d stands))
    undone_at_stop (Pe m) lies d stands =
        let at = stop_lies space.image s call (Pe m) (part_of (Pe m) functions) d lies.2 stands in
        undone_by (Pe m) true s.ra (pe.framed space c true s.ra (not_zero shows is.returns) (ra_is shows is.returns) call.callee at.0 at.1 call.caller m
        (added_module (Pe m) lies d is.listed s.ra at.0 at.1) lies.2 (part_of (Pe m) functions) d (in_part functions call.callee (Pe m) is.listed lies.1)
        (undone_at space.image (formats_of space) functions s call is (columns_of c) shows (Pe m) lies.1 lies.2 d stands))

  -- The step from a stopped state answers its caller.
  pub format_stopped : (is : IsDescribedStop space.image (formats_of space) functions s call) → Shows (columns_of c) s → UndoneIn is.lies.home (step_of space c true) (columns_of c) call.caller
  format_stopped is shows = undone_at_stop is shows is.lies.home (is.lies.known, is.lies.inside, is.lies.is_function) is.lies.describes is.stands

-- A frame in an ELF module is that of the function which is described at the address asked.
use Rattle.std.proofs.Common.{◌≡◌, ℕ, Bool, true, false, eqb, List, [], ◌∷◌, Option, Some, None, Result, Ok, refl, ap}
use Rattle.std.specs.Prelude.{◌==◌, if◌then◌else◌}
use Rattle.std.specs.Option.{option_map}
use Rattle.memory_image.specs.Image.{Span}
use Rattle.unwind_definitions.specs.LanguageSearch.{address_of_call}
use Rattle.unwind_arch.specs.declared.x86_64.Context.{Context}
use Rattle.fde_finders.specs.Finding.{FoundFde}
use Rattle.fde_finders.specs.Named.{found_by}
use Rattle.stack_steps.specs.declared.error.DeliverError.{DeliverError}
use Rattle.stack_steps.specs.declared.space.Module.{Module}
use Rattle.stack_steps.specs.declared.space.ModuleTables.{ModuleTables}
use Rattle.stack_steps.specs.declared.space.ModuleTables.TheVariants.{Elf, Macho, Pe}
use Rattle.stack_steps.specs.Elf.{frame_by}
use Rattle.stack_steps.specs.Frames.{FrameAt, DescribedFrame, Described}
use Rattle.stack_steps.specs.Functions.{described_at, described_function, described_in, function_of}
use Rattle.stack_steps.specs.Modules.{AreElf, HasElfTables, SpaceValue, contains, module_at}
use Rattle.stack_steps.specs.Stepping.{frame_by_tables, frame_in, frame_of}
use Rattle.stack_steps.proofs.StepParts.{found_framed}

by_tables : (image : List Span) (a : ℕ) (m : Module) (tables : ModuleTables) (f : DescribedFrame) → HasElfTables tables → frame_by_tables image a m tables ≡ Ok (Some (Described f)) → described_in image a tables ≡ Some (function_of f.found)
by_tables image a m (Elf tables) f elf is = ap (option_map function_of) (found_framed a (found_by tables image a) f is)
by_tables image a m (Macho tables) f elf is = absurd elf
by_tables image a m (Pe tables) f elf is = absurd elf

in_modules : (image : List Span) (a : ℕ) (ms : List Module) (f : DescribedFrame) → AreElf ms → frame_in image a (module_at ms a) ≡ Ok (Some (Described f)) → described_at image a (module_at ms a) ≡ Some (function_of f.found)
in_modules image a [] f elf is = absurd cc
in_modules image a (m ∷ ms) f elf is = go (contains m a) refl (λ further. in_modules image a ms f elf.1 further)
  where
    go : (b : Bool) → contains m a ≡ b → (frame_in image a (module_at ms a) ≡ Ok (Some (Described f)) → described_at image a (module_at ms a) ≡ Some (function_of f.found)) → described_at image a (module_at (m ∷ ms) a) ≡ Some (function_of f.found)
    go true holds others = rw holds (by_tables image a m m.tables f elf.0 (rw holds at is))
    go false holds others = rw holds (others (rw holds at is))

unframed : (a : ℕ) (o : Option FoundFde) → option_map function_of o ≡ None → frame_by a o ≡ Ok None
unframed a None none = refl
unframed a (Some found) none = absurd cc

none_by_tables : (image : List Span) (a : ℕ) (m : Module) (tables : ModuleTables) → HasElfTables tables → described_in image a tables ≡ None → frame_by_tables image a m tables ≡ Ok None
none_by_tables image a m (Elf tables) elf none = unframed a (found_by tables image a) none
none_by_tables image a m (Macho tables) elf none = absurd elf
none_by_tables image a m (Pe tables) elf none = absurd elf

none_in_modules : (image : List Span) (a : ℕ) (ms : List Module) → AreElf ms → described_at image a (module_at ms a) ≡ None → frame_in image a (module_at ms a) ≡ Ok None
none_in_modules image a [] elf none = refl
none_in_modules image a (m ∷ ms) elf none = go (contains m a) refl (λ further. none_in_modules image a ms elf.1 further)
  where
    go : (b : Bool) → contains m a ≡ b → (described_at image a (module_at ms a) ≡ None → frame_in image a (module_at ms a) ≡ Ok None) → frame_in image a (module_at (m ∷ ms) a) ≡ Ok None
    go true holds others = rw holds (none_by_tables image a m m.tables elf.0 (rw holds at none))
    go false holds others = rw holds (others (rw holds at none))

module _ (space : SpaceValue) (c : Context) (interrupted : Bool) (elf : AreElf space.modules) where
  abbrev asked : ℕ
  asked = address_of_call c.ra interrupted

  pub frame_described : (f : DescribedFrame) → frame_of space c interrupted ≡ Ok (Some (Described f)) → described_function space asked ≡ Some (function_of f.found)
  unfolding frame_of described_function
  frame_described f is = go (eqb c.ra 0) refl
    where
      go : (b : Bool) → eqb c.ra 0 ≡ b → described_at space.image asked (module_at space.modules asked) ≡ Some (function_of f.found)
      go true ends = let none : ◌≡◌ {A = Result (Option FrameAt) DeliverError} (Ok None) (Ok (Some (Described f))) = rw ends at is in absurd cc
      go false goes = in_modules space.image asked space.modules f elf (rw goes at is)

  pub undescribed : described_function space asked ≡ None → frame_of space c interrupted ≡ Ok None
  unfolding frame_of described_function
  undescribed none = go (eqb c.ra 0) refl
    where
      go : (b : Bool) → eqb c.ra 0 ≡ b → (if c.ra == 0 then Ok None else frame_in space.image asked (module_at space.modules asked)) ≡ Ok None
      go true ends = rw ends refl
      go false goes = rw goes (none_in_modules space.image asked space.modules elf none)

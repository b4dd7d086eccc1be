-- Finding by whichever finders a program has.
use Rattle.std.specs.Prelude.{ℕ, List, Option}
use Rattle.memory_image.specs.Image.{Span}
use Rattle.fde_finders.specs.declared.custom.FrameInfo.{FrameInfo}
use Rattle.fde_finders.specs.declared.phdr.PhdrObject.{PhdrObject}
use Rattle.fde_finders.specs.declared.registry.Object.{Object}
use Rattle.fde_finders.specs.InTurn.{Answering, OrElse, FindsAmong, FindsIfThere}
use Rattle.fde_finders.specs.Named.{FindsBy}
use Rattle.fde_finders.specs.Placed.{Placed, FindsPlaced, FindsByPlacedHeader}
use Rattle.fde_finders.specs.ProgramHeaders.{FindsInObject}
use Rattle.fde_finders.specs.Registered.{FindsRegistered}

-- by each kind of finder, where it is there
abbrev pub FindsCustom : {E : Type 0} → (E → ℕ → Option FrameInfo → Type 0) → Option (Option E) → List Span → ℕ → Answering
FindsCustom names custom image pc = FindsIfThere (λ f. FindsBy names f image pc) custom

abbrev pub FindsInRegistry : Option (List Object) → List Span → ℕ → Answering
FindsInRegistry registry image pc = FindsIfThere (FindsAmong (FindsRegistered image pc)) registry

abbrev pub FindsByGnuHeader : Option Placed → List Span → ℕ → Answering
FindsByGnuHeader gnu image pc = FindsIfThere (λ f. FindsByPlacedHeader f image pc) gnu

abbrev pub FindsByPhdrs : Option (List PhdrObject) → List Span → ℕ → Answering
FindsByPhdrs phdr image pc = FindsIfThere (FindsAmong (FindsInObject image pc)) phdr

abbrev pub FindsFixed : Option Placed → List Span → ℕ → Answering
FindsFixed fixed image pc = FindsIfThere (λ f. FindsPlaced f image pc) fixed

-- by those whose tables' addresses are known by themselves
abbrev pub FindsInObjects : Option Placed → Option (List PhdrObject) → Option Placed → List Span → ℕ → Answering
FindsInObjects gnu phdr fixed image pc = OrElse (FindsByGnuHeader gnu image pc) (OrElse (FindsByPhdrs phdr image pc) (FindsFixed fixed image pc))

-- by all of them in turn
abbrev pub FindsInTurn : {E : Type 0} → (E → ℕ → Option FrameInfo → Type 0) → Option (Option E) → Option (List Object) → Option Placed → Option (List PhdrObject) → Option Placed → List Span → ℕ → Answering
FindsInTurn names custom registry gnu phdr fixed image pc = OrElse (FindsCustom names custom image pc) (OrElse (FindsInRegistry registry image pc) (FindsInObjects gnu phdr fixed image pc))

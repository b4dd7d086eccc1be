-- A description that any of a program's finders finds contains the address. No public clause cites this.
use Rattle.std.proofs.Common.{ℕ, List, Option}
use Rattle.memory_image.specs.Image.{Span}
use Rattle.fde_finders.specs.declared.custom.FrameInfo.{FrameInfo}
use Rattle.fde_finders.specs.declared.phdr.PhdrObject.{PhdrObject}
use Rattle.fde_finders.specs.declared.registry.Object.{Object}
use Rattle.fde_finders.specs.HeaderCovering.{named_contains, placed_contains, placed_header_contains}
use Rattle.fde_finders.specs.InTurn.{OrElse, FindsAmong}
use Rattle.fde_finders.specs.Named.{FindsBy}
use Rattle.fde_finders.specs.Placed.{Placed, FindsPlaced, FindsByPlacedHeader}
use Rattle.fde_finders.specs.ProgramHeaders.{FindsInObject}
use Rattle.fde_finders.specs.Registered.{FindsRegistered}
use Rattle.fde_finders.specs.TurnCovering.{Contains, or_else_contains, among_contains, if_there_contains, object_contains}
use Rattle.fde_finders.specs.RegistryCovering.{registered_contains}
use Rattle.fde_finders.specs.Globally.{FindsCustom, FindsInRegistry, FindsByGnuHeader, FindsByPhdrs, FindsFixed, FindsInObjects, FindsInTurn}

module _ (image : List Span) (pc : ℕ) where
  in_objects : (gnu : Option Placed) (phdr : Option (List PhdrObject)) (fixed : Option Placed) → Contains pc (FindsInObjects gnu phdr fixed image pc)
  in_objects gnu phdr fixed =
      or_else_contains pc (FindsByGnuHeader gnu image pc) (OrElse (FindsByPhdrs phdr image pc) (FindsFixed fixed image pc))
      (if_there_contains pc (λ f. FindsByPlacedHeader f image pc) (λ f. placed_header_contains f image pc) gnu)
      (or_else_contains pc (FindsByPhdrs phdr image pc) (FindsFixed fixed image pc)
      (if_there_contains pc (FindsAmong (FindsInObject image pc)) (among_contains pc (FindsInObject image pc) (object_contains image pc)) phdr)
      (if_there_contains pc (λ f. FindsPlaced f image pc) (λ f. placed_contains f image pc) fixed))

  pub in_turn_contains : {E : Type 0} (names : E → ℕ → Option FrameInfo → Type 0) (custom : Option (Option E)) (registry : Option (List Object)) (gnu : Option Placed) (phdr : Option (List PhdrObject)) (fixed : Option Placed) →
      Contains pc (FindsInTurn names custom registry gnu phdr fixed image pc)
  in_turn_contains names custom registry gnu phdr fixed =
      or_else_contains pc (FindsCustom names custom image pc) (OrElse (FindsInRegistry registry image pc) (FindsInObjects gnu phdr fixed image pc))
      (if_there_contains pc (λ f. FindsBy names f image pc) (λ f. named_contains names f image pc) custom)
      (or_else_contains pc (FindsInRegistry registry image pc) (FindsInObjects gnu phdr fixed image pc)
      (if_there_contains pc (FindsAmong (FindsRegistered image pc)) (among_contains pc (FindsRegistered image pc) (registered_contains image pc)) registry)
      (in_objects gnu phdr fixed))

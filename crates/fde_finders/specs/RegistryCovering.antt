-- A description that a registry finds contains the address.
use Rattle.std.proofs.Common.{ℕ, Bool, true, false, List, Some, sym}
use Rattle.std.specs.Prelude.{IsTrue}
use Rattle.memory_image.specs.Image.{Span}
use Rattle.unwind_definitions.specs.LanguageTable.{input_at}
use Rattle.unwind_definitions.specs.Row.{covers_pc}
use Rattle.fde_finders.specs.declared.registry.Object.{Object}
use Rattle.fde_finders.specs.Finding.{FoundFde, at_frame}
use Rattle.fde_finders.specs.Covering.{scanned_covers}
use Rattle.fde_finders.specs.InTurn.{FindsAmong}
use Rattle.fde_finders.specs.Registered.{FindsByObject, FindsRegistered, bases_in}
use Rattle.fde_finders.specs.TurnCovering.{Contains, among_contains}

by_object : (b : Bool) (o : Object) (image : List Span) (pc : ℕ) (found : FoundFde) → FindsByObject b o image pc (Some found) → IsTrue (covers_pc found.fde pc)
by_object true o image pc found finds =
    scanned_covers (at_frame (bases_in o) finds.decides.0) (input_at image finds.decides.0) pc found finds.decides.3
by_object false o image pc found finds = scanned_covers (at_frame (bases_in o) o.begin) (input_at image o.begin) pc found (sym finds)

pub registered_contains : (image : List Span) (pc : ℕ) (o : Object) → Contains pc (FindsRegistered image pc o)
registered_contains image pc o = λ found ticks finds. by_object o.multiple o image pc found finds.0

pub registry_contains : (objects : List Object) (image : List Span) (pc : ℕ) (found : FoundFde) (ticks : ℕ) → FindsAmong (FindsRegistered image pc) objects (Some found) ticks → IsTrue (covers_pc found.fde pc)
registry_contains objects image pc found ticks finds = among_contains pc (FindsRegistered image pc) (registered_contains image pc) objects found ticks finds

-- A description that one of several finders finds contains the address.
use Rattle.std.proofs.Common.{◌≡◌, ℕ, List, [], ◌∷◌, Option, Some, None, sym, subst}
use Rattle.std.specs.Prelude.{IsTrue}
use Rattle.memory_image.specs.Image.{Span}
use Rattle.unwind_definitions.specs.Row.{covers_pc}
use Rattle.fde_finders.specs.declared.phdr.Phdr.{Phdr}
use Rattle.fde_finders.specs.declared.phdr.PhdrObject.{PhdrObject}
use Rattle.fde_finders.specs.Finding.{FoundFde, relative_to}
use Rattle.fde_finders.specs.InTurn.{Answering, GoesOn, OrElse, FindsAmong, FindsIfThere}
use Rattle.fde_finders.specs.ProgramHeaders.{FindsInObject, found_by_parts, data_base_of, start_of, last_such, is_text, is_of_type}
use Rattle.fde_finders.specs.HeaderCovering.{header_covers}

-- what is found contains the address
abbrev pub Contains : ℕ → Answering → Type 0
Contains pc finds = (found : FoundFde) (ticks : ℕ) → finds (Some found) ticks → IsTrue (covers_pc found.fde pc)

going_on : (pc : ℕ) (first later : Answering) → Contains pc first → Contains pc later → (own : Option FoundFde) (taken rest : ℕ) (found : FoundFde) → first own taken → GoesOn own later (Some found) rest → IsTrue (covers_pc found.fde pc)
going_on pc first later in_first in_later (Some f) taken rest found finds on =
    let same : f ≡ found = (let e : Some found ≡ Some f = on.0 in cc) in
    subst (λ (x : FoundFde). IsTrue (covers_pc x.fde pc)) same (in_first f taken finds)
going_on pc first later in_first in_later None taken rest found finds on = in_later found rest on

pub or_else_contains : (pc : ℕ) (first later : Answering) → Contains pc first → Contains pc later → Contains pc (OrElse first later)
or_else_contains pc first later in_first in_later = λ found ticks o. going_on pc first later in_first in_later o.own o.taken o.rest found o.first_finds o.goes_on

pub among_contains : {A : Type 0} (pc : ℕ) (finds : A → Answering) → ((x : A) → Contains pc (finds x)) → (xs : List A) → Contains pc (FindsAmong finds xs)
among_contains pc finds each [] = λ found ticks none. absurd (no_answer found none.0)
  where
    no_answer : (found : FoundFde) → ◌≡◌ {A = Option FoundFde} (Some found) None → ⊥
    no_answer found e = cc
among_contains pc finds each (x ∷ xs) = or_else_contains pc (finds x) (FindsAmong finds xs) (each x) (among_contains pc finds each xs)

pub if_there_contains : {A : Type 0} (pc : ℕ) (finds : A → Answering) → ((x : A) → Contains pc (finds x)) → (o : Option A) → Contains pc (FindsIfThere finds o)
if_there_contains pc finds each None = λ found ticks none. absurd (no_answer found none.0)
  where
    no_answer : (found : FoundFde) → ◌≡◌ {A = Option FoundFde} (Some found) None → ⊥
    no_answer found e = cc
if_there_contains pc finds each (Some x) = each x

-- ---- objects
parts_cover : (image : List Span) (pc : ℕ) (o : PhdrObject) (text header : Option Phdr) (found : FoundFde) → found_by_parts image pc o text header ≡ Some found → IsTrue (covers_pc found.fde pc)
parts_cover image pc o None header found e = absurd cc
parts_cover image pc o (Some text) None found e = absurd cc
parts_cover image pc o (Some text) (Some header) found e = header_covers (relative_to (Some (start_of o.base text)) (data_base_of image o)) image (start_of o.base header) pc found e

pub object_contains : (image : List Span) (pc : ℕ) (o : PhdrObject) → Contains pc (FindsInObject image pc o)
object_contains image pc o = λ found ticks finds. parts_cover image pc o (last_such (is_text o.base pc) o.headers) (last_such (is_of_type 0x6474e550) o.headers) found (sym finds.0)

pub objects_contain : (objects : List PhdrObject) (image : List Span) (pc : ℕ) (found : FoundFde) (ticks : ℕ) → FindsAmong (FindsInObject image pc) objects (Some found) ticks → IsTrue (covers_pc found.fde pc)
objects_contain objects image pc found ticks finds = among_contains pc (FindsInObject image pc) (object_contains image pc) objects found ticks finds

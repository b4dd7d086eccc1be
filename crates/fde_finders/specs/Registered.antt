-- Finding by what was registered. LSB, section on the registration of frame information (__register_frame_info and others).
use Rattle.std.specs.Prelude.{◌≡◌, ◌≢◌, ◌⊎◌, ℕ, ◌+◌, ◌*◌, ◌^◌, Bool, true, false, ◌==◌, List, [], ◌∷◌, length, Option, Some, None, nat_lt, if◌then◌else◌}
use Rattle.std.specs.List.{AllByRecursion, position, remove, slice_get}
use Rattle.memory_image.specs.Image.{Span, word_at}
use Rattle.unwind_definitions.specs.Pointers.{Bases}
use Rattle.fde_finders.specs.declared.registry.Object.{Object}
use Rattle.fde_finders.specs.Finding.{FoundFde, relative_to, scanned_by}

-- ---- a list of frame tables in memory

-- the word at a place of the list, none past the last address
abbrev pub listed_at : List Span → ℕ → Option ℕ
listed_at image a = if nat_lt a (2 ^ 64) then word_at image a else None

-- the frame tables that a list has from an address on
abbrev pub AreListed : List Span → ℕ → List ℕ → Type 0
AreListed image a [] = Unit {0}
AreListed image a (w ∷ ws) = (listed_at image a ≡ Some w) × (w ≢ 0) × AreListed image (a + 8) ws

-- the list ends at an address, where the word is 0 or isn't mapped
abbrev pub ListEnds : List Span → ℕ → Type 0
ListEnds image a = (listed_at image a ≡ None) ⊎ (listed_at image a ≡ Some 0)

-- a scan of the frame table at an address finds nothing
abbrev pub ScansNone : Bases → List Span → ℕ → ℕ → Type 0
ScansNone bases image pc w = scanned_by bases image w pc ≡ None

-- a scan of the table that is listed at an address finds the description; nothing is found where the list ends
abbrev pub Decides : Bases → List Span → ℕ → ℕ → Option FoundFde → Type 0
Decides bases image pc a None = ListEnds image a
Decides bases image pc a (Some found) = (w : ℕ) × (listed_at image a ≡ Some w) × (w ≢ 0) × (scanned_by bases image w pc ≡ Some found)

-- the first of a list's tables in which a scan finds a description
pub record FindsListed (bases : Bases) (image : List Span) (begin pc : ℕ) (answer : Option FoundFde) : Type 0 where
  pub before : List ℕ
  pub are : AreListed image begin before
  pub none_before : AllByRecursion (ScansNone bases image pc) before
  pub decides : Decides bases image pc (begin + 8 * length before) answer

-- ---- objects

-- what an object's pointers may be relative to
abbrev pub bases_in : Object → Bases
bases_in o = relative_to (Some o.tbase) (Some o.dbase)

-- by the frame table of an object, or by the list of them at its address
abbrev pub FindsByObject : Bool → Object → List Span → ℕ → Option FoundFde → Type 0
FindsByObject true o image pc answer = FindsListed (bases_in o) image o.begin pc answer
FindsByObject false o image pc answer = answer ≡ scanned_by (bases_in o) image o.begin pc

abbrev pub FindsRegistered : List Span → ℕ → Object → Option FoundFde → ℕ → Type 0
FindsRegistered image pc o answer ticks = FindsByObject o.multiple o image pc answer × (ticks ≡ 0)

-- ---- the registry

-- with an object before the others, unless it is at 0
abbrev pub with_object : Object → List Object → List Object
with_object o objects = if o.begin == 0 then objects else o ∷ objects

abbrev pub is_at : ℕ → Object → Bool
is_at begin o = o.begin == begin

-- the place of the first object at an address other than 0
abbrev pub place_at : ℕ → List Object → Option ℕ
place_at begin objects = if begin == 0 then None else position (is_at begin) objects

abbrev pub object_at : List Object → Option ℕ → Option Object
object_at objects None = None
object_at objects (Some i) = slice_get objects i

abbrev pub without_place : List Object → Option ℕ → List Object
without_place objects None = objects
without_place objects (Some i) = remove objects i

-- that object
abbrev pub newest_at : ℕ → List Object → Option Object
newest_at begin objects = object_at objects (place_at begin objects)

-- the others
abbrev pub without_newest_at : ℕ → List Object → List Object
without_newest_at begin objects = without_place objects (place_at begin objects)

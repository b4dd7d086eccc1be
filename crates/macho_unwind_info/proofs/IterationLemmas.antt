-- The end of a listing.
use Rattle.std.proofs.Common.{◌≡◌, ℕ, ◌<◌, List, [], ◌∷◌, Option, None, length, drop, refl, arith}
use Rattle.std.specs.Prelude.{slice_get}
use Rattle.macho_unwind_info.specs.Listing.{places_of}
use Rattle.macho_unwind_info.specs.Iteration.{left_in_any, functions_left}
use Rattle.macho_unwind_info.specs.declared.raw.format.Opcode.{Opcode}
use Rattle.macho_unwind_info.specs.declared.raw.format.PageEntry.{PageEntry}
use Rattle.macho_unwind_info.specs.declared.page.OpenPage.{OpenPage}

nil_from_none : {A : Type 0} (xs : List A) → None ≡ slice_get xs 0 → xs ≡ []
nil_from_none [] e = refl
nil_from_none (x ∷ xs) e = absurd cc

places_of-few : (bytes : List ℕ) (global : List Opcode) (pages : List PageEntry) → length pages < 2 → places_of bytes global pages ≡ []
places_of-few bytes global [] few = refl
places_of-few bytes global (page ∷ []) few = refl
places_of-few bytes global (page ∷ next ∷ pages) few = absurd (omega arith)

-- nothing is left of the open page, and there is none to enter
pub none_left : (bytes : List ℕ) (global : List Opcode) (open_page : Option OpenPage) (pages : List PageEntry) → None ≡ slice_get (left_in_any global open_page) 0 → length pages < 2 → functions_left bytes global open_page pages ≡ []
none_left bytes global open_page pages e few =
    rw (nil_from_none (left_in_any global open_page) e, places_of-few bytes global pages few) refl

pub none_left_after : (bytes : List ℕ) (global : List Opcode) (open_page after : Option OpenPage) (pages : List PageEntry) → None ≡ slice_get (left_in_any global open_page) 0 → left_in_any global after ≡ drop 1 (left_in_any global open_page) → length pages < 2 → functions_left bytes global after pages ≡ []
none_left_after bytes global open_page after pages e rest few =
    rw (rest, nil_from_none (left_in_any global open_page) e, places_of-few bytes global pages few) refl

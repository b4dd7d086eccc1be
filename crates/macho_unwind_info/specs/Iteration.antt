-- What is left of a listing, place by place.
use Rattle.std.specs.Prelude.{ℕ, List, [], ◌++◌, drop, Option, Some, None, Result}
use Rattle.macho_unwind_info.specs.Listing.{entries_of, functions_of, places_of}
use Rattle.macho_unwind_info.specs.declared.error.Error.{Error}
use Rattle.macho_unwind_info.specs.declared.raw.format.Opcode.{Opcode}
use Rattle.macho_unwind_info.specs.declared.raw.format.PageEntry.{PageEntry}
use Rattle.macho_unwind_info.specs.declared.page.Page.{Page}
use Rattle.macho_unwind_info.specs.declared.page.Page.TheVariants.{Regular, Compressed}
use Rattle.macho_unwind_info.specs.declared.page.OpenPage.{OpenPage}
use Rattle.macho_unwind_info.specs.declared.function.Function.{Function}

-- a page without its first entry
abbrev pub after_first : Page → Page
after_first (Regular functions) = Regular (drop 1 functions)
after_first (Compressed first functions local) = Compressed first (drop 1 functions) local

-- what is left of a page
abbrev pub left_in : List Opcode → OpenPage → List (Result Function Error)
left_in global open_page = functions_of open_page.next_address (entries_of global open_page.page)

abbrev pub left_in_any : List Opcode → Option OpenPage → List (Result Function Error)
left_in_any global None = []
left_in_any global (Some open_page) = left_in global open_page

-- and of the pages after it
abbrev pub functions_left : List ℕ → List Opcode → Option OpenPage → List PageEntry → List (Result Function Error)
functions_left bytes global open_page pages = left_in_any global open_page ++ places_of bytes global pages

-- What the searches by halving answer is a look-up's answer.
use Rattle.std.proofs.Common.{◌≡◌, ℕ, ◌+◌, ◌-◌, List, Option, Some, None, Result, Ok, Err, refl}
use Rattle.std.specs.Prelude.{slice_get}
use Rattle.memory_image.specs.Halving.{boundary_of}
use Rattle.memory_image.specs.HalvingLaws as halving
use Rattle.memory_image.specs.HalvingLaws.{boundary_of-finds}
use Rattle.memory_image.specs.Results.{◌>>=◌}
use Rattle.macho_unwind_info.specs.Listing.{Section, page_of}
use Rattle.macho_unwind_info.specs.Lookup.{Finds, page_addresses, keys_of, base_of, first_address, IsAnswerFrom, IsAnswerAt, IsLookup, page_lookup_of, answer_from, answer_by, lookup_of}
use Rattle.macho_unwind_info.specs.declared.error.Error.{Error}
use Rattle.macho_unwind_info.specs.declared.raw.format.PageEntry.{PageEntry}
use Rattle.macho_unwind_info.specs.declared.page.Page.{Page}

-- a boundary in the words of this crate
finds_of : (keys : List ℕ) (p : ℕ) (place : Option ℕ) → halving.Finds keys p place → Finds keys p place
finds_of keys p None finds = finds
finds_of keys p (Some i) finds = record { within = finds.within; at_or_before = finds.at_or_before; next_after = finds.next_after }

pub boundary_finds : (keys : List ℕ) (p : ℕ) → Finds keys p (boundary_of keys p)
boundary_finds keys p = finds_of keys p (boundary_of keys p) (boundary_of-finds keys p)

answered_from : (info : Section) (pc : ℕ) (page next : Option PageEntry) → IsAnswerFrom info pc page next (answer_from info pc page next)
answered_from info pc None next = refl
answered_from info pc (Some page) None = refl
answered_from info pc (Some page) (Some next) = go (page_of info.bytes page) refl
  where
    go : (r : Result Page Error) → page_of info.bytes page ≡ r → IsAnswerFrom info pc (Some page) (Some next) (page_of info.bytes page >>= page_lookup_of info.global_opcodes (first_address next) pc)
    go (Ok opened) e = rw e (record { place = boundary_of (keys_of opened) (pc - base_of opened); finds = boundary_finds (keys_of opened) (pc - base_of opened); is = refl })
    go (Err fault) e = rw e refl

answered_at : (info : Section) (pc : ℕ) (place : Option ℕ) → IsAnswerAt info pc place (answer_by info pc place)
answered_at info pc None = refl
answered_at info pc (Some i) = answered_from info pc (slice_get info.pages i) (slice_get info.pages (i + 1))

pub lookup_of-is : (info : Section) (pc : ℕ) → IsLookup info pc (lookup_of info pc)
unfolding lookup_of
lookup_of-is info pc = record { page = boundary_of (page_addresses info) pc; finds = boundary_finds (page_addresses info) pc; is = answered_at info pc (boundary_of (page_addresses info) pc) }

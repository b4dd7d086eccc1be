-- What a search by the header of a described module finds is what a scan of its frame table finds.
use Rattle.std.proofs.Common.{◌≡◌, ℕ, List, Option, Some, None, Result, Ok, Err, refl, ap, subst, ◌∙◌}
use Rattle.std.specs.Result.{result_ok}
use Rattle.memory_image.specs.Image.{Span, IsLaidOut}
use Rattle.unwind_definitions.specs.declared.error.Error.{Error as Fault}
use Rattle.unwind_definitions.specs.Input.{Input}
use Rattle.unwind_definitions.specs.LanguageTable.{input_at}
use Rattle.unwind_definitions.specs.Pointers.{Bases}
use Rattle.unwind_definitions.specs.Entries.{Fde}
use Rattle.unwind_definitions.specs.Scan.{fdes_of, scan}
use Rattle.unwind_definitions.specs.Function.{Function}
use Rattle.unwind_definitions.specs.Header.{FrameHeader, PairTable, table_in}
use Rattle.unwind_definitions.specs.HeaderSearch.{table_answer}
use Rattle.unwind_definitions.specs.HeaderSearchLaws.{table_answer-is}
use Rattle.unwind_definitions.specs.Module.{Tables, Header, Module, bases_of, HeaderLists, IsHeaderTable, CoversNot, DescribesModule}
use Rattle.unwind_laws.specs.Listing.{listing}
use Rattle.unwind_laws.specs.Found.{nothing_found}
use Rattle.unwind_laws.proofs.Found.{not_found}
use Rattle.unwind_laws.proofs.HeaderListed.{header_read, search_answers, uncovered_fails}
use Rattle.fde_finders.specs.Finding.{at_frame, relative_to, scanned_in}
use Rattle.fde_finders.specs.HeaderFinding.{at_header, by_led, by_table, found_by_header, led_at, led_by, or_scanned}

-- a description that a scan finds too, and else the scan
or_same : (bases : Bases) (frames : Input) (pc : ℕ) (r : Result Fde Fault) → scan bases frames pc ≡ r → or_scanned bases frames pc (result_ok r) ≡ scanned_in bases frames pc
or_same bases frames pc (Ok fde) is = rw is refl
or_same bases frames pc (Err e) is = refl

module _ (image : List Span) (m : Module) (functions : List Function) (d : DescribesModule image m functions) (h : ℕ) (named : m.tables ≡ Header h) (laid : IsLaidOut 0 image) (pc : ℕ) where
  abbrev known : Bases
  known = at_header (relative_to m.text None) h

  table : IsHeaderTable image h d.frame (fdes_of d.entries)
  table = subst (λ (t : Tables). HeaderLists image t d.frame (fdes_of d.entries)) named d.header

  abbrev head : FrameHeader
  head = listing h known d.frame (fdes_of d.entries) table.listed

  bases_are : at_frame known d.frame ≡ bases_of m d.frame
  bases_are = rw named refl

  led_is : led_at (relative_to m.text None) image h ≡ Some (record { header = head; frame = d.frame })
  led_is = ap (led_by image) (header_read image h d.frame (fdes_of d.entries) known table)

  by_its_table : (o : Option PairTable) → table_in head ≡ o → by_table (bases_of m d.frame) (input_at image d.frame) pc o ≡ scanned_in (bases_of m d.frame) (input_at image d.frame) pc
  by_its_table None e = refl
  by_its_table (Some t) e =
      let same : table_answer (bases_of m d.frame) (input_at image d.frame) t pc ≡ scan (bases_of m d.frame) (input_at image d.frame) pc =
      search_answers image m functions d h known table pc head t (table_answer (bases_of m d.frame) (input_at image d.frame) t pc) laid (header_read image h d.frame (fdes_of d.entries) known table) e
      (table_answer-is t pc (bases_of m d.frame) (input_at image d.frame)) in
      ap (λ (r : Result Fde Fault). or_scanned (bases_of m d.frame) (input_at image d.frame) pc (result_ok r)) same
      ∙ or_same (bases_of m d.frame) (input_at image d.frame) pc (scan (bases_of m d.frame) (input_at image d.frame) pc) refl

  -- the header's search and the scan find the same, whatever the address
  pub header_finds : found_by_header (relative_to m.text None) image h pc ≡ scanned_in (bases_of m d.frame) (input_at image d.frame) pc
  unfolding found_by_header
  header_finds =
      ap (by_led known image pc) led_is
      ∙ ap (λ (b : Bases). by_table b (input_at image d.frame) pc (table_in head)) bases_are
      ∙ by_its_table (table_in head) refl

-- ---- an address that no description contains
none_found : (bases : Bases) (frames : Input) (pc : ℕ) → scan bases frames pc ≡ nothing_found → scanned_in bases frames pc ≡ None
none_found bases frames pc e = rw e refl

-- Where a module's header lists the descriptions of its frame table, none of which contains an address, nothing is found by it.
module _ (image : List Span) (m : Module) (a : ℕ) (u : CoversNot image m a) (h : ℕ) (named : m.tables ≡ Header h) (lists : IsHeaderTable image h u.frame (fdes_of u.entries)) (laid : IsLaidOut 0 image) where
  abbrev known_there : Bases
  known_there = at_header (relative_to m.text None) h

  abbrev head_there : FrameHeader
  head_there = listing h known_there u.frame (fdes_of u.entries) lists.listed

  bases_there : at_frame known_there u.frame ≡ bases_of m u.frame
  bases_there = rw named refl

  led_there : led_at (relative_to m.text None) image h ≡ Some (record { header = head_there; frame = u.frame })
  led_there = ap (led_by image) (header_read image h u.frame (fdes_of u.entries) known_there lists)

  none_in_table : (o : Option PairTable) → table_in head_there ≡ o → by_table (bases_of m u.frame) (input_at image u.frame) a o ≡ None
  none_in_table None e = none_found (bases_of m u.frame) (input_at image u.frame) a (not_found image m a u)
  none_in_table (Some t) e =
      let fails = uncovered_fails image m a u h known_there lists laid t e in
      ap (λ (r : Result Fde Fault). or_scanned (bases_of m u.frame) (input_at image u.frame) a (result_ok r)) fails.1
      ∙ none_found (bases_of m u.frame) (input_at image u.frame) a (not_found image m a u)

  pub header_finds_none : found_by_header (relative_to m.text None) image h a ≡ None
  unfolding found_by_header
  header_finds_none =
      ap (by_led known_there image a) led_there
      ∙ ap (λ (b : Bases). by_table b (input_at image u.frame) a (table_in head_there)) bases_there
      ∙ none_in_table (table_in head_there) refl

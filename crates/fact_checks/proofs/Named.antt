-- A module's tables that read are those that are named, and a look-up in them finds the first description that contains an address.
use Rattle.std.proofs.Common.{◌≡◌, ℕ, List, [], Option, Some, None, Result, Ok, Err, refl, sym, ap, subst, ◌∙◌}
use Rattle.std.specs.Option.{option_map, option_map_or}
use Rattle.std.specs.Result.{result_ok}
use Rattle.memory_image.specs.Image.{Span, IsLaidOut}
use Rattle.unwind_definitions.specs.declared.error.Error.{Error as Fault}
use Rattle.unwind_definitions.specs.declared.error.Error.TheVariants.{NoUnwindInfoForAddress}
use Rattle.unwind_definitions.specs.Pointers.{Bases}
use Rattle.unwind_definitions.specs.Entries.{Fde}
use Rattle.unwind_definitions.specs.Header.{FrameHeader, PairTable, table_in}
use Rattle.unwind_definitions.specs.HeaderSearch.{table_answer}
use Rattle.unwind_definitions.specs.HeaderSearchLaws.{table_answer-is}
use Rattle.unwind_definitions.specs.LanguageTable.{input_at}
use Rattle.unwind_definitions.specs.Scan.{fdes_of, first_covering, scan}
use Rattle.unwind_definitions.specs.Module.{bases_of}
use Rattle.unwind_laws.specs.Listing.{listing}
use Rattle.unwind_laws.specs.Found.{found_among}
use Rattle.unwind_laws.proofs.Scanned.{scan_is}
use Rattle.unwind_laws.proofs.HeaderListed.{header_read, search_answers}
use Rattle.fde_finders.specs.declared.custom.FrameInfo.{FrameInfo}
use Rattle.fde_finders.specs.declared.custom.FrameInfoKind.{FrameInfoKind}
use Rattle.fde_finders.specs.declared.custom.FrameInfoKind.TheVariants.{EhFrame, EhFrameHdr}
use Rattle.fde_finders.specs.Finding.{relative_to, table_bases}
use Rattle.fde_finders.specs.FrameTables.{FrameTable, led_table, table_by_kind}
use Rattle.fde_finders.specs.HeaderFinding.{at_header, led_by}
use Rattle.frame_facts.specs.FactTables.{HasTables}
use Rattle.table_check.specs.Modules.{module_of}
use Rattle.fact_checks.specs.Looking.{FindsAmong, found_by}

-- a table that is named: its pointers are relative to what the module's are, and it finds the first that contains an address
pub record IsNamed (bases : Bases) (fdes : List Fde) (t : FrameTable) : Type 0 where
  pub bases_are : t.bases ≡ bases
  pub finds : FindsAmong t fdes

abbrev ok : Fde → Result Fde Fault
ok fde = Ok fde

ok_found : (o : Option Fde) → result_ok (option_map_or ok o (Err NoUnwindInfoForAddress)) ≡ o
ok_found None = refl
ok_found (Some fde) = refl

module _ (image : List Span) (laid : IsLaidOut 0 image) (start end : ℕ) (text : Option ℕ) where
  abbrev info : FrameInfoKind → FrameInfo
  info kind = record { text_base = text; kind = kind }

  module _ (kind : FrameInfoKind) (d : HasTables image (module_of start end (info kind))) where
    abbrev bases : Bases
    bases = bases_of (module_of start end (info kind)) d.frame

    abbrev fdes : List Fde
    fdes = fdes_of d.entries

    pub scanned : (pc : ℕ) → scan bases (input_at image d.frame) pc ≡ found_among fdes pc
    scanned pc = scan_is bases (input_at image d.frame) pc d.entries refl d.frames.reads

    pub first_is : (pc : ℕ) → result_ok (found_among fdes pc) ≡ first_covering fdes pc
    first_is pc = ok_found (first_covering fdes pc)

  -- by a frame table's address
  module _ (a : ℕ) (d : HasTables image (module_of start end (info (EhFrame a)))) where
    by_frame : (t : FrameTable) → table_by_kind text (EhFrame a) image ≡ Some t → IsNamed (bases (EhFrame a) d) (fdes (EhFrame a) d) t
    by_frame t is =
        let at : a ≡ d.frame = (let e : ◌≡◌ {A = Option ℕ} (Some a) (Some d.frame) = d.address in cc) in
        let same : record { entries = input_at image a; bases = table_bases text a; pairs = None } ≡ t = (let e : ◌≡◌ {A = Option FrameTable} (Some (record { entries = input_at image a; bases = table_bases text a; pairs = None })) (Some t) = is in cc) in
        subst (IsNamed (bases (EhFrame a) d) (fdes (EhFrame a) d)) same (record {
          bases_are = ap (table_bases text) at;
          finds = λ pc. ap (λ x. result_ok (scan (table_bases text x) (input_at image x) pc)) at ∙ ap result_ok (scanned (EhFrame a) d pc) ∙ first_is (EhFrame a) d pc;
        })

  -- by a header's
  module _ (h : ℕ) (d : HasTables image (module_of start end (info (EhFrameHdr h)))) where
    abbrev known : Bases
    known = at_header (relative_to text None) h

    abbrev head : FrameHeader
    head = listing h known d.frame (fdes (EhFrameHdr h) d) d.header.listed

    abbrev led : FrameTable
    led = led_table known image (record { header = head; frame = d.frame })

    led_finds : (o : Option PairTable) → table_in head ≡ o → (pc : ℕ) → found_by led pc o ≡ first_covering (fdes (EhFrameHdr h) d) pc
    led_finds None e pc = ap result_ok (scanned (EhFrameHdr h) d pc) ∙ first_is (EhFrameHdr h) d pc
    led_finds (Some pairs) e pc =
        let m = module_of start end (info (EhFrameHdr h)) in
        let answer : table_answer (bases (EhFrameHdr h) d) (input_at image d.frame) pairs pc ≡ scan (bases (EhFrameHdr h) d) (input_at image d.frame) pc =
        search_answers image m [] d h known d.header pc head pairs (table_answer (bases (EhFrameHdr h) d) (input_at image d.frame) pairs pc) laid (header_read image h d.frame (fdes (EhFrameHdr h) d) known d.header) e
        (table_answer-is pairs pc (bases (EhFrameHdr h) d) (input_at image d.frame)) in
        ap result_ok answer ∙ ap result_ok (scanned (EhFrameHdr h) d pc) ∙ first_is (EhFrameHdr h) d pc

    by_header : (t : FrameTable) → table_by_kind text (EhFrameHdr h) image ≡ Some t → IsNamed (bases (EhFrameHdr h) d) (fdes (EhFrameHdr h) d) t
    by_header t is =
        let reads : table_by_kind text (EhFrameHdr h) image ≡ Some led = ap (λ r. option_map (led_table known image) (led_by image r)) (header_read image h d.frame (fdes (EhFrameHdr h) d) known d.header) in
        let same : led ≡ t = (let e : ◌≡◌ {A = Option FrameTable} (Some led) (Some t) = sym reads ∙ is in cc) in
        subst (IsNamed (bases (EhFrameHdr h) d) (fdes (EhFrameHdr h) d)) same (record { bases_are = refl; finds = led_finds (table_in head) refl })

  pub is_named : (kind : FrameInfoKind) (d : HasTables image (module_of start end (info kind))) (t : FrameTable) → table_by_kind text kind image ≡ Some t → IsNamed (bases kind d) (fdes kind d) t
  is_named (EhFrame a) d t is = by_frame a d t is
  is_named (EhFrameHdr h) d t is = by_header h d t is

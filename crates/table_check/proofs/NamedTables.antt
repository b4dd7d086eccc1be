-- The frame table that a module names, and what its header's table lists.
use Rattle.std.proofs.Common.{◌≡◌, ℕ, Bool, List, take, Option, Some, None, Result, Ok, Err, refl, sym, ap, subst, ◌∙◌}
use Rattle.std.specs.Bool.{Decides}
use Rattle.std.specs.Option.{option_map}
use Rattle.memory_image.specs.Image.{Span, table_at}
use Rattle.unwind_definitions.specs.declared.error.Error.{Error as Fault}
use Rattle.unwind_definitions.specs.Pointers.{Bases, Direct}
use Rattle.unwind_definitions.specs.Entries.{Fde}
use Rattle.unwind_definitions.specs.Header.{FrameHeader, header}
use Rattle.unwind_definitions.specs.LanguageTable.{input_at}
use Rattle.unwind_definitions.specs.Module.{HeaderLists, IsHeaderTable, address_in, bases_of, frame_address, header_form}
use Rattle.unwind_laws.specs.Listing.{listing}
use Rattle.unwind_laws.proofs.HeaderListed.{header_read}
use Rattle.fde_finders.specs.declared.custom.FrameInfo.{FrameInfo}
use Rattle.fde_finders.specs.declared.custom.FrameInfoKind.{FrameInfoKind}
use Rattle.fde_finders.specs.declared.custom.FrameInfoKind.TheVariants.{EhFrame, EhFrameHdr}
use Rattle.fde_finders.specs.Finding.{relative_to}
use Rattle.fde_finders.specs.FrameTables.{FrameTable, led_table, table_by_header, table_by_kind}
use Rattle.fde_finders.specs.HeaderFinding.{Led, at_header, led_address, led_by, led_to}
use Rattle.table_check.specs.AllEntries.{AllApart}
use Rattle.table_check.specs.Modules.{module_of, tables_of}
use Rattle.table_check.specs.Pairs.{ListsAll}
use Rattle.table_check.proofs.Deciding.{decides_as}
use Rattle.table_check.proofs.HeaderForms.{leads_directly, lists_as_defined, lists_as_read}

some_same : {A : Type 0} (x y : A) → ◌≡◌ {A = Option A} (Some x) (Some y) → x ≡ y
some_same x y e = cc

-- ---- by a header

abbrev known_at : Option ℕ → ℕ → Bases
known_at text h = at_header (relative_to text None) h

module _ (text : Option ℕ) (image : List Span) (h : ℕ) where
  -- a header that reads leads to a table
  record IsNamed (t : FrameTable) : Type 0 where
    head : FrameHeader
    reads : header (known_at text h) (input_at image h) ≡ Ok head
    frame : ℕ
    leads : led_address image head.frame ≡ Some frame
    made : t ≡ led_table (known_at text h) image (record { header = head; frame = frame })

  named_by : (t : FrameTable) → table_by_header (relative_to text None) image h ≡ Some t → IsNamed t
  named_by t is = go (header (known_at text h) (input_at image h)) refl is
    where
      made_of : Led → FrameTable
      made_of l = led_table (known_at text h) image l

      leads_to : (head : FrameHeader) → header (known_at text h) (input_at image h) ≡ Ok head → (o : Option ℕ) → led_address image head.frame ≡ o → option_map (led_table (known_at text h) image) (led_to head o) ≡ Some t → IsNamed t
      leads_to head reads None leads e = absurd cc
      leads_to head reads (Some frame) leads e = record { head = head; reads = reads; frame = frame; leads = leads; made = sym (some_same _ t e) }

      go : (r : Result FrameHeader Fault) → header (known_at text h) (input_at image h) ≡ r → option_map (led_table (known_at text h) image) (led_by image r) ≡ Some t → IsNamed t
      go (Err f) reads e = absurd cc
      go (Ok head) reads e = leads_to head reads (led_address image head.frame) refl e

  module _ (t : FrameTable) (is : table_by_header (relative_to text None) image h ≡ Some t) (fdes : List Fde) (apart : AllApart fdes) (form : take 4 (table_at image h) ≡ header_form) where
    as_read : IsHeaderTable image h t.entries.base fdes → ListsAll t.pairs t.entries.base fdes
    as_read table =
        let n = named_by t is in
        subst (λ (x : FrameTable). ListsAll x.pairs x.entries.base fdes) (sym n.made)
        (lists_as_read image h (known_at text h) n.head n.reads fdes n.frame (subst (λ (x : FrameTable). IsHeaderTable image h x.entries.base fdes) n.made table))

    as_defined : ListsAll t.pairs t.entries.base fdes → IsHeaderTable image h t.entries.base fdes
    as_defined lists =
        let n = named_by t is in
        let d = leads_directly image h (known_at text h) n.head n.reads form in
        let same : d.0 ≡ n.frame = some_same d.0 n.frame (ap (led_address image) (sym d.1) ∙ n.leads) in
        subst (λ (x : FrameTable). IsHeaderTable image h x.entries.base fdes) (sym n.made)
        (lists_as_defined image h (known_at text h) n.head n.reads fdes n.frame apart form (d.1 ∙ ap (λ a. Direct a) same) (subst (λ (x : FrameTable). ListsAll x.pairs x.entries.base fdes) n.made lists))

    -- with a header of the form, what is read decides what is defined
    pub form_decides : (b : Bool) → Decides b (ListsAll t.pairs t.entries.base fdes) → Decides b (IsHeaderTable image h t.entries.base fdes)
    form_decides b d = decides_as b as_defined as_read d

-- ---- by its kind

module _ (image : List Span) (start end : ℕ) (text : Option ℕ) where
  abbrev info_of : FrameInfoKind → FrameInfo
  info_of kind = record { text_base = text; kind = kind }

  -- its pointers are relative to what those of the module are
  pub record IsFrameTable (kind : FrameInfoKind) (t : FrameTable) : Type 0 where
    pub bases : t.bases ≡ bases_of (module_of start end (info_of kind)) t.entries.base
    pub entries : t.entries ≡ input_at image t.entries.base

  pub frame_table : (kind : FrameInfoKind) (t : FrameTable) → table_by_kind text kind image ≡ Some t → IsFrameTable kind t
  frame_table (EhFrame a) t is =
      let same = some_same _ t is in
      subst (IsFrameTable (EhFrame a)) same (record { bases = refl; entries = refl })
  frame_table (EhFrameHdr h) t is =
      let n = named_by text image h t is in
      subst (IsFrameTable (EhFrameHdr h)) (sym n.made) (record { bases = refl; entries = refl })

  pub address_is : (kind : FrameInfoKind) (t : FrameTable) (fdes : List Fde) → table_by_kind text kind image ≡ Some t → HeaderLists image (tables_of kind) t.entries.base fdes → frame_address image (tables_of kind) ≡ Some t.entries.base
  address_is (EhFrame a) t fdes is lists = ap (λ (x : FrameTable). Some x.entries.base) (some_same _ t is)
  address_is (EhFrameHdr h) t fdes is lists = ap address_in lists.pointer

  -- a table that a module describes is the one that it names
  pub record IsNamedAt (kind : FrameInfoKind) (frame : ℕ) : Type 0 where
    pub table : FrameTable
    pub named : table_by_kind text kind image ≡ Some table
    pub base : table.entries.base ≡ frame

  pub named_at : (kind : FrameInfoKind) (frame : ℕ) (fdes : List Fde) → frame_address image (tables_of kind) ≡ Some frame → HeaderLists image (tables_of kind) frame fdes → IsNamedAt kind frame
  named_at (EhFrame a) frame fdes address lists = record { table = _; named = refl; base = some_same a frame address }
  named_at (EhFrameHdr h) frame fdes address lists =
      let reads = header_read image h frame fdes (known_at text h) lists in
      record { table = led_table (known_at text h) image (record { header = listing h (known_at text h) frame fdes lists.listed; frame = frame }); named = ap (λ r. option_map (led_table (known_at text h) image) (led_by image r)) reads; base = refl }

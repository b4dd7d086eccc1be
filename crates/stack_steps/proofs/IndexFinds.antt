-- What the index of a prepared module finds is what its tables find.
use Rattle.std.proofs.Common.{◌≡◌, ℕ, zero, suc, ◌<◌, Bool, true, false, List, [], ◌∷◌, map, length, get_or, Option, Some, None, Result, Ok, Err, refl, sym, ap, subst, ◌∙◌, arith}
use Rattle.std.proofs.lemmas.List.{length-map}
use Rattle.std.proofs.lemmas.List.Sorted.{Contains-permutation, IsPermutation-sym}
use Rattle.std.specs.List.{Contains}
use Rattle.std.specs.Option.{option_map}
use Rattle.std.specs.Result.{result_ok}
use Rattle.memory_image.specs.Image.{Span, IsLaidOut}
use Rattle.unwind_definitions.specs.declared.error.Error.{Error as Fault}
use Rattle.unwind_definitions.specs.declared.error.Error.TheVariants.{NoUnwindInfoForAddress}
use Rattle.unwind_definitions.specs.Faults.{◌>>=◌}
use Rattle.unwind_definitions.specs.LanguageTable.{input_at}
use Rattle.unwind_definitions.specs.Pointers.{Bases}
use Rattle.unwind_definitions.specs.Entries.{Fde}
use Rattle.unwind_definitions.specs.Module.{pair_of}
use Rattle.unwind_definitions.specs.Row.{covers_pc}
use Rattle.unwind_definitions.specs.Scan.{fdes_of, scan}
use Rattle.unwind_definitions.specs.Header.{PairTable, table_in}
use Rattle.unwind_definitions.specs.HeaderSearch.{Finds, IsBoundary, containing, fde_at_address, found_by, table_answer}
use Rattle.unwind_definitions.specs.HeaderSearchLaws.{table_answer-is}
use Rattle.unwind_laws.proofs.Booleans.{filter_contains}
use Rattle.unwind_laws.proofs.ByHeader.{placed}
use Rattle.unwind_laws.proofs.HeaderListed.{found_there}
use Rattle.eh_frame.specs.HeaderLists.{ListsEach}
use Rattle.eh_frame.specs.Index.{Described, Index, IsPreparedFrom, described_fde}
use Rattle.eh_frame.specs.Listed.{has_bytes, nonempty}
use Rattle.eh_frame.proofs.Indexed.{an_item, scan_found}
use Rattle.fde_finders.specs.declared.custom.FrameInfo.{FrameInfo}
use Rattle.fde_finders.specs.declared.custom.FrameInfoKind.{FrameInfoKind}
use Rattle.fde_finders.specs.declared.custom.FrameInfoKind.TheVariants.{EhFrame, EhFrameHdr}
use Rattle.fde_finders.specs.Finding.{FoundFde, at_frame, found_in, relative_to, scanned_in, table_bases}
use Rattle.fde_finders.specs.FrameTables.{FrameTable, led_table, table_by_kind}
use Rattle.fde_finders.specs.HeaderFinding.{Led, at_header, by_led, by_table, found_by_header, led_at, or_scanned}
use Rattle.fde_finders.specs.Named.{found_by_kind}
use Rattle.fde_finders.specs.Named as named
use Rattle.std.specs.Result.{result_map_both}
use Rattle.unwind_definitions.specs.Row.{RowInstructions, row_at}
use Rattle.encoded_pointers.specs.PointerViews.{bases_of}
use Rattle.eh_frame.specs.EntryViews.{table_of}
use Rattle.stack_steps.specs.declared.error.DeliverError.TheVariants.{Table}
use Rattle.stack_steps.specs.declared.prepared.PreparedTable.{PreparedTable}
use Rattle.stack_steps.specs.AddedModule.{IsTableOf, kept_table}
use Rattle.stack_steps.specs.Preparing.{HeaderLists, Lists, fdes_in}
use Rattle.stack_steps.specs.Elf.{frame_by, frame_with}
use Rattle.stack_steps.specs.Functions.{function_of}

-- ---- what a header that lists an index finds

some_fde : (f g : Fde) → ◌≡◌ {A = Result Fde Fault} (Ok f) (Ok g) → f ≡ g
some_fde f g e = cc

kept_pair : (p q : ℕ × ℕ) → ◌≡◌ {A = Result (ℕ × ℕ) Fault} (Ok p) (Ok q) → p ≡ q
kept_pair p q e = cc

-- the description that a search found, which contains the address
record Contained (r : Result Fde Fault) (pc : ℕ) (fde : Fde) : Type 0 where
  pub stands : r ≡ Ok fde
  pub covers : covers_pc fde pc ≡ true

contained : (r : Result Fde Fault) (pc : ℕ) (fde : Fde) → (r >>= λ f. containing pc f) ≡ Ok fde → Contained r pc fde
contained (Err e) pc fde is = absurd cc
contained (Ok f) pc fde is = go (covers_pc f pc) refl
  where
    go : (b : Bool) → covers_pc f pc ≡ b → Contained (Ok f) pc fde
    go false misses = let none : Err NoUnwindInfoForAddress ≡ Ok fde = rw misses at is in absurd cc
    go true covers =
        let same : Ok f ≡ Ok fde = rw covers at is in
        let one : f ≡ fde = some_fde f fde same in
        record { stands = same; covers = subst (λ (g : Fde). covers_pc g pc ≡ true) one covers }

at_default : (fs : List Fde) (i : ℕ) (d e : Fde) → i < length fs → get_or fs i e ≡ get_or fs i d
at_default [] i d e lt = absurd (omega arith)
at_default (f ∷ fs) zero d e lt = refl
at_default (f ∷ fs) (suc i) d e lt = at_default fs i d e (omega arith)

described_there : (fs : List Described) (i : ℕ) (d : Fde) (e : Described) → i < length fs → (get_or fs i e).fde ≡ get_or (map described_fde fs) i d
described_there [] i d e lt = absurd (omega arith)
described_there (f ∷ fs) zero d e lt = refl
described_there (f ∷ fs) (suc i) d e lt = described_there fs i d e (omega arith)

module _ (image : List Span) (laid : IsLaidOut 0 image) (bases : Bases) (frame : ℕ) (index : Index) (from : IsPreparedFrom bases (input_at image frame) index) (pairs : PairTable) (lists : ListsEach pairs frame (fdes_in index)) (pc : ℕ) where
  -- the description at an index stands at its own offset
  stands_there : (i : ℕ) (d : Fde) → i < length index.functions → fde_at_address bases (input_at image frame) (pair_of frame (get_or (fdes_in index) i d)).1 ≡ Ok (get_or (fdes_in index) i d)
  stands_there i d lt =
      let n = length-map index.functions described_fde in
      let g = get_or (fdes_in index) i d in
      let within : i < length (fdes_in index) = omega arith in
      let has : Contains (fdes_in index) g = (i, within, at_default (fdes_in index) i d g within) in
      let some : Contains (nonempty from.entries) g = Contains-permutation (fdes_in index) (nonempty from.entries) g (IsPermutation-sym (nonempty from.entries) (fdes_in index) from.each) has in
      let listed = filter_contains has_bytes (fdes_of from.entries) g some in
      let stands = placed bases (input_at image frame) 0 from.entries g from.are listed.0 in
      found_there image bases frame stands.next g laid stands.is

  -- what a boundary names is the description at its index
  named_found : (q : ℕ × ℕ) (fde : Fde) → IsBoundary pairs pc q → Contained (fde_at_address bases (input_at image frame) q.1) pc fde → scan bases (input_at image frame) pc ≡ Ok fde
  named_found q fde boundary there =
      let n = length-map index.functions described_fde in
      let i = boundary.index in
      let many = lists.as_many in
      let below = boundary.within in
      let within : i < length index.functions = omega arith in
      let d : Fde = (an_item index.functions i within).fde in
      let pair : q ≡ pair_of frame (get_or (fdes_in index) i d) = kept_pair q (pair_of frame (get_or (fdes_in index) i d)) (sym boundary.reads ∙ lists.each i d (omega arith)) in
      let at : fde_at_address bases (input_at image frame) q.1 ≡ Ok (get_or (fdes_in index) i d) = ap (λ (p : ℕ × ℕ). fde_at_address bases (input_at image frame) p.1) pair ∙ stands_there i d within in
      let same : get_or (fdes_in index) i d ≡ fde = some_fde (get_or (fdes_in index) i d) fde (sym at ∙ there.stands) in
      scan_found bases (input_at image frame) index from pc i fde (record { within = within; stands = λ e. described_there index.functions i d e within ∙ same; contains = there.covers })

  answered_by : (fde : Fde) (place : Result (Option (ℕ × ℕ)) Fault) → Finds pairs pc place → found_by bases (input_at image frame) pc place ≡ Ok fde → scan bases (input_at image frame) pc ≡ Ok fde
  answered_by fde (Err e) finds is = absurd cc
  answered_by fde (Ok None) finds is = absurd cc
  answered_by fde (Ok (Some q)) finds is = named_found q fde finds (contained (fde_at_address bases (input_at image frame) q.1) pc fde is)

  listed_found : (fde : Fde) → table_answer bases (input_at image frame) pairs pc ≡ Ok fde → scan bases (input_at image frame) pc ≡ Ok fde
  listed_found fde is =
      let answer = table_answer-is pairs pc bases (input_at image frame) in
      answered_by fde answer.place answer.finds (sym answer.is ∙ is)

  or_found : (r : Result Fde Fault) → table_answer bases (input_at image frame) pairs pc ≡ r → or_scanned bases (input_at image frame) pc (result_ok r) ≡ scanned_in bases (input_at image frame) pc
  or_found (Ok fde) is = rw (listed_found fde is) refl
  or_found (Err e) is = refl

  pub by_pairs : by_table bases (input_at image frame) pc (Some pairs) ≡ scanned_in bases (input_at image frame) pc
  by_pairs = or_found (table_answer bases (input_at image frame) pairs pc) refl

-- ---- by either table

abbrev found_of : ℕ → FrameTable → Option FoundFde
found_of pc k = found_in k.bases k.entries (scan k.bases k.entries pc)

some_table : (x y : FrameTable) → Some x ≡ Some y → x ≡ y
some_table x y e = cc

-- an index of a frame table that lists it
record IsListedBy (kind : FrameInfoKind) (index : Index) (k : FrameTable) : Type 0 where
  pub prepared : IsPreparedFrom k.bases k.entries index
  pub listed : Lists kind k (fdes_in index)

module _ (image : List Span) (laid : IsLaidOut 0 image) (index : Index) (kept : FrameTable) (pc : ℕ) where
  by_its_pairs : (bases : Bases) (frame : ℕ) (pairs : Option PairTable) → IsPreparedFrom bases (input_at image frame) index → HeaderLists pairs frame (fdes_in index) → by_table bases (input_at image frame) pc pairs ≡ scanned_in bases (input_at image frame) pc
  by_its_pairs bases frame None from lists = absurd lists
  by_its_pairs bases frame (Some pairs) from lists = by_pairs image laid bases frame index from pairs lists pc

  by_its_header : (known : Bases) (h : ℕ) (o : Option Led) → led_at known image h ≡ o → option_map (led_table (at_header known h) image) o ≡ Some kept → IsListedBy (EhFrameHdr h) index kept → found_by_header known image h pc ≡ found_of pc kept
  unfolding found_by_header
  by_its_header known h None is names by = absurd cc
  by_its_header known h (Some l) is names by =
      let same : led_table (at_header known h) image l ≡ kept = some_table (led_table (at_header known h) image l) kept names in
      let here : IsListedBy (EhFrameHdr h) index (led_table (at_header known h) image l) = subst (IsListedBy (EhFrameHdr h) index) (sym same) by in
      ap (by_led (at_header known h) image pc) is
      ∙ by_its_pairs (at_frame (at_header known h) l.frame) l.frame (table_in l.header) here.prepared here.listed
      ∙ ap (found_of pc) same

  by_its_kind : (text : Option ℕ) (kind : FrameInfoKind) → table_by_kind text kind image ≡ Some kept → IsListedBy kind index kept → found_by_kind text kind image pc ≡ found_of pc kept
  by_its_kind text (EhFrame a) names by = ap (found_of pc) (some_table (record { entries = input_at image a; bases = table_bases text a; pairs = None }) kept names)
  by_its_kind text (EhFrameHdr h) names by = by_its_header (relative_to text None) h (led_at (relative_to text None) image h) refl names by

-- the tables of a prepared module find what a scan of its frame table does
pub table_finds : (image : List Span) (tables : FrameInfo) (t : PreparedTable) (pc : ℕ) → IsLaidOut 0 image → IsTableOf image tables t → named.found_by tables image pc ≡ found_of pc (kept_table t None)
table_finds image tables t pc laid is = by_its_kind image laid t.index (kept_table t is.pairs) pc tables.text_base tables.kind is.names (record { prepared = is.prepared; listed = is.listed })

-- ---- the frame that an index shows

abbrev pub seen_by : PreparedTable → Fde → FoundFde
seen_by t fde = record { fde = fde; bases = bases_of t.bases; table = table_of t.frames }

pub none_shown : (image : List Span) (tables : FrameInfo) (t : PreparedTable) (pc : ℕ) → IsLaidOut 0 image → IsTableOf image tables t → scan (bases_of t.bases) (table_of t.frames) pc ≡ Err NoUnwindInfoForAddress → frame_by pc (named.found_by tables image pc) ≡ Ok None
none_shown image tables t pc laid is none =
    ap (frame_by pc) (table_finds image tables t pc laid is) ∙ ap (λ (r : Result Fde Fault). frame_by pc (found_in (bases_of t.bases) (table_of t.frames) r)) none

pub one_shown : (image : List Span) (tables : FrameInfo) (t : PreparedTable) (pc : ℕ) (fde : Fde) → IsLaidOut 0 image → IsTableOf image tables t → scan (bases_of t.bases) (table_of t.frames) pc ≡ Ok fde →
    frame_by pc (named.found_by tables image pc) ≡ result_map_both (frame_with (seen_by t fde)) Table (row_at (bases_of t.bases) fde pc)
one_shown image tables t pc fde laid is one =
    ap (frame_by pc) (table_finds image tables t pc laid is) ∙ ap (λ (r : Result Fde Fault). frame_by pc (found_in (bases_of t.bases) (table_of t.frames) r)) one

-- a frame with a row, and one whose row faults
pub shown_row : (image : List Span) (tables : FrameInfo) (t : PreparedTable) (pc : ℕ) (fde : Fde) (run : RowInstructions) → IsLaidOut 0 image → IsTableOf image tables t → scan (bases_of t.bases) (table_of t.frames) pc ≡ Ok fde → row_at (bases_of t.bases) fde pc ≡ Ok run →
    frame_by pc (named.found_by tables image pc) ≡ Ok (frame_with (seen_by t fde) run)
shown_row image tables t pc fde run laid is one row = one_shown image tables t pc fde laid is one ∙ ap (result_map_both (frame_with (seen_by t fde)) Table) row

pub shown_fault : (image : List Span) (tables : FrameInfo) (t : PreparedTable) (pc : ℕ) (fde : Fde) (e : Fault) → IsLaidOut 0 image → IsTableOf image tables t → scan (bases_of t.bases) (table_of t.frames) pc ≡ Ok fde → row_at (bases_of t.bases) fde pc ≡ Err e →
    frame_by pc (named.found_by tables image pc) ≡ Err (Table e)
shown_fault image tables t pc fde e laid is one fault = one_shown image tables t pc fde laid is one ∙ ap (result_map_both (frame_with (seen_by t fde)) Table) fault

-- ---- the function that it describes

pub none_described : (image : List Span) (tables : FrameInfo) (t : PreparedTable) (pc : ℕ) → IsLaidOut 0 image → IsTableOf image tables t → scan (bases_of t.bases) (table_of t.frames) pc ≡ Err NoUnwindInfoForAddress → None ≡ option_map function_of (named.found_by tables image pc)
none_described image tables t pc laid is none =
    sym (ap (option_map function_of) (table_finds image tables t pc laid is ∙ ap (λ (r : Result Fde Fault). found_in (bases_of t.bases) (table_of t.frames) r) none))

pub one_described : (image : List Span) (tables : FrameInfo) (t : PreparedTable) (pc : ℕ) (fde : Fde) → IsLaidOut 0 image → IsTableOf image tables t → scan (bases_of t.bases) (table_of t.frames) pc ≡ Ok fde →
    Some (function_of (seen_by t fde)) ≡ option_map function_of (named.found_by tables image pc)
one_described image tables t pc fde laid is one =
    sym (ap (option_map function_of) (table_finds image tables t pc laid is ∙ ap (λ (r : Result Fde Fault). found_in (bases_of t.bases) (table_of t.frames) r) one))

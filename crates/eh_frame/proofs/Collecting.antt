-- The entries of a table, read one after another.
use Rattle.std.proofs.Common.{◌≡◌, ℕ, ◌<◌, ◌≤◌, List, [], ◌∷◌, ◌++◌, length, map, Some, None, Ok, Err, refl, sym, ap, ◌∙◌, subst, arith}
use Rattle.std.specs.List.{AllByRecursion, filter}
use Rattle.std.proofs.lemmas.List.Elements.{filter-append, filter_map-append}
use Rattle.unwind_definitions.specs.Input.{Input}
use Rattle.unwind_definitions.specs.Pointers.{Bases}
use Rattle.unwind_definitions.specs.declared.error.Error.{Error as Fault}
use Rattle.unwind_definitions.specs.Entries.{Fde, Entry, Found, AreEntries, entry_at}
use Rattle.unwind_definitions.specs.Scan.{fde_of, fdes_of}
use Rattle.eh_frame.specs.FdeLists.{IsListOf, IsFunctionIn, function_in}
use Rattle.eh_frame.specs.Listed.{HasUnreadable, IsWhole, has_bytes, nonempty}
use Rattle.eh_frame.specs.Shared.{StandsIn, cie_of_entry}
use Rattle.eh_frame.specs.declared.cie.Cie.{Cie as CodeCie}
use Rattle.eh_frame.specs.declared.prepared.PreparedFunction.{PreparedFunction}
use Rattle.eh_frame.proofs.Ahead.{next_within}
use Rattle.eh_frame.proofs.ListingFdes.{none_yet}
use Rattle.eh_frame.proofs.Sharing.{shared_stands}
use Rattle.eh_frame.specs.Search.{Precede}

module _ (bases : Bases) (table : Input) where
  pub precede_push : (from : ℕ) (es : List Entry) (offset : ℕ) (e : Entry) (next : ℕ) → Precede bases table from es offset → entry_at bases table offset ≡ Ok (Some (record { entry = e; next = next })) → Precede bases table from (es ++ e ∷ []) next
  precede_push from [] offset e next precede at = (next, subst (λ o. entry_at bases table o ≡ Ok (Some (record { entry = e; next = next }))) (sym precede) at, refl)
  precede_push from (f ∷ es) offset e next precede at = (precede.0, precede.1, precede_push precede.0 es offset e next precede.2 at)

  pub all_precede : (from : ℕ) (es : List Entry) (offset : ℕ) → Precede bases table from es offset → entry_at bases table offset ≡ Ok None → AreEntries bases table from es
  all_precede from [] offset precede at = subst (λ o. entry_at bases table o ≡ Ok None) (sym precede) at
  all_precede from (e ∷ es) offset precede at = (precede.0, precede.1, all_precede precede.0 es offset precede.2 at)

pub nonempty_append : (es fs : List Entry) → nonempty (es ++ fs) ≡ nonempty es ++ nonempty fs
nonempty_append es fs = ap (filter has_bytes) (filter_map-append fde_of es fs) ∙ filter-append has_bytes (fdes_of es) (fdes_of fs)

-- ---- a list of them

module _ (bases : Bases) (table : Input) where
  -- the entries up to an offset are read, and those of them that are nonempty descriptions are listed
  pub record IsReadTo (cies : List CodeCie) (listed : List PreparedFunction) (offset : ℕ) : Type 0 where
    pub within : offset ≤ length table.bytes
    pub done : List Entry
    pub precede : Precede bases table 0 done offset
    pub list : IsListOf bases table cies listed (nonempty done)

  pub none_read : (cies : List CodeCie) (listed : List PreparedFunction) → cies ≡ [] → listed ≡ [] → IsReadTo cies listed 0
  none_read cies listed no_cies no_fdes = record { within = omega arith; done = []; precede = refl; list = none_yet bases table cies listed no_cies no_fdes }

  module _ (cies : List CodeCie) (listed : List PreparedFunction) (offset : ℕ) (s : IsReadTo cies listed offset) where
    pub all_read : entry_at bases table offset ≡ Ok None → IsWhole bases table (map (function_in cies) listed) × AllByRecursion (IsFunctionIn cies) listed
    all_read at = (record { entries = s.done; are = all_precede bases table 0 s.done offset s.precede at; nonempty = s.list.are }, s.list.named)

    pub one_unread : (f : Fault) → entry_at bases table offset ≡ Err f → HasUnreadable bases table
    one_unread f at = record { before = s.done; offset = offset; precede = s.precede; fault = f; unread = at }

    module _ (found : Found) (at : entry_at bases table offset ≡ Ok (Some found)) (start : table.offset ≡ 0) where
      pub read_further : (offset < found.next) × (found.next ≤ length table.bytes)
      read_further = next_within bases table offset found start s.within at

      pub one_read : (new : List CodeCie) (more : List PreparedFunction) →
          ((fdes : List Fde) → IsListOf bases table cies listed fdes → StandsIn bases table (cie_of_entry found.entry) → IsListOf bases table new more (fdes ++ nonempty (found.entry ∷ []))) →
          IsReadTo new more found.next
      one_read new more adds = record {
        within = read_further.1;
        done = s.done ++ found.entry ∷ [];
        precede = precede_push bases table 0 s.done offset found.entry found.next s.precede at;
        list = subst (λ (l : List Fde). IsListOf bases table new more l) (sym (nonempty_append s.done (found.entry ∷ []))) (adds (nonempty s.done) s.list (shared_stands bases table offset found at));
      }

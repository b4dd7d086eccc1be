-- A finder's answer as that of the definitions.
use Rattle.encoded_pointers.specs.PointerViews.{bases_of}
use Rattle.eh_frame.specs.EntryViews.{fde_of, table_of}
use Rattle.fde_finders.specs.declared.find_fde.FDESearchResult.{FDESearchResult}
use Rattle.fde_finders.specs.Finding.{FoundFde}

abbrev pub found_fde_of : FDESearchResult → FoundFde
found_fde_of r = record { fde = fde_of r.fde; bases = bases_of r.bases; table = table_of r.eh_frame }

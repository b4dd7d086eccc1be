use Rattle.std.proofs.Common.{◌≡◌, ℕ, ◌≤◌, length}
use Rattle.encoded_pointers.specs.PointerViews.{bases_of}
use Rattle.encoded_pointers.specs.CursorViews.{at}
use Rattle.unwinding_frames.specs.CxxTables.{site_from}
use Rattle.unwinding_frames.proofs.cxx.table.CxxTable.deciding_site.Given as goal

-- with turns enough, the sites that are left give what all of them give
abbrev pub invariant-loop-sites : goal.invariant-loop-sites
invariant-loop-sites l = (turns : ℕ) × (length l.sites.bytes.now ≤ turns) ×
    (site_from (length (at l.self.sites).bytes) l.image (bases_of l.bases) l.start l.address l.self.site_encoding.0 (at l.self.sites) ≡ site_from turns l.image (bases_of l.bases) l.start l.address l.self.site_encoding.0 (at l.sites))

abbrev pub decreases-loop-sites : goal.decreases-loop-sites
decreases-loop-sites l = length l.sites.bytes.now

use Rattle.std.proofs.Common.{◌≡◌, ℕ, ◌≤◌, length}
use Rattle.unwind_definitions.specs.LanguageSearch.{search_from}
use Rattle.encoded_pointers.specs.PointerViews.{bases_of}
use Rattle.encoded_pointers.specs.CursorViews.{at}
use Rattle.unwinding_frames.specs.LanguageViews.{head_of}
use Rattle.unwinding_frames.proofs.language_table.LanguageTable.search.Given as goal

-- with turns enough, the sites that are left give what all of them give
abbrev pub invariant-loop-sites : goal.invariant-loop-sites
invariant-loop-sites l = (turns : ℕ) × (length l.sites.bytes.now ≤ turns) ×
    (search_from (length (at l.self.sites).bytes) l.image (bases_of l.bases) l.start l.address (head_of l.self) (at l.self.sites) ≡ search_from turns l.image (bases_of l.bases) l.start l.address (head_of l.self) (at l.sites))

abbrev pub decreases-loop-sites : goal.decreases-loop-sites
decreases-loop-sites l = length l.sites.bytes.now

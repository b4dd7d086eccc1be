use Rattle.std.proofs.Common.{◌≡◌, None, arith, sym}
use Rattle.encoded_pointers.specs.PointerViews.{bases_of}
use Rattle.fde_finders.specs.FrameTables.{table_by_header}
use Rattle.fde_finders.proofs.Unled.{none_searched, unled}
use Rattle.fde_finders.proofs.tables.search_header.Goals as goal

pub returns-in_err-named-clause-ticks : goal.returns-in_err-named-clause-ticks
returns-in_err-named-clause-ticks g c =
    let none : table_by_header (bases_of c.args.known.now) c.args.image.now c.args.header ≡ None = sym c.in_err-named.ensures in
    (0, omega arith, none_searched _ (unled (bases_of c.args.known.now) c.args.image.now c.args.header none))

use Rattle.encoded_pointers.specs.PointerViews.{bases_of}
use Rattle.eh_frame.specs.EntryViews.{table_of}
use Rattle.eh_frame.proofs.ListingFdes.{known_listed}
use Rattle.eh_frame.proofs.entries.EhFrame.collect_by_cie.Goals as goal

pub returns-in-Some-clause-cie : goal.returns-in-Some-clause-cie
returns-in-Some-clause-cie c =
    let cies = c.args.list.now.cies.items in
    rw c.in-Some.ensures.cies
    (known_listed (bases_of c.args.bases.now) (table_of c.args.self.now) cies c.in-Some.index c.args.offset c.requires c.in-Some.ensures.index.0 c.in-Some.ensures.index.1)

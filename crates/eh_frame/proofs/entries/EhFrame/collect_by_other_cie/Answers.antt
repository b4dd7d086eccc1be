use Rattle.encoded_pointers.specs.PointerViews.{bases_of}
use Rattle.eh_frame.specs.EntryViews.{table_of}
use Rattle.eh_frame.proofs.ListingFdes.{known_listed, read_listed}
use Rattle.eh_frame.proofs.entries.EhFrame.collect_by_other_cie.Goals as goal

pub returns-in-Some-clause-cie : goal.returns-in-Some-clause-cie
returns-in-Some-clause-cie c =
    let cies = c.args.list.now.cies.items in
    rw c.in-Some.ensures.cies
    (known_listed (bases_of c.args.bases.now) (table_of c.args.self.now) cies c.in-Some.index c.args.offset c.requires c.in-Some.ensures.index.0 c.in-Some.ensures.index.1)

pub returns-in_ok-push_cie-in-Ok-clause-cie : goal.returns-in_ok-push_cie-in-Ok-clause-cie
returns-in_ok-push_cie-in-Ok-clause-cie c =
    let done = c.in_ok-push_cie-in-Ok.ensures in
    let same = c.search.ensures.cies in
    let cies = rw same at done.cies in
    let index = rw same at done.index in
    read_listed (bases_of c.args.bases.now) (table_of c.args.self.now) c.args.list.now.cies.items c.push_cie.new.self.cies.items c.in_ok-push_cie-in-Ok.field-0 c.args.offset c.in-Ok.cie c.in-Ok.ensures cies index

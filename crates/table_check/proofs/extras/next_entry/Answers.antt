use Rattle.eh_frame.specs.Listing.{listing_of}
use Rattle.table_check.proofs.NextEntries.{next_read, next_unread}
use Rattle.table_check.proofs.extras.next_entry.Goals as goal

pub returns-in-Ok : goal.returns-in-Ok
returns-in-Ok c going = next_read (listing_of c.args.entries.now) (listing_of c.next.new.self) c.in-Ok.entry going c.in-Ok.ensures.entry c.in-Ok.ensures.rest c.in-Ok.ensures.ahead

pub returns-in-Err : goal.returns-in-Err
returns-in-Err c going = next_unread (listing_of c.args.entries.now) (listing_of c.next.new.self) c.in-Err.field-0 going c.in-Err.ensures.entry

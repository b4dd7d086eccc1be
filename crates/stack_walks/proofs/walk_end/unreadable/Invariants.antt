use Rattle.std.proofs.Common.{◌≡◌, ◌-◌, false}
use Rattle.eh_frame.specs.Listing.{listing_of}
use Rattle.stack_walks.proofs.Unread.{Fails}
use Rattle.stack_walks.proofs.walk_end.unreadable.Given as goal

abbrev pub invariant-loop : goal.invariant-loop
invariant-loop l = record {
  table : (listing_of l.entries).table ≡ (listing_of l.fn.entries).table;
  bases : (listing_of l.entries).bases ≡ (listing_of l.fn.entries).bases;
  over : (listing_of l.entries).is_over ≡ false;
  fails : Fails (listing_of l.fn.entries).bases (listing_of l.fn.entries).table l.address l.error (l.turns - l.counter) (listing_of l.entries).offset;
}

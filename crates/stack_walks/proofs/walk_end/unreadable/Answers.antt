use Rattle.std.proofs.Common.{◌≡◌, ◌-◌, ◌+◌, suc, refl, sym, ◌∙◌, arith}
use Rattle.std.specs.Option.{option_map}
use Rattle.eh_frame.specs.Listing.{listing_of, upcoming, entry_in}
use Rattle.eh_frame.specs.EntryViews.{entry_of}
use Rattle.stack_walks.proofs.Unread.{answered_err, answered_ok, fails_first, never_spent, listing_fails, listing_goes}
use Rattle.stack_walks.proofs.walk_end.unreadable.Goals as goal

pub loop-init : goal.loop-init
loop-init c =
    let l = listing_of c.args.entries.now in
    let all : c.args.turns - 0 ≡ c.args.turns = omega arith in
    record {
      table = refl;
      bases = refl;
      over = c.requires.starts.1;
      fails = rw (c.requires.starts.0, all) (fails_first l.bases l.table c.args.address c.args.error c.requires.unread c.args.turns c.requires.enough c.requires.fails);
    }

pub returns-then-is_err : goal.returns-then-is_err
returns-then-is_err c =
    let turns : c.args.turns - c.loop.counter ≡ suc (c.args.turns - (c.loop.counter + 1)) = omega arith in
    let i = c.loop.invariant in
    let l = listing_of c.args.entries.now in
    let now = listing_of c.loop.entries in
    let fault = answered_err (option_map entry_of) c.next.result (entry_in (upcoming now)) c.next.ensures.entry (sym c.is_err.ensures.value ∙ c.if-is_err.true) in (
      refl,
      rw c.offset-offset.ensures (listing_fails l.bases l.table c.args.address c.args.error c.requires.unread (c.args.turns - (c.loop.counter + 1)) (c.args.turns - c.loop.counter) now fault.0 turns i.table i.bases i.over i.fails fault.1),
    )

pub loop-preserved : goal.loop-preserved
loop-preserved c =
    let turns : c.args.turns - c.loop.counter ≡ suc (c.args.turns - (c.loop.counter + 1)) = omega arith in
    let i = c.loop.invariant in
    let l = listing_of c.args.entries.now in
    let now = listing_of c.loop.entries in
    let fine = answered_ok (option_map entry_of) c.next.result (entry_in (upcoming now)) c.next.ensures.entry (sym c.is_err.ensures.value ∙ c.if-is_err.false) in
    let goes = listing_goes l.bases l.table c.args.address c.args.error c.requires.unread (c.args.turns - (c.loop.counter + 1)) (c.args.turns - c.loop.counter) now (listing_of c.next.new.self) fine.0 turns i.table i.bases i.over i.fails fine.1 c.next.ensures.rest in
    record { table = goes.0; bases = goes.1; over = goes.2; fails = goes.3 }

pub unreachable-requires : goal.unreachable-requires
unreachable-requires c =
    let l = listing_of c.args.entries.now in
    never_spent l.bases l.table c.args.address c.args.error c.requires.unread (c.args.turns - c.loop.counter) (listing_of c.loop.entries).offset (omega arith) c.loop.invariant.fails

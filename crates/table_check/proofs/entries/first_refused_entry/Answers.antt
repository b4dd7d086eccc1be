use Rattle.std.proofs.Common.{◌++◌, ◌∷◌, [], sym, ap, subst, ◌∙◌}
use Rattle.std.specs.Bool.{Decides}
use Rattle.unwind_definitions.specs.Input.{Input}
use Rattle.unwind_definitions.specs.Entries.{Entry}
use Rattle.encoded_pointers.specs.PointerViews.{bases_of}
use Rattle.eh_frame.specs.EntryViews.{entry_of, table_of}
use Rattle.eh_frame.specs.Listing.{Listing, MovesAhead, listing_of}
use Rattle.table_check.specs.Scanned.{IsFirstRefused, IsShortAt}
use Rattle.table_check.proofs.Deciding.{decides_not}
use Rattle.table_check.proofs.Standing.{goes_on_over, refuses_long, stands_on}
use Rattle.table_check.proofs.entries.first_refused_entry.Goals as goal

pub returns-then-not-is_short : goal.returns-then-not-is_short
returns-then-not-is_short c =
    let bases = bases_of c.args.bases.now in
    let table : Input = table_of c.args.frames.now in
    let inv = c.loop.invariant in
    let e : Entry = entry_of c.in-Ok-Some.field-0-0 in
    let read = rw c.in-Ok-Some.field-0-is at c.in-Ok-Some.ensures.entry in
    let same = ap (λ n. record { base = n; offset = 0; bytes = c.args.bytes.now }) c.address-address.ensures ∙ ap (λ l. record { base = c.args.frames.now.address; offset = 0; bytes = l }) c.requires in
    let says = subst (λ (t : Input). Decides c.is_short.result (IsShortAt t c.offset-offset.result)) same c.is_short.ensures in
    let here = subst (λ n. Decides c.is_short.result (IsShortAt table n)) c.offset-offset.ensures says in
    subst (IsFirstRefused bases table) (sym c.offset-offset.ensures)
    (refuses_long bases table (listing_of c.loop.entries) inv.2 inv.0 inv.1 e read (decides_not c.is_short.result here c.if-not-is_short.true))

pub loop-preserved : goal.loop-preserved
loop-preserved c =
    let bases = bases_of c.args.bases.now in
    let table : Input = table_of c.args.frames.now in
    let inv = c.loop.invariant in
    let e : Entry = entry_of c.in-Ok-Some.field-0-0 in
    let read = rw c.in-Ok-Some.field-0-is at c.in-Ok-Some.ensures.entry in
    let same = ap (λ n. record { base = n; offset = 0; bytes = c.args.bytes.now }) c.address-address.ensures ∙ ap (λ l. record { base = c.args.frames.now.address; offset = 0; bytes = l }) c.requires in
    let says = subst (λ (t : Input). Decides c.is_short.result (IsShortAt t c.offset-offset.result)) same c.is_short.ensures in
    let here = subst (λ n. Decides c.is_short.result (IsShortAt table n)) c.offset-offset.ensures says in
    let new = listing_of c.next.new.self in
    let rest = c.in-Ok-Some.ensures.rest in (
      inv.0 ++ e ∷ [],
      stands_on bases table (listing_of c.loop.entries) inv.2 inv.0 inv.1 e read new rest (here.0 c.if-not-is_short.false),
      goes_on_over bases table (listing_of c.loop.entries) inv.2 inv.0 inv.1 e read new rest,
      (subst (λ (x : Listing). MovesAhead x new) inv.2 (rw c.in-Ok-Some.field-0-is at c.in-Ok-Some.ensures.ahead) inv.3).1,
    )

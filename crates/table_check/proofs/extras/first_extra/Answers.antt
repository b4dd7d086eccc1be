use Rattle.std.proofs.Common.{◌≡◌, ◌++◌, ◌∷◌, [], List, map, Some, Ok, ap, subst, ◌∙◌, arith, length-append}
use Rattle.unwind_definitions.specs.Entries.{Entry, entry_at}
use Rattle.encoded_pointers.specs.PointerViews.{bases_of}
use Rattle.eh_frame.specs.EntryViews.{entry_of, table_of}
use Rattle.eh_frame.specs.Listing.{Listing, MovesAhead, listing_of}
use Rattle.table_check.specs.ClaimViews.{function_of}
use Rattle.table_check.proofs.Beside.{ends_join, read_more, stands_more}
use Rattle.table_check.proofs.extras.first_extra.Goals as goal

pub loop-entry-preserved : goal.loop-entry-preserved
loop-entry-preserved c =
    let bases = bases_of c.args.bases.now in
    let table = table_of c.args.frames.now in
    let inv = c.loop-entry.invariant in
    let before : List Entry = inv.0 in
    let l = listing_of c.loop-entry.entries in
    let new = listing_of c.next_entry.new.entries in
    let e : Entry = entry_of c.in-Some.entry in
    let next = c.in-Some.ensures (ap (λ (x : Listing). x.is_over) inv.3) in
    let at = subst (λ (x : Listing). entry_at x.bases x.table l.offset ≡ Ok (Some (record { entry = e; next = new.offset }))) inv.3 next.0 in
    let ahead = subst (λ (x : Listing). MovesAhead x new) inv.3 next.2 inv.4 in
    let count = inv.1 in let behind = inv.5 in let further = ahead.0 in
    let longer = length-append before (e ∷ []) in (
      before ++ e ∷ [],
      omega (arith, longer, count),
      read_more bases table 0 before c.loop-entry.entries.offset new.offset e inv.2 at,
      next.1 ∙ ap (λ (x : Listing). record x { offset = new.offset }) inv.3,
      ahead.1,
      omega (arith, behind, further),
      stands_more (map function_of c.args.claims.now) before e inv.6 (c.in_default-extra_start.ensures before c.loop-entry.entries.offset inv.1 inv.2 inv.7),
      ends_join c.loop-entry.highest c.highest_after-highest.result before e c.highest_after-highest.ensures.higher inv.7 c.highest_after-highest.ensures.ends,
    )

use Rattle.std.proofs.Common.{◌≡◌, ◌-◌, ◌+◌, ℕ, suc, Some, Ok, ap, subst, ◌∙◌, arith}
use Rattle.unwind_definitions.specs.Entries.{Entry, entry_at}
use Rattle.encoded_pointers.specs.PointerViews.{bases_of}
use Rattle.eh_frame.specs.EntryViews.{entry_of, fde_of, table_of}
use Rattle.eh_frame.specs.Listing.{Listing, listing_of}
use Rattle.table_check.proofs.Beside.{AreLeft, left_after, not_apart, not_over}
use Rattle.table_check.proofs.Deciding.{decides_no, decides_not, decides_yes}
use Rattle.table_check.proofs.extras.is_apart_from_each.Goals as goal

pub returns-in_default : goal.returns-in_default
returns-in_default c before end count read =
    let bases = bases_of c.args.bases.now in
    let table = table_of c.args.frames.now in
    let fde = fde_of c.args.fde.now in
    let inv = c.loop-turn.invariant in
    let more = c.loop-turn-test.true in
    let l = listing_of c.loop-turn.entries in
    let one : c.args.count - c.loop-turn._turn ≡ suc (c.args.count - (c.loop-turn._turn + 1)) = omega (arith, more) in
    let left = subst (AreLeft bases table fde before end c.loop-turn.entries.offset) one (inv.1 before end count read) in
    let over = c.in_default.ensures (ap (λ (x : Listing). x.is_over) inv.0) in
    let over_here = subst (λ (x : Listing). (e : Entry) (next : ℕ) → entry_at x.bases x.table l.offset ≡ Ok (Some (record { entry = e; next = next })) → ⊥) inv.0 over in
    decides_yes (absurd (not_over bases table fde before end c.loop-turn.entries.offset (c.args.count - (c.loop-turn._turn + 1)) left over_here))

pub returns-then-not-is_apart_from : goal.returns-then-not-is_apart_from
returns-then-not-is_apart_from c before end count read =
    let bases = bases_of c.args.bases.now in
    let table = table_of c.args.frames.now in
    let fde = fde_of c.args.fde.now in
    let inv = c.loop-turn.invariant in
    let more = c.loop-turn-test.true in
    let l = listing_of c.loop-turn.entries in
    let new = listing_of c.next_entry.new.entries in
    let e : Entry = entry_of c.in-Some.entry in
    let one : c.args.count - c.loop-turn._turn ≡ suc (c.args.count - (c.loop-turn._turn + 1)) = omega (arith, more) in
    let left = subst (AreLeft bases table fde before end c.loop-turn.entries.offset) one (inv.1 before end count read) in
    let next = c.in-Some.ensures (ap (λ (x : Listing). x.is_over) inv.0) in
    let at = subst (λ (x : Listing). entry_at x.bases x.table l.offset ≡ Ok (Some (record { entry = e; next = new.offset }))) inv.0 next.0 in
    decides_no (not_apart bases table fde before end c.loop-turn.entries.offset (c.args.count - (c.loop-turn._turn + 1)) new.offset e left at
    (decides_not c.is_apart_from.result c.is_apart_from.ensures c.if-not-is_apart_from.true))

pub loop-turn-preserved : goal.loop-turn-preserved
loop-turn-preserved c =
    let bases = bases_of c.args.bases.now in
    let table = table_of c.args.frames.now in
    let fde = fde_of c.args.fde.now in
    let inv = c.loop-turn.invariant in
    let more = c.loop-turn-test.true in
    let l = listing_of c.loop-turn.entries in
    let new = listing_of c.next_entry.new.entries in
    let e : Entry = entry_of c.in-Some.entry in
    let one : c.args.count - c.loop-turn._turn ≡ suc (c.args.count - (c.loop-turn._turn + 1)) = omega (arith, more) in
    let next = c.in-Some.ensures (ap (λ (x : Listing). x.is_over) inv.0) in
    let at = subst (λ (x : Listing). entry_at x.bases x.table l.offset ≡ Ok (Some (record { entry = e; next = new.offset }))) inv.0 next.0 in (
      next.1 ∙ ap (λ (x : Listing). record x { offset = new.offset }) inv.0,
      λ before end count read.
          let left = subst (AreLeft bases table fde before end c.loop-turn.entries.offset) one (inv.1 before end count read) in
          left_after bases table fde before end c.loop-turn.entries.offset (c.args.count - (c.loop-turn._turn + 1)) new.offset e left at (c.is_apart_from.ensures.0 c.if-not-is_apart_from.false),
    )

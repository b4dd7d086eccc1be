use Rattle.std.proofs.Common.{◌≡◌, ◌+◌, ◌++◌, ◌∷◌, [], List, length, sym, ap, subst, ◌∙◌, arith, length-append, false}
use Rattle.std.specs.Prelude.{is_some}
use Rattle.std.specs.Bool.{Decides}
use Rattle.unwind_definitions.specs.Input.{Input}
use Rattle.unwind_definitions.specs.Entries.{Entry}
use Rattle.unwind_definitions.specs.Function.{Function}
use Rattle.unwind_definitions.specs.Scan.{fdes_of}
use Rattle.encoded_pointers.specs.PointerViews.{bases_of}
use Rattle.eh_frame.specs.EntryViews.{entry_of, table_of}
use Rattle.eh_frame.specs.Listing.{Listing, MovesAhead, listing_of}
use Rattle.fde_finders.specs.NamedTables.{named_of}
use Rattle.table_check.specs.Findings.{Tells}
use Rattle.table_check.specs.Scanned.{IsFirstRefused, IsShortAt}
use Rattle.table_check.proofs.Beside.{fdes_more}
use Rattle.table_check.proofs.Deciding.{decides_not}
use Rattle.table_check.proofs.Marking.{unmarked}
use Rattle.table_check.proofs.Standing.{at_here, goes_on_over, next_found, refuses_long, stands_on}
use Rattle.table_check.proofs.Taking.{as_none}
use Rattle.table_check.proofs.Whole.{read_before}
use Rattle.table_check.proofs.findings.go_through.Goals as goal

pub loop-found-init : goal.loop-found-init
loop-found-init c =
    let bases = bases_of c.args.table.now.bases in
    let table : Input = table_of c.args.table.now.frames in
    let begins = c.entries-entries.ensures in
    let first : c.entries-entries.result.offset ≡ 0 = ap (λ (l : Listing). l.offset) begins in
    let new = c.new-found.ensures in let none = new.entries in let few = new.descriptions in (
      [],
      sym first,
      begins ∙ ap (λ n. record { table = table; bases = bases; offset = n; is_over = false }) (sym first),
      omega (arith, first),
      none,
      omega (arith, none),
      few,
      omega (arith, few),
      c.forget_descriptions.ensures.same,
      as_none _ _ c.new-found.result.extra (ap is_some new.extra) (record {
        stand = tt;
        ends = tt;
        marks = unmarked c.args.image.now bases c.forget_descriptions.new.claims c.forget_descriptions.ensures.none;
        listed = λ p is. new.listed p table.base;
      }),
    )

pub returns-then-not-is_short-clause-refused : goal.returns-then-not-is_short-clause-refused
returns-then-not-is_short-clause-refused c =
    let bases = bases_of c.args.table.now.bases in
    let table : Input = table_of c.args.table.now.frames in
    let inv = c.loop-found.invariant in
    let e : Entry = entry_of c.in-Ok-Some.entry in
    let read = rw c.in-Ok-Some.field-0-is at c.in-Ok-Some.ensures.entry in
    let same = ap (λ n. record { base = n; offset = 0; bytes = c.args.bytes.now }) c.address.ensures ∙ ap (λ l. record { base = c.args.table.now.frames.address; offset = 0; bytes = l }) c.requires.bytes in
    let says = subst (λ (t : Input). Decides c.is_short.result (IsShortAt t c.offset-offset.result)) same c.is_short.ensures in
    let here = subst (λ n. Decides c.is_short.result (IsShortAt table n)) c.offset-offset.ensures says in
    subst (IsFirstRefused bases table) (sym c.offset-offset.ensures)
    (refuses_long bases table (listing_of c.loop-found.entries) inv.2 inv.0 inv.1 e read (decides_not c.is_short.result here c.if-not-is_short.true))

pub loop-found-preserved : goal.loop-found-preserved
loop-found-preserved c =
    let image = c.args.image.now in
    let t = named_of c.args.table.now in
    let bases = bases_of c.args.table.now.bases in
    let table : Input = table_of c.args.table.now.frames in
    let inv = c.loop-found.invariant in
    let before : List Entry = inv.0 in
    let l = listing_of c.loop-found.entries in
    let new = listing_of c.next.new.self in
    let e : Entry = entry_of c.in-Ok-Some.entry in
    let read = rw c.in-Ok-Some.field-0-is at c.in-Ok-Some.ensures.entry in
    let rest = c.in-Ok-Some.ensures.rest in
    let same = ap (λ n. record { base = n; offset = 0; bytes = c.args.bytes.now }) c.address.ensures ∙ ap (λ l. record { base = c.args.table.now.frames.address; offset = 0; bytes = l }) c.requires.bytes in
    let says = subst (λ (t : Input). Decides c.is_short.result (IsShortAt t c.offset-offset.result)) same c.is_short.ensures in
    let here = subst (λ n. Decides c.is_short.result (IsShortAt table n)) c.offset-offset.ensures says in
    let ahead = subst (λ (x : Listing). MovesAhead x new) inv.2 (rw c.in-Ok-Some.field-0-is at c.in-Ok-Some.ensures.ahead) inv.3 in
    let further = ahead.0 in let count = inv.4 in let behind = inv.5 in let some = inv.6 in
    let take = c.take.ensures in let one = take.entries in let more = take.descriptions in
    let longer : length (before ++ e ∷ []) ≡ length before + 1 = length-append before (e ∷ []) in
    let both : length (fdes_of (before ++ e ∷ [])) ≡ length (fdes_of before) + length (fdes_of (e ∷ [])) = ap length (fdes_more before e) ∙ length-append (fdes_of before) (fdes_of (e ∷ [])) in
    let next = next_found bases table l inv.2 before inv.1 e read in (
      before ++ e ∷ [],
      stands_on bases table l inv.2 before inv.1 e read new rest (here.0 c.if-not-is_short.false),
      goes_on_over bases table l inv.2 before inv.1 e read new rest,
      ahead.1,
      omega (arith, one, count, longer),
      omega (arith, one, behind, further),
      omega (arith, more, some, both),
      take.fewer,
      take.same ∙ inv.8,
      subst (λ (fs : List Function). Tells image t fs c.take.new.claims (fdes_of (before ++ e ∷ [])) c.take.new.self) inv.8
          (take.tells before l.offset next.0 (sym inv.4) (sym inv.6) (read_before bases table 0 before l.offset inv.1) (at_here bases table l inv.2 before inv.1 e read)
          (subst (λ (fs : List Function). Tells image t fs c.loop-found.claims (fdes_of before) c.loop-found.found) (sym inv.8) inv.9)),
    )

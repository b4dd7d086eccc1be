use Rattle.std.proofs.Common.{◌≡◌, ◌<◌, ◌≤◌, Bool, Some, None, length, refl, subst, arith}
use Rattle.unwind_definitions.specs.Pointers.{Bases}
use Rattle.unwind_definitions.specs.Entries.{Found}
use Rattle.encoded_pointers.specs.PointerViews.{bases_of}
use Rattle.encoded_pointers.specs.CursorViews.{at}
use Rattle.eh_frame.specs.EntryViews.{table_of}
use Rattle.eh_frame.specs.FdeLists.{ListsEntry}
use Rattle.eh_frame.proofs.Collecting.{all_read, none_read, one_read, one_unread, read_further}
use Rattle.eh_frame.proofs.EntryParts.{no_body, no_entry, no_more, whole_entry}
use Rattle.eh_frame.proofs.entries.EhFrame.nonempty_fdes.Goals as goal

pub loop-list-init : goal.loop-list-init
loop-list-init c = none_read (bases_of c.args.bases.now) (table_of c.args.self.now) c.in_ok-list.list.cies.items c.in_ok-list.list.fdes.items c.in_ok-list.ensures.cies c.in_ok-list.ensures.fdes

pub list_entry-requires : goal.list_entry-requires
list_entry-requires c = c.loop-list.invariant.list.stand

pub returns-in-Err : goal.returns-in-Err
returns-in-Err c =
    let bases : Bases = bases_of c.args.bases.now in
    let table = table_of c.args.self.now in
    one_unread bases table c.loop-list.list.cies.items c.loop-list.list.fdes.items c.loop-list.offset c.loop-list.invariant _ (no_body bases table c.loop-list.offset (at c.from-input.result) c.from-input.ensures _ c.in-Err.ensures)

pub returns-in-Ok-None : goal.returns-in-Ok-None
returns-in-Ok-None c =
    let bases : Bases = bases_of c.args.bases.now in
    let table = table_of c.args.self.now in
    let none : c.in-Ok-None.field-0 ≡ None = c.in-Ok-None.field-0-is in
    all_read bases table c.loop-list.list.cies.items c.loop-list.list.fdes.items c.loop-list.offset c.loop-list.invariant
    (no_more bases table c.loop-list.offset (at c.from-input.result) c.from-input.ensures (at c.read_body.new.input) (rw none at c.in-Ok-None.ensures))

pub returns-then-not-branch : goal.returns-then-not-branch
returns-then-not-branch c =
    let bases : Bases = bases_of c.args.bases.now in
    let table = table_of c.args.self.now in
    let some : c.in-Ok-Some.field-0 ≡ Some c.in-Ok-Some.body = c.in-Ok-Some.field-0-is in
    let read = rw some at c.in-Ok-Some.ensures in
    let lists = subst (λ (b : Bool). ListsEntry bases table c.loop-list.offset (at c.in-Ok-Some.body) c.loop-list.list b c.list_entry.new.list) c.if-not-branch.true c.in_ok-list_entry-in-Ok-Some.ensures in
    one_unread bases table c.loop-list.list.cies.items c.loop-list.list.fdes.items c.loop-list.offset c.loop-list.invariant lists.0
    (no_entry bases table c.loop-list.offset (at c.from-input.result) c.from-input.ensures (at c.in-Ok-Some.body) (at c.read_body.new.input) read lists.0 lists.1)

pub loop-list-smaller : goal.loop-list-smaller
loop-list-smaller c =
    let bases : Bases = bases_of c.args.bases.now in
    let table = table_of c.args.self.now in
    let some : c.in-Ok-Some.field-0 ≡ Some c.in-Ok-Some.body = c.in-Ok-Some.field-0-is in
    let read = rw some at c.in-Ok-Some.ensures in
    let lists = subst (λ (b : Bool). ListsEntry bases table c.loop-list.offset (at c.in-Ok-Some.body) c.loop-list.list b c.list_entry.new.list) c.if-not-branch.false c.in_ok-list_entry-in-Ok-Some.ensures in
    let found : Found = record { entry = lists.0; next = c.read_body.new.input.offset } in
    let is = whole_entry bases table c.loop-list.offset (at c.from-input.result) c.from-input.ensures (at c.in-Ok-Some.body) (at c.read_body.new.input) read lists.0 lists.1 in
    let further = read_further bases table c.loop-list.list.cies.items c.loop-list.list.fdes.items c.loop-list.offset c.loop-list.invariant found is refl in
    let low : c.loop-list.offset < c.read_body.new.input.offset = further.0 in
    let high : c.read_body.new.input.offset ≤ length c.args.self.now.bytes.now = further.1 in
    let next = c.offset-offset.ensures in
    omega arith

pub loop-list-preserved : goal.loop-list-preserved
loop-list-preserved c =
    let bases : Bases = bases_of c.args.bases.now in
    let table = table_of c.args.self.now in
    let some : c.in-Ok-Some.field-0 ≡ Some c.in-Ok-Some.body = c.in-Ok-Some.field-0-is in
    let read = rw some at c.in-Ok-Some.ensures in
    let lists = subst (λ (b : Bool). ListsEntry bases table c.loop-list.offset (at c.in-Ok-Some.body) c.loop-list.list b c.list_entry.new.list) c.if-not-branch.false c.in_ok-list_entry-in-Ok-Some.ensures in
    let found : Found = record { entry = lists.0; next = c.read_body.new.input.offset } in
    let is = whole_entry bases table c.loop-list.offset (at c.from-input.result) c.from-input.ensures (at c.in-Ok-Some.body) (at c.read_body.new.input) read lists.0 lists.1 in
    rw c.offset-offset.ensures
    (one_read bases table c.loop-list.list.cies.items c.loop-list.list.fdes.items c.loop-list.offset c.loop-list.invariant found is refl c.list_entry.new.list.cies.items c.list_entry.new.list.fdes.items lists.2)

use Rattle.std.proofs.Common.{◌≡◌, ◌<◌, ℕ, Ok, subst}
use Rattle.std.specs.Int.{w32}
use Rattle.unwind_definitions.specs.declared.error.Error.TheVariants.{NotCie}
use Rattle.unwind_definitions.specs.Input.{number}
use Rattle.unwind_definitions.specs.Pointers.{Bases}
use Rattle.unwind_definitions.specs.Entries.{cie_body, fde_body}
use Rattle.encoded_pointers.specs.PointerViews.{bases_of}
use Rattle.encoded_pointers.specs.CursorViews.{at}
use Rattle.eh_frame.specs.EntryViews.{table_of}
use Rattle.eh_frame.specs.FdeLists.{AddsCie, AddsFde, ListsEntry, cie_in}
use Rattle.eh_frame.proofs.Descriptions.{common_listed, description_listed}
use Rattle.eh_frame.proofs.EntryParts.{no_place}
use Rattle.eh_frame.proofs.Preparing.{if_ok}
use Rattle.eh_frame.proofs.entries.EhFrame.list_entry.Goals as goal

pub returns-then-id-eq0 : goal.returns-then-id-eq0
returns-then-id-eq0 c =
    let bases : Bases = bases_of c.args.bases.now in
    let table = table_of c.args.self.now in
    let b = at c.args.body in
    let rest = at c.read_u32.new.self in
    let old = c.args.list.now in
    let new = c.list_cie.new.list in
    let read : number w32 b ≡ Ok (0, rest) = subst (λ (n : ℕ). number w32 b ≡ Ok (n, rest)) c.if-id-eq0.true c.in-Ok.ensures.reads in
    if_ok (λ r. AddsCie (cie_body bases c.args.offset rest) old.cies.items r new.cies.items) (λ r. ListsEntry bases table c.args.offset b old r new) c.list_cie.result c.list_cie.ensures.cies
    (common_listed bases table c.args.offset b rest read old new c.list_cie.ensures.fdes)

pub returns-then-id-origin : goal.returns-then-id-origin
returns-then-id-origin c =
    let bases : Bases = bases_of c.args.bases.now in
    let out = subst (λ (n : ℕ). n < c.in-Ok.id) c.offset-origin.ensures c.if-id-origin.true in
    (NotCie, no_place bases (table_of c.args.self.now) c.args.offset (at c.args.body) (at c.read_u32.new.self) c.in-Ok.id c.in-Ok.ensures.reads c.if-id-eq0.false out)

pub returns-in-Some : goal.returns-in-Some
returns-in-Some c =
    let bases : Bases = bases_of c.args.bases.now in
    let table = table_of c.args.self.now in
    let b = at c.args.body in
    let rest = at c.read_u32.new.self in
    let old = c.args.list.now in
    let middle = c.collect_by_cie.new.list in
    let new = c.push_fde.new.self in
    let lists = rw c.in-Some.is at c.in_ok-cie.ensures.cie in
    if_ok (λ r. AddsFde (fde_body bases (cie_in middle.cies.items c.in-Some.cie) c.args.offset rest) middle.cies.items middle.fdes.items r new.fdes.items) (λ r. ListsEntry bases table c.args.offset b old r new) c.push_fde.result c.push_fde.ensures.adds
    (description_listed bases table c.args.offset b rest c.in-Ok.id c.offset-origin.result c.in-Some.cie c.in-Ok.ensures.reads c.if-id-eq0.false c.offset-origin.ensures c.if-id-origin.false old middle new c.requires lists c.in_ok-cie.ensures.fdes c.push_fde.ensures.cies)

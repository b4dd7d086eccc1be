use Rattle.std.proofs.Common.{◌≡◌, Some, Ok, refl}
use Rattle.unwind_definitions.specs.Entries.{Found, entry_at}
use Rattle.unwind_definitions.specs.Pointers.{Bases}
use Rattle.encoded_pointers.specs.CursorViews.{at}
use Rattle.encoded_pointers.specs.PointerViews.{bases_of}
use Rattle.eh_frame.specs.EntryViews.{entry_of, table_of}
use Rattle.eh_frame.proofs.Ahead.{next_within}
use Rattle.eh_frame.proofs.EntryParts.{no_body, no_entry, no_more, whole_entry}
use Rattle.eh_frame.proofs.Sharing.{shared_stands}
use Rattle.eh_frame.proofs.listing.Entries.next.Goals as goal

pub returns-in-Ok-None-clause-entry : goal.returns-in-Ok-None-clause-entry
returns-in-Ok-None-clause-entry c =
    let none = no_more (bases_of c.args.self.now.bases) (table_of c.args.self.now.table) c.args.self.now.offset (at c.from-input.result) c.from-input.ensures _ (rw c.in-Ok-None.field-0-is at c.in-Ok-None.ensures) in
    rw (c.if-self.false, none) refl

pub returns-in-Ok-None-clause-rest : goal.returns-in-Ok-None-clause-rest
returns-in-Ok-None-clause-rest c =
    let none = no_more (bases_of c.args.self.now.bases) (table_of c.args.self.now.table) c.args.self.now.offset (at c.from-input.result) c.from-input.ensures _ (rw c.in-Ok-None.field-0-is at c.in-Ok-None.ensures) in
    rw (c.if-self.false, none) refl

pub returns-in-Err-clause-entry : goal.returns-in-Err-clause-entry
returns-in-Err-clause-entry c =
    let fault = no_body (bases_of c.args.self.now.bases) (table_of c.args.self.now.table) c.args.self.now.offset (at c.from-input.result) c.from-input.ensures _ c.in-Err.ensures in
    rw (c.if-self.false, fault) refl

pub returns-in-Err-clause-rest : goal.returns-in-Err-clause-rest
returns-in-Err-clause-rest c =
    let fault = no_body (bases_of c.args.self.now.bases) (table_of c.args.self.now.table) c.args.self.now.offset (at c.from-input.result) c.from-input.ensures _ c.in-Err.ensures in
    rw (c.if-self.false, fault) refl

pub invariant_of-self-in-Ok : goal.invariant_of-self-in-Ok
invariant_of-self-in-Ok c =
    let bases : Bases = bases_of c.args.self.now.bases in
    let found : Found = record { entry = entry_of c.in-Ok.entry; next = (at c.read_body.new.input).offset } in
    let whole : entry_at bases (table_of c.args.self.now.table) c.args.self.now.offset ≡ Ok (Some found) = whole_entry bases (table_of c.args.self.now.table) c.args.self.now.offset (at c.from-input.result) c.from-input.ensures (at c.in-Ok-Some.body) (at c.read_body.new.input) (rw c.in-Ok-Some.field-0-is at c.in-Ok-Some.ensures) (entry_of c.in-Ok.entry) c.in-Ok.ensures in
    record {
      stands = c.note.ensures bases (table_of c.args.self.now.table) c.args.self.now.stands (shared_stands bases (table_of c.args.self.now.table) c.args.self.now.offset found whole);
    }

pub returns-in-Ok-clause-entry : goal.returns-in-Ok-clause-entry
returns-in-Ok-clause-entry c =
    let whole = whole_entry (bases_of c.args.self.now.bases) (table_of c.args.self.now.table) c.args.self.now.offset (at c.from-input.result) c.from-input.ensures (at c.in-Ok-Some.body) (at c.read_body.new.input) (rw c.in-Ok-Some.field-0-is at c.in-Ok-Some.ensures) (entry_of c.in-Ok.entry) c.in-Ok.ensures in
    rw (c.if-self.false, whole) refl

pub returns-in-Ok-clause-rest : goal.returns-in-Ok-clause-rest
returns-in-Ok-clause-rest c =
    let whole = whole_entry (bases_of c.args.self.now.bases) (table_of c.args.self.now.table) c.args.self.now.offset (at c.from-input.result) c.from-input.ensures (at c.in-Ok-Some.body) (at c.read_body.new.input) (rw c.in-Ok-Some.field-0-is at c.in-Ok-Some.ensures) (entry_of c.in-Ok.entry) c.in-Ok.ensures in
    rw (c.if-self.false, whole, c.offset-self.ensures) refl

pub returns-in-Ok-clause-ahead : goal.returns-in-Ok-clause-ahead
returns-in-Ok-clause-ahead c within =
    let bases : Bases = bases_of c.args.self.now.bases in
    let found : Found = record { entry = entry_of c.in-Ok.entry; next = (at c.read_body.new.input).offset } in
    let whole : entry_at bases (table_of c.args.self.now.table) c.args.self.now.offset ≡ Ok (Some found) = whole_entry bases (table_of c.args.self.now.table) c.args.self.now.offset (at c.from-input.result) c.from-input.ensures (at c.in-Ok-Some.body) (at c.read_body.new.input) (rw c.in-Ok-Some.field-0-is at c.in-Ok-Some.ensures) (entry_of c.in-Ok.entry) c.in-Ok.ensures in
    rw c.offset-self.ensures (next_within bases (table_of c.args.self.now.table) c.args.self.now.offset found refl within whole)

pub returns-in-Err-entry_in-clause-entry : goal.returns-in-Err-entry_in-clause-entry
returns-in-Err-entry_in-clause-entry c =
    let fault = no_entry (bases_of c.args.self.now.bases) (table_of c.args.self.now.table) c.args.self.now.offset (at c.from-input.result) c.from-input.ensures (at c.in-Ok-Some.body) (at c.read_body.new.input) (rw c.in-Ok-Some.field-0-is at c.in-Ok-Some.ensures) _ c.in-Err-entry_in.ensures in
    rw (c.if-self.false, fault) refl

pub returns-in-Err-entry_in-clause-rest : goal.returns-in-Err-entry_in-clause-rest
returns-in-Err-entry_in-clause-rest c =
    let fault = no_entry (bases_of c.args.self.now.bases) (table_of c.args.self.now.table) c.args.self.now.offset (at c.from-input.result) c.from-input.ensures (at c.in-Ok-Some.body) (at c.read_body.new.input) (rw c.in-Ok-Some.field-0-is at c.in-Ok-Some.ensures) _ c.in-Err-entry_in.ensures in
    rw (c.if-self.false, fault) refl

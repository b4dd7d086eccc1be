use Rattle.std.proofs.Common.{◌-◌, Option, Result, arith, subst, sym}
use Rattle.std.specs.Option.{option_map}
use Rattle.unwind_definitions.specs.declared.error.Error.{Error as Fault}
use Rattle.unwind_definitions.specs.Entries.{ACie, Fde}
use Rattle.unwind_definitions.specs.Pointers.{Bases}
use Rattle.encoded_pointers.specs.PointerViews.{bases_of}
use Rattle.encoded_pointers.specs.Readers.{Answers}
use Rattle.encoded_pointers.specs.CursorViews.{at}
use Rattle.eh_frame.specs.EntryViews.{cie_of, fde_of, table_of}
use Rattle.eh_frame.proofs.EntryParts.{covering_by_cie, whole_common}
use Rattle.eh_frame.proofs.Sharing.{at_own, in_stands}
use Rattle.eh_frame.proofs.entries.EhFrame.covering_in.Goals as goal

pub returns-in-Some-clause-found : goal.returns-in-Some-clause-found
returns-in-Some-clause-found c =
    let bases : Bases = bases_of c.args.bases.now in
    let e = covering_by_cie bases (table_of c.args.self.now) c.args.offset (at c.args.body) (at c.read_u32.new.self) c.in_ok-id.field-0 c.offset-origin.result c.in_ok-id.ensures.reads c.if-id-eq0.false c.offset-origin.ensures (omega arith) c.args.pc (cie_of c.in-Some.cie.now) (c.in-Some.ensures bases (table_of c.args.self.now) c.requires.known) in
    let P : Result (Option Fde) Fault → Type 0 = λ given. Answers (option_map fde_of) c.read_covering.result given in
    subst P (sym e) c.read_covering.ensures

pub returns-clause-known : goal.returns-clause-known
returns-clause-known c =
    let bases : Bases = bases_of c.args.bases.now in
    c.put-2.ensures bases (table_of c.args.self.now) c.requires.known (at_own bases (table_of c.args.self.now) (c.offset-origin.result - c.in_ok-id.field-0) (cie_of c.in_ok-cie.cie) c.in_ok-cie.ensures)

pub returns-then-id-eq0-clause-known : goal.returns-then-id-eq0-clause-known
returns-then-id-eq0-clause-known c =
    let bases : Bases = bases_of c.args.bases.now in
    let whole = whole_common bases (table_of c.args.self.now) c.args.offset (at c.args.body) (at c.read_u32.new.self) (rw c.if-id-eq0.true at c.in_ok-id.ensures.reads) (cie_of c.in_ok-read.field-0) c.in_ok-read.ensures in
    c.put.ensures bases (table_of c.args.self.now) c.requires.known (in_stands bases (table_of c.args.self.now) c.args.offset (at c.args.body) c.requires.reads.0 (ACie (cie_of c.in_ok-read.field-0)) c.requires.reads.1 whole)

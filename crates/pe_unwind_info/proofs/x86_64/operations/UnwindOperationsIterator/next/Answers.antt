use Rattle.std.proofs.Common.{◌≡◌, ◌≤◌, ◌+◌, ◌∙◌, sym, Some, None, length, arith, inl}
use Rattle.pe_unwind_info.specs.Operations.{first_of}
use Rattle.pe_unwind_info.proofs.OperationLemmas.{operations_skip, fewer_left}
use Rattle.pe_unwind_info.proofs.x86_64.operations.UnwindOperationsIterator.next.Goals as goal

pub loop-prolog_offset-preserved : goal.loop-prolog_offset-preserved
loop-prolog_offset-preserved c =
    let before = c.loop-prolog_offset.invariant in
    let spare : first_of c.args.self.now.version c.loop-prolog_offset.slots.now ≡ Some (c.in-Some.prolog_offset, None, c.in-Some.rest.now) = rw (c.in-None.is, before.version) at (sym c.in-Some.ensures) in
    let fewer : length c.in-Some.rest.now + 2 ≤ length c.loop-prolog_offset.slots.now = fewer_left c.args.self.now.version c.loop-prolog_offset.slots.now _ spare in
    record {
      version = before.version;
      none_left = before.none_left;
      shorter = omega (arith, before.shorter, fewer);
      same = before.same ∙ operations_skip _ _ _ _ spare;
    }

pub returns-in-Some-operation-clause-uses : goal.returns-in-Some-operation-clause-uses
returns-in-Some-operation-clause-uses c =
    let before = c.loop-prolog_offset.invariant in
    let given : first_of c.args.self.now.version c.loop-prolog_offset.slots.now ≡ Some (c.in-Some.prolog_offset, Some c.in-Some-operation.operation, c.in-Some.rest.now) = rw (c.in-Some-operation.is, before.version) at (sym c.in-Some.ensures) in
    let fewer : length c.in-Some.rest.now + 2 ≤ length c.loop-prolog_offset.slots.now = fewer_left c.args.self.now.version c.loop-prolog_offset.slots.now _ given in
    let less : length c.in-Some.rest.now + 2 ≤ length c.args.self.now.slots.now = omega (arith, before.shorter, fewer) in
    inl less

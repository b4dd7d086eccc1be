use Rattle.encoded_pointers.specs.PointerViews.{bases_of}
use Rattle.std.proofs.Common.{◌≡◌, suc, ◌-◌, length, arith, ap, refl, sym, ◌∙◌, Some, Ok}
use Rattle.std.proofs.lemmas.Result.{err_from_is_err_and}
use Rattle.unwind_definitions.specs.Pointers.{Bases}
use Rattle.unwind_definitions.specs.Entries.{Found, body, entry_at, entry_in}
use Rattle.unwind_definitions.specs.Scan.{scan}
use Rattle.encoded_pointers.specs.CursorViews.{at}
use Rattle.eh_frame.specs.EntryViews.{fde_of, table_of}
use Rattle.eh_frame.proofs.Ahead.{next_within}
use Rattle.eh_frame.proofs.EntryParts.{no_body, no_entry, no_more, whole_entry}
use Rattle.eh_frame.proofs.Scanning.{covers, faults, passes, scan_end, scan_fault, scan_next}
use Rattle.eh_frame.proofs.entries.EhFrame.scan.Goals as goal

pub loop-body-init : goal.loop-body-init
unfolding scan
loop-body-init c = (omega arith, suc (length c.args.self.now.bytes.now), omega arith, refl, c.new-known.ensures (bases_of c.args.bases.now) (table_of c.args.self.now))

pub returns-in_err-body : goal.returns-in_err-body
returns-in_err-body c =
    let bases : Bases = bases_of c.args.bases.now in
    let p = err_from_is_err_and c.from_residual.result c.from_residual.ensures.1 in
    let turns = c.loop-body.invariant.1 in let within = c.loop-body.invariant.0 in let enough = c.loop-body.invariant.2 in
    let more : turns ≡ suc (turns - 1) = omega arith in
    rw (p.1, p.2) (c.loop-body.invariant.3 ∙ scan_fault bases (table_of c.args.self.now) c.args.pc (turns - 1) turns c.loop-body.offset more _
    (no_body bases (table_of c.args.self.now) c.loop-body.offset (at c.from-input.result) c.from-input.ensures _ c.in_err-body.ensures))

pub returns-in_default : goal.returns-in_default
returns-in_default c =
    let bases : Bases = bases_of c.args.bases.now in
    let turns = c.loop-body.invariant.1 in let within = c.loop-body.invariant.0 in let enough = c.loop-body.invariant.2 in
    let more : turns ≡ suc (turns - 1) = omega arith in
    c.loop-body.invariant.3 ∙ scan_end bases (table_of c.args.self.now) c.args.pc (turns - 1) turns c.loop-body.offset more
    (no_more bases (table_of c.args.self.now) c.loop-body.offset (at c.from-input.result) c.from-input.ensures _ (rw c.in_default.is at c.in_ok-body.ensures))

pub covering_in-requires-clause-reads : goal.covering_in-requires-clause-reads
covering_in-requires-clause-reads c = (at c.read_body.new.input, ap (λ x. body x) (sym c.from-input.ensures) ∙ (rw c.in-Some.is at c.in_ok-body.ensures))

pub returns-in_err-fde : goal.returns-in_err-fde
returns-in_err-fde c =
    let bases : Bases = bases_of c.args.bases.now in
    let p = err_from_is_err_and c.from_residual-in_err-fde.result c.from_residual-in_err-fde.ensures.1 in
    let turns = c.loop-body.invariant.1 in let within = c.loop-body.invariant.0 in let enough = c.loop-body.invariant.2 in
    let more : turns ≡ suc (turns - 1) = omega arith in
    rw (p.1, p.2) (c.loop-body.invariant.3 ∙ scan_fault bases (table_of c.args.self.now) c.args.pc (turns - 1) turns c.loop-body.offset more _
    (no_entry bases (table_of c.args.self.now) c.loop-body.offset (at c.from-input.result) c.from-input.ensures (at c.in-Some.body) (at c.read_body.new.input)
    (rw c.in-Some.is at c.in_ok-body.ensures) _ (faults c.args.pc (entry_in bases (table_of c.args.self.now) c.loop-body.offset (at c.in-Some.body)) _ c.in_err-fde.ensures.found)))

pub returns-in-Some-2 : goal.returns-in-Some-2
returns-in-Some-2 c =
    let bases : Bases = bases_of c.args.bases.now in
    let turns = c.loop-body.invariant.1 in let within = c.loop-body.invariant.0 in let enough = c.loop-body.invariant.2 in
    let more : turns ≡ suc (turns - 1) = omega arith in
    let entry = covers c.args.pc (entry_in bases (table_of c.args.self.now) c.loop-body.offset (at c.in-Some.body)) (fde_of c.in-Some-2.fde) (rw c.in-Some-2.is at c.in_ok-fde.ensures.found) in
    let whole = whole_entry bases (table_of c.args.self.now) c.loop-body.offset (at c.from-input.result) c.from-input.ensures (at c.in-Some.body) (at c.read_body.new.input) (rw c.in-Some.is at c.in_ok-body.ensures) entry.0 entry.1 in
    c.loop-body.invariant.3 ∙ scan_next bases (table_of c.args.self.now) c.args.pc (turns - 1) turns c.loop-body.offset more (record { entry = entry.0; next = (at c.read_body.new.input).offset }) whole ∙ entry.2 _

pub loop-body-smaller : goal.loop-body-smaller
loop-body-smaller c =
    let bases : Bases = bases_of c.args.bases.now in
    let within = c.loop-body.invariant.0 in
    let entry = passes c.args.pc (entry_in bases (table_of c.args.self.now) c.loop-body.offset (at c.in-Some.body)) (rw c.in_default-2.is at c.in_ok-fde.ensures.found) in
    let found : Found = record { entry = entry.0; next = (at c.read_body.new.input).offset } in
    let whole : entry_at bases (table_of c.args.self.now) c.loop-body.offset ≡ Ok (Some found) = whole_entry bases (table_of c.args.self.now) c.loop-body.offset (at c.from-input.result) c.from-input.ensures (at c.in-Some.body) (at c.read_body.new.input) (rw c.in-Some.is at c.in_ok-body.ensures) entry.0 entry.1 in
    let next = next_within bases (table_of c.args.self.now) c.loop-body.offset found refl within whole in
    let low = next.0 in let high = next.1 in let same = c.offset-offset.ensures in
    omega arith

pub loop-body-preserved : goal.loop-body-preserved
loop-body-preserved c =
    let bases : Bases = bases_of c.args.bases.now in
    let turns = c.loop-body.invariant.1 in let within = c.loop-body.invariant.0 in let enough = c.loop-body.invariant.2 in
    let more : turns ≡ suc (turns - 1) = omega arith in
    let entry = passes c.args.pc (entry_in bases (table_of c.args.self.now) c.loop-body.offset (at c.in-Some.body)) (rw c.in_default-2.is at c.in_ok-fde.ensures.found) in
    let found : Found = record { entry = entry.0; next = (at c.read_body.new.input).offset } in
    let whole : entry_at bases (table_of c.args.self.now) c.loop-body.offset ≡ Ok (Some found) = whole_entry bases (table_of c.args.self.now) c.loop-body.offset (at c.from-input.result) c.from-input.ensures (at c.in-Some.body) (at c.read_body.new.input) (rw c.in-Some.is at c.in_ok-body.ensures) entry.0 entry.1 in
    let next = next_within bases (table_of c.args.self.now) c.loop-body.offset found refl within whole in
    let low = next.0 in let high = next.1 in let same = c.offset-offset.ensures in (
      omega arith,
      turns - 1,
      omega arith,
      rw same (c.loop-body.invariant.3 ∙ scan_next bases (table_of c.args.self.now) c.args.pc (turns - 1) turns c.loop-body.offset more found whole ∙ entry.2 _),
      c.in_ok-fde.ensures.known,
    )

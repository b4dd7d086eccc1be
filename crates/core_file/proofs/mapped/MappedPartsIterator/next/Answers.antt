use Rattle.std.proofs.Common.{◌≡◌, [], sym}
use Rattle.core_file.specs.MappedViews.{parts_left}
use Rattle.core_file.proofs.MappedLemmas.{parts_pathless, parts_end}
use Rattle.core_file.proofs.mapped.MappedPartsIterator.next.Goals as goal

pub returns-in_err-path-clause-steps : goal.returns-in_err-path-clause-steps
returns-in_err-path-clause-steps c =
    let parts = c.args.self.now in
    let none : parts_left parts ≡ [] = parts_pathless parts.page_size parts.entries parts.paths.now (sym c.in_err-path.ensures) in
    rw c.from_residual.ensures (none, none)

pub returns-in_err-entry-clause-steps : goal.returns-in_err-entry-clause-steps
returns-in_err-entry-clause-steps c =
    let parts = c.args.self.now in
    let none : parts_left parts ≡ [] = parts_end parts.page_size parts.entries parts.paths.now (sym c.in_err-entry.ensures) in
    rw c.from_residual-in_err-entry.ensures (none, none)

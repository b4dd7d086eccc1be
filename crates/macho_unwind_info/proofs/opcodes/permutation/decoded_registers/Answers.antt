use Rattle.std.proofs.Common.{ℕ, List, Some, refl, sym, ap, ◌∙◌, arith}
use Rattle.macho_unwind_info.proofs.PermutationRows.{fewer_is, none_is}
use Rattle.macho_unwind_info.proofs.opcodes.permutation.decoded_registers.Goals as goal

pub returns-then-number-ge-LISTS-clause-refused : goal.returns-then-number-ge-LISTS-clause-refused
returns-then-number-ge-LISTS-clause-refused c = (
  λ _. none_is c.args.count c.args.encoding (let h = c.if-count-gt6.false in omega arith)
      (let h = c.if-number-ge-LISTS.true in let e = c.from.ensures in rw (sym e) h),
  λ _. refl,
)

pub returns-clause-ok : goal.returns-clause-ok
returns-clause-ok c =
    fewer_is c.args.count c.args.encoding _ (let h = c.if-count-gt6.false in omega arith)
    (let h = c.if-number-ge-LISTS.false in let e = c.from.ensures in rw (sym e) h) (rw c.from.ensures at c.all_six.ensures)
    ∙ ap (λ (xs : List ℕ). Some xs) (sym c.first_ones.ensures)

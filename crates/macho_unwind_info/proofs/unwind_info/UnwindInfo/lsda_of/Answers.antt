use Rattle.std.proofs.Common.{sym, subst, ◌∙◌, refl, Option, Result, ℕ}
use Rattle.std.specs.Prelude.{IsErr, IfErr, ◌≡◌}
use Rattle.macho_unwind_info.specs.Bits.{bits}
use Rattle.macho_unwind_info.specs.declared.error.Error.{Error}
use Rattle.macho_unwind_info.specs.declared.error.Error.TheVariants as errors
use Rattle.macho_unwind_info.specs.declared.error.ReadError.TheVariants as parts
use Rattle.macho_unwind_info.proofs.LanguageLemmas.{lacks_part, part_lacks, one_error, finds_listed, is_set}
use Rattle.macho_unwind_info.proofs.unwind_info.UnwindInfo.lsda_of.Goals as goal

pub returns-then-has_lsda-clause-lacks : goal.returns-then-has_lsda-clause-lacks
returns-then-has_lsda-clause-lacks c =
    let info = c.args.self.now in
    let function = c.args.function.now in
    let bit : bits function.opcode 30 1 ≡ 1 = subst (λ (n : ℕ). bits n 30 1 ≡ 1) c.new.ensures (c.has_lsda.ensures.0 c.if-has_lsda.true) in (
      λ err. (is_set function.opcode bit, lacks_part info function.start_address (subst (λ (r : Result (Option ℕ) Error). IsErr r) c.table_at.ensures err)),
      λ lacks. (let same = c.table_at.ensures ∙ part_lacks info function.start_address lacks.1 in rw same refl),
    )

pub returns-then-has_lsda-clause-error : goal.returns-then-has_lsda-clause-error
returns-then-has_lsda-clause-error c = subst (λ (r : Result (Option ℕ) Error). IfErr r (λ e. e ≡ errors.ReadError parts.Lsda)) (sym c.table_at.ensures) (one_error c.args.self.now c.args.function.now.start_address)

pub returns-then-has_lsda-clause-finds : goal.returns-then-has_lsda-clause-finds
returns-then-has_lsda-clause-finds c are bit = c.table_at.ensures ∙ finds_listed c.args.self.now c.args.function.now.start_address are

use Rattle.std.proofs.Common.{◌≡◌, List, map, Option, sym, ap, subst, ◌∙◌, inl}
use Rattle.unwind_definitions.specs.Function.{Function}
use Rattle.fde_finders.specs.NamedTables.{named_of}
use Rattle.table_check.specs.declared.reason.Reason.{Reason}
use Rattle.table_check.specs.declared.reason.Reason.TheVariants.{Header}
use Rattle.table_check.specs.declared.verdict.Verdict.TheVariants.{No}
use Rattle.table_check.specs.ClaimViews.{function_of}
use Rattle.table_check.specs.Findings.{IsAnswer}
use Rattle.table_check.specs.Modules.{tables_of}
use Rattle.table_check.specs.Reasons.{AreFunctionsIn}
use Rattle.table_check.specs.Verdicts.{IsVerdict}
use Rattle.table_check.proofs.Answering.{refuses_claims, verdict_no, verdict_yes}
use Rattle.table_check.proofs.Once.{verdict_once}
use Rattle.table_check.proofs.verdict.check.Goals.{in-None, in-Some-refusal_of_table}
use Rattle.table_check.proofs.verdict.check.Goals as goal

pub returns-in-Some-clause-verdict : goal.returns-in-Some-clause-verdict
returns-in-Some-clause-verdict c = inl (refuses_claims c.args.image.now c.args.start c.args.end c.args.frame c.args.claims.now c.in-Some.reason c.in-Some.ensures)

pub returns-clause-verdict : goal.returns-clause-verdict
returns-clause-verdict c =
    let image = c.args.image.now in
    let functions = c.args.claims.now in
    let claims : AreFunctionsIn c.args.start c.args.end functions = c.in_default.ensures in
    let t = named_of c.in-Some-named_table.table in
    let named = sym c.in-Some-named_table.ensures in
    let same : map function_of c.deref_mut.result.now ≡ functions = ap (map function_of) c.deref_mut.ensures.value ∙ c.claims.view_is in
    let said = subst (λ (fs : List Function). IsAnswer image t (tables_of c.args.frame.kind) fs c.refusal_of_table.result) same (c.refusal_of_table.ensures.reason c.args.frame.text_base named) in
    elim c.match-refusal_of_table.branch [
      | in-Some-refusal_of_table w ↦ (
          let no = subst (λ (o : Option Reason). IsAnswer image t (tables_of c.args.frame.kind) functions o) w.in-Some-refusal_of_table.is said in
          subst (IsVerdict image c.args.start c.args.end c.args.frame functions) (sym w.result-is) (verdict_no image c.args.start c.args.end c.args.frame functions claims t named w.in-Some-refusal_of_table.reason no)
          )
      | in-None w ↦ (
          let yes = subst (λ (o : Option Reason). IsAnswer image t (tables_of c.args.frame.kind) functions o) w.in-None.is said in
          subst (IsVerdict image c.args.start c.args.end c.args.frame functions) (sym w.result-is) (verdict_yes image c.args.start c.args.end c.args.frame functions claims t named yes)
          )
    ]

pub returns-in-Some-clause-only : goal.returns-in-Some-clause-only
returns-in-Some-clause-only c other is = verdict_once c.args.image.now c.args.start c.args.end c.args.frame c.args.claims.now (No c.in-Some.reason) other (returns-in-Some-clause-verdict c) is

pub returns-clause-only : goal.returns-clause-only
returns-clause-only c other is = verdict_once c.args.image.now c.args.start c.args.end c.args.frame c.args.claims.now c.match-refusal_of_table.result other (returns-clause-verdict c) is

pub returns-in_default-named_table-clause-only : goal.returns-in_default-named_table-clause-only
returns-in_default-named_table-clause-only c other is = verdict_once c.args.image.now c.args.start c.args.end c.args.frame c.args.claims.now (No Header) other (inl (c.in_default.ensures, sym c.in_default-named_table.ensures)) is

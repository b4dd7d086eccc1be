use Rattle.std.proofs.Common.{◌≡◌, ℕ, map, List, ◌∷◌, sym, ap, subst, ◌∙◌}
use Rattle.std.specs.Prelude.{◌||◌, is_some}
use Rattle.std.specs.List.{AllByRecursion}
use Rattle.unwind_definitions.specs.Columns as column
use Rattle.unwind_definitions.specs.Instructions.{Rule}
use Rattle.unwind_definitions.specs.State.{column_of}
use Rattle.frame_rows.specs.Left.{registers_left}
use Rattle.frame_rows.specs.Rules.{entry_of, rule_in}
use Rattle.table_check.specs.FrameRules.{FitsRule, has_rule, return_rule}
use Rattle.table_check.proofs.RowRules.{has_more}
use Rattle.table_check.proofs.frame_rules.RuledRegisters.read.Goals as goal

pub loop-entry-preserved : goal.loop-entry-preserved
loop-entry-preserved c =
    let e : ℕ × Rule = entry_of c.in-Some.entry in
    let es : List (ℕ × Rule) = map entry_of (registers_left c.next.new.self) in
    let left : map entry_of (registers_left c.loop-entry.entry-iterator) ≡ e ∷ es = ap (map entry_of) c.in-Some.ensures.steps in
    let before = c.loop-entry.self in
    let known = c.loop-entry.invariant in
    let Fits = FitsRule c.args.frame.now (return_rule c.args.expected) in
    let fits : Fits e = c.take.ensures.fits.0 c.if-not-take.false in (
      λ rest. known.0 (subst (AllByRecursion Fits) (sym left) (fits, rest)),
      λ all. (subst (AllByRecursion Fits) left (known.1 all)).1,
      λ r. ap (λ h. h || is_some (rule_in es (column_of r))) (c.take.ensures.saved c.if-not-take.false r) ∙ has_more e es (has_rule r before) (column_of r)
          ∙ ap (λ l. has_rule r before || is_some (rule_in l (column_of r))) (sym left) ∙ known.2 r,
      ap (λ h. h || is_some (rule_in es column.ra)) (c.take.ensures.ret c.if-not-take.false) ∙ has_more e es before.return_address column.ra
          ∙ ap (λ l. before.return_address || is_some (rule_in l column.ra)) (sym left) ∙ known.3,
    )

use Rattle.std.proofs.Common.{◌≡◌, ◌+◌, ◌++◌, ◌∷◌, [], List, Option, Some, None, take, sym, ap, subst, ◌∙◌, arith}
use Rattle.std.proofs.lemmas.List.{take_all, take_more}
use Rattle.stack_steps.specs.declared.prepared.Left.{Left}
use Rattle.stack_steps.specs.declared.prepared.PreparedTable.{PreparedTable}
use Rattle.stack_steps.specs.declared.space.AddedModule.{AddedModule}
use Rattle.stack_steps.specs.AddedModule.{AreMade, LeavesBy, Leaves}
use Rattle.stack_steps.proofs.Making.{made_push}
use Rattle.stack_steps.proofs.prepared.tables_for.Goals as goal
use Rattle.stack_steps.proofs.prepared.tables_for.Goals.{in-Some, in_default}

leaves_some : (left next left' : Left) (o : Option PreparedTable) (t : PreparedTable) → o ≡ Some t → next ≡ left' → LeavesBy left t.index left' → Leaves left o next
leaves_some left next left' o t is at by = subst (λ (p : Option PreparedTable). Leaves left p next) (sym is) (subst (LeavesBy left t.index) (sym at) by)

leaves_none : (left next : Left) (o : Option PreparedTable) → o ≡ None → next ≡ left → Leaves left o next
leaves_none left next o is at = subst (λ (p : Option PreparedTable). Leaves left p next) (sym is) at

pub loop-added_module-preserved : goal.loop-added_module-preserved
loop-added_module-preserved c =
    let xs = c.args.added.now in
    let k = c.loop-added_module.added_module-index in
    let added_module = c.added_module-item.result in
    let o = c.in_ok-table.table in
    let leaves : Leaves c.loop-added_module.left o c.match-table.left = elim c.match-table.branch [
      | in-Some w ↦ leaves_some c.loop-added_module.left c.match-table.left w.after-left.result o w.in-Some.shared w.in-Some.is w.left-is (subst (λ (t : PreparedTable). LeavesBy c.loop-added_module.left t.index w.after-left.result) w.table.ensures w.after-left.ensures)
      | in_default w ↦ leaves_none c.loop-added_module.left c.match-table.left o w.in_default.is w.left-is
    ] in
    let more = made_push c.args.image.now c.args.most c.loop-added_module.left c.match-table.left (take k xs) c.loop-added_module.made.items added_module o c.loop-added_module.invariant.0 c.in_ok-table.ensures.made leaves in
    let items = c.in_ok-push.ensures.items in
    let front : take k xs ++ added_module ∷ [] ≡ take (k + 1) xs = ap (λ (h : AddedModule). take k xs ++ h ∷ []) c.added_module-item.is ∙ sym (take_more xs k added_module (omega arith)) in (
      subst (λ (l : List (Option PreparedTable)). AreMade c.args.image.now c.args.most (take (k + 1) xs) l c.match-table.left) (sym items)
          (subst (λ (l : List AddedModule). AreMade c.args.image.now c.args.most l (c.loop-added_module.made.items ++ o ∷ []) c.match-table.left) front more),
      c.in_ok-table.ensures.tried c.match-table.left leaves,
    )

pub returns : goal.returns
returns c =
    let xs = c.args.added.now in
    let k = c.loop-added_module.added_module-index in
    let all : take k xs ≡ xs = take_all k xs (omega arith) in
    subst (λ (l : List AddedModule). AreMade c.args.image.now c.args.most l c.loop-added_module.made.items c.loop-added_module.left) all c.loop-added_module.invariant.0

use Rattle.std.proofs.Common.{sym, subst}
use Rattle.unwind_definitions.specs.Instructions.{Coding}
use Rattle.frame_rows.specs.Walks.{IsWalking}
use Rattle.eh_frame.proofs.fde.Fde.go_on.Goals as goal

pub returns : goal.returns
returns c from end due walking is =
    let said = c.coding.ensures in
    subst (λ (k : Coding). IsWalking c.go_on.new.self k end due) said (c.go_on.ensures from end due (subst (λ (k : Coding). IsWalking c.args.walk.now k from due) (sym said) walking) is)

use Rattle.std.proofs.Common.{rules, ◌≡◌, List, Ok, Err, ap, ◌∙◌}
use Rattle.std.specs.Option.{option_map}
use Rattle.pe_unwind_info.specs.EpilogList.{is_due, leading_epilogs, after_epilogs}
use Rattle.pe_unwind_info.specs.Frame.{epilog_of}
use Rattle.pe_unwind_info.specs.Header.{frame_register_of}
use Rattle.pe_unwind_info.specs.Info.{info_of}
use Rattle.pe_unwind_info.specs.InfoOperations.{operations_in}
use Rattle.pe_unwind_info.specs.Operations.{Placed, operations_left}
use Rattle.pe_unwind_info.proofs.x86_64.frame.unwind_record.Goals as goal

pub returns-in_err-epilog-clause-registers : goal.returns-in_err-epilog-clause-registers
returns-in_err-epilog-clause-registers g c =
    let operations = c.unwind_operations.ensures.operations in
    let due : c.after_epilogs-due.result.0 ≡ is_due c.args.function.now.end_address c.args.address (leading_epilogs (operations_in (info_of c.args.info.now))) =
    c.after_epilogs-due.ensures.due ∙ ap (λ (ops : List Placed). is_due c.args.function.now.end_address c.args.address (leading_epilogs ops)) operations in
    (Err c.in_err-epilog.field-0.0, rw (due, c.frame_register.ensures) at c.in_err-epilog.ensures.tested, search rules)

pub returns-clause-registers : goal.returns-clause-registers
returns-clause-registers g c =
    let operations = c.unwind_operations.ensures.operations in
    let due : c.after_epilogs-due.result.0 ≡ is_due c.args.function.now.end_address c.args.address (leading_epilogs (operations_in (info_of c.args.info.now))) =
    c.after_epilogs-due.ensures.due ∙ ap (λ (ops : List Placed). is_due c.args.function.now.end_address c.args.address (leading_epilogs ops)) operations in
    let rest : operations_left c.after_epilogs-due.result.1 ≡ after_epilogs (operations_in (info_of c.args.info.now)) =
    c.after_epilogs-due.ensures.rest ∙ ap after_epilogs operations in
    (Ok (epilog_of (frame_register_of (info_of c.args.info.now).header) (option_map (λ bytes. bytes.now) c.in_ok-epilog.epilog)), rw (due, c.frame_register.ensures) at c.in_ok-epilog.ensures.tested, rw rest at c.leave.ensures.registers)

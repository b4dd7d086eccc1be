use Rattle.unwind_cli.proofs.Answering.{audited_given, unaudited_given}
use Rattle.unwind_cli.proofs.checking.audited_answer.Goals as goal

pub returns-in-Ok : goal.returns-in-Ok
returns-in-Ok c =
    let d = c.differences_answer.ensures in
    audited_given c.deref.result.now c.args.bytes.items c.deref.ensures.value c.differences_answer.result.status c.differences_answer.result.text c.read_code-code.result c.in-Ok.code c.in-Ok.is c.read_code-code.ensures d.0 d.1 d.2

pub returns-in-Err : goal.returns-in-Err
returns-in-Err c =
    unaudited_given c.deref.result.now c.args.bytes.items c.deref.ensures.value c.claims_fault_answer.result.status c.claims_fault_answer.result.text c.read_code-code.result c.in-Err.error c.in-Err.is c.read_code-code.ensures c.claims_fault_answer.ensures

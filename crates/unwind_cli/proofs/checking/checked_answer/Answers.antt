use Rattle.unwind_cli.proofs.Answering.{checked_given, unchecked_given}
use Rattle.unwind_cli.proofs.checking.checked_answer.Goals as goal

pub returns-in-Ok : goal.returns-in-Ok
returns-in-Ok c =
    let v = c.verdict_answer.ensures in
    checked_given c.deref.result.now c.args.bytes.items c.deref.ensures.value c.verdict_answer.result.status c.verdict_answer.result.text c.read_claims-claimed.result c.in-Ok.claimed c.in-Ok.is c.read_claims-claimed.ensures.reads v.0 v.1 v.2

pub returns-in-Err : goal.returns-in-Err
returns-in-Err c =
    unchecked_given c.deref.result.now c.args.bytes.items c.deref.ensures.value c.fault_answer.result.status c.fault_answer.result.text c.read_claims-claimed.result c.in-Err.error c.in-Err.is c.read_claims-claimed.ensures.reads c.fault_answer.ensures

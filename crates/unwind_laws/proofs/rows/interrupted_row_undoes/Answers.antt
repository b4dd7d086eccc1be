use Rattle.unwind_laws.proofs.InPrologue.{stopped_row}
use Rattle.unwind_laws.proofs.rows.interrupted_row_undoes.Goals as goal

pub returns : goal.returns
returns c bases evaluates image f fde done later t s columns is inner d st words shows =
    let r = stopped_row bases evaluates image f fde done later t s columns is inner d st words shows in (r.0, r.1, r.2.0)

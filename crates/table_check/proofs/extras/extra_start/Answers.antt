use Rattle.std.proofs.Common.{ap, sym}
use Rattle.eh_frame.specs.EntryViews.{entry_of, fde_of}
use Rattle.table_check.proofs.Deciding.{decides_not}
use Rattle.table_check.proofs.extras.extra_start.Goals as goal

pub returns-else-may_stand : goal.returns-else-may_stand
returns-else-may_stand c before end count read ends = (
  fde_of c.in-Fde.fde,
  ap entry_of c.in-Fde.is,
  sym c.initial_address.ensures,
  decides_not c.may_stand.result (c.may_stand.ensures before end count read ends) c.if-may_stand.false,
)

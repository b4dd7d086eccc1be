use Rattle.std.proofs.Common.{lit<, lit≤}
use Rattle.unwind_laws.proofs.PushingValid.{one_valid}
use Rattle.table_check.proofs.verdict.one_push_is_described.Goals as goal

pub returns : goal.returns
returns c = record {
  functions_in = record { each = one_valid.are_functions; ranges = (lit≤ tt, lit< tt, lit≤ tt, tt) };
  described = one_valid.modules.0;
}

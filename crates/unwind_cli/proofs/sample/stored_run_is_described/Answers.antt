use Rattle.std.proofs.Common.{◌≡◌, [], ◌∷◌, Some, refl, arith}
use Rattle.std.specs.Fmt.{digits}
use Rattle.unwind_definitions.specs.State.{column_of, value_of, Shows}
use Rattle.unwind_laws.specs.Pushing.{function, start, calls}
use Rattle.unwind_laws.proofs.PushingValid.{one_valid}
use Rattle.unwind_laws.proofs.RowFacts.{by_register}
use Rattle.unwind_arch.specs.ContextViews.{columns_of}
use Rattle.stack_report.specs.Digits.{hexadecimal}
use Rattle.unwind_cli.specs.Sample.{snapshot}
use Rattle.stack_report.specs.Report.{state_fields, state_line}
use Rattle.unwind_cli.proofs.Samples.{described}
use Rattle.unwind_cli.proofs.sample.stored_run_is_described.Goals as goal

shown : Shows (columns_of snapshot.start) start
shown = record { ra = refl; sp = refl; saved = λ r. by_register (λ r. columns_of snapshot.start (column_of r) ≡ Some (value_of r start)) refl refl refl refl refl refl r }

pub returns-clause-described : goal.returns-clause-described
returns-clause-described c = described snapshot (function ∷ []) start calls _ one_valid (tt, tt) shown (omega arith)

pub returns-clause-written : goal.returns-clause-written
unfolding digits hexadecimal state_fields state_line
returns-clause-written c = refl

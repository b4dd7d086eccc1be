use Rattle.std.proofs.Common.{refl, lit<, lit≤}
use Rattle.unwind_laws.specs.Three as three
use Rattle.format_laws.specs.Sample as mixed
use Rattle.format_laws.proofs.Valid.{laid_out}
use Rattle.stack_steps.specs.FormatStopSample.{space_of_three}
use Rattle.delivery_laws.specs.StateRegisters.{registers_of}
use Rattle.delivery_laws.proofs.Starts.{valid_starts}
use Rattle.stack_deliver.proofs.DescribedDeliveries.{delivery_starts}
use Rattle.fact_deliveries.proofs.landings.landings_through_formats_are_known.Goals as goal

pub returns-clause-starts : goal.returns-clause-starts
returns-clause-starts c = delivery_starts space_of_three (registers_of mixed.caught_start) three.resumes 5 mixed.functions mixed.caught_start mixed.caught_calls (lit≤ tt, lit< tt, (lit≤ tt, lit< tt, (lit≤ tt, lit< tt, lit< tt))) laid_out valid_starts

pub returns-clause-delivered : goal.returns-clause-delivered
returns-clause-delivered c = refl

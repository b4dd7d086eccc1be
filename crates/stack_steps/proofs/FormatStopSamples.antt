-- A call in a space with modules of three formats is described.
use Rattle.std.proofs.Common.{refl, lit<, lit≤}
use Rattle.format_definitions.specs.Calls.{IsDescribedCall}
use Rattle.format_laws.specs.Sample.{functions, caught_start, caught_frameless}
use Rattle.format_laws.proofs.Caught.{frameless_entered, room_fits}
use Rattle.format_laws.proofs.Valid.{frameless_lies}
use Rattle.stack_steps.specs.FormatStopSample.{space_of_three}
use Rattle.stack_steps.specs.Modules.{AreApart}
use Rattle.stack_steps.specs.SpaceViews.{formats_of}

pub apart : AreApart 0 space_of_three.modules
apart = (lit≤ tt, lit< tt, (lit≤ tt, lit< tt, (lit≤ tt, lit< tt, lit< tt)))

pub called : IsDescribedCall space_of_three.image (formats_of space_of_three) functions caught_start caught_frameless
called = record {
  listed = (2, lit< tt, refl);
  lies = frameless_lies;
  called = record { returns = λ e. absurd cc; inside = refl; entered = frameless_entered };
  caller = room_fits;
  ends = λ outer. absurd cc;
}

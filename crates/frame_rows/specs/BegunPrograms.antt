-- What the last two programs of common information entries ended with.
use Rattle.std.specs.Prelude.{if◌then◌else◌}
use Rattle.frame_rows.specs.declared.begun.BegunProgram.{BegunProgram}
use Rattle.frame_rows.specs.declared.begun.BegunPrograms.{BegunPrograms as Programs}

abbrev pub last : Programs → BegunProgram
last programs = if programs.is_swapped then programs.second else programs.first

abbrev pub before_last : Programs → BegunProgram
before_last programs = if programs.is_swapped then programs.first else programs.second

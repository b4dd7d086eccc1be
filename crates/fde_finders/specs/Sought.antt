-- Which program header is looked for. No public clause cites this.
use Rattle.std.specs.Prelude.{Bool}
use Rattle.fde_finders.specs.declared.phdr.Phdr.{Phdr}
use Rattle.fde_finders.specs.declared.phdr.Sought.{Sought}
use Rattle.fde_finders.specs.declared.phdr.Sought.TheVariants.{OfType, Text}
use Rattle.fde_finders.specs.ProgramHeaders.{is_of_type, is_text}

abbrev pub is_sought : Sought → Phdr → Bool
is_sought (OfType kind) h = is_of_type kind h
is_sought (Text base pc) h = is_text base pc h

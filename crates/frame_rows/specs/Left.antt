-- What an iterator over a row's registers has left.
use Rattle.std.specs.Prelude.{List, drop}
use Rattle.unwind_arch.specs.declared.register.Register.{Register as Column}
use Rattle.frame_rows.specs.declared.rule.RegisterRule.{RegisterRule}
use Rattle.frame_rows.specs.declared.row.Registers.{Registers}

abbrev pub registers_left : Registers → List (Column × RegisterRule)
registers_left registers = drop registers.passed registers.entries.now

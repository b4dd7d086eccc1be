use Rattle.std.proofs.Common.{rules}
use Rattle.format_frames.proofs.PeRegisters.{register_written}
use Rattle.format_frames.proofs.machine.MachineUnwindState.write_register.Goals as goal

pub returns-clause-registers : goal.returns-clause-registers
returns-clause-registers c = register_written c.args.self.now.context c.args.register c.column.result c.args.value c.column.ensures.is (search rules)

use Rattle.macho_unwind_info.proofs.PermutationTable.{decoded_below, decoded_onto, past_all}
use Rattle.macho_unwind_info.proofs.opcodes.permutation.decode_permutation_6.Goals as goal

pub returns-clause-below : goal.returns-clause-below
returns-clause-below c low high lt = decoded_below c.args.count c.args.encoding c.decoded_registers.result c.decoded_registers.ensures.ok c.decoded_registers.ensures.refused.0 low high lt

pub returns-clause-onto : goal.returns-clause-onto
returns-clause-onto c registers low high long once number = decoded_onto c.args.count c.args.encoding c.decoded_registers.result c.decoded_registers.ensures.ok c.decoded_registers.ensures.refused.0 registers low high long once number

pub returns-clause-past : goal.returns-clause-past
returns-clause-past c low high le = c.decoded_registers.ensures.refused.1 (past_all c.args.count c.args.encoding low high le)

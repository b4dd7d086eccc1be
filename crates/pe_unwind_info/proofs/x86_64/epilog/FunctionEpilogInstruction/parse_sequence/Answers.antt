use Rattle.std.proofs.Common.{sym, subst}
use Rattle.pe_unwind_info.specs.Epilog.{Sequence}
use Rattle.pe_unwind_info.specs.EpilogGrammar.{IsSequence}
use Rattle.pe_unwind_info.proofs.EpilogSequences.{sequence_is}
use Rattle.pe_unwind_info.proofs.x86_64.epilog.FunctionEpilogInstruction.parse_sequence.Goals as goal

pub returns-clause-grammar : goal.returns-clause-grammar
returns-clause-grammar c =
    let P : Sequence → Type 0 = IsSequence c.args.frame_register c.args.ip.now in
    subst P (sym c.parse_instructions.ensures) (sequence_is c.args.frame_register c.args.ip.now)

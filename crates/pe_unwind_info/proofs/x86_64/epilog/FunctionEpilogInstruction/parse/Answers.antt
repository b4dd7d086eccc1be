use Rattle.std.proofs.Common.{sym, subst}
use Rattle.pe_unwind_info.specs.Epilog.{Parsed}
use Rattle.pe_unwind_info.specs.EpilogGrammar.{IsParsed}
use Rattle.pe_unwind_info.proofs.EpilogSpelled.{parsed_is}
use Rattle.pe_unwind_info.proofs.x86_64.epilog.FunctionEpilogInstruction.parse.Goals as goal

pub returns-clause-grammar : goal.returns-clause-grammar
returns-clause-grammar c =
    let P : Parsed → Type 0 = IsParsed c.args.fpreg c.args.allow_add_sp c.args.ip.now in
    subst P (sym c.parse_instruction.ensures) (parsed_is c.args.fpreg c.args.allow_add_sp c.args.ip.now)

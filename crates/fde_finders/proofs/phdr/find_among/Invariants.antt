use Rattle.fde_finders.specs.ProgramHeaders.{FindsInObject}
use Rattle.fde_finders.proofs.InTurn.{Asked}
use Rattle.fde_finders.proofs.phdr.find_among.Given as goal

abbrev pub invariant-loop-object : goal.invariant-loop-object
invariant-loop-object g l = Asked (FindsInObject l.image l.pc) l.objects l.object-index l.fn.steps.number l.steps.number

use Rattle.std.proofs.Common.{◌≡◌, drop}
use Rattle.fde_finders.specs.ProgramHeaders.{plt_got}
use Rattle.fde_finders.proofs.phdr.plt_got.Given as goal

abbrev pub invariant-loop-i : goal.invariant-loop-i
invariant-loop-i l = plt_got l.entries ≡ plt_got (drop l.i l.entries)

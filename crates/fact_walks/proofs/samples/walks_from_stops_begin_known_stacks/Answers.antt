use Rattle.fact_walks.proofs.SampleStarts.{laid_out, lie_apart, prologue_starts, epilogue_starts, part_starts, outside_starts}
use Rattle.fact_walks.proofs.samples.walks_from_stops_begin_known_stacks.Goals as goal

pub returns-clause-laid_out : goal.returns-clause-laid_out
returns-clause-laid_out c = laid_out

pub returns-clause-apart : goal.returns-clause-apart
returns-clause-apart c = lie_apart

pub returns-clause-elf : goal.returns-clause-elf
returns-clause-elf c = (tt, tt)

pub returns-clause-prologue : goal.returns-clause-prologue
returns-clause-prologue c = prologue_starts

pub returns-clause-epilogue : goal.returns-clause-epilogue
returns-clause-epilogue c = epilogue_starts

pub returns-clause-part : goal.returns-clause-part
returns-clause-part c = part_starts

pub returns-clause-alone : goal.returns-clause-alone
returns-clause-alone c = outside_starts

use Rattle.std.proofs.Common.{refl}
use Rattle.core_file.proofs.ThreadLemmas.{threads_none}
use Rattle.core_file.proofs.threads.Threads.over.Goals as goal

pub returns : goal.returns
returns c = rw (c.over-notes.ensures, threads_none) refl

use Rattle.named_walks.proofs.Marks.{without_marks}
use Rattle.named_walks.proofs.Texts.{head_is, threads_are}
use Rattle.named_walks.proofs.laws.lines_without_names.Goals as goal

pub returns : goal.returns
returns c = record { states = without_marks; head = head_is; threads = threads_are }

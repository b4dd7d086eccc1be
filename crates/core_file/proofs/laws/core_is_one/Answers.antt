use Rattle.std.proofs.Common.{◌∙◌, sym}
use Rattle.core_file.proofs.CoreLemmas.{core-read, same_core}
use Rattle.core_file.proofs.laws.core_is_one.Goals as goal

pub returns : goal.returns
returns c = λ bytes value other is again. same_core value other (sym (core-read bytes value is) ∙ core-read bytes other again)

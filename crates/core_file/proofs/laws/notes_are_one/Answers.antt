use Rattle.std.proofs.Common.{◌∙◌, sym}
use Rattle.core_file.proofs.GrammarLemmas.{spelled-whole}
use Rattle.core_file.proofs.laws.notes_are_one.Goals as goal

pub returns : goal.returns
returns c = λ bytes notes others spelled again. sym (spelled-whole notes bytes spelled).notes ∙ (spelled-whole others bytes again).notes

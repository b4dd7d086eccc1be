use Rattle.std.proofs.Common.{ℕ, List, ◌∙◌, ap}
use Rattle.mapped_names.specs.Reading.{table_by_front}
use Rattle.mapped_names.proofs.Lists.{front_tells}
use Rattle.mapped_names.proofs.reading.read_file.Goals as goal

pub returns-clause-told : goal.returns-clause-told
returns-clause-told g c = λ all tells.
    let front = c.in_ok-front.ensures.told all tells in
    let file : List ℕ = all c.args.path.now in
    record {
      front = front;
      symbols = c.in_ok-symbols.ensures.told all tells ∙ ap (λ (bytes : List ℕ). table_by_front file bytes) (c.deref.ensures.value ∙ front) ∙ front_tells file;
    }

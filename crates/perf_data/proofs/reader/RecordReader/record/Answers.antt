use Rattle.std.proofs.Common.{◌∙◌, refl}
use Rattle.std.proofs.lemmas.List.{take_rest}
use Rattle.perf_data.specs.Streams.{held}
use Rattle.perf_data.proofs.StreamLemmas.{record_within}
use Rattle.perf_data.proofs.reader.RecordReader.record.Goals as goal

pub returns-clause-value : goal.returns-clause-value
returns-clause-value c = λ more.
    c.first_record.ensures.value
    ∙ record_within c.args.self.now.layout c.args.self.now.offset c.args.self.now.size (held c.args.self.now) more _ (rw (c.min-wanted.ensures, take_rest, c.deref.ensures.value) refl) c.requires.enough c.first_record.ensures.word

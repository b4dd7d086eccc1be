use Rattle.perf_data.proofs.StreamLemmas.{on_again}
use Rattle.profile.proofs.running.source_answer.Goals as goal

pub returns-in-Ok-clause-on : goal.returns-in-Ok-clause-on
returns-in-Ok-clause-on g c = on_again _ _ _ _ _ _ c.open_file.ensures.on c.file_answer.ensures.on

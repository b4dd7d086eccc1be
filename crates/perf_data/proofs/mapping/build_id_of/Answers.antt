use Rattle.std.proofs.Common.{refl}
use Rattle.std.proofs.lemmas.List.{take_rest}
use Rattle.perf_data.proofs.mapping.build_id_of.Goals as goal

pub returns : goal.returns
returns c = rw (take_rest, c.min-size.ensures, c.from.ensures) refl

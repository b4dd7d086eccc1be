use Rattle.std.proofs.Common.{ap}
use Rattle.mapped_names.specs.Places.{NamingValue}
use Rattle.core_stacks.proofs.Ready.{lines_over_same}
use Rattle.core_stacks.specs.Due.{most_states}
use Rattle.core_stacks.proofs.running.named_walks_over.Goals as goal

pub returns-clause-told : goal.returns-clause-told
returns-clause-told g c = λ all tells.
    let files = ap (λ (v : NamingValue _). v.files) c.in_ok-names.ensures in
    let parts = ap (λ (v : NamingValue _). v.parts) c.in_ok-names.ensures in
    lines_over_same all _ _ _ _ most_states _ _ c.named_walks_of_threads.result parts c.in_ok-space.ensures c.threads.ensures (c.named_walks_of_threads.ensures.told all (rw files tells))

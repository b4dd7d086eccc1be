use Rattle.std.proofs.Common.{◌∙◌}
use Rattle.core_file.proofs.FrontLemmas.{size_by_headers, size_by_all}
use Rattle.core_file.proofs.front.front_size.Goals as goal

pub returns-clause-headers : goal.returns-clause-headers
returns-clause-headers c = λ file core size.
    let s = size_by_headers c.args.bytes.now file core size in
    (s.0, c.size_in.ensures ∙ s.1, s.2, s.3)

pub returns-clause-whole : goal.returns-clause-whole
returns-clause-whole c = λ file core size headers.
    let s = size_by_all c.args.bytes.now file core size headers in
    (c.size_in.ensures ∙ s.0, s.1)

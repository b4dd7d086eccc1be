use Rattle.std.proofs.Common.{◌≡◌, ◌∙◌, sym, ap, arith}
use Rattle.std.specs.Prelude.{Some}
use Rattle.core_file.specs.Fronts.{front_size, headers_end}
use Rattle.core_stacks.proofs.Fronts.{asked_is, asks_headers}
use Rattle.core_stacks.proofs.parts.front_after.Goals as goal

pub returns-then-size-gt-MOST_FRONT-clause-headers : goal.returns-then-size-gt-MOST_FRONT-clause-headers
returns-then-size-gt-MOST_FRONT-clause-headers g c = λ all tells begins has there.
    let whole = all c.args.path.now in
    let begin = c.args.begin.items in
    let size = c.in-Some.size in
    let is : front_size begin ≡ Some size = ap front_size (sym c.deref.ensures.value) ∙ sym c.front_size.ensures.exact ∙ c.in-Some.is in
    let asked = asked_is begin whole (headers_end whole) size (asks_headers begin whole begins has there) is in
    let short = asked.short in
    let large = c.if-size-gt-MOST_FRONT.true in
    omega arith

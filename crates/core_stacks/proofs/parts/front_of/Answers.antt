use Rattle.std.proofs.Common.{◌≡◌, length, take, drop}
use Rattle.std.specs.Prelude.{IsSomeAnd, None, Some}
use Rattle.core_stacks.specs.PartLines.{HasHeaders}
use Rattle.core_stacks.proofs.Fronts.{begin_there}
use Rattle.core_stacks.proofs.PartLines.{begins}
use Rattle.core_stacks.proofs.parts.front_of.Goals as goal

pub returns-in-Some-clause-told : goal.returns-in-Some-clause-told
returns-in-Some-clause-told g c = λ all tells.
    let whole = all c.args.path.now in
    let begin = c.in_ok-begin.begin.items in
    let part : begin ≡ take 4096 (drop 0 whole) = rw (tells c.args.path.now) at c.in_ok-begin.ensures.part in
    let first = c.in_ok-headers.ensures.told all tells (begins 4096 whole begin part) in
    let headers = c.in-Some.headers.items in
    let next : take (length headers) whole ≡ headers = rw c.in-Some.is at first in
    c.front_after-in-Some.ensures.told all tells next

pub returns-in-Some-clause-whole : goal.returns-in-Some-clause-whole
returns-in-Some-clause-whole g c = λ all tells has.
    let whole = all c.args.path.now in
    let begin = c.in_ok-begin.begin.items in
    let part : begin ≡ take 4096 (drop 0 whole) = rw (tells c.args.path.now) at c.in_ok-begin.ensures.part in
    let first = begins 4096 whole begin part in
    let headers = c.in-Some.headers.items in
    let next : take (length headers) whole ≡ headers = rw c.in-Some.is at (c.in_ok-headers.ensures.told all tells first) in
    let there : HasHeaders headers whole = rw c.in-Some.is at (c.in_ok-headers.ensures.headers all tells first has (begin_there whole begin has part)) in
    c.front_after-in-Some.ensures.whole all tells next has there

pub returns-in-None-clause-whole : goal.returns-in-None-clause-whole
returns-in-None-clause-whole g c = λ all tells has.
    let whole = all c.args.path.now in
    let begin = c.in_ok-begin.begin.items in
    let part : begin ≡ take 4096 (drop 0 whole) = rw (tells c.args.path.now) at c.in_ok-begin.ensures.part in
    rw c.in-None.is at (c.in_ok-headers.ensures.headers all tells (begins 4096 whole begin part) has (begin_there whole begin has part))

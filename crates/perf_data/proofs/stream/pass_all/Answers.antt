use Rattle.std.proofs.Common.{◌++◌, take, arith, length-append, rules}
use Rattle.std.proofs.KnownBytes.{Consumes-trans}
use Rattle.perf_data.proofs.stream.pass_all.Goals as goal

pub loop-passed-preserved : goal.loop-passed-preserved
loop-passed-preserved g c =
    let was = c.loop-passed.invariant.taken in
    let part = take c.in_ok-count.count c.read.new.into in
    let long = length-append was.0 part in
    let count = c.in_ok-count.ensures.bound.1 in
    let before = was.2 in
    let sum = c.saturating_add-passed.ensures in
    let cause = c.in_ok-count.ensures.cause.later in
    let first = c.loop-passed.invariant.later in
    record {
      taken = (was.0 ++ part, Consumes-trans _ _ _ _ _ was.1 c.in_ok-count.ensures.bytes.0, omega arith);
      later = omega arith;
      piece = search rules;
    }

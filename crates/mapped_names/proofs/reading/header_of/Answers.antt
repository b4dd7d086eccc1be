use Rattle.std.proofs.Common.{sym, arith}
use Rattle.std.proofs.lemmas.List.{length-take-le, take_all}
use Rattle.mapped_names.proofs.reading.header_of.Goals as goal

pub returns-then-front-le-HEADER_SIZE : goal.returns-then-front-le-HEADER_SIZE
returns-then-front-le-HEADER_SIZE c = sym (take_all 64 c.args.front.now (omega arith))

pub slice_bounds-result-end : goal.slice_bounds-result-end
slice_bounds-result-end c = sym (length-take-le 64 c.args.front.now (omega arith))

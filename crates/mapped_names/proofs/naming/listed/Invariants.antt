use Rattle.std.proofs.Common.{◌≡◌, ◌++◌, length, map}
use Rattle.core_file.specs.MappedViews.{part_of, parts_left}
use Rattle.mapped_names.proofs.naming.listed.Given as goal

abbrev pub invariant-loop-part : goal.invariant-loop-part
invariant-loop-part l = map part_of l.list.items ++ parts_left l.parts ≡ parts_left l.fn.parts

abbrev pub decreases-loop-part : goal.decreases-loop-part
decreases-loop-part l = length (parts_left l.parts)

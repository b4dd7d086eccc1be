use Rattle.memory_image.specs.Regions.{span_of}
use Rattle.std.proofs.lemmas.Iterator.Consumers.{nth_from_yields_List, YieldsList-from_first}
use Rattle.core_file.specs.Left.{segments_left}
use Rattle.core_file.proofs.file.CoreFile.segment.Goals as goal

pub returns : goal.returns
returns c = nth_from_yields_List c.nth.result c.nth.new.self c.args.i c.nth.ensures.ran (YieldsList-from_first span_of segments_left c.args.self.now.segments c.segments.ensures.left)

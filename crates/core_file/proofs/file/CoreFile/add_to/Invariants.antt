use Rattle.std.specs.Iterator.Adapters.{enumerate_source, enumerate_count}
use Rattle.core_file.specs.Left.{segments_left}
use Rattle.core_file.proofs.AddingLemmas.{Stands}
use Rattle.core_file.proofs.file.CoreFile.add_to.Given as goal

abbrev pub invariant-loop-i : goal.invariant-loop-i
invariant-loop-i l = record {
  can : (goal.iterator-loop-i).can_next l.i-iterator;
  finite : (goal.iterator-loop-i).is_finite l.i-iterator;
  stands : Stands l.fn.image l.fn.self.segments (enumerate_count l.i-iterator) (segments_left (enumerate_source l.i-iterator)) l.image;
}

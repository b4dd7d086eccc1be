use Rattle.std.proofs.Common.{◌+◌, ◌<◌, sym, subst}
use Rattle.std.specs.List.{Contains}
use Rattle.eh_frame.specs.HeaderViews.{pairs_of}
use Rattle.table_check.specs.declared.header_tables.ListedSoFar.{ListedSoFar}
use Rattle.table_check.specs.Pairs.{AreReadSoFar}
use Rattle.table_check.proofs.Listed.{listed_as_little, listed_next}
use Rattle.table_check.proofs.header_tables.ListedSoFar.take_pair.Goals as goal

pub returns-then-self : goal.returns-then-self
returns-then-self c frame fdes fde many pair was =
    let t = pairs_of c.args.pairs.now in
    let next = c.lists_next-self in
    let later : ListedSoFar = record { last_start = next.new.last_start; are_listed = next.result } in
    let read_so_far = subst (λ n. AreReadSoFar t n c.args.self.now.last_start) many (was.yes c.if-self.true).0 in
    listed_next t frame fdes c.args.self.now was fde later c.if-self.true
    (λ is. let has = next.ensures.yes is read_so_far in (
      subst (λ n. AreReadSoFar t (n + 1) later.last_start) (sym many) has.0,
      λ read r. subst (Contains read) (sym pair) (has.1 read r),
    ))
    (λ isnt within read r has. next.ensures.no isnt read_so_far (subst (λ n. n < t.count) many within) read r (subst (Contains read) pair has))

pub returns-else-self : goal.returns-else-self
returns-else-self c frame fdes fde many pair was = listed_as_little (pairs_of c.args.pairs.now) frame fdes c.args.self.now was fde c.if-self.false

use Rattle.std.proofs.Common.{rules}
use Rattle.kalzurenk_c.specs.Deliveries.{cleanup_of}
use Rattle.kalzurenk_c.proofs.FrameLemmas.{got, front_more, rest_more}
use Rattle.kalzurenk_c.proofs.delivery.put_cleanups.Goals as goal

pub loop-i-preserved : goal.loop-i-preserved
loop-i-preserved c = record {
  same = search rules;
  front = rw c.cleanup_of.ensures (front_more cleanup_of c.args.room.now.trail c.loop-i.cleanups c.loop-i.i c.unwrap-cleanup.result (search rules) (search rules) (search (rules, got)) c.loop-i.invariant.front);
  rest = rest_more c.loop-i.cleanups c.args.cleanups.now c.loop-i.i _ c.loop-i.invariant.rest;
}

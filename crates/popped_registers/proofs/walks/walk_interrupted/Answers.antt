use Rattle.stack_steps.specs.Growing.{over_image}
use Rattle.popped_registers.proofs.KeptLemmas.{cut_kept, uncut_kept, whole_walk}
use Rattle.popped_registers.proofs.walks.walk_interrupted.Goals as goal

pub returns-then-is_cut_at_start-clause-states : goal.returns-then-is_cut_at_start-clause-states
returns-then-is_cut_at_start-clause-states c =
    let space = over_image c.args.space.now c.args.image.now in
    let kept = cut_kept space c.args.limit c.args.start.now c.walk_over_made-why.result c.walk_over_made-why.new.room.visited c.is_cut_at_start.result c.walk_with_popped.new.room.visited c.walk_with_popped.result c.walk_over_made-why.ensures.states c.walk_over_made-why.ensures.why c.is_cut_at_start.ensures c.if-is_cut_at_start.true c.walk_with_popped.ensures.walk in
    kept.states

pub returns-then-is_cut_at_start-clause-why : goal.returns-then-is_cut_at_start-clause-why
returns-then-is_cut_at_start-clause-why c =
    let space = over_image c.args.space.now c.args.image.now in
    let kept = cut_kept space c.args.limit c.args.start.now c.walk_over_made-why.result c.walk_over_made-why.new.room.visited c.is_cut_at_start.result c.walk_with_popped.new.room.visited c.walk_with_popped.result c.walk_over_made-why.ensures.states c.walk_over_made-why.ensures.why c.is_cut_at_start.ensures c.if-is_cut_at_start.true c.walk_with_popped.ensures.walk in
    kept.why

pub returns-then-is_cut_at_start-clause-popped : goal.returns-then-is_cut_at_start-clause-popped
returns-then-is_cut_at_start-clause-popped c =
    let space = over_image c.args.space.now c.args.image.now in
    let kept = cut_kept space c.args.limit c.args.start.now c.walk_over_made-why.result c.walk_over_made-why.new.room.visited c.is_cut_at_start.result c.walk_with_popped.new.room.visited c.walk_with_popped.result c.walk_over_made-why.ensures.states c.walk_over_made-why.ensures.why c.is_cut_at_start.ensures c.if-is_cut_at_start.true c.walk_with_popped.ensures.walk in
    kept.marked

pub returns-then-is_cut_at_start-clause-whole : goal.returns-then-is_cut_at_start-clause-whole
returns-then-is_cut_at_start-clause-whole c =
    let space = over_image c.args.space.now c.args.image.now in
    let kept = cut_kept space c.args.limit c.args.start.now c.walk_over_made-why.result c.walk_over_made-why.new.room.visited c.is_cut_at_start.result c.walk_with_popped.new.room.visited c.walk_with_popped.result c.walk_over_made-why.ensures.states c.walk_over_made-why.ensures.why c.is_cut_at_start.ensures c.if-is_cut_at_start.true c.walk_with_popped.ensures.walk in
    whole_walk space c.args.limit c.args.start.now c.walk_with_popped.new.room.visited c.walk_with_popped.result kept

pub returns-else-is_cut_at_start-clause-states : goal.returns-else-is_cut_at_start-clause-states
returns-else-is_cut_at_start-clause-states c =
    let space = over_image c.args.space.now c.args.image.now in
    let kept = uncut_kept space c.args.limit c.args.start.now c.walk_over_made-why.result c.walk_over_made-why.new.room.visited c.is_cut_at_start.result c.walk_over_made-why.ensures.states c.walk_over_made-why.ensures.why c.is_cut_at_start.ensures c.if-is_cut_at_start.false in
    kept.states

pub returns-else-is_cut_at_start-clause-why : goal.returns-else-is_cut_at_start-clause-why
returns-else-is_cut_at_start-clause-why c =
    let space = over_image c.args.space.now c.args.image.now in
    let kept = uncut_kept space c.args.limit c.args.start.now c.walk_over_made-why.result c.walk_over_made-why.new.room.visited c.is_cut_at_start.result c.walk_over_made-why.ensures.states c.walk_over_made-why.ensures.why c.is_cut_at_start.ensures c.if-is_cut_at_start.false in
    kept.why

pub returns-else-is_cut_at_start-clause-popped : goal.returns-else-is_cut_at_start-clause-popped
returns-else-is_cut_at_start-clause-popped c =
    let space = over_image c.args.space.now c.args.image.now in
    let kept = uncut_kept space c.args.limit c.args.start.now c.walk_over_made-why.result c.walk_over_made-why.new.room.visited c.is_cut_at_start.result c.walk_over_made-why.ensures.states c.walk_over_made-why.ensures.why c.is_cut_at_start.ensures c.if-is_cut_at_start.false in
    kept.marked

pub returns-else-is_cut_at_start-clause-whole : goal.returns-else-is_cut_at_start-clause-whole
returns-else-is_cut_at_start-clause-whole c =
    let space = over_image c.args.space.now c.args.image.now in
    let kept = uncut_kept space c.args.limit c.args.start.now c.walk_over_made-why.result c.walk_over_made-why.new.room.visited c.is_cut_at_start.result c.walk_over_made-why.ensures.states c.walk_over_made-why.ensures.why c.is_cut_at_start.ensures c.if-is_cut_at_start.false in
    whole_walk space c.args.limit c.args.start.now c.walk_over_made-why.new.room.visited _ kept

use Rattle.std.proofs.Common.{◌≡◌, ◌-◌, ◌∷◌, [], ◌++◌, length, ap, ◌∙◌, rules}
use Rattle.folded_stacks.specs.Stacks.{stack_of}
use Rattle.folded_stacks.proofs.Kept.{walk_put}
use Rattle.folded_stacks.proofs.stacks.StackList.put_walk.Goals as goal

pub returns : goal.returns
returns c =
    let start : c.len-start.result ≡ length c.self.inside.addresses.items = search rules in
    let len : c.len.result - c.len-start.result ≡ length c.put_returns.new.addresses.items - length c.self.inside.addresses.items = search rules in
    let stack = stack_of c.args.room.now.visited in
    let put = c.in_ok-put_returns.ensures.put ∙ ap (λ a. a ++ stack) c.make_room.ensures in
    walk_put c.self.inside.addresses.items c.put_returns.new.addresses.items c.self.inside.places.items c.push.new.self.items _ stack c.self.invariant put c.in_ok-push.ensures.items start len
    ∙ ap (λ s. s ++ stack ∷ []) c.self.view_is

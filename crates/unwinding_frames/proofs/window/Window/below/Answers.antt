use Rattle.std.proofs.Common.{◌≡◌, ℕ, ◌+◌, ◌-◌, ◌%◌, ◌^◌, drop, take, refl, arith}
use Rattle.unwinding_frames.specs.Slots.{AreSlots}
use Rattle.unwinding_frames.proofs.Windows.{slots_there}
use Rattle.unwinding_frames.proofs.window.Window.below.Goals as goal

pub returns-then-size-self : goal.returns-then-size-self
returns-then-size-self c =
    let i = c.self.inside in
    let first : ℕ = ((c.args.address + (2 ^ 64 - c.args.size)) % 2 ^ 64 + (2 ^ 64 - i.start)) % 2 ^ 64 in
    let all : first + c.args.size - first ≡ c.args.size = omega arith in
    let slots : AreSlots i.image.now c.args.address c.args.size (take c.args.size (drop first i.bytes.now)) =
    slots_there i.image.now i.start i.bytes.now i.places c.self.invariant.0 c.args.address c.args.size first (omega arith) (omega arith) (omega arith) refl c.if-first-self.true c.if-size-self.true in
    rw (← c.self.view_is, all) slots

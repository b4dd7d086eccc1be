use Rattle.std.proofs.Common.{◌≡◌, ◌+◌, ◌-◌, ◌%◌, ◌^◌, ◌∙◌, Some, refl, sym, ap, arith}
use Rattle.memory_image.specs.Image.{word_at}
use Rattle.memory_image.specs.Words.{u64_at}
use Rattle.unwinding_frames.proofs.Windows.{word_there}
use Rattle.unwinding_frames.proofs.window.Window.read_u64.Goals as goal

pub returns-then-offset-self : goal.returns-then-offset-self
returns-then-offset-self c =
    let i = c.self.inside in
    let there : word_at i.image.now c.args.address ≡ Some (u64_at i.bytes.now ((c.args.address + (2 ^ 64 - i.start)) % 2 ^ 64)) =
    word_there i.image.now i.start i.bytes.now i.places c.self.invariant.0 c.args.address _ (omega arith) refl c.if-offset-self.true in
    rw (← c.self.view_is) (there ∙ ap Some (sym c.u64_at.ensures))

use Rattle.std.proofs.Common.{◌≡◌, ℕ, min, Some, ap, ◌∙◌, arith}
use Rattle.memory_image.specs.Image.{lower}
use Rattle.memory_image.proofs.OverLemmas.{overlaid, above-past, above-before}
use Rattle.memory_image.proofs.image.MemoryImage.+start_above.Goals as goal

pub returns-then-over-address : goal.returns-then-over-address
returns-then-over-address t c =
    let o = overlaid c.args.self.now c.self.inside.regions c.in-Over.over c.in-Over.is c.self.view_is c.self.invariant.1 in
    c.start_above-others.ensures ∙ above-past c.args.self.now c.in-Over.over c.args.address o (omega arith)

pub returns-in-Some : goal.returns-in-Some
returns-in-Some t c =
    let o = overlaid c.args.self.now c.self.inside.regions c.in-Over.over c.in-Over.is c.self.view_is c.self.invariant.1 in
    let least : min c.in-Some.start c.in-Over.over.start ≡ min c.in-Over.over.start c.in-Some.start = omega arith in
    ap (λ (b : ℕ). Some b) (c.min.ensures ∙ least) ∙ ap (lower c.in-Over.over.start) (c.in-Some.ensures) ∙ above-before c.args.self.now c.in-Over.over c.args.address o (omega arith)

pub returns-in-None : goal.returns-in-None
returns-in-None t c =
    let o = overlaid c.args.self.now c.self.inside.regions c.in-Over.over c.in-Over.is c.self.view_is c.self.invariant.1 in
    ap (lower c.in-Over.over.start) (c.in-None.ensures) ∙ above-before c.args.self.now c.in-Over.over c.args.address o (omega arith)

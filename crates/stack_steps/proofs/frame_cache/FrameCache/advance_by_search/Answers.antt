use Rattle.std.proofs.Common.{◌≡◌, List, Option, Some, None, Ok, Err, refl, sym, subst, ◌∙◌}
use Rattle.std.specs.Prelude.{IfSome}
use Rattle.memory_image.specs.Image.{Span}
use Rattle.frame_rows.specs.Rows.{IsRowOf}
use Rattle.stack_steps.specs.declared.frame_cache.CachedRow.{CachedRow}
use Rattle.stack_steps.specs.declared.prepared.PreparedTable.{PreparedTable}
use Rattle.stack_steps.specs.Caching.{IsCached}
use Rattle.stack_steps.specs.Elf.{caller}
use Rattle.stack_steps.specs.Frames.{DescribedFrame}
use Rattle.stack_steps.specs.Modules.{SpaceValue}
use Rattle.stack_steps.proofs.Cached.{GivesOver, fault_step, found_step, kept_cached, new_cached, none_step, unframed_step}
use Rattle.stack_steps.proofs.frame_cache.FrameCache.advance_by_search.Goals as goal

pub returns-in_default-clause-step : goal.returns-in_default-clause-step
returns-in_default-clause-step g c = unframed_step c.args.stepper.now c.args.state.now.context c.args.state.now.signal (c.in_default.ensures.ends refl)

pub invariant_of-self : goal.invariant_of-self
invariant_of-self g c =
    let t = c.in-Some-table.shared in
    let k : CachedRow = c.in-Ok-Some.cached in
    let same : c.self.inside.space.now ≡ c.args.self.now = c.self.view_is ∙ c.holder_at.ensures.same in
    let row = subst (λ (o : Option CachedRow). GivesOver c.table.result.now c.args.address (Ok o)) c.in-Ok-Some.field-0-is c.in-Ok-Some.ensures.row in
    let gives = subst (λ (u : PreparedTable). GivesOver u c.args.address (Ok (Some k))) c.table.ensures row in
    let at = subst (λ (o : Option CachedRow). IfSome o (λ row. row.address ≡ c.args.address)) c.in-Ok-Some.field-0-is c.in-Ok-Some.ensures.address in
    let one = new_cached c.args.self.now c.in-Some.added_module.now t c.args.address k c.in-Some.ensures.holds c.in-Some-table.is at gives in
    kept_cached c.self.inside.space.now c.self.inside.rows c.keep.new.self k c.keep.ensures c.self.invariant (subst (λ (s : SpaceValue). IsCached s k) (sym same) one)

pub invariant_of-self-in-Ok-Some : goal.invariant_of-self-in-Ok-Some
invariant_of-self-in-Ok-Some g c =
    let t = c.in-Some-table.shared in
    let k : CachedRow = c.in-Ok-Some.cached in
    let same : c.self.inside.space.now ≡ c.args.self.now = c.self.view_is ∙ c.holder_at.ensures.same in
    let row = subst (λ (o : Option CachedRow). GivesOver c.table.result.now c.args.address (Ok o)) c.in-Ok-Some.field-0-is c.in-Ok-Some.ensures.row in
    let gives = subst (λ (u : PreparedTable). GivesOver u c.args.address (Ok (Some k))) c.table.ensures row in
    let at = subst (λ (o : Option CachedRow). IfSome o (λ row. row.address ≡ c.args.address)) c.in-Ok-Some.field-0-is c.in-Ok-Some.ensures.address in
    let one = new_cached c.args.self.now c.in-Some.added_module.now t c.args.address k c.in-Some.ensures.holds c.in-Some-table.is at gives in
    kept_cached c.self.inside.space.now c.self.inside.rows c.keep.new.self k c.keep.ensures c.self.invariant (subst (λ (s : SpaceValue). IsCached s k) (sym same) one)

pub returns-then-stepped-clause-step : goal.returns-then-stepped-clause-step
returns-then-stepped-clause-step g c =
    let t = c.in-Some-table.shared in
    let k : CachedRow = c.in-Ok-Some.cached in
    let s = c.args.state.now in
    let row = subst (λ (o : Option CachedRow). GivesOver c.table.result.now c.args.address (Ok o)) c.in-Ok-Some.field-0-is c.in-Ok-Some.ensures.row in
    let gives = subst (λ (u : PreparedTable). GivesOver u c.args.address (Ok (Some k))) c.table.ensures row in
    let asked = subst (λ n. GivesOver t n (Ok (Some k))) c.requires.address gives in
    let calls = subst (λ (image : List Span). (f : DescribedFrame) → IsRowOf k.row f.run → k.signal ≡ f.found.fde.cie.letters.signal → caller image s.context f ≡ Ok c.step_in_place-stepped.new.state) c.stack-stack.ensures (c.step_in_place-stepped.ensures.caller c.if-stepped.true) in
    found_step c.args.self.now c.args.stepper.now c.requires.over s.context s.signal c.requires.returns c.image.ensures.laid_out c.in-Some.added_module.now t c.in-Some.ensures.asked c.in-Some-table.is k c.step_in_place-stepped.new.state asked calls

pub returns-in-Ok-None-clause-step : goal.returns-in-Ok-None-clause-step
returns-in-Ok-None-clause-step g c =
    let t = c.in-Some-table.shared in
    let s = c.args.state.now in
    let row = subst (λ (o : Option CachedRow). GivesOver c.table.result.now c.args.address (Ok o)) c.in-Ok-None.field-0-is c.in-Ok-None.ensures.row in
    let gives = subst (λ (u : PreparedTable). GivesOver u c.args.address (Ok None)) c.table.ensures row in
    let asked = subst (λ n. GivesOver t n (Ok None)) c.requires.address gives in
    none_step c.args.self.now c.args.stepper.now c.requires.over s.context s.signal c.requires.returns c.image.ensures.laid_out c.in-Some.added_module.now t c.in-Some.ensures.asked c.in-Some-table.is asked

pub returns-in-Err-clause-step : goal.returns-in-Err-clause-step
returns-in-Err-clause-step g c =
    let t = c.in-Some-table.shared in
    let s = c.args.state.now in
    let gives = subst (λ (u : PreparedTable). GivesOver u c.args.address (Err c.in-Err.error)) c.table.ensures c.in-Err.ensures.row in
    let asked = subst (λ n. GivesOver t n (Err c.in-Err.error)) c.requires.address gives in
    fault_step c.args.self.now c.args.stepper.now c.requires.over s.context s.signal c.requires.returns c.image.ensures.laid_out c.in-Some.added_module.now t c.in-Some.ensures.asked c.in-Some-table.is c.in-Err.error asked

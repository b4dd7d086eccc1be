use Rattle.std.proofs.Common.{◌≡◌, ◌<◌, inr, length, Option, Some, sym, subst, arith}
use Rattle.stack_steps.specs.declared.prepared.PreparedTable.{PreparedTable}
use Rattle.stack_steps.specs.declared.space.AddedModule.{AddedModule}
use Rattle.stack_steps.specs.AddedModule.{LeavesBy, MakesTable}
use Rattle.stack_steps.specs.Modules.{SpaceValue}
use Rattle.stack_steps.specs.Preparing.{HoldsAt, PreparesAt, StaysAt}
use Rattle.stack_steps.proofs.PreparingAt.{added_within, one_there, prepared_at, space_in, space_with, stays_at, with_one}
use Rattle.stack_steps.proofs.space.Space.prepare_at.Goals as goal

pub returns-in_default-table-clause-none : goal.returns-in_default-table-clause-none
returns-in_default-table-clause-none c e =
    let image = c.self.inside.image in
    let es = c.self.inside.modules.entries in
    let hs = c.self.inside.added.items in
    let k = c.in-Some.place in
    let holds : HoldsAt (space_in image es hs) c.args.address k = subst (λ (v : SpaceValue). HoldsAt v c.args.address k) (sym c.self.view_is) c.in-Some.ensures.holds in
    inr (subst (λ (v : SpaceValue). StaysAt v c.args.address) c.self.view_is
    (stays_at image es hs c.self.inside.left k c.args.address c.index-added_module.result.now c.in_ok-table.table c.self.invariant holds c.index-added_module.ensures c.in_ok-table.ensures.made c.in_default-table.is))

pub index_mut-requires : goal.index_mut-requires
index_mut-requires c =
    let image = c.self.inside.image in
    let es = c.self.inside.modules.entries in
    let hs = c.self.inside.added.items in
    let k = c.in-Some.place in
    let holds : HoldsAt (space_in image es hs) c.args.address k = subst (λ (v : SpaceValue). HoldsAt v c.args.address k) (sym c.self.view_is) c.in-Some.ensures.holds in
    let within : k < length hs = added_within hs k holds.added holds.stands in
    let len = c.self.inside.added.ok.0 in
    omega arith

pub invariant_of-self : goal.invariant_of-self
invariant_of-self c =
    let image = c.self.inside.image in
    let es = c.self.inside.modules.entries in
    let hs = c.self.inside.added.items in
    let left = c.self.inside.left in
    let k = c.in-Some.place in
    let t : PreparedTable = c.in-Some-table.shared in
    let h : AddedModule = c.index_mut.result.now in
    let holds : HoldsAt (space_in image es hs) c.args.address k = subst (λ (v : SpaceValue). HoldsAt v c.args.address k) (sym c.self.view_is) c.in-Some.ensures.holds in
    let within : k < length hs = added_within hs k holds.added holds.stands in
    let same : c.index-added_module.result.now ≡ h = one_there hs k c.index-added_module.result.now h within c.index-added_module.ensures c.index_mut.ensures.value in
    let made : MakesTable image left h (Some t) = subst (λ (x : AddedModule). MakesTable image left x (Some t)) same (subst (λ (o : Option PreparedTable). MakesTable image left c.index-added_module.result.now o) c.in-Some-table.is c.in_ok-table.ensures.made) in
    let leaves : LeavesBy left t.index c.after-self-inside.result = subst (λ (p : PreparedTable). LeavesBy left p.index c.after-self-inside.result) c.table.ensures c.after-self-inside.ensures in
    space_with image es hs left c.after-self-inside.result k h t c.self.invariant within c.index_mut.ensures.value made leaves

pub returns-clause-prepares : goal.returns-clause-prepares
returns-clause-prepares c e =
    let image = c.self.inside.image in
    let es = c.self.inside.modules.entries in
    let hs = c.self.inside.added.items in
    let left = c.self.inside.left in
    let k = c.in-Some.place in
    let t : PreparedTable = c.in-Some-table.shared in
    let h : AddedModule = c.index_mut.result.now in
    let holds : HoldsAt (space_in image es hs) c.args.address k = subst (λ (v : SpaceValue). HoldsAt v c.args.address k) (sym c.self.view_is) c.in-Some.ensures.holds in
    let within : k < length hs = added_within hs k holds.added holds.stands in
    let same : c.index-added_module.result.now ≡ h = one_there hs k c.index-added_module.result.now h within c.index-added_module.ensures c.index_mut.ensures.value in
    let made : MakesTable image left h (Some t) = subst (λ (x : AddedModule). MakesTable image left x (Some t)) same (subst (λ (o : Option PreparedTable). MakesTable image left c.index-added_module.result.now o) c.in-Some-table.is c.in_ok-table.ensures.made) in
    let leaves : LeavesBy left t.index c.after-self-inside.result = subst (λ (p : PreparedTable). LeavesBy left p.index c.after-self-inside.result) c.table.ensures c.after-self-inside.ensures in
    subst (λ (v : SpaceValue). PreparesAt v c.args.address (space_in image es (with_one hs k h t))) c.self.view_is
    (prepared_at image es hs left c.after-self-inside.result k c.args.address h t c.self.invariant holds c.index_mut.ensures.value made leaves)

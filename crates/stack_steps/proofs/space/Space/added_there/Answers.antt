use Rattle.std.proofs.Common.{◌≡◌, ◌<◌, true, length, sym, ◌∙◌, arith}
use Rattle.stack_steps.specs.AddedModule.{IsAddedModule, entry_at}
use Rattle.stack_steps.specs.Modules.{contains}
use Rattle.stack_steps.proofs.Holding.{all_there, contained, found_index, added_module_at, holds}
use Rattle.stack_steps.proofs.space.Space.added_there.Goals as goal

pub returns-then-contains-clause-module : goal.returns-then-contains-clause-module
returns-then-contains-clause-module c =
    let es = c.self.inside.modules.entries in
    let hs = c.self.inside.added.items in
    let h = c.index-added_module.result.now in
    let len = c.self.inside.added.ok.0 in
    let lt : c.args.place < length hs = omega arith in
    let there = added_module_at hs c.args.place h lt c.index-added_module.ensures in
    let has = c.self.invariant.back c.args.place h.holder there in
    let in_h : contains h.holder c.args.address ≡ true = sym c.contains.ensures ∙ c.if-contains.true in
    rw (← c.self.view_is) (contained es 0 c.args.address (entry_at c.args.place h.holder) c.self.invariant.apart has in_h)

pub returns-then-contains-clause-index : goal.returns-then-contains-clause-index
returns-then-contains-clause-index c =
    let es = c.self.inside.modules.entries in
    let hs = c.self.inside.added.items in
    let h = c.index-added_module.result.now in
    let len = c.self.inside.added.ok.0 in
    let lt : c.args.place < length hs = omega arith in
    let there = added_module_at hs c.args.place h lt c.index-added_module.ensures in
    let has = c.self.invariant.back c.args.place h.holder there in
    let in_h : contains h.holder c.args.address ≡ true = sym c.contains.ensures ∙ c.if-contains.true in
    rw (← c.self.view_is) (found_index es hs c.args.address (entry_at c.args.place h.holder) h c.self.invariant.apart c.self.invariant.back has in_h there c.index-added_module.ensures)

pub returns-then-contains-clause-table : goal.returns-then-contains-clause-table
returns-then-contains-clause-table c =
    let es = c.self.inside.modules.entries in
    let hs = c.self.inside.added.items in
    let h = c.index-added_module.result.now in
    let len = c.self.inside.added.ok.0 in
    let lt : c.args.place < length hs = omega arith in
    rw (← c.self.view_is) (all_there (IsAddedModule c.self.inside.image) hs c.args.place h c.self.invariant.are_held lt c.index-added_module.ensures)

pub returns-then-contains-clause-within : goal.returns-then-contains-clause-within
returns-then-contains-clause-within c =
    holds c.index-added_module.result.now.holder c.args.address (sym c.contains.ensures ∙ c.if-contains.true)

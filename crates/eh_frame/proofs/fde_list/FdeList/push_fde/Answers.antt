use Rattle.std.proofs.Common.{◌++◌, ◌∷◌, [], Bool, cond, refl, sym, ap, ◌∙◌}
use Rattle.std.proofs.lemmas.Bool.{le-ltb, lt-ltb}
use Rattle.encoded_pointers.specs.CursorViews.{at}
use Rattle.encoded_pointers.specs.PointerViews.{bases_of}
use Rattle.eh_frame.specs.declared.prepared.PreparedFunction.{PreparedFunction}
use Rattle.eh_frame.proofs.Descriptions.{description_added}
use Rattle.eh_frame.proofs.Indexed.{cie_there}
use Rattle.eh_frame.proofs.fde_list.FdeList.push_fde.Goals as goal

pub returns-in_ok-push-in-Ok-clause-adds : goal.returns-in_ok-push-in-Ok-clause-adds
returns-in_ok-push-in-Ok-clause-adds c =
    let cies = c.args.self.now.cies.items in
    let code = c.index.result.now in
    let fde = c.in-Ok.fde in
    let f = c.without_rows.result in
    let old = c.args.self.now.fdes.items in
    let there = cie_there cies c.args.cie code c.requires c.index.ensures in
    description_added (bases_of c.args.bases.now) cies c.args.cie c.args.offset (at c.args.body) code fde f old c.push.new.self.items there c.requires c.in-Ok.ensures.reads c.in-Ok.ensures.told c.in-Ok.ensures.cie c.without_rows.ensures
    (c.in_ok-push-in-Ok.ensures.items ∙ sym (ap (λ (b : Bool). cond b (old ++ f ∷ []) old) (lt-ltb 0 fde.len c.if-fde-gt0.true)))

pub returns-else-fde-gt0-clause-adds : goal.returns-else-fde-gt0-clause-adds
returns-else-fde-gt0-clause-adds c =
    let cies = c.args.self.now.cies.items in
    let code = c.index.result.now in
    let fde = c.in-Ok.fde in
    let f : PreparedFunction = record { fde = fde; rows = record { first = 0; end = 0 } } in
    let old = c.args.self.now.fdes.items in
    let there = cie_there cies c.args.cie code c.requires c.index.ensures in
    description_added (bases_of c.args.bases.now) cies c.args.cie c.args.offset (at c.args.body) code fde f old old there c.requires c.in-Ok.ensures.reads c.in-Ok.ensures.told c.in-Ok.ensures.cie refl
    (sym (ap (λ (b : Bool). cond b (old ++ f ∷ []) old) (le-ltb 0 fde.len c.if-fde-gt0.false)))

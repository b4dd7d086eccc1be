use Rattle.std.proofs.Common.{◌≡◌, ◌∙◌, ℕ, List, refl, rules, tests}
use Rattle.std.specs.Prelude.{◌≢◌}
use Rattle.std.specs.List.{position}
use Rattle.std.proofs.lemmas.Iterator.Search.{position_from_yields_List}
use Rattle.std.proofs.lemmas.Iterator.Consumers.{YieldsList-from_deque}
use Rattle.std.proofs.lemmas.Bool.{ne_eqb}
use Rattle.fde_finders.specs.declared.registry.Object.{Object}
use Rattle.fde_finders.specs.Registered.{is_at, place_at}
use Rattle.fde_finders.proofs.registry.Registry.place_of.Goals as goal

placed : (begin : ℕ) (objects : List Object) → begin ≢ 0 → position (is_at begin) objects ≡ place_at begin objects
placed begin objects ne = rw (ne_eqb begin 0 ne) refl

pub returns : goal.returns
returns c =
    let found : c.position.result ≡ position (is_at c.args.begin) c.args.self.now =
    position_from_yields_List (is_at c.args.begin) _ _ c.position.result c.position.ensures.ran (YieldsList-from_deque c.args.self.now (c.iter.ensures.rest ∙ c.self.view_is)) (λ x b q k. search (rules, tests)) in
    found ∙ placed c.args.begin c.args.self.now c.if-begin-eq0.false

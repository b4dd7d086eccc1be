use Rattle.std.proofs.Common.{◌≡◌, ◌≤◌, ◌<◌, ◌^◌, length, Option, Some, None, List, sym, ap, subst, arith}
use Rattle.std.specs.Prelude.{IfSome, IsSome}
use Rattle.unwind_arch.specs.declared.x86_64.Context.{Context}
use Rattle.core_file.specs.Fronts.{FrontValue, IsFrontOf, front_of}
use Rattle.core_file.proofs.CountLemmas.{threads_countable}
use Rattle.core_file.proofs.FrontLemmas.{read-front, front_is, front_is_read}
use Rattle.core_file.proofs.front.CoreFront.parse.Goals as goal

pub returns-clause-front : goal.returns-clause-front
returns-clause-front c = go c.front_in.result c.front_in.ensures
  where
    go : (r : Option FrontValue) → r ≡ front_of c.args.front.now → IfSome r (λ value. IsFrontOf c.args.front.now value)
    go (Some value) is = front_is c.args.front.now value (sym is)
    go None is = tt

pub returns-clause-whole : goal.returns-clause-whole
returns-clause-whole c = λ bytes core fits.
    subst (λ (r : Option FrontValue). IsSome r) (sym c.front_in.ensures) (front_is_read c.args.front.now bytes core fits)

pub returns-clause-few : goal.returns-clause-few
returns-clause-few c = go c.front_in.result c.front_in.ensures
  where
    go : (r : Option FrontValue) → r ≡ front_of c.args.front.now → length c.args.front.now ≤ 2 ^ 48 → IfSome r (λ f. length f.threads < 2 ^ 64)
    go (Some value) is = λ fits.
        let read = read-front c.args.front.now value (sym is) in
        subst (λ (ts : List Context). length ts < 2 ^ 64) (ap (λ (v : FrontValue). v.threads) read.value_is)
        (threads_countable c.args.front.now (λ i. let byte = c.type_inv.front i in omega arith) fits)
    go None is = λ _. tt

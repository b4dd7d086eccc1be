-- The functions of a generated chain are functions.
use Rattle.std.proofs.Common.{ℕ, ◌≤◌, List, [], ◌∷◌, refl, arith, lit<, lit≤}
use Rattle.std.specs.Prelude.{◌≢◌, IfSome}
use Rattle.std.specs.List.{AllByRecursion}
use Rattle.unwind_definitions.specs.Prologue.{SystemV, Save, IsPrologue}
use Rattle.unwind_definitions.specs.Function.{IsFunction, AreSitesOf, last_end}
use Rattle.unwind_laws.proofs.Booleans.{pairs_one, pairs_two}
use Rattle.generated_chains.specs.declared.outline.Kind.{Kind}
use Rattle.generated_chains.specs.declared.outline.Kind.TheVariants.{Pushes, PushesAndAllocates, SetsFrame, SetsFrameAndPushes}
use Rattle.generated_chains.specs.declared.outline.Handling.{Handling}
use Rattle.generated_chains.specs.declared.outline.Handling.TheVariants.{PassesOn, CleansUp, Catches}
use Rattle.generated_chains.specs.declared.outline.Outline.{Outline}
use Rattle.generated_chains.specs.Code.{start_of, prologue_of, sites_of, code_at, functions_of}

is_prologue : (kind : Kind) → IsPrologue SystemV (prologue_of kind)
is_prologue Pushes = record { ends = (lit< tt, tt); each = (refl, tt); once = pairs_one (λ (a b : Save). a.register ≢ b.register) _ }
is_prologue PushesAndAllocates = record { ends = (lit< tt, (lit< tt, tt)); each = (refl, ((lit< tt, refl), tt)); once = pairs_one (λ (a b : Save). a.register ≢ b.register) _ }
is_prologue SetsFrame = record { ends = (lit< tt, (lit< tt, tt)); each = (refl, ((refl, refl, refl), tt)); once = pairs_one (λ (a b : Save). a.register ≢ b.register) _ }
is_prologue SetsFrameAndPushes = record { ends = (lit< tt, (lit< tt, (lit< tt, (lit< tt, tt)))); each = (refl, ((refl, refl, refl), (refl, ((lit< tt, refl), tt)))); once = pairs_two (λ (a b : Save). a.register ≢ b.register) _ _ (λ e. absurd cc) }

early_end : (kind : Kind) → last_end (prologue_of kind) ≤ 16
early_end Pushes = lit≤ tt
early_end PushesAndAllocates = lit≤ tt
early_end SetsFrame = lit≤ tt
early_end SetsFrameAndPushes = lit≤ tt

are_sites : (kind : Kind) (handling : Handling) (start : ℕ) → IfSome (sites_of handling start) (AreSitesOf (code_at kind handling start))
are_sites kind PassesOn start = tt
are_sites kind CleansUp start = record {
  ranges = (omega arith, omega arith, omega arith, (omega arith, omega arith, omega arith, tt));
  actions = ((omega arith, omega arith), (tt, tt));
}
are_sites kind Catches start = record {
  ranges = (omega arith, omega arith, omega arith, tt);
  actions = ((omega arith, omega arith), tt);
}

is_function : (kind : Kind) (handling : Handling) (start : ℕ) → IsFunction SystemV (code_at kind handling start)
is_function kind handling start = record {
  prologue = is_prologue kind;
  has_body = λ e. absurd cc;
  bodies = (omega (arith, early_end kind), omega arith, omega arith, tt);
  sites = are_sites kind handling start;
  outermost = λ e. absurd cc;
}

pub are_functions : (os : List Outline) → AllByRecursion (IsFunction SystemV) (functions_of os)
are_functions [] = tt
are_functions (o ∷ os) = (is_function o.kind o.handling (start_of o.index), are_functions os)

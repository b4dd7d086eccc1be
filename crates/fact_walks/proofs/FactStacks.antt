-- A chain of facts is a known stack, and a context begins one such stack.
use Rattle.std.proofs.Common.{inl, inr, ◌≡◌, ◌≢◌, ℕ, Bool, false, List, [], ◌∷◌, Result, Ok, refl, sym, ap, subst, ◌∙◌}
use Rattle.std.specs.Prelude.{◌⊎◌}
use Rattle.memory_image.specs.Image.{IsLaidOut}
use Rattle.unwind_definitions.specs.State.{State}
use Rattle.unwind_definitions.specs.Module.{IsUncovered}
use Rattle.unwind_laws.proofs.OneChain.{one_state}
use Rattle.frame_facts.specs.FactChains.{FactFrame, address_asked, chain_states, IsFactChain}
use Rattle.format_definitions.specs.Modules.{IsUncoveredBy}
use Rattle.unwind_arch.specs.declared.x86_64.Context.{Context}
use Rattle.unwind_arch.specs.ContextViews.{columns_of}
use Rattle.stack_steps.specs.declared.error.DeliverError.{DeliverError}
use Rattle.stack_steps.specs.Modules.{SpaceValue, AreApart, AreElf}
use Rattle.stack_steps.specs.SpaceViews.{process_of, formats_of}
use Rattle.stack_steps.specs.KnownStacks.{IsKnownStack}
use Rattle.stack_walks.specs.Lines.{line_of}
use Rattle.stack_walks.specs.Walking.{EachShows}
use Rattle.stack_walks.specs.KnownWalks.{StartsKnownStack}
use Rattle.stack_walks.proofs.ElfChains.{uncovered}
use Rattle.stack_walks.proofs.KnownLines.{known_walked}
use Rattle.fact_walks.specs.Callers.{callers_in}

pub facts_known : (space : SpaceValue) (interrupted : Bool) (s : State) (frames : List FactFrame) → AreElf space.modules → IsFactChain (process_of space) interrupted s frames → IsKnownStack space interrupted s (callers_in frames)
facts_known space interrupted s [] elf chain = record { state = chain.state; ends = go chain.ends }
  where
    go : (s.ra ≡ 0) ⊎ ((s.ra ≢ 0) × IsUncovered (process_of space) (address_asked interrupted s)) → (s.ra ≡ 0) ⊎ ((s.ra ≢ 0) × IsUncoveredBy space.image (formats_of space) (address_asked interrupted s))
    go (inl none) = inl none
    go (inr free) = inr (free.0, uncovered space [] elf (address_asked interrupted s) free.1)
facts_known space interrupted s (f ∷ frames) elf chain = (inl (inl (f.facts, chain.0)), facts_known space false f.caller frames elf chain.1)

pub same_states : (s : State) (frames : List FactFrame) → s ∷ callers_in frames ≡ chain_states s frames
same_states s [] = refl
same_states s (f ∷ frames) = ap (λ (states : List State). s ∷ states) (same_states f.caller frames)

-- contexts show one list of states
one_list : (cs : List Context) (xs ys : List State) → EachShows cs xs → EachShows cs ys → xs ≡ ys
one_list [] [] [] x y = refl
one_list [] [] (b ∷ ys) x y = absurd y
one_list [] (a ∷ xs) ys x y = absurd x
one_list (c ∷ cs) [] ys x y = absurd x
one_list (c ∷ cs) (a ∷ xs) [] x y = absurd y
one_list (c ∷ cs) (a ∷ xs) (b ∷ ys) x y = ap (λ (s : State). s ∷ xs) (one_state (columns_of c) a b x.0 y.0) ∙ ap (λ (l : List State). b ∷ l) (one_list cs xs ys x.1 y.1)

shown_alike : (line : Result (List Context) DeliverError) (cs ds : List Context) (xs ys : List State) → line ≡ Ok cs → line ≡ Ok ds → EachShows cs xs → EachShows ds ys → xs ≡ ys
shown_alike line cs ds xs ys a b x y = let same : cs ≡ ds = cc in one_list cs xs ys x (subst (λ (l : List Context). EachShows l ys) (sym same) y)

-- All known stacks that one context begins have the same states.
pub one_stack : (space : SpaceValue) (c : Context) (limit : ℕ) (interrupted : Bool) (s t : State) (callers others : List State) → AreApart 0 space.modules → IsLaidOut 0 space.image →
    StartsKnownStack space c limit interrupted s callers → StartsKnownStack space c limit interrupted t others → s ∷ callers ≡ t ∷ others
one_stack space c limit interrupted s t callers others apart laid is also =
    let x = known_walked space apart laid c limit interrupted s callers is in
    let y = known_walked space apart laid c limit interrupted t others also in
    shown_alike (line_of space limit c interrupted) x.0 y.0 (s ∷ callers) (t ∷ others) x.1 y.1 x.2.each y.2.each

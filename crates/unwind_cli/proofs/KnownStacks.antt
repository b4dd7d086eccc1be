-- What is walked of a snapshot that begins a known stack, what is delivered to it, and folded of samples one of which does.
use Rattle.std.proofs.Common.{◌≡◌, List, ◌∷◌, Ok}
use Rattle.std.specs.Prelude.{map}
use Rattle.std.specs.List.{Contains}
use Rattle.memory_image.specs.Image.{IsLaidOut}
use Rattle.unwind_definitions.specs.State.{State}
use Rattle.unwind_arch.specs.declared.x86_64.Context.{Context}
use Rattle.stack_steps.specs.Modules.{AreApart}
use Rattle.stack_walks.specs.KnownWalks.{StartsKnownStack}
use Rattle.stack_walks.proofs.KnownLines.{known_walked}
use Rattle.frame_facts.specs.FactDeliveries.{AskedFrame}
use Rattle.stack_steps.proofs.ContextLemmas.{IsWhole}
use Rattle.stack_deliver.specs.KnownDeliveries.{StartsKnownDelivery}
use Rattle.stack_deliver.specs.KnownThrows.{AskingFrame, StartsKnownThrow}
use Rattle.stack_deliver.specs.Searches.{met_in_delivery, met_through}
use Rattle.stack_deliver.specs.StateViews.{state_of}
use Rattle.stack_deliver.proofs.KnownDelivered.{DeliversKnown, known_delivered}
use Rattle.stack_deliver.proofs.KnownThrown.{DeliversThrow, throw_delivered}
use Rattle.stack_deliver.proofs.Chains.{shown_states}
use Rattle.stack_snapshot.specs.Content.{Content, space_of}
use Rattle.stack_snapshot.specs.Sampled.{SampledContent, sampled_space}
use Rattle.stack_snapshot.specs.Thrown.{ThrownContent, languages_in}
use Rattle.folded_stacks.specs.declared.samples.Sample.{Sample}
use Rattle.folded_stacks.specs.Counts.{HasStack}
use Rattle.folded_stacks.specs.Folding.{fold_of}
use Rattle.folded_stacks.specs.Stacks.{stack_shown}
use Rattle.folded_stacks.proofs.FoldedLines.{stack_has_line}
use Rattle.folded_stacks.proofs.KnownStacks.{known_stacked}
use Rattle.unwind_cli.specs.Due.{delivery_from, fold_from, thrown_from, walk_from}

-- The walk visits the states of the stack.
pub stack_walked : (s : Content) (start : State) (callers : List State) → AreApart 0 (space_of s).modules → IsLaidOut 0 (space_of s).image → StartsKnownStack (space_of s) s.start s.limit s.interrupted start callers →
    (cs : List Context) × (walk_from s ≡ Ok cs) × (map state_of cs ≡ start ∷ callers)
unfolding walk_from
stack_walked s start callers apart laid is =
    let w = known_walked (space_of s) apart laid s.start s.limit s.interrupted start callers is in
    (w.0, w.1, shown_states w.0 (start ∷ callers) w.2.each)

-- What is delivered is what the definition says of its frames.
pub stack_delivered : (s : Content) (start : State) (callers : List State) (frames : List AskedFrame) → AreApart 0 (space_of s).modules → IsLaidOut 0 (space_of s).image → IsWhole s.start →
    StartsKnownDelivery (space_of s) s.start s.resumes s.limit start callers frames →
    DeliversKnown s.exception start callers frames (delivery_from s) (met_in_delivery (space_of s) s.start s.exception s.resumes s.limit)
unfolding delivery_from
stack_delivered s start callers frames apart laid whole is = known_delivered (space_of s) s.start s.exception s.resumes s.limit start callers frames apart laid whole is

-- So it is by the rules of the languages on its stack.
pub stack_thrown : (t : ThrownContent) (start : State) (callers : List State) (frames : List AskingFrame) → AreApart 0 (space_of t.snapshot).modules → IsLaidOut 0 (space_of t.snapshot).image → IsWhole t.snapshot.start →
    StartsKnownThrow (languages_in t) (space_of t.snapshot) t.snapshot.start t.snapshot.resumes t.snapshot.limit start callers frames →
    DeliversThrow t.snapshot.exception start callers frames (thrown_from t) (met_through (languages_in t) (space_of t.snapshot) t.snapshot.start t.snapshot.exception t.snapshot.resumes t.snapshot.limit)
unfolding thrown_from
stack_thrown t start callers frames apart laid whole is =
    let s = t.snapshot in
    throw_delivered (languages_in t) (space_of s) s.start s.exception s.resumes s.limit start callers frames apart laid whole is

-- The folded stacks of samples have that of a sample that begins one.
pub known_folded : (s : SampledContent) (sample : Sample) (start : State) (callers : List State) → AreApart 0 (sampled_space s).modules → IsLaidOut 0 (sampled_space s).image → Contains s.samples sample
    → StartsKnownStack (sampled_space s) sample.start s.limit sample.interrupted start callers → HasStack (fold_from s).lines (stack_shown (start ∷ callers))
unfolding fold_from fold_of
known_folded s sample start callers apart laid has starts =
    stack_has_line (sampled_space s) s.limit s.samples sample (stack_shown (start ∷ callers)) has (known_stacked (sampled_space s) s.limit sample start callers apart laid starts)

-- The chain of a valid start through modules of three formats is described.
use Rattle.std.proofs.Common.{ℕ, [], ◌∷◌, List, inr}
use Rattle.std.specs.Prelude.{IsTrue}
use Rattle.std.specs.List.{AllByRecursion, Contains, list_any}
use Rattle.memory_image.specs.Image.{Span}
use Rattle.unwind_definitions.specs.Caller.{Columns}
use Rattle.unwind_definitions.specs.State.{State}
use Rattle.unwind_definitions.specs.Function.{Function, IsFunction}
use Rattle.unwind_definitions.specs.Chain.{Call, IsChain}
use Rattle.unwind_laws.proofs.Booleans as lists
use Rattle.format_definitions.specs.Modules.{FormatModule, in_format, convention_of, part_of, IsUncoveredBy, LiesDescribed, IsDescribedChain}
use Rattle.format_definitions.specs.Valid.{DescribesItsPart, IsValid}
use Rattle.format_laws.proofs.Homes.{in_part}

module _ (image : List Span) (modules : List FormatModule) (functions : List Function) (parts : AllByRecursion (DescribesItsPart image functions) modules) where
  lies_in : (f : Function) → Contains functions f → IsTrue (list_any (in_format f.start) modules) → LiesDescribed image modules functions f
  lies_in f has some =
      let home = lists.any_contains (in_format f.start) modules some in
      let part : DescribesItsPart image functions home.0 = lists.all_contains (DescribesItsPart image functions) modules home.0 parts home.1 in
      record {
        home = home.0;
        known = home.1;
        inside = home.2;
        is_function = lists.all_contains (IsFunction (convention_of home.0)) (part_of home.0 functions) f part.are_functions (in_part functions f home.0 has home.2);
        describes = part.describes;
      }

  callees_lie : AllByRecursion (λ (f : Function). IsTrue (list_any (in_format f.start) modules)) functions → (s : State) (calls : List Call) → IsChain image (IsUncoveredBy image modules) functions s calls →
      AllByRecursion (λ (c : Call). LiesDescribed image modules functions c.callee) calls
  callees_lie others s [] chain = tt
  callees_lie others s (c ∷ calls) chain =
      (lies_in c.callee chain.0.listed (lists.all_contains (λ (f : Function). IsTrue (list_any (in_format f.start) modules)) functions c.callee others chain.0.listed), callees_lie others c.caller calls chain.1)

pub valid_described : (image : List Span) (modules : List FormatModule) (start : Columns) (resumes : List (ℕ × ℕ)) (functions : List Function) (s : State) (calls : List Call) →
    IsValid image modules start resumes functions s calls → IsDescribedChain image modules functions s calls
valid_described image modules start resumes functions s calls valid = record {
  chain = valid.chain;
  described = callees_lie image modules functions valid.parts valid.no_others s calls valid.chain;
  ends = inr (λ m has inside. (lists.all_contains (DescribesItsPart image functions) modules m valid.parts has).describes);
}

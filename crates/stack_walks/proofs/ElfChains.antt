-- Chains that ELF modules alone describe are described chains through modules of whatever format.
use Rattle.std.proofs.Common.{inl, inr, ◌≡◌, ◌≢◌, ℕ, ◌-◌, ◌<◌, Bool, length, true, false, List, [], ◌∷◌, refl, sym, ap, subst, ◌∙◌}
use Rattle.std.specs.Prelude.{◌⊎◌, ◌||◌, IsTrue, map}
use Rattle.std.specs.List.{Contains, AllByRecursion, filter_map, list_any}
use Rattle.unwind_definitions.specs.State.{State, Shows}
use Rattle.unwind_definitions.specs.Prologue.{SystemV}
use Rattle.unwind_definitions.specs.Function.{Function, IsFunction}
use Rattle.unwind_definitions.specs.Chain.{Call, IsChain, last_state}
use Rattle.unwind_definitions.specs.Module as described
use Rattle.unwind_definitions.specs.Valid.{DescribesPart, LiesInElf, IsElfDescribedAt, IsElfChain}
use Rattle.unwind_laws.proofs.Booleans as lists
use Rattle.unwind_arch.specs.declared.x86_64.Context.{Context}
use Rattle.unwind_arch.specs.ContextViews.{columns_of}
use Rattle.format_definitions.specs.Modules.{FormatModule, in_format, part_of, IsUncoveredIn, IsUncoveredBy, LiesDescribed, DescribesFormat, IsDescribedAt, IsDescribedChain}
use Rattle.format_definitions.specs.Modules as formats
use Rattle.format_definitions.specs.Valid.{DescribesItsPart}
use Rattle.stack_steps.specs.declared.space.Module.{Module}
use Rattle.stack_steps.specs.declared.space.ModuleTables.{ModuleTables}
use Rattle.stack_steps.specs.declared.space.ModuleTables.TheVariants.{Elf, Macho, Pe}
use Rattle.stack_steps.specs.Modules.{SpaceValue, AreElf, HasElfTables}
use Rattle.stack_steps.specs.SpaceViews.{elf_module, elf_of, process_of, format_by, format_of, formats_of}
use Rattle.stack_steps.proofs.Holders.{IsFormatOf, format_named, elf_to_format, elf_from_format}
use Rattle.stack_walks.specs.Walking.{StartsChain}

-- a module of whatever format is one of the ELF modules of a process
record IsElf (modules : List Module) (home : FormatModule) : Type 0 where
  named : described.Module
  known : Contains (filter_map elf_of modules) named
  same : home ≡ formats.Elf named

elf_home : (modules : List Module) → AreElf modules → (home : FormatModule) → Contains (map format_of modules) home → IsElf modules home
elf_home modules elf home has = go is.named.tables refl (lists.all_contains (λ (m : Module). HasElfTables m.tables) modules is.named elf is.among)
  where
    is : IsFormatOf modules home
    is = format_named modules home has

    go : (tables : ModuleTables) → is.named.tables ≡ tables → HasElfTables tables → IsElf modules home
    go (Elf t) by some =
        let same : home ≡ formats.Elf (elf_module is.named.start is.named.end t) = sym is.same ∙ ap (format_by is.named) by in
        record { named = elf_module is.named.start is.named.end t; known = elf_from_format modules (elf_module is.named.start is.named.end t) (subst (λ (h : FormatModule). Contains (map format_of modules) h) same has); same = same }
    go (Macho t) by some = absurd some
    go (Pe t) by some = absurd some

contains_any : {A : Type 0} (p : A → Bool) (xs : List A) (y : A) → Contains xs y → p y ≡ true → list_any p xs ≡ true
contains_any p [] y has e = absurd (lists.none_in_nil y has)
contains_any p (x ∷ xs) y has e = go (p x) refl (lists.here_or_later x xs y has) (λ h. contains_any p xs y h e)
  where
    go : (b : Bool) → p x ≡ b → (x ≡ y) ⊎ Contains xs y → (Contains xs y → list_any p xs ≡ true) → (p x || list_any p xs) ≡ true
    go true is h later = rw is refl
    go false is (inl same) later = let here : p x ≡ true = rw same e in absurd cc
    go false is (inr more) later = rw is (later more)

module _ (space : SpaceValue) (functions : List Function) where
  lies_in : AllByRecursion (IsFunction SystemV) functions → (f : Function) → Contains functions f → LiesInElf (process_of space) functions f → LiesDescribed space.image (formats_of space) functions f
  lies_in are f has lies = record {
    home = formats.Elf lies.home;
    known = elf_to_format space.modules lies.home lies.known;
    inside = lies.inside;
    is_function = lists.all_contains (IsFunction SystemV) functions f are has;
    describes = lies.describes;
  }

  module _ (elf : AreElf space.modules) where
    pub uncovered : (a : ℕ) → described.IsUncovered (process_of space) a → IsUncoveredBy space.image (formats_of space) a
    uncovered a free m has inside =
        let is : IsElf space.modules m = elf_home space.modules elf m has in
        subst (λ (home : FormatModule). IsUncoveredIn space.image home a) (sym is.same) (free is.named is.known (subst (λ (home : FormatModule). IsTrue (in_format a home)) is.same inside))

    described_by : (a : ℕ) → IsElfDescribedAt (process_of space) functions a → IsDescribedAt space.image (formats_of space) functions a
    described_by a known m has inside =
        let is : IsElf space.modules m = elf_home space.modules elf m has in
        subst (λ (home : FormatModule). DescribesFormat space.image home (part_of home functions)) (sym is.same) (known is.named is.known (subst (λ (home : FormatModule). IsTrue (in_format a home)) is.same inside))

    pub chain_in : (s : State) (calls : List Call) → IsChain space.image (described.IsUncovered (process_of space)) functions s calls → IsChain space.image (IsUncoveredBy space.image (formats_of space)) functions s calls
    chain_in s [] end = record { state = end.state; ends = go end.ends }
      where
        go : (s.ra ≡ 0) ⊎ ((s.ra ≢ 0) × described.IsUncovered (process_of space) (s.ra - 1)) → (s.ra ≡ 0) ⊎ ((s.ra ≢ 0) × IsUncoveredBy space.image (formats_of space) (s.ra - 1))
        go (inl none) = inl none
        go (inr free) = inr (free.0, uncovered (s.ra - 1) free.1)
    chain_in s (k ∷ calls) chain = (chain.0, chain_in k.caller calls chain.1)

    callees_lie : AllByRecursion (IsFunction SystemV) functions → (s : State) (calls : List Call) → IsChain space.image (described.IsUncovered (process_of space)) functions s calls →
        AllByRecursion (λ (k : Call). LiesInElf (process_of space) functions k.callee) calls → AllByRecursion (λ (k : Call). LiesDescribed space.image (formats_of space) functions k.callee) calls
    callees_lie are s [] chain lie = tt
    callees_lie are s (k ∷ calls) chain lie = (lies_in are k.callee chain.0.listed lie.0, callees_lie are k.caller calls chain.1 lie.1)

    elf_chain : (s : State) (calls : List Call) → IsElfChain (process_of space) functions s calls → IsDescribedChain space.image (formats_of space) functions s calls
    elf_chain s calls is = record {
      chain = chain_in s calls is.chain;
      described = callees_lie is.are_functions s calls is.chain is.described;
      ends = go is.ends;
    }
      where
        go : ((last_state s calls).ra ≡ 0) ⊎ IsElfDescribedAt (process_of space) functions ((last_state s calls).ra - 1) → ((last_state s calls).ra ≡ 0) ⊎ IsDescribedAt space.image (formats_of space) functions ((last_state s calls).ra - 1)
        go (inl none) = inl none
        go (inr known) = inr (described_by ((last_state s calls).ra - 1) known)

  -- ---- a valid start

  part_described : AllByRecursion (IsFunction SystemV) functions → (m : described.Module) → DescribesPart (process_of space) m functions → DescribesItsPart space.image functions (formats.Elf m)
  part_described are m describes = record {
    are_functions = lists.contains_all (IsFunction SystemV) (part_of (formats.Elf m) functions) (λ f has. lists.all_contains (IsFunction SystemV) functions f are (lists.filter_contains (λ (g : Function). in_format g.start (formats.Elf m)) functions f has).0);
    describes = describes;
  }

  pub parts_described : AreElf space.modules → AllByRecursion (IsFunction SystemV) functions → AllByRecursion (λ (m : described.Module). DescribesPart (process_of space) m functions) (filter_map elf_of space.modules) →
      AllByRecursion (DescribesItsPart space.image functions) (formats_of space)
  parts_described elf are each =
      lists.contains_all (DescribesItsPart space.image functions) (formats_of space)
      (λ m has.
      let is : IsElf space.modules m = elf_home space.modules elf m has in
      subst (DescribesItsPart space.image functions) (sym is.same)
      (part_described are is.named (lists.all_contains (λ (n : described.Module). DescribesPart (process_of space) n functions) (filter_map elf_of space.modules) is.named each is.known)))

  pub no_others : AllByRecursion (λ (f : Function). IsTrue (list_any (described.in_module f.start) (filter_map elf_of space.modules))) functions → AllByRecursion (λ (f : Function). IsTrue (list_any (in_format f.start) (formats_of space))) functions
  no_others each =
      lists.contains_all (λ (f : Function). IsTrue (list_any (in_format f.start) (formats_of space))) functions
      (λ f has.
      let home = lists.any_contains (described.in_module f.start) (filter_map elf_of space.modules) (lists.all_contains (λ (g : Function). IsTrue (list_any (described.in_module g.start) (filter_map elf_of space.modules))) functions f each has) in
      contains_any (in_format f.start) (formats_of space) (formats.Elf home.0) (elf_to_format space.modules home.0 home.1) home.2)

  -- ---- starts

  pub elf_starts : AreElf space.modules → (s : State) (calls : List Call) → IsElfChain (process_of space) functions s calls → (c : Context) (limit : ℕ) → Shows (columns_of c) s → length calls < limit → StartsChain space c limit functions s calls
  elf_starts elf s calls is c limit shows shorter = record { described = elf_chain elf s calls is; shows = shows; shorter = shorter }

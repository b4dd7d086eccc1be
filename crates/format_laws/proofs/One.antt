-- Two described chains of one start through modules of three formats go through the same states, and what is delivered to them
-- is one.
use Rattle.std.proofs.Common.{◌≡◌, ◌≢◌, ℕ, ◌-◌, ◌<◌, ◌≤◌, false, List, [], ◌∷◌, Option, Some, None, Result, Ok, Err, refl, sym, ap, subst, ◌∙◌, arith, inl, inr}
use Rattle.std.specs.Prelude.{◌⊎◌}
use Rattle.std.specs.List.{AllPairs, AllByRecursion, Contains}
use Rattle.memory_image.specs.Image.{Span}
use Rattle.unwind_definitions.specs.Caller.{Columns, StepFault, x86_64, caller_of}
use Rattle.unwind_definitions.specs.Expressions.{evaluation}
use Rattle.unwind_definitions.specs.State.{State, Shows}
use Rattle.unwind_definitions.specs.Entries.{Fde}
use Rattle.unwind_definitions.specs.Function.{Function, action_at}
use Rattle.unwind_definitions.specs.LanguageTable.{LeadsToLanguage}
use Rattle.unwind_definitions.specs.Module.{Module, Process, AreApart, CoversNot}
use Rattle.unwind_definitions.specs.Chain.{Call, IsChain}
use Rattle.unwind_laws.specs.Apart.{FunctionsApart}
use Rattle.unwind_laws.specs.Columns.{columns_of}
use Rattle.unwind_laws.specs.Walked.{Steps}
use Rattle.unwind_laws.proofs.Booleans as lists
use Rattle.unwind_laws.proofs.OneModule.{Same, one_found, ok_is, found_is_covered}
use Rattle.unwind_laws.proofs.OneLanguage.{one_action}
use Rattle.unwind_laws.proofs.OneChain.{one_state, Alike}
use Rattle.unwind_laws.proofs.PushingValid.{columns_show}
use Rattle.format_definitions.specs.CompactStep.{Stepped, MachoFault, macho_step}
use Rattle.format_definitions.specs.PeStep.{PeFault}
use Rattle.format_definitions.specs.Modules.{FormatModule, Elf, Macho, Pe, convention_of, part_of, DescribesFormat, IsUncoveredIn, IsUncoveredBy, LiesDescribed, IsDescribedChain}
use Rattle.format_definitions.specs.Process.{FormatsApart}
use Rattle.format_laws.specs.Undone.{FormatUndone, CanUndo, columns_after}
use Rattle.format_laws.proofs.Steps.{uncovered_ends, call_undone, shown_after, can_undo}
use Rattle.format_laws.proofs.MachoLanguage.{one_listed_action}
use Rattle.format_laws.proofs.PeLanguage.{one_recorded_action}
use Rattle.format_laws.proofs.Homes.{one_home, in_home, in_part, body_lies}

-- ---- what functions ask

-- two calls that one ELF module undoes at one address ask the same there
elf_actions : (image : List Span) (m : Module) (columns : Columns) (a : ℕ) (c d : Call) → Steps (record { image = image; modules = m ∷ [] }) (evaluation image) columns a c →
    Steps (record { image = image; modules = m ∷ [] }) (evaluation image) columns a d → action_at c.callee a ≡ action_at d.callee a
elf_actions image m columns a c d x y =
    let p : Process = record { image = image; modules = m ∷ [] } in
    let same : Same p (lists.pairs_one AreApart m) c.callee d.callee a x.finds y.finds = one_found p (lists.pairs_one AreApart m) c.callee d.callee a x.finds y.finds in
    let starts : c.callee.start ≡ d.callee.start = sym x.finds.describes.code.start ∙ ap (λ (k : Fde). k.start) same.fde ∙ y.finds.describes.code.start in
    let leads : LeadsToLanguage image d.callee x.finds.fde.language = subst (λ (k : Fde). LeadsToLanguage image d.callee k.language) (sym same.fde) y.finds.describes.language in
    one_action image c.callee d.callee x.finds.fde.language a starts x.finds.describes.language leads

-- a call that a module undoes, of a function that it describes
pub record IsUndoneIn (image : List Span) (home : FormatModule) (columns : Columns) (a : ℕ) (c : Call) : Type 0 where
  pub part : List Function
  pub describes : DescribesFormat image home part
  pub listed : Contains part c.callee
  pub low : c.callee.start ≤ a
  pub high : a < c.callee.end
  pub undone : FormatUndone image home columns a c

same_actions : (image : List Span) (home : FormatModule) (columns : Columns) (a : ℕ) (c d : Call) → IsUndoneIn image home columns a c → IsUndoneIn image home columns a d → action_at c.callee a ≡ action_at d.callee a
same_actions image (Elf m) columns a c d x y = elf_actions image m columns a c d x.undone y.undone
same_actions image (Macho m) columns a c d x y = one_listed_action image m x.part y.part x.describes y.describes c.callee d.callee a x.listed y.listed (x.low, x.high) (y.low, y.high)
same_actions image (Pe m) columns a c d x y = one_recorded_action image m x.part y.part x.describes y.describes c.callee d.callee a x.listed y.listed (x.low, x.high) (y.low, y.high)

-- ---- callers

abbrev answered : Columns → Result (Option Stepped) MachoFault
answered columns = Ok (Some (record { columns = columns; signal = false }))

some_columns : (x y : Columns) → answered x ≡ answered y → x ≡ y
some_columns x y e = ap columns_in e
  where
    columns_in : Result (Option Stepped) MachoFault → Columns
    columns_in (Ok (Some caller)) = caller.columns
    columns_in (Ok None) = x
    columns_in (Err f) = x

one_caller : (image : List Span) (home : FormatModule) (columns : Columns) (a : ℕ) (c d : Call) (x : FormatUndone image home columns a c) (y : FormatUndone image home columns a d) → columns_after image home columns a c x ≡ columns_after image home columns a d y
one_caller image (Elf m) columns a c d x y =
    let p : Process = record { image = image; modules = m ∷ [] } in
    let same : Same p (lists.pairs_one AreApart m) c.callee d.callee a x.finds y.finds = one_found p (lists.pairs_one AreApart m) c.callee d.callee a x.finds y.finds in
    ok_is {E = StepFault} x.undoes.caller y.undoes.caller (sym x.undoes.is_caller ∙ ap (caller_of x86_64 (evaluation image) image columns) same.run ∙ y.undoes.is_caller)
one_caller image (Macho m) columns a c d x y = some_columns x.caller y.caller (sym x.answered ∙ y.answered)
one_caller image (Pe m) columns a c d x y = ok_is {E = PeFault} x.caller y.caller (sym x.answered ∙ y.answered)

-- a module undoes no call at an address that none of its entries contains
undone_is_covered : (image : List Span) (home : FormatModule) (columns : Columns) (a : ℕ) (c : Call) → FormatUndone image home columns a c → IsUncoveredIn image home a → ⊥
undone_is_covered image (Elf m) columns a c x u =
    found_is_covered (record { image = image; modules = m ∷ [] }) (lists.pairs_one AreApart m) c.callee a x.finds
    (λ n known inside. elim (lists.here_or_later m [] n known) [ inl same ↦ subst (λ (k : Module). CoversNot image k a) same u | inr none ↦ absurd (lists.none_in_nil n none) ])
undone_is_covered image (Macho m) columns a c x u = let none : macho_step image m (a - m.base) columns ≡ Ok None = uncovered_ends image m a columns u in let some = x.answered in absurd cc
undone_is_covered image (Pe m) columns a c x u = absurd u

-- ---- chains

module _ (image : List Span) (modules : List FormatModule) (apart : AllPairs FormatsApart modules) where
  undone_in_home : (functions : List Function) (s : State) (c : Call) (columns : Columns) → (can : CanUndo image modules functions (s.ra - 1) s c) → Shows columns s → IsUndoneIn image can.lies.home columns (s.ra - 1) c
  undone_in_home functions s c columns can shows =
      let lies = body_lies (convention_of can.lies.home) c.callee (s.ra - 1) can.lies.is_function can.inside in
      record {
        part = part_of can.lies.home functions;
        describes = can.lies.describes;
        listed = in_part functions c.callee can.lies.home can.listed can.lies.inside;
        low = lies.0;
        high = lies.1;
        undone = call_undone image modules functions (s.ra - 1) s c columns can shows;
      }

  same_home : (functions more : List Function) (s : State) (c d : Call) → (x : CanUndo image modules functions (s.ra - 1) s c) → (y : CanUndo image modules more (s.ra - 1) s d) → x.lies.home ≡ y.lies.home
  same_home functions more s c d x y =
      let i = body_lies (convention_of x.lies.home) c.callee (s.ra - 1) x.lies.is_function x.inside in
      let j = body_lies (convention_of y.lies.home) d.callee (s.ra - 1) y.lies.is_function y.inside in
      one_home modules apart (s.ra - 1) x.lies.home y.lies.home x.lies.known y.lies.known
      (in_home image modules functions c.callee x.lies x.listed (s.ra - 1) i.0 i.1) (in_home image modules more d.callee y.lies y.listed (s.ra - 1) j.0 j.1)

  -- the end of the stack is no call
  not_ended : (functions : List Function) (s : State) (c : Call) (calls : List Call) (columns : Columns) → IsChain image (IsUncoveredBy image modules) functions s (c ∷ calls) → LiesDescribed image modules functions c.callee → Shows columns s →
      (s.ra ≡ 0) ⊎ ((s.ra ≢ 0) × IsUncoveredBy image modules (s.ra - 1)) → ⊥
  not_ended functions s c calls columns chain lies shows (inl none) = chain.0.called.returns none
  not_ended functions s c calls columns chain lies shows (inr free) =
      let can = can_undo image modules functions s c calls chain lies in
      let at = body_lies (convention_of can.lies.home) c.callee (s.ra - 1) can.lies.is_function can.inside in
      undone_is_covered image can.lies.home columns (s.ra - 1) c (undone_in_home functions s c columns can shows).undone
      (free.1 can.lies.home can.lies.known (in_home image modules functions c.callee can.lies can.listed (s.ra - 1) at.0 at.1))

  alike : (functions more : List Function) (s : State) (cs ds : List Call) (columns : Columns) → IsChain image (IsUncoveredBy image modules) functions s cs → AllByRecursion (λ (c : Call). LiesDescribed image modules functions c.callee) cs →
      IsChain image (IsUncoveredBy image modules) more s ds → AllByRecursion (λ (c : Call). LiesDescribed image modules more c.callee) ds → Shows columns s → Alike s cs ds
  alike functions more s [] [] columns x lx y ly shows = tt
  alike functions more s [] (d ∷ ds) columns x lx y ly shows = absurd (not_ended more s d ds columns y ly.0 shows x.ends)
  alike functions more s (c ∷ cs) [] columns x lx y ly shows = absurd (not_ended functions s c cs columns x lx.0 shows y.ends)
  alike functions more s (c ∷ cs) (d ∷ ds) columns x lx y ly shows =
      let a : ℕ = s.ra - 1 in
      let can = can_undo image modules functions s c cs x lx.0 in
      let also = can_undo image modules more s d ds y ly.0 in
      let home : FormatModule = can.lies.home in
      let u : IsUndoneIn image home columns a c = undone_in_home functions s c columns can shows in
      let v : IsUndoneIn image home columns a d = subst (λ (h : FormatModule). IsUndoneIn image h columns a d) (sym (same_home functions more s c d can also)) (undone_in_home more s d columns also shows) in
      let shown : Shows (columns_after image home columns a c u.undone) c.caller = shown_after image modules home columns a c u.undone in
      let callers : c.caller ≡ d.caller = one_state (columns_after image home columns a c u.undone) c.caller d.caller shown
      (subst (λ (k : Columns). Shows k d.caller) (sym (one_caller image home columns a c d u.undone v.undone)) (shown_after image modules home columns a d v.undone)) in
      let rest : IsChain image (IsUncoveredBy image modules) more c.caller ds = subst (λ (t : State). IsChain image (IsUncoveredBy image modules) more t ds) (sym callers) y.1 in
      (callers, same_actions image home columns a c d u v, alike functions more c.caller cs ds (columns_after image home columns a c u.undone) x.1 lx.1 rest ly.1 shown)

  pub chains_alike : (functions more : List Function) (s : State) (cs ds : List Call) → IsDescribedChain image modules functions s cs → IsDescribedChain image modules more s ds → Alike s cs ds
  chains_alike functions more s cs ds x y = alike functions more s cs ds (columns_of s) x.chain x.described y.chain y.described (columns_show s)

-- ---- chains over one list of functions that share no address

apart_not : (f g : Function) (a : ℕ) → FunctionsApart f g → (f.start ≤ a) × (a < f.end) → (g.start ≤ a) × (a < g.end) → ⊥
apart_not f g a (inl le) x y = omega (arith, x.1, y.0)
apart_not f g a (inr le) x y = omega (arith, x.0, y.1)

one_function : (fs : List Function) → AllPairs FunctionsApart fs → (a : ℕ) (f g : Function) → Contains fs f → Contains fs g → (f.start ≤ a) × (a < f.end) → (g.start ≤ a) × (a < g.end) → f ≡ g
one_function [] apart a f g p q i j = absurd (lists.none_in_nil f p)
one_function (x ∷ xs) apart a f g p q i j = go (lists.here_or_later x xs f p) (lists.here_or_later x xs g q) (λ p' q'. one_function xs (lists.tail_pairs FunctionsApart x xs apart) a f g p' q' i j)
  where
    go : (x ≡ f) ⊎ Contains xs f → (x ≡ g) ⊎ Contains xs g → (Contains xs f → Contains xs g → f ≡ g) → f ≡ g
    go (inl e) (inl h) ih = sym e ∙ h
    go (inl e) (inr q') ih = absurd (apart_not f g a (subst (λ y. FunctionsApart y g) e (lists.head_pairs FunctionsApart x xs g apart q')) i j)
    go (inr p') (inl h) ih = absurd (apart_not g f a (subst (λ y. FunctionsApart y f) h (lists.head_pairs FunctionsApart x xs f apart p')) j i)
    go (inr p') (inr q') ih = ih p' q'

module _ (image : List Span) (modules : List FormatModule) (functions : List Function) (alone : AllPairs FunctionsApart functions) where
  same_callees : (s : State) (cs ds : List Call) → IsChain image (IsUncoveredBy image modules) functions s cs → AllByRecursion (λ (c : Call). LiesDescribed image modules functions c.callee) cs →
      IsChain image (IsUncoveredBy image modules) functions s ds → AllByRecursion (λ (c : Call). LiesDescribed image modules functions c.callee) ds → Alike s cs ds → cs ≡ ds
  same_callees s [] [] x lx y ly a = refl
  same_callees s [] (d ∷ ds) x lx y ly a = absurd a
  same_callees s (c ∷ cs) [] x lx y ly a = absurd a
  same_callees s (c ∷ cs) (d ∷ ds) x lx y ly a =
      let at : ℕ = s.ra - 1 in
      let callee : c.callee ≡ d.callee = one_function functions alone at c.callee d.callee x.0.listed y.0.listed
      (body_lies (convention_of lx.0.home) c.callee at lx.0.is_function x.0.called.inside) (body_lies (convention_of ly.0.home) d.callee at ly.0.is_function y.0.called.inside) in
      let make : Function → State → Call = λ f t. record { callee = f; caller = t } in
      let call : c ≡ d = ap (λ (f : Function). make f c.caller) callee ∙ ap (make d.callee) a.0 in
      let rest : cs ≡ ds = same_callees c.caller cs ds x.1 lx.1 (subst (λ (t : State). IsChain image (IsUncoveredBy image modules) functions t ds) (sym a.0) y.1) ly.1 a.2 in
      ap (λ (k : Call). k ∷ cs) call ∙ ap (λ (l : List Call). d ∷ l) rest

  -- two described chains of one start are one
  pub one_chain : AllPairs FormatsApart modules → (s : State) (cs ds : List Call) → IsDescribedChain image modules functions s cs → IsDescribedChain image modules functions s ds → cs ≡ ds
  one_chain apart s cs ds x y = same_callees s cs ds x.chain x.described y.chain y.described (chains_alike image modules apart functions functions s cs ds x y)

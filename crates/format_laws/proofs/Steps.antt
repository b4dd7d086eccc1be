-- A described chain through modules of three formats is walked, call by call.
use Rattle.std.proofs.Common.{◌≡◌, ℕ, ◌-◌, List, [], ◌∷◌, None, Ok, refl, ap, ◌∙◌, arith, inl, inr}
use Rattle.std.specs.Prelude.{IsTrue}
use Rattle.std.specs.List.{AllByRecursion}
use Rattle.std.proofs.lemmas.Bool.{cases_lt}
use Rattle.memory_image.specs.Image.{Span}
use Rattle.unwind_definitions.specs.Expressions.{evaluation}
use Rattle.unwind_definitions.specs.Caller.{Columns}
use Rattle.unwind_definitions.specs.State.{State, IsState, Shows}
use Rattle.unwind_definitions.specs.Prologue.{steps_of}
use Rattle.unwind_definitions.specs.Function.{Function, IsFunction}
use Rattle.unwind_definitions.specs.Chain.{Call, IsLink, IsChain}
use Rattle.unwind_laws.proofs.Booleans as lists
use Rattle.unwind_laws.proofs.Undo.{rises}
use Rattle.unwind_laws.proofs.Walk.{one_step}
use Rattle.macho_unwind_info.specs.Lookup.{lookup_of, range_start, range_end}
use Rattle.macho_unwind_info.proofs.Covering.{inside, outside}
use Rattle.macho_unwind_info.proofs.LookupLemmas.{lookup_of-is}
use Rattle.format_definitions.specs.CompactStep.{MachoModule, stepped_by, found_in, macho_step}
use Rattle.format_definitions.specs.Modules.{FormatModule, Elf, Macho, Pe, in_format, convention_of, part_of, MachoCoversNot, DescribesFormat, IsUncoveredBy, LiesDescribed, IsDescribedChain}
use Rattle.format_laws.specs.Undone.{FormatUndone, columns_after, CanUndo, IsWalk}
use Rattle.format_laws.proofs.MachoSteps.{macho_undone}
use Rattle.format_laws.proofs.PeSteps.{body_call_undone}

-- ---- what no function of a listing covers

pub uncovered_ends : (image : List Span) (m : MachoModule) (a : ℕ) (columns : Columns) → MachoCoversNot image m a → macho_step image m (a - m.base) columns ≡ Ok None
uncovered_ends image m a columns u =
    ap (found_in image m (a - m.base) columns) u.parses ∙ ap (stepped_by image m (a - m.base) columns) none
  where
    none : lookup_of u.info (a - m.base) ≡ Ok None
    none = elim (cases_lt (a - m.base) (range_start u.info)) [
      | inl before ↦ outside u.info (a - m.base) (lookup_of u.info (a - m.base)) u.pages (lookup_of-is u.info (a - m.base)) (inl before)
      | inr from ↦ elim (cases_lt (a - m.base) (range_end u.info)) [
        | inl within ↦ let found = inside u.info (a - m.base) (lookup_of u.info (a - m.base)) u.pages (lookup_of-is u.info (a - m.base)) (from, within) in
            absurd (u.uncovered found.0 found.2.listed found.2.covers)
        | inr after ↦ outside u.info (a - m.base) (lookup_of u.info (a - m.base)) u.pages (lookup_of-is u.info (a - m.base)) (inr after)
      ]
    ]

module _ (image : List Span) (modules : List FormatModule) where
  pub undone_in : (functions : List Function) (a : ℕ) (s : State) (c : Call) (columns : Columns) → (can : CanUndo image modules functions a s c) → Shows columns s →
      (home : FormatModule) → IsTrue (in_format c.callee.start home) → IsFunction (convention_of home) c.callee → DescribesFormat image home (part_of home functions) → FormatUndone image home columns a c
  undone_in functions a s c columns can shows (Elf m) within is describes =
      one_step (record { image = image; modules = m ∷ [] }) (evaluation image) functions a s c columns (record {
        is_function = is;
        listed = can.listed;
        lies = record { home = m; known = (0, omega arith, refl); inside = within; describes = describes };
        inside = can.inside;
        entered = can.entered;
        caller = can.caller;
        ends = can.ends;
      }) shows
  undone_in functions a s c columns can shows (Macho m) within is describes =
      macho_undone image c.callee is s c.caller columns can.entered can.caller shows can.ends a can.inside m (part_of (Macho m) functions) describes
      (lists.contains_filter (λ (f : Function). in_format f.start (Macho m)) functions c.callee can.listed within)
  undone_in functions a s c columns can shows (Pe m) within is describes =
      body_call_undone image m (part_of (Pe m) functions) describes c.callee is c.caller s can.caller columns shows
      (lists.contains_filter (λ (f : Function). in_format f.start (Pe m)) functions c.callee can.listed within) a can.inside can.entered

  -- a call is undone by the module that its function lies in
  pub call_undone : (functions : List Function) (a : ℕ) (s : State) (c : Call) (columns : Columns) → (can : CanUndo image modules functions a s c) → Shows columns s → FormatUndone image can.lies.home columns a c
  call_undone functions a s c columns can shows = undone_in functions a s c columns can shows can.lies.home can.lies.inside can.lies.is_function can.lies.describes

  pub shown_after : (home : FormatModule) (columns : Columns) (a : ℕ) (c : Call) (u : FormatUndone image home columns a c) → Shows (columns_after image home columns a c u) c.caller
  shown_after (Elf m) columns a c u = u.undoes.shows
  shown_after (Macho m) columns a c u = u.shows
  shown_after (Pe m) columns a c u = u.shows

  pub state_in : (functions : List Function) (s : State) (calls : List Call) → IsChain image (IsUncoveredBy image modules) functions s calls → IsState s
  state_in functions s [] chain = chain.state
  state_in functions s (c ∷ calls) chain = chain.0.state

  -- what a link of a chain asks is what its step asks
  pub can_undo : (functions : List Function) (s : State) (c : Call) (calls : List Call) → IsChain image (IsUncoveredBy image modules) functions s (c ∷ calls) → LiesDescribed image modules functions c.callee → CanUndo image modules functions (s.ra - 1) s c
  can_undo functions s c calls chain lies =
      let link : IsLink image functions s c calls = chain.0 in
      record {
        listed = link.listed;
        lies = lies;
        inside = link.called.inside;
        entered = link.called.entered;
        caller = state_in functions c.caller calls chain.1;
        ends = λ outer. (link.last outer).1;
      }

  walked : (functions : List Function) (s : State) (calls : List Call) (columns : Columns) → IsChain image (IsUncoveredBy image modules) functions s calls →
      AllByRecursion (λ (c : Call). LiesDescribed image modules functions c.callee) calls → Shows columns s → IsWalk image modules functions columns s calls
  unfolding can_undo
  walked functions s [] columns chain lie shows = (shows, chain)
  walked functions s (c ∷ calls) columns chain lie shows =
      let link : IsLink image functions s c calls = chain.0 in
      let step : FormatUndone image lie.0.home columns (s.ra - 1) c = call_undone functions (s.ra - 1) s c columns (can_undo functions s c calls chain lie.0) shows in (
        shows,
        link.called.returns,
        rises image c.callee.outermost (steps_of c.callee.prologue) c.caller s link.called.entered,
        (lie.0, step, walked functions c.caller calls (columns_after image lie.0.home columns (s.ra - 1) c step) chain.1 lie.1 (shown_after lie.0.home columns (s.ra - 1) c step)),
      )

  -- A described chain is walked, from columns that show its start.
  pub chain_walked : (functions : List Function) (s : State) (calls : List Call) (columns : Columns) → IsDescribedChain image modules functions s calls → Shows columns s → IsWalk image modules functions columns s calls
  chain_walked functions s calls columns is shows = walked functions s calls columns is.chain is.described shows

-- The tables of a described function say what its steps make known, and a chain over described functions is one of facts.
use Rattle.std.proofs.Common.{◌≡◌, ◌≢◌, ℕ, ◌+◌, ◌-◌, ◌<◌, ◌≤◌, Bool, true, false, leb, ltb, List, [], ◌∷◌, Option, Some, None, Result, Ok, refl, ap, subst, sym, ◌∙◌, arith}
use Rattle.std.specs.Prelude.{IsTrue, IfSome, MatchOption}
use Rattle.std.specs.List.{Contains, AllByRecursion}
use Rattle.std.proofs.lemmas.Bool.{le-leb, lt-ltb}
use Rattle.memory_image.specs.Image.{Span}
use Rattle.unwind_definitions.specs.Pointers.{Bases, Pointer, Direct, Indirect}
use Rattle.unwind_definitions.specs.Caller.{StepFault}
use Rattle.unwind_definitions.specs.Entries.{Fde}
use Rattle.unwind_definitions.specs.Row.{argument_size}
use Rattle.unwind_definitions.specs.Scan.{fdes_of}
use Rattle.unwind_definitions.specs.State.{State, IsState}
use Rattle.unwind_definitions.specs.Prologue.{SystemV, PrologueStep, steps_of}
use Rattle.unwind_definitions.specs.Entered.{IsEntered}
use Rattle.unwind_definitions.specs.Function.{Function, Site, Action, NoAction, Cleanup, Catch, Filter, Terminate, IsFunction, AreWithin, AreSitesOf, MayAsk, ranges_of, in_body, action_at}
use Rattle.unwind_definitions.specs.DescribedRows.{HasRow, DescribesRows}
use Rattle.unwind_definitions.specs.FrameTable.{has_range_of, HasDescription, DescribesFunction, IsEmittedPersonality}
use Rattle.unwind_definitions.specs.LanguageTable.{input_at, IsLanguageTable, LeadsToLanguage}
use Rattle.unwind_definitions.specs.LanguageSearch.{personality_address}
use Rattle.unwind_definitions.specs.Delivery.{frames_of}
use Rattle.unwind_definitions.specs.Module.{Module, Process, in_module, bases_of, DescribesModule, IsUncovered}
use Rattle.unwind_definitions.specs.Chain.{Call, IsLink, IsChain, states_of}
use Rattle.unwind_definitions.specs.Valid.{part_in, LiesInElf, IsElfChain}
use Rattle.unwind_definitions.specs.Stopped.{StandsAfter}
use Rattle.unwind_laws.specs.Walked.{CanStep, CanStepInside}
use Rattle.unwind_laws.proofs.Booleans.{all_contains, contains_filter, filter_contains, first}
use Rattle.unwind_laws.specs.Found.{FdeRead, AsksAs}
use Rattle.unwind_laws.proofs.Signal.{no_signal, fde_read}
use Rattle.unwind_laws.proofs.Asked.{asks_as}
use Rattle.unwind_laws.proofs.Found.{body_inside, covers_is}
use Rattle.unwind_laws.proofs.InPrologue.{stands_inside, inside_row, done_may}
use Rattle.frame_facts.specs.Facts.{Facts, StandsWith}
use Rattle.frame_facts.specs.FactRows.{SaysFacts}
use Rattle.frame_facts.specs.FactTables.{HasTables, AreSaidAt}
use Rattle.frame_facts.specs.FactChains.{chain_states, IsFactChain}
use Rattle.frame_facts.specs.FactDeliveries.{code_with_sites, HasSites, AsksAt, AreAsked, asked_frames_of}
use Rattle.frame_facts.specs.StepFacts.{facts_in_prologue, body_facts, called_frames}
use Rattle.frame_facts_laws.proofs.FromSteps.{body_stands, inside_stands, outermost_stands, body_says, inside_says, outermost_says}

-- a module that describes functions has tables
abbrev pub tables_of : (image : List Span) (m : Module) (functions : List Function) → DescribesModule image m functions → HasTables image m
tables_of image m functions d = record {
  frame = d.frame;
  address = d.address;
  entries = d.entries;
  frames = record { reads = d.frames.reads; lengths = d.frames.lengths; each = tt; foreign = λ fde has none. tt };
  nonempty = d.nonempty;
  apart = d.apart;
  inside = tt;
  header = d.header;
}

pub body_row : (bases : Bases) (f : Function) (fde : Fde) (a : ℕ) → IsTrue (in_body f a) → DescribesRows bases f fde → HasRow bases fde a (λ run. SaysFacts (body_facts f) run × (argument_size run ≡ 0))
body_row bases f fde a inside d = go f.outermost refl
  where
    go : (b : Bool) → f.outermost ≡ b → HasRow bases fde a (λ run. SaysFacts (body_facts f) run × (argument_size run ≡ 0))
    go true e = let row = d.outermost e a inside in rw e (row.0, row.1, (outermost_says row.0 row.2, row.2.arguments))
    go false e = let row = d.bodies e a inside in rw e (row.0, row.1, (body_says (steps_of f.prologue) row.0 row.2, row.2.arguments))

inner_row : (bases : Bases) (image : List Span) (f : Function) (fde : Fde) (done later : List PrologueStep) (t s : State) →
    IsFunction SystemV f → f.outermost ≡ false → StandsAfter image f done later t s → DescribesRows bases f fde → HasRow bases fde s.ra (λ run. SaysFacts (facts_in_prologue (steps_of done)) run × (argument_size run ≡ 0))
inner_row bases image f fde done later t s is inner st d = let row = inside_row bases image f fde done later t s is inner d st in (row.0, row.1, (inside_says (steps_of done) row.0 row.2, row.2.arguments))

-- a state that was entered by a function's prologue stands with what is known in the body
body_entered : (image : List Span) (f : Function) (t s : State) → IsFunction SystemV f → IsEntered image f.outermost (steps_of f.prologue) t s → (IsTrue f.outermost → t.ra ≡ 0) → StandsWith image (body_facts f) t s
body_entered image f t s is entered ends = go f.outermost refl
  where
    go : (b : Bool) → f.outermost ≡ b → StandsWith image (body_facts f) t s
    go true e =
        let none : steps_of f.prologue ≡ [] = ap steps_of (is.outermost e).0 in
        let entered0 : IsEntered image true (steps_of f.prologue) t s = rw e at entered in
        let entered1 : IsEntered image true [] t s = rw none at entered0 in
        rw e (outermost_stands image t s entered1 (ends e))
    go false e = let entered0 : IsEntered image false (steps_of f.prologue) t s = rw e at entered in rw e (body_stands image (steps_of f.prologue) t s is.prologue.each entered0)

-- ---- call sites of a description

more_all : {A : Type 0} (P Q : A → Type 0) → ((x : A) → P x → Q x) → (xs : List A) → AllByRecursion P xs → AllByRecursion Q xs
more_all P Q each [] all = tt
more_all P Q each (x ∷ xs) all = (each x all.0, more_all P Q each xs all.1)

module _ (image : List Span) (bases : Bases) (f : Function) (fde : Fde) (start : fde.start ≡ f.start) (end : fde.start + fde.size ≡ f.end) where
  may_ask : (x : Action) → MayAsk f x → MayAsk (code_with_sites fde f.sites) x
  may_ask NoAction h = tt
  may_ask (Cleanup pad) h = (omega (arith, h.0, start), omega (arith, h.1, end))
  may_ask (Catch pad) h = (omega (arith, h.0, start), omega (arith, h.1, end))
  may_ask (Filter pad) h = (omega (arith, h.0, start), omega (arith, h.1, end))
  may_ask Terminate h = absurd h

  sites_there : (sites : List Site) → AreSitesOf f sites → AreSitesOf (code_with_sites fde f.sites) sites
  sites_there sites are = record {
    ranges = subst (λ (n : ℕ). AreWithin n (fde.start + fde.size) (ranges_of sites)) (sym start) (subst (λ (n : ℕ). AreWithin f.start n (ranges_of sites)) (sym end) are.ranges);
    actions = more_all (λ (s : Site). MayAsk f s.action) (λ (s : Site). MayAsk (code_with_sites fde f.sites) s.action) (λ s h. may_ask s.action h) sites are.actions;
  }

  each_there : (o : Option (List Site)) → IfSome o (AreSitesOf f) → IfSome o (AreSitesOf (code_with_sites fde f.sites))
  each_there None h = tt
  each_there (Some sites) h = sites_there sites h

  leads_there : (o : Option Pointer) → LeadsToLanguage image f o → LeadsToLanguage image (code_with_sites fde f.sites) o
  leads_there None h = h
  leads_there (Some (Direct t)) h = (h.0, h.1, subst (λ (n : ℕ). IsLanguageTable image t n h.0) (sym start) h.2)
  leads_there (Some (Indirect t)) h = absurd h

-- a described function's description has its call sites
has_sites : (image : List Span) (bases : Bases) (f : Function) (fde : Fde) → IsFunction SystemV f → FdeRead bases fde → DescribesFunction image bases f fde → HasSites image fde f.sites
has_sites image bases f fde is read d = record {
  each = each_there image bases f fde d.code.start d.code.end f.sites is.sites;
  leads = leads_there image bases f fde d.code.start d.code.end fde.language d.language;
  personality = names fde.cie.letters.personality refl d.code.cie.personality;
}
  where
    known : AsksAs image bases f fde
    known = asks_as image bases f fde is read d

    routine : Option ℕ → Result (Option ℕ) StepFault
    routine r = Ok r

    routine_none : (r : Option ℕ) → routine r ≡ routine None → r ≡ None
    routine_none r e = cc

    names : (o : Option (ℕ × Pointer)) → fde.cie.letters.personality ≡ o → MatchOption o (Unit {0}) (IsEmittedPersonality image) → MatchOption o (f.sites ≡ None) (IsEmittedPersonality image)
    names None e h = let none : personality_address image fde ≡ Ok None = rw e refl in let same : known.routine ≡ None = routine_none known.routine (sym known.personality ∙ none) in known.silent same
    names (Some p) e h = h

module _ (p : Process) where
  -- what the rows of a described function say at an address is said there
  pub said_in : (functions : List Function) (f : Function) (a : ℕ) (facts : Facts) → Contains functions f → LiesInElf p functions f → f.start ≤ a → a < f.end →
      ((bases : Bases) (fde : Fde) → DescribesRows bases f fde → HasRow bases fde a (λ run. SaysFacts facts run × (argument_size run ≡ 0))) → AreSaidAt p a facts
  said_in functions f a facts has lies from below says =
      let m : Module = lies.home in
      let part : List Function = part_in m functions in
      let d : DescribesModule p.image m part = lies.describes in
      let fdes : List Fde = fdes_of d.entries in
      let listed : Contains part f = contains_filter (λ (g : Function). in_module g.start m) functions f has lies.inside in
      let within : (m.start ≤ f.start) × (f.end ≤ m.end) = all_contains (λ (g : Function). (m.start ≤ g.start) × (g.end ≤ m.end)) part f d.inside listed in
      let one = all_contains (HasDescription p.image (bases_of m d.frame) fdes) part f d.frames.each listed in
      let fde : Fde = one.fde in
      let known : Contains fdes fde = (filter_contains (has_range_of f) fdes fde (subst (λ (l : List Fde). Contains l fde) (sym one.one) (first fde []))).0 in
      let start = one.describes.code.start in
      let end = one.describes.code.end in
      let x : leb m.start a ≡ true = le-leb m.start a (omega (arith, within.0)) in
      let y : ltb a m.end ≡ true = lt-ltb a m.end (omega (arith, within.1)) in
      let row = says (bases_of m d.frame) fde one.describes.code.rows in
      record {
        home = m;
        known = lies.known;
        inside = rw (x, y) refl;
        says = record {
          tables = tables_of p.image m part d;
          fde = fde;
          listed = known;
          covers = covers_is fde a (omega arith) (omega arith);
          unmarked = no_signal (bases_of m d.frame) (input_at p.image d.frame) 0 d.entries fde p.image d.frames.reads known one.describes.code.cie;
          row = (row.0, row.1, row.2.0);
        };
      }

  -- At an address in the body of a described function its tables say what its prologue makes known, and a state that was entered
  -- by that stands with it.
  pub body_said : (functions : List Function) (a : ℕ) (s : State) (c : Call) → CanStep p functions a s c → AreSaidAt p a (body_facts c.callee)
  body_said functions a s c can =
      let lies = body_inside c.callee a can.is_function can.inside in
      said_in functions c.callee a (body_facts c.callee) can.listed can.lies lies.0 lies.1 (λ bases fde d. body_row bases c.callee fde a can.inside d)

  pub body_known : (functions : List Function) (a : ℕ) (s : State) (c : Call) → CanStep p functions a s c → StandsWith p.image (body_facts c.callee) c.caller s
  body_known functions a s c can = body_entered p.image c.callee c.caller s can.is_function can.entered can.ends

  -- The same of a state that stands inside the prologue, by the steps that have run.
  pub inside_said : (functions : List Function) (done later : List PrologueStep) (s : State) (c : Call) → CanStepInside p functions done later s c → AreSaidAt p s.ra (facts_in_prologue (steps_of done))
  inside_said functions done later s c can =
      let lies = stands_inside c.callee p.image done later c.caller s can.is_function can.stands in
      said_in functions c.callee s.ra (facts_in_prologue (steps_of done)) can.listed can.lies lies.0 lies.1 (λ bases fde d. inner_row bases p.image c.callee fde done later c.caller s can.is_function can.inner can.stands d)

  pub inside_known : (functions : List Function) (done later : List PrologueStep) (s : State) (c : Call) → CanStepInside p functions done later s c → StandsWith p.image (facts_in_prologue (steps_of done)) c.caller s
  inside_known functions done later s c can =
      inside_stands p.image (steps_of done) c.caller s (done_may p.image c.callee done later c.caller s can.is_function can.stands) can.stands.entered can.stands.intact

  -- ---- what is asked

  -- what is said at an address in the body of a described function asks what the function does, and has no arguments
  pub body_asks : (functions : List Function) (a : ℕ) (s : State) (c : Call) (can : CanStep p functions a s c) → AsksAt p a (body_facts c.callee) (body_said functions a s c can) (action_at c.callee a) 0
  unfolding said_in body_said
  body_asks functions a s c can =
      let f : Function = c.callee in
      let m : Module = can.lies.home in
      let part : List Function = part_in m functions in
      let d : DescribesModule p.image m part = can.lies.describes in
      let bases : Bases = bases_of m d.frame in
      let fdes : List Fde = fdes_of d.entries in
      let listed : Contains part f = contains_filter (λ (g : Function). in_module g.start m) functions f can.listed can.lies.inside in
      let one = all_contains (HasDescription p.image bases fdes) part f d.frames.each listed in
      let fde : Fde = one.fde in
      let known : Contains fdes fde = (filter_contains (has_range_of f) fdes fde (subst (λ (l : List Fde). Contains l fde) (sym one.one) (first fde []))).0 in
      let read = fde_read bases (input_at p.image d.frame) 0 d.entries fde d.frames.reads known in
      let row = body_row bases f fde a can.inside one.describes.code.rows in
      record {
        sites = f.sites;
        has = has_sites p.image bases f fde can.is_function read one.describes;
        asked = refl;
        size = sym row.2.1;
      }

  -- ---- chains

  pub state_of : (functions : List Function) (s : State) (calls : List Call) → IsChain p.image (IsUncovered p) functions s calls → IsState s
  state_of functions s [] chain = chain.state
  state_of functions s (c ∷ calls) chain = chain.0.state

  chain_facts : (functions : List Function) → AllByRecursion (IsFunction SystemV) functions → (s : State) (calls : List Call) → IsChain p.image (IsUncovered p) functions s calls →
      AllByRecursion (λ (c : Call). LiesInElf p functions c.callee) calls → IsFactChain p false s (called_frames calls)
  chain_facts functions are s [] chain lie = record { state = chain.state; ends = chain.ends }
  chain_facts functions are s (c ∷ calls) chain lie =
      let link : IsLink p.image functions s c calls = chain.0 in
      let can : CanStep p functions (s.ra - 1) s c = record {
        is_function = all_contains (IsFunction SystemV) functions c.callee are link.listed;
        listed = link.listed;
        lies = lie.0;
        inside = link.called.inside;
        entered = link.called.entered;
        caller = state_of functions c.caller calls chain.1;
        ends = λ outer. (link.last outer).1;
      } in (
        record {
          state = link.state;
          returns = link.called.returns;
          stands = body_known functions (s.ra - 1) s c can;
          said = body_said functions (s.ra - 1) s c can;
        },
        chain_facts functions are c.caller calls chain.1 lie.1,
      )

  chain_asks : (functions : List Function) (are : AllByRecursion (IsFunction SystemV) functions) (s : State) (calls : List Call) (chain : IsChain p.image (IsUncovered p) functions s calls)
      (lie : AllByRecursion (λ (c : Call). LiesInElf p functions c.callee) calls) → AreAsked p s (called_frames calls) (chain_facts functions are s calls chain lie) (asked_frames_of (frames_of s calls))
  unfolding chain_facts
  chain_asks functions are s [] chain lie = refl
  chain_asks functions are s (c ∷ calls) chain lie = (refl, body_asks functions (s.ra - 1) s c _, chain_asks functions are c.caller calls chain.1 lie.1)

  -- A chain over described functions is one of facts.
  pub described_facts : (functions : List Function) (s : State) (calls : List Call) → IsElfChain p functions s calls → IsFactChain p false s (called_frames calls)
  described_facts functions s calls is = chain_facts functions is.are_functions s calls is.chain is.described

  -- It asks what the functions do.
  pub described_asked : (functions : List Function) (s : State) (calls : List Call) → IsElfChain p functions s calls → (chain : IsFactChain p false s (called_frames calls)) × AreAsked p s (called_frames calls) chain (asked_frames_of (frames_of s calls))
  described_asked functions s calls is = (chain_facts functions is.are_functions s calls is.chain is.described, chain_asks functions is.are_functions s calls is.chain is.described)

  -- The same where the start was stopped where it stands: at an address of its body, or inside its prologue.
  pub body_stop_facts : (functions : List Function) (s : State) (c : Call) (calls : List Call) → IsState s → s.ra ≢ 0 → CanStep p functions s.ra s c → IsElfChain p functions c.caller calls →
      IsFactChain p true s (called_frames (c ∷ calls))
  body_stop_facts functions s c calls words returns can is = (
    record {
      state = words;
      returns = returns;
      stands = body_known functions s.ra s c can;
      said = body_said functions s.ra s c can;
    },
    described_facts functions c.caller calls is,
  )

  pub prologue_stop_facts : (functions : List Function) (done later : List PrologueStep) (s : State) (c : Call) (calls : List Call) → IsState s → s.ra ≢ 0 → CanStepInside p functions done later s c → IsElfChain p functions c.caller calls →
      IsFactChain p true s (record { facts = facts_in_prologue (steps_of done); caller = c.caller } ∷ called_frames calls)
  prologue_stop_facts functions done later s c calls words returns can is = (
    record {
      state = words;
      returns = returns;
      stands = inside_known functions done later s c can;
      said = inside_said functions done later s c can;
    },
    described_facts functions c.caller calls is,
  )

-- its states are the chain's
pub called_states : (s : State) (calls : List Call) → chain_states s (called_frames calls) ≡ states_of s calls
called_states s [] = refl
called_states s (c ∷ calls) = ap (λ states. s ∷ states) (called_states c.caller calls)

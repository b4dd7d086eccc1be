-- A described chain is walked.
use Rattle.std.proofs.Common.{◌≡◌, ℕ, ◌-◌, ◌<◌, ◌≤◌, true, leb, ltb, List, [], ◌∷◌, refl, arith, inr}
use Rattle.std.specs.Prelude.{IsTrue}
use Rattle.std.specs.List.{Contains, list_any, AllByRecursion}
use Rattle.std.proofs.lemmas.Bool.{le-leb, lt-ltb}
use Rattle.unwind_definitions.specs.Caller.{Evaluates, Columns}
use Rattle.unwind_definitions.specs.State.{State, IsState, Shows}
use Rattle.unwind_definitions.specs.Prologue.{SystemV, PrologueStep, steps_of}
use Rattle.unwind_definitions.specs.Function.{Function, IsFunction}
use Rattle.unwind_definitions.specs.Module.{Module, Process, in_module, bases_of, DescribesModule, IsUncovered}
use Rattle.unwind_definitions.specs.Chain.{Call, IsLink, IsChain, states_of, StacksRise}
use Rattle.unwind_definitions.specs.Valid.{part_in, DescribesPart, LiesInElf, IsElfChain, IsElfValid}
use Rattle.unwind_laws.specs.Found.{FindsFunction}
use Rattle.unwind_laws.specs.Walked.{Finds, Steps, CanStep, CanStepInside, IsElfWalk}
use Rattle.unwind_laws.proofs.Booleans.{all_contains, contains_filter, any_contains}
use Rattle.unwind_laws.proofs.Undo.{rises}
use Rattle.unwind_laws.proofs.InPrologue.{stands_inside, stopped_row}
use Rattle.unwind_laws.proofs.Found.{function_found, body_inside, Known, RowUndoes, row_undoes}

module _ (p : Process) where
  state_of : (functions : List Function) (s : State) (calls : List Call) → IsChain p.image (IsUncovered p) functions s calls → IsState s
  state_of functions s [] chain = chain.state
  state_of functions s (c ∷ calls) chain = chain.0.state

  -- a function of a described part, and an address inside it
  pub record CanFind (functions : List Function) (f : Function) (a : ℕ) : Type 0 where
    pub listed : Contains functions f
    pub lies : LiesInElf p functions f
    pub from : f.start ≤ a
    pub below : a < f.end

  -- the module of such an address, and the description that is found there
  pub record FoundAt (functions : List Function) (f : Function) (a : ℕ) (lies : LiesInElf p functions f) : Type 0 where
    pub inside : IsTrue (in_module a lies.home)
    pub finds : FindsFunction p.image lies.home lies.describes.frame f a

  pub found_at : (functions : List Function) (f : Function) (a : ℕ) (can : CanFind functions f a) → FoundAt functions f a can.lies
  found_at functions f a can =
      let m : Module = can.lies.home in
      let part : List Function = part_in m functions in
      let d : DescribesModule p.image m part = can.lies.describes in
      let listed : Contains part f = contains_filter (λ (g : Function). in_module g.start m) functions f can.listed can.lies.inside in
      let within : (m.start ≤ f.start) × (f.end ≤ m.end) = all_contains (λ (g : Function). (m.start ≤ g.start) × (g.end ≤ m.end)) part f d.inside listed in
      let from = can.from in let below = can.below in
      let x : leb m.start a ≡ true = le-leb m.start a (omega (arith, within.0)) in
      let y : ltb a m.end ≡ true = lt-ltb a m.end (omega (arith, within.1)) in
      record { inside = rw (x, y) refl; finds = function_found p.image m part d f a listed from below }

  -- what is found, and a row there that undoes the call, make a step
  step_of : (evaluates : Evaluates) (functions : List Function) (a : ℕ) (c : Call) (columns : Columns) (lies : LiesInElf p functions c.callee) (x : FoundAt functions c.callee a lies) →
      RowUndoes p evaluates lies.home lies.describes.frame x.finds.fde a columns c.caller → Steps p evaluates columns a c
  step_of evaluates functions a c columns lies x u =
      let finds : Finds p c.callee a = record {
        home = lies.home;
        known = lies.known;
        inside = x.inside;
        frame = lies.describes.frame;
        address = lies.describes.address;
        part = part_in lies.home functions;
        home_describes = lies.describes;
        framed = refl;
        fde = x.finds.fde;
        found = x.finds.found;
        no_signal = x.finds.no_signal;
        read = x.finds.read;
        describes = x.finds.describes;
        run = u.run;
        has_row = u.has_row;
        no_arguments = u.no_arguments;
      } in
      record { finds = finds; undoes = u.undoes }

  -- a call's step: the module, the description, its row, and the caller
  pub one_step : (evaluates : Evaluates) (functions : List Function) (a : ℕ) (s : State) (c : Call) (columns : Columns) → CanStep p functions a s c → Shows columns s → Steps p evaluates columns a c
  one_step evaluates functions a s c columns can shows =
      let lies = body_inside c.callee a can.is_function can.inside in
      let x : FoundAt functions c.callee a can.lies = found_at functions c.callee a (record { listed = can.listed; lies = can.lies; from = lies.0; below = lies.1 }) in
      let known : Known p can.lies.home can.lies.describes.frame a s c x.finds.fde =
      record { describes = x.finds.describes; is_function = can.is_function; inside = can.inside; entered = can.entered; caller = can.caller; ends = can.ends } in
      step_of evaluates functions a c columns can.lies x (row_undoes p evaluates can.lies.home can.lies.describes.frame a s c columns x.finds.fde known shows)

  -- the step of such a state, by its own address
  pub step_inside : (evaluates : Evaluates) (functions : List Function) (done later : List PrologueStep) (s : State) (c : Call) (columns : Columns) → CanStepInside p functions done later s c → Shows columns s →
      Steps p evaluates columns s.ra c
  step_inside evaluates functions done later s c columns can shows =
      let lies = stands_inside c.callee p.image done later c.caller s can.is_function can.stands in
      let x : FoundAt functions c.callee s.ra can.lies = found_at functions c.callee s.ra (record { listed = can.listed; lies = can.lies; from = lies.0; below = lies.1 }) in
      let row = stopped_row (bases_of can.lies.home can.lies.describes.frame) evaluates p.image c.callee x.finds.fde done later c.caller s columns can.is_function can.inner x.finds.describes.code.rows can.stands can.caller shows in
      step_of evaluates functions s.ra c columns can.lies x (record { run = row.0; has_row = row.1; no_arguments = row.2.1; undoes = row.2.0 })

  walked : (evaluates : Evaluates) (functions : List Function) → AllByRecursion (IsFunction SystemV) functions → (s : State) (calls : List Call) (columns : Columns) →
      IsChain p.image (IsUncovered p) functions s calls → AllByRecursion (λ (c : Call). LiesInElf p functions c.callee) calls → Shows columns s → IsElfWalk p evaluates functions columns s calls
  walked evaluates functions are s [] columns chain lie shows = (shows, chain)
  walked evaluates functions are s (c ∷ calls) columns chain lie shows =
      let link : IsLink p.image functions s c calls = chain.0 in
      let can : CanStep p functions (s.ra - 1) s c = record {
        is_function = all_contains (IsFunction SystemV) functions c.callee are link.listed;
        listed = link.listed;
        lies = lie.0;
        inside = link.called.inside;
        entered = link.called.entered;
        caller = state_of functions c.caller calls chain.1;
        ends = λ outer. (link.last outer).1;
      } in
      let step : Steps p evaluates columns (s.ra - 1) c = one_step evaluates functions (s.ra - 1) s c columns can shows in (
        shows,
        link.called.returns,
        rises p.image c.callee.outermost (steps_of c.callee.prologue) c.caller s link.called.entered,
        (step, walked evaluates functions are c.caller calls step.undoes.caller chain.1 lie.1 step.undoes.shows),
      )

  -- A described chain is walked, from columns that show its start.
  pub chain_walked : (evaluates : Evaluates) (functions : List Function) (s : State) (calls : List Call) (columns : Columns) → IsElfChain p functions s calls → Shows columns s →
      IsElfWalk p evaluates functions columns s calls
  chain_walked evaluates functions s calls columns is shows = walked evaluates functions is.are_functions s calls columns is.chain is.described shows

  -- each function of a valid list lies in a module that describes its part
  lies_described : (functions : List Function) → AllByRecursion (λ (m : Module). DescribesPart p m functions) p.modules → AllByRecursion (λ (f : Function). IsTrue (list_any (in_module f.start) p.modules)) functions →
      (f : Function) → Contains functions f → LiesInElf p functions f
  lies_described functions modules others f has =
      let some = any_contains (in_module f.start) p.modules (all_contains (λ (g : Function). IsTrue (list_any (in_module g.start) p.modules)) functions f others has) in
      record { home = some.0; known = some.1; inside = some.2; describes = all_contains (λ (m : Module). DescribesPart p m functions) p.modules some.0 modules some.1 }

  callees_described : (functions : List Function) (s : State) (calls : List Call) → ((f : Function) → Contains functions f → LiesInElf p functions f) → IsChain p.image (IsUncovered p) functions s calls →
      AllByRecursion (λ (c : Call). LiesInElf p functions c.callee) calls
  callees_described functions s [] each chain = tt
  callees_described functions s (c ∷ calls) each chain = (each c.callee chain.0.listed, callees_described functions c.caller calls each chain.1)

  -- a valid chain is described
  pub valid_described : (start : Columns) (resumes : List (ℕ × ℕ)) (functions : List Function) (s : State) (calls : List Call) → IsElfValid p start resumes functions s calls → IsElfChain p functions s calls
  valid_described start resumes functions s calls valid = record {
    are_functions = valid.are_functions;
    chain = valid.chain;
    described = callees_described functions s calls (lies_described functions valid.modules valid.no_others) valid.chain;
    ends = inr (λ m has inside. all_contains (λ (k : Module). DescribesPart p k functions) p.modules m valid.modules has);
  }

  -- stack pointers strictly rise
  pub chain_rises : (functions : List Function) (s : State) (calls : List Call) → IsChain p.image (IsUncovered p) functions s calls → StacksRise (states_of s calls)
  chain_rises functions s [] chain = tt
  chain_rises functions s (c ∷ []) chain = (rises p.image c.callee.outermost (steps_of c.callee.prologue) c.caller s chain.0.called.entered, tt)
  chain_rises functions s (c ∷ d ∷ calls) chain = (rises p.image c.callee.outermost (steps_of c.callee.prologue) c.caller s chain.0.called.entered, chain_rises functions c.caller (d ∷ calls) chain.1)

-- The description of a described function is the one that is found, and its row undoes the call.
use Rattle.std.proofs.Common.{◌≡◌, ℕ, ◌+◌, ◌<◌, ◌≤◌, Bool, true, false, ltb, leb, List, [], ◌∷◌, Option, Some, None, Result, Ok, Err, refl, sym, ap, subst, ◌∙◌, arith, inl, inr}
use Rattle.std.specs.Prelude.{◌⊎◌, IsTrue}
use Rattle.std.specs.Option.{option_map_or}
use Rattle.std.specs.List.{Contains, AllPairs, list_any, AllByRecursion}
use Rattle.std.proofs.lemmas.Bool.{leb-true, le-leb, lt-ltb, ltb-true}
use Rattle.memory_image.specs.Image.{Span}
use Rattle.unwind_definitions.specs.declared.error.Error.{Error as Fault}
use Rattle.unwind_definitions.specs.declared.error.Error.TheVariants.{NoUnwindInfoForAddress}
use Rattle.unwind_definitions.specs.Entries.{Fde}
use Rattle.unwind_definitions.specs.Row.{RowInstructions, covers_pc, row_at, argument_size}
use Rattle.unwind_definitions.specs.Scan.{fdes_of, first_covering, scan}
use Rattle.unwind_definitions.specs.Caller.{Evaluates, Columns}
use Rattle.unwind_definitions.specs.State.{State, IsState, Shows}
use Rattle.unwind_definitions.specs.Prologue.{SystemV, PrologueStep, steps_of}
use Rattle.unwind_definitions.specs.Entered.{IsEntered}
use Rattle.unwind_definitions.specs.Function.{Function, Range, in_range, in_body, AreWithin, IsFunction}
use Rattle.unwind_definitions.specs.LanguageTable.{input_at}
use Rattle.unwind_definitions.specs.FrameTable.{has_range_of, DescribesFunction, HasDescription}
use Rattle.unwind_definitions.specs.Module.{Module, Process, bases_of, DescriptionsApart, DescribesModule, CoversNot}
use Rattle.unwind_definitions.specs.Chain.{Call}
use Rattle.unwind_laws.specs.Undoes.{Undoes}
use Rattle.unwind_laws.specs.Found.{FindsFunction}
use Rattle.unwind_laws.proofs.Booleans.{both_true, either_true, here_or_later, none_in_nil, filter_contains, all_contains, first, tail_pairs, head_pairs}
use Rattle.unwind_laws.proofs.Scanned.{scan_is}
use Rattle.unwind_laws.proofs.Signal.{no_signal, fde_read}
use Rattle.unwind_laws.proofs.Undo.{body_undone, outermost_undone}

pub ranges_inside : (ranges : List Range) (low high a : ℕ) → AreWithin low high ranges → list_any (in_range a) ranges ≡ true → (low ≤ a) × (a < high)
ranges_inside [] low high a within e = absurd cc
ranges_inside (r ∷ ranges) low high a within e = elim (either_true (in_range a r) (list_any (in_range a) ranges) e) [
  | inl here ↦ let both = both_true (leb r.from a) (ltb a r.to) here in
      let x = leb-true r.from a both.0 in let y = ltb-true a r.to both.1 in
      let w0 = within.0 in let w2 = within.2 in (omega arith, omega arith)
  | inr later ↦ let ih = ranges_inside ranges r.to high a within.3 later in
      let w0 = within.0 in let w1 = within.1 in (omega (arith, ih.0), ih.1)
]

-- an address of the body lies in the function
pub body_inside : (f : Function) (a : ℕ) → IsFunction SystemV f → IsTrue (in_body f a) → (f.start ≤ a) × (a < f.end)
body_inside f a is h = let lies = ranges_inside f.bodies _ f.end a is.bodies h in (omega (arith, lies.0), lies.1)

pub covers_is : (fde : Fde) (pc : ℕ) → fde.start ≤ pc → pc < fde.start + fde.size → covers_pc fde pc ≡ true
covers_is fde pc a b = rw (le-leb fde.start pc a, lt-ltb pc (fde.start + fde.size) b) refl

pub covered : (fde : Fde) (pc : ℕ) → covers_pc fde pc ≡ true → (fde.start ≤ pc) × (pc < fde.start + fde.size)
covered fde pc e = let both = both_true (leb fde.start pc) (ltb pc (fde.start + fde.size)) e in (leb-true fde.start pc both.0, ltb-true pc (fde.start + fde.size) both.1)

not_both : (g fde : Fde) (pc : ℕ) → DescriptionsApart g fde → covers_pc g pc ≡ true → covers_pc fde pc ≡ true → ⊥
not_both g fde pc (inl a) x y = let p = covered g pc x in let q = covered fde pc y in omega (arith, p.1, q.0)
not_both g fde pc (inr a) x y = let p = covered g pc x in let q = covered fde pc y in omega (arith, p.0, q.1)

abbrev some_fde : Fde → Option Fde
some_fde x = Some x

-- of descriptions that lie apart, the one that covers an address is the first that does
pub found_first : (fdes : List Fde) (fde : Fde) (pc : ℕ) → AllPairs DescriptionsApart fdes → Contains fdes fde → covers_pc fde pc ≡ true → first_covering fdes pc ≡ Some fde
found_first [] fde pc apart has covers = absurd (none_in_nil fde has)
found_first (g ∷ gs) fde pc apart has covers = go (covers_pc g pc) refl (here_or_later g gs fde has) (found_first gs fde pc (tail_pairs DescriptionsApart g gs apart))
  where
    go : (b : Bool) → covers_pc g pc ≡ b → (g ≡ fde) ⊎ Contains gs fde → (Contains gs fde → covers_pc fde pc ≡ true → first_covering gs pc ≡ Some fde) → first_covering (g ∷ gs) pc ≡ Some fde
    go true e (inl same) ih = rw e (ap some_fde same)
    go true e (inr later) ih = absurd (not_both g fde pc (head_pairs DescriptionsApart g gs fde apart later) e covers)
    go false e (inl same) ih = let e' : covers_pc fde pc ≡ false = rw same at e in absurd cc
    go false e (inr later) ih = rw e (ih later covers)

pub none_first : (fdes : List Fde) (pc : ℕ) → AllByRecursion (λ (fde : Fde). covers_pc fde pc ≡ false) fdes → first_covering fdes pc ≡ None
none_first [] pc all = refl
none_first (g ∷ gs) pc all = rw all.0 (none_first gs pc all.1)

module _ (image : List Span) (m : Module) where
  pub function_found : (functions : List Function) (d : DescribesModule image m functions) (f : Function) (a : ℕ) → Contains functions f → f.start ≤ a → a < f.end → FindsFunction image m d.frame f a
  function_found functions d f a has from below =
      let fdes = fdes_of d.entries in
      let one = all_contains (HasDescription image (bases_of m d.frame) fdes) functions f d.frames.each has in
      let fde : Fde = one.fde in
      let listed : Contains fdes fde = (filter_contains (has_range_of f) fdes fde (subst (λ (l : List Fde). Contains l fde) (sym one.one) (first fde []))).0 in
      let start = one.describes.code.start in
      let end = one.describes.code.end in
      let covers : covers_pc fde a ≡ true = covers_is fde a (omega arith) (omega arith) in
      let is = scan_is (bases_of m d.frame) (input_at image d.frame) a d.entries refl d.frames.reads in
      record {
        fde = fde;
        found = is ∙ ap (λ (o : Option Fde). option_map_or (λ (x : Fde). ok x) o (Err NoUnwindInfoForAddress)) (found_first fdes fde a d.apart listed covers);
        covers = covers;
        no_signal = no_signal (bases_of m d.frame) (input_at image d.frame) 0 d.entries fde image d.frames.reads listed one.describes.code.cie;
        read = fde_read (bases_of m d.frame) (input_at image d.frame) 0 d.entries fde d.frames.reads listed;
        describes = one.describes;
      }
    where
      ok : Fde → Result Fde Fault
      ok x = Ok x

  -- an address that no description contains isn't found
  pub not_found : (a : ℕ) (u : CoversNot image m a) → scan (bases_of m u.frame) (input_at image u.frame) a ≡ Err NoUnwindInfoForAddress
  not_found a u = scan_is (bases_of m u.frame) (input_at image u.frame) a u.entries refl u.reads ∙ ap (λ (o : Option Fde). option_map_or (λ (x : Fde). ok x) o (Err NoUnwindInfoForAddress)) (none_first (fdes_of u.entries) a u.uncovered)
    where
      ok : Fde → Result Fde Fault
      ok x = Ok x

-- no steps in an outermost function
no_steps : (prologue : List PrologueStep) → prologue ≡ [] → steps_of prologue ≡ []
no_steps prologue e = ap steps_of e

-- what is known of a state that is stopped at an address in the body of a described function
pub record Known (p : Process) (m : Module) (frame a : ℕ) (s : State) (c : Call) (fde : Fde) : Type 0 where
  pub describes : DescribesFunction p.image (bases_of m frame) c.callee fde
  pub is_function : IsFunction SystemV c.callee
  pub inside : IsTrue (in_body c.callee a)
  pub entered : IsEntered p.image c.callee.outermost (steps_of c.callee.prologue) c.caller s
  pub caller : IsState c.caller
  pub ends : IsTrue c.callee.outermost → c.caller.ra ≡ 0

-- a row that undoes the call, and has no argument size
pub record RowUndoes (p : Process) (evaluates : Evaluates) (m : Module) (frame : ℕ) (fde : Fde) (a : ℕ) (columns : Columns) (t : State) : Type 0 where
  pub run : RowInstructions
  pub has_row : row_at (bases_of m frame) fde a ≡ Ok run
  pub no_arguments : argument_size run ≡ 0
  pub undoes : Undoes evaluates p.image run t columns

-- the row of a called function undoes the call
pub row_undoes : (p : Process) (evaluates : Evaluates) (m : Module) (frame a : ℕ) (s : State) (c : Call) (columns : Columns) (fde : Fde) → Known p m frame a s c fde → Shows columns s →
    RowUndoes p evaluates m frame fde a columns c.caller
row_undoes p evaluates m frame a s c columns fde known shows = go c.callee.outermost refl
  where
    go : (b : Bool) → c.callee.outermost ≡ b → RowUndoes p evaluates m frame fde a columns c.caller
    go true e =
        let row = known.describes.code.rows.outermost e a known.inside in
        let empty = no_steps c.callee.prologue (known.is_function.outermost e).0 in
        let entered0 : IsEntered p.image true (steps_of c.callee.prologue) c.caller s = rw e at known.entered in
        let entered : IsEntered p.image true [] c.caller s = rw empty at entered0 in
        record { run = row.0; has_row = row.1; no_arguments = row.2.arguments; undoes = outermost_undone evaluates p.image row.0 s c.caller columns row.2 entered known.caller shows (known.ends e) }
    go false e =
        let row = known.describes.code.rows.bodies e a known.inside in
        let entered : IsEntered p.image false (steps_of c.callee.prologue) c.caller s = rw e at known.entered in
        record { run = row.0; has_row = row.1; no_arguments = row.2.arguments; undoes = body_undone evaluates p.image (steps_of c.callee.prologue) s c.caller columns known.is_function.prologue.each entered known.caller shows row.0 row.2 }

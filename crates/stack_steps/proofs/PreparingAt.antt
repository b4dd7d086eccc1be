-- One module gets a table: what a space is with it.
use Rattle.std.proofs.Common.{◌≡◌, ℕ, zero, suc, ◌+◌, ◌<◌, true, List, [], ◌∷◌, length, map, get_or, set, Option, Some, None, refl, sym, ap, ◌∙◌, subst, arith}
use Rattle.std.specs.Prelude.{slice_get}
use Rattle.std.specs.List.{AllByRecursion, Contains, sum_by}
use Rattle.std.proofs.lemmas.List.{map-set}
use Rattle.std.proofs.lemmas.List.Sums.{sum_by-cons}
use Rattle.memory_image.specs.Image.{Span}
use Rattle.stack_steps.specs.declared.prepared.Left.{Left}
use Rattle.stack_steps.specs.declared.prepared.PreparedTable.{PreparedTable}
use Rattle.stack_steps.specs.declared.space.ModuleEntry.{ModuleEntry}
use Rattle.stack_steps.specs.declared.space.AddedModule.{AddedModule}
use Rattle.stack_steps.specs.AddedModule.{added_of, holder_of, IsAddedModule, IsSpace, IsTableIn, LeavesBy, MakesTable, StandsAt}
use Rattle.unwind_laws.proofs.Booleans.{all_contains}
use Rattle.stack_steps.specs.declared.space.Module.{Module}
use Rattle.stack_steps.specs.Modules.{Added, IsPlaced, SpaceValue, contains, module_at, module_of, modules_in}
use Rattle.stack_steps.specs.Preparing.{Becomes, HoldsAt, PreparesAt, Stays, StaysAt, rows_left, rules_left, with_index}
use Rattle.stack_steps.proofs.Holding.{found_index, holder_there, place_within}
use Rattle.stack_steps.proofs.Making.{default_free, one_becomes, rows_kept, rules_kept}

-- ---- the module at a place

pub record Stands (hs : List AddedModule) (k : ℕ) : Type 0 where
  pub holder : AddedModule
  pub at : holder ≡ get_or hs k holder

pub stands_at : (hs : List AddedModule) (k : ℕ) → k < length hs → Stands hs k
stands_at [] k lt = absurd (omega arith)
stands_at (g ∷ hs) zero lt = record { holder = g; at = refl }
stands_at (g ∷ hs) (suc k) lt = let later = stands_at hs k (omega arith) in record { holder = later.holder; at = later.at }

pub added_stands : (hs : List AddedModule) (k : ℕ) (h : AddedModule) → k < length hs → h ≡ get_or hs k h → slice_get (map added_of hs) k ≡ Some (added_of h)
added_stands [] k h lt at = absurd (omega arith)
added_stands (g ∷ hs) zero h lt at = ap (λ (x : AddedModule). Some (added_of x)) (sym at)
added_stands (g ∷ hs) (suc k) h lt at = added_stands hs k h (omega arith) at

pub added_within : (hs : List AddedModule) (k : ℕ) (m : Added) → slice_get (map added_of hs) k ≡ Some m → k < length hs
added_within [] k m is = absurd cc
added_within (h ∷ hs) zero m is = omega arith
added_within (h ∷ hs) (suc k) m is = let ih = added_within hs k m is in omega arith

pub same_added : (hs : List AddedModule) (k : ℕ) (h : AddedModule) (m : Added) → h ≡ get_or hs k h → slice_get (map added_of hs) k ≡ Some m → added_of h ≡ m
same_added hs k h m at is =
    let there : slice_get (map added_of hs) k ≡ Some (added_of h) = added_stands hs k h (added_within hs k m is) at in
    let same : Some (added_of h) ≡ Some m = sym there ∙ is in
    cc

-- what is found at a place is the same, whatever it is compared with
pub one_there : (hs : List AddedModule) (k : ℕ) (h g : AddedModule) → k < length hs → h ≡ get_or hs k h → g ≡ get_or hs k g → h ≡ g
one_there hs k h g lt at there = at ∙ default_free hs k h g lt ∙ sym there

abbrev some_module : Module → Option Module
some_module m = Some m

abbrev pub space_in : List Span → List (ℕ × ModuleEntry) → List AddedModule → SpaceValue
space_in image es hs = record { image = image; modules = modules_in es; added = map added_of hs }

pub held_at : (image : List Span) (es : List (ℕ × ModuleEntry)) (hs : List AddedModule) (left : Left) (a : ℕ) (e : ℕ × ModuleEntry) → IsSpace image es hs left → Contains es e → contains (module_of e) a ≡ true → module_at (modules_in es) a ≡ Some (module_of e) → HoldsAt (space_in image es hs) a e.1.place
held_at image es hs left a e is among inside holds =
    let stands : StandsAt hs e = all_contains (StandsAt hs) es e is.stand among in
    let within = place_within hs e.1.place (module_of e) stands in
    let there = stands_at hs e.1.place within in
    let same : there.holder.holder ≡ module_of e = holder_there hs e.1.place (module_of e) there.holder stands there.at in
    record {
      added = added_of there.holder;
      stands = added_stands hs e.1.place there.holder within there.at;
      holds = holds ∙ ap some_module (sym same);
      indexed = found_index es hs a e there.holder is.apart is.back among inside stands there.at;
    }

-- ---- with its table

abbrev pub tabled : AddedModule → PreparedTable → AddedModule
tabled h t = record h { table = Some t }

abbrev pub with_one : List AddedModule → ℕ → AddedModule → PreparedTable → List AddedModule
with_one hs k h t = set hs k (tabled h t)

holders_with : (hs : List AddedModule) (k : ℕ) (h : AddedModule) (t : PreparedTable) → k < length hs → h ≡ get_or hs k h → map holder_of (with_one hs k h t) ≡ map holder_of hs
holders_with [] k h t lt at = absurd (omega arith)
holders_with (g ∷ hs) zero h t lt at = ap (λ (x : AddedModule). x.holder ∷ map holder_of hs) at
holders_with (g ∷ hs) (suc k) h t lt at = ap (λ l. g.holder ∷ l) (holders_with hs k h t (omega arith) at)

held_with : (image : List Span) (hs : List AddedModule) (k : ℕ) (h : AddedModule) (t : PreparedTable) → k < length hs → h ≡ get_or hs k h → IsTableIn image h.holder.tables t → AllByRecursion (IsAddedModule image) hs →
    AllByRecursion (IsAddedModule image) (with_one hs k h t)
held_with image [] k h t lt at is all = absurd (omega arith)
held_with image (g ∷ hs) zero h t lt at is all = (record { is_table = is; placed = subst (λ (x : AddedModule). IsPlaced x.holder) (sym at) all.0.placed }, all.1)
held_with image (g ∷ hs) (suc k) h t lt at is all = (all.0, held_with image hs k h t (omega arith) at is all.1)

rows_with : (hs : List AddedModule) (k : ℕ) (h : AddedModule) (t : PreparedTable) → k < length hs → h ≡ get_or hs k h → h.table ≡ None → sum_by rows_kept (map added_of (with_one hs k h t)) ≡ sum_by rows_kept (map added_of hs) + t.index.row_count
rows_with [] k h t lt at none = absurd (omega arith)
rows_with (g ∷ hs) zero h t lt at none =
    let unprepared : g.table ≡ None = subst (λ (x : AddedModule). x.table ≡ None) at none in
    let nothing : rows_kept (added_of g) ≡ 0 = rw unprepared refl in
    let new = sum_by-cons rows_kept (added_of (tabled h t)) (map added_of hs) in
    let old = sum_by-cons rows_kept (added_of g) (map added_of hs) in
    omega arith
rows_with (g ∷ hs) (suc k) h t lt at none =
    let ih = rows_with hs k h t (omega arith) at none in
    let new = sum_by-cons rows_kept (added_of g) (map added_of (with_one hs k h t)) in
    let old = sum_by-cons rows_kept (added_of g) (map added_of hs) in
    omega arith

rules_with : (hs : List AddedModule) (k : ℕ) (h : AddedModule) (t : PreparedTable) → k < length hs → h ≡ get_or hs k h → h.table ≡ None → sum_by rules_kept (map added_of (with_one hs k h t)) ≡ sum_by rules_kept (map added_of hs) + t.index.rule_count
rules_with [] k h t lt at none = absurd (omega arith)
rules_with (g ∷ hs) zero h t lt at none =
    let unprepared : g.table ≡ None = subst (λ (x : AddedModule). x.table ≡ None) at none in
    let nothing : rules_kept (added_of g) ≡ 0 = rw unprepared refl in
    let new = sum_by-cons rules_kept (added_of (tabled h t)) (map added_of hs) in
    let old = sum_by-cons rules_kept (added_of g) (map added_of hs) in
    omega arith
rules_with (g ∷ hs) (suc k) h t lt at none =
    let ih = rules_with hs k h t (omega arith) at none in
    let new = sum_by-cons rules_kept (added_of g) (map added_of (with_one hs k h t)) in
    let old = sum_by-cons rules_kept (added_of g) (map added_of hs) in
    omega arith

-- ---- the space with it

stand_with : (es : List (ℕ × ModuleEntry)) (hs gs : List AddedModule) → map holder_of gs ≡ map holder_of hs → AllByRecursion (StandsAt hs) es → AllByRecursion (StandsAt gs) es
stand_with [] hs gs same all = tt
stand_with (e ∷ es) hs gs same all = (ap (λ l. slice_get l e.1.place) same ∙ all.0, stand_with es hs gs same all.1)

pub space_with : (image : List Span) (es : List (ℕ × ModuleEntry)) (hs : List AddedModule) (left after : Left) (k : ℕ) (h : AddedModule) (t : PreparedTable) → IsSpace image es hs left → k < length hs → h ≡ get_or hs k h → MakesTable image left h (Some t) → LeavesBy left t.index after →
    IsSpace image es (with_one hs k h t) after
space_with image es hs left after k h t is lt at makes leaves =
    let same = holders_with hs k h t lt at in
    let rows = rows_with hs k h t lt at makes.0 in
    let rules = rules_with hs k h t lt at makes.0 in
    let rows_before = is.rows in
    let rules_before = is.rules in
    let rows_after = leaves.rows in
    let rules_after = leaves.rules in
    record {
      apart = is.apart;
      laid_out = is.laid_out;
      stand = stand_with es hs (with_one hs k h t) same is.stand;
      back = λ j m there. is.back j m (ap (λ l. slice_get l j) (sym same) ∙ there);
      are_held = held_with image hs k h t lt at makes.1.is_table is.are_held;
      rows = omega arith;
      rules = omega arith;
    }

pub prepared_at : (image : List Span) (es : List (ℕ × ModuleEntry)) (hs : List AddedModule) (left after : Left) (k a : ℕ) (h : AddedModule) (t : PreparedTable) → IsSpace image es hs left → (holds : HoldsAt (space_in image es hs) a k) → h ≡ get_or hs k h → MakesTable image left h (Some t) →
    LeavesBy left t.index after → PreparesAt (space_in image es hs) a (space_in image es (with_one hs k h t))
prepared_at image es hs left after k a h t is holds at makes leaves =
    let same : added_of h ≡ holds.added = same_added hs k h holds.added at holds.stands in
    let becomes : Becomes image left.rows left.rules (added_of h) t.index = one_becomes image left h (Some t) after makes leaves in
    let rows = is.rows in
    let rules = is.rules in
    let within : Becomes image (rows_left (map added_of hs)) (rules_left (map added_of hs)) (added_of h) t.index = rw (rows, rules) at becomes in
    record {
      place = k;
      at = holds;
      index = t.index;
      becomes = subst (λ (m : Added). Becomes image (rows_left (map added_of hs)) (rules_left (map added_of hs)) m t.index) same within;
      is = ap (λ (l : List Added). record { image = image; modules = modules_in es; added = l }) (map-set added_of hs k (tabled h t) ∙ ap (λ (m : Added). set (map added_of hs) k (with_index m (Some t.index))) same);
    }

pub stays_at : (image : List Span) (es : List (ℕ × ModuleEntry)) (hs : List AddedModule) (left : Left) (k a : ℕ) (h : AddedModule) (o : Option PreparedTable) → IsSpace image es hs left → HoldsAt (space_in image es hs) a k → h ≡ get_or hs k h → MakesTable image left h o → o ≡ None → StaysAt (space_in image es hs) a
stays_at image es hs left k a h o is holds at makes none =
    let same : added_of h ≡ holds.added = same_added hs k h holds.added at holds.stands in
    let stays : Stays image left.rows left.rules (added_of h) = subst (λ (p : Option PreparedTable). MakesTable image left h p) none makes in
    let rows = is.rows in
    let rules = is.rules in
    let within : Stays image (rows_left (map added_of hs)) (rules_left (map added_of hs)) (added_of h) = rw (rows, rules) at stays in
    record { place = k; at = holds; stays = subst (λ (m : Added). Stays image (rows_left (map added_of hs)) (rules_left (map added_of hs)) m) same within }

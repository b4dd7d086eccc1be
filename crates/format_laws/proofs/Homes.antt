-- An address lies in one module at most, and an address of a described function in the module that describes it.
use Rattle.std.proofs.Common.{◌≡◌, ℕ, ◌+◌, ◌<◌, ◌≤◌, Bool, true, false, leb, ltb, List, [], ◌∷◌, Option, Some, refl, sym, ap, subst, ◌∙◌, arith, inl, inr}
use Rattle.std.specs.Prelude.{◌⊎◌, IsTrue}
use Rattle.std.specs.List.{Contains, AllPairs, find}
use Rattle.std.proofs.lemmas.Bool.{le-leb, lt-ltb, leb-true, ltb-true}
use Rattle.memory_image.specs.Image.{Span}
use Rattle.unwind_definitions.specs.Prologue.{Convention}
use Rattle.unwind_definitions.specs.Function.{Function, IsFunction, in_body, last_end}
use Rattle.unwind_laws.proofs.Booleans as lists
use Rattle.unwind_laws.proofs.Found.{ranges_inside}
use Rattle.pe_unwind_info.specs.declared.x86_64.function_table.RuntimeFunction.{RuntimeFunction}
use Rattle.pe_unwind_info.specs.FunctionTable.{AreOrdered}
use Rattle.format_definitions.specs.CompactStep.{MachoModule}
use Rattle.format_definitions.specs.MachoModules.{HasListed, DescribesMacho}
use Rattle.format_definitions.specs.PeImage.{PeModule}
use Rattle.format_definitions.specs.PeModules.{HasRecord, DescribesLeaf, DescribesPe}
use Rattle.format_definitions.specs.Modules.{FormatModule, Elf, Macho, Pe, in_format, part_of, DescribesFormat, LiesDescribed}
use Rattle.format_definitions.specs.Process.{start_of, end_of, FormatsApart}

pub inside_is : (a : ℕ) (m : FormatModule) → IsTrue (in_format a m) → (start_of m ≤ a) × (a < end_of m)
inside_is a (Elf m) h = let both = lists.both_true (leb m.start a) (ltb a m.end) h in (leb-true m.start a both.0, ltb-true a m.end both.1)
inside_is a (Macho m) h = let both = lists.both_true (leb m.base a) (ltb a (m.base + m.size)) h in (leb-true m.base a both.0, ltb-true a (m.base + m.size) both.1)
inside_is a (Pe m) h = let both = lists.both_true (leb m.base a) (ltb a (m.base + m.size)) h in (leb-true m.base a both.0, ltb-true a (m.base + m.size) both.1)

is_inside : (a : ℕ) (m : FormatModule) → start_of m ≤ a → a < end_of m → IsTrue (in_format a m)
is_inside a (Elf m) low high = let x = le-leb m.start a low in let y = lt-ltb a m.end high in rw (x, y) refl
is_inside a (Macho m) low high = let x = le-leb m.base a low in let y = lt-ltb a (m.base + m.size) high in rw (x, y) refl
is_inside a (Pe m) low high = let x = le-leb m.base a low in let y = lt-ltb a (m.base + m.size) high in rw (x, y) refl

not_both : (a : ℕ) (m n : FormatModule) → FormatsApart m n → IsTrue (in_format a m) → IsTrue (in_format a n) → ⊥
not_both a m n (inl le) p q = let x = inside_is a m p in let y = inside_is a n q in omega (arith, x.1, y.0)
not_both a m n (inr le) p q = let x = inside_is a m p in let y = inside_is a n q in omega (arith, x.0, y.1)

-- the first module that holds an address
abbrev holder_of : List FormatModule → ℕ → Option FormatModule
holder_of modules a = find (in_format a) modules

-- the module that is found for an address is the one that it lies in
holder_is : (ms : List FormatModule) → AllPairs FormatsApart ms → (a : ℕ) (m : FormatModule) → Contains ms m → IsTrue (in_format a m) → holder_of ms a ≡ Some m
holder_is [] apart a m has inside = absurd (lists.none_in_nil m has)
holder_is (x ∷ xs) apart a m has inside = go (in_format a x) refl (lists.here_or_later x xs m has) (λ h. holder_is xs (lists.tail_pairs FormatsApart x xs apart) a m h inside)
  where
    go : (b : Bool) → in_format a x ≡ b → (x ≡ m) ⊎ Contains xs m → (Contains xs m → holder_of xs a ≡ Some m) → holder_of (x ∷ xs) a ≡ Some m
    go true e (inl same) ih = rw e (ap (λ (y : FormatModule). Some y) same)
    go true e (inr h) ih = absurd (not_both a x m (lists.head_pairs FormatsApart x xs m apart h) e inside)
    go false e (inl same) ih = let yes : in_format a x ≡ true = subst (λ (y : FormatModule). in_format a y ≡ true) (sym same) inside in absurd cc
    go false e (inr h) ih = rw e (ih h)

some_module : (m n : FormatModule) → ◌≡◌ {A = Option FormatModule} (Some m) (Some n) → m ≡ n
some_module m n e = cc

-- an address lies in one module at most
pub one_home : (ms : List FormatModule) → AllPairs FormatsApart ms → (a : ℕ) (m n : FormatModule) → Contains ms m → Contains ms n → IsTrue (in_format a m) → IsTrue (in_format a n) → m ≡ n
one_home ms apart a m n p q i j = some_module m n (sym (holder_is ms apart a m p i) ∙ holder_is ms apart a n q j)

-- ---- described functions end inside their module

ordered_end : (low limit : ℕ) (table : List RuntimeFunction) (g : RuntimeFunction) → AreOrdered low limit table → Contains table g → g.end_address ≤ limit
ordered_end low limit [] g ordered has = absurd (lists.none_in_nil g has)
ordered_end low limit (f ∷ table) g ordered has = elim (lists.here_or_later f table g has) [
  | inl same ↦ subst (λ (k : RuntimeFunction). k.end_address ≤ limit) same (ordered.2)
  | inr later ↦ ordered_end f.end_address limit table g ordered.3 later
]

listed_end : (image : List Span) (m : MachoModule) (part : List Function) (d : DescribesMacho image m part) (f : Function) → HasListed image d.info d.personalities m f → f.end ≤ m.base + m.size
listed_end image m part d f h = let e = h.describes.end in let i = h.describes.inside in omega arith

recorded_end : (image : List Span) (m : PeModule) (part : List Function) (d : DescribesPe image m part) (f : Function) → HasRecord image m d.table f ⊎ DescribesLeaf m d.table f → f.end ≤ m.base + m.size
recorded_end image m part d f (inl r) = let e = r.describes.end in let i = ordered_end 0 m.size d.table r.function d.ordered r.listed in omega arith
recorded_end image m part d f (inr leaf) = leaf.inside.1

ends_inside : (image : List Span) (home : FormatModule) (part : List Function) (f : Function) → DescribesFormat image home part → Contains part f → f.end ≤ end_of home
ends_inside image (Elf m) part f d has = (lists.all_contains (λ (g : Function). (m.start ≤ g.start) × (g.end ≤ m.end)) part f d.inside has).1
ends_inside image (Macho m) part f d has = listed_end image m part d f (lists.all_contains (HasListed image d.info d.personalities m) part f d.each has)
ends_inside image (Pe m) part f d has = recorded_end image m part d f (lists.all_contains (λ (g : Function). HasRecord image m d.table g ⊎ DescribesLeaf m d.table g) part f d.each has)

-- a listed function is one of the part of the module that it lies in
pub in_part : (functions : List Function) (f : Function) (home : FormatModule) → Contains functions f → IsTrue (in_format f.start home) → Contains (part_of home functions) f
in_part functions f home listed inside = lists.contains_filter (λ (g : Function). in_format g.start home) functions f listed inside

-- an address of a described function lies in its module
pub in_home : (image : List Span) (modules : List FormatModule) (functions : List Function) (f : Function) (lies : LiesDescribed image modules functions f) → Contains functions f → (a : ℕ) → f.start ≤ a → a < f.end → IsTrue (in_format a lies.home)
in_home image modules functions f lies listed a low high =
    let from = (inside_is f.start lies.home lies.inside).0 in
    let to = ends_inside image lies.home (part_of lies.home functions) f lies.describes (in_part functions f lies.home listed lies.inside) in
    is_inside a lies.home (omega arith) (omega arith)

-- an address of the body lies in the function
pub body_lies : (convention : Convention) (f : Function) (a : ℕ) → IsFunction convention f → IsTrue (in_body f a) → (f.start ≤ a) × (a < f.end)
body_lies convention f a is h = let lies = ranges_inside f.bodies (f.start + last_end f.prologue) f.end a is.bodies h in (omega (arith, lies.0), lies.1)

-- Tables that are made for modules: what they leave, and what the modules are with them.
use Rattle.std.proofs.Common.{◌≡◌, ℕ, zero, suc, ◌+◌, ◌-◌, ◌<◌, ◌≤◌, true, false, cond, List, [], ◌∷◌, ◌++◌, length, map, get_or, set, take, drop, Option, Some, None, refl, sym, ap, ◌∙◌, subst, arith}
use Rattle.std.specs.Prelude.{is_some, slice_get}
use Rattle.std.proofs.lemmas.List.{map-append}
use Rattle.std.specs.BTreeMap.{insert_entry}
use Rattle.std.specs.Ordering.{nat_cmp}
use Rattle.std.specs.Option.{option_map}
use Rattle.std.specs.List.{AllByRecursion, sum_by, count_by}
use Rattle.std.proofs.lemmas.List.Sums.{sum_by-append, sum_by-cons, sum_by_push}
use Rattle.memory_image.specs.Image.{Span}
use Rattle.eh_frame.specs.Index.{Index}
use Rattle.stack_steps.specs.declared.prepared.Left.{Left}
use Rattle.stack_steps.specs.declared.prepared.PreparedTable.{PreparedTable}
use Rattle.stack_steps.specs.declared.space.ModuleEntry.{ModuleEntry}
use Rattle.stack_steps.specs.declared.space.AddedModule.{AddedModule}
use Rattle.stack_steps.specs.declared.space.ModuleTables.{ModuleTables}
use Rattle.stack_steps.specs.declared.space.ModuleTables.TheVariants.{Elf, Macho, Pe}
use Rattle.stack_steps.specs.Modules.{Added, AreApart, IsPlaced, lowest_shared, module_of, modules_in}
use Rattle.stack_steps.specs.AddedModule.{added_of, holder_of, index_in, kept_table, IsAddedModule, IsTable, IsTableIn, IsSpace, StandsAt, AreMade, MakesTable, Leaves, with_table, with_tables}
use Rattle.stack_steps.specs.Preparing.{Make, BecomesBy, IsIndexIn, index_of, rows_of, rules_of, rows_left, rules_left, with_indexes}
use Rattle.stack_steps.proofs.Holding.{all_pushed, stand_pushed}

abbrev pub index_made : Option PreparedTable → Option Index
index_made o = option_map index_in o

abbrev pub rows_kept : Added → ℕ
rows_kept m = rows_of (index_of m)

abbrev pub rules_kept : Added → ℕ
rules_kept m = rules_of (index_of m)

abbrev one_if : Option PreparedTable → ℕ
one_if o = cond (is_some o) 1 0

abbrev one_index : Option Index → ℕ
one_index o = cond (is_some o) 1 0

abbrev made_rows : Option PreparedTable → ℕ
made_rows o = rows_of (index_made o)

abbrev made_rules : Option PreparedTable → ℕ
made_rules o = rules_of (index_made o)

module _ (image : List Span) where
  -- ---- one more

  pub made_push : (left after next : Left) (hs : List AddedModule) (made : List (Option PreparedTable)) (h : AddedModule) (o : Option PreparedTable) → AreMade image left hs made after → MakesTable image after h o → Leaves after o next → AreMade image left (hs ++ h ∷ []) (made ++ o ∷ []) next
  made_push left after next [] [] h o are makes leaves =
      let makes' : MakesTable image left h o = subst (λ (l : Left). MakesTable image l h o) are makes in
      let leaves' : Leaves left o next = subst (λ (l : Left). Leaves l o next) are leaves in
      (next, makes', leaves', refl)
  made_push left after next [] (p ∷ made) h o are makes leaves = absurd are
  made_push left after next (g ∷ hs) [] h o are makes leaves = absurd are
  made_push left after next (g ∷ hs) (p ∷ made) h o are makes leaves = (are.0, are.1, are.2, made_push are.0 after next hs made h o are.3 makes leaves)

  -- ---- how many, and what is left

  pub made_length : (left after : Left) (hs : List AddedModule) (made : List (Option PreparedTable)) → AreMade image left hs made after → length made ≡ length hs
  made_length left after [] [] are = refl
  made_length left after [] (o ∷ made) are = absurd are
  made_length left after (h ∷ hs) [] are = absurd are
  made_length left after (h ∷ hs) (o ∷ made) are = let ih = made_length are.0 after hs made are.3 in omega arith

  -- each keeps a row of those that are left
  pub made_few : (left after : Left) (hs : List AddedModule) (made : List (Option PreparedTable)) → AreMade image left hs made after → count_by is_some made ≤ left.rows
  made_few left after [] [] are = omega arith
  made_few left after [] (o ∷ made) are = absurd are
  made_few left after (h ∷ hs) [] are = absurd are
  made_few left after (h ∷ hs) (None ∷ made) are =
      let ih = made_few are.0 after hs made are.3 in
      let same = ap (λ (l : Left). l.rows) are.2 in
      let more = sum_by-cons one_if None made in
      omega arith
  made_few left after (h ∷ hs) (Some t ∷ made) are =
      let ih = made_few are.0 after hs made are.3 in
      let some = are.2.some in
      let rows = are.2.rows in
      let fits = are.1.1.rows_fit in
      let more = sum_by-cons one_if (Some t) made in
      omega arith

  -- ---- in the words of the definitions

  unprepared : (h : AddedModule) → h.table ≡ None → (added_of h).index ≡ None
  unprepared h none = ap index_made none

  -- only an ELF module has an index
  table_index : (tables : ModuleTables) (t : PreparedTable) → IsTableIn image tables t → IsIndexIn image tables t.index
  table_index (Elf tables) t is = record { table = kept_table t is.pairs; names = is.names; prepared = is.prepared; listed = is.listed }
  table_index (Macho tables) t is = absurd is
  table_index (Pe tables) t is = absurd is

  pub one_becomes : (left : Left) (h : AddedModule) (o : Option PreparedTable) (next : Left) → MakesTable image left h o → Leaves left o next → BecomesBy image left.rows left.rules (added_of h) (index_made o)
  one_becomes left h None next makes leaves = makes
  one_becomes left h (Some t) next makes leaves = record {
    unprepared = unprepared h makes.0;
    is_index = table_index h.holder.tables t makes.1.is_table;
    rows_fit = makes.1.rows_fit;
    rules_fit = makes.1.rules_fit;
    some = leaves.some;
    fits = makes.1.fits;
  }

  rows_after : (left : Left) (o : Option PreparedTable) (next : Left) → Leaves left o next → next.rows ≡ left.rows - rows_of (index_made o)
  rows_after left None next leaves = let same = ap (λ (l : Left). l.rows) leaves in omega arith
  rows_after left (Some t) next leaves = leaves.rows

  rules_after : (left : Left) (o : Option PreparedTable) (next : Left) → Leaves left o next → next.rules ≡ left.rules - rules_of (index_made o)
  rules_after left None next leaves = let same = ap (λ (l : Left). l.rules) leaves in omega arith
  rules_after left (Some t) next leaves = leaves.rules

  pub made_make : (left after : Left) (hs : List AddedModule) (made : List (Option PreparedTable)) → AreMade image left hs made after → Make image left.rows left.rules (map added_of hs) (map index_made made) after.rows after.rules
  made_make left after [] [] are = (ap (λ (l : Left). l.rows) are, ap (λ (l : Left). l.rules) are)
  made_make left after [] (o ∷ made) are = absurd are
  made_make left after (h ∷ hs) [] are = absurd are
  made_make left after (h ∷ hs) (o ∷ made) are =
      let ih = made_make are.0 after hs made are.3 in
      let rows = rows_after left o are.0 are.2 in
      let rules = rules_after left o are.0 are.2 in (
        one_becomes left h o are.0 are.1 are.2,
        subst (λ (n : ℕ). Make image n (left.rules - rules_of (index_made o)) (map added_of hs) (map index_made made) after.rows after.rules) rows
            (subst (λ (n : ℕ). Make image are.0.rows n (map added_of hs) (map index_made made) after.rows after.rules) rules ih),
      )

  -- ---- the modules with their tables

  pub tables_held : (left after : Left) (hs : List AddedModule) (made : List (Option PreparedTable)) → AreMade image left hs made after → AllByRecursion (IsAddedModule image) hs → AllByRecursion (IsAddedModule image) (with_tables hs made)
  tables_held left after [] made are all = tt
  tables_held left after (h ∷ hs) [] are all = absurd are
  tables_held left after (h ∷ hs) (o ∷ made) are all = (one o are.1, tables_held are.0 after hs made are.3 all.1)
    where
      one : (o : Option PreparedTable) → MakesTable image left h o → IsAddedModule image (with_table h o)
      one None makes = all.0
      one (Some t) makes = record { is_table = makes.1.is_table; placed = all.0.placed }

  sum_made : (left after : Left) (hs : List AddedModule) (made : List (Option PreparedTable)) → AreMade image left hs made after →
      (sum_by rows_kept (map added_of (with_tables hs made)) ≡ sum_by rows_kept (map added_of hs) + sum_by made_rows made) × (after.rows ≡ left.rows - sum_by made_rows made)
      × (sum_by rules_kept (map added_of (with_tables hs made)) ≡ sum_by rules_kept (map added_of hs) + sum_by made_rules made) × (after.rules ≡ left.rules - sum_by made_rules made)
  sum_made left after [] [] are = let a = ap (λ (l : Left). l.rows) are in let b = ap (λ (l : Left). l.rules) are in (refl, omega arith, refl, omega arith)
  sum_made left after [] (o ∷ made) are = absurd are
  sum_made left after (h ∷ hs) [] are = absurd are
  sum_made left after (h ∷ hs) (o ∷ made) are =
      let ih = sum_made are.0 after hs made are.3 in
      let rows = rows_after left o are.0 are.2 in
      let rules = rules_after left o are.0 are.2 in
      let old_rows = sum_by-cons rows_kept (added_of h) (map added_of hs) in
      let old_rules = sum_by-cons rules_kept (added_of h) (map added_of hs) in
      let new_rows = sum_by-cons rows_kept (added_of (with_table h o)) (map added_of (with_tables hs made)) in
      let new_rules = sum_by-cons rules_kept (added_of (with_table h o)) (map added_of (with_tables hs made)) in
      let more_rows = sum_by-cons made_rows o made in
      let more_rules = sum_by-cons made_rules o made in
      let one = kept o are.1 in
      let a = ih.0 in let b = ih.1 in let c = ih.2 in let d = ih.3 in
      let one_rows = one.0 in let one_rules = one.1 in
      (omega arith, omega arith, omega arith, omega arith)
    where
      kept : (o : Option PreparedTable) → MakesTable image left h o → (rows_kept (added_of (with_table h o)) ≡ rows_kept (added_of h) + made_rows o) × (rules_kept (added_of (with_table h o)) ≡ rules_kept (added_of h) + made_rules o)
      kept None makes = (omega arith, omega arith)
      kept (Some t) makes =
          let none = unprepared h makes.0 in
          let a : rows_kept (added_of h) ≡ 0 = ap rows_of none in
          let b : rules_kept (added_of h) ≡ 0 = ap rules_of none in
          (omega arith, omega arith)

  pub left_made : (left after : Left) (hs : List AddedModule) (made : List (Option PreparedTable)) → AreMade image left hs made after → left.rows ≡ rows_left (map added_of hs) → left.rules ≡ rules_left (map added_of hs) →
      (after.rows ≡ rows_left (map added_of (with_tables hs made))) × (after.rules ≡ rules_left (map added_of (with_tables hs made)))
  left_made left after hs made are rows rules =
      let sums = sum_made left after hs made are in
      let a = sums.0 in let b = sums.1 in let c = sums.2 in let d = sums.3 in
      (omega arith, omega arith)

pub holders_stay : (hs : List AddedModule) (made : List (Option PreparedTable)) → map holder_of (with_tables hs made) ≡ map holder_of hs
holders_stay [] made = refl
holders_stay (h ∷ hs) [] = refl
holders_stay (h ∷ hs) (None ∷ made) = ap (λ l. h.holder ∷ l) (holders_stay hs made)
holders_stay (h ∷ hs) (Some t ∷ made) = ap (λ l. h.holder ∷ l) (holders_stay hs made)

pub added_made : (hs : List AddedModule) (made : List (Option PreparedTable)) → map added_of (with_tables hs made) ≡ with_indexes (map added_of hs) (map index_made made)
added_made [] made = refl
added_made (h ∷ hs) [] = refl
added_made (h ∷ hs) (None ∷ made) = ap (λ l. added_of h ∷ l) (added_made hs made)
added_made (h ∷ hs) (Some t ∷ made) = ap (λ l. added_of (with_table h (Some t)) ∷ l) (added_made hs made)

pub count_made : (made : List (Option PreparedTable)) → count_by is_some made ≡ count_by is_some (map index_made made)
count_made [] = refl
count_made (None ∷ made) =
    let a = sum_by-cons one_if None made in
    let b = sum_by-cons one_index (index_made None) (map index_made made) in
    let ih = count_made made in
    omega arith
count_made (Some t ∷ made) =
    let a = sum_by-cons one_if (Some t) made in
    let b = sum_by-cons one_index (index_made (Some t)) (map index_made made) in
    let ih = count_made made in
    omega arith

-- nothing more is kept of a module that was just added
pub left_pushed : (hs : List AddedModule) (h : AddedModule) → h.table ≡ None → (rows_left (map added_of (hs ++ h ∷ [])) ≡ rows_left (map added_of hs)) × (rules_left (map added_of (hs ++ h ∷ [])) ≡ rules_left (map added_of hs))
left_pushed hs h none =
    let all : map added_of (hs ++ h ∷ []) ≡ map added_of hs ++ added_of h ∷ [] = map-append added_of hs (h ∷ []) in
    let is : (added_of h).index ≡ None = ap index_made none in
    let a : rows_kept (added_of h) ≡ 0 = ap rows_of is in
    let b : rules_kept (added_of h) ≡ 0 = ap rules_of is in
    let rows = ap (sum_by rows_kept) all ∙ sum_by_push rows_kept (map added_of hs) (added_of h) in
    let rules = ap (sum_by rules_kept) all ∙ sum_by_push rules_kept (map added_of hs) (added_of h) in
    (omega arith, omega arith)

-- ---- one table after another is kept

pub none_kept : (hs : List AddedModule) → with_tables hs [] ≡ hs
none_kept [] = refl
none_kept (h ∷ hs) = refl

pub length_kept : (hs : List AddedModule) (made : List (Option PreparedTable)) → length (with_tables hs made) ≡ length hs
length_kept [] made = refl
length_kept (h ∷ hs) [] = refl
length_kept (h ∷ hs) (o ∷ made) = ap suc (length_kept hs made)

-- the module at a place keeps its own until its turn comes
pub still_there : (hs : List AddedModule) (made : List (Option PreparedTable)) (d : AddedModule) → get_or (with_tables hs made) (length made) d ≡ get_or hs (length made) d
still_there [] made d = refl
still_there (h ∷ hs) [] d = refl
still_there (h ∷ hs) (o ∷ made) d = still_there hs made d

pub skips : (hs : List AddedModule) (made : List (Option PreparedTable)) → with_tables hs (made ++ None ∷ []) ≡ with_tables hs made
skips [] made = refl
skips (h ∷ hs) [] = ap (λ l. h ∷ l) (none_kept hs)
skips (h ∷ hs) (o ∷ made) = ap (λ l. with_table h o ∷ l) (skips hs made)

pub keeps : (hs : List AddedModule) (made : List (Option PreparedTable)) (o : Option PreparedTable) (h : AddedModule) → length made < length hs → h ≡ get_or hs (length made) h → is_some o ≡ true →
    with_tables hs (made ++ o ∷ []) ≡ set (with_tables hs made) (length made) (record h { table = o })
keeps [] made o h lt there some = absurd (omega arith)
keeps (g ∷ hs) [] None h lt there some = absurd cc
keeps (g ∷ hs) [] (Some t) h lt there some = ap (λ l. record g { table = Some t } ∷ l) (none_kept hs) ∙ ap (λ (x : AddedModule). record x { table = Some t } ∷ hs) (sym there)
keeps (g ∷ hs) (p ∷ made) o h lt there some = ap (λ l. with_table g p ∷ l) (keeps hs made o h (omega arith) there some)

-- how many there are
pub one_more : (made : List (Option PreparedTable)) (o : Option PreparedTable) → is_some o ≡ true → count_by is_some (made ++ o ∷ []) ≡ count_by is_some made + 1
one_more made o some = let more = sum_by_push one_if made o in let one : one_if o ≡ 1 = rw some refl in omega arith

pub no_more : (made : List (Option PreparedTable)) → count_by is_some (made ++ None ∷ []) ≡ count_by is_some made
no_more made = let more = sum_by_push one_if made None in omega arith

pub not_past : (made rest : List (Option PreparedTable)) (o : Option PreparedTable) → is_some o ≡ true → count_by is_some made + 1 ≤ count_by is_some (made ++ o ∷ rest)
not_past made rest o some =
    let all = sum_by-append one_if made (o ∷ rest) in
    let first = sum_by-cons one_if o rest in
    let one : one_if o ≡ 1 = rw some refl in omega arith

pub none_of : (o : Option PreparedTable) → is_some o ≡ false → o ≡ None
none_of None e = refl
none_of (Some t) e = absurd cc

pub skips_by : (hs : List AddedModule) (made : List (Option PreparedTable)) (o : Option PreparedTable) → o ≡ None → with_tables hs made ≡ with_tables hs (made ++ o ∷ [])
skips_by hs made o none = sym (ap (λ (p : Option PreparedTable). with_tables hs (made ++ p ∷ [])) none ∙ skips hs made)

pub no_more_by : (made : List (Option PreparedTable)) (o : Option PreparedTable) → o ≡ None → count_by is_some made ≡ count_by is_some (made ++ o ∷ [])
no_more_by made o none = sym (ap (λ (p : Option PreparedTable). count_by is_some (made ++ p ∷ [])) none ∙ no_more made)

-- ---- a space whose modules have their tables

still_stands : (es : List (ℕ × ModuleEntry)) (hs : List AddedModule) (made : List (Option PreparedTable)) → AllByRecursion (StandsAt hs) es → AllByRecursion (StandsAt (with_tables hs made)) es
still_stands [] hs made all = tt
still_stands (e ∷ es) hs made all = (ap (λ l. slice_get l e.1.place) (holders_stay hs made) ∙ all.0, still_stands es hs made all.1)

pub space_made : (image : List Span) (es : List (ℕ × ModuleEntry)) (hs : List AddedModule) (left after : Left) (made : List (Option PreparedTable)) → IsSpace image es hs left → AreMade image left hs made after → IsSpace image es (with_tables hs made) after
space_made image es hs left after made is are =
    let kept = left_made image left after hs made are is.rows is.rules in
    record {
      apart = is.apart;
      laid_out = is.laid_out;
      stand = still_stands es hs made is.stand;
      back = λ j m there. is.back j m (ap (λ l. slice_get l j) (sym (holders_stay hs made)) ∙ there);
      are_held = tables_held image left after hs made are is.are_held;
      rows = kept.0;
      rules = kept.1;
    }

-- ---- what is left of a list whose items are all replaced

pub all_replaced : {A : Type 0} (n : ℕ) (xs ys : List A) → length xs ≡ length ys → length ys ≡ n → take n (xs ++ drop (length xs) ys) ≡ xs
all_replaced zero [] [] same is = refl
all_replaced (suc n) [] [] same is = refl
all_replaced n [] (y ∷ ys) same is = absurd (omega arith)
all_replaced n (x ∷ xs) [] same is = absurd (omega arith)
all_replaced zero (x ∷ xs) (y ∷ ys) same is = absurd (omega arith)
all_replaced (suc n) (x ∷ xs) (y ∷ ys) same is = ap (λ l. x ∷ l) (all_replaced n xs ys (omega arith) (omega arith))

-- ---- one table after another, in place

pub default_free : (hs : List AddedModule) (n : ℕ) (d e : AddedModule) → n < length hs → get_or hs n d ≡ get_or hs n e
default_free [] n d e lt = absurd (omega arith)
default_free (h ∷ hs) zero d e lt = refl
default_free (h ∷ hs) (suc n) d e lt = default_free hs n d e (omega arith)

pub shorter : (made rest : List (Option PreparedTable)) (o : Option PreparedTable) → length made < length (made ++ o ∷ rest)
shorter [] rest o = omega arith
shorter (p ∷ made) rest o = let ih = shorter made rest o in omega arith

abbrev tabled : Option PreparedTable → AddedModule → AddedModule
tabled o h = record h { table = o }

pub kept_by : (hs added : List AddedModule) (made : List (Option PreparedTable)) (o : Option PreparedTable) (place : ℕ) (d : AddedModule) → added ≡ with_tables hs made → place ≡ length made → length made < length hs → is_some o ≡ true →
    set added place (record { holder = (get_or added place d).holder; table = o }) ≡ with_tables hs (made ++ o ∷ [])
kept_by hs added made o place d is at lt some =
    let n = length made in
    let h = get_or hs n d in
    ap (λ (l : List AddedModule). set l place (tabled o (get_or l place d))) is
    ∙ ap (λ (p : ℕ). set (with_tables hs made) p (tabled o (get_or (with_tables hs made) p d))) at
    ∙ ap (λ (x : AddedModule). set (with_tables hs made) n (tabled o x)) (still_there hs made d)
    ∙ sym (keeps hs made o h lt (default_free hs n d h lt) some)

-- ---- a space with one more module

pub space_pushed : (image : List Span) (es ds : List (ℕ × ModuleEntry)) (hs : List AddedModule) (k : ℕ) (x : ModuleEntry) (h : AddedModule) (left : Left) → IsSpace image es hs left → AreApart 0 (modules_in ds) → k < x.end → lowest_shared (modules_in es) k x.end ≡ None →
    ds ≡ insert_entry nat_cmp es k x → x.place ≡ length hs → h.holder ≡ module_of (k, x) → h.table ≡ None → IsPlaced h.holder → IsSpace image ds (hs ++ h ∷ []) left
space_pushed image es ds hs k x h left is apart some none at place holder unindexed placed =
    let both = stand_pushed es ds hs k x h is.apart some none at place holder is.stand is.back in
    let same = left_pushed hs h unindexed in
    record {
      apart = apart;
      laid_out = is.laid_out;
      stand = both.stand;
      back = both.back;
      are_held = all_pushed (IsAddedModule image) hs h is.are_held (record { is_table = subst (λ (o : Option PreparedTable). IsTable image h.holder.tables o) (sym unindexed) tt; placed = placed });
      rows = is.rows ∙ sym same.0;
      rules = is.rules ∙ sym same.1;
    }

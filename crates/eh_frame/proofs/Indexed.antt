-- What stands at an index, and that a scan answers the same.
use Rattle.std.proofs.Common.{◌≡◌, ◌⊎◌, ℕ, zero, suc, ◌+◌, ◌%◌, ◌^◌, ◌<◌, ◌≤◌, Bool, true, false, List, [], ◌∷◌, length, map, get_or, Option, Some, None, Result, Ok, Err, refl, sym, ap, ◌∙◌, subst, inl, inr, arith}
use Rattle.std.specs.Option.{option_map_or}
use Rattle.std.specs.List.{AllByRecursion, Contains, filter}
use Rattle.std.proofs.lemmas.Bool.{lt-ltb}
use Rattle.std.proofs.lemmas.List.Sorted.{Contains-permutation, IsPermutation-sym}
use Rattle.unwind_definitions.specs.declared.error.Error.{Error as Fault}
use Rattle.unwind_definitions.specs.declared.error.Error.TheVariants.{NoUnwindInfoForAddress}
use Rattle.unwind_definitions.specs.Input.{Input}
use Rattle.unwind_definitions.specs.Pointers.{Bases}
use Rattle.unwind_definitions.specs.Entries.{Cie, Fde}
use Rattle.unwind_definitions.specs.Row.{row, row_at, covers_pc}
use Rattle.unwind_definitions.specs.Scan.{fdes_of, first_covering, scan}
use Rattle.frame_rows.specs.KeptRows.{Kept, AreRows, rows_from}
use Rattle.eh_frame.specs.Index.{AscendApart, Described, HasRows, Index, IsFoundAt, IsPreparedFrom, IsRowedBy, common_program, described_fde, described_in, end_of, own_program, start_of}
use Rattle.eh_frame.specs.Listed.{has_bytes, nonempty}
use Rattle.encoded_pointers.specs.Readers.{Answers}
use Rattle.unwind_definitions.specs.Module.{pair_of}
use Rattle.eh_frame.specs.FdeLists.{cie_in, fde_in, fde_with}
use Rattle.eh_frame.specs.EntryViews.{cie_of}
use Rattle.eh_frame.specs.declared.cie.Cie.{Cie as CodeCie}
use Rattle.eh_frame.specs.declared.prepared.PreparedFunction.{PreparedFunction}
use Rattle.eh_frame.proofs.Ascending.{covered}
use Rattle.eh_frame.proofs.Searching.{scan_listed}

-- ---- by index

pub all_at : {X : Type 0} (P : X → Type 0) (xs : List X) (i : ℕ) (x : X) → AllByRecursion P xs → i < length xs → x ≡ get_or xs i x → P x
all_at P [] i x all lt is = absurd (omega arith)
all_at P (y ∷ ys) zero x all lt is = subst P (sym is) all.0
all_at P (y ∷ ys) (suc i) x all lt is = all_at P ys i x all.1 (omega arith) is

module _ (cies : List CodeCie) (rows : List Kept) where
  pub start_there : (fs : List PreparedFunction) (i n : ℕ) (d : Described) → i < length fs → n ≡ get_or (map start_of fs) i n → n ≡ (get_or (map (described_in cies rows) fs) i d).fde.start
  start_there [] i n d lt is = absurd (omega arith)
  start_there (f ∷ fs) zero n d lt is = is
  start_there (f ∷ fs) (suc i) n d lt is = start_there fs i n d (omega arith) is

  pub function_there : (fs : List PreparedFunction) (i : ℕ) (f : PreparedFunction) (d : Described) → i < length fs → f ≡ get_or fs i f → get_or (map (described_in cies rows) fs) i d ≡ described_in cies rows f
  function_there [] i f d lt is = absurd (omega arith)
  function_there (g ∷ fs) zero f d lt is = ap (described_in cies rows) (sym is)
  function_there (g ∷ fs) (suc i) f d lt is = function_there fs i f d (omega arith) is

-- the common information entry at an index
pub cie_there : (cies : List CodeCie) (i : ℕ) (cie : CodeCie) → i < length cies → cie ≡ get_or cies i cie → cie_in cies i ≡ cie_of cie
cie_there [] i cie lt is = absurd (omega arith)
cie_there (c ∷ cies) zero cie lt is = ap cie_of (sym is)
cie_there (c ∷ cies) (suc i) cie lt is = cie_there cies i cie (omega arith) is

-- a description at an index, with its common information entry
pub fde_there : (cies : List CodeCie) (rows : List Kept) (fs : List PreparedFunction) (i : ℕ) (f : PreparedFunction) (cie : CodeCie) (d : Described) → i < length fs → f ≡ get_or fs i f →
    f.fde.cie < length cies → cie ≡ get_or cies f.fde.cie cie → (get_or (map (described_in cies rows) fs) i d).fde ≡ fde_with (cie_of cie) f.fde
fde_there cies rows fs i f cie d lt is below at = ap (λ (e : Described). e.fde) (function_there cies rows fs i f d lt is) ∙ ap (λ (c : Cie). fde_with c f.fde) (cie_there cies f.fde.cie cie below at)

-- ---- what lists contain

here_or_later : {A : Type 0} (x : A) (xs : List A) (y : A) → Contains (x ∷ xs) y → (x ≡ y) ⊎ Contains xs y
here_or_later x xs y (zero, lt, e) = inl e
here_or_later x xs y (suc k, lt, e) = inr (k, omega arith, e)

none_in_nil : {A : Type 0} (y : A) → Contains [] y → ⊥
none_in_nil y (k, lt, e) = omega arith

later : {A : Type 0} (x : A) (xs : List A) (y : A) → Contains xs y → Contains (x ∷ xs) y
later x xs y (k, lt, e) = (suc k, omega arith, e)

first : {A : Type 0} (x : A) (xs : List A) → Contains (x ∷ xs) x
first x xs = (0, omega arith, refl)

contains_filter : {A : Type 0} (p : A → Bool) (xs : List A) (y : A) → Contains xs y → p y ≡ true → Contains (filter p xs) y
contains_filter p [] y has e = absurd (none_in_nil y has)
contains_filter p (x ∷ xs) y has e = go (p x) refl (here_or_later x xs y has) (contains_filter p xs y)
  where
    go : (b : Bool) → p x ≡ b → (x ≡ y) ⊎ Contains xs y → (Contains xs y → p y ≡ true → Contains (filter p xs) y) → Contains (filter p (x ∷ xs)) y
    go true px (inl same) ih = rw px (subst (λ z. Contains (x ∷ filter p xs) z) same (first x (filter p xs)))
    go true px (inr has') ih = rw px (later x (filter p xs) y (ih has' e))
    go false px (inl same) ih = let e' : p x ≡ true = rw (sym same) at e in absurd cc
    go false px (inr has') ih = rw px (ih has' e)

filter_contains : {A : Type 0} (p : A → Bool) (xs : List A) (y : A) → Contains (filter p xs) y → Contains xs y
filter_contains p [] y has = has
filter_contains p (x ∷ xs) y has = go (p x) refl has (filter_contains p xs y)
  where
    go : (b : Bool) → p x ≡ b → Contains (filter p (x ∷ xs)) y → (Contains (filter p xs) y → Contains xs y) → Contains (x ∷ xs) y
    go true px has' ih = let h : Contains (x ∷ filter p xs) y = rw px at has' in elim (here_or_later x (filter p xs) y h) [
      | inl same ↦ subst (λ z. Contains (x ∷ xs) z) same (first x xs)
      | inr rest ↦ later x xs y (ih rest)
    ]
    go false px has' ih = let h : Contains (filter p xs) y = rw px at has' in later x xs y (ih h)

all_contains : {A : Type 0} (P : A → Type 0) (xs : List A) (y : A) → AllByRecursion P xs → Contains xs y → P y
all_contains P [] y all has = absurd (none_in_nil y has)
all_contains P (x ∷ xs) y all has = elim (here_or_later x xs y has) [ inl same ↦ subst P same all.0 | inr has' ↦ all_contains P xs y all.1 has' ]

mapped : {A B : Type 0} (f : A → B) (xs : List A) (i : ℕ) (d : A) (y : B) → i < length xs → f (get_or xs i d) ≡ y → Contains (map f xs) y
mapped f [] i d y lt is = absurd (omega arith)
mapped f (x ∷ xs) zero d y lt is = subst (λ z. Contains (f x ∷ map f xs) z) is (first (f x) (map f xs))
mapped f (x ∷ xs) (suc i) d y lt is = later (f x) (map f xs) y (mapped f xs i d y (omega arith) is)

-- ---- the first that contains an address

some_fde : Fde → Option Fde
some_fde x = Some x

is_first : (fdes : List Fde) (fde : Fde) (pc : ℕ) → Contains fdes fde → covers_pc fde pc ≡ true → ((g : Fde) → Contains fdes g → covers_pc g pc ≡ true → g ≡ fde) → first_covering fdes pc ≡ Some fde
is_first [] fde pc has covers one = absurd (none_in_nil fde has)
is_first (g ∷ gs) fde pc has covers one = go (covers_pc g pc) refl (here_or_later g gs fde has) (is_first gs fde pc)
  where
    go : (b : Bool) → covers_pc g pc ≡ b → (g ≡ fde) ⊎ Contains gs fde → (Contains gs fde → covers_pc fde pc ≡ true → ((g : Fde) → Contains gs g → covers_pc g pc ≡ true → g ≡ fde) → first_covering gs pc ≡ Some fde) → first_covering (g ∷ gs) pc ≡ Some fde
    go true e side ih = rw e (ap (λ (x : Fde). let o : Option Fde = Some x in o) (one g (first g gs) e))
    go false e (inl same) ih = let e' : covers_pc fde pc ≡ false = rw same at e in absurd cc
    go false e (inr rest) ih = rw e (ih rest covers (λ h has' c. one h (later g gs h has') c))

is_none : (fdes : List Fde) (pc : ℕ) → ((g : Fde) → Contains fdes g → covers_pc g pc ≡ true → ⊥) → first_covering fdes pc ≡ None
is_none [] pc none = refl
is_none (g ∷ gs) pc none = go (covers_pc g pc) refl (is_none gs pc (λ h has c. none h (later g gs h has) c))
  where
    go : (b : Bool) → covers_pc g pc ≡ b → first_covering gs pc ≡ None → first_covering (g ∷ gs) pc ≡ None
    go true e ih = absurd (none g (first g gs) e)
    go false e ih = rw e ih

-- of ranges that lie apart one at most contains an address
module _ {X : Type 0} (fde : X → Fde) where
  above : (xs : List X) (low pc : ℕ) (y : Fde) → AscendApart fde low xs → Contains (map fde xs) y → covers_pc y pc ≡ true → low ≤ pc
  above [] low pc y apart has covers = absurd (none_in_nil y has)
  above (x ∷ xs) low pc y apart has covers =
      let h : low ≤ (fde x).start = apart.0 in
      elim (here_or_later (fde x) (map fde xs) y has) [
        | inl same ↦ let c = covered y pc covers in let from : y.start ≤ pc = c.0 in let s = ap (λ (f : Fde). f.start) same in omega arith
        | inr rest ↦ let ih = above xs (end_of (fde x)) pc y apart.2 rest covers in omega arith
      ]

  pub only_one : (xs : List X) (low pc : ℕ) (y z : Fde) → AscendApart fde low xs → Contains (map fde xs) y → Contains (map fde xs) z → covers_pc y pc ≡ true → covers_pc z pc ≡ true → y ≡ z
  only_one [] low pc y z apart has_y has_z cy cz = absurd (none_in_nil y has_y)
  only_one (x ∷ xs) low pc y z apart has_y has_z cy cz = go (here_or_later (fde x) (map fde xs) y has_y) (here_or_later (fde x) (map fde xs) z has_z) (only_one xs (end_of (fde x)) pc y z apart.2)
    where
      not_past : (y z : Fde) → fde x ≡ y → Contains (map fde xs) z → covers_pc y pc ≡ true → covers_pc z pc ≡ true → ⊥
      not_past y z same rest cy cz =
          let c = covered y pc cy in let below : pc < end_of y = c.1 in
          let s = ap end_of same in
          let a = above xs (end_of (fde x)) pc z apart.2 rest cz in omega arith

      go : (fde x ≡ y) ⊎ Contains (map fde xs) y → (fde x ≡ z) ⊎ Contains (map fde xs) z → (Contains (map fde xs) y → Contains (map fde xs) z → covers_pc y pc ≡ true → covers_pc z pc ≡ true → y ≡ z) → y ≡ z
      go (inl a) (inl b) ih = sym a ∙ b
      go (inl a) (inr b) ih = absurd (not_past y z a b cy cz)
      go (inr a) (inl b) ih = absurd (not_past z y b a cz cy)
      go (inr a) (inr b) ih = ih a b cy cz

-- ---- a scan

has_some : (fde : Fde) (pc : ℕ) → covers_pc fde pc ≡ true → has_bytes fde ≡ true
has_some fde pc covers = let c = covered fde pc covers in let a = c.0 in let b = c.1 in lt-ltb 0 fde.size (omega arith)

module _ (bases : Bases) (table : Input) (index : Index) (from : IsPreparedFrom bases table index) (pc : ℕ) where
  abbrev answer : Option Fde → Result Fde Fault
  answer o = option_map_or (λ (x : Fde). Ok x) o (Err NoUnwindInfoForAddress)

  abbrev fdes : List Fde
  fdes = fdes_of from.entries

  scanned : scan bases table pc ≡ answer (first_covering fdes pc)
  scanned = scan_listed bases table pc from.from_start from.entries from.are

  -- a description that contains the address is in the index
  is_in : (g : Fde) → Contains fdes g → covers_pc g pc ≡ true → Contains (map described_fde index.functions) g
  is_in g has covers = Contains-permutation (nonempty from.entries) (map described_fde index.functions) g from.each (contains_filter has_bytes fdes g has (has_some g pc covers))

  is_from : (g : Fde) → Contains (map described_fde index.functions) g → Contains fdes g
  is_from g has = filter_contains has_bytes fdes g (Contains-permutation (map described_fde index.functions) (nonempty from.entries) g (IsPermutation-sym (nonempty from.entries) (map described_fde index.functions) from.each) has)

  pub scan_found : (i : ℕ) (fde : Fde) → IsFoundAt index.functions pc i fde → scan bases table pc ≡ Ok fde
  scan_found i fde found =
      let here = item index.functions i found.within in
      let has : Contains (map described_fde index.functions) fde = mapped described_fde index.functions i here fde found.within (found.stands here) in
      scanned ∙ ap answer (is_first fdes fde pc (is_from fde has) found.contains (λ g listed covers. only_one described_fde index.functions 0 pc g fde from.apart (is_in g listed covers) has covers found.contains))
    where
      item : (fs : List Described) (i : ℕ) → i < length fs → Described
      item [] i lt = absurd (omega arith)
      item (f ∷ fs) i lt = f

  all_mapped : (fs : List Described) → AllByRecursion (λ d. covers_pc d.fde pc ≡ false) fs → AllByRecursion (λ f. covers_pc f pc ≡ false) (map described_fde fs)
  all_mapped [] all = tt
  all_mapped (f ∷ fs) all = (all.0, all_mapped fs all.1)

  pub scan_none : AllByRecursion (λ d. covers_pc d.fde pc ≡ false) index.functions → scan bases table pc ≡ Err NoUnwindInfoForAddress
  scan_none none = scanned ∙ ap answer (is_none fdes pc (λ g has covers. let out : covers_pc g pc ≡ false = all_contains (λ f. covers_pc f pc ≡ false) (map described_fde index.functions) g (all_mapped index.functions none) (is_in g has covers) in absurd cc))

-- ---- rows

pub row_at_is : (bases : Bases) (fde : Fde) (pc : ℕ) → covers_pc fde pc ≡ true → row_at bases fde pc ≡ row fde.start pc (common_program bases fde) (own_program bases fde)
unfolding row_at
row_at_is bases fde pc covers = rw covers refl

-- the rows of a found function
pub rows_there : (bases : Bases) (cies : List CodeCie) (rows : List Kept) (fs : List PreparedFunction) (f : PreparedFunction) (i : ℕ) → AllByRecursion (IsRowedBy bases) (map (described_in cies rows) fs) → i < length fs → f ≡ get_or fs i f →
    AreRows (λ pc. row (fde_in cies f.fde).start pc (common_program bases (fde_in cies f.fde)) (own_program bases (fde_in cies f.fde))) (end_of (fde_in cies f.fde)) (rows_from f.fde.initial_address rows f.rows)
rows_there bases cies rows [] f i all lt is = absurd (omega arith)
rows_there bases cies rows (g ∷ fs) f zero all lt is =
    subst (λ (f : PreparedFunction). AreRows (λ pc. row (fde_in cies f.fde).start pc (common_program bases (fde_in cies f.fde)) (own_program bases (fde_in cies f.fde))) (end_of (fde_in cies f.fde)) (rows_from f.fde.initial_address rows f.rows)) (sym is) all.0.rows
rows_there bases cies rows (g ∷ fs) f (suc i) all lt is = rows_there bases cies rows fs f i all.1 (omega arith) is

-- an index with a function has a row
pub some_row : (cies : List CodeCie) (rows : List Kept) (fs : List PreparedFunction) → 0 < length fs → AllByRecursion (HasRows cies rows) fs → 0 < length rows
some_row cies rows [] some all = absurd (omega arith)
some_row cies rows (f ∷ fs) some all =
    let from = all.0.some in
    let to = all.0.within in
    omega arith

abbrev pub pair_at_place : ℕ → ℕ × ℕ → ℕ × ℕ
pair_at_place frame p = (p.0, (frame + p.1) % 2 ^ 64)

-- the pair of the description at an index
pub pair_there : (fs : List Described) (i frame : ℕ) (p : ℕ × ℕ) (d : Fde) → i < length fs → ((e : Described) → (p.0 ≡ (get_or fs i e).fde.start) × (p.1 ≡ (get_or fs i e).fde.offset)) → pair_at_place frame p ≡ pair_of frame (get_or (map described_fde fs) i d)
pair_there [] i frame p d lt is = absurd (omega arith)
pair_there (f ∷ fs) zero frame p d lt is = let at = is f in ap (λ (s : ℕ). (s, (frame + p.1) % 2 ^ 64)) at.0 ∙ ap (λ (o : ℕ). (f.fde.start, (frame + o) % 2 ^ 64)) at.1
pair_there (f ∷ fs) (suc i) frame p d lt is = pair_there fs i frame p d (omega arith) is

-- a result that is its own view
pub answer_same : (r : Result (ℕ × ℕ) Fault) (due : Result (ℕ × ℕ) Fault) → Answers (λ p. p) r due → due ≡ r
answer_same (Ok p) due is = is
answer_same (Err e) due is = is

-- a list that has an index has an item
pub an_item : (fs : List Described) (i : ℕ) → i < length fs → Described
an_item [] i lt = absurd (omega arith)
an_item (f ∷ fs) i lt = f

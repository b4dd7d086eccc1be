-- The rows of descriptions are kept, one description after another.
use Rattle.std.proofs.Common.{◌≡◌, ℕ, zero, suc, ◌+◌, ◌-◌, ◌<◌, ◌≤◌, List, [], ◌∷◌, ◌++◌, length, map, take, drop, get_or, set, length-set, None, refl, sym, ap, ◌∙◌, subst, inl, inr, arith, length-append, length-drop}
use Rattle.std.specs.Prelude.{slice_range}
use Rattle.std.specs.List.{AllByRecursion, sum_by}
use Rattle.std.proofs.lemmas.List.{take-append-le, drop-append-le, length-map, map-append, take_more, get_or-set_other}
use Rattle.std.proofs.lemmas.List.Sums.{sum_by_more_le, sum_by_push}
use Rattle.std.proofs.lemmas.Grind.{take-set_at}
use Rattle.std.proofs.Math.Seq.{take-length}
use Rattle.unwind_definitions.specs.Pointers.{Bases}
use Rattle.unwind_definitions.specs.Entries.{Fde}
use Rattle.frame_rows.specs.KeptRows.{AreTooMany, IsAdded, Kept, KeptRows, kept_rule_count, location_of, kept_at_distance, reached_locations}
use Rattle.frame_rows.specs.declared.row_table.RowLimits.{RowLimits}
use Rattle.frame_rows.specs.declared.row_table.RowRange.{RowRange}
use Rattle.eh_frame.specs.Index.{AreKept, AscendApart, Described, HasRows, IsIndex, IsRowedBy, KeepsRows, common_program, described_fde, described_in, end_of, own_program, start_of, rows_due, rules_due}
use Rattle.eh_frame.specs.FdeLists.{IsListedIn, fde_in}
use Rattle.eh_frame.specs.declared.cie.Cie.{Cie as CodeCie}
use Rattle.eh_frame.specs.declared.indexed_fde.IndexedFde.{IndexedFde}
use Rattle.eh_frame.specs.declared.prepared.PreparedFunction.{PreparedFunction}

-- ---- lists

pub all_push : {X : Type 0} (P : X → Type 0) (xs : List X) (x : X) → AllByRecursion P xs → P x → AllByRecursion P (xs ++ x ∷ [])
all_push P [] x all one = (one, tt)
all_push P (y ∷ ys) x all one = (all.0, all_push P ys x all.1 one)

pub all_also : {X : Type 0} (P Q : X → Type 0) (xs : List X) → AllByRecursion P xs → ((x : X) → P x → Q x) → AllByRecursion Q xs
all_also P Q [] all step = tt
all_also P Q (x ∷ xs) all step = (step x all.0, all_also P Q xs all.1 step)

part_stays : {X : Type 0} (xs ys : List X) (a b : ℕ) → a ≤ b → b ≤ length xs → slice_range (xs ++ ys) a b ≡ slice_range xs a b
part_stays xs ys a b le within =
    let n = length-drop a xs in
    ap (take (b - a)) (drop-append-le a xs ys (omega arith)) ∙ take-append-le (b - a) (drop a xs) ys (omega arith)

before_stays : (xs ys : List Kept) (i : ℕ) (d : Kept) → i < length xs → get_or (xs ++ ys) i d ≡ get_or xs i d
before_stays [] ys i d lt = absurd (omega arith)
before_stays (x ∷ xs) ys zero d lt = refl
before_stays (x ∷ xs) ys (suc i) d lt = before_stays xs ys i d (omega arith)

-- the first of a description's rows holds from its start on
first_at : (start : ℕ) (rows : List Kept) (i size : ℕ) (d : Kept) (ls : List ℕ) → map location_of (map (kept_at_distance start) (take size (drop i rows))) ≡ start ∷ ls → (get_or rows i d).location ≡ 0
first_at start [] zero zero d ls is = absurd cc
first_at start [] zero (suc size) d ls is = absurd cc
first_at start [] (suc i) zero d ls is = absurd cc
first_at start [] (suc i) (suc size) d ls is = absurd cc
first_at start (k ∷ ks) zero zero d ls is = absurd cc
first_at start (k ∷ ks) zero (suc size) d ls is = let there : start + k.location ≡ start = cc in omega arith
first_at start (k ∷ ks) (suc i) size d ls is = first_at start ks i size d ls is

pub same_apart : {X Y : Type 0} (f : X → Fde) (g : Y → Fde) (low : ℕ) (xs : List X) (ys : List Y) → map g ys ≡ map f xs → AscendApart f low xs → AscendApart g low ys
same_apart f g low [] [] is apart = tt
same_apart f g low [] (y ∷ ys) is apart = absurd cc
same_apart f g low (x ∷ xs) [] is apart = absurd cc
same_apart f g low (x ∷ xs) (y ∷ ys) is apart =
    let first : g y ≡ f x = cc in let rest : map g ys ≡ map f xs = cc in
    (subst (λ (e : Fde). low ≤ e.start) (sym first) apart.0, subst (λ (e : Fde). 0 < e.size) (sym first) apart.1, subst (λ (e : Fde). AscendApart g (end_of e) ys) (sym first) (same_apart f g (end_of (f x)) xs ys rest apart.2))

pub has_size : {X : Type 0} (f : X → Fde) (low : ℕ) (xs : List X) (i : ℕ) (x : X) → AscendApart f low xs → i < length xs → x ≡ get_or xs i x → 0 < (f x).size
has_size f low [] i x apart lt is = absurd (omega arith)
has_size f low (y ∷ ys) zero x apart lt is = subst (λ z. 0 < (f z).size) (sym is) apart.1
has_size f low (y ∷ ys) (suc i) x apart lt is = has_size f (end_of (f y)) ys i x apart.2 (omega arith) is

-- ---- rows are noted in place

-- from one on what is listed stays
pub record IsAhead (i : ℕ) (old new : List PreparedFunction) : Type 0 where
  pub same_length : length new ≡ length old
  pub still : (k : ℕ) (d : PreparedFunction) → i ≤ k → get_or new k d ≡ get_or old k d

pub all_ahead : (xs : List PreparedFunction) → IsAhead 0 xs xs
all_ahead xs = record { same_length = refl; still = λ k d le. refl }

-- what is written through a view of all
pub written_whole : {X : Type 0} (n : ℕ) (new old : List X) → n ≡ length old → length new ≡ length old → take n (new ++ drop (length new) old) ≡ new
written_whole n new old all same = take-append-le n new (drop (length new) old) (omega arith) ∙ ap (λ n. take n new) (all ∙ sym same) ∙ take-length new

module _ (old new : List PreparedFunction) (i : ℕ) (a : IsAhead i old new) (f : PreparedFunction) (lt : i < length old) where
  pub noted_ahead : IsAhead (i + 1) old (set new i f)
  noted_ahead = record {
    same_length = length-set new i f ∙ a.same_length;
    still = λ k d le. get_or-set_other new i k f d (λ same. omega arith) ∙ a.still k d (omega arith);
  }

  pub noted_taken : take (i + 1) (set new i f) ≡ take i new ++ f ∷ []
  noted_taken = let n = a.same_length in take-set_at new i (i + 1) f refl (omega arith)

-- ---- rows that are kept so far

module _ (bases : Bases) (fdes : List Fde) (limits : RowLimits) (cies : List CodeCie) where
  pub record IsKeeping (i : ℕ) (rows : KeptRows) (starts : List ℕ) (functions : List PreparedFunction) : Type 0 where
    pub starts_are : starts ≡ map start_of functions
    pub each : map described_fde (map (described_in cies rows.rows) functions) ≡ take i fdes
    pub rowed : AllByRecursion (HasRows cies rows.rows) functions
    pub kept : AllByRecursion (IsRowedBy bases) (map (described_in cies rows.rows) functions)
    pub row_count : rows.row_count ≡ sum_by (rows_due bases) (take i fdes)
    pub rule_count : rows.rule_count ≡ sum_by (rules_due bases) (take i fdes)
    pub rows_fit : rows.row_count ≤ limits.rows
    pub rules_fit : rows.rule_count ≤ limits.rules

  pub begun : IsKeeping 0 (record { rows = []; row_count = 0; rule_count = 0 }) [] []
  begun = record { starts_are = refl; each = refl; rowed = tt; kept = tt; row_count = refl; rule_count = refl; rows_fit = omega arith; rules_fit = omega arith }

  abbrev pub Added : Fde → KeptRows → RowRange → KeptRows → Type 0
  Added fde old range new = IsAdded limits fde.start (end_of fde) (common_program bases fde) (own_program bases fde) old range new

  module _ (i : ℕ) (rows : KeptRows) (starts : List ℕ) (functions : List PreparedFunction) (k : IsKeeping i rows starts functions) (code : IndexedFde) (lt : i < length fdes) (is : fde_in cies code ≡ get_or fdes i (fde_in cies code)) (listed : IsListedIn cies code) where
    abbrev fde : Fde
    fde = fde_in cies code

    one_more : take (i + 1) fdes ≡ take i fdes ++ fde ∷ []
    one_more = take_more fdes i fde lt ∙ ap (λ (x : Fde). take i fdes ++ x ∷ []) (sym is)

    module _ (range : RowRange) (new : KeptRows) (adds : Added fde rows range new) where
      abbrev function : PreparedFunction
      function = record { fde = code; rows = range }

      abbrev more : List Kept
      more = adds.longer.more

      grown : new.rows ≡ rows.rows ++ more
      grown = adds.longer.grown

      -- what was there before
      same_before : (fs : List PreparedFunction) → AllByRecursion (HasRows cies rows.rows) fs → map (described_in cies new.rows) fs ≡ map (described_in cies rows.rows) fs
      same_before [] all = refl
      same_before (f ∷ fs) all =
          let o = all.0.some in
          ap (λ (l : List Described). described_in cies new.rows f ∷ l) (same_before fs all.1)
          ∙ ap (λ (ks : List Kept). let d : Described = record { fde = fde_in cies f.fde; kept = map (kept_at_distance f.fde.initial_address) ks } in d ∷ map (described_in cies rows.rows) fs)
          (ap (λ (l : List Kept). slice_range l f.rows.first f.rows.end) grown ∙ part_stays rows.rows more f.rows.first f.rows.end (omega arith) all.0.within)

      rowed_before : (f : PreparedFunction) → HasRows cies rows.rows f → HasRows cies new.rows f
      rowed_before f has =
          let n = ap length grown in let m = length-append rows.rows more in
          let w = has.within in let s = has.some in
          record {
            listed = has.listed;
            some = has.some;
            within = omega arith;
            begun = λ d. subst (λ (q : Kept). q.location ≡ 0) (sym (ap (λ (l : List Kept). get_or l f.rows.first d) grown ∙ before_stays rows.rows more f.rows.first d (omega arith))) (has.begun d);
          }

      -- what is added
      count_one : new.row_count ≡ rows.row_count + rows_due bases fde
      unfolding rows_due
      count_one = adds.row_count

      rules_one : new.rule_count ≡ rows.rule_count + rules_due bases fde
      unfolding rules_due
      rules_one = adds.rule_count

      rowed_one : HasRows cies new.rows function
      rowed_one = record {
        listed = listed;
        some = adds.some;
        within = adds.within;
        begun = λ d. first_at fde.start new.rows range.first (range.end - range.first) d _ adds.of.locations;
      }

      pub further : IsKeeping (i + 1) new (starts ++ start_of function ∷ []) (functions ++ function ∷ [])
      further =
          let same = same_before functions k.rowed in
          record {
            starts_are = ap (λ (l : List ℕ). l ++ start_of function ∷ []) k.starts_are ∙ sym (map-append start_of functions (function ∷ []));
            each = ap (map described_fde) (map-append (described_in cies new.rows) functions (function ∷ [])) ∙ map-append described_fde (map (described_in cies new.rows) functions) (described_in cies new.rows function ∷ [])
                ∙ ap (λ (l : List Described). map described_fde l ++ fde ∷ []) same ∙ ap (λ (l : List Fde). l ++ fde ∷ []) k.each ∙ sym one_more;
            rowed = all_push (HasRows cies new.rows) functions function (all_also (HasRows cies rows.rows) (HasRows cies new.rows) functions k.rowed (rowed_before)) (rowed_one);
            kept = subst (AllByRecursion (IsRowedBy bases)) (sym (map-append (described_in cies new.rows) functions (function ∷ [])))
                (all_push (IsRowedBy bases) (map (described_in cies new.rows) functions) (described_in cies new.rows function) (subst (AllByRecursion (IsRowedBy bases)) (sym same) (k.kept)) adds.of);
            row_count = let c = k.row_count in let o = count_one in
                let s = ap (sum_by (rows_due bases)) one_more in let t = sum_by_push (rows_due bases) (take i fdes) fde in omega arith;
            rule_count = let c = k.rule_count in let o = rules_one in
                let s = ap (sum_by (rules_due bases)) one_more in let t = sum_by_push (rules_due bases) (take i fdes) fde in omega arith;
            rows_fit = adds.rows_fit;
            rules_fit = adds.rules_fit;
          }

    pub would_be_too_many : AreTooMany limits rows (length (reached_locations fde.start (end_of fde) (common_program bases fde) (own_program bases fde))) (kept_rule_count fde.start (end_of fde) (common_program bases fde) (own_program bases fde)) →
        KeepsRows fdes limits.rows limits.rules bases None
    unfolding rows_due rules_due
    would_be_too_many more =
        let a = sum_by_more_le (rows_due bases) fdes i fde lt in
        let b = sum_by_more_le (rules_due bases) fdes i fde lt in
        let s = ap (rows_due bases) is in let t = ap (rules_due bases) is in
        let c = k.row_count in let d = k.rule_count in
        elim more [ inl rows ↦ inl (omega arith) | inr rules ↦ inr (omega arith) ]

  -- all are kept
  module _ (i : ℕ) (rows : KeptRows) (starts : List ℕ) (functions : List PreparedFunction) (k : IsKeeping i rows starts functions) (all : i ≡ length fdes) where
    whole : take i fdes ≡ fdes
    whole = ap (λ n. take n fdes) all ∙ take-length fdes

    pub is_index : {X : Type 0} (f : X → Fde) (xs : List X) → fdes ≡ map f xs → 0 < length xs → AscendApart f 0 xs → limits.rows < 4294967296 → limits.rules < 4294967296 → IsIndex cies starts functions rows
    is_index f xs same some apart rows_few rules_few =
        let r = k.rows_fit in let s = k.rules_fit in
        let n = ap length k.each in let m = length-map (map (described_in cies rows.rows) functions) described_fde in let o = length-map functions (described_in cies rows.rows) in
        let w = ap length whole in let p = ap length same in let q = length-map xs f in
        record {
          starts_are = k.starts_are;
          some = omega arith;
          apart = same_apart f described_fde 0 xs (map (described_in cies rows.rows) functions) (k.each ∙ whole ∙ same) apart;
          rowed = k.rowed;
          rows_fit = omega arith;
          rules_fit = omega arith;
        }

    pub are_kept : AreKept fdes limits.rows limits.rules bases (record { functions = map (described_in cies rows.rows) functions; row_count = rows.row_count; rule_count = rows.rule_count })
    are_kept = record {
      each = k.each ∙ whole;
      rowed = k.kept;
      row_count = k.row_count ∙ ap (sum_by (rows_due bases)) whole;
      rule_count = k.rule_count ∙ ap (sum_by (rules_due bases)) whole;
      rows_fit = k.rows_fit;
      rules_fit = k.rules_fit;
    }

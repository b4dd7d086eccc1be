-- Tests by which a computation shows that a literal row says facts, that a literal state stands with them, and that others hold.
use Rattle.std.proofs.Common.{◌≡◌, ℕ, ◌+◌, ◌-◌, ◌^◌, ◌<◌, ◌≤◌, Bool, true, false, leb, ltb, eqb, ◌&&◌, ◌||◌, List, [], ◌∷◌, Option, Some, None, Ok, refl, sym, ap, subst, arith, inl, inr}
use Rattle.std.specs.Prelude.{IsTrue, IsFalse, IfSome}
use Rattle.std.specs.List.{AllPairs, AllByRecursion, Contains, list_all, list_any}
use Rattle.std.proofs.lemmas.Bool.{leb-true, ltb-true, eqb-true}
use Rattle.memory_image.specs.Image.{Span, word_at}
use Rattle.unwind_definitions.specs.Pointers.{Bases}
use Rattle.unwind_definitions.specs.Instructions.{Rule, Undefined, SameValue, Offset, ValOffset, InRegister, Expression, ValExpression}
use Rattle.unwind_definitions.specs.Entries.{Fde}
use Rattle.unwind_definitions.specs.Row.{RowInstructions, CfaRule, cfa_rule, kept_instructions, row_at, rule_of}
use Rattle.unwind_definitions.specs.State.{CalleeSaved, RBX, RBP, R12, R13, R14, R15, State, IsState, column_of, is_same, value_of}
use Rattle.unwind_definitions.specs.DescribedRows.{negative}
use Rattle.unwind_definitions.specs.Module.{DescriptionsApart}
use Rattle.unwind_laws.proofs.Booleans.{all_contains, any_contains, both_true, either_true}
use Rattle.unwind_laws.proofs.RowFacts.{names_ruled, state_fits, unnamed}
use Rattle.frame_facts.specs.Facts.{Slot, Facts, SlotHolds, StandsWith}
use Rattle.frame_facts.specs.FactRows.{IsKnownCfa, return_rule, FindsKnown, SaysFacts}
use Rattle.frame_facts.specs.StepFacts.{all_callee_saved}
use Rattle.frame_facts.specs.Claims.{Claim, SaysAtInside, SaysInStretches, locations_of}
use Rattle.frame_facts_laws.proofs.FromSteps.{among_all}
use Rattle.frame_facts_laws.proofs.Lists.{pairs_more, pairs_none}

-- what a test lets through of all, each lets through
pub each_true : {A : Type 0} (P : A → Type 0) (p : A → Bool) → ((x : A) → p x ≡ true → P x) → (xs : List A) → list_all p xs ≡ true → AllByRecursion P xs
each_true P p one [] e = tt
each_true P p one (x ∷ xs) e = let both = both_true (p x) (list_all p xs) e in (one x both.0, each_true P p one xs both.1)

-- ---- rows

same_is : (r q : CalleeSaved) → is_same r q ≡ true → r ≡ q
same_is RBX RBX e = refl
same_is RBP RBP e = refl
same_is R12 R12 e = refl
same_is R13 R13 e = refl
same_is R14 R14 e = refl
same_is R15 R15 e = refl
same_is _ _ e = absurd cc

abbrev is_slot : CalleeSaved → ℕ → Slot → Bool
is_slot r offset slot = is_same r slot.register && eqb offset (negative slot.distance)

abbrev finds_known : Facts → CalleeSaved → Option Rule → Bool
finds_known facts r None = list_any (is_same r) facts.kept
finds_known facts r (Some SameValue) = list_any (is_same r) facts.kept
finds_known facts r (Some (Offset n)) = list_any (is_slot r n) facts.saved
finds_known facts r (Some _) = false

abbrev offset_rule : ℕ → Option Rule
offset_rule n = Some (Offset n)

among : (r : CalleeSaved) (kept : List CalleeSaved) → list_any (is_same r) kept ≡ true → Contains kept r
among r kept e = let (q, has, same) = any_contains (is_same r) kept e in let is : r ≡ q = same_is r q same in rw is has

at_slot : (saved : List Slot) (r : CalleeSaved) (n : ℕ) (slot : Slot) → Contains saved slot → is_slot r n slot ≡ true →
    (d : ℕ) × Contains saved (record { register = r; distance = d }) × (offset_rule n ≡ offset_rule (negative d))
at_slot saved r n slot has is =
    let both = both_true (is_same r slot.register) (eqb n (negative slot.distance)) is in
    let register : slot.register ≡ r = sym (same_is r slot.register both.0) in (
      slot.distance,
      subst (λ (q : CalleeSaved). Contains saved (record { register = q; distance = slot.distance })) register has,
      ap offset_rule (eqb-true n (negative slot.distance) both.1),
    )

found : (facts : Facts) (r : CalleeSaved) (rule : Option Rule) → finds_known facts r rule ≡ true → FindsKnown facts r rule
found facts r None e = inr (among r facts.kept e, inl refl)
found facts r (Some SameValue) e = inr (among r facts.kept e, inr refl)
found facts r (Some (Offset n)) e = let (slot, has, is) = any_contains (is_slot r n) facts.saved e in inl (at_slot facts.saved r n slot has is)
found facts r (Some Undefined) e = absurd cc
found facts r (Some (ValOffset n)) e = absurd cc
found facts r (Some (InRegister n)) e = absurd cc
found facts r (Some (Expression b)) e = absurd cc
found facts r (Some (ValExpression b)) e = absurd cc

abbrev pub finds_all : Facts → RowInstructions → Bool
finds_all facts run = list_all (λ (r : CalleeSaved). finds_known facts r (rule_of run (column_of r))) all_callee_saved

pub row_says : (facts : Facts) (run : RowInstructions) (rule : CfaRule) → cfa_rule run ≡ Some rule → IsKnownCfa facts rule → rule_of run 16 ≡ Some (return_rule facts.outermost) → finds_all facts run ≡ true →
    names_ruled (kept_instructions run.common) ≡ true → names_ruled (kept_instructions run.own) ≡ true → SaysFacts facts run
row_says facts run rule cfa known ret all common own = record {
  rule = rule;
  cfa = cfa;
  known = known;
  ret = ret;
  registers = λ r. all_contains Found all_callee_saved r (each_true Found finds (λ r e. found facts r (rule_of run (column_of r)) e) all_callee_saved all) (among_all r);
  others = λ c e. unnamed run common own c e;
}
  where
    Found : CalleeSaved → Type 0
    Found r = FindsKnown facts r (rule_of run (column_of r))

    finds : CalleeSaved → Bool
    finds r = finds_known facts r (rule_of run (column_of r))

-- ---- states

abbrev is_word : Option ℕ → ℕ → Bool
is_word None n = false
is_word (Some m) n = eqb m n

abbrev is_sum : Option ℕ → ℕ → ℕ → Bool
is_sum None a b = true
is_sum (Some n) a b = eqb (a + n) b

-- whether the word below the CFA is the return address, or the caller has none
abbrev returns_to : List Span → Bool → State → Bool
returns_to image false t = is_word (word_at image (t.sp - 8)) t.ra
returns_to image true t = eqb t.ra 0

abbrev slot_holds : List Span → State → Slot → Bool
slot_holds image t slot = leb slot.distance t.sp && is_word (word_at image (t.sp - slot.distance)) (value_of slot.register t)

abbrev is_kept : State → State → CalleeSaved → Bool
is_kept t s r = eqb (value_of r s) (value_of r t)

abbrev is_placed : Facts → State → State → Bool
is_placed facts t s = leb 8 t.sp && (ltb s.sp t.sp && (is_sum facts.rsp s.sp t.sp && is_sum facts.rbp s.rbp t.sp))

abbrev pub stands_with : List Span → Facts → State → State → Bool
stands_with image facts t s = is_placed facts t s && (returns_to image facts.outermost t && (list_all (slot_holds image t) facts.saved && list_all (is_kept t s) facts.kept))

word_is : (o : Option ℕ) (n : ℕ) → is_word o n ≡ true → o ≡ Some n
word_is None n e = absurd cc
word_is (Some m) n e = let same : m ≡ n = eqb-true m n e in rw same refl

sum_is : (o : Option ℕ) (a b : ℕ) → is_sum o a b ≡ true → IfSome o (λ n. a + n ≡ b)
sum_is None a b e = tt
sum_is (Some n) a b e = eqb-true (a + n) b e

inner_returns : (image : List Span) (b : Bool) (t : State) → returns_to image b t ≡ true → IsFalse b → word_at image (t.sp - 8) ≡ Some t.ra
inner_returns image false t e is = word_is (word_at image (t.sp - 8)) t.ra e
inner_returns image true t e is = absurd cc

outer_ends : (image : List Span) (b : Bool) (t : State) → returns_to image b t ≡ true → IsTrue b → t.ra ≡ 0
outer_ends image true t e is = eqb-true t.ra 0 e
outer_ends image false t e is = absurd cc

pub state_stands : (image : List Span) (facts : Facts) (t s : State) → stands_with image facts t s ≡ true → StandsWith image facts t s
state_stands image facts t s e =
    let all = both_true (is_placed facts t s) (returns_to image facts.outermost t && (list_all (slot_holds image t) facts.saved && list_all (is_kept t s) facts.kept)) e in
    let place = both_true (leb 8 t.sp) (ltb s.sp t.sp && (is_sum facts.rsp s.sp t.sp && is_sum facts.rbp s.rbp t.sp)) all.0 in
    let below = both_true (ltb s.sp t.sp) (is_sum facts.rsp s.sp t.sp && is_sum facts.rbp s.rbp t.sp) place.1 in
    let forms = both_true (is_sum facts.rsp s.sp t.sp) (is_sum facts.rbp s.rbp t.sp) below.1 in
    let returns = both_true (returns_to image facts.outermost t) (list_all (slot_holds image t) facts.saved && list_all (is_kept t s) facts.kept) all.1 in
    let registers = both_true (list_all (slot_holds image t) facts.saved) (list_all (is_kept t s) facts.kept) returns.1 in
    record {
      room = leb-true 8 t.sp place.0;
      below = ltb-true s.sp t.sp below.0;
      by_rsp = sum_is facts.rsp s.sp t.sp forms.0;
      by_rbp = sum_is facts.rbp s.rbp t.sp forms.1;
      returns = λ inner. inner_returns image facts.outermost t returns.0 inner;
      ends = λ outer. outer_ends image facts.outermost t returns.0 outer;
      saved = each_true (SlotHolds image t) (slot_holds image t) slot facts.saved registers.0;
      kept = each_true (λ (r : CalleeSaved). value_of r s ≡ value_of r t) (is_kept t s) (λ r e. eqb-true (value_of r s) (value_of r t) e) facts.kept registers.1;
    }
  where
    slot : (k : Slot) → slot_holds image t k ≡ true → SlotHolds image t k
    slot k e =
        let both = both_true (leb k.distance t.sp) (is_word (word_at image (t.sp - k.distance)) (value_of k.register t)) e in
        (leb-true k.distance t.sp both.0, word_is (word_at image (t.sp - k.distance)) (value_of k.register t) both.1)

-- ---- claims

-- whether no location lies inside the claim's range, above its start
abbrev pub is_one_stretch : Claim → List ℕ → Bool
is_one_stretch c ns = list_all (λ n. leb n c.range.from || leb c.range.to n) ns

-- a row at the start of a range says its claim, where no new row begins inside
pub one_row_says : (bases : Bases) (fde : Fde) (c : Claim) (run : RowInstructions) → fde.start ≤ c.range.from → c.range.to ≤ fde.start + fde.size → fde.cie.letters.signal ≡ false →
    row_at bases fde c.range.from ≡ Ok run → SaysFacts c.facts run → is_one_stretch c (locations_of bases fde) ≡ true → SaysInStretches bases fde c
one_row_says bases fde c run from to unmarked row says apart = record {
  from = from;
  to = to;
  unmarked = unmarked;
  first = (run, row, says);
  later = each_true (SaysAtInside bases fde c) (λ n. leb n c.range.from || leb c.range.to n) outside (locations_of bases fde) apart;
}
  where
    outside : (n : ℕ) → (leb n c.range.from || leb c.range.to n) ≡ true → SaysAtInside bases fde c n
    outside n e above below = absurd (elim (either_true (leb n c.range.from) (leb c.range.to n) e) [
      | inl low ↦ let le = leb-true n c.range.from low in omega arith
      | inr high ↦ let le = leb-true c.range.to n high in omega arith
    ])

-- ---- descriptions that lie apart

abbrev is_apart : Fde → Fde → Bool
is_apart a b = leb (a.start + a.size) b.start || leb (b.start + b.size) a.start

abbrev pub are_apart : List Fde → Bool
are_apart [] = true
are_apart (x ∷ xs) = list_all (is_apart x) xs && are_apart xs

one_apart : (a b : Fde) → is_apart a b ≡ true → DescriptionsApart a b
one_apart a b e = elim (either_true (leb (a.start + a.size) b.start) (leb (b.start + b.size) a.start) e) [
  | inl below ↦ inl (leb-true (a.start + a.size) b.start below)
  | inr above ↦ inr (leb-true (b.start + b.size) a.start above)
]

pub lie_apart : (xs : List Fde) → are_apart xs ≡ true → AllPairs DescriptionsApart xs
lie_apart [] e = pairs_none DescriptionsApart
lie_apart (x ∷ xs) e =
    let both = both_true (list_all (is_apart x) xs) (are_apart xs) e in
    pairs_more DescriptionsApart x xs (each_true (DescriptionsApart x) (is_apart x) (one_apart x) xs both.0) (lie_apart xs both.1)

-- ---- words

abbrev pub are_words : State → Bool
are_words s = list_all (λ n. ltb n (2 ^ 64)) (s.ra ∷ s.sp ∷ s.rbx ∷ s.rbp ∷ s.r12 ∷ s.r13 ∷ s.r14 ∷ s.r15 ∷ [])

pub words_fit : (s : State) → are_words s ≡ true → IsState s
words_fit s e =
    let (ra, (sp, (rbx, (rbp, (r12, (r13, (r14, (r15, _)))))))) = each_true (λ n. n < 2 ^ 64) (λ n. ltb n (2 ^ 64)) (λ n less. ltb-true n (2 ^ 64) less) (s.ra ∷ s.sp ∷ s.rbx ∷ s.rbp ∷ s.r12 ∷ s.r13 ∷ s.r14 ∷ s.r15 ∷ []) e in
    state_fits s ra sp rbx rbp r12 r13 r14 r15

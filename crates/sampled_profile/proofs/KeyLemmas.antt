-- When two stacks are the same one to a map.
use Rattle.std.proofs.Common.{◌≡◌, ℕ, Bool, true, false, cond, ◌&&◌, List, ◌∷◌, [], Option, Some, None, refl, sym, ap, ◌∙◌, rules}
use Rattle.std.specs.Prelude.{nat_eq}
use Rattle.std.proofs.Math.Bool.{beq}
use Rattle.std.specs.Cmp.Lexicographic.{pointwise, bytes_decides}
use Rattle.std.specs.Map.{lookup}
use denote.Enum.Bare.{same_true}
use Rattle.stack_snapshot.specs.Origins.{OriginValue}
use Rattle.sampled_profile.specs.declared.stack_end.StackEnd.{StackEnd}
use Rattle.sampled_profile.specs.declared.stack_table.SampledStack.{SampledStack}
use Rattle.sampled_profile.specs.contracts.stack_end.StackEnd.{the_type}
use Rattle.sampled_profile.specs.contracts.stack_end.StackEndPartialEq.TheImpl as ends
use Rattle.sampled_profile.specs.contracts.stack_table.SampledStackPartialEq.TheImpl as stacks
use Rattle.sampled_profile.specs.Tables.{shown_text}
use Rattle.sampled_profile.specs.Texts.{stack_text}

both_true : (a b : Bool) → (a && b) ≡ true → (a ≡ true) × (b ≡ true)
both_true true true e = (refl, refl)
both_true true false e = absurd cc
both_true false b e = absurd cc

-- a stack of this name, end, mark and return addresses is that of a key
abbrev key_eq : Bool → List ℕ → StackEnd → Bool → List ℕ → SampledStack → Bool
key_eq named name end popped places k = beq named k.named && (pointwise nat_eq name k.name.items && (ends.eq-value.it end k.end && (beq popped k.popped && pointwise nat_eq places k.places.items)))

eq_is : (a k : SampledStack) → stacks.eq-value.it a k ≡ key_eq a.named a.name.items a.end a.popped a.places.items k
eq_is a k = refl

-- a copy is the same as each key that the stack is the same as
pub copy_same : (a b : SampledStack) → a.named ≡ b.named → a.name.items ≡ b.name.items → a.end ≡ b.end → a.popped ≡ b.popped → a.places.items ≡ b.places.items → (k : SampledStack) → stacks.eq-value.it a k ≡ stacks.eq-value.it b k
copy_same a b named names ends marks places k = eq_is a k ∙ ((λ i. key_eq (named i) (names i) (ends i) (marks i) (places i) k) ∙ sym (eq_is b k))

-- and what is told of stacks that are the same is the same
abbrev name_by : Bool → List ℕ → Option (List ℕ)
name_by named name = cond named (Some name) None

ends_same : (a b : StackEnd) → ends.eq-value.it a b ≡ true → a ≡ b
ends_same a b e = same_true the_type (search rules) a b e

marks_same : (a b : Bool) → beq a b ≡ true → a ≡ b
marks_same true true e = refl
marks_same false false e = refl
marks_same true false e = absurd cc
marks_same false true e = absurd cc

pub same_text : (a k : SampledStack) → stacks.eq-value.it a k ≡ true → (origins : List OriginValue) → shown_text origins k ≡ shown_text origins a
same_text a k e origins =
    let returned = pointwise nat_eq a.places.items k.places.items in
    let spelled = pointwise nat_eq a.name.items k.name.items in
    let all = both_true (beq a.named k.named) (spelled && (ends.eq-value.it a.end k.end && (beq a.popped k.popped && returned))) (sym (eq_is a k) ∙ e) in
    let parts = both_true spelled (ends.eq-value.it a.end k.end && (beq a.popped k.popped && returned)) all.1 in
    let others = both_true (ends.eq-value.it a.end k.end) (beq a.popped k.popped && returned) parts.1 in
    let last = both_true (beq a.popped k.popped) returned others.1 in
    let named = marks_same a.named k.named all.0 in
    let name = (bytes_decides a.name.items k.name.items).0 parts.0 in
    let end = ends_same a.end k.end others.0 in
    let popped = marks_same a.popped k.popped last.0 in
    let places = (bytes_decides a.places.items k.places.items).0 last.1 in
    sym (λ i. stack_text origins (name_by (named i) (name i)) (record { places = places i; end = end i; popped = popped i }))

pub copy_text : (a b : SampledStack) → a.named ≡ b.named → a.name.items ≡ b.name.items → a.end ≡ b.end → a.popped ≡ b.popped → a.places.items ≡ b.places.items → (origins : List OriginValue) → shown_text origins a ≡ shown_text origins b
copy_text a b named names ends marks places origins = λ i. stack_text origins (name_by (named i) (names i)) (record { places = places i; end = ends i; popped = marks i })

-- tests that answer alike find the same
pub lookup_same : {K X : Type 0} (test other : K → Bool) (es : List (K × X)) → ((k : K) → test k ≡ other k) → lookup test es ≡ lookup other es
lookup_same test other [] same = refl
lookup_same {X = X} test other (e ∷ es) same = ap (λ b. cond b (Some e.1) (lookup test es)) (same e.0) ∙ ap (λ (o : Option X). cond (other e.0) (Some e.1) o) (lookup_same test other es same)

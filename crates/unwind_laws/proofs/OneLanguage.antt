-- A language table has one list of sites.
use Rattle.std.proofs.Common.{◌≡◌, ℕ, List, [], ◌∷◌, Option, Some, None, Result, Ok, Err, refl, sym, ap, subst, ◌∙◌}
use Rattle.std.specs.Option.{option_map_or}
use Rattle.memory_image.specs.Image.{Span}
use Rattle.unwind_definitions.specs.declared.error.Error.{Error as Fault}
use Rattle.unwind_definitions.specs.Input.{Input, split}
use Rattle.unwind_definitions.specs.Pointers.{Pointer, Direct, Indirect}
use Rattle.unwind_definitions.specs.Function.{Function, Site, NoAction, action_among, action_at}
use Rattle.unwind_definitions.specs.LanguageTable.{site_at, AreSites, IsLanguageTable, LeadsToLanguage}

-- the two values of a reading that reads one thing
pub record SamePair {A B : Type 0} (a a' : A) (b b' : B) : Type 0 where
  pub value : a ≡ a'
  pub rest : b ≡ b'

pub same_pair : {A B : Type 0} (a a' : A) (b b' : B) → ◌≡◌ {A = Result (A × B) Fault} (Ok (a, b)) (Ok (a', b')) → SamePair a a' b b'
same_pair {A} {B} a a' b b' e = record { value = ap value_of e; rest = ap rest_of e }
  where
    value_of : Result (A × B) Fault → A
    value_of (Ok x) = x.0
    value_of (Err f) = a

    rest_of : Result (A × B) Fault → B
    rest_of (Ok x) = x.1
    rest_of (Err f) = b

nonempty : (c : Input) (start : ℕ) (actions : Input) (s : Site) (next : Input) → c.bytes ≡ [] → site_at start actions c ≡ Ok (s, next) → ⊥
nonempty c start actions s next empty reads = let h = rw empty at reads in absurd cc

pub one_list : (start : ℕ) (actions c : Input) (ss ts : List Site) → AreSites start actions c ss → AreSites start actions c ts → ss ≡ ts
one_list start actions c [] [] a b = refl
one_list start actions c [] (t ∷ ts) a b = absurd (nonempty c start actions t b.0 a b.1)
one_list start actions c (s ∷ ss) [] a b = absurd (nonempty c start actions s a.0 b a.1)
one_list start actions c (s ∷ ss) (t ∷ ts) a b =
    let same = same_pair s t a.0 b.0 (sym a.1 ∙ b.1) in
    let rest = one_list start actions a.0 ss ts a.2 (subst (λ n. AreSites start actions n ts) (sym same.rest) b.2) in
    ap (λ (x : Site). x ∷ ss) same.value ∙ ap (λ (l : List Site). t ∷ l) rest

pub one_sites : (image : List Span) (a start : ℕ) (ss ts : List Site) → IsLanguageTable image a start ss → IsLanguageTable image a start ts → ss ≡ ts
one_sites image a start ss ts x y =
    let header = same_pair x.size y.size x.after y.after (sym x.header ∙ y.header) in
    let parts = same_pair x.listed y.listed x.actions y.actions (sym x.parts ∙ ap (λ n. split n x.after) header.value ∙ ap (λ (b : Input). split y.size b) header.rest ∙ y.parts) in
    one_list start x.actions x.listed ss ts x.each (subst (λ (i : Input). AreSites start x.actions i ts) (sym parts.value) (subst (λ (i : Input). AreSites start i y.listed ts) (sym parts.rest) y.each))

same_action : (f g : Function) (a : ℕ) → f.sites ≡ g.sites → action_at f a ≡ action_at g a
same_action f g a e = ap (λ (o : Option (List Site)). option_map_or (λ sites. action_among sites a) o NoAction) e

-- two functions of one start, to whose language tables one pointer leads, have the same actions
pub one_action : (image : List Span) (f g : Function) (pointer : Option Pointer) (a : ℕ) → f.start ≡ g.start → LeadsToLanguage image f pointer → LeadsToLanguage image g pointer → action_at f a ≡ action_at g a
one_action image f g None a start x y = same_action f g a (x ∙ sym y)
one_action image f g (Some (Direct t)) a start x y =
    let same : x.0 ≡ y.0 = one_sites image t f.start x.0 y.0 x.2 (subst (λ n. IsLanguageTable image t n y.0) (sym start) y.2) in
    same_action f g a (x.1 ∙ ap (λ (l : List Site). Some l) same ∙ sym y.1)
one_action image f g (Some (Indirect t)) a start x y = absurd x

-- One description at most contains an address, and the row at it is the one that is due there.
use Rattle.std.proofs.Common.{◌≡◌, ℕ, ◌<◌, ◌≤◌, Bool, true, false, cond, List, [], ◌∷◌, Option, Some, None, Err, refl, sym, ap, subst, ◌∙◌, inl, inr}
use Rattle.std.specs.Prelude.{◌⊎◌, IsTrue, ◌&&◌, nat_le, nat_lt}
use Rattle.std.specs.List.{AllPairs, Contains}
use Rattle.std.proofs.lemmas.Bool.{le-leb, lt-ltb, leb-true, ltb-true, and_parts}
use Rattle.unwind_definitions.specs.declared.error.Error.TheVariants.{NoUnwindInfoForAddress}
use Rattle.unwind_definitions.specs.Pointers.{Bases}
use Rattle.unwind_definitions.specs.Entries.{Fde}
use Rattle.unwind_definitions.specs.Row.{covers_pc, row_at}
use Rattle.unwind_definitions.specs.Scan.{first_covering}
use Rattle.unwind_definitions.specs.Function.{Range, in_range}
use Rattle.unwind_definitions.specs.Module.{DescriptionsApart}
use Rattle.unwind_laws.proofs.Booleans.{first, here_or_later, later, none_in_nil}
use Rattle.unwind_laws.proofs.Found.{found_first}
use Rattle.eh_frame.specs.Walked.{due_row}

pub one_description : (fdes : List Fde) (f g : Fde) (pc : ℕ) → AllPairs DescriptionsApart fdes → Contains fdes f → Contains fdes g → covers_pc f pc ≡ true → covers_pc g pc ≡ true → f ≡ g
one_description fdes f g pc apart has_f has_g covers_f covers_g =
    let same : ◌≡◌ {A = Option Fde} (Some f) (Some g) = sym (found_first fdes f pc apart has_f covers_f) ∙ found_first fdes g pc apart has_g covers_g in cc

-- the first that contains an address is one of them and contains it
pub first_contains : (fdes : List Fde) (fde : Fde) (pc : ℕ) → first_covering fdes pc ≡ Some fde → Contains fdes fde × (covers_pc fde pc ≡ true)
first_contains [] fde pc e = absurd cc
first_contains (g ∷ gs) fde pc e = go (covers_pc g pc) refl (first_contains gs fde pc) e
  where
    go : (b : Bool) → covers_pc g pc ≡ b → (first_covering gs pc ≡ Some fde → Contains gs fde × (covers_pc fde pc ≡ true)) → first_covering (g ∷ gs) pc ≡ Some fde → Contains (g ∷ gs) fde × (covers_pc fde pc ≡ true)
    go true is ih e = let e' : Some g ≡ Some fde = rw is at e in let same : g ≡ fde = cc in (subst (Contains (g ∷ gs)) same (first g gs), subst (λ (x : Fde). covers_pc x pc ≡ true) same is)
    go false is ih e = let e' : first_covering gs pc ≡ Some fde = rw is at e in let more = ih e' in (later g gs fde more.0, more.1)

-- where there is no first one, none contains it
pub none_contains : (fdes : List Fde) (fde : Fde) (pc : ℕ) → first_covering fdes pc ≡ None → Contains fdes fde → covers_pc fde pc ≡ false
none_contains [] fde pc e has = absurd (none_in_nil fde has)
none_contains (g ∷ gs) fde pc e has = go (covers_pc g pc) refl e (here_or_later g gs fde has) (none_contains gs fde pc)
  where
    go : (b : Bool) → covers_pc g pc ≡ b → first_covering (g ∷ gs) pc ≡ None → (g ≡ fde) ⊎ Contains gs fde → (first_covering gs pc ≡ None → Contains gs fde → covers_pc fde pc ≡ false) → covers_pc fde pc ≡ false
    go true is e place ih = absurd (let e' : Some g ≡ None = rw is at e in cc)
    go false is e (inl same) ih = subst (λ (x : Fde). covers_pc x pc ≡ false) same is
    go false is e (inr rest) ih = let e' : first_covering gs pc ≡ None = rw is at e in ih e' rest

pub row_is_due : (bases : Bases) (fde : Fde) (pc : ℕ) → covers_pc fde pc ≡ true → row_at bases fde pc ≡ due_row bases fde pc
unfolding row_at
row_is_due bases fde pc covers = ap (λ b. cond b (due_row bases fde pc) (Err NoUnwindInfoForAddress)) covers

-- an address of a range
pub in_range_is : (r : Range) (a : ℕ) → r.from ≤ a → a < r.to → in_range a r ≡ true
in_range_is r a from below = ap (λ b. b && nat_lt a r.to) (le-leb r.from a from) ∙ lt-ltb a r.to below

pub range_holds : (r : Range) (a : ℕ) → IsTrue (in_range a r) → (r.from ≤ a) × (a < r.to)
range_holds r a h = let both = and_parts (nat_le r.from a) (nat_lt a r.to) h in (leb-true r.from a both.0, ltb-true a r.to both.1)

-- Lists that are gone through by an index.
use Rattle.std.proofs.Common.{◌≡◌, ℕ, zero, suc, ◌+◌, ◌==◌, true, false, List, [], ◌∷◌, drop, slice_get, Some, refl, ap, ◌∙◌, arith}
use Rattle.elf_symbols.specs.declared.section.SectionHeader.{SectionHeader}
use Rattle.elf_symbols.specs.declared.symbol.Symbol.{Symbol}
use Rattle.elf_symbols.specs.Sections.{first_of_type}
use Rattle.elf_symbols.specs.Symbols.{holds, nearer, symbol_at}

pub drop_at_get : {A : Type 0} (xs : List A) (i : ℕ) (x : A) → slice_get xs i ≡ Some x → drop i xs ≡ x ∷ drop (i + 1) xs
drop_at_get [] i x e = absurd cc
drop_at_get (y ∷ ys) zero x e = let same : y ≡ x = cc in rw same refl
drop_at_get (y ∷ ys) (suc i) x e = let more : suc i + 1 ≡ suc (i + 1) = omega arith in rw more (drop_at_get ys i x e)

pub type_here : (kind : ℕ) (hs : List SectionHeader) (i : ℕ) (h : SectionHeader) → slice_get hs i ≡ Some h → (h.sh_type == kind) ≡ true → first_of_type kind (drop i hs) ≡ Some h
type_here kind hs i h at is = ap (first_of_type kind) (drop_at_get hs i h at) ∙ rw is refl

pub type_later : (kind : ℕ) (hs : List SectionHeader) (i : ℕ) (h : SectionHeader) → slice_get hs i ≡ Some h → (h.sh_type == kind) ≡ false → first_of_type kind (drop i hs) ≡ first_of_type kind (drop (i + 1) hs)
type_later kind hs i h at is = ap (first_of_type kind) (drop_at_get hs i h at) ∙ rw is refl

pub symbol_here : (a : ℕ) (ss : List Symbol) (i : ℕ) (s : Symbol) → slice_get ss i ≡ Some s → holds a s ≡ true → symbol_at a (drop i ss) ≡ Some (nearer s (symbol_at a (drop (i + 1) ss)))
symbol_here a ss i s at is = ap (symbol_at a) (drop_at_get ss i s at) ∙ rw is refl

pub symbol_not_here : (a : ℕ) (ss : List Symbol) (i : ℕ) (s : Symbol) → slice_get ss i ≡ Some s → holds a s ≡ false → symbol_at a (drop i ss) ≡ symbol_at a (drop (i + 1) ss)
symbol_not_here a ss i s at is = ap (symbol_at a) (drop_at_get ss i s at) ∙ rw is refl

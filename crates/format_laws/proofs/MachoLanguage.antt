-- What functions of a described Mach-O module ask is one, whatever lists of functions the module describes.
use Rattle.std.proofs.Common.{◌≡◌, ℕ, ◌+◌, ◌-◌, ◌<◌, ◌≤◌, List, Option, Some, None, Result, Ok, sym, ap, subst, ◌∙◌}
use Rattle.std.specs.List.{Contains}
use Rattle.memory_image.specs.Image.{Span}
use Rattle.unwind_definitions.specs.declared.error.Error.{Error as Fault}
use Rattle.unwind_definitions.specs.Entries.{Fde}
use Rattle.unwind_definitions.specs.Function.{Function, action_at}
use Rattle.unwind_definitions.specs.LanguageTable.{LeadsToLanguage}
use Rattle.unwind_laws.proofs.Booleans.{all_contains}
use Rattle.unwind_laws.proofs.OneLanguage.{one_action}
use Rattle.macho_unwind_info.specs.declared.error.Error.{Error}
use Rattle.macho_unwind_info.specs.declared.function.Function.{Function as Listed}
use Rattle.macho_unwind_info.specs.declared.raw.unaligned.U32.{U32}
use Rattle.macho_unwind_info.specs.declared.opcodes.x86_64.OpcodeX86_64.{OpcodeX86_64}
use Rattle.macho_unwind_info.specs.declared.opcodes.x86_64.OpcodeX86_64.TheVariants.{Null, FrameBased, FramelessImmediate, FramelessIndirect, Dwarf, InvalidFrameless, UnrecognizedKind}
use Rattle.macho_unwind_info.specs.Listing.{Section}
use Rattle.macho_unwind_info.specs.Lookup.{lookup_of}
use Rattle.macho_unwind_info.specs.X86_64.{opcode_of}
use Rattle.format_definitions.specs.CompactStep.{MachoModule}
use Rattle.format_definitions.specs.MachoModules.{language_pointer, NamesLanguage, NamesUnlessDwarf, IsDwarf, IsOpcodeOf, HasListed, DescribesMacho}
use Rattle.format_laws.proofs.MachoSteps.{found_at, listed_found}

one_fde : (x y : Fde) → ◌≡◌ {A = Result Fde Fault} (Ok x) (Ok y) → x ≡ y
one_fde x y e = cc

-- two functions of one start, which one description describes
one_dwarf_action : (image : List Span) (f g : Function) (frames : Option ℕ) (offset a : ℕ) → f.start ≡ g.start → IsOpcodeOf image frames f (Dwarf offset) → IsOpcodeOf image frames g (Dwarf offset) → action_at f a ≡ action_at g a
one_dwarf_action image f g None offset a start x y = absurd x
one_dwarf_action image f g (Some table) offset a start x y =
    let d : IsDwarf image f table offset = x in
    let e : IsDwarf image g table offset = y in
    let same : d.fde ≡ e.fde = one_fde d.fde e.fde (sym (found_at image f table offset d) ∙ found_at image g table offset e) in
    one_action image f g d.fde.language a start d.describes.language (subst (λ (k : Fde). LeadsToLanguage image g k.language) (sym same) e.describes.language)

module _ (image : List Span) (info : Section) (personalities others : List U32) (base : ℕ) (listed : Listed) (f g : Function) (a : ℕ) (start : f.start ≡ g.start) where
  by_section : NamesLanguage image info personalities base listed f → NamesLanguage image info others base listed g → action_at f a ≡ action_at g a
  by_section x y = one_action image f g (language_pointer info base listed) a start x.leads y.leads

  -- the same, which one opcode describes
  one_opcode_action : (frames : Option ℕ) (o : OpcodeX86_64) → IsOpcodeOf image frames f o → IsOpcodeOf image frames g o → NamesUnlessDwarf image info personalities base listed f o → NamesUnlessDwarf image info others base listed g o →
      action_at f a ≡ action_at g a
  one_opcode_action frames Null x y i j = absurd x
  one_opcode_action frames (FrameBased offset fields) x y i j = by_section i j
  one_opcode_action frames (FramelessImmediate size registers) x y i j = by_section i j
  one_opcode_action frames (FramelessIndirect at adjust registers) x y i j = by_section i j
  one_opcode_action frames (Dwarf offset) x y i j = one_dwarf_action image f g frames offset a start x y
  one_opcode_action frames InvalidFrameless x y i j = absurd x
  one_opcode_action frames (UnrecognizedKind k) x y i j = absurd x

one_section : (x y : Section) → ◌≡◌ {A = Result Section Error} (Ok x) (Ok y) → x ≡ y
one_section x y e = cc

one_listed : (x y : Listed) → ◌≡◌ {A = Result (Option Listed) Error} (Ok (Some x)) (Ok (Some y)) → x ≡ y
one_listed x y e = cc

-- two described functions that an address lies in ask the same there
pub one_listed_action : (image : List Span) (m : MachoModule) (part more : List Function) (d : DescribesMacho image m part) (e : DescribesMacho image m more) (f g : Function) (a : ℕ) → Contains part f → Contains more g → (f.start ≤ a) × (a < f.end) → (g.start ≤ a) × (a < g.end) →
    action_at f a ≡ action_at g a
one_listed_action image m part more d e f g a p q i j =
    let h : HasListed image d.info d.personalities m f = all_contains (HasListed image d.info d.personalities m) part f d.each p in
    let k : HasListed image e.info e.personalities m g = all_contains (HasListed image e.info e.personalities m) more g e.each q in
    let sections : e.info ≡ d.info = one_section e.info d.info (sym e.parses ∙ d.parses) in
    let found = listed_found image m part d f h a i.0 i.1 in
    let finds = subst (λ (info : Section). lookup_of info (a - m.base) ≡ Ok (Some k.listed)) sections (listed_found image m more e g k a j.0 j.1) in
    let same : k.listed ≡ h.listed = one_listed k.listed h.listed (sym finds ∙ found) in
    let start : f.start ≡ g.start = h.describes.start ∙ ap (λ (l : Listed). m.base + l.start_address) (sym same) ∙ sym k.describes.start in
    one_opcode_action image d.info d.personalities e.personalities m.base h.listed f g a start m.frames (opcode_of h.listed.opcode) h.describes.opcode
    (subst (λ (l : Listed). IsOpcodeOf image m.frames g (opcode_of l.opcode)) same k.describes.opcode) h.describes.language
    (subst (λ (info : Section). NamesUnlessDwarf image info e.personalities m.base h.listed g (opcode_of h.listed.opcode)) sections
    (subst (λ (l : Listed). NamesUnlessDwarf image e.info e.personalities m.base l g (opcode_of l.opcode)) same k.describes.language))

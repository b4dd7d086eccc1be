-- The module of a space that a module of whatever format is.
use Rattle.std.proofs.Common.{inl, inr, ◌≡◌, ℕ, ◌+◌, ◌-◌, ◌^◌, ◌<◌, ◌≤◌, List, [], ◌∷◌, Option, Some, None, ap, sym, subst, ◌∙◌, arith}
use Rattle.std.specs.Prelude.{◌⊎◌, IsTrue, map}
use Rattle.std.specs.List.{Contains, cons_option, filter_map}
use Rattle.unwind_definitions.specs.Module as described
use Rattle.unwind_laws.proofs.Booleans as lists
use Rattle.format_definitions.specs.Modules.{FormatModule, in_format}
use Rattle.format_definitions.specs.Modules as formats
use Rattle.format_laws.proofs.Homes.{inside_is}
use Rattle.stack_steps.specs.declared.space.Module.{Module}
use Rattle.stack_steps.specs.declared.space.ModuleTables.{ModuleTables}
use Rattle.stack_steps.specs.declared.space.ModuleTables.TheVariants.{Elf, Macho, Pe}
use Rattle.stack_steps.specs.Modules.{AreApart, module_at}
use Rattle.stack_steps.specs.SpaceViews.{elf_module, elf_in, elf_of, format_by, format_of}
use Rattle.stack_steps.specs.Macho.{module_of as macho_of}
use Rattle.stack_steps.specs.Pe.{module_of as pe_of}
use Rattle.stack_steps.proofs.StepUndone.{IsOf, contains_map, module_at-contains}

-- a module of the space is one by its format
pub in_formats : (modules : List Module) (m : Module) → Contains modules m → Contains (map format_of modules) (format_of m)
in_formats [] m has = absurd (lists.none_in_nil m has)
in_formats (n ∷ ns) m has = elim (lists.here_or_later n ns m has) [
  | inl same ↦ subst (λ (k : Module). Contains (map format_of (n ∷ ns)) (format_of k)) same (lists.first (format_of n) (map format_of ns))
  | inr more ↦ lists.later (format_of n) (map format_of ns) (format_of m) (in_formats ns m more)
]

-- and the other way round
pub record IsFormatOf (modules : List Module) (home : FormatModule) : Type 0 where
  pub named : Module
  pub among : Contains modules named
  pub same : format_of named ≡ home

pub format_named : (modules : List Module) (home : FormatModule) → Contains (map format_of modules) home → IsFormatOf modules home
format_named [] home has = absurd (lists.none_in_nil home has)
format_named (m ∷ ms) home has = elim (lists.here_or_later (format_of m) (map format_of ms) home has) [
  | inl same ↦ record { named = m; among = lists.first m ms; same = same }
  | inr more ↦ let is : IsFormatOf ms home = format_named ms home more in record { named = is.named; among = lists.later m ms is.named is.among; same = is.same }
]

-- ---- ELF modules are those of the process

pub elf_to_format : (modules : List Module) (home : described.Module) → Contains (filter_map elf_of modules) home → Contains (map format_of modules) (formats.Elf home)
elf_to_format modules home has =
    let is : IsOf modules home = contains_map modules home has in
    let same : format_of is.named ≡ formats.Elf home = ap (format_by is.named) is.elf ∙ ap (λ (k : described.Module). formats.Elf k) is.same in
    subst (λ (k : FormatModule). Contains (map format_of modules) k) same (in_formats modules is.named is.among)

elf_contained : (modules : List Module) (m : Module) (home : described.Module) → Contains modules m → elf_of m ≡ Some home → Contains (filter_map elf_of modules) home
elf_contained [] m home has is = absurd (lists.none_in_nil m has)
elf_contained (n ∷ ns) m home has is = go (λ h. elf_contained ns m home h is) (lists.here_or_later n ns m has)
  where
    past : (o : Option described.Module) → Contains (filter_map elf_of ns) home → Contains (cons_option o (filter_map elf_of ns)) home
    past None more = more
    past (Some d) more = lists.later d (filter_map elf_of ns) home more

    go : (Contains ns m → Contains (filter_map elf_of ns) home) → (n ≡ m) ⊎ Contains ns m → Contains (filter_map elf_of (n ∷ ns)) home
    go later (inl same) = let here : elf_of n ≡ Some home = ap elf_of same ∙ is in rw here (lists.first home (filter_map elf_of ns))
    go later (inr more) = past (elf_of n) (later more)

elf_is : (m : Module) (tables : ModuleTables) (home : described.Module) → format_by m tables ≡ formats.Elf home → elf_in m.start m.end tables ≡ Some home
elf_is m (Elf frame) home e = let same : elf_module m.start m.end frame ≡ home = cc in ap (λ (k : described.Module). Some k) same
elf_is m (Macho t) home e = absurd cc
elf_is m (Pe t) home e = absurd cc

pub elf_from_format : (modules : List Module) (home : described.Module) → Contains (map format_of modules) (formats.Elf home) → Contains (filter_map elf_of modules) home
elf_from_format modules home has =
    let is : IsFormatOf modules (formats.Elf home) = format_named modules (formats.Elf home) has in
    elf_contained modules is.named home is.among (elf_is is.named is.named.tables home is.same)

-- ---- the module of an address

ends_at : (m : Module) (tables : ModuleTables) (a : ℕ) → IsTrue (in_format a (format_by m tables)) → (m.start ≤ a) × (a < m.end)
ends_at m (Elf frame) a inside = inside_is a (formats.Elf (elf_module m.start m.end frame)) inside
ends_at m (Macho t) a inside =
    let r = inside_is a (formats.Macho (macho_of m t)) inside in
    let low : m.start ≤ a = r.0 in
    let high : a < m.start + (m.end - m.start) = r.1 in
    (low, omega arith)
ends_at m (Pe t) a inside =
    let r = inside_is a (formats.Pe (pe_of m t)) inside in
    let low : m.start ≤ a = r.0 in
    let high : a < m.start + (m.end - m.start) = r.1 in
    (low, omega arith)

pub record HoldsAt (modules : List Module) (home : FormatModule) (a : ℕ) : Type 0 where
  pub holder : Module
  pub holds : module_at modules a ≡ Some holder
  pub from : holder.start ≤ a
  pub low : a + 1 < 2 ^ 64
  pub same : format_of holder ≡ home

-- modules that are apart begin below 2 ^ 64, and end there
low_end : (low : ℕ) (modules : List Module) → AreApart low modules → low < 2 ^ 64
low_end low [] apart = apart
low_end low (m ∷ ms) apart = let last = low_end m.end ms apart.2 in omega (arith, apart.0, apart.1, last)

ends_low : (low : ℕ) (modules : List Module) (m : Module) → AreApart low modules → Contains modules m → m.end < 2 ^ 64
ends_low low [] m apart has = absurd (lists.none_in_nil m has)
ends_low low (n ∷ ns) m apart has = go (λ more. ends_low n.end ns m apart.2 more) (lists.here_or_later n ns m has)
  where
    go : (Contains ns m → m.end < 2 ^ 64) → (n ≡ m) ⊎ Contains ns m → m.end < 2 ^ 64
    go later (inl same) = subst (λ (k : Module). k.end < 2 ^ 64) same (low_end n.end ns apart.2)
    go later (inr more) = later more

-- an address that a module has, whatever its format, is found in that module, and the one after it is an address, too
pub added_at : (modules : List Module) (home : FormatModule) (a : ℕ) → AreApart 0 modules → Contains (map format_of modules) home → IsTrue (in_format a home) → HoldsAt modules home a
added_at modules home a apart known inside =
    let is : IsFormatOf modules home = format_named modules home known in
    let m : Module = is.named in
    let within : IsTrue (in_format a (format_of m)) = subst (λ (k : FormatModule). IsTrue (in_format a k)) (sym is.same) inside in
    let ends = ends_at m m.tables a within in
    let last : m.end < 2 ^ 64 = ends_low 0 modules m apart is.among in
    let next_low : a + 1 < 2 ^ 64 = let below = ends.1 in omega arith in
    record { holder = m; holds = module_at-contains 0 modules m a apart is.among ends.0 ends.1; from = ends.0; low = next_low; same = is.same }

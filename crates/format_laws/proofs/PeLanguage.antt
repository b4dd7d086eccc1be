-- What functions of a described PE module ask is one, whatever lists of functions the module describes.
use Rattle.std.proofs.Common.{inl, inr, ◌≡◌, ℕ, ◌+◌, ◌-◌, ◌<◌, ◌≤◌, List, Option, Some, None, Result, Ok, sym, ap, subst, ◌∙◌}
use Rattle.std.specs.Prelude.{◌⊎◌}
use Rattle.std.specs.List.{Contains}
use Rattle.memory_image.specs.Image.{Span}
use Rattle.unwind_definitions.specs.Function.{Function, action_at}
use Rattle.unwind_definitions.specs.LanguageTable.{LeadsToLanguage}
use Rattle.unwind_laws.proofs.Booleans.{all_contains}
use Rattle.unwind_laws.proofs.OneLanguage.{one_action}
use Rattle.pe_unwind_info.specs.declared.x86_64.fault.FrameFault.{FrameFault}
use Rattle.pe_unwind_info.specs.declared.x86_64.function_table.RuntimeFunction.{RuntimeFunction}
use Rattle.pe_unwind_info.specs.Frame.{info_in}
use Rattle.pe_unwind_info.specs.FunctionTable.{functions_of, lookup_of}
use Rattle.pe_unwind_info.specs.Info.{Info}
use Rattle.format_definitions.specs.PeImage.{PeModule, memory_of}
use Rattle.format_definitions.specs.PeModules.{handler_pointer, DescribesLeaf, HasRecord, DescribesPe}
use Rattle.format_laws.proofs.PeSteps.{found_by_record, leaf_not_found}
use Rattle.format_laws.proofs.Silent.{silent_action}

one_bytes : (x y : List ℕ) → ◌≡◌ {A = Option (List ℕ)} (Some x) (Some y) → x ≡ y
one_bytes x y e = cc

one_table : (x y : List RuntimeFunction) → ◌≡◌ {A = Option (List RuntimeFunction)} (Some x) (Some y) → x ≡ y
one_table x y e = cc

one_record : (x y : RuntimeFunction) → ◌≡◌ {A = Option RuntimeFunction} (Some x) (Some y) → x ≡ y
one_record x y e = cc

no_record : (x : RuntimeFunction) → ◌≡◌ {A = Option RuntimeFunction} None (Some x) → ⊥
no_record x e = absurd cc

one_info : (x y : Info) → ◌≡◌ {A = Result Info FrameFault} (Ok x) (Ok y) → x ≡ y
one_info x y e = cc

module _ (image : List Span) (m : PeModule) (part more : List Function) (d : DescribesPe image m part) (e : DescribesPe image m more) (f g : Function) (a : ℕ) (i : (f.start ≤ a) × (a < f.end)) (j : (g.start ≤ a) × (a < g.end)) where
  tables : e.table ≡ d.table
  tables =
      let bytes : e.bytes ≡ d.bytes = one_bytes e.bytes d.bytes (sym e.mapped ∙ d.mapped) in
      one_table e.table d.table (sym e.reads ∙ ap functions_of bytes ∙ d.reads)

  -- what is found for the address, by either table
  found : (o : Option RuntimeFunction) → lookup_of (Some e.table) (a - m.base) ≡ o → lookup_of (Some d.table) (a - m.base) ≡ o
  found o is = subst (λ (t : List RuntimeFunction). lookup_of (Some t) (a - m.base) ≡ o) tables is

  by_records : HasRecord image m d.table f → HasRecord image m e.table g → action_at f a ≡ action_at g a
  by_records r k =
      let same : k.function ≡ r.function = one_record k.function r.function (sym (found (Some k.function) (found_by_record image m more e g k a j.0 j.1)) ∙ found_by_record image m part d f r a i.0 i.1) in
      let start : f.start ≡ g.start = r.describes.start ∙ ap (λ (h : RuntimeFunction). m.base + h.begin_address) (sym same) ∙ sym k.describes.start in
      let reads : info_in r.function.unwind_info_address (memory_of image m.base r.function.unwind_info_address) ≡ Ok k.describes.first =
      subst (λ (h : RuntimeFunction). info_in h.unwind_info_address (memory_of image m.base h.unwind_info_address) ≡ Ok k.describes.first) same k.describes.reads in
      let infos : k.describes.first ≡ r.describes.first = one_info k.describes.first r.describes.first (sym reads ∙ r.describes.reads) in
      let leads : LeadsToLanguage image g (handler_pointer m.base r.function r.describes.first) =
      subst (λ (info : Info). LeadsToLanguage image g (handler_pointer m.base r.function info)) infos
      (subst (λ (h : RuntimeFunction). LeadsToLanguage image g (handler_pointer m.base h k.describes.first)) same k.describes.language.leads) in
      one_action image f g (handler_pointer m.base r.function r.describes.first) a start r.describes.language.leads leads

  by_parts : HasRecord image m d.table f ⊎ DescribesLeaf m d.table f → HasRecord image m e.table g ⊎ DescribesLeaf m e.table g → action_at f a ≡ action_at g a
  by_parts (inl r) (inl k) = by_records r k
  by_parts (inl r) (inr leaf) = absurd (no_record r.function (sym (found None (leaf_not_found image m more e g leaf a j.0 j.1)) ∙ found_by_record image m part d f r a i.0 i.1))
  by_parts (inr leaf) (inl k) = absurd (no_record k.function (sym (leaf_not_found image m part d f leaf a i.0 i.1) ∙ found (Some k.function) (found_by_record image m more e g k a j.0 j.1)))
  by_parts (inr leaf) (inr other) = silent_action f a leaf.plain.no_sites ∙ sym (silent_action g a other.plain.no_sites)

-- two described functions that an address lies in ask the same there
pub one_recorded_action : (image : List Span) (m : PeModule) (part more : List Function) (d : DescribesPe image m part) (e : DescribesPe image m more) (f g : Function) (a : ℕ) → Contains part f → Contains more g → (f.start ≤ a) × (a < f.end) → (g.start ≤ a) × (a < g.end) →
    action_at f a ≡ action_at g a
one_recorded_action image m part more d e f g a p q i j =
    by_parts image m part more d e f g a i j (all_contains (λ (h : Function). HasRecord image m d.table h ⊎ DescribesLeaf m d.table h) part f d.each p) (all_contains (λ (h : Function). HasRecord image m e.table h ⊎ DescribesLeaf m e.table h) more g e.each q)

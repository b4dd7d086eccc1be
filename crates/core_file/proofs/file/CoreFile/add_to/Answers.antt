use Rattle.std.proofs.Common.{◌≡◌, ◌∙◌, [], ◌∷◌, ◌+◌, ◌-◌, List, ℕ, length, take, Some, inl, sym, ap, subst, arith}
use Rattle.std.specs.Iterator.Adapters.{enumerate_source, enumerate_count}
use Rattle.std.proofs.lemmas.List.{length-drop}
use Rattle.memory_image.specs.Image.{Span}
use Rattle.memory_image.specs.Regions.{span_of}
use Rattle.memory_image.specs.declared.errors.ImageError.TheVariants.{NoMemory}
use Rattle.core_file.specs.declared.errors.AddError.TheVariants.{Region}
use Rattle.core_file.specs.Adding.{with_spans, first_refused, error_at}
use Rattle.core_file.specs.Left.{segments_left}
use Rattle.core_file.proofs.AddingLemmas.{Stands, stands_first, stands_next, stands_refused, stands_end, next_within, added_of, refused_by, stops_so, stops_at}
use Rattle.core_file.proofs.file.CoreFile.add_to.Goals as goal

pub loop-i-init : goal.loop-i-init
loop-i-init c =
    let same = c.into_iter-i-iterator.ensures.into_iter_gives in
    let source : segments_left (enumerate_source c.into_iter-i-iterator.result) ≡ c.args.self.now.segments = rw (same, c.enumerate-i-items.ensures.source) c.segments.ensures.left in
    let zero : enumerate_count c.into_iter-i-iterator.result ≡ 0 = rw same c.enumerate-i-items.ensures.count in
    let long : length (segments_left (enumerate_source c.into_iter-i-iterator.result)) ≡ length c.args.self.now.segments = ap length source in
    let few = c.segments.ensures.few in
    record { can = (tt, tt, inl (omega arith)); finite = tt; stands = rw (zero, source) (stands_first c.args.image.now c.args.self.now.segments) }

pub loop-i-preserved : goal.loop-i-preserved
loop-i-preserved c =
    let steps = c.in-Some.ensures.steps in
    let old = c.args.image.now in
    let all = c.args.self.now.segments in
    let k = enumerate_count c.loop-i.i-iterator in
    let rest = segments_left (enumerate_source c.next.new.self) in
    let s : Span = span_of (c.in-Some.address, c.in-Some.bytes) in
    let before : Stands old all k (s ∷ rest) c.loop-i.image = subst (λ (left : List Span). Stands old all k left c.loop-i.image) steps.0 c.loop-i.invariant.stands in
    let added = added_of _ c.add.result c.in_default.not-Err c.add.ensures.added c.add.ensures.refused in
    let after : Stands old all (k + 1) rest c.add.new.self = stands_next old all k c.loop-i.image s rest before c.add.new.self added.0 added.1 in
    let long : length rest ≡ length all - (k + 1) = ap length after.left_is ∙ length-drop (k + 1) all in
    let few = c.segments.ensures.few in
    let within = after.within in
    let more = steps.2 in
    record { can = (tt, tt, inl (omega arith)); finite = tt; stands = rw more after }

pub returns-in-Err : goal.returns-in-Err
returns-in-Err c =
    let steps = c.in-Some.ensures.steps in
    let old = c.args.image.now in
    let all = c.args.self.now.segments in
    let k = enumerate_count c.loop-i.i-iterator in
    let rest = segments_left (enumerate_source c.next.new.self) in
    let s : Span = span_of (c.in-Some.address, c.in-Some.bytes) in
    let before : Stands old all k (s ∷ rest) c.loop-i.image = subst (λ (left : List Span). Stands old all k left c.loop-i.image) steps.0 c.loop-i.invariant.stands in
    let there : (c.in-Err.error ≡ NoMemory → ⊥) → first_refused old all ≡ Some k = λ other. stands_refused old all k c.loop-i.image s rest before (refused_by _ c.in-Err.error other c.in-Err.ensures.refused) in
    let told : c.error_at.result ≡ error_at k c.in-Err.error = c.error_at.ensures ∙ ap (λ (j : ℕ). error_at j c.in-Err.error) steps.1 in
    let kept : c.add.new.self ≡ with_spans old (take k all) = c.in-Err.ensures.unchanged ∙ before.image_is in
    record {
      added = tt;
      spans = tt;
      refused = rw told (stops_so (first_refused old all) k c.in-Err.error there);
      region = λ i e. (let is : c.error_at.result ≡ Region i = cc in let at = stops_at (first_refused old all) k i c.in-Err.error there (sym told ∙ is) in (at.0, kept ∙ ap (λ (j : ℕ). with_spans old (take j all)) at.1));
      memory = λ _. (k, next_within old all k c.loop-i.image s rest before, kept);
    }

pub returns : goal.returns
returns c =
    let old = c.args.image.now in
    let all = c.args.self.now.segments in
    let k = enumerate_count c.loop-i.i-iterator in
    let none = c.in-None.ensures.steps in
    let at_end : Stands old all k [] c.loop-i.image = subst (λ (left : List Span). Stands old all k left c.loop-i.image) none.0.0 c.loop-i.invariant.stands in
    let whole = stands_end old all k c.loop-i.image at_end in
    record {
      added = whole.holds_is;
      spans = whole.image_is;
      refused = rw whole.taken tt;
      region = λ i e. absurd cc;
      memory = λ e. absurd cc;
    }

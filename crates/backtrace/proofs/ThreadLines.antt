-- The lines of one of many threads.
use Rattle.std.proofs.Common.{◌≡◌, ℕ, zero, suc, ◌+◌, false, List, [], ◌∷◌, ◌++◌, Some, refl, sym, ap, subst, ◌∙◌, append_assoc, arith}
use Rattle.std.specs.Prelude.{take, drop}
use Rattle.std.specs.List.{slice_get}
use Rattle.stack_steps.specs.Modules.{SpaceValue}
use Rattle.folded_stacks.specs.declared.samples.Sample.{Sample}
use Rattle.stack_snapshot.specs.Sampled.{SampledContent, sampled_space}
use Rattle.backtrace.specs.Code.{PlacesValue}
use Rattle.backtrace.specs.declared.options.Options.{Options}
use Rattle.backtrace.specs.Tracing.{TraceValue}
use Rattle.backtrace.specs.Lines.{thread_line}
use Rattle.backtrace.specs.Due.{IsTraceOf, text_of}
use Rattle.backtrace.specs.Threads.{IsThread, AreThreads, IsThreadsOf, HasThread, alone}
use Rattle.backtrace.proofs.StackTexts.{by_tables}

module _ (o : Options) (space : SpaceValue) (limit : ℕ) (places : PlacesValue) where
  -- the parts of a text before a thread, of it, and after it
  pub record Parted (xs : List Sample) (k index n : ℕ) (x : Sample) (text : List ℕ) : Type 0 where
    pub before : List ℕ
    pub own : List ℕ
    pub after : List ℕ
    pub earlier : AreThreads o space limit places k (take index xs) before
    pub thread : IsThread o space limit places n x own
    pub later : AreThreads o space limit places (n + 1) (drop (index + 1) xs) after
    pub is : text ≡ before ++ (own ++ after)

  pub parted : (xs : List Sample) (k index n : ℕ) (x : Sample) (text : List ℕ) → n ≡ k + index → slice_get xs index ≡ Some x → AreThreads o space limit places k xs text → Parted xs k index n x text
  parted [] k zero n x text at found is = absurd cc
  parted [] k (suc index) n x text at found is = absurd cc
  parted (y ∷ ys) k zero n x text at found is =
      let same : y ≡ x = cc in
      let here : k ≡ n = omega arith in
      record {
        before = [];
        own = is.0;
        after = is.1;
        earlier = refl;
        thread = subst (λ (z : Sample). IsThread o space limit places n z is.0) same (subst (λ m. IsThread o space limit places m y is.0) here is.2);
        later = subst (λ m. AreThreads o space limit places (m + 1) ys is.1) here is.3;
        is = is.4;
      }
  parted (y ∷ ys) k (suc index) n x text at found is =
      let next = parted ys (k + 1) index n x is.1 (omega arith) found is.3 in
      let shifted : suc (index + 1) ≡ suc index + 1 = omega arith in
      record {
        before = is.0 ++ next.before;
        own = next.own;
        after = next.after;
        earlier = (is.0, next.before, is.2, next.earlier, refl);
        thread = next.thread;
        later = subst (λ m. AreThreads o space limit places (n + 1) (drop m (y ∷ ys)) next.after) shifted next.later;
        is = is.4 ∙ (ap (λ m. is.0 ++ m) next.is ∙ sym (append_assoc is.0 next.before (next.own ++ next.after)));
      }

-- a thread's lines are those of its trace
pub has_thread : (o : Options) (s : SampledContent) (places : PlacesValue) (index : ℕ) (x : Sample) (t : TraceValue) (text : List ℕ) → o.frame_pointers ≡ false → slice_get s.samples index ≡ Some x → IsTraceOf (alone s x) places t → IsThreadsOf o s places text
    → HasThread o s places index (text_of o (alone s x) places t) text
has_thread o s places index x t text unasked found is all =
    let p = parted o (sampled_space s) s.limit places s.samples 0 index index x text (omega arith) found all in
    let same : p.thread.0 ≡ text_of o (alone s x) places t = by_tables o (sampled_space s) s.limit places x.start x.interrupted unasked t p.thread.0 is p.thread.1 in
    let own : p.own ≡ thread_line index ++ text_of o (alone s x) places t = p.thread.2 ∙ ap (λ u. thread_line index ++ u) same in
    (p.before, p.after, p.earlier, p.later, p.is ∙ ap (λ m. p.before ++ (m ++ p.after)) own)

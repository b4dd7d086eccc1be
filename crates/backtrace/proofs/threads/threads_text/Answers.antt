use Rattle.std.proofs.Common.{◌≡◌, ◌∙◌, ◌+◌, ◌<◌, ◌≤◌, ◌++◌, ◌∷◌, ℕ, List, [], false, length, drop, get_or, refl, sym, ap, subst}
use Rattle.std.proofs.lemmas.List.{append-nil, append_assoc, drop_all, drop_more}
use Rattle.folded_stacks.specs.declared.samples.Sample.{Sample}
use Rattle.stack_steps.specs.Modules.{SpaceValue}
use Rattle.backtrace.specs.Code.{PlacesValue}
use Rattle.backtrace.specs.declared.options.Options.{Options}
use Rattle.backtrace.specs.Threads.{AreThreads, IsThread}
use Rattle.backtrace.proofs.threads.threads_text.Goals as goal

-- the text of one thread more
more : (o : Options) (space : SpaceValue) (limit : ℕ) (places : PlacesValue) (index : ℕ) (samples : List Sample) (x : Sample) (report new rest : List ℕ) → drop index samples ≡ x ∷ drop (index + 1) samples →
    ((r : List ℕ) → AreThreads o space limit places index (drop index samples) r → AreThreads o space limit places 0 samples (report ++ r)) →
    ((own : List ℕ) × (new ≡ report ++ own) × IsThread o space limit places index x own) →
    AreThreads o space limit places (index + 1) (drop (index + 1) samples) rest → AreThreads o space limit places 0 samples (new ++ rest)
more o space limit places index samples x report new rest next before put are =
    let own = put.0 in
    let left : AreThreads o space limit places index (x ∷ drop (index + 1) samples) (own ++ rest) = (own, rest, put.2, are, refl) in
    let all : AreThreads o space limit places index (drop index samples) (own ++ rest) = subst (λ (xs : List Sample). AreThreads o space limit places index xs (own ++ rest)) (sym next) left in
    let text : new ++ rest ≡ report ++ (own ++ rest) = ap (λ (l : List ℕ). l ++ rest) put.1 ∙ append_assoc report own rest in
    subst (λ (t : List ℕ). AreThreads o space limit places 0 samples t) (sym text) (before (own ++ rest) all)

pub loop-index-preserved : goal.loop-index-preserved
loop-index-preserved c = λ rest are.
    let samples = c.args.snapshot.now.samples in
    let index = c.loop-index.index in
    let none : Sample = record { start = record { registers = []; ra = 0; mcxsr = 0; fcw = 0 }; interrupted = false } in
    let items : c.as_slice-sample-items.result.now ≡ samples = c.as_slice-sample-items.ensures.value ∙ c.samples.ensures in
    let within : index < length samples = subst (λ (xs : List Sample). index < length xs) items c.loop-index-test.true in
    let x : Sample = get_or c.as_slice-sample-items.result.now index none in
    let same : get_or samples index none ≡ x = ap (λ (xs : List Sample). get_or xs index none) (sym items) in
    let next : drop index samples ≡ x ∷ drop (index + 1) samples = drop_more samples index none within ∙ ap (λ (y : Sample). y ∷ drop (index + 1) samples) same in
    more c.args.options c.in_ok-space.space c.limit.result c.args.places.now index samples x c.loop-index.report c.put_thread.new.report rest next c.loop-index.invariant c.in_ok-put_thread.ensures are

pub returns : goal.returns
returns c =
    let s = c.args.snapshot.now in
    let o = c.args.options in
    let places = c.args.places.now in
    let index = c.loop-index.index in
    let space = c.in_ok-space.space in
    let report = c.loop-index.report in
    let items : c.as_slice-sample-items.result.now ≡ s.samples = c.as_slice-sample-items.ensures.value ∙ c.samples.ensures in
    let over : length s.samples ≤ index = subst (λ (xs : List Sample). length xs ≤ index) items c.loop-index-test.false in
    let none : drop index s.samples ≡ [] = drop_all index s.samples over in
    let last : AreThreads o space c.limit.result places index (drop index s.samples) [] = rw none refl in
    let all : AreThreads o space c.limit.result places 0 s.samples report =
    subst (λ (text : List ℕ). AreThreads o space c.limit.result places 0 s.samples text) (append-nil report) (c.loop-index.invariant [] last) in
    let within : AreThreads o space s.limit places 0 s.samples report = subst (λ (n : ℕ). AreThreads o space n places 0 s.samples report) c.limit.ensures.value all in
    subst (λ (v : SpaceValue). AreThreads o v s.limit places 0 s.samples report) c.in_ok-space.ensures within

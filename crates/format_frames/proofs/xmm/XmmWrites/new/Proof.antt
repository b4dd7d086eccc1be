-- A new number is made of no bytes. Its value for proofs is 0.
use mathlib.Core.Path.{refl}
use mathlib.Core.List.{[], ◌∷◌}
use base.Fml.{ftrue}
use mir.Val.{vstruct, vnil}
use types.Kit.{‵, ◌⊛◌, ◌$◌, ◌∵◌, !, qed, keep, suffices, use0, group, done}
use types.Run.{no_more, returns, enter}
use types.ByLocal.{alloc_all, pass_all, free_all, look_at, sets}
use types.Part.{agg}
use denote.Steps.{nothing}
use denote.Triple.Walked.{Stays, walk_of, says, ends_at}
use Rattle.std.proofs.raw_atomic.Walks.{proved}
use denote.Shadow.{makes_shadow}
use Rattle.format_frames.specs.contracts.xmm.XmmWrites.{the_row as R}
use Rattle.format_frames.specs.contracts.xmm.XmmWrites.new as f
use Rattle.format_frames.proofs.xmm.XmmWrites.new.Statement.{statement}
use Rattle.format_frames.proofs.xmm.XmmWrites.new.Code as code

abbrev stayed : Stays f.ended.signature.params f.ended.kept
stayed = tt

pub new_spec : {M : Type 1} → statement M
new_spec 𝓤 𝓛 𝓜 𝓡 wired =
    let c = f.clauses 𝓛 𝓜.mem 𝓡.returns in let W = walk_of 𝓛 f.ended stayed c in
    proved 𝓛 f.ended stayed c 𝓜 𝓡 tt
    f.Key.name code.function (code.unfolded 𝓤 𝓛.H 𝓜 𝓡 wired)
    (λ κs. tt) (λ κs. tt) (λ κs qs bounds a n are.
    let y : W.Ghost = ((κs, qs, bounds, a, tt), n) in
    qed 𝓛 ((‵ ftrue ⊛ ‵ ftrue) ∷ ‵ ftrue ∷ []) ∵ keep ! [] $
    enter ! _ _ _ _ _ $ alloc_all ! (λ l. pass_all ! refl tt $
    sets ! (agg ! (no_more !)) refl (tt, tt) $
    returns ! (look_at ! 0 refl) $ free_all ! refl $
    suffices ! _ (ends_at 𝓛 f.ended stayed c y (vstruct vnil) record { writes = [] } tt tt) $ says ! refl $
    use0 𝓛 (‵ (R.own_val record { writes = [] } (vstruct vnil ∷ []))) (makes_shadow 𝓛 (R.own_val record { writes = [] } (vstruct vnil ∷ [])) ((λ _. (tt, tt)), tt) ((tt, (refl, tt)), tt)) $
    nothing ! $ nothing ! $ group ! 3 $ done !))

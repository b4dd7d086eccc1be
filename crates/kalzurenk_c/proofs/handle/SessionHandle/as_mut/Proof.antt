-- `as_mut` lends the session, and the handle follows it. Assumes `Logic`.
use mathlib.Core.Path.{◌≡◌, refl, sym}
use Prim.Native.Nat.{ℕ}
use mathlib.Core.List.{List, [], ◌∷◌}
use seplogic.Ra.Ura.{Ura}
use base.Fraction.{full_share}
use base.Logic.{SProp, ent, sep, id⊢}
use base.Fml.{GName, Fml, ftrue, fsep, flft}
use mir.Syntax.{named}
use mir.Raw.{raw as bare}
use mir.Val.{Val, vptr}
use prog.Memory.{Memory}
use prog.Routine.{Routine}
use prog.Wp.{Env, WpFn, Tables}
use types.Logic.{Logic, sem}
use types.Kit.{‵, raw, ◌⊛◌, some, later, at_ret, ◌$◌, ◌∵◌, !, qed, move, keep, drop, use1, join, split, split3, group, pick, rewrite, fsplit, fsplit3, fjoin, fpack, suffices, await, frame, done}
use types.Part.{whole, sub, look_in}
use types.Run.{stop, fld, addr, load, of_opd, first, blocks, exec, returns, enter}
use types.ByLocal.{alloc_all, pass_all, free_all, look_at, get, through, sets, sets_last, env}
use contract.Monad.{Fun}
use contract.Running.{tables, tables_of}
use sound.WpLaws.{WpFn-mono}
use denote.RattleType.{RattleType, owns}
use denote.Exit.{no}
use denote.Memory.{part_at, part_of, raw_all, mem, cell_at}
use denote.Param.{param}
use denote.Param.Laws.{Laws}
use denote.RawPtr.{block_ptr}
use denote.Ref.{MutRef, mut_vals, mut_Tells}
use denote.Signature.{plain, mut_ref_to}
use denote.Steps.{nothing, opens}
use denote.Follow.{follows, Part, lends_Part}
use denote.Triple.Spec.{triple_of}
use denote.Triple.Table.{entered}
use denote.Triple.Walked.{says, Stays, stay_dropped, walk_of, ends_at, walked, walk_Meets, Goes-spent_ref}
use Rattle.core.proofs.alloc.Calls.{token}
use Rattle.std_alloc.proofs.VecSteps.Shapes.{after}
use Rattle.std_alloc.proofs.BoxSteps.Form.{D, B, τ, handle, word}
use Rattle.std_alloc.proofs.BoxSteps.Steps.{box_out, box_in}
use Rattle.kalzurenk_c.proofs.AsBox.{E}
use Rattle.kalzurenk_c.specs.Lending.{with_session}
use Rattle.kalzurenk_c.specs.contracts.handle.SessionHandle.{the_row as H}
use Rattle.kalzurenk_c.specs.contracts.session.Session.{the_row as S}
use Rattle.kalzurenk_c.specs.contracts.handle.SessionHandle.as_mut as F
use Rattle.kalzurenk_c.specs.contracts.handle.SessionHandle.as_mut.Key.{name as #self}
use Rattle.kalzurenk_c.proofs.handle.SessionHandle.as_mut.Statement.{statement}
use Rattle.kalzurenk_c.proofs.handle.SessionHandle.as_mut.Code as code

abbrev stayed : Stays (F.ended).signature.params (F.ended).kept
stayed = (stay_dropped (mut_ref_to (0 ∷ []) tt (plain (λ _. H))) no, tt)

-- a session in memory is the same as where a type parameter stands for its type
as_param : (R : RattleType) → Laws R → (x : R.Denot) (b o : ℕ) → part_at R full_share x b o ≡ part_at (param 0 R) full_share x b o
as_param R L x b o j = part_of (raw_all (L.one j)) R.own_val full_share x b o

module _ {M : Type 1} {𝓤 : Ura M} (𝓛 : Logic 𝓤) (at_mem : Memory → SProp 𝓤) (run : Routine → Fun 𝓤) (𝓣 : Tables 𝓤 𝓛.H) where
  module _ (v : (H).Denot) (rb ro b o : ℕ) (h : Val) where
    -- the same as a box
    abbrev boxed : (S).Denot → D E
    boxed w = record { ptr = v.at; alloc = v.alloc; value = w }

    -- all of it but the session
    abbrev Rest : Fml
    Rest = fsep (fsep (token (E).al v.alloc (bare (τ E)) (block_ptr b o)) (handle E v.alloc h)) (cell_at full_share (H).mir (word E h b o ∷ []) rb ro)

    back : v.at ≡ block_ptr b o → (w : (S).Denot) → ent 𝓤 (sep 𝓤 (sem 𝓛 ((mem S).own_at w b o)) (sem 𝓛 Rest)) (sem 𝓛 ((mem H).own_at (with_session v w) rb ro))
    unfolding part_of
    back e w =
        qed 𝓛 (‵ (part_at S full_share w b o) ∷ ‵ Rest ∷ []) ∵ rewrite ! 0 (λ (P : Fml). ‵ P) (as_param S (E).laws w b o) refl $ move ! (1 ∷ []) $ fsplit ! $ fsplit ! $ move ! (3 ∷ []) $
        box_in E ! (boxed w) b o w e refl $ use1 𝓛 (‵ ((H).own_val (with_session v w) (word E h b o ∷ []))) (id⊢ 𝓤 _) $ move ! (1 ∷ 0 ∷ []) $ fjoin ! $
        fpack ! (List Val) (λ us. fsep (cell_at full_share (H).mir us rb ro) ((H).own_val (with_session v w) us)) (word E h b o ∷ []) $ done !

  walk : (y : (walk_of 𝓛 F.ended stayed (F.clauses 𝓛 at_mem run)).Ghost)
      → ent 𝓤 ((walk_of 𝓛 F.ended stayed (F.clauses 𝓛 at_mem run)).pre ((y.0.0, y.0.1, y.0.2, y.0.3, (mut_vals y.0.3.0, tt)), y.1)) (WpFn 𝓤 𝓛.H 𝓣.C 𝓣.Λ code.function (mut_vals y.0.3.0) ((walk_of 𝓛 F.ended stayed (F.clauses 𝓛 at_mem run)).post ((y.0.0, y.0.1, y.0.2, y.0.3, (mut_vals y.0.3.0, tt)), y.1)))
  walk y =
      let c = F.clauses 𝓛 at_mem run in let z : (walk_of 𝓛 F.ended stayed c).Ghost = ((y.0.0, y.0.1, y.0.2, y.0.3, (mut_vals y.0.3.0, tt)), y.1) in
      let κs = y.0.0 in let qs = y.0.1 in let self = y.0.3.0 in let Post = (walk_of 𝓛 F.ended stayed c).post z in
      let κ = κs.0 in let q = qs.0 in let v = self.now in let rb = self.ref_ptr.0 in let ro = self.ref_ptr.1 in let γ = self.ghost_name in
      let x = v.value in let k = (H).coded.code v in
      qed 𝓛 (((‵ (flft κ q) ⊛ ‵ ftrue) ⊛ ‵ (owns (MutRef (named 0) κ H ∷ []) (self, tt) (vptr rb ro ∷ [], tt))) ∷ raw ((c κs (self, tt)).requires tt) ∷ []) ∵
      enter ! 𝓣.C 𝓣.Λ code.function (vptr rb ro ∷ []) _ $ alloc_all ! (λ ls. pass_all ! refl ((tt, tt), tt) $ let En : Env 𝓤 𝓛.H = env code.function.locals ls in
      split ! $ split ! $ move ! (2 ∷ []) $ fsplit ! $ fsplit3 ! $ drop ! $ move ! (0 ∷ 1 ∷ 3 ∷ []) $
      opens ! tt H {h = v} rb ro (λ vs. move ! (1 ∷ []) $ use1 𝓛 (‵ ((B E).own_val (boxed v rb ro 0 0 (vptr 0 0) x) vs)) (id⊢ 𝓤 _) $
      box_out E ! (boxed v rb ro 0 0 (vptr 0 0) x) vs (λ b o h e ws fits. rewrite ! 3 (λ (us : List Val). ‵ (cell_at full_share (H).mir us rb ro)) ws refl $
      -- [the session; the token; the allocator; the handle; the open borrow; obs; auth]
      first ! $ blocks ! $ sets ! (of_opd ! (load ! (through ! refl (fld ! refl (stop !))) (look_in ! 3 (sub ! 0 refl (whole !))))) refl (tt, tt) $
      sets_last ! (addr ! (through ! refl (stop !))) refl (tt, tt) $ exec ! 𝓣.C 𝓣.Λ En (after 1 (code.function).body) (at_ret En Post) $ sets ! (of_opd ! (get ! refl)) refl (tt, tt) $
      rewrite ! 0 (λ (P : Fml). ‵ P) (sym (as_param S (E).laws x b o)) refl $
      move ! (1 ∷ 2 ∷ []) $ fjoin ! $ move ! (0 ∷ 2 ∷ []) $ fjoin ! $ move ! (2 ∷ 3 ∷ 4 ∷ 1 ∷ 0 ∷ []) $ group ! 5 $
      use1 𝓛 (later (some (λ (γ' : GName). raw (Part 𝓛 H S (with_session v) (named 0) κ q rb ro b o γ (sem 𝓛 (Rest v rb ro b o h)) (back v rb ro b o h e) x γ'))))
      (lends_Part 𝓛 H S (with_session v) (named 0) κ q rb ro b o γ (sem 𝓛 (Rest v rb ro b o h)) (back v rb ro b o h e) k k x) $ await ! tt $ pick ! (λ γ'.
      use1 𝓛 (‵ ((MutRef (named 0) κ S).own_val (record { ref_ptr = (b, o); ghost_name = γ'; now = x }) (vptr b o ∷ [])) ⊛ ‵ (flft κ q) ⊛ ‵ (follows H S γ γ' (with_session v))) (id⊢ 𝓤 _) $ split3 ! $
      returns ! (look_at ! 0 refl) $ free_all ! refl $ keep ! (0 ∷ 1 ∷ 2 ∷ []) $
      suffices ! _ (ends_at 𝓛 F.ended stayed c z (vptr b o) (record { ref_ptr = (b, o); ghost_name = γ'; now = x }) (tt, tt) (tt, tt)) $
      nothing ! $ nothing ! $ fjoin ! $ join ! $ nothing ! $ move ! (2 ∷ 0 ∷ []) $ join ! $ join ! $ frame ! $ says ! refl $ done !))))

pub as_mut_spec : {M : Type 1} → statement M
unfolding tables_of
as_mut_spec 𝓤 𝓛 𝓜 𝓡 wired =
    let 𝓣 : Tables 𝓤 𝓛.H = tables_of 𝓤 𝓛.H 𝓜 (tables 𝓤 𝓛.H 𝓜 𝓡 𝓡.env) in let c = F.clauses 𝓛 𝓜.mem 𝓡.returns in
    entered 𝓤 𝓛.H (triple_of 𝓛 F.signature (F.spec 𝓛 𝓜.mem 𝓡.returns)) 𝓣.C 𝓣.Λ #self code.function (code.unfolded 𝓤 𝓛.H 𝓜 𝓡 wired)
    (walk_Meets 𝓛 F.ended stayed (Goes-spent_ref 𝓛 1 (0 ∷ []) tt (plain (λ _. H)), tt) c (WpFn 𝓤 𝓛.H 𝓣.C 𝓣.Λ code.function) (WpFn-mono 𝓤 𝓛.H 𝓛.laws 𝓣 code.function)
    (walked 𝓛 F.ended stayed c (WpFn 𝓤 𝓛.H 𝓣.C 𝓣.Λ code.function) (λ κs. (mut_vals, tt)) (λ κs. (mut_Tells (named 0) κs.0 H, tt))
    (λ κs qs bounds a g are. walk 𝓛 𝓜.mem 𝓡.returns 𝓣 ((κs, qs, bounds, a, (mut_vals a.0, tt)), g))))

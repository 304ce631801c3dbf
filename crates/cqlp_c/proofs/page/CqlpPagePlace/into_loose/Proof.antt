-- `into_loose` has the pointer and the handle of the heap side by side again.
use Rattle.std.proofs.Common.{◌≡◌, List, [], ◌∷◌, ◌++◌, refl, sym, ap, ◌∙◌, subst}
use mir.Val.{Val, vptr}
use base.Logic.{SProp, ent, emp, id⊢, never, fst∗}
use prog.Wp.{WpFn}
use types.Kit.{‵, raw, ◌⊛◌, ◌$◌, ◌∵◌, !, qed, by, move, keep, drop, split, fsplit3, fjoin, rewrite, suffices, use0}
use types.Run.{of_opd, no_more, and_then, stop, fld, returns, enter}
use types.ByLocal.{alloc_all, pass_all, free_all, look_at, get, get_in, sets}
use types.Part.{agg, sub, whole}
use contract.Monad.{fact, fact_i}
use contract.Running.{tables}
use denote.Exit.{yes}
use denote.RattleType.{RattleType, owns}
use denote.Signature.{types_at, plain}
use denote.RawPtr.{Ptr, block_ptr, null_ptr, in_a_block}
use denote.Steps.{nothing, heard}
use denote.Param.{layout}
use denote.Memory.{lone}
use mir.Raw.{raw as bare}
use types.Logic.{sem}
use denote.Triple.Entry.{alive}
use denote.Triple.Walked.{Stays, stay_dropped, walk_of, Goes-dropped}
use Rattle.core.specs.declared.option.Option.TheVariants.{None, Some}
use Rattle.core.proofs.cell.Inside.{one}
use Rattle.std.specs.contracts.alloc.Global as heap
use Rattle.std.proofs.alloc.Global.TheLaws as heap_laws
use Rattle.std.specs.contracts.impls.GlobalAllocator.TheImpl.{ghosts}
use Rattle.std.proofs.raw_atomic.Walks.{proved_at, leaves}
use Rattle.cqlp_compose.specs.contracts.page.OpenPage as held
use Rattle.cqlp_c.proofs.Values.{both, loose_good, loose_in}
use Rattle.cqlp_c.proofs.PagesHeld.{word, page_out}
use Rattle.cqlp_c.specs.contracts.page.CqlpPagePlace as place
use Rattle.std.specs.Prelude.{ℕ, Option, zero, suc}
use Rattle.std.specs.Box.Ownership.{box_owns}
use Rattle.cqlp_c.specs.Handle.{flag_of, owned_in}
use Rattle.cqlp_c.specs.contracts.page.CqlpPagePlace.into_loose.{ended, clauses}
use Rattle.cqlp_c.specs.contracts.page.CqlpPagePlace.into_loose.Key.{name as #self}
use Rattle.cqlp_c.proofs.page.CqlpPagePlace.into_loose.Statement.{statement}
use Rattle.cqlp_c.proofs.page.CqlpPagePlace.into_loose.Code as code

abbrev Found : {X : Type 0} → Option X → Type 0
Found {X} o = (x : X) × (o ≡ Some x)

abbrev At : Type 0 → ℕ → Type 0
At A zero = Unit {0}
At A (suc n) = A

is_some : {X : Type 0} (o : Option X) → flag_of o ≡ 1 → Found o
is_some None e = subst (At (Found None)) e tt
is_some (Some x) e = (x, refl)

pub into_loose_spec : {M : Type 1} → statement M
into_loose_spec 𝓤 𝓛 𝓜 𝓡 wired =
    let H = 𝓛.H in let 𝓣 = tables 𝓤 H 𝓜 𝓡 𝓡.env in let fn = code.function in let c = clauses 𝓛 𝓜.mem 𝓡.returns in let Z : RattleType = heap.the_row in let LZ = heap_laws.the_row_laws in
    let R : RattleType = held.the_row in
    let hs : Stays ended.signature.params ended.kept = (stay_dropped (plain (λ _. place.the_row)) yes, (stay_dropped (plain (λ _. Z)) yes, tt)) in
    proved_at 𝓛 ended hs c 𝓜 𝓡 (Goes-dropped 𝓛 0 (plain (λ _. place.the_row)) yes (λ κs x f. refl), (Goes-dropped 𝓛 0 (plain (λ _. Z)) yes (λ κs x f. refl), tt)) #self fn (code.unfolded 𝓤 H 𝓜 𝓡 wired) (λ z are.
    let κs = z.0.0 in let qs = z.0.1 in let Post : Val → SProp 𝓤 = (walk_of 𝓛 ended hs c).post z in let Run : List Val → SProp 𝓤 = λ ws. WpFn 𝓤 H 𝓣.C 𝓣.Λ fn ws Post in
    let v = z.0.3.0 in let a = z.0.3.1.0 in let h = one (layout Z) z.0.4.1.0 ((LZ.lawful 𝓛).typed a z.0.4.1.0 are.1.0) in
    qed 𝓛 ((raw (alive 𝓛 ended.signature κs qs) ⊛ ‵ (owns (types_at ended.signature.params κs) z.0.3 z.0.4)) ∷ raw (fact 𝓤 (flag_of v.value ≡ 1)) ∷ []) ∵ move ! (1 ∷ []) $ heard ! (flag_of v.value ≡ 1) (λ full.
    let found = is_some v.value full in let x = found.0 in
    split ! $ move ! (1 ∷ []) $ fsplit3 ! $ page_out ! v z.0.4.0 (λ ev.
    rewrite ! 0 (λ (y : Option (R.Denot)). ‵ (owned_in (box_owns (ghosts.dealloc_token v.alloc) R v.at) y)) found.1 refl $
    in_a_block ! v.at (λ p. box_owns (ghosts.dealloc_token v.alloc) R p x) (fst∗ 𝓤 (never 𝓤) (sem 𝓛 (ghosts.dealloc_token v.alloc (bare (lone R.mir)) null_ptr))) (λ b o e.
    let w : Val = word (block_ptr b o) in let good = loose_good R Z LZ ghosts b o h.0 h.2 in
    let is : z.0.4.0 ≡ w ∷ [] = ev ∙ ap (λ (p : Ptr). word p ∷ []) e in
    move ! (2 ∷ []) $ drop ! $ move ! (1 ∷ []) $ rewrite ! 0 (λ (us : List Val). ‵ (Z.own_val a us)) h.1 refl $ move ! (1 ∷ 0 ∷ []) $
    suffices ! (Run (w ∷ h.0 ∷ [])) (subst (λ (us : List Val). ent 𝓤 (Run (w ∷ h.0 ∷ [])) (Run us)) (sym (λ i. is i ++ (h.1 i ++ []))) (id⊢ 𝓤 (Run (w ∷ h.0 ∷ [])))) $
    enter ! 𝓣.C 𝓣.Λ fn (w ∷ h.0 ∷ []) Post $ alloc_all ! (λ l. pass_all ! refl ((tt, (tt, tt)), (h.2, tt)) $
    sets ! (of_opd ! (get_in ! (fld ! refl (stop !)) (sub ! 0 refl (whole !)))) refl (tt, tt) $ sets ! (of_opd ! (get ! refl)) refl (tt, tt) $
    sets ! (agg ! (and_then ! (get ! refl) (and_then ! (get ! refl) (no_more !)))) refl good $ loose_in R Z LZ ghosts ! b o h.0 a x $
    use0 𝓛 (raw (fact 𝓤 (v.value ≡ Some x))) (fact_i 𝓤 (v.value ≡ Some x) (emp 𝓤) found.1) $ nothing ! $ nothing ! $ fjoin ! $ nothing ! $ fjoin ! $
    returns ! (look_at ! 0 refl) $ free_all ! refl $ keep ! (3 ∷ 0 ∷ 2 ∷ 1 ∷ []) $ by ! (leaves 𝓛 ended hs c z (both (vptr b o) h.0) (record { at = block_ptr b o; alloc = a; value = x }) (tt, (tt, tt)) (tt, (tt, tt))))))))

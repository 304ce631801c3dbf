-- A vector owns or shares a block. Assumes `Logic`.
use Rattle.std.proofs.Common.{◌≡◌, List, [], ◌∷◌, length, refl}
use mir.Syntax.{named, a_type, dcons, dnil}
use mir.Val.{Val, vptr, vunit}
use mir.MapTy.{inst_fn}
use base.Logic.{SProp, emp}
use base.Fml.{fhide}
use types.Kit.{‵, raw, ◌⊛◌, ◌$◌, ◌∵◌, !, qed, by, move, keep, drop, split, fsplit, fjoin, feq_i, flt_l, use0, use1}
use types.Run.{of_opd, returns, enter, unit_lit}
use types.ByLocal.{alloc_all, pass_all, free_all, look_at, sets}
use contract.Monad.{fact, fact_i}
use contract.Running.{tables}
use denote.Builtin.{u8, RefOf}
use denote.Exit.{yes}
use denote.RattleType.{RattleType, owns}
use denote.Memory.{hidden_shr}
use denote.Opens.{unhide}
use denote.Param.{param, bounded}
use denote.RawPtr.{InBlock}
use denote.Ref.{Bor, shr_vals, shr_Tells}
use denote.Signature.{types_at, plain}
use denote.Steps.{nothing, heard}
use denote.Struct.Struct.{Struct}
use denote.Struct.Owning.{shape}
use denote.Struct.Lending.{in_block_says, lent_out}
use denote.Triple.Entry.{alive}
use denote.Triple.Walked.{Stays, stay_dropped, walk_of, Goes-dropped}
use Rattle.std.proofs.raw_atomic.Walks.{proved, leaves}
use Rattle.std.specs.contracts.vec.Vec as vec-type
use Rattle.cqlp_note.specs.contracts.gathered.has_address.{ended, clauses}
use Rattle.cqlp_note.specs.contracts.gathered.has_address.Key.{name as #self}
use Rattle.cqlp_note.proofs.gathered.has_address.Statement.{statement}
use Rattle.cqlp_note.proofs.gathered.has_address.Code as code

pub has_address_spec : {M : Type 1} → statement M
has_address_spec 𝓤 𝓛 𝓜 𝓡 wired A LA g d dd met glued =
    let H = 𝓛.H in let 𝓣 = tables 𝓤 H 𝓜 𝓡 𝓡.env in let P : RattleType = param 0 A in let Vr : RattleType = vec-type.the_row u8 P g in let En = ended A g d dd in let c = clauses A g d dd 𝓛 𝓜.mem 𝓡.returns in
    let slot = RefOf (0 ∷ []) tt (plain (λ _. Vr)) (λ _. tt) in
    let fn = inst_fn (bounded (a_type ∷ []) (A, tt) (dcons d (dcons dd dnil))) code.function in
    let hs : Stays En.signature.params En.kept = (stay_dropped slot yes, tt) in
    proved 𝓛 En hs c 𝓜 𝓡 (Goes-dropped 𝓛 2 slot yes (λ κs x f. refl), tt) (#self (bounded (a_type ∷ []) (A, tt) (dcons d (dcons dd dnil)))) fn (code.unfolded 𝓤 H 𝓜 𝓡 wired (A, tt) d dd) (λ κs. (shr_vals, tt)) (λ κs. (shr_Tells (named 0) κs.0 Vr, tt)) (λ κs qs bounds a gh are.
    let v = a.0 in let b = v.ref_ptr.0 in let o = v.ref_ptr.1 in let x = v.now in
    let z : (walk_of 𝓛 En hs c).Ghost = ((κs, qs, bounds, a, (shr_vals v, tt)), gh) in let Post : Val → SProp 𝓤 = (walk_of 𝓛 En hs c).post z in
    let Words = Struct (shape (vec-type.the_type u8 P g)) in
    qed 𝓛 ((raw (alive 𝓛 En.signature κs qs) ⊛ ‵ (owns (types_at En.signature.params κs) a (shr_vals v, tt))) ∷ raw ((c κs a).requires gh) ∷ []) ∵ split ! $ move ! (1 ∷ []) $
    fsplit ! $ fsplit ! $ drop ! $
    use1 𝓛 (‵ (hidden_shr Words κs.0 (x.ptr, (x.len, (x.cap, (x.alloc, tt)))) b o) ⊛ ‵ (fhide (vec-type.the_lent u8 P g x x.ptr κs.0))) (lent_out 𝓛 (vec-type.struct u8 P g) (vec-type.the_codes u8.Denot P.Denot u8.coded P.coded) (vec-type.the_heap u8 P g) (vec-type.the_lent u8 P g) κs.0 x b o) $ split ! $
    move ! (1 ∷ []) $ unhide ! $ fsplit ! $ flt_l ! (λ fit. fsplit ! $ use1 𝓛 (raw (fact 𝓤 (InBlock x.ptr))) (in_block_says 𝓛 x.ptr) $ heard ! (InBlock x.ptr) (λ inb. keep ! (3 ∷ []) $
    enter ! 𝓣.C 𝓣.Λ fn (vptr b o ∷ []) Post $ alloc_all ! (λ l. pass_all ! refl ((tt, tt), tt) $ sets ! (of_opd ! (unit_lit !)) refl (tt, tt) $
    feq_i ! (List Val) (vunit ∷ []) (vunit ∷ []) refl $ use0 𝓛 (raw (fact 𝓤 (InBlock x.ptr))) (fact_i 𝓤 (InBlock x.ptr) (emp 𝓤) inb) $ nothing ! $ nothing ! $ fjoin ! $
    returns ! (look_at ! 0 refl) $ free_all ! refl $ keep ! (3 ∷ 0 ∷ 2 ∷ 1 ∷ []) $ by ! (leaves 𝓛 En hs c z vunit tt (tt, tt) (tt, tt))))))

-- Of one piece there is one answer.
use Rattle.std.proofs.Common.{◌≡◌, ℕ, ◌≤◌, ◌-◌, List, [], ◌∷◌, ◌++◌, length, take, refl, sym, ap, ◌∙◌, subst, inl, inr, arith}
use Rattle.std.specs.Prelude.{min, Option, Some, None}
use Rattle.std.proofs.lemmas.List.{append_cancel_left}
use Rattle.cqlp_note.specs.declared.refusal.Refusal.{Refusal}
use Rattle.cqlp_note.specs.Limits.{Rules}
use Rattle.cqlp_decode.specs.declared.feeding.Fed.{Fed}
use Rattle.cqlp_decode.specs.declared.feeding.Fed.TheVariants as fed
use Rattle.cqlp_decode.specs.Reading.{Event, Place, Verdict, Waits, Refused, Gifts, Reads, Says, start_with}
use Rattle.cqlp_decode.specs.Progress.{StreamState}
use Rattle.cqlp_decode.specs.Streams.{AfterGifts}
use Rattle.cqlp_decode.specs.Draining.{Drains, DrainsAll, EndsAtEvent, fold_events, verdict_of}
use Rattle.cqlp_laws.specs.OneAnswer.{AreAlike, IsFed, IsOneAnswerOfFeed, TakesAll}
use Rattle.cqlp_laws.proofs.PieceEnds.{EndsUp, has_read, conform_once, used_once}
use Rattle.cqlp_laws.proofs.Whole.{says_once}

refused_same : (r r' : Refusal) → ◌≡◌ {A = Verdict} (Refused r'.at r'.why) (Refused r.at r.why) → r' ≡ r
refused_same r r' e = let a : r'.at ≡ r.at = cc in let b : r'.why ≡ r.why = cc in λ i. record { at = a i; why = b i }

like_same : (d d' : StreamState) → d' ≡ d → AreAlike d d'
like_same d d' e = record {
  rules = ap (λ (z : StreamState). z.rules) e;
  refusal = ap (λ (z : StreamState). z.refusal) e;
  nodes = ap (λ (z : StreamState). z.place.nodes) e;
  given = ap (λ (z : StreamState). z.given) e;
  held = ap (λ (z : StreamState). z.place.given) e;
}

module _ {V : Type 0} (f : V → ℕ → Event → V) (faulted : V → ℕ → Event → V → Type 0) (gifts : Gifts) (old new new' : StreamState) (s input : List ℕ) (es : List (ℕ × Event)) (before after after' : V) (a : AfterGifts gifts old s es) where
  abbrev Emits : List (ℕ × Event) → Verdict → Type 0
  Emits more v = Says old.rules (start_with gifts) (s ++ input) (es ++ more) v

  -- what a piece says, by the rules before it
  says_here : (d : StreamState) (more : List (ℕ × Event)) (o : Option Refusal) → d.rules ≡ old.rules → d.refusal ≡ o → Says d.rules (start_with gifts) (s ++ input) (es ++ more) (verdict_of d.refusal) → Emits more (verdict_of o)
  says_here d more o rules now says =
      subst (λ (l : Rules). Says l (start_with gifts) (s ++ input) (es ++ more) (verdict_of o)) rules
      (subst (λ (z : Option Refusal). Says d.rules (start_with gifts) (s ++ input) (es ++ more) (verdict_of z)) now says)

  same_more : (more more' : List (ℕ × Event)) (v v' : Verdict) → Emits more v → Emits more' v' → (more' ≡ more) × (v' ≡ v)
  same_more more more' v v' p q =
      let one = says_once old.rules (start_with gifts) (s ++ input) (es ++ more) (es ++ more') v v' p q in
      (append_cancel_left es more' more one.0, one.1)

  same_view : (m m' : List (ℕ × Event)) → m' ≡ m → after ≡ fold_events f before m → after' ≡ fold_events f before m' → after' ≡ after
  same_view m m' is g g' = g' ∙ ap (λ (z : List (ℕ × Event)). fold_events f before z) is ∙ sym g

  -- the decoders that are left, where the same bytes were used and the same events handed out
  alike : (n n' : ℕ) (m m' : List (ℕ × Event)) (x x' : Fed) → IsFed f faulted x old new input before after → IsFed f faulted x' old new' input before after' → n' ≡ n → m' ≡ m → new'.refusal ≡ new.refusal
      → AfterGifts gifts new (s ++ take n input) (es ++ m) → AfterGifts gifts new' (s ++ take n' input) (es ++ m') → AreAlike new new'
  alike n n' m m' x x' k k' bytes same refused there there' =
      let here : AfterGifts gifts new' (s ++ take n input) (es ++ m) =
      subst (λ (z : List (ℕ × Event)). AfterGifts gifts new' (s ++ take n input) (es ++ z)) same
      (subst (λ (z : ℕ). AfterGifts gifts new' (s ++ take z input) (es ++ m')) bytes there') in
      let conform = conform_once old.rules gifts new new' (s ++ take n input) (es ++ m) k.rules k'.rules new.refusal new'.refusal refused there here in
      record { rules = k'.rules ∙ sym k.rules; refusal = refused; nodes = conform.0; given = k'.given ∙ sym k.given; held = conform.1 }

  module _ (none : old.refusal ≡ None) where
    one_new : (x x' : Fed) → IsFed f faulted x old new input before after → IsFed f faulted x' old new' input before after' → TakesAll x → TakesAll x' → (x' ≡ x) × (after' ≡ after) × AreAlike new new'
    one_new fed.More fed.More k k' sound sound' =
        let h = k.drains gifts s es a in
        let h' = k'.drains gifts s es a in
        let one = same_more h.drains.more h'.drains.more Waits Waits (says_here new h.drains.more None k.rules k.refusal (h.says none)) (says_here new' h'.drains.more None k'.rules k'.refusal (h'.says none)) in
        let there : AfterGifts gifts new' (s ++ input) (es ++ h.drains.more) = subst (λ (z : List (ℕ × Event)). AfterGifts gifts new' (s ++ input) (es ++ z)) one.0 h'.drains.conforms in
        let conform = conform_once old.rules gifts new new' (s ++ input) (es ++ h.drains.more) k.rules k'.rules new.refusal new'.refusal (k'.refusal ∙ sym k.refusal) h.drains.conforms there in (
          refl,
          same_view h.drains.more h'.drains.more one.0 h.drains.got h'.drains.got,
          record { rules = k'.rules ∙ sym k.rules; refusal = k'.refusal ∙ sym k.refusal; nodes = conform.0; given = k'.given ∙ sym k.given; held = conform.1 },
        )
    one_new fed.More (fed.Refused used' r') k k' sound sound' =
        let h = k.drains gifts s es a in
        let h' = (k'.drains gifts s es a).0 in
        let one = same_more h.drains.more h'.drains.more Waits (Refused r'.at r'.why) (says_here new h.drains.more None k.rules k.refusal (h.says none)) (says_here new' h'.drains.more (Some r') k'.rules k'.refusal (h'.says none)) in
        absurd (let no = one.1 in cc)
    one_new (fed.Refused used r) fed.More k k' sound sound' =
        let h = (k.drains gifts s es a).0 in
        let h' = k'.drains gifts s es a in
        let one = same_more h.drains.more h'.drains.more (Refused r.at r.why) Waits (says_here new h.drains.more (Some r) k.rules k.refusal (h.says none)) (says_here new' h'.drains.more None k'.rules k'.refusal (h'.says none)) in
        absurd (let no = one.1 in cc)
    one_new (fed.Refused used r) (fed.Refused used' r') k k' sound sound' =
        let e = k.drains gifts s es a in
        let e' = k'.drains gifts s es a in
        let more = e.0.drains.more in
        let more' = e'.0.drains.more in
        let one = same_more more more' (Refused r.at r.why) (Refused r'.at r'.why) (says_here new more (Some r) k.rules k.refusal (e.0.says none)) (says_here new' more' (Some r') k'.rules k'.refusal (e'.0.says none)) in
        let same : r' ≡ r = refused_same r r' one.1 in
        let was = has_read old.refusal gifts old s es a in
        let first : 0 ≡ min (0 - length s) (length input) = omega arith in
        let ends : EndsUp old.rules gifts 0 s input 0 first used es more = subst (λ (l : Rules). EndsAtEvent l gifts (s ++ take used input) es more used) k.rules e.1 in
        let ends' : EndsUp old.rules gifts 0 s input 0 first used' es more = subst (λ (m : List (ℕ × Event)). EndsAtEvent old.rules gifts (s ++ take used' input) es m used') one.0 (subst (λ (l : Rules). EndsAtEvent l gifts (s ++ take used' input) es more' used') k'.rules e'.1) in
        let bytes : used' ≡ used = used_once old.rules gifts 0 s input 0 first es was.0 was.1 was.2 used used' more (omega arith) (omega arith) k.within k'.within ends ends' in (
          (λ i. fed.Refused (bytes i) (same i)),
          same_view more more' one.0 e.0.drains.got e'.0.drains.got,
          alike used used' more more' (fed.Refused used r) (fed.Refused used' r') k k' bytes one.0 (k'.refusal ∙ ap Some same ∙ sym k.refusal) e.0.drains.conforms e'.0.drains.conforms,
        )
    one_new (fed.Fault used) x' k k' sound sound' = absurd sound
    one_new fed.More (fed.Fault used') k k' sound sound' = absurd sound'
    one_new (fed.Refused used r) (fed.Fault used') k k' sound sound' = absurd sound'

  one_feed : (o : Option Refusal) → old.refusal ≡ o → (x x' : Fed) → IsFed f faulted x old new input before after → IsFed f faulted x' old new' input before after' → TakesAll x → TakesAll x' → (x' ≡ x) × (after' ≡ after) × AreAlike new new'
  one_feed None none x x' k k' sound sound' = one_new none x x' k k' sound sound'
  one_feed (Some r) was x x' k k' sound sound' =
      let e = k.refused r was in
      let e' = k'.refused r was in
      (e'.0 ∙ sym e.0, e'.2 ∙ sym e.2, like_same new new' (e'.1 ∙ sym e.1))

pub one_answer : {V : Type 0} (f : V → ℕ → Event → V) (faulted : V → ℕ → Event → V → Type 0) → IsOneAnswerOfFeed f faulted
one_answer f faulted gifts old new new' s input es x x' before after after' a k k' sound sound' = one_feed f faulted gifts old new new' s input es before after after' a old.refusal refl x x' k k' sound sound'

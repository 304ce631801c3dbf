-- One list of stretches, and one answer.
use Rattle.std.proofs.Common.{◌≡◌, ℕ, ◌+◌, ◌-◌, ◌^◌, List, [], ◌∷◌, ◌++◌, length, take, drop, refl, sym, ap, ◌∙◌, subst, inl, inr, arith}
use Rattle.std.specs.Prelude.{min, ◌⊎◌, Option, Some}
use Rattle.std.proofs.lemmas.List.{append-nil, append_cancel_left}
use Rattle.cqlp_note.specs.declared.refusal.Refusal.{Refusal}
use Rattle.cqlp_note.specs.Limits.{Rules}
use Rattle.cqlp_decode.specs.Reading.{Event, Gifts, Place, Verdict, Waits, Reads, Refused, Says, start_with}
use Rattle.cqlp_decode.specs.Streams.{AfterGifts}
use Rattle.cqlp_decode.specs.Draining.{fold_events, used_of}
use Rattle.cqlp_laws.proofs.Whole.{says_once}
use Rattle.cqlp_skip.specs.declared.frame.OpenFrame.{OpenFrame}
use Rattle.cqlp_decode.specs.declared.feeding.Fed.{Fed}
use Rattle.cqlp_decode.specs.declared.feeding.Fed.TheVariants as fed
use Rattle.cqlp_skip.specs.Stretches.{Stretch, IsGivenUp, base_after, frame_under_way, emitted}
use Rattle.cqlp_skip.specs.Skipping.{Skipping, AfterSkips, FeedsTo, rules_in, stream}
use Rattle.cqlp_skip.specs.Pieces.{refusal_from}
use Rattle.cqlp_skip.proofs.Feeding.{still_refused}
use Rattle.cqlp_skip_laws.specs.Laws.{gifts_of, AreAlike, IsSound, Fed_on, GoesOn, IsGivenUpOnce, IsOneAnswerOfFeed, BehaveAlike}
use Rattle.cqlp_laws.proofs.PieceEnds.{EndsUp, behind, has_read, conform_once, used_once}

-- ---- one list

pub refused_same : (r r' : Refusal) → ◌≡◌ {A = Verdict} (Refused r'.at r'.why) (Refused r.at r.why) → r' ≡ r
refused_same r r' e = let a : r'.at ≡ r.at = cc in let b : r'.why ≡ r.why = cc in λ i. record { at = a i; why = b i }

stretch_same : (x y : Stretch) → y.from ≡ x.from → y.gifts ≡ x.gifts → y.events ≡ x.events → y.frame ≡ x.frame → y.refusal ≡ x.refusal → y ≡ x
stretch_same x y a b c d e = λ i. record { from = a i; gifts = b i; events = c i; frame = d i; refusal = e i }

head_same : (x y : Gifts) (xs ys : List Gifts) → ◌≡◌ {A = List Gifts} (x ∷ xs) (y ∷ ys) → (x ≡ y) × (xs ≡ ys)
head_same x y xs ys e = (cc, cc)

some_same : (f g : OpenFrame) → ◌≡◌ {A = Option OpenFrame} (Some f) (Some g) → f ≡ g
some_same f g e = cc

one_stretch : (l : Rules) (bytes : List ℕ) (x y : Stretch) → y.from ≡ x.from → y.gifts ≡ x.gifts → IsGivenUp l bytes x → IsGivenUp l bytes y → y ≡ x
one_stretch l bytes x y from gifts a b =
    let b' : Says l (start_with x.gifts) bytes y.events (Refused y.refusal.at y.refusal.why) = subst (λ (g : Gifts). Says l (start_with g) bytes y.events (Refused y.refusal.at y.refusal.why)) gifts b.0 in
    let one = says_once l (start_with x.gifts) bytes x.events y.events (Refused x.refusal.at x.refusal.why) (Refused y.refusal.at y.refusal.why) a.0 b' in
    let frame = some_same y.frame x.frame (sym b.1 ∙ ap frame_under_way one.0 ∙ a.1) in
    stretch_same x y from gifts one.0 frame (refused_same x.refusal y.refusal one.1)

pub once : IsGivenUpOnce
once l xs [] [] a b same = refl
once l xs [] (y ∷ ys) a b same = absurd cc
once l xs (x ∷ zs) [] a b same = absurd cc
once l xs (x ∷ zs) (y ∷ ys) a b same =
    let gifts = head_same y.gifts x.gifts (gifts_of ys) (gifts_of zs) same in
    let earlier : ys ≡ zs = once l xs zs ys a.2 b.2 gifts.1 in
    let from : y.from ≡ x.from = b.0 ∙ ap base_after earlier ∙ sym a.0 in
    let there : IsGivenUp l (drop x.from xs) y = subst (λ (n : ℕ). IsGivenUp l (drop n xs) y) from b.1 in
    let first = one_stretch l (drop x.from xs) x y from gifts.0 a.1 there in
    λ i. first i ∷ earlier i

-- ---- more bytes

pub stay : GoesOn
stay l xs t [] a = tt
stay l xs t (x ∷ zs) a =
    let b = behind x.from xs t in
    let says = still_refused l (start_with x.gifts) (drop x.from xs) b.0 x.events x.refusal.at x.refusal.why a.1.0 in
    (a.0, (subst (λ (z : List ℕ). Says l (start_with x.gifts) z x.events (Refused x.refusal.at x.refusal.why)) (sym b.1) says, a.1.1), stay l xs t zs a.2)

-- ---- one answer

module _ {V : Type 0} (f : V → ℕ → Event → V) (faulted : V → ℕ → Event → V → Type 0) (old new new' : Skipping) (s input : List ℕ) (stretches : List Stretch) (gifts : Gifts) (events : List (ℕ × Event)) (before after after' : V) (a : AfterSkips (s ++ input) old s stretches gifts events) where
  first : min (old.base - old.used) (length input) ≡ min (old.base - length s) (length input)
  first = omega (arith, a.used, a.near)

  -- what the bytes of the present stretch say, by its end
  abbrev Emitted : Skipping → List (ℕ × Event) → Verdict → Type 0
  Emitted d more v = Says (rules_in old) (start_with gifts) (drop old.base (s ++ input)) (events ++ more) v

  same_more : (more more' : List (ℕ × Event)) (v v' : Verdict) → Emitted new more v → Emitted new' more' v' → (more' ≡ more) × (v' ≡ v)
  same_more more more' v v' p q =
      let one = says_once (rules_in old) (start_with gifts) (drop old.base (s ++ input)) (events ++ more) (events ++ more') v v' p q in
      (append_cancel_left events more' more one.0, one.1)

  same_view : (m m' : List (ℕ × Event)) → m' ≡ m → new.base ≡ old.base → new'.base ≡ old.base → after ≡ fold_events f before (emitted new.base m) → after' ≡ fold_events f before (emitted new'.base m') → after' ≡ after
  same_view m m' is b b' g g' = g' ∙ ap (λ (n : ℕ). fold_events f before (emitted n m')) (b' ∙ sym b) ∙ ap (λ (z : List (ℕ × Event)). fold_events f before (emitted new.base z)) is ∙ sym g

  to_old : (d : Skipping) (es : List (ℕ × Event)) (v : Verdict) → d.base ≡ old.base → rules_in d ≡ rules_in old → Says (rules_in d) (start_with gifts) (drop d.base (s ++ input)) es v → Says (rules_in old) (start_with gifts) (drop old.base (s ++ input)) es v
  to_old d es v base same says =
      subst (λ (n : ℕ). Says (rules_in old) (start_with gifts) (drop n (s ++ input)) es v) base
      (subst (λ (l : Rules). Says l (start_with gifts) (drop d.base (s ++ input)) es v) same says)

  -- what a piece that was used whole says
  feeds_here : (d : Skipping) (x : Fed) (w : V) → Fed_on f faulted old d input x before w → FeedsTo f faulted (s ++ input) (min (old.base - old.used) (length input)) d s stretches gifts events input x before w
  feeds_here d x w k = k.feeds (s ++ input) s stretches gifts events [] (sym (append-nil (s ++ input))) a

  -- the decoders that are left, where the same bytes were used and the same events handed out
  alike : (d d' : Skipping) (x x' : Fed) (w w' : V) (t t' : List ℕ) (m m' : List (ℕ × Event)) → Fed_on f faulted old d input x before w → Fed_on f faulted old d' input x' before w'
      → AfterSkips (s ++ input) d t stretches gifts (events ++ m) → AfterSkips (s ++ input) d' t' stretches gifts (events ++ m')
      → used_of (length input) x' ≡ used_of (length input) x → t' ≡ t → m' ≡ m → (stream d').refusal ≡ (stream d).refusal → BehaveAlike d d'
  alike d d' x x' w w' t t' m m' k k' h h' used bytes same refused =
      let base : d'.base ≡ d.base = k'.place.0 ∙ sym k.place.0 in
      let there : AfterGifts gifts (stream d') (drop d.base t) (events ++ m) =
      subst (λ (n : ℕ). AfterGifts gifts (stream d') (drop n t) (events ++ m)) base
      (subst (λ (z : List ℕ). AfterGifts gifts (stream d') (drop d'.base z) (events ++ m)) bytes
      (subst (λ (z : List (ℕ × Event)). AfterGifts gifts (stream d') (drop d'.base t') (events ++ z)) same h'.conforms)) in
      let conform = conform_once (rules_in old) gifts (stream d) (stream d') (drop d.base t) (events ++ m) k.rules k'.rules (stream d).refusal (stream d').refusal refused h.conforms there in
      record {
        stretch = record { rules = k'.rules ∙ sym k.rules; refusal = refused; nodes = conform.0; given = k'.given ∙ sym k.given; held = conform.1 };
        base = base;
        used = k'.used ∙ ap (λ (n : ℕ). min (old.used + n) (2 ^ 64 - 1)) used ∙ sym k.used;
        frame = h'.frame ∙ ap (λ (z : List (ℕ × Event)). frame_under_way (events ++ z)) same ∙ sym h.frame;
        last = k'.place.1 ∙ sym k.place.1;
      }

  -- where the bytes used end, by the rules and the stretch before the piece
  ends_up : (d : Skipping) (n : ℕ) (more : List (ℕ × Event)) → d.base ≡ old.base → rules_in d ≡ rules_in old
      → ((n ≡ min (old.base - old.used) (length input)) × (more ≡ [])) ⊎ ((q : Place) × Reads (rules_in d) (start_with gifts) (drop d.base (s ++ take n input)) (events ++ more) q [])
      → EndsUp (rules_in old) gifts old.base s input (min (old.base - old.used) (length input)) first n events more
  ends_up d n more base same (inl none) = inl none
  ends_up d n more base same (inr e) = inr (
    e.0,
    subst (λ (k : ℕ). Reads (rules_in old) (start_with gifts) (drop k (s ++ take n input)) (events ++ more) e.0 []) base
        (subst (λ (l : Rules). Reads l (start_with gifts) (drop d.base (s ++ take n input)) (events ++ more) e.0 []) same e.1),
  )

  one_feed : (x x' : Fed) → Fed_on f faulted old new input x before after → Fed_on f faulted old new' input x' before after' → IsSound x → IsSound x' → AreAlike x x' × (after' ≡ after) × BehaveAlike new new'
  one_feed fed.More fed.More k k' sound sound' =
      let h = feeds_here new fed.More after k in
      let h' = feeds_here new' fed.More after' k' in
      let one = same_more h.0.more h'.0.more Waits Waits (to_old new (events ++ h.0.more) Waits k.place.0 k.rules h.1) (to_old new' (events ++ h'.0.more) Waits k'.place.0 k'.rules h'.1) in (
        tt,
        same_view h.0.more h'.0.more one.0 k.place.0 k'.place.0 h.0.got h'.0.got,
        alike new new' fed.More fed.More after after' (s ++ input) (s ++ input) h.0.more h'.0.more k k' h.0.conforms h'.0.conforms refl refl one.0 (k'.refusal ∙ sym k.refusal),
      )
  one_feed fed.More (fed.Refused used' r') k k' sound sound' =
      let h = feeds_here new fed.More after k in
      let h' = feeds_here new' (fed.Refused used' r') after' k' in
      let own = k'.refusal in
      let bad = h'.0.conforms.refused own.0 own.1 in
      let one = same_more h.0.more h'.0.more Waits (Refused own.0.at own.0.why) (to_old new (events ++ h.0.more) Waits k.place.0 k.rules h.1) (to_old new' (events ++ h'.0.more) (Refused own.0.at own.0.why) k'.place.0 k'.rules bad) in
      absurd (let no = one.1 in cc)
  one_feed (fed.Refused used r) fed.More k k' sound sound' =
      let h = feeds_here new (fed.Refused used r) after k in
      let h' = feeds_here new' fed.More after' k' in
      let own = k.refusal in
      let bad = h.0.conforms.refused own.0 own.1 in
      let one = same_more h.0.more h'.0.more (Refused own.0.at own.0.why) Waits (to_old new (events ++ h.0.more) (Refused own.0.at own.0.why) k.place.0 k.rules bad) (to_old new' (events ++ h'.0.more) Waits k'.place.0 k'.rules h'.1) in
      absurd (let no = one.1 in cc)
  one_feed (fed.Refused used r) (fed.Refused used' r') k k' sound sound' =
      let h = feeds_here new (fed.Refused used r) after k in
      let h' = feeds_here new' (fed.Refused used' r') after' k' in
      let own = k.refusal in
      let own' = k'.refusal in
      let one = same_more h.0.more h'.0.more (Refused own.0.at own.0.why) (Refused own'.0.at own'.0.why) (to_old new (events ++ h.0.more) (Refused own.0.at own.0.why) k.place.0 k.rules (h.0.conforms.refused own.0 own.1)) (to_old new' (events ++ h'.0.more) (Refused own'.0.at own'.0.why) k'.place.0 k'.rules (h'.0.conforms.refused own'.0 own'.1)) in
      let same : own'.0 ≡ own.0 = refused_same own.0 own'.0 one.1 in
      let was = has_read (stream old).refusal gifts (stream old) (drop old.base s) events a.conforms in
      let e = ends_up new used h.0.more k.place.0 k.rules h.1 in
      let e' = subst (λ (m : List (ℕ × Event)). EndsUp (rules_in old) gifts old.base s input (min (old.base - old.used) (length input)) first used' events m) one.0 (ends_up new' used' h'.0.more k'.place.0 k'.rules h'.1) in
      let bytes : used' ≡ used = used_once (rules_in old) gifts old.base s input (min (old.base - old.used) (length input)) first events was.0 was.1 was.2 used used' h.0.more h.2 h'.2 k.within k'.within e e' in (
        (bytes, own'.2 ∙ ap (λ (q : Refusal). refusal_from new'.base q) same ∙ ap (λ (n : ℕ). refusal_from n own.0) (k'.place.0 ∙ sym k.place.0) ∙ sym own.2),
        same_view h.0.more h'.0.more one.0 k.place.0 k'.place.0 h.0.got h'.0.got,
        alike new new' (fed.Refused used r) (fed.Refused used' r') after after' (s ++ take used input) (s ++ take used' input) h.0.more h'.0.more k k' h.0.conforms h'.0.conforms bytes (ap (λ (n : ℕ). s ++ take n input) bytes) one.0 (own'.1 ∙ ap Some same ∙ sym own.1),
      )
  one_feed (fed.Fault used) x' k k' sound sound' = absurd sound
  one_feed fed.More (fed.Fault used') k k' sound sound' = absurd sound'
  one_feed (fed.Refused used r) (fed.Fault used') k k' sound sound' = absurd sound'

pub one_answer : {V : Type 0} (f : V → ℕ → Event → V) (faulted : V → ℕ → Event → V → Type 0) → IsOneAnswerOfFeed f faulted
one_answer f faulted old new new' s input stretches gifts events x x' before after after' a k k' sound sound' = one_feed f faulted old new new' s input stretches gifts events before after after' a x x' k k' sound sound'

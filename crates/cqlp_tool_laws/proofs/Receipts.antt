-- One message: two that wait for it over the same bytes hear the same, but for what only the outside decides.
use Rattle.std.proofs.Common.{◌≡◌, ℕ, ◌<◌, ◌-◌, ◌^◌, ◌⊎◌, true, List, [], ◌∷◌, ◌++◌, refl, sym, ap, subst, ◌∙◌, append_assoc, inl, inr, arith, length, ◌≤◌}
use Rattle.std.specs.Prelude.{Option, Some, None, Result, Ok, Err}
use Rattle.std.proofs.lemmas.List.{append-nil, append_cancel_right}
use Rattle.std.specs.Io.KnownBytes.{Consumes, Keeps, IsAtEnd}
use Rattle.cqlp_note.specs.declared.header.Header.{Header}
use Rattle.cqlp_note.specs.declared.refusal.Refusal.{Refusal}
use Rattle.cqlp_note.specs.declared.refusal.Reason.{Reason}
use Rattle.cqlp_note.specs.Limits.{Rules}
use Rattle.cqlp_note.specs.Streams.{counted}
use Rattle.cqlp_note.proofs.Runs.{runs_stay}
use Rattle.cqlp_grammar.specs.Events.{Event}
use Rattle.cqlp_decode.specs.Reading.{Place, Verdict, Waits, Refused, Reads, Says, start, step}
use Rattle.cqlp_decode.specs.Progress.{IsPending, ends_due}
use Rattle.cqlp_laws.proofs.OneAnswer.{pending_none}
use Rattle.cqlp_decode.specs.Streams.{AfterBy, Conforms, state}
use Rattle.cqlp_loop.specs.declared.fault.LoopFault.{LoopFault}
use Rattle.cqlp_loop.specs.declared.fault.LoopFault.TheVariants as fault
use Rattle.cqlp_loop.specs.Hearing.{Hearing, idle, amid, with_events}
use Rattle.cqlp_loop.specs.Inboxes.{Supply, InboxState, HasEmitted, Hears, Lacks, Misses, Receives, for_next}
use Rattle.cqlp_loop.proofs.Seeking.{events_then}
use Rattle.cqlp_tool_laws.specs.Conversations.{IsSound}
use Rattle.cqlp_tool_laws.proofs.TalkFronts.{Reported, Ended, behind, behind_events, either, within, one_between, one_verdict, same_header, whole_not_amid, whole_not_before, begun_not_before, refused_on}

-- a count of failures that is not at its end goes up
pub counts_up : (n : ℕ) → n < 2 ^ 64 - 1 → counted true n ≡ n → ⊥
counts_up n small same = omega arith

-- the bytes that came decided the fault of an end
abbrev pub IsDecidedBy : LoopFault → (from left : Supply) → Type 0
IsDecidedBy fault.BadReply from left = Unit {0}
IsDecidedBy fault.SocketFault from left = IsSound from.failures left.failures
IsDecidedBy e from left = ⊥

-- what is left of known bytes once some were read
pub consumed : (a b : Option (List ℕ)) (all bytes : List ℕ) → a ≡ Some all → Consumes a b bytes → (rest : List ℕ) × (b ≡ Some rest) × (all ≡ bytes ++ rest)
consumed None b all bytes is c = absurd cc
consumed (Some x) None all bytes is c = absurd c
consumed (Some x) (Some y) all bytes is c = let same : x ≡ all = cc in (y, refl, sym same ∙ c)

-- where nothing is left
pub at_end : (a b : Option (List ℕ)) (rest : List ℕ) → a ≡ Some rest → Keeps a b → IsAtEnd b → rest ≡ []
at_end None b rest is k e = absurd cc
at_end (Some x) None rest is k e = absurd k
at_end (Some x) (Some y) rest is k e = let same : x ≡ rest = cc in sym same ∙ sym k ∙ e

regroup : (u w read used nw rest : List ℕ) → w ++ read ≡ used ++ nw → u ++ (w ++ (read ++ rest)) ≡ (u ++ used) ++ (nw ++ rest)
regroup u w read used nw rest same =
    ap (λ (z : List ℕ). u ++ z) (sym (append_assoc w read rest) ∙ ap (λ (z : List ℕ). z ++ rest) same ∙ append_assoc used nw rest) ∙ sym (append_assoc u used (nw ++ rest))

module _ (l : Rules) (xs : List ℕ) where
  -- An inbox is within the stream: its decoder used these bytes, others wait, and the source has the rest.
  pub record Conformed (used : List ℕ) (i : InboxState) (at : Supply) (x : Hearing) : Type 0 where
    pub events : List (ℕ × Event)
    pub rest : List ℕ
    pub emitted : HasEmitted (state i.decoder) used events
    pub rules : (state i.decoder).rules ≡ l
    pub left : at.left ≡ Some rest
    pub stream : xs ≡ used ++ (i.waiting ++ rest)
    pub heard : with_events (idle []) events ≡ x

  pub conformed_as : (used : List ℕ) (i i' : InboxState) (s s' : Supply) (x : Hearing) → i' ≡ i → s' ≡ s → Conformed used i s x → Conformed used i' s' x
  conformed_as used i i' s s' x same_inbox same_source st = subst (λ (z : InboxState). Conformed used z s' x) (sym same_inbox) (subst (λ (z : Supply). Conformed used i z x) (sym same_source) st)

  module _ (used : List ℕ) (i : InboxState) (at : Supply) (x : Hearing) (st : Conformed used i at x) where
    conforms : Conforms [] (state i.decoder) used st.events
    conforms = subst (λ (o : Option Refusal). AfterBy o [] (state i.decoder) used st.events) st.emitted.0 st.emitted.1

    read_on : Reads l start xs st.events conforms.place (conforms.bytes ++ (i.waiting ++ st.rest))
    read_on =
        let read : Reads l start used st.events conforms.place conforms.bytes = subst (λ (z : Rules). Reads z start used st.events conforms.place conforms.bytes) st.rules conforms.read in
        let on = runs_stay (step l) start used (i.waiting ++ st.rest) st.events conforms.place conforms.bytes read in
        subst (λ (z : List ℕ). Reads l start z st.events conforms.place (conforms.bytes ++ (i.waiting ++ st.rest))) (sym st.stream) on

    pub conformed_reported : Reported l xs x
    conformed_reported = record { events = st.events; place = conforms.place; rest = conforms.bytes ++ (i.waiting ++ st.rest); read = read_on; heard = st.heard }

    none_before : IsPending (state i.decoder).pending [] → conforms.bytes ++ (i.waiting ++ st.rest) ≡ i.waiting ++ st.rest
    none_before none = ap (λ (z : List ℕ). z ++ (i.waiting ++ st.rest)) (pending_none (state i.decoder).pending conforms.bytes none conforms.pending)

    due_there : ends_due (state i.decoder).place.symbols ≡ 0 → ends_due conforms.place.symbols ≡ 0
    due_there due = ap (λ (z : Place). ends_due z.symbols) (sym conforms.here) ∙ due

  -- two that are between two frames, where the same messages came, used the same bytes
  one_used : (u u' : List ℕ) (i i' : InboxState) (at at' : Supply) (hs : List Header) (st : Conformed u i at (idle hs)) (st' : Conformed u' i' at' (idle hs)) → IsPending (state i.decoder).pending [] × (ends_due (state i.decoder).place.symbols ≡ 0) → IsPending (state i'.decoder).pending [] × (ends_due (state i'.decoder).place.symbols ≡ 0) → u' ≡ u
  one_used u u' i i' at at' hs st st' stop stop' =
      let same = one_between l xs (conforms u i at (idle hs) st).place (conforms u' i' at' (idle hs) st').place _ _ st.events st'.events hs (due_there u i at (idle hs) st stop.1) (due_there u' i' at' (idle hs) st' stop'.1) (read_on u i at (idle hs) st) (read_on u' i' at' (idle hs) st') st.heard st'.heard in
      let rest : i'.waiting ++ st'.rest ≡ i.waiting ++ st.rest = sym (none_before u' i' at' (idle hs) st' stop'.0) ∙ same ∙ none_before u i at (idle hs) st stop.0 in
      append_cancel_right u' u (i.waiting ++ st.rest) (ap (λ (z : List ℕ). u' ++ z) (sym rest) ∙ sym st'.stream ∙ st.stream)

  -- after the headers that were heard, what more events hold
  heard_behind : (hs : List Header) (y : Hearing) (es more : List (ℕ × Event)) → with_events (idle []) es ≡ idle hs → with_events (idle []) more ≡ y → with_events (idle []) (es ++ more) ≡ behind hs y
  heard_behind hs y es more here there =
      events_then (idle []) es more ∙ ap (λ (z : Hearing). with_events z more) (here ∙ ap (λ (z : List Header). idle z) (sym (append-nil hs)))
      ∙ behind_events hs (idle []) more ∙ ap (λ (z : Hearing). behind hs z) there

  -- an inbox that heard more is there
  pub heard_on : (used : List ℕ) (old new : InboxState) (from left : Supply) (hs : List Header) (y : Hearing) → Conformed used old from (idle hs) → (h : Hears (for_next old) from new left (idle []) y) → Conformed (used ++ h.used) new left (behind hs y)
  heard_on used old new from left hs y st h =
      let c = consumed from.left left.left st.rest h.read st.left h.reads.taken in record {
        events = st.events ++ h.emits.more;
        rest = c.0;
        emitted = h.emits.leads used st.events st.emitted;
        rules = h.emits.rules ∙ st.rules;
        left = c.1;
        stream = st.stream ∙ ap (λ (z : List ℕ). used ++ (old.waiting ++ z)) c.2 ∙ regroup used old.waiting h.read h.used new.waiting c.0 h.split;
        heard = heard_behind hs y st.events h.emits.more st.heard h.emits.heard;
      }

  -- A front of the stream says these events and this verdict, and the source has the rest.
  record Said (v : Verdict) (at : Supply) (y : Hearing) : Type 0 where
    pub bytes : List ℕ
    pub rest : List ℕ
    pub events : List (ℕ × Event)
    pub says : Says l start bytes events v
    pub left : at.left ≡ Some rest
    pub stream : xs ≡ bytes ++ rest
    pub heard : with_events (idle []) events ≡ y

  lacked : (used : List ℕ) (old : InboxState) (from at : Supply) (v : Verdict) (n : ℕ) (hs : List Header) (y : Hearing) → Conformed used old from (idle hs) → Lacks (for_next old) from v n at (idle []) y → Said v at (behind hs y)
  lacked used old from at v n hs y st k =
      let c = consumed from.left at.left st.rest k.read st.left k.reads.taken in record {
        bytes = used ++ (old.waiting ++ k.read);
        rest = c.0;
        events = st.events ++ k.says.more;
        says = subst (λ (z : Rules). Says z start (used ++ (old.waiting ++ k.read)) (st.events ++ k.says.more) v) st.rules (k.says.says used st.events st.emitted);
        left = c.1;
        stream = st.stream ∙ ap (λ (z : List ℕ). used ++ (old.waiting ++ z)) c.2 ∙ ap (λ (z : List ℕ). used ++ z) (sym (append_assoc old.waiting k.read c.0)) ∙ sym (append_assoc used (old.waiting ++ k.read) c.0);
        heard = heard_behind hs y st.events k.says.more st.heard k.says.heard;
      }

  refused : (k : ℕ) (why : Reason) (at : Supply) (y : Hearing) → Said (Refused k why) at y → Ended l xs (Refused k why) y
  refused k why at y s = record {
    events = s.events;
    says = subst (λ (z : List ℕ). Says l start z s.events (Refused k why)) (sym s.stream) (refused_on l start s.bytes s.rest s.events k why s.says);
    heard = s.heard;
  }

  ended : (at : Supply) (y : Hearing) (s : Said Waits at y) → s.rest ≡ [] → Ended l xs Waits y
  ended at y s none = record {
    events = s.events;
    says = subst (λ (z : List ℕ). Says l start z s.events Waits) (sym (s.stream ∙ ap (λ (z : List ℕ). s.bytes ++ z) none ∙ append-nil s.bytes)) s.says;
    heard = s.heard;
  }

  module _ (takes refuses : Header → Type 0) (hs : List Header) where
    -- the next message is not whole: no header of it came, or one that is taken
    abbrev IsCut : Hearing → Type 0
    IsCut y = (y ≡ idle (hs ++ [])) ⊎ ((h : Header) × takes h × (y ≡ amid (hs ++ h ∷ [])))

    -- the stream ends within the next message, with this verdict
    abbrev Cut : Verdict → Type 0
    Cut v = (y : Hearing) × Ended l xs v y × IsCut y

    -- the next message has a header that is refused
    abbrev TurnedAway : Type 0
    TurnedAway = (h : Header) × refuses h × Reported l xs (amid (hs ++ h ∷ []))

    -- the next message is whole
    abbrev Whole : Header → Type 0
    Whole h = takes h × Reported l xs (idle (hs ++ h ∷ []))

    -- why it does not come
    abbrev Failed : LoopFault → Type 0
    Failed fault.BadReply = ((k : ℕ) × (why : Reason) × Cut (Refused k why)) ⊎ TurnedAway
    Failed fault.SocketFault = Cut Waits
    Failed e = ⊥

    whole : (used : List ℕ) (old new : InboxState) (from left : Supply) (h : Header) → Conformed used old from (idle hs) → Receives takes refuses old from (Ok h) new left → Whole h
    whole used old new from left h st r = (r.0, conformed_reported (used ++ r.2.used) new left (idle (hs ++ h ∷ [])) (heard_on used old new from left hs (idle (h ∷ [])) st r.2))

    cut_bad : (used : List ℕ) (old : InboxState) (from left : Supply) (y : Hearing) → Conformed used old from (idle hs) → IsCut (behind hs y) → Misses (for_next old) from fault.BadReply left (idle []) y → Failed fault.BadReply
    cut_bad used old from left y st cut m =
        let r = m.0 in
        inl (r.at, r.why, (behind hs y, refused r.at r.why left (behind hs y) (lacked used old from left (Refused r.at r.why) m.1 hs y st m.2), cut))

    cut_end : (used : List ℕ) (old : InboxState) (from left : Supply) (y : Hearing) → IsSound from.failures left.failures → Conformed used old from (idle hs) → IsCut (behind hs y) → Misses (for_next old) from fault.SocketFault left (idle []) y → Failed fault.SocketFault
    cut_end used old from left y sound st cut m =
        let s = lacked used old from m.1 Waits m.0 hs y st m.2 in
        let same = m.2.reads.failures in
        elim m.4.1 [
          | inl failed ↦ absurd (counts_up from.failures sound.0 (ap (λ (n : ℕ). counted true n) (sym same) ∙ sym failed ∙ sound.1))
          | inr none ↦ (behind hs y, ended m.1 (behind hs y) s (at_end m.1.left left.left s.rest s.left m.3 none.1), cut)
        ]

    failed : (used : List ℕ) (old new : InboxState) (from left : Supply) (e : LoopFault) → Conformed used old from (idle hs) → Receives takes refuses old from (Err e) new left → IsDecidedBy e from left → Failed e
    failed used old new from left fault.BadReply st (inl m) d = cut_bad used old from left (idle []) st (inl refl) m
    failed used old new from left fault.BadReply st (inr (inl m)) d = cut_bad used old from left (amid (m.0 ∷ [])) st (inr (m.0, m.1, refl)) m.2
    failed used old new from left fault.BadReply st (inr (inr m)) d = inr (m.0, m.1, conformed_reported (used ++ m.3.used) new left (amid (hs ++ m.0 ∷ [])) (heard_on used old new from left hs (amid (m.0 ∷ [])) st m.3))
    failed used old new from left fault.SocketFault st (inl m) d = cut_end used old from left (idle []) d st (inl refl) m
    failed used old new from left fault.SocketFault st (inr (inl m)) d = cut_end used old from left (amid (m.0 ∷ [])) d st (inr (m.0, m.1, refl)) m.2
    failed used old new from left fault.SocketFault st (inr (inr m)) d = absurd (let is = m.2 in cc)
    failed used old new from left fault.TooManyTurns st r d = absurd d
    failed used old new from left fault.NoMemory st r d = absurd d
    failed used old new from left fault.WriteFault st r d = absurd d

    -- ---- two of them

    one_whole : (h h' : Header) → Whole h → Whole h' → h' ≡ h
    one_whole h h' a b = elim (either l xs (idle (hs ++ h ∷ [])) (idle (hs ++ h' ∷ [])) a.1 b.1) [
      | inl f ↦ same_header hs h h' _ _ f
      | inr f ↦ sym (same_header hs h' h _ _ f)
    ]

    whole_cut : (h : Header) (v : Verdict) → Whole h → Cut v → ⊥
    whole_cut h v a (y, b, inl is) = whole_not_before hs h (rw is at (within l xs v (idle (hs ++ h ∷ [])) y a.1 b))
    whole_cut h v a (y, b, inr c) = whole_not_amid hs h c.0 (rw c.2 at (within l xs v (idle (hs ++ h ∷ [])) y a.1 b))

    module _ (never : (h : Header) → takes h → refuses h → ⊥) where
      whole_turned : (h : Header) → Whole h → TurnedAway → ⊥
      whole_turned h a b = elim (either l xs (idle (hs ++ h ∷ [])) (amid (hs ++ b.0 ∷ [])) a.1 b.2) [
        | inl f ↦ whole_not_amid hs h b.0 f
        | inr f ↦ let same = same_header hs b.0 h _ _ f in never h a.0 (rw (← same) at b.1)
      ]

      turned_cut : (v : Verdict) → TurnedAway → Cut v → ⊥
      turned_cut v a (y, b, inl is) = begun_not_before hs a.0 (rw is at (within l xs v (amid (hs ++ a.0 ∷ [])) y a.2 b))
      turned_cut v a (y, b, inr c) =
          let same = same_header hs a.0 c.0 _ _ (rw c.2 at (within l xs v (amid (hs ++ a.0 ∷ [])) y a.2 b)) in
          never a.0 (rw same at c.1) a.1

      whole_failed : (h : Header) (e : LoopFault) → Whole h → Failed e → ⊥
      whole_failed h fault.BadReply a (inl c) = whole_cut h (Refused c.0 c.1) a c.2
      whole_failed h fault.BadReply a (inr t) = whole_turned h a t
      whole_failed h fault.SocketFault a c = whole_cut h Waits a c
      whole_failed h fault.TooManyTurns a f = absurd f
      whole_failed h fault.NoMemory a f = absurd f
      whole_failed h fault.WriteFault a f = absurd f

      refused_waits : (f : Failed fault.BadReply) → Cut Waits → ⊥
      refused_waits (inl a) b = let same = one_verdict l xs (Refused a.0 a.1) Waits a.2.0 b.0 a.2.1 b.1 in cc
      refused_waits (inr t) b = turned_cut Waits t b

      one_failed : (e e' : LoopFault) → Failed e → Failed e' → e' ≡ e
      one_failed fault.BadReply fault.BadReply a b = refl
      one_failed fault.BadReply fault.SocketFault a b = absurd (refused_waits a b)
      one_failed fault.SocketFault fault.BadReply a b = absurd (refused_waits b a)
      one_failed fault.SocketFault fault.SocketFault a b = refl
      one_failed fault.TooManyTurns e' a b = absurd a
      one_failed fault.NoMemory e' a b = absurd a
      one_failed fault.WriteFault e' a b = absurd a
      one_failed fault.BadReply fault.TooManyTurns a b = absurd b
      one_failed fault.BadReply fault.NoMemory a b = absurd b
      one_failed fault.BadReply fault.WriteFault a b = absurd b
      one_failed fault.SocketFault fault.TooManyTurns a b = absurd b
      one_failed fault.SocketFault fault.NoMemory a b = absurd b
      one_failed fault.SocketFault fault.WriteFault a b = absurd b

-- ---- two ends with the same core

module _ (l : Rules) (xs : List ℕ) {C : Type 0} (takes refuses : C → Header → Type 0) (never : (c : C) (h : Header) → takes c h → refuses c h → ⊥) (c c' : C) (same : c' ≡ c) (i j i' j' : InboxState) (from left from' left' : Supply) (hs : List Header) (used : List ℕ) (here : Conformed l xs used i from (idle hs)) (there : Conformed l xs used i' from' (idle hs)) where
  abbrev Got : Result Header LoopFault → Type 0
  Got r = Receives (takes c) (refuses c) i from r j left

  abbrev GotToo : Result Header LoopFault → Type 0
  GotToo r = Receives (takes c') (refuses c') i' from' r j' left'

  too : (r : Result Header LoopFault) → GotToo r → Receives (takes c) (refuses c) i' from' r j' left'
  too r x = subst (λ (z : C). Receives (takes z) (refuses z) i' from' r j' left') same x

  pub one_header : (h h' : Header) → Got (Ok h) → GotToo (Ok h') → h' ≡ h
  one_header h h' x y = one_whole l xs (takes c) (refuses c) hs h h' (whole l xs (takes c) (refuses c) hs used i j from left h here x) (whole l xs (takes c) (refuses c) hs used i' j' from' left' h' there (too (Ok h') y))

  -- Both are there, have used the same bytes, and have no more waiting than a read may give.
  pub record ConformOn (h : Header) : Type 0 where
    pub bytes : List ℕ
    pub near : Conformed l xs bytes j left (idle (hs ++ h ∷ []))
    pub far : Conformed l xs bytes j' left' (idle (hs ++ h ∷ []))
    pub waiting : length j.waiting ≤ 4096
    pub waiting' : length j'.waiting ≤ 4096

  pub conform_on : (h h' : Header) → Got (Ok h) → GotToo (Ok h') → ConformOn h
  conform_on h h' x y =
      let near = heard_on l xs used i j from left hs (idle (h ∷ [])) here x.2 in
      let far = subst (λ (z : Header). Conformed l xs (used ++ y.2.used) j' left' (idle (hs ++ z ∷ []))) (one_header h h' x y) (heard_on l xs used i' j' from' left' hs (idle (h' ∷ [])) there y.2) in
      let same = one_used l xs (used ++ x.2.used) (used ++ y.2.used) j j' left left' (hs ++ h ∷ []) near far (x.1.stops used here.events here.emitted) (y.1.stops used there.events there.emitted) in
      record { bytes = used ++ x.2.used; near = near; far = subst (λ (z : List ℕ). Conformed l xs z j' left' (idle (hs ++ h ∷ []))) same far; waiting = x.1.waiting; waiting' = y.1.waiting }

  pub not_other : (h : Header) (e' : LoopFault) → Got (Ok h) → GotToo (Err e') → IsDecidedBy e' from' left' → ⊥
  not_other h e' x y d = whole_failed l xs (takes c) (refuses c) hs (never c) h e' (whole l xs (takes c) (refuses c) hs used i j from left h here x) (failed l xs (takes c) (refuses c) hs used i' j' from' left' e' there (too (Err e') y) d)

  pub not_one : (e : LoopFault) (h' : Header) → Got (Err e) → GotToo (Ok h') → IsDecidedBy e from left → ⊥
  not_one e h' x y d = whole_failed l xs (takes c) (refuses c) hs (never c) h' e (whole l xs (takes c) (refuses c) hs used i' j' from' left' h' there (too (Ok h') y)) (failed l xs (takes c) (refuses c) hs used i j from left e here x d)

  pub one_fault : (e e' : LoopFault) → Got (Err e) → GotToo (Err e') → IsDecidedBy e from left → IsDecidedBy e' from' left' → e' ≡ e
  one_fault e e' x y d d' = one_failed l xs (takes c) (refuses c) hs (never c) e e' (failed l xs (takes c) (refuses c) hs used i j from left e here x d) (failed l xs (takes c) (refuses c) hs used i' j' from' left' e' there (too (Err e') y) d')

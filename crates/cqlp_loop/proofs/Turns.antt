-- What comes of turns, one after the other.
use Rattle.std.proofs.Common.{◌≡◌, ◌≢◌, ℕ, ℤ, ◌+◌, zero, suc, List, [], ◌∷◌, ◌++◌, refl, ap, subst, ◌∙◌, append_assoc, inl, inr, arith}
use Rattle.std.specs.Prelude.{Result, Ok, Err}
use Rattle.cqlp_note.specs.declared.header.Header.{Header}
use Rattle.cqlp_note.specs.Outputs.{Output}
use Rattle.cqlp_loop.specs.declared.fault.LoopFault.{LoopFault}
use Rattle.cqlp_loop.specs.declared.fault.LoopFault.TheVariants as fault
use Rattle.cqlp_loop.specs.declared.request.Request.{Request}
use Rattle.cqlp_loop.specs.declared.request.Request.TheVariants.{Query}
use Rattle.cqlp_loop.specs.Inboxes.{Supply}
use Rattle.cqlp_loop.specs.Callers.{CallerState, Prints, done_line}
use Rattle.cqlp_loop.specs.Callers as caller
use Rattle.cqlp_loop.specs.Hosts.{HostState}
use Rattle.cqlp_loop.specs.Hosts as host
use Rattle.cqlp_loop.specs.Script.{LoopStep, Asks, Takes, Answers, Hears, Closes, End, Wires, Scene, wires, scene, with_out}
use Rattle.cqlp_loop.specs.Script.{Comes, Does, Plays, Breaks, Ends, exchange, exchange_pair, pairs, last}
use Rattle.cqlp_loop.specs.Script.{IsFresh, Talks, Converses, setting_up, queries}

-- ---- one turn

pub does_first : (r : Result (Unit {0}) LoopFault) (t : LoopStep) (turns : List LoopStep) (a mid b : Scene) → Does t a mid → Ends turns mid r b → Ends (t ∷ turns) a r b
does_first (Ok u) t turns a mid b d e = (mid, d, e)
does_first (Err f) t turns a mid b d e = inr (mid, d, e)

pub ends_at : (r : Result (Unit {0}) LoopFault) (t : LoopStep) (a b : Scene) → Comes t a r b → Ends (t ∷ []) a r b
ends_at (Ok u) t a b c = (b, c, refl)
ends_at (Err f) t a b c = inl (b, c, refl)

pub breaks_first : (e : LoopFault) (t : LoopStep) (turns : List LoopStep) (a b : Scene) → Comes t a (Err e) b → Breaks e (t ∷ turns) a b.wires
breaks_first e t turns a b c = inl (b, c, refl)

-- the turns of a client whose server is as it was
pub asked : (q : Request) (c c' : CallerState) (h : HostState) (ids : List ℤ) (s t : Output) (from : Supply) (server : End) (out : Output) (r : Result (Unit {0}) LoopFault) → caller.Asks q c s r c' t → Comes (Asks q) (scene c h ids (wires (record { source = from; target = s }) server out)) r (scene c' h ids (wires (record { source = from; target = t }) server out))
asked q c c' h ids s t from server out r a = (a, refl)

pub heard : (c c' : CallerState) (h : HostState) (ids : List ℤ) (from left : Supply) (t : Output) (server : End) (out out' : Output) (r : Result (Unit {0}) LoopFault) → caller.Hears c from out r c' left out' → Comes Hears (scene c h ids (wires (record { source = from; target = t }) server out)) r (scene c' h ids (wires (record { source = left; target = t }) server out'))
heard c c' h ids from left t server out out' r a = (a, refl)

-- the turns of a server whose client is as it was
pub taken : (head : Header) (c : CallerState) (h h' : HostState) (ids : List ℤ) (from left : Supply) (t : Output) (client : End) (out : Output) → host.Accepts h from (Ok head) h' left → Does Takes (scene c h ids (wires client (record { source = from; target = t }) out)) (scene c h' (head.stream ∷ ids) (wires client (record { source = left; target = t }) out))
taken head c h h' ids from left t client out a = (inl (head, refl, a, refl), refl)

pub not_taken : (e : LoopFault) (c : CallerState) (h h' : HostState) (ids : List ℤ) (from left : Supply) (t : Output) (client : End) (out : Output) → host.Accepts h from (Err e) h' left → Comes Takes (scene c h ids (wires client (record { source = from; target = t }) out)) (Err e) (scene c h' ids (wires client (record { source = left; target = t }) out))
not_taken e c h h' ids from left t client out a = (inr (e, refl, a, refl), refl)

pub replied : (q : Request) (z id : ℤ) (c : CallerState) (h h' : HostState) (ids : List ℤ) (s t : Output) (from : Supply) (client : End) (out : Output) (r : Result (Unit {0}) LoopFault) → z ≡ id → host.Answers q z h s r h' t → Comes (Answers q) (scene c h (id ∷ ids) (wires client (record { source = from; target = s }) out)) r (scene c h' ids (wires client (record { source = from; target = t }) out))
replied q z id c h h' ids s t from client out r is a = (id, refl, subst (λ (x : ℤ). host.Answers q x h s r h' t) is a, refl)

-- ---- turns after turns

pub plays_then : (t u : List LoopStep) (a b c : Scene) → Plays t a b → Plays u b c → Plays (t ++ u) a c
plays_then [] u a b c p q = rw p at q
plays_then (x ∷ t) u a b c p q = (p.0, p.1, plays_then t u p.0 b c p.2 q)

pub breaks_then : (e : LoopFault) (t u : List LoopStep) (a b : Scene) (w : Wires) → Plays t a b → Breaks e u b w → Breaks e (t ++ u) a w
breaks_then e [] u a b w p q = rw p at q
breaks_then e (x ∷ t) u a b w p q = inr (p.0, p.1, breaks_then e t u p.0 b w p.2 q)

pub breaks_more : (e : LoopFault) (t u : List LoopStep) (a : Scene) (w : Wires) → Breaks e t a w → Breaks e (t ++ u) a w
breaks_more e [] u a w p = absurd p
breaks_more e (x ∷ t) u a w (inl p) = inl p
breaks_more e (x ∷ t) u a w (inr p) = inr (p.0, p.1, breaks_more e t u p.0 w p.2)

pub ends_then : (r : Result (Unit {0}) LoopFault) (t u : List LoopStep) (a b c : Scene) → Plays t a b → Ends u b r c → Ends (t ++ u) a r c
ends_then (Ok x) t u a b c p q = plays_then t u a b c p q
ends_then (Err e) t u a b c p q = breaks_then e t u a b c.wires p q

-- ---- the queries

pub pairs_both : (m n : ℕ) → pairs (m + n) ≡ pairs m ++ pairs n
pairs_both zero n = let e : 0 + n ≡ n = omega arith in ap (λ (k : ℕ). pairs k) e
pairs_both (suc m) n = let e : suc m + n ≡ suc (m + n) = omega arith in ap (λ (k : ℕ). pairs k) e ∙ ap (λ (z : List LoopStep). exchange_pair ++ z) (pairs_both m n)

pub last_is : (n : ℕ) → n ≢ 0 → last n ≡ exchange Query
last_is zero some = absurd (some refl)
last_is (suc n) some = refl

pub last_none : (n : ℕ) → n ≡ 0 → last n ≡ []
last_none zero none = refl
last_none (suc n) none = absurd cc

pub pairs_more : (n : ℕ) (a b c : Scene) → Plays (pairs n) a b → Plays exchange_pair b c → Plays (pairs (n + 1)) a c
pairs_more n a b c p q = rw (pairs_both n 1) (plays_then (pairs n) (pairs 1) a b c p q)

pub pairs_break : (e : LoopFault) (n m : ℕ) (rest : List LoopStep) (a b : Scene) (w : Wires) → Plays (pairs n) a b → Breaks e exchange_pair b w → Breaks e (pairs (n + suc m) ++ rest) a w
pairs_break e n m rest a b w p q =
    let same : pairs (n + suc m) ++ rest ≡ pairs n ++ (exchange_pair ++ (pairs m ++ rest)) = ap (λ (z : List LoopStep). z ++ rest) (pairs_both n (suc m)) ∙ append_assoc (pairs n) (pairs (suc m)) rest in
    rw same (breaks_then e (pairs n) (exchange_pair ++ (pairs m ++ rest)) a b w p (breaks_more e exchange_pair (pairs m ++ rest) b w q))

-- ---- the whole conversation

pub closed : (count : ℕ) (s : Scene) (out : Output) (r : Result (Unit {0}) LoopFault) → Prints (done_line count) s.wires.out r out → Comes (Closes count) s r (with_out s out)
closed count s out r p = (p, refl)

pub talks : (count : ℕ) (r : Result (Unit {0}) LoopFault) (a b c : Scene) → IsFresh a → Plays (setting_up ++ queries count) a b → Comes (Closes count) b r c → Talks count a.wires r c.wires
talks count r a b c fresh p q = inl (a, c, fresh, refl, refl, ends_then r (setting_up ++ queries count) (Closes count ∷ []) a b c p (ends_at r (Closes count) b c q))

pub talks_not : (count : ℕ) (e : LoopFault) (a : Scene) (w : Wires) → IsFresh a → Breaks e (setting_up ++ queries count) a w → Talks count a.wires (Err e) w
talks_not count e a w fresh p = inl (a, scene a.caller a.host a.unanswered w, fresh, refl, refl, breaks_more e (setting_up ++ queries count) (Closes count ∷ []) a w p)

pub no_memory : (count : ℕ) (e : LoopFault) (w : Wires) → e ≡ fault.NoMemory → Talks count w (Err e) w
no_memory count e w is = inr (ap (λ (x : LoopFault). Err x) is, refl)

pub converses : (count : ℕ) (before after : Wires) (r : Result (Unit {0}) LoopFault) → Talks count before r after → Converses count before.client.source before.out r after.client.source after.out
converses count before after r t = (before, after, t, refl, refl, refl, refl)

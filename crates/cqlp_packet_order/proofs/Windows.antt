-- Where a packet is in a window, and whether the first has to leave.
use Rattle.std.proofs.Common.{◌≡◌, ◌∙◌, ℕ, zero, suc, ◌+◌, ◌<◌, ◌≤◌, Bool, true, false, ◌&&◌, ◌==◌, ◌≢◌, cond, List, [], ◌∷◌, ◌++◌, length, map, take, drop, get_or, insert, Option, Some, None, ◌⊎◌, inl, inr, refl, sym, ap, subst, arith}
use Rattle.std.proofs.Math.ListN.{get_or-map}
use Rattle.std.proofs.Math.Seq.{drop-cons}
use Rattle.std.proofs.lemmas.List.{length-map, map-append, take-map, drop-map}
use Rattle.std.proofs.lemmas.List.Sums.{sum_by-insert}
use Rattle.cqlp_packet_order.specs.declared.limits.OrderCounts.{OrderCounts}
use Rattle.cqlp_packet_order.specs.declared.limits.OrderLimits.{OrderLimits}
use Rattle.cqlp_packet_order.specs.declared.packet.KeptPacket.{KeptPacket}
use Rattle.cqlp_packet_order.specs.Packets.{Packet, packet_in}
use Rattle.cqlp_packet_order.specs.Orders.{Order, Release, are_later, arrived, bytes_in, counted_by, due_left, first_left, if_none, is_due, is_late, is_later, is_off, last_time, must_leave, must_leave_by, order, passes, place, releasing, with_passed, without_first}

-- ---- where a packet is

-- before all, where all are later
pub place_first : (t : Option ℕ) (ps : List Packet) → are_later t ps ≡ true → 0 ≡ place t ps
place_first t [] later = refl
place_first t (p ∷ ps) later = rw later refl

one_is_not : (t : Option ℕ) (ps : List Packet) (n : ℕ) (d : Packet) → n < length ps → is_later (get_or ps n d).time t ≡ false → are_later t ps ≡ false
one_is_not t [] n d within not = absurd (omega arith)
one_is_not t (p ∷ ps) zero d within not = rw not refl
one_is_not t (p ∷ ps) (suc n) d within not = rw (one_is_not t ps n d (omega arith) not) (never (is_later p.time t))
  where
    never : (b : Bool) → (b && false) ≡ false
    never true = refl
    never false = refl

-- behind one that is not later, where all behind that one are
pub place_behind : (t : Option ℕ) (ps : List Packet) (n : ℕ) (d : Packet) → n < length ps → is_later (get_or ps n d).time t ≡ false → are_later t (drop (suc n) ps) ≡ true → suc n ≡ place t ps
place_behind t [] n d within not later = absurd (omega arith)
place_behind t (p ∷ ps) zero d within not later = rw not (ap suc (place_first t ps later))
place_behind t (p ∷ ps) (suc n) d within not later =
    rw (one_is_not t (p ∷ ps) (suc n) d within not) (ap suc (place_behind t ps n d (omega arith) not later))

pub place_within : (t : Option ℕ) (ps : List Packet) → place t ps ≤ length ps
place_within t [] = omega arith
place_within t (p ∷ ps) = by (are_later t (p ∷ ps)) (place_within t ps)
  where
    by : (b : Bool) → place t ps ≤ length ps → cond b 0 (suc (place t ps)) ≤ length (p ∷ ps)
    by true within = omega arith
    by false within = omega arith

-- ---- whether the first has to leave

same_answer : (l : OrderLimits) (passed n n' bytes bytes' : ℕ) (s s' t t' : Option ℕ) → n ≡ n' → bytes ≡ bytes' → s ≡ s' → t ≡ t' → must_leave_by l passed n bytes s t ≡ must_leave_by l passed n' bytes' s' t'
same_answer l passed n n' bytes bytes' s s' t t' a b e f =
    rw (a, b, e, f) refl

module _ {A : Type 0} where
  last_is : (k : KeptPacket A) (ks : List (KeptPacket A)) (d : KeptPacket A) → (get_or (k ∷ ks) (length ks) d).time ≡ last_time (packet_in k) (map packet_in ks)
  last_is k [] d = refl
  last_is k (x ∷ xs) d = last_is x xs d

  pub due_is : (l : OrderLimits) (passed count held : ℕ) (s t : Option ℕ) (ks : List (KeptPacket A)) (n : ℕ) (d e : KeptPacket A) → count ≡ length ks → n + 1 ≡ length ks → held ≡ bytes_in (map packet_in ks) → s ≡ (get_or ks 0 d).time → t ≡ (get_or ks n e).time → must_leave_by l passed count held s t ≡ must_leave l passed (map packet_in ks)
  due_is l passed count held s t [] n d e is last bytes first final = absurd (omega arith)
  due_is l passed count held s t (k ∷ ks) n d e is last bytes first final =
      let there : n ≡ length ks = omega arith in
      same_answer l passed count _ held _ s _ t _ (is ∙ ap suc (sym (length-map ks packet_in))) bytes first (final ∙ ap (λ j. (get_or (k ∷ ks) j e).time) there ∙ last_is k ks e)

  -- ---- the search from the end

  seen_at : (ks : List (KeptPacket A)) (n : ℕ) (x : KeptPacket A) → x ≡ get_or ks n x → (get_or (map packet_in ks) n (packet_in x)).time ≡ x.time
  seen_at ks n x is = ap (λ (p : Packet). p.time) (get_or-map packet_in ks n x) ∙ ap (λ (k : KeptPacket A). k.time) (sym is)

  -- one more is later
  pub later_too : (t : Option ℕ) (ks : List (KeptPacket A)) (at n : ℕ) (x : KeptPacket A) → at ≡ suc n → at ≤ length (map packet_in ks) → x ≡ get_or ks n x → is_later x.time t ≡ true → are_later t (drop at (map packet_in ks)) ≡ true → are_later t (drop n (map packet_in ks)) ≡ true
  later_too t ks at n x next within is one others =
      let lt : n < length (map packet_in ks) = omega arith in
      let here = ap (λ s. is_later s t) (seen_at ks n x is) ∙ one in
      rw (drop-cons (map packet_in ks) n (packet_in x) lt, here) (subst (λ j. are_later t (drop j (map packet_in ks)) ≡ true) next others)

  -- one is not
  pub found : (t : Option ℕ) (ks : List (KeptPacket A)) (at n : ℕ) (x : KeptPacket A) → at ≡ suc n → at ≤ length (map packet_in ks) → x ≡ get_or ks n x → is_later x.time t ≡ false → are_later t (drop at (map packet_in ks)) ≡ true → at ≡ place t (map packet_in ks)
  found t ks at n x next within is one others =
      next ∙ place_behind t (map packet_in ks) n (packet_in x) (omega arith) (ap (λ s. is_later s t) (seen_at ks n x is) ∙ one) (subst (λ j. are_later t (drop j (map packet_in ks)) ≡ true) next others)

-- ---- a packet that need not wait

pub waits_behind : (p : Packet) (o : Order) (n : ℕ) → n ≢ 0 → n ≡ length o.waiting → false ≡ passes p o
waits_behind p o n some is = by o.waiting n some is
  where
    by : (ps : List Packet) (n : ℕ) → n ≢ 0 → n ≡ length ps → false ≡ if_none ps (must_leave o.limits o.passed (p ∷ []))
    by [] n some is = absurd (some is)
    by (q ∷ qs) n some is = refl

pub waits_alone : (p : Packet) (o : Order) (b : Bool) → 0 ≡ length o.waiting → b ≡ must_leave o.limits o.passed (p ∷ []) → b ≡ passes p o
waits_alone p o b none is = is ∙ by o.waiting none
  where
    by : (ps : List Packet) → 0 ≡ length ps → must_leave o.limits o.passed (p ∷ []) ≡ if_none ps (must_leave o.limits o.passed (p ∷ []))
    by [] none = refl
    by (q ∷ qs) none = absurd (omega arith)

-- ---- a packet comes

module _ {A : Type 0} where
  inserted : (ks : List (KeptPacket A)) (at : ℕ) (k : KeptPacket A) → map packet_in (insert ks at k) ≡ insert (map packet_in ks) at (packet_in k)
  inserted ks at k =
      map-append packet_in (take at ks) (k ∷ drop at ks)
      ∙ ap (λ z. z ++ (packet_in k ∷ map packet_in (drop at ks))) (sym (take-map packet_in at ks))
      ∙ ap (λ z. take at (map packet_in ks) ++ (packet_in k ∷ z)) (sym (drop-map packet_in at ks))

  pub more_held : (ks ks' : List (KeptPacket A)) (at held held' : ℕ) (k : KeptPacket A) (p : Packet) → held ≡ bytes_in (map packet_in ks) → ks' ≡ insert ks at k → packet_in k ≡ p → held' ≡ held + length p.bytes → held' ≡ bytes_in (map packet_in ks')
  more_held ks ks' at held held' k p old is same new =
      let after = sum_by-insert (λ (q : Packet). length q.bytes) (map packet_in ks) at (packet_in k) in
      let there = ap (λ (z : List (KeptPacket A)). bytes_in (map packet_in z)) is ∙ ap bytes_in (inserted ks at k) in
      let long = ap (λ (q : Packet). length q.bytes) same in
      omega (arith, after, there, long)

  pub has_arrived : (o : Order) (l : OrderLimits) (ks ks' : List (KeptPacket A)) (passed at n : ℕ) (counts counts' : OrderCounts) (k : KeptPacket A) (p : Packet) → order l (map packet_in ks) passed counts ≡ o → ks' ≡ insert ks at k → packet_in k ≡ p → at ≡ place p.time o.waiting → n ≡ length ks → counts' ≡ counted_by (is_late passed p.time) (at == n) (is_off l) counts → order l (map packet_in ks') passed counts' ≡ arrived p o
  has_arrived o l ks ks' passed at n counts counts' k p view is same there all count =
      subst (λ (z : Order). order l (map packet_in ks') passed counts' ≡ arrived p z) view (by (subst (λ (z : Order). at ≡ place p.time z.waiting) (sym view) there))
    where
      by : at ≡ place p.time (map packet_in ks) → order l (map packet_in ks') passed counts' ≡ arrived p (order l (map packet_in ks) passed counts)
      by here =
          let mapped = ap (λ (z : List (KeptPacket A)). map packet_in z) is ∙ inserted ks at k ∙ ap (λ (q : Packet). insert (map packet_in ks) at q) same ∙ ap (λ i. insert (map packet_in ks) i p) here in
          let many = all ∙ sym (length-map ks packet_in) in
          let counted = count ∙ ap (λ i. counted_by (is_late passed p.time) (i == n) (is_off l) counts) here ∙ ap (λ j. counted_by (is_late passed p.time) (place p.time (map packet_in ks) == j) (is_off l) counts) many in
          ap (λ (z : List Packet). order l z passed counts') mapped ∙ ap (λ (c : OrderCounts). order l (insert (map packet_in ks) (place p.time (map packet_in ks)) p) passed c) counted

-- It does what it would if it were kept.
pub passing : (p : Packet) (o : Order) → passes p o ≡ true → due_left (arrived p o) ≡ releasing (Some p) (with_passed p o)
passing p o pass = by o.waiting pass
  where
    by : (ps : List Packet) → if_none ps (must_leave o.limits o.passed (p ∷ [])) ≡ true → due_left (arrived p (order o.limits ps o.passed o.counts)) ≡ releasing (Some p) (with_passed p (order o.limits ps o.passed o.counts))
    by [] due = rw due refl
    by (q ∷ qs) due = absurd (let no = due in cc)

-- and none waits behind it
pub none_is_due : (p : Packet) (o : Order) → passes p o ≡ true → releasing None (with_passed p o) ≡ due_left (with_passed p o)
none_is_due p o pass = by o.waiting pass
  where
    by : (ps : List Packet) → if_none ps (must_leave o.limits o.passed (p ∷ [])) ≡ true → releasing None (with_passed p (order o.limits ps o.passed o.counts)) ≡ due_left (with_passed p (order o.limits ps o.passed o.counts))
    by [] due = refl
    by (q ∷ qs) due = absurd (let no = due in cc)

-- One that leaves is not there any more.
pub one_fewer : (leaves : Order → Release) (o u : Order) (p : Packet) → ((z : Order) → leaves z ≡ first_left z ⊎ leaves z ≡ releasing None z) → releasing (Some p) u ≡ leaves o → length u.waiting < length o.waiting
one_fewer leaves o u p ways e =
    elim (ways o) [
      | inl is ↦ by o.waiting (e ∙ is)
      | inr is ↦ absurd (let no = ap (λ (z : Release). z.packet) (e ∙ is) in cc)
    ]
  where
    by : (ps : List Packet) → releasing (Some p) u ≡ without_first o ps → length u.waiting < length ps
    by [] e = absurd (let no = ap (λ (z : Release). z.packet) e in cc)
    by (q ∷ qs) e = let rest = ap (λ (z : Release). length z.order.waiting) e in omega (arith, rest)

pub due_leaves : (o : Order) → due_left o ≡ first_left o ⊎ due_left o ≡ releasing None o
due_leaves o = by (is_due o)
  where
    by : (b : Bool) → cond b (first_left o) (releasing None o) ≡ first_left o ⊎ cond b (first_left o) (releasing None o) ≡ releasing None o
    by true = inl refl
    by false = inr refl

pub first_leaves : (o : Order) → first_left o ≡ first_left o ⊎ first_left o ≡ releasing None o
first_leaves o = inl refl

-- The connections of a pool, as the entries of its cache.
use Rattle.std.proofs.Common.{◌≡◌, ℕ, zero, suc, ◌+◌, ◌-◌, ◌<◌, ◌≤◌, Bool, true, false, cond, List, [], ◌∷◌, ◌++◌, length, take, drop, refl, sym, ap, subst, ◌∙◌, arith}
use Rattle.std.specs.Prelude.{◌==◌, ◌&&◌, not, bytes_eq, nat_lt, OnErr, Result, Ok, Err, Option, Some, None, option_map, slice_get}
use Rattle.std.specs.List.{AllByRecursion, IsDistinct, position_or_len, remove}
use Rattle.std.specs.Cmp.{nat_eq_equiv}
use Rattle.std.specs.Map.{keys_of, lookup, lookup_entry, remove_entry, set_value}
use Rattle.std.proofs.lemmas.Bool.{lt-ltb}
use Rattle.std.proofs.lemmas.List.{length-map}
use Rattle.lru.specs.LruCache.{last_entry, lru_cache, promoted, put_entries}
use Rattle.cqlp_tcp_segment.specs.declared.addresses.Address.{Address}
use Rattle.cqlp_tcp_segment.specs.declared.addresses.Address.TheVariants.{V4, V6}
use Rattle.cqlp_tcp_segment.specs.declared.addresses.Endpoint.{Endpoint}
use Rattle.cqlp_tcp_segment.specs.declared.segments.SegmentHead.{SegmentHead}
use Rattle.cqlp_tcp_segment.specs.contracts.addresses.AddressPartialEq.TheImpl.{eq-value as address-eq}
use Rattle.cqlp_tcp_segment.specs.contracts.addresses.EndpointPartialEq.TheImpl.{eq-value as end-eq}
use Rattle.cqlp_tcp_connections.specs.contracts.ends.EndsPartialEq.TheImpl.{eq-value}
use Rattle.cqlp_tcp_connections.specs.declared.ends.Ends.{Ends}
use Rattle.cqlp_tcp_connections.specs.Ends.{same_address, same_end, same_ends}
use Rattle.cqlp_tcp_connections.specs.declared.limits.ConnectionLimits.{ConnectionLimits}
use Rattle.cqlp_tcp_connections.specs.declared.ends.Way.{Way}
use Rattle.cqlp_tcp_connections.specs.declared.delivery.Admission.{Admission}
use Rattle.cqlp_tcp_connections.specs.declared.delivery.WayStep.{WayStep}
use Rattle.cqlp_tcp_connections.specs.Known.{Flows, Known, Delivering, Meeting, known, meeting, met, size_of, delivering}
use Rattle.cqlp_tcp_connections.specs.Tables.{between, early_of, first_becomes, first_delivering, first_delivers, found_in, last_first, to_front}
use Rattle.cqlp_tcp_connections.specs.Pools.{PoolState, first_of, known_of, pool, seeing, seen_at, seen_between, seen_by_first}
use Rattle.cqlp_tcp_connections.proofs.Sizes.{met_size}

-- `==` of ends, by which the cache finds them
abbrev pub eq_ends : Ends → Ends → Bool
eq_ends = eq-value.it

address_eq : (a b : Address) → address-eq.it a b ≡ same_address a b
address_eq (V4 a) (V4 b) = refl
address_eq (V4 a) (V6 b) = refl
address_eq (V6 a) (V4 b) = refl
address_eq (V6 a) (V6 b) = refl

and_turned : (x y : Bool) → (x && y) ≡ (y && x)
and_turned true true = refl
and_turned true false = refl
and_turned false true = refl
and_turned false false = refl

endpoint_eq : (a b : Endpoint) → end-eq.it a b ≡ same_end a b
endpoint_eq a b =
    ap (λ (x : Bool). x && (a.port == b.port)) (address_eq a.address b.address)
    ∙ and_turned (same_address a.address b.address) (a.port == b.port)

pub ends_eq : (e f : Ends) → eq_ends e f ≡ same_ends e f
ends_eq e f =
    ap (λ (x : Bool). x && end-eq.it e.node f.node) (endpoint_eq e.client f.client)
    ∙ ap (λ (x : Bool). same_end e.client f.client && x) (endpoint_eq e.node f.node)

abbrev pub Entry : Type 0
Entry = Ends × Flows

abbrev pub is_at : Ends → Known → Bool
is_at k c = same_ends k c.ends

abbrev pub place_of : Ends → List Entry → ℕ
place_of k es = position_or_len (is_at k) (known_of es)

module _ (k : Ends) (test : Ends → Bool) (same : (e : Ends) → test e ≡ same_ends k e) where
  -- the entry of these ends is where the connection is
  pub record IsFound (es : List Entry) (e : Entry) : Type 0 where
    pub within : place_of k es < length es
    pub one : take 1 (drop (place_of k es) (known_of es)) ≡ known e.0 e.1 ∷ []
    pub rest : remove (known_of es) (place_of k es) ≡ known_of (remove_entry test es)
    pub value : lookup test es ≡ Some e.1
    pub sum : size_of e.1 + early_of (known_of (remove_entry test es)) ≡ early_of (known_of es)

  place_yes : (f : Entry) (es : List Entry) → test f.0 ≡ true → place_of k (f ∷ es) ≡ 0
  place_yes f es t = ap (λ (b : Bool). cond (not b) (1 + place_of k es) 0) (sym (same f.0) ∙ t)

  place_no : (f : Entry) (es : List Entry) → test f.0 ≡ false → place_of k (f ∷ es) ≡ suc (place_of k es)
  place_no f es t = ap (λ (b : Bool). cond (not b) (1 + place_of k es) 0) (sym (same f.0) ∙ t) ∙ omega arith

  found_here : (f : Entry) (es : List Entry) → test f.0 ≡ true → IsFound (f ∷ es) f
  found_here f es t =
      let at = place_yes f es t in
      let gone : remove_entry test (f ∷ es) ≡ es = ap (λ (b : Bool). cond b es (f ∷ remove_entry test es)) t in
      record {
        within = omega (arith, at);
        one = ap (λ (n : ℕ). take 1 (drop n (known_of (f ∷ es)))) at;
        rest = ap (λ (n : ℕ). remove (known_of (f ∷ es)) n) at ∙ sym (ap known_of gone);
        value = ap (λ (b : Bool). cond b (Some f.1) (lookup test es)) t;
        sum = ap (λ (l : List Entry). size_of f.1 + early_of (known_of l)) gone;
      }

  found_there : (f : Entry) (es : List Entry) (e : Entry) → test f.0 ≡ false → IsFound es e → IsFound (f ∷ es) e
  found_there f es e t so =
      let at = place_no f es t in
      let within = so.within in
      let gone : remove_entry test (f ∷ es) ≡ f ∷ remove_entry test es = ap (λ (b : Bool). cond b es (f ∷ remove_entry test es)) t in
      let sum = so.sum in
      record {
        within = omega (arith, at, within);
        one = ap (λ (n : ℕ). take 1 (drop n (known_of (f ∷ es)))) at ∙ so.one;
        rest = ap (λ (n : ℕ). remove (known_of (f ∷ es)) n) at ∙ ap (λ (l : List Known). known f.0 f.1 ∷ l) so.rest ∙ sym (ap known_of gone);
        value = ap (λ (b : Bool). cond b (Some f.1) (lookup test es)) t ∙ so.value;
        sum = ap (λ (l : List Entry). size_of e.1 + early_of (known_of l)) gone ∙ omega (arith, sum);
      }

  pub found_entry : (es : List Entry) (e : Entry) → lookup_entry test es ≡ Some e → IsFound es e
  found_entry [] e h = absurd cc
  found_entry (f ∷ es) e h = (elim (test f.0) as (λ y. test f.0 ≡ y → IsFound (f ∷ es) e) [
    | true ↦ λ t. let h' = rw t at h in let one : f ≡ e = cc in subst (IsFound (f ∷ es)) one (found_here f es t)
    | false ↦ λ t. found_there f es e t (found_entry es e (rw t at h))
  ]) refl

  pub record IsAbsent (es : List Entry) : Type 0 where
    pub place : place_of k es ≡ length es
    pub value : lookup test es ≡ None

  pub absent_entry : (es : List Entry) → lookup_entry test es ≡ None → IsAbsent es
  absent_entry [] h = record { place = refl; value = refl }
  absent_entry (f ∷ es) h = (elim (test f.0) as (λ y. test f.0 ≡ y → IsAbsent (f ∷ es)) [
    | true ↦ λ t. let h' = rw t at h in absurd cc
    | false ↦ λ t. let so = absent_entry es (rw t at h) in
        record {
          place = place_no f es t ∙ ap suc so.place;
          value = ap (λ (b : Bool). cond b (Some f.1) (lookup test es)) t ∙ so.value;
        }
  ]) refl

  at_found : (es : List Entry) → place_of k es < length es → found_in k (known_of es) ≡ Some (place_of k es)
  at_found es lt =
      let long = length-map es (λ (e : Entry). known e.0 e.1) in
      ap (λ (b : Bool). cond b (Some (place_of k es)) None) (lt-ltb (place_of k es) (length (known_of es)) (omega (arith, lt, long)))

  at_absent : (es : List Entry) → place_of k es ≡ length es → found_in k (known_of es) ≡ None
  at_absent es e =
      let long = length-map es (λ (e : Entry). known e.0 e.1) in
      none_if (place_of k es) (length (known_of es)) (omega (arith, e, long))
    where
      none_if : (n len : ℕ) → len ≤ n → cond (nat_lt n len) (Some n) None ≡ None
      none_if n len le = grind (arith)

  fronted : (es : List Entry) (e : Entry) → lookup_entry test es ≡ Some e → known_of (promoted test es) ≡ to_front (place_of k es) (known_of es)
  fronted es e h =
      let so = found_entry es e h in
      let goes : promoted test es ≡ e ∷ remove_entry test es = rw h refl in
      ap known_of goes ∙ sym (ap (λ (l : List Known). l ++ remove (known_of es) (place_of k es)) so.one ∙ ap (λ (l : List Known). known e.0 e.1 ∷ l) so.rest)

-- a value that is written to the first entry
pub first_set : (e : Entry) (es : List Entry) (test : Ends → Bool) (w : Flows) → test e.0 ≡ true → set_value test (e ∷ es) w ≡ (e.0, w) ∷ es
first_set e es test w t = ap (λ (b : Bool). cond b ((e.0, w) ∷ es) (e ∷ set_value test es w)) t

-- ---- what a segment is to the connection between some ends

pub entry_test : (test : Ends → Bool) (es : List Entry) (e : Entry) → lookup_entry test es ≡ Some e → test e.0 ≡ true
entry_test test [] e h = absurd cc
entry_test test (f ∷ es) e h = (elim (test f.0) as (λ y. test f.0 ≡ y → test e.0 ≡ true) [
  | true ↦ λ t. let h' = rw t at h in let one : f ≡ e = cc in subst (λ (x : Entry). test x.0 ≡ true) one t
  | false ↦ λ t. entry_test test es e (rw t at h)
]) refl

see_by : (way : Way) (h : SegmentHead) (k : Ends) (es : List Entry) (v w : Flows) (a : Admission) (o : Option Entry) → lookup_entry (eq_ends k) es ≡ o → Some v ≡ lookup (eq_ends k) es → meeting a w ≡ met way h v
    → seeing (Some a) (known_of (set_value (eq_ends k) (promoted (eq_ends k) es) w)) ≡ seen_between k way h (known_of es)
see_by way h k es v w a None s found m =
    let so = absent_entry k (eq_ends k) (λ x. ends_eq k x) es s in
    let value = so.value in
    absurd cc
see_by way h k es v w a (Some e) s found m =
    let so = found_entry k (eq_ends k) (λ x. ends_eq k x) es e s in
    let value = so.value in
    let one : e.1 ≡ v = cc in
    let r = remove_entry (eq_ends k) es in
    let goes : promoted (eq_ends k) es ≡ e ∷ r = rw s refl in
    let at = at_found k (eq_ends k) (λ x. ends_eq k x) es so.within in
    let front = fronted k (eq_ends k) (λ x. ends_eq k x) es e s in
    ap (λ (x : List Entry). seeing (Some a) (known_of (set_value (eq_ends k) x w))) goes
    ∙ ap (λ (x : List Entry). seeing (Some a) (known_of x)) (first_set e r (eq_ends k) w (entry_test (eq_ends k) es e s))
    ∙ ap (λ (z : Meeting). seeing (Some z.admission) (known e.0 z.after ∷ known_of r)) (m ∙ ap (met way h) (sym one))
    ∙ sym (ap (λ (x : List Entry). seen_by_first way h (known_of x)) goes)
    ∙ ap (λ (l : List Known). seen_by_first way h l) front
    ∙ sym (ap (λ (n : Option ℕ). seen_at n way h (known_of es)) at)

pub see_is : (way : Way) (h : SegmentHead) (k : Ends) (es : List Entry) (v w : Flows) (a : Admission) → Some v ≡ lookup (eq_ends k) es → meeting a w ≡ met way h v
    → seeing (Some a) (known_of (set_value (eq_ends k) (promoted (eq_ends k) es) w)) ≡ seen_between k way h (known_of es)
see_is way h k es v w a found m = see_by way h k es v w a (lookup_entry (eq_ends k) es) refl found m

see_sum : (k : Ends) (es : List Entry) (v w : Flows) (o : Option Entry) → lookup_entry (eq_ends k) es ≡ o → Some v ≡ lookup (eq_ends k) es → size_of w ≡ size_of v
    → early_of (known_of (set_value (eq_ends k) (promoted (eq_ends k) es) w)) ≡ early_of (known_of es)
see_sum k es v w None s found same =
    let so = absent_entry k (eq_ends k) (λ x. ends_eq k x) es s in
    let value = so.value in
    absurd cc
see_sum k es v w (Some e) s found same =
    let so = found_entry k (eq_ends k) (λ x. ends_eq k x) es e s in
    let value = so.value in
    let one : e.1 ≡ v = cc in
    let r = remove_entry (eq_ends k) es in
    let goes : promoted (eq_ends k) es ≡ e ∷ r = rw s refl in
    ap (λ (x : List Entry). early_of (known_of (set_value (eq_ends k) x w))) goes
    ∙ ap (λ (x : List Entry). early_of (known_of x)) (first_set e r (eq_ends k) w (entry_test (eq_ends k) es e s))
    ∙ ap (λ n. n + early_of (known_of r)) (same ∙ ap size_of (sym one))
    ∙ so.sum

-- it keeps how much all hold
pub see_early : (way : Way) (h : SegmentHead) (k : Ends) (es : List Entry) (v w : Flows) (a : Admission) → Some v ≡ lookup (eq_ends k) es → meeting a w ≡ met way h v
    → early_of (known_of (set_value (eq_ends k) (promoted (eq_ends k) es) w)) ≡ early_of (known_of es)
see_early way h k es v w a found m =
    see_sum k es v w (lookup_entry (eq_ends k) es) refl found (ap (λ (z : Meeting). size_of z.after) m ∙ met_size way h v)

-- where it is not there
none_by : (way : Way) (h : SegmentHead) (k : Ends) (es : List Entry) (o : Option Entry) → lookup_entry (eq_ends k) es ≡ o → None ≡ lookup (eq_ends k) es
    → seeing None (known_of es) ≡ seen_between k way h (known_of es)
none_by way h k es None s found =
    let so = absent_entry k (eq_ends k) (λ x. ends_eq k x) es s in
    let at = at_absent k (eq_ends k) (λ x. ends_eq k x) es so.place in
    sym (ap (λ (n : Option ℕ). seen_at n way h (known_of es)) at)
none_by way h k es (Some e) s found =
    let so = found_entry k (eq_ends k) (λ x. ends_eq k x) es e s in
    let value = so.value in
    absurd cc

pub none_is : (way : Way) (h : SegmentHead) (k : Ends) (es : List Entry) → None ≡ lookup (eq_ends k) es
    → seeing None (known_of es) ≡ seen_between k way h (known_of es)
none_is way h k es found = none_by way h k es (lookup_entry (eq_ends k) es) refl found

-- it keeps how much all hold
promote_sum : (k : Ends) (test : Ends → Bool) → ((e : Ends) → test e ≡ same_ends k e) → (es : List Entry) (o : Option Entry) → lookup_entry test es ≡ o → early_of (known_of (promoted test es)) ≡ early_of (known_of es)
promote_sum k test same es None h = let stays : promoted test es ≡ es = rw h refl in ap (λ (l : List Entry). early_of (known_of l)) stays
promote_sum k test same es (Some e) h =
    let goes : promoted test es ≡ e ∷ remove_entry test es = rw h refl in
    ap (λ (l : List Entry). early_of (known_of l)) goes ∙ (found_entry k test same es e h).sum

pub promote_early : (k : Ends) (test : Ends → Bool) → ((e : Ends) → test e ≡ same_ends k e) → (es : List Entry) → early_of (known_of (promoted test es)) ≡ early_of (known_of es)
promote_early k test same es = promote_sum k test same es (lookup_entry test es) refl

-- ---- the last one

nat_turned : (a b : ℕ) → (a == b) ≡ (b == a)
nat_turned a b = nat_eq_equiv.symm a b

nat_same : (a : ℕ) → (a == a) ≡ true
nat_same a = nat_eq_equiv.refl a

bytes_turned : (a b : List ℕ) → bytes_eq a b ≡ bytes_eq b a
bytes_turned [] [] = refl
bytes_turned [] (y ∷ b) = refl
bytes_turned (x ∷ a) [] = refl
bytes_turned (x ∷ a) (y ∷ b) = let e = nat_turned x y in let f = bytes_turned a b in cc

bytes_same : (a : List ℕ) → bytes_eq a a ≡ true
bytes_same [] = refl
bytes_same (x ∷ a) = let e = nat_same x in let f = bytes_same a in cc

address_turned : (a b : Address) → same_address a b ≡ same_address b a
address_turned (V4 a) (V4 b) = bytes_turned a b
address_turned (V4 a) (V6 b) = refl
address_turned (V6 a) (V4 b) = refl
address_turned (V6 a) (V6 b) = bytes_turned a b

address_same : (a : Address) → same_address a a ≡ true
address_same (V4 a) = bytes_same a
address_same (V6 a) = bytes_same a

end_turned : (a b : Endpoint) → same_end a b ≡ same_end b a
end_turned a b = let e = nat_turned a.port b.port in let f = address_turned a.address b.address in cc

end_same : (a : Endpoint) → same_end a a ≡ true
end_same a = let e = nat_same a.port in let f = address_same a.address in cc

ends_turned : (e f : Ends) → same_ends e f ≡ same_ends f e
ends_turned e f = let g = end_turned e.client f.client in let h = end_turned e.node f.node in cc

pub ends_same : (e : Ends) → same_ends e e ≡ true
ends_same e = let g = end_same e.client in let h = end_same e.node in cc

module _ (eq : Ends → Ends → Bool) (same : (a b : Ends) → eq a b ≡ same_ends a b) where
  all_at : (k : Ends) (es : List Entry) (n : ℕ) (e : Entry) → slice_get es n ≡ Some e → AllByRecursion (λ y. eq k y ≡ false) (keys_of es) → eq k e.0 ≡ false
  all_at k [] n e h a = absurd cc
  all_at k (f ∷ es) zero e h a = let one : f ≡ e = cc in subst (λ (x : Entry). eq k x.0 ≡ false) one a.0
  all_at k (f ∷ es) (suc n) e h a = all_at k es n e h a.1

  record IsLast (es : List Entry) (n : ℕ) (e : Entry) : Type 0 where
    found : lookup_entry (eq e.0) es ≡ Some e
    place : place_of e.0 es ≡ n

  eq_same : (k : Ends) → eq k k ≡ true
  eq_same k = same k k ∙ ends_same k

  last_at : (es : List Entry) (n : ℕ) (e : Entry) → suc n ≡ length es → slice_get es n ≡ Some e → IsDistinct eq (keys_of es) → IsLast es n e
  unfolding IsDistinct
  last_at [] n e long h d = absurd (omega (arith, long))
  last_at (f ∷ []) zero e long h d =
      let one : f ≡ e = cc in
      let yes = eq_same f.0 in
      subst (IsLast (f ∷ []) zero) one record {
        found = ap (λ (b : Bool). cond b (Some f) None) yes;
        place = place_yes f.0 (eq f.0) (λ x. same f.0 x) f [] yes;
      }
  last_at (f ∷ g ∷ es) zero e long h d = absurd (omega (arith, long))
  last_at (f ∷ es) (suc n) e long h d =
      let so = last_at es n e (omega (arith, long)) h d.1 in
      let apart = all_at f.0 es n e h d.0 in
      let no : eq e.0 f.0 ≡ false = same e.0 f.0 ∙ ends_turned e.0 f.0 ∙ sym (same f.0 e.0) ∙ apart in
      record {
        found = ap (λ (b : Bool). cond b (Some f) (lookup_entry (eq e.0) es)) no ∙ so.found;
        place = place_no e.0 (eq e.0) (λ x. same e.0 x) f es no ∙ ap suc so.place;
      }

  -- what `promote` does to the last one
  pub promote_last : (es : List Entry) (e : Entry) → last_entry es ≡ Some e → IsDistinct eq (keys_of es) → known_of (promoted (eq e.0) es) ≡ last_first (known_of es)
  promote_last [] e h d = absurd cc
  promote_last (f ∷ es) e h d =
      let n = length es in
      let less : length (f ∷ es) - 1 ≡ n = omega arith in
      let so = last_at (f ∷ es) n e refl (sym (ap (λ (i : ℕ). slice_get (f ∷ es) i) less) ∙ h) d in
      let long = length-map (f ∷ es) (λ (x : Entry). known x.0 x.1) in
      let at : place_of e.0 (f ∷ es) ≡ length (known_of (f ∷ es)) - 1 = so.place ∙ omega (arith, long) in
      fronted e.0 (eq e.0) (λ x. same e.0 x) (f ∷ es) e so.found ∙ ap (λ (i : ℕ). to_front i (known_of (f ∷ es))) at

-- ---- the first one

pub first_is : (es : List Entry) → slice_get es 0 ≡ first_of (known_of es)
first_is [] = refl
first_is (e ∷ es) = refl

pub last_of_few : (es : List Entry) → length es < 2 → last_first (known_of es) ≡ known_of es
last_of_few [] few = refl
last_of_few (e ∷ []) few = refl
last_of_few (e ∷ f ∷ es) few = absurd (omega (arith, few))

pub first_lookup : (e : Entry) (es : List Entry) (test : Ends → Bool) → test e.0 ≡ true → lookup test (e ∷ es) ≡ Some e.1
first_lookup e es test t = ap (λ (b : Bool). cond b (Some e.1) (lookup test es)) t

-- Ends that the first entry has.
pub record IsFirst (es : List Entry) (k : Ends) : Type 0 where
  pub flows : Flows
  pub rest : List Entry
  pub is : es ≡ (k, flows) ∷ rest

pub is_first : (es : List Entry) (k : Ends) → Some k ≡ option_map (λ (e : Entry). e.0) (first_of (known_of es)) → IsFirst es k
is_first [] k h = absurd cc
is_first (e ∷ es) k h = let one : k ≡ e.0 = cc in record { flows = e.1; rest = es; is = ap (λ (x : Ends). (x, e.1) ∷ es) (sym one) }

pub lookup_first : (es : List Entry) (k : Ends) (so : IsFirst es k) → lookup (eq_ends k) es ≡ Some so.flows
lookup_first es k so =
    let here : eq_ends k k ≡ true = ends_eq k k ∙ ends_same k in
    subst (λ (x : List Entry). lookup (eq_ends k) x ≡ Some so.flows) (sym so.is) (first_lookup (k, so.flows) so.rest (eq_ends k) here)

-- ---- a call of the first connection, which was v before and is w after it

pub record IsCall (es : List Entry) (k : Ends) (v : Flows) : Type 0 where
  pub rest : List Entry
  pub is : es ≡ (k, v) ∷ rest

pub is_call : (es : List Entry) (limits : ConnectionLimits) (p : PoolState) (k : Ends) (r : Option Ends) (v : Flows) → pool limits (known_of es) ≡ p → r ≡ Some k → r ≡ option_map (λ (e : Entry). e.0) (first_of p.known) → Some v ≡ lookup (eq_ends k) es
    → IsCall es k v
is_call es limits p k r v view some first found =
    let there : Some k ≡ option_map (λ (e : Entry). e.0) (first_of (known_of es)) =
    sym some ∙ first ∙ sym (ap (λ (q : PoolState). option_map (λ (e : Entry). e.0) (first_of q.known)) view) in
    let so = is_first es k there in
    let at = lookup_first es k so in
    let one : so.flows ≡ v = cc in
    record { rest = so.rest; is = so.is ∙ ap (λ (f : Flows). (k, f) ∷ so.rest) one }

-- the first connection cannot be absent
pub no_call : {G : Type 0} (es : List Entry) (limits : ConnectionLimits) (p : PoolState) (k : Ends) (r : Option Ends) → pool limits (known_of es) ≡ p → r ≡ Some k → r ≡ option_map (λ (e : Entry). e.0) (first_of p.known) → None ≡ lookup (eq_ends k) es
    → G
no_call es limits p k r view some first found =
    let there : Some k ≡ option_map (λ (e : Entry). e.0) (first_of (known_of es)) =
    sym some ∙ first ∙ sym (ap (λ (q : PoolState). option_map (λ (e : Entry). e.0) (first_of q.known)) view) in
    let so = is_first es k there in
    let at = lookup_first es k so in
    absurd cc

pub call_set : (es : List Entry) (k : Ends) (v w : Flows) (c : IsCall es k v) → set_value (eq_ends k) es w ≡ (k, w) ∷ c.rest
call_set es k v w c =
    let here : eq_ends k k ≡ true = ends_eq k k ∙ ends_same k in
    ap (λ (x : List Entry). set_value (eq_ends k) x w) c.is ∙ first_set (k, v) c.rest (eq_ends k) w here

pub call_becomes : (f : Flows → Flows) (es : List Entry) (k : Ends) (v w : Flows) → IsCall es k v → w ≡ f v → known_of (set_value (eq_ends k) es w) ≡ first_becomes f (known_of es)
call_becomes f es k v w c e =
    ap known_of (call_set es k v w c)
    ∙ ap (λ (x : Flows). known k x ∷ known_of c.rest) e
    ∙ sym (ap (λ (x : List Entry). first_becomes f (known_of x)) c.is)

pub call_delivers : (f : Flows → Delivering) (es : List Entry) (k : Ends) (v w : Flows) (step : Option WayStep) → IsCall es k v → delivering step w ≡ f v
    → first_delivering (between k step) (known_of (set_value (eq_ends k) es w)) ≡ first_delivers f (known_of es)
call_delivers f es k v w step c e =
    ap (λ (x : List Entry). first_delivering (between k step) (known_of x)) (call_set es k v w c)
    ∙ ap (λ (t : Delivering). first_delivering (between k t.delivered) (known k t.after ∷ known_of c.rest)) e
    ∙ sym (ap (λ (x : List Entry). first_delivers f (known_of x)) c.is)

-- where a call failed
pub on_err : {T E P : Type 0} (r : Result T E) → P → OnErr r P
on_err (Ok x) p = tt
on_err (Err e) p = p

-- the sum before and after it
pub call_before : (es : List Entry) (k : Ends) (v : Flows) (c : IsCall es k v) → early_of (known_of es) ≡ size_of v + early_of (known_of c.rest)
call_before es k v c = ap (λ (x : List Entry). early_of (known_of x)) c.is

pub call_after : (es : List Entry) (k : Ends) (v w : Flows) (c : IsCall es k v) → early_of (known_of (set_value (eq_ends k) es w)) ≡ size_of w + early_of (known_of c.rest)
call_after es k v w c = ap (λ (x : List Entry). early_of (known_of x)) (call_set es k v w c)

pub call_less : (es : List Entry) (k : Ends) (v : Flows) (early : ℕ) → IsCall es k v → early ≡ early_of (known_of es) → size_of v ≤ early
call_less es k v early c e = let h = call_before es k v c in omega (arith, e, h)

pub call_sum : (es : List Entry) (k : Ends) (v w : Flows) (early before after : ℕ) → IsCall es k v → early ≡ early_of (known_of es) → before ≡ size_of v → after ≡ size_of w
    → early - before + after ≡ early_of (known_of (set_value (eq_ends k) es w))
call_sum es k v w early before after c e b a = let h = call_before es k v c in let i = call_after es k v w c in omega (arith, e, b, a, h, i)

-- ---- one more

take_all : (n : ℕ) (es : List Entry) → length es ≤ n → take n es ≡ es
take_all zero [] le = refl
take_all zero (e ∷ es) le = absurd (omega (arith, le))
take_all (suc n) [] le = refl
take_all (suc n) (e ∷ es) le = ap (λ (l : List Entry). e ∷ l) (take_all n es (omega (arith, le)))

put_by : (es : List Entry) (cap : ℕ) (k : Ends) (v : Flows) (o : Option Entry) → lookup_entry (eq_ends k) es ≡ o → found_in k (known_of es) ≡ None → length es < cap
    → put_entries eq_ends (lru_cache es cap) k v ≡ (k, v) ∷ es
put_by es cap k v None h absent room =
    let goes : put_entries eq_ends (lru_cache es cap) k v ≡ (k, v) ∷ take (cap - 1) es = rw h refl in
    goes ∙ ap (λ (l : List Entry). (k, v) ∷ l) (take_all (cap - 1) es (omega (arith, room)))
put_by es cap k v (Some e) h absent room =
    let so = found_entry k (eq_ends k) (λ x. ends_eq k x) es e h in
    let at = at_found k (eq_ends k) (λ x. ends_eq k x) es so.within in
    absurd cc

pub put_is : (es : List Entry) (cap : ℕ) (k : Ends) (v : Flows) → found_in k (known_of es) ≡ None → length (known_of es) < cap → put_entries eq_ends (lru_cache es cap) k v ≡ (k, v) ∷ es
put_is es cap k v absent room =
    let long = length-map es (λ (e : Entry). known e.0 e.1) in
    put_by es cap k v (lookup_entry (eq_ends k) es) refl absent (omega (arith, long, room))

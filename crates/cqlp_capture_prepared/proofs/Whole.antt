-- Where no statement and no EXECUTE has to go, all that was said is reported.
use Rattle.std.proofs.Common.{inl, inr, ◌≡◌, ◌≤◌, ◌-◌, ℕ, suc, Bool, true, false, List, [], ◌∷◌, length, refl, sym, ap, subst, ◌∙◌, arith, Option, Some, None, ℤ}
use Rattle.std.specs.Prelude.{nat_le, is_some, option_and_then, if◌then◌else◌}
use Rattle.std.specs.Ordering.{int_eq}
use Rattle.std.specs.Str.{bytes_eq}
use Rattle.std.specs.Map.{lookup, remove_entry}
use Rattle.std.proofs.lemmas.Bool.{cases_Bool, le-leb}
use Rattle.cqlp_capture_prepared.specs.History.{Heard, Prepared, Executed, Other, AreShort, WaitNeverMore, after, executes_waiting, id_asked, statements_prepared, types_said}
use Rattle.cqlp_capture_prepared.specs.Laws.{ReportsAll}
use Rattle.cqlp_capture_prepared.proofs.Lookups.{length_put, length_used, length_without_one, limit_used, lookup_other, put_here, put_there, removed_none, used_there, without_none}
use Rattle.cqlp_capture_prepared.proofs.Reported.{apart_after, one_id, one_stream}

if_true : {X : Type 0} (b : Bool) (x y : X) → b ≡ true → (if b then x else y) ≡ x
if_true b x y e = rw e refl

if_false : {X : Type 0} (b : Bool) (x y : X) → b ≡ false → (if b then x else y) ≡ y
if_false b x y e = rw e refl

-- ---- how many there are with one more, and with one less

one_more : {K V : Type 0} (test : K → Bool) (es : List (K × V)) (o : Option V) (k : ℕ) → lookup test es ≡ o → length es ≡ k → suc (length (remove_entry test es)) ≡ (if is_some o then k else suc k)
one_more test es None k e long = rw (without_none test es e, long) refl
one_more test es (Some v) k e long = length_without_one test es v e ∙ long

one_less : {K V : Type 0} (test : K → Bool) (es : List (K × V)) (o : Option V) (k : ℕ) → lookup test es ≡ o → length es ≡ k → length (remove_entry test es) ≡ (if is_some o then k - 1 else k)
one_less test es None k e long = rw (without_none test es e, long) refl
one_less test es (Some v) k e long =
    let less = length_without_one test es v e in
    omega arith

no_fewer : (b : Bool) (k : ℕ) → k ≤ (if b then k else suc k)
no_fewer true k = omega arith
no_fewer false k = omega arith

-- ---- the limits stay

limit_awaited : (n m : ℕ) (hs : List Heard) → (after n m hs).awaited.limit ≡ m
limit_awaited n m [] = refl
limit_awaited n m (Prepared id types ∷ hs) = elim (cases_Bool (nat_le (length id) 64)) [
  | inl short ↦ rw short (limit_awaited n m hs)
  | inr long ↦ rw long (limit_awaited n m hs)
]
limit_awaited n m (Executed own id ∷ hs) = elim (cases_Bool (nat_le (length id) 64)) [
  | inl short ↦ rw short (limit_awaited n m hs)
  | inr long ↦ rw long (limit_awaited n m hs)
]
limit_awaited n m (Other own ∷ hs) = limit_awaited n m hs

pub limit_known : (n m : ℕ) (hs : List Heard) → (after n m hs).known.limit ≡ n
limit_known n m [] = refl
limit_known n m (Prepared id types ∷ hs) = elim (cases_Bool (nat_le (length id) 64)) [
  | inl short ↦ rw short (limit_known n m hs)
  | inr long ↦ rw long (limit_known n m hs)
]
limit_known n m (Executed own id ∷ hs) = elim (cases_Bool (nat_le (length id) 64)) [
  | inl short ↦ rw short (limit_used (bytes_eq id) (after n m hs).known ∙ limit_known n m hs)
  | inr long ↦ rw long (limit_known n m hs)
]
limit_known n m (Other own ∷ hs) = limit_known n m hs

-- ---- the EXECUTEs that wait

record WaitAll (n m : ℕ) (hs : List Heard) : Type 0 where
  each : (s : ℤ) → lookup (int_eq s) (after n m hs).awaited.entries ≡ id_asked s hs
  many : length (after n m hs).awaited.entries ≡ executes_waiting hs

wait_all : (n m : ℕ) (hs : List Heard) → AreShort hs → WaitNeverMore m hs → WaitAll n m hs
wait_all n m [] short never = record { each = λ s. refl; many = refl }
wait_all n m (Prepared id types ∷ hs) short never =
    let few : nat_le (length id) 64 ≡ true = le-leb (length id) 64 short.0 in
    let before = wait_all n m hs short.1 never.1 in
    record { each = λ s. rw few (before.each s); many = rw few before.many }
wait_all n m (Executed own id ∷ hs) short never =
    let few : nat_le (length id) 64 ≡ true = le-leb (length id) 64 short.0 in
    let before = wait_all n m hs short.1 never.1 in
    let l = (after n m hs).awaited in
    let more = one_more (int_eq own) l.entries (id_asked own hs) (executes_waiting hs) (before.each own) before.many in
    let fits : suc (length (remove_entry (int_eq own) l.entries)) ≤ l.limit =
    subst (λ (k : ℕ). suc (length (remove_entry (int_eq own) l.entries)) ≤ k) (sym (limit_awaited n m hs)) (subst (λ (k : ℕ). k ≤ m) (sym more) never.0) in
    record {
      each = λ s. rw few (elim (cases_Bool (int_eq s own)) [
        | inl is ↦ put_here int_eq one_stream s own id l is ∙ sym (if_true (int_eq s own) (Some id) (id_asked s hs) is)
        | inr isnt ↦ put_there int_eq one_stream s own id l fits isnt ∙ before.each s ∙ sym (if_false (int_eq s own) (Some id) (id_asked s hs) isnt)
      ]);
      many = rw few (length_put int_eq one_stream own id l fits ∙ more);
    }
wait_all n m (Other own ∷ hs) short never =
    let before = wait_all n m hs short never.1 in
    let l = (after n m hs).awaited in
    record {
      each = λ s. elim (cases_Bool (int_eq s own)) [
        | inl is ↦
            subst (λ (z : ℤ). lookup (int_eq z) (remove_entry (int_eq own) l.entries) ≡ None) (sym (one_stream s own is)) (removed_none int_eq one_stream own l.entries (apart_after n m hs))
            ∙ sym (if_true (int_eq s own) None (id_asked s hs) is)
        | inr isnt ↦ lookup_other int_eq one_stream s own l.entries isnt ∙ before.each s ∙ sym (if_false (int_eq s own) None (id_asked s hs) isnt)
      ];
      many = one_less (int_eq own) l.entries (id_asked own hs) (executes_waiting hs) (before.each own) before.many;
    }

-- ---- the statements that are known

record KnowAll (n m : ℕ) (hs : List Heard) : Type 0 where
  each : (q : List ℕ) → lookup (bytes_eq q) (after n m hs).known.entries ≡ types_said q hs
  many : length (after n m hs).known.entries ≡ statements_prepared hs

know_all : (n m : ℕ) (hs : List Heard) → AreShort hs → statements_prepared hs ≤ n → KnowAll n m hs
know_all n m [] short within = record { each = λ q. refl; many = refl }
know_all n m (Prepared own types ∷ hs) short within =
    let few : nat_le (length own) 64 ≡ true = le-leb (length own) 64 short.0 in
    let fewer = no_fewer (is_some (types_said own hs)) (statements_prepared hs) in
    let before = know_all n m hs short.1 (le_all fewer within) in
    let l = (after n m hs).known in
    let more = one_more (bytes_eq own) l.entries (types_said own hs) (statements_prepared hs) (before.each own) before.many in
    let fits : suc (length (remove_entry (bytes_eq own) l.entries)) ≤ l.limit =
    subst (λ (k : ℕ). suc (length (remove_entry (bytes_eq own) l.entries)) ≤ k) (sym (limit_known n m hs)) (subst (λ (k : ℕ). k ≤ n) (sym more) within) in
    record {
      each = λ q. rw few (elim (cases_Bool (bytes_eq q own)) [
        | inl is ↦ put_here bytes_eq one_id q own types l is ∙ sym (if_true (bytes_eq q own) (Some types) (types_said q hs) is)
        | inr isnt ↦ put_there bytes_eq one_id q own types l fits isnt ∙ before.each q ∙ sym (if_false (bytes_eq q own) (Some types) (types_said q hs) isnt)
      ]);
      many = rw few (length_put bytes_eq one_id own types l fits ∙ more);
    }
  where
    le_all : {a b c : ℕ} → a ≤ b → b ≤ c → a ≤ c
    le_all h k = omega arith
know_all n m (Executed own id ∷ hs) short within =
    let few : nat_le (length id) 64 ≡ true = le-leb (length id) 64 short.0 in
    let before = know_all n m hs short.1 within in
    let l = (after n m hs).known in
    let fits : length l.entries ≤ l.limit =
    subst (λ (k : ℕ). length l.entries ≤ k) (sym (limit_known n m hs)) (subst (λ (k : ℕ). k ≤ n) (sym before.many) within) in
    record {
      each = λ q. rw few (used_there bytes_eq one_id q id l fits ∙ before.each q);
      many = rw few (length_used bytes_eq one_id id l fits ∙ before.many);
    }
know_all n m (Other own ∷ hs) short within =
    let before = know_all n m hs short within in
    record { each = before.each; many = before.many }

-- ---- the types of a page

same_then : {X Y : Type 0} (f g : X → Option Y) (o : Option X) → ((x : X) → f x ≡ g x) → option_and_then f o ≡ option_and_then g o
same_then f g None h = refl
same_then f g (Some x) h = h x

pub all : ReportsAll
all n m hs s short within never =
    let waits = wait_all n m hs short never in
    let knows = know_all n m hs short within in
    ap (λ (o : Option (List ℕ)). option_and_then (λ (id : List ℕ). lookup (bytes_eq id) (after n m hs).known.entries) o) (waits.each s)
    ∙ same_then (λ (id : List ℕ). lookup (bytes_eq id) (after n m hs).known.entries) (λ (id : List ℕ). types_said id hs) (id_asked s hs) knows.each

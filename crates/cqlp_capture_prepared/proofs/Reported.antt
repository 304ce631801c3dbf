-- What is reported of a page is what the last PREPARED and the last EXECUTE said.
use Rattle.std.proofs.Common.{inl, inr, ◌≡◌, ℕ, true, false, List, [], ◌∷◌, length, sym, ap, subst, ◌∙◌, Some, None, ℤ}
use Rattle.std.specs.Prelude.{nat_le}
use Rattle.std.specs.Ordering.{int_eq}
use Rattle.std.specs.Str.{bytes_eq}
use Rattle.std.specs.Map.{lookup}
use Rattle.std.specs.Cmp.Lexicographic.{bytes_decides}
use Rattle.std.proofs.lemmas.Bool.{cases_Bool}
use Rattle.std.proofs.lemmas.Bool.Decides.{Decides-int_eq}
use Rattle.cqlp_kind.specs.declared.node.Node.{Node}
use Rattle.cqlp_capture_prepared.specs.Keeping.{named_under, types_of}
use Rattle.cqlp_capture_prepared.specs.History.{Heard, Prepared, Executed, Other, after, id_asked, types_said}
use Rattle.cqlp_capture_prepared.specs.Laws.{ReportsNoOthers}
use Rattle.cqlp_capture_prepared.proofs.Lookups.{Apart, apart_put, apart_removed, cases_Option, lookup_other, put_other, put_same, removed_none, used_reported}

pub one_stream : (a b : ℤ) → int_eq a b ≡ true → a ≡ b
one_stream a b = (Decides-int_eq a b).0

pub one_id : (a b : List ℕ) → bytes_eq a b ≡ true → a ≡ b
one_id a b = (bytes_decides a b).0

-- No two EXECUTEs wait under one stream id.
pub apart_after : (n m : ℕ) (hs : List Heard) → Apart int_eq one_stream (after n m hs).awaited.entries
apart_after n m [] = tt
apart_after n m (Prepared id types ∷ hs) = elim (cases_Bool (nat_le (length id) 64)) [
  | inl short ↦ rw short (apart_after n m hs)
  | inr long ↦ rw long (apart_after n m hs)
]
apart_after n m (Executed own id ∷ hs) = elim (cases_Bool (nat_le (length id) 64)) [
  | inl short ↦ rw short (apart_put int_eq one_stream own id (after n m hs).awaited (apart_after n m hs))
  | inr long ↦ rw long (apart_removed int_eq one_stream (int_eq own) (after n m hs).awaited.entries (apart_after n m hs))
]
apart_after n m (Other own ∷ hs) = apart_removed int_eq one_stream (int_eq own) (after n m hs).awaited.entries (apart_after n m hs)

-- what is named under a stream id that was answered
named_else : (n m : ℕ) (own s : ℤ) (id : List ℕ) (hs : List Heard) → named_under s (after n m (Other own ∷ hs)) ≡ Some id → (int_eq s own ≡ false) × (named_under s (after n m hs) ≡ Some id)
named_else n m own s id hs e = elim (cases_Bool (int_eq s own)) [
  | inl is ↦
      let none = subst (λ (z : ℤ). lookup (int_eq z) ((after n m (Other own ∷ hs)).awaited.entries) ≡ None) (sym (one_stream s own is)) (removed_none int_eq one_stream own (after n m hs).awaited.entries (apart_after n m hs)) in
      absurd (cc (none, e))
  | inr isnt ↦ (isnt, sym (lookup_other int_eq one_stream s own (after n m hs).awaited.entries isnt) ∙ e)
]

-- what is named was asked for, by an id that is known
abbrev IsAsked : (s : ℤ) (id : List ℕ) (hs : List Heard) → Type 0
IsAsked s id hs = (id_asked s hs ≡ Some id) × (nat_le (length id) 64 ≡ true)

asked : (n m : ℕ) (s : ℤ) (id : List ℕ) (hs : List Heard) → named_under s (after n m hs) ≡ Some id → IsAsked s id hs
asked n m s id [] e = absurd (cc e)
asked n m s id (Prepared own types ∷ hs) e = elim (cases_Bool (nat_le (length own) 64)) [
  | inl short ↦ asked n m s id hs (rw short at e)
  | inr long ↦ asked n m s id hs (rw long at e)
]
asked n m s id (Executed own named ∷ hs) e = elim (cases_Bool (nat_le (length named) 64)) [
  | inr long ↦
      let else = named_else n m own s id hs (rw long at e) in
      let rest = asked n m s id hs else.1 in
      (rw else.0 rest.0, rest.1)
  | inl short ↦ elim (cases_Bool (int_eq s own)) [
    | inl is ↦
        let one : named ≡ id = put_same int_eq one_stream s own named id (after n m hs).awaited is (rw short at e) in
        (rw is (ap Some one), subst (λ (z : List ℕ). nat_le (length z) 64 ≡ true) one short)
    | inr isnt ↦
        let rest = asked n m s id hs (put_other int_eq one_stream s own named id (after n m hs).awaited isnt (rw short at e)) in
        (rw isnt rest.0, rest.1)
  ]
]
asked n m s id (Other own ∷ hs) e =
    let else = named_else n m own s id hs e in
    let rest = asked n m s id hs else.1 in
    (rw else.0 rest.0, rest.1)

-- the types of an id that is known
said : (n m : ℕ) (q : List ℕ) (t : List Node) (hs : List Heard) → nat_le (length q) 64 ≡ true → types_of q (after n m hs) ≡ Some t → types_said q hs ≡ Some t
said n m q t [] few e = absurd (cc e)
said n m q t (Prepared own types ∷ hs) few e = elim (cases_Bool (nat_le (length own) 64)) [
  | inl short ↦ elim (cases_Bool (bytes_eq q own)) [
    | inl is ↦ rw is (ap Some (put_same bytes_eq one_id q own types t (after n m hs).known is (rw short at e)))
    | inr isnt ↦ rw isnt (said n m q t hs few (put_other bytes_eq one_id q own types t (after n m hs).known isnt (rw short at e)))
  ]
  | inr long ↦ elim (cases_Bool (bytes_eq q own)) [
    | inl is ↦
        let few_too = subst (λ (z : List ℕ). nat_le (length z) 64 ≡ true) (one_id q own is) few in
        absurd (cc (few_too, long))
    | inr isnt ↦ rw isnt (said n m q t hs few (rw long at e))
  ]
]
said n m q t (Executed own id ∷ hs) few e = elim (cases_Bool (nat_le (length id) 64)) [
  | inl short ↦ said n m q t hs few (used_reported bytes_eq one_id q id t (after n m hs).known (rw short at e))
  | inr long ↦ said n m q t hs few (rw long at e)
]
said n m q t (Other own ∷ hs) few e = said n m q t hs few e

pub no_others : ReportsNoOthers
no_others n m hs s t e = elim (cases_Option (named_under s (after n m hs))) [
  | inl none ↦ absurd (let f = rw none at e in cc f)
  | inr some ↦
      let is = asked n m s some.0 hs some.1 in
      rw is.0 (said n m some.0 t hs is.1 (rw some.1 at e))
]

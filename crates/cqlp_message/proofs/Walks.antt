-- Parts that are taken one after the other.
use Rattle.std.proofs.Common.{◌≡◌, ℕ, ◌+◌, ◌<◌, ◌≤◌, ◌++◌, length, List, [], ◌∷◌, get_or, take, sym, ap, ◌∙◌}
use Rattle.std.specs.List.{flat_map}
use Rattle.std.proofs.lemmas.List.{append_assoc, append-nil, take_more, take_all}
use Rattle.std.proofs.lemmas.Grind.{flat_map-append}
use Rattle.cqlp_message.specs.Parts.{Part}
use Rattle.cqlp_message.specs.PartRefs.{Takes}

-- What is still to be taken of all, from a state on.
pub record Remains {Before Taker : Type 0} (taken : Before → Taker → List Part → Type 0) (start now : Taker) (rest all : List Part) : Type 0 where
  pub remains : (end : Taker) → Takes taken now end rest → Takes taken start end all

module _ {Before Taker : Type 0} {taken : Before → Taker → List Part → Type 0} where
  pub takes_nil : (a : Taker) → Takes taken a a []
  takes_nil a = record { takes = λ before ps h. rw append-nil h }

  pub takes_append : {a b c : Taker} {ps qs : List Part} → Takes taken a b ps → Takes taken b c qs → Takes taken a c (ps ++ qs)
  takes_append {ps} {qs} s t = record { takes = λ before earlier h. rw (← append_assoc) (t.takes before (earlier ++ ps) (s.takes before earlier h)) }

  infixl 40 ◌then◌
  pub ◌then◌ : {a b c : Taker} {ps qs : List Part} → Takes taken a b ps → Takes taken b c qs → Takes taken a c (ps ++ qs)
  s then t = takes_append s t

  module _ {X : Type 0} (parts : X → List Part) where
    -- one item more
    pub takes_item : (xs : List X) (i : ℕ) (x : X) {a b c : Taker} → x ≡ get_or xs i x → i < length xs → Takes taken a b (flat_map parts (take i xs)) → Takes taken b c (parts x) → Takes taken a c (flat_map parts (take (i + 1) xs))
    takes_item xs i x {a} {b} {c} e l s t =
        let more : take (i + 1) xs ≡ take i xs ++ x ∷ [] = take_more xs i x l ∙ ap (λ (y : X). take i xs ++ y ∷ []) (sym e) in
        let one : flat_map parts (x ∷ []) ≡ parts x = append-nil (parts x) in
        rw (more, flat_map-append, one) (takes_append s t)

    pub takes_all : (xs : List X) (i : ℕ) {a b : Taker} → length xs ≤ i → Takes taken a b (flat_map parts (take i xs)) → Takes taken a b (flat_map parts xs)
    takes_all xs i l s = rw take_all at s

  pub remains_all : {a : Taker} {all : List Part} (rest : List Part) → rest ≡ all → Remains taken a a rest all
  remains_all rest e = record { remains = λ end t. rw e at t }

  pub remains_more : {a b c : Taker} {all : List Part} (ps rest : List Part) → Remains taken a b (ps ++ rest) all → Takes taken b c ps → Remains taken a c rest all
  remains_more ps rest r s = record { remains = λ end t. r.remains end (takes_append s t) }

  pub remains_none : {a b : Taker} {all : List Part} → Remains taken a b [] all → Takes taken a b all
  remains_none {b} r = r.remains b (takes_nil b)

-- Segments that come again, in parts or in another order.
use Rattle.std.proofs.Common.{◌≡◌, ℕ, suc, ◌+◌, ◌<◌, ◌≤◌, Bool, List, [], ◌∷◌, ◌++◌, length, get_or, refl, sym, ap, ◌∙◌, inl, inr, arith}
use Rattle.std.specs.Prelude.{Option, Some, None, ◌&&◌, nat_eq, true, false}
use Rattle.std.proofs.lemmas.Bool.{cases_lt}
use Rattle.cqlp_tcp_reassembly.specs.Segments.{Segment}
use Rattle.cqlp_tcp_reassembly.specs.Laws.{Carried, Entry, captured_byte, carried, carried_entry, first, first_entry, with_more}
use Rattle.cqlp_tcp_reassembly.specs.StreamLaws.{Agree, AreAlike, HandsOn}
use Rattle.cqlp_tcp_reassembly.proofs.Entries.{carried_past, carried_within, first_joined, first_more, first_none}

first_again : (a b : Option Entry) → first a (first b a) ≡ first a b
first_again (Some x) b = refl
first_again None None = refl
first_again None (Some x) = refl

pub with_duplicates : (before after : List Carried) (c : Carried) → AreAlike (before ++ c ∷ after ++ c ∷ []) (before ++ c ∷ after)
with_duplicates [] after c p =
    let b = carried_entry c p in
    ap (first b) (first_joined after (c ∷ []) p ∙ ap (first (first_entry after p)) (first_none b)) ∙ first_again b (first_entry after p)
with_duplicates (t ∷ before) after c p = ap (first (carried_entry t p)) (with_duplicates before after c p)

swapped : (a b c : Option Entry) → ((x y : Entry) → a ≡ Some x → b ≡ Some y → x ≡ y) → first a (first b c) ≡ first b (first a c)
swapped None None c agree = refl
swapped None (Some y) c agree = refl
swapped (Some x) None c agree = refl
swapped (Some x) (Some y) c agree = ap Some (agree x y refl refl)

pub either_order : (before after : List Carried) (a b : Carried) → Agree a b → AreAlike (before ++ a ∷ b ∷ after) (before ++ b ∷ a ∷ after)
either_order [] after a b agree p = swapped (carried_entry a p) (carried_entry b p) (first_entry after p) (agree p)
either_order (c ∷ before) after a b agree p = ap (first (carried_entry c p)) (either_order before after a b agree p)

first_same : (a b : Option Entry) → first (first a b) b ≡ first a b
first_same (Some x) b = refl
first_same None None = refl
first_same None (Some x) = refl

pub in_parts : (before : List Carried) (start : ℕ) (g : Segment) (part whole : ℕ) → part ≤ whole
    → AreAlike (with_more (with_more before start g part) start g whole) (with_more before start g whole)
in_parts before start g part whole less p =
    let a = first_entry before p in
    let b = carried_entry (carried start g whole) p in
    first_more (with_more before start g part) start g whole p
    ∙ elim (cases_lt p part) [
      | inl inside ↦
          let same : carried_entry (carried start g part) p ≡ b = carried_within start g part p inside ∙ sym (carried_within start g whole p (omega arith)) in
          ap (λ (o : Option Entry). first o b) (first_more before start g part p ∙ ap (first a) same) ∙ first_same a b
      | inr past ↦
          ap (λ (o : Option Entry). first o b) (first_more before start g part p ∙ ap (first a) (carried_past start g part p past) ∙ first_none a)
    ]
    ∙ sym (first_more before start g whole p)

same_bytes : (x y : List ℕ) → length x ≡ length y → ((i : ℕ) → i < length x → get_or x i 0 ≡ get_or y i 0) → x ≡ y
same_bytes [] [] long same = refl
same_bytes [] (b ∷ y) long same = absurd (omega arith)
same_bytes (a ∷ x) [] long same = absurd (omega arith)
same_bytes (a ∷ x) (b ∷ y) long same =
    let head : a ≡ b = same 0 (omega arith) in
    let rest : x ≡ y = same_bytes x y (omega arith) (λ i lt. same (suc i) (omega arith)) in
    cc

same_byte : (x y : ℕ) (d e : Bool) (m n : Option ℕ) → Some (captured_byte x d m) ≡ Some (captured_byte y e n) → (x ≡ y) × (d ≡ e) × (m ≡ n)
same_byte x y d e m n is =
    let same : captured_byte x d m ≡ captured_byte y e n = cc in
    let bytes : Some x ≡ Some y = ap (λ (z : Entry). z.byte) same in
    (cc, ap (λ (z : Entry). z.begins) same, ap (λ (z : Entry). z.time) same)

begins_first : (d : Bool) → (d && true) ≡ d
begins_first d = elim d as (λ v. (v && true) ≡ v) [ true ↦ refl | false ↦ refl ]

pub hands_same : (a b : List Carried) (position : ℕ) (x y : List ℕ) (d e : Bool) (m n : Option ℕ) → AreAlike a b → HandsOn a position x d m
    → HandsOn b position y e n → length x ≡ length y
    → (x ≡ y) × (d ≡ e) × (m ≡ n)
hands_same a b position x y d e m n alike hx hy long =
    let each : (i : ℕ) → i < length x → (get_or x i 0 ≡ get_or y i 0) × ((d && nat_eq i 0) ≡ (e && nat_eq i 0)) × (m ≡ n) =
    λ i lt. same_byte (get_or x i 0) (get_or y i 0) (d && nat_eq i 0) (e && nat_eq i 0) m n
    (sym (hx.each i lt) ∙ alike (position + i) ∙ hy.each i (omega arith)) in
    let head = each 0 hx.some in (
      same_bytes x y long (λ i lt. (each i lt).0),
      sym (begins_first d) ∙ head.1 ∙ begins_first e,
      head.2,
    )

-- How many bytes of a piece are used at a refusal, and the state of a decoder that was handed one.
use Rattle.std.proofs.Common.{◌≡◌, ℕ, ◌+◌, ◌-◌, ◌≤◌, List, [], ◌++◌, length, take, drop, sym, ap, ◌∙◌, subst, append_assoc, inl, inr, arith}
use Rattle.std.specs.Prelude.{min, ◌⊎◌, Option, Some, None}
use Rattle.std.proofs.lemmas.Bool.{cases_lt}
use Rattle.std.proofs.lemmas.List.{append-nil, drop-append-le, drop_all, length-append, length-drop, length-take-le}
use Rattle.cqlp_note.specs.declared.refusal.Refusal.{Refusal}
use Rattle.cqlp_note.specs.Limits.{Rules}
use Rattle.cqlp_note.proofs.Runs.{runs_stay}
use Rattle.cqlp_decode.specs.Reading.{Event, Place, Gifts, Reads, gifts_now, held_after_all, retired, settled, start_with, step}
use Rattle.cqlp_decode.specs.Progress.{StreamState}
use Rattle.cqlp_decode.specs.Streams.{AfterBy}
use Rattle.cqlp_decode.proofs.Gets.{take_two}
use Rattle.cqlp_laws.proofs.OneAnswer.{place_once}

-- what follows a stream, after a place in it
pub behind : (n : ℕ) (xs t : List ℕ) → (more : List ℕ) × (drop n (xs ++ t) ≡ drop n xs ++ more)
behind n xs t = elim (cases_lt (length xs) n) [
  | inr le ↦ (t, drop-append-le n xs t le)
  | inl lt ↦ (drop n (xs ++ t), ap (λ (z : List ℕ). z ++ drop n (xs ++ t)) (sym (drop_all n xs (omega (arith, lt)))))
]

module _ (l : Rules) (gifts : Gifts) (base : ℕ) (s input : List ℕ) where
  -- the bytes of the present stretch, where so many of the piece are used
  abbrev pub so_far : ℕ → List ℕ
  so_far n = drop base (s ++ take n input)

  -- they are read as these events, and none is left
  abbrev pub ReadTo : ℕ → List (ℕ × Event) → Type 0
  ReadTo n es = (q : Place) × Reads l (start_with gifts) (so_far n) es q []

  size : (n : ℕ) → n ≤ length input → length (so_far n) ≡ (length s + n) - base
  size n few = omega (arith, length-drop base (s ++ take n input), length-append s (take n input), length-take-le n input few)

  later : (n m : ℕ) → n ≤ m → (t : List ℕ) × (so_far m ≡ so_far n ++ t)
  later n m le =
      let t = take (m - n) (drop n input) in
      let split : take m input ≡ take n input ++ t = subst (λ (k : ℕ). take k input ≡ take n input ++ t) (let e : n + (m - n) ≡ m = omega arith in e) (take_two n (m - n) input) in
      let over : s ++ take m input ≡ (s ++ take n input) ++ t = ap (λ (z : List ℕ). s ++ z) split ∙ sym (append_assoc s (take n input) t) in
      let b = behind base (s ++ take n input) t in
      (b.0, ap (λ (z : List ℕ). drop base z) over ∙ b.1)

  -- no byte is read as no event
  same_size : (n m : ℕ) (es : List (ℕ × Event)) → n ≤ m → ReadTo n es → ReadTo m es → length (so_far m) ≡ length (so_far n)
  same_size n m es le x y =
      let more = later n m le in
      let t = more.0 in
      let x' : Reads l (start_with gifts) (so_far n ++ t) es x.0 t = runs_stay (step l) (start_with gifts) (so_far n) t es x.0 [] x.1 in
      let y' : Reads l (start_with gifts) (so_far n ++ t) es y.0 [] = subst (λ (z : List ℕ). Reads l (start_with gifts) z es y.0 []) more.1 y.1 in
      let none : t ≡ [] = (place_once gifts l (so_far n ++ t) es y.0 x.0 [] t y' x').1 in
      omega (arith, ap length more.1, length-append (so_far n) t, ap length none)

  module _ (passed : ℕ) (first : passed ≡ min (base - length s) (length input)) where
    in_order : (n m : ℕ) (es : List (ℕ × Event)) → passed ≤ n → n ≤ m → m ≤ length input → ReadTo n es → ReadTo m es → m ≡ n
    in_order n m es passes le few x y = omega (arith, first, same_size n m es le x y, size n (omega arith), size m few)

    both_read : (n m : ℕ) (es : List (ℕ × Event)) → passed ≤ n → passed ≤ m → n ≤ length input → m ≤ length input → ReadTo n es → ReadTo m es → m ≡ n
    both_read n m es passes passes' few few' x y = elim (cases_lt m n) [
      | inl lt ↦ sym (in_order m n es passes' (omega arith) few y x)
      | inr le ↦ in_order n m es passes le few' x y
    ]

    -- where no event is new, no byte is used but those passed over
    none_read : (n : ℕ) (es : List (ℕ × Event)) (p : Place) (b : List ℕ) → passed ≤ n → n ≤ length input → Reads l (start_with gifts) (drop base s) es p b → ReadTo n es → n ≡ passed
    none_read n es p b passes few was x =
        let more = behind base s (take n input) in
        let t = more.0 in
        let was' : Reads l (start_with gifts) (drop base s ++ t) es p (b ++ t) = runs_stay (step l) (start_with gifts) (drop base s) t es p b was in
        let x' : Reads l (start_with gifts) (drop base s ++ t) es x.0 [] = subst (λ (z : List ℕ). Reads l (start_with gifts) z es x.0 []) more.1 x.1 in
        let none : b ++ t ≡ [] = (place_once gifts l (drop base s ++ t) es x.0 p [] (b ++ t) x' was').1 in
        omega (arith, first, size n few, ap length more.1, length-append (drop base s) t, ap length none, length-append b t, length-drop base s)

    -- where the bytes used end, after these events and more
    abbrev pub EndsUp : (n : ℕ) → (es more : List (ℕ × Event)) → Type 0
    EndsUp n es more = ((n ≡ passed) × (more ≡ [])) ⊎ ReadTo n (es ++ more)

    module _ (es : List (ℕ × Event)) (p : Place) (b : List ℕ) (was : Reads l (start_with gifts) (drop base s) es p b) where
      none_new : (n : ℕ) (more : List (ℕ × Event)) → passed ≤ n → n ≤ length input → more ≡ [] → EndsUp n es more → n ≡ passed
      none_new n more passes few none (inl e) = e.0
      none_new n more passes few none (inr e) =
          none_read n es p b passes few was (subst (λ (z : List (ℕ × Event)). ReadTo n z) (ap (λ (z : List (ℕ × Event)). es ++ z) none ∙ append-nil es) e)

      pub used_once : (n m : ℕ) (more : List (ℕ × Event)) → passed ≤ n → passed ≤ m → n ≤ length input → m ≤ length input → EndsUp n es more → EndsUp m es more → m ≡ n
      used_once n m more passes passes' few few' (inl x) y = none_new m more passes' few' x.1 y ∙ sym x.0
      used_once n m more passes passes' few few' (inr x) (inl y) = y.0 ∙ sym (none_new n more passes few y.1 (inr x))
      used_once n m more passes passes' few few' (inr x) (inr y) = both_read n m (es ++ more) passes passes' few few' x y

-- ---- the state of a decoder

-- what was read so far, refused or not
pub has_read : (o : Option Refusal) (gifts : Gifts) (d : StreamState) (s : List ℕ) (es : List (ℕ × Event)) → AfterBy o gifts d s es → (p : Place) × (b : List ℕ) × Reads d.rules (start_with gifts) s es p b
has_read None gifts d s es a = (a.place, a.bytes, a.read)
has_read (Some r) gifts d s es a = (a.place, a.bytes, a.read)

-- the types of metadata and those that were given, after one history
pub conform_once : (l : Rules) (gifts : Gifts) (d d' : StreamState) (s : List ℕ) (es : List (ℕ × Event)) → d.rules ≡ l → d'.rules ≡ l → (o o' : Option Refusal) → o' ≡ o → AfterBy o gifts d s es → AfterBy o' gifts d' s es
    → (d'.place.nodes ≡ d.place.nodes) × (d'.place.given ≡ d.place.given)
conform_once l gifts d d' s es is is' None None same a a' =
    let e = (place_once gifts l s es a.place a'.place a.bytes a'.bytes (rw is at a.read) (rw is' at a'.read)).0 in
    let here : d'.place ≡ d.place = a'.here ∙ ap settled e ∙ sym a.here in
    (ap (λ (p : Place). p.nodes) here, ap (λ (p : Place). p.given) here)
conform_once l gifts d d' s es is is' None (Some r) same a a' = absurd cc
conform_once l gifts d d' s es is is' (Some r) None same a a' = absurd cc
conform_once l gifts d d' s es is is' (Some r) (Some r') same a a' =
    let e = (place_once gifts l s es a.place a'.place a.bytes a'.bytes (rw is at a.read) (rw is' at a'.read)).0 in
    (a'.nodes ∙ ap (λ (p : Place). p.nodes) e ∙ sym a.nodes, a'.given ∙ ap (λ (p : Place). held_after_all (gifts_now p.gifts) (retired p.given)) e ∙ sym a.given)

-- What two answers to one call have in common.
use Rattle.std.proofs.Common.{◌≡◌, ℕ, ◌<◌, ◌≤◌, ◌-◌, ◌^◌, Bool, true, List, [], ◌∷◌, ◌++◌, length, take, drop, Option, Some, None, IsSome, Ok, Err, refl, sym, ap, ◌∙◌, inl, inr, ◌⊎◌, arith}
use Rattle.std.proofs.lemmas.Bool.{cases_lt, lt-ltb, le-ltb}
use Rattle.std.proofs.lemmas.List.{take-append-drop}
use Rattle.std.specs.Io.KnownBytes.{Appends, append_known}
use Rattle.cqlp_note.specs.Streams.{counted}
use Rattle.cqlp_tool_laws.specs.Text.{GoesOnFromOther, WritesOnce, BytesAreOfferedOnce}
use Rattle.cqlp_text.specs.Outputs.{Offered, Output, output, with_text, StopsWithin}
use Rattle.cqlp_text.proofs.Writing.{known_then}

-- two fronts of one text
pub fronts : (x y x' y' : List ℕ) → x ++ y ≡ x' ++ y' → ((more : List ℕ) × (x' ≡ x ++ more)) ⊎ ((more : List ℕ) × (x ≡ x' ++ more))
fronts [] y x' y' e = inl (x', refl)
fronts (a ∷ x) y [] y' e = inr (a ∷ x, refl)
fronts (a ∷ x) y (b ∷ x') y' e =
    let first : a ≡ b = cc in
    let rest : x ++ y ≡ x' ++ y' = cc in
    elim (fronts x y x' y' rest) [
      | inl m ↦ let more : x' ≡ x ++ m.0 = m.1 in inl (m.0, cc)
      | inr m ↦ let more : x ≡ x' ++ m.0 = m.1 in inr (m.0, cc)
    ]

longer : (old o o' : Output) (x x' more : List ℕ) → x' ≡ x ++ more → o.given ≡ append_known old.given x → o'.given ≡ append_known old.given x' → o'.failures ≡ o.failures → o' ≡ with_text o more
longer old o o' x x' more e here there same =
    let given : o'.given ≡ append_known o.given more = there ∙ ap (append_known old.given) e ∙ sym (known_then old.given x more) ∙ ap (λ k. append_known k more) (sym here) in
    ap (λ k. output k o'.failures) given ∙ ap (λ n. output (append_known o.given more) n) same

-- Two outputs that were given fronts of one text: one goes on from the other.
pub fronts_given : (old o o' : Output) (x y x' y' : List ℕ) → x ++ y ≡ x' ++ y' → o.given ≡ append_known old.given x → o'.given ≡ append_known old.given x' → o'.failures ≡ o.failures → GoesOnFromOther o o'
fronts_given old o o' x y x' y' e here there same = elim (fronts x y x' y' e) [
  | inl m ↦ inl (m.0, longer old o o' x x' m.0 m.1 here there same)
  | inr m ↦ inr (m.0, longer old o' o x' x m.0 m.1 there here (sym same))
]

-- the same of outputs that more text would make one
pub known_fronts : (given given' : Option (List ℕ)) (f f' : ℕ) (x x' : List ℕ) → append_known given x ≡ append_known given' x' → f' ≡ f → GoesOnFromOther (output given f) (output given' f')
known_fronts None None f f' x x' e same = inl ([], ap (λ n. output None n) same)
known_fronts None (Some t) f f' x x' e same = cc
known_fronts (Some t) None f f' x x' e same = cc
known_fronts (Some t) (Some u) f f' x x' e same =
    let whole : t ++ x ≡ u ++ x' = cc in
    elim (fronts t x u x' whole) [
      | inl m ↦ inl (m.0, ap (λ k. output (Some k) f') m.1 ∙ ap (λ n. output (Some (t ++ m.0)) n) same)
      | inr m ↦ inr (m.0, ap (λ k. output (Some k) f) m.1 ∙ ap (λ n. output (Some (u ++ m.0)) n) (sym same))
    ]

-- a count of failures that is not at its end goes up
pub counts_up : (n : ℕ) → n < 2 ^ 64 - 1 → counted true n ≡ n → ⊥
counts_up n small same = omega arith

-- two targets that failed within one text
pub stops_once : (old new new' : Output) (text : List ℕ) → StopsWithin old text new → StopsWithin old text new' → GoesOnFromOther new new'
stops_once old new new' text a b =
    fronts_given old new new' a.sent (a.lost ∷ a.later) b.sent (b.lost ∷ b.later) (a.split ∙ sym b.split) a.given b.given (b.failures ∙ sym a.failures)

pub writes_once : (text : List ℕ) → WritesOnce text
writes_once text old new new' (Ok u) (Ok u') alike a b = (refl, b ∙ sym a)
writes_once text old new new' (Ok u) (Err e) alike a b = absurd (counts_up old.failures alike.0 (sym b.failures ∙ alike.1 ∙ ap (λ o. o.failures) a))
writes_once text old new new' (Err e) (Ok u) alike a b = absurd (counts_up old.failures alike.0 (sym a.failures ∙ sym alike.1 ∙ ap (λ o. o.failures) b))
writes_once text old new new' (Err e) (Err e') alike a b = (refl, stops_once old new new' text a b)

-- ---- bytes that are offered

appended : (old new : Option (List ℕ)) (bytes : List ℕ) → IsSome old → Appends old new bytes → new ≡ append_known old bytes
appended None new bytes known grows = cc
appended (Some t) None bytes known grows = absurd grows
appended (Some t) (Some u) bytes known grows = ap (λ k. Some k) grows

module _ (old new : Output) (bytes : List ℕ) (n : ℕ) (a : Offered old bytes n new) where
  failed_at : n < length bytes → new.failures ≡ counted true old.failures
  failed_at short = a.failures ∙ ap (λ (t : Bool). counted t old.failures) (lt-ltb n (length bytes) short)

  sound_at : length bytes ≤ n → new.failures ≡ old.failures
  sound_at all = a.failures ∙ ap (λ (t : Bool). counted t old.failures) (le-ltb n (length bytes) all)

pub offered_once : BytesAreOfferedOnce
offered_once old new new' bytes n n' known alike a b =
    let here = appended old.given new.given (take n bytes) known a.given in
    let there = appended old.given new'.given (take n' bytes) known b.given in
    elim (cases_lt n (length bytes)) [
      | inl lt ↦ elim (cases_lt n' (length bytes)) [
        | inl lt' ↦ inr (lt, lt', fronts_given old new new' (take n bytes) (drop n bytes) (take n' bytes) (drop n' bytes) (take-append-drop n bytes ∙ sym (take-append-drop n' bytes)) here there alike.1)
        | inr le' ↦ absurd (counts_up old.failures alike.0 (sym (failed_at old new bytes n a lt) ∙ sym alike.1 ∙ sound_at old new' bytes n' b le'))
      ]
      | inr le ↦ elim (cases_lt n' (length bytes)) [
        | inl lt' ↦ absurd (counts_up old.failures alike.0 (sym (failed_at old new' bytes n' b lt') ∙ alike.1 ∙ sound_at old new bytes n a le))
        | inr le' ↦
            let all : n ≡ length bytes = omega (arith, a.bound) in
            let same : n' ≡ n = omega (arith, a.bound, b.bound) in
            let given : new'.given ≡ new.given = there ∙ ap (λ k. append_known old.given (take k bytes)) same ∙ sym here in
            inl (all, same, ap (λ k. output k new'.failures) given ∙ ap (λ k. output new.given k) alike.1)
      ]
    ]

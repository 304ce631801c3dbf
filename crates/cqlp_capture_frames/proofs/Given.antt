-- The types that are given before the first event of a frame.
use Rattle.std.proofs.Common.{◌≡◌, ◌∙◌, ℕ, [], ◌∷◌, List, Bool, true, false, not, ◌&&◌, nat_le, nat_lt, length, if◌then◌else◌, Option, Some, None, is_some, refl, sym, ap, subst, arith}
use Rattle.cqlp_note.specs.declared.refusal.Refusal.{Refusal}
use Rattle.cqlp_note.specs.Limits.{Rules}
use Rattle.cqlp_kind.specs.declared.node.Node.{Node}
use Rattle.cqlp_kind.specs.Types.{types_of}
use Rattle.cqlp_type.specs.Forests.{depth_of}
use Rattle.cqlp_type.specs.Table.{Table}
use Rattle.cqlp_decode.specs.declared.given.GiveReason.{GiveReason}
use Rattle.cqlp_decode.specs.declared.given.GiveReason.TheVariants.{Ended, Off, Busy, Open, TooMany, TooDeep}
use Rattle.cqlp_decode.specs.Reading.{Gives, Place, is_in_use, settled}
use Rattle.cqlp_decode.specs.Progress.{StreamState}
use Rattle.cqlp_decode.specs.Streams.{After, AfterBy, AfterGifts}
use Rattle.cqlp_decode.specs.Giving.{GivesAlso, are_whole, first_reason, once_given, reason_against}
use Rattle.cqlp_capture_frames.specs.Frames.{are_taken, gifts_of, nodes_of, taken}
use Rattle.cqlp_capture_frames.specs.Reading.{IsNew}

-- at the start of a stream no given types are in use
not_in_use : (d : StreamState) → d.refusal ≡ None → After d [] [] → is_in_use d.place.given ≡ false
not_in_use d free a = by d.refusal free a
  where
    by : (o : Option Refusal) → o ≡ None → AfterBy o [] d [] [] → is_in_use d.place.given ≡ false
    by None e s = ap (λ (p : Place). is_in_use p.given) s.here ∙ ap (λ (p : Place). is_in_use (settled p).given) s.read.0
    by (Some r) e s = absurd cc

-- which reasons there are at the start of a stream
abbrev reasons : (types whole many deep : Bool) → Option GiveReason
reasons types whole many deep =
    first_reason ((false, Ended) ∷ (not types, Off) ∷ (false, Busy) ∷ (not whole, Open) ∷ (many, TooMany) ∷ (deep, TooDeep) ∷ [])

taken_if : (types whole many deep : Bool) → reasons types whole many deep ≡ None → (((types && whole) && not many) && not deep) ≡ true
taken_if true true false false e = refl
taken_if false w m d e = absurd cc
taken_if true false m d e = absurd cc
taken_if true true true d e = absurd cc
taken_if true true false true e = absurd cc

not_taken_if : (types whole many deep : Bool) (w : GiveReason) → reasons types whole many deep ≡ Some w → (((types && whole) && not many) && not deep) ≡ false
not_taken_if true true false false w e = absurd cc
not_taken_if false w m d why e = refl
not_taken_if true false m d why e = refl
not_taken_if true true true d why e = refl
not_taken_if true true false true why e = refl

at_most : (a b : ℕ) → nat_le a b ≡ not (nat_lt b a)
at_most a b = grind arith

module _ (d : StreamState) (t : Table) (free : d.refusal ≡ None) (fresh : After d [] []) where
  abbrev many : Bool
  many = nat_lt d.rules.entries (length t.nodes)

  abbrev deep : Bool
  deep = nat_lt d.rules.depth (depth_of (types_of t.nodes))

  reason_is : reason_against d t.nodes ≡ reasons d.rules.types (are_whole t.nodes) many deep
  reason_is = λ i. first_reason ((is_some (free i), Ended) ∷ (not d.rules.types, Off) ∷ (not_in_use d free fresh i, Busy) ∷ (not (are_whole t.nodes), Open) ∷ (many, TooMany) ∷ (deep, TooDeep) ∷ [])

  taken_is : are_taken d.rules t.nodes ≡ (((d.rules.types && are_whole t.nodes) && not many) && not deep)
  taken_is = λ i. ((d.rules.types && are_whole t.nodes) && at_most (length t.nodes) d.rules.entries i) && at_most (depth_of (types_of t.nodes)) d.rules.depth i

  is_taken : reason_against d t.nodes ≡ None → taken d.rules (Some t.nodes) ≡ Some t.nodes
  is_taken e = ap (λ (b : Bool). if b then Some t.nodes else None) (taken_is ∙ taken_if d.rules.types (are_whole t.nodes) many deep (sym reason_is ∙ e))

  is_refused : (w : GiveReason) → reason_against d t.nodes ≡ Some w → taken d.rules (Some t.nodes) ≡ None
  is_refused w e = ap (λ (b : Bool). if b then Some t.nodes else None) (taken_is ∙ not_taken_if d.rules.types (are_whole t.nodes) many deep w (sym reason_is ∙ e))

pub new_with_none : (types : Option (List Node)) (d : StreamState) → taken d.rules types ≡ None → d.refusal ≡ None → d.given ≡ None → After d [] [] → IsNew types d
new_with_none types d none free given after = record {
  free = free;
  given = ap nodes_of given ∙ sym none;
  after = subst (λ (z : Option Table). AfterGifts (gifts_of (nodes_of z)) d [] []) (sym given) after;
}

-- a table was given to a decoder at the start of a stream
pub new_given : (d new : StreamState) (t : Table) → d.refusal ≡ None → d.given ≡ None → After d [] []
    → (reason_against d t.nodes ≡ None → new ≡ once_given d t) → (reason_against d t.nodes ≡ None → GivesAlso (Gives (types_of t.nodes)) d new)
    → ((w : GiveReason) → reason_against d t.nodes ≡ Some w → new ≡ d)
    → IsNew (Some t.nodes) new × (new.rules ≡ d.rules)
new_given d new t free given fresh taking also refusing = by (reason_against d t.nodes) refl
  where
    by : (o : Option GiveReason) → reason_against d t.nodes ≡ o → IsNew (Some t.nodes) new × (new.rules ≡ d.rules)
    by None e =
        let is = taking e in
        let held : new.given ≡ Some t = ap (λ (z : StreamState). z.given) is in
        let same = ap (λ (z : StreamState). z.rules) is in (
          record {
            free = ap (λ (z : StreamState). z.refusal) is ∙ free;
            given = ap nodes_of held ∙ sym (is_taken d t free fresh e) ∙ ap (λ (z : Rules). taken z (Some t.nodes)) (sym same);
            after = subst (λ (z : Option Table). AfterGifts (gifts_of (nodes_of z)) new [] []) (sym held) (also e [] [] [] fresh);
          },
          same,
        )
    by (Some w) e =
        let is = refusing w e in
        subst (λ (z : StreamState). IsNew (Some t.nodes) z × (z.rules ≡ d.rules)) (sym is) (new_with_none (Some t.nodes) d (is_refused d t free fresh w e) free given fresh, refl)

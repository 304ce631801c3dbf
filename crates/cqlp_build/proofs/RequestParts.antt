-- The parameters of queries.
use Rattle.std.proofs.Common.{◌≡◌, ℕ, ℤ, List, [], ◌∷◌, true, false, Bool, ◌&&◌, Option, Some, None, refl, ap}
use Rattle.std.specs.List.{list_all}
use Rattle.cqlp_note.specs.declared.field.Field.TheVariants as field
use Rattle.cqlp_note.specs.Field as note
use Rattle.cqlp_note.specs.Field.{BoundValue}
use Rattle.cqlp_note.specs.Heading.{has}
use Rattle.cqlp_grammar.specs.Events.{Holds}
use Rattle.cqlp_message.specs.Agreement.{there_if, are_named, params_agree}
use Rattle.cqlp_message.specs.FrameValues.{Octets, QueryParams}
use Rattle.cqlp_message.specs.Bodies as body
use Rattle.cqlp_build.specs.declared.held.FrameEvents.{FrameEvents}
use Rattle.cqlp_build.specs.FrameEvents.{Builds, any}
use Rattle.cqlp_build.specs.Emitted.{emitted}
use Rattle.cqlp_build.proofs.Optional.{none_builds, some_builds}
use Rattle.cqlp_build.proofs.Several.{both, join}
use Rattle.cqlp_build.proofs.Steps.{pair_builds, as_builds, emitted_five, ◌then◌}

abbrev Values : Type 0
Values = Option (List (Option Octets × BoundValue))

-- the parts that flags announce
abbrev Announced : Type 0
Announced = (((Values × Option ℤ) × Option (Option Octets)) × Option ℕ) × Option ℤ

abbrev AreAnnounced : (flags : ℕ) → Announced → Type 0
AreAnnounced f r =
    (((((there_if (has f 0x01) r.0.0.0.0 && are_named (has f 0x40) r.0.0.0.0) ≡ true) × (there_if (has f 0x04) r.0.0.0.1 ≡ true))
    × (there_if (has f 0x08) r.0.0.1 ≡ true)) × (there_if (has f 0x10) r.0.1 ≡ true)) × (there_if (has f 0x20) r.1 ≡ true)

all_of : (a b c d e : Bool) → (a && b && c && d && e) ≡ true → ((((a ≡ true) × (b ≡ true)) × (c ≡ true)) × (d ≡ true)) × (e ≡ true)
all_of a b c d e h =
    let p = both (a && b && c && d) e h in
    let q = both (a && b && c) d p.0 in
    let r = both (a && b) c q.0 in
    (((both a b r.0, r.1), q.1), p.1)

all_to : (a b c d e : Bool) → ((((a ≡ true) × (b ≡ true)) × (c ≡ true)) × (d ≡ true)) × (e ≡ true) → (a && b && c && d && e) ≡ true
all_to a b c d e h = join (a && b && c && d) e (join (a && b && c) d (join (a && b) c (join a b h.0.0.0.0 h.0.0.0.1) h.0.0.1) h.0.1) h.1

abbrev params_from : ℕ × (ℕ × Announced) → QueryParams
params_from p = record {
  consistency = p.0;
  flags = p.1.0;
  values = p.1.1.0.0.0.0;
  page_size = p.1.1.0.0.0.1;
  paging = p.1.1.0.0.1;
  serial = p.1.1.0.1;
  timestamp = p.1.1.1;
}

abbrev to_parts : QueryParams → ℕ × (ℕ × Announced)
to_parts q = (q.consistency, (q.flags, ((((q.values, q.page_size), q.paging), q.serial), q.timestamp)))

-- the parameters of a query, part by part
pub params_builds : {consistency flags : ℕ} {values : Values} {size : Option ℤ} {paging : Option (Option Octets)} {serial : Option ℕ} {timestamp : Option ℤ} {a b c d e f g h : FrameEvents}
    → Builds (λ n. Holds field.Consistency (note.Short n) ∷ []) any consistency a b
    → Builds (λ n. Holds field.QueryFlags (note.Byte n) ∷ []) any flags b c
    → Builds (λ o. emitted (body.where_some (body.counted field.Values body.value_parts) o)) (λ o. (there_if (has flags 0x01) o && are_named (has flags 0x40) o) ≡ true) values c d
    → Builds (λ o. emitted (body.where_some (λ z. body.int field.PageSize z ∷ []) o)) (λ o. there_if (has flags 0x04) o ≡ true) size d e
    → Builds (λ o. emitted (body.paging_parts o)) (λ o. there_if (has flags 0x08) o ≡ true) paging e f
    → Builds (λ o. emitted (body.serial_parts o)) (λ o. there_if (has flags 0x10) o ≡ true) serial f g
    → Builds (λ o. emitted (body.timestamp_parts o)) (λ o. there_if (has flags 0x20) o ≡ true) timestamp g h
    → Builds (λ q. emitted (body.params_parts q)) (λ q. params_agree q ≡ true)
    (record { consistency = consistency; flags = flags; values = values; page_size = size; paging = paging; serial = serial; timestamp = timestamp }) a h
params_builds one two three four five six seven =
    as_builds (λ q. emitted (body.params_parts q)) (λ q. params_agree q ≡ true) params_from
    (λ p q. ap (λ es. Holds field.Consistency (note.Short p.0) ∷ Holds field.QueryFlags (note.Byte p.1.0) ∷ es)
    (emitted_five (body.where_some (body.counted field.Values body.value_parts) p.1.1.0.0.0.0) (body.where_some (λ z. body.int field.PageSize z ∷ []) p.1.1.0.0.0.1) (body.paging_parts p.1.1.0.0.1) (body.serial_parts p.1.1.0.1) (body.timestamp_parts p.1.1.1)))
    (λ p q. all_to _ _ _ _ _ q.1.1)
    (λ q e. (to_parts q, (refl, (refl, all_of _ _ _ _ _ e)), refl))
    (pair_builds (λ n r. (true ≡ true) × AreAnnounced r.0 r.1) one (pair_builds AreAnnounced two (three then four then five then six then seven)))

-- ---- values of queries

pub values_there : (there named : Bool) → there ≡ true → {vs : List (Option Octets × BoundValue)} {a b : FrameEvents}
    → Builds (λ vs. emitted (body.counted field.Values body.value_parts vs)) (λ vs. list_all (λ v. there_if named v.0) vs ≡ true) vs a b
    → Builds (λ o. emitted (body.where_some (body.counted field.Values body.value_parts) o)) (λ o. (there_if there o && are_named named o) ≡ true) (Some vs) a b
values_there true named e one = some_builds (body.counted field.Values body.value_parts) (λ o. (there_if true o && are_named named o) ≡ true) (λ x p. p) (λ x q. q) (λ q. absurd cc) one
values_there false named e one = absurd cc

pub values_not : (there named : Bool) → there ≡ false → (old : FrameEvents)
    → Builds (λ o. emitted (body.where_some (body.counted field.Values body.value_parts) o)) (λ o. (there_if there o && are_named named o) ≡ true) None old old
values_not false named e old = none_builds (body.counted field.Values body.value_parts) (λ o. (there_if false o && are_named named o) ≡ true) refl (λ x q. absurd cc) old
values_not true named e old = absurd cc

-- Members, one after the other.
use Rattle.std.proofs.Common.{◌≡◌, ℕ, suc, ◌+◌, ◌<◌, List, ◌++◌, length, drop, get_or, add-one, append_assoc, refl}
use Rattle.std.proofs.Math.Seq.{drop-cons}
use Rattle.std.specs.List.{flat_map}
use Rattle.cqlp_capture_exchanges.specs.declared.member.Member.{Member}
use Rattle.cqlp_capture_exchanges.specs.declared.losses.Reason.{Reason}
use Rattle.cqlp_capture_exchanges.specs.Losses.{reason_text}
use Rattle.cqlp_capture_exchanges.specs.Members.{member_text, value_text}

assoc : (xs ys zs : List ℕ) → (xs ++ ys) ++ zs ≡ xs ++ (ys ++ zs)
assoc xs ys zs = append_assoc xs ys zs

-- the next one, and those after it
pub members_at : (members : List Member) (i : ℕ) (none : Member) → i < length members → flat_map member_text (drop i members) ≡ (get_or members i none).0.now ++ (value_text (get_or members i none).1 ++ flat_map member_text (drop (i + 1) members))
members_at members i none within =
    rw (drop-cons members i none within, add-one) (assoc (get_or members i none).0.now (value_text (get_or members i none).1) (flat_map member_text (drop (suc i) members)))

pub reasons_at : (reasons : List Reason) (i : ℕ) (none : Reason) → i < length reasons → flat_map reason_text (drop i reasons) ≡ reason_text (get_or reasons i none) ++ flat_map reason_text (drop (i + 1) reasons)
reasons_at reasons i none within = rw (drop-cons reasons i none within, add-one) refl

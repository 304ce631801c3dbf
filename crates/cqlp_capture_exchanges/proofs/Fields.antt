-- Fields of CSV, one after the other.
use Rattle.std.proofs.Common.{◌≡◌, ℕ, suc, ◌+◌, ◌<◌, List, ◌++◌, codes, length, drop, get_or, add-one, append_assoc}
use Rattle.std.proofs.Math.Seq.{drop-cons}
use Rattle.std.specs.List.{flat_map}
use Rattle.cqlp_capture_exchanges.specs.declared.member.Value.{Value}
use Rattle.cqlp_capture_exchanges.specs.CsvFields.{field_text, value_field}

-- the next one, and those after it
pub fields_at : (values : List Value) (i : ℕ) (none : Value) → i < length values → flat_map value_field (drop i values) ≡ codes "," ++ (field_text (get_or values i none) ++ flat_map value_field (drop (i + 1) values))
fields_at values i none within =
    rw (drop-cons values i none within, add-one) (append_assoc (codes ",") (field_text (get_or values i none)) (flat_map value_field (drop (suc i) values)))

-- Cells with their texts.
use Rattle.std.proofs.Common.{◌≡◌, ◌+◌, ◌-◌, ◌^◌, [], ◌∷◌, codes, refl}
use Rattle.std.proofs.Common.{pos, negsuc}
use Rattle.std.specs.Fmt.{digits}
use Rattle.cqlp_text.specs.CellText.{cell_text, year_of, month_of}
use Rattle.cqlp_kind.specs.Scalars as scalar

negative_varint : cell_text (scalar.Varint (0xFF ∷ 0x7F ∷ [])) ≡ codes "-129"
unfolding digits
negative_varint = refl

long_form_of_varint : cell_text (scalar.Varint (0 ∷ 0 ∷ 1 ∷ [])) ≡ codes "1"
unfolding digits
long_form_of_varint = refl

decimal_with_scale : cell_text (scalar.Decimal (pos 2) (0 ∷ 0x80 ∷ [])) ≡ codes "128e-2"
unfolding digits
decimal_with_scale = refl

decimal_with_least_scale : cell_text (scalar.Decimal (negsuc 2147483647) (0 ∷ 0x80 ∷ [])) ≡ codes "128e2147483648"
unfolding digits
decimal_with_least_scale = refl

last_time : cell_text (scalar.Time (pos 86399999999999)) ≡ codes "23:59:59.999999999"
last_time = refl

epoch : cell_text (scalar.Date (2 ^ 31)) ≡ codes "1970-01-01"
unfolding year_of month_of
epoch = refl

year_2000 : cell_text (scalar.Date 0x80002ACD) ≡ codes "2000-01-01"
unfolding year_of month_of
year_2000 = refl

first_of_all_days : cell_text (scalar.Date 0) ≡ codes "day -2147483648"
unfolding digits
first_of_all_days = refl

first_civil_day : cell_text (scalar.Date (2 ^ 31 - 719528)) ≡ codes "0000-01-01"
unfolding year_of month_of
first_civil_day = refl

last_civil_day : cell_text (scalar.Date (2 ^ 31 + 2932896)) ≡ codes "9999-12-31"
unfolding year_of month_of
last_civil_day = refl

use Rattle.std.proofs.Common.{rules, SFits, w32, w64}
use Rattle.std.proofs.lemmas.Int.{to_z-of_z}
use Rattle.cqlp_json.proofs.line.put_event.Goals as goal

pub returns-in-Byte : goal.returns-in-Byte
returns-in-Byte g c = rw c.in-Byte.is (rw (c.number.ensures, c.from.ensures) at c.put_field.ensures)

pub returns-in-Short : goal.returns-in-Short
returns-in-Short g c = rw c.in-Short.is (rw (c.number-in-Short.ensures, c.from-in-Short.ensures) at c.put_field-in-Short.ensures)

pub returns-in-Int : goal.returns-in-Int
returns-in-Int g c =
    let fits : SFits w32 c.in-Int.value = search rules in
    let value = rw (to_z-of_z w32 c.in-Int.value fits) at c.int.ensures in
    rw c.in-Int.is (rw value at c.put_field-in-Int.ensures)

pub returns-in-Long : goal.returns-in-Long
returns-in-Long g c =
    let fits : SFits w64 c.in-Long.value = search rules in
    let value = rw (to_z-of_z w64 c.in-Long.value fits) at c.bigint.ensures in
    rw c.in-Long.is (rw value at c.put_field-in-Long.ensures)

pub returns-in-Uuid : goal.returns-in-Uuid
returns-in-Uuid g c = rw c.in-Uuid.is c.put_field-in-Uuid.ensures

pub returns-in-Count : goal.returns-in-Count
returns-in-Count g c = rw c.in-Count.is (rw c.number-in-Count.ensures at c.put_field-in-Count.ensures)

pub returns-in-Text : goal.returns-in-Text
returns-in-Text g c = rw c.in-Text.is c.put_field-in-Text.ensures

pub returns-in-Null : goal.returns-in-Null
returns-in-Null g c = rw c.in-Null.is c.put_place.ensures

pub returns-in-Empty : goal.returns-in-Empty
returns-in-Empty g c = rw c.in-Empty.is c.put_place-in-Empty.ensures

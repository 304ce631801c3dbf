use Rattle.std.proofs.Common.{◌≡◌, ℕ, take, sym, ap, ◌∙◌, inl, inr}
use Rattle.std.specs.Int.{w32, from_be_bytes}
use Rattle.cqlp_note.specs.Partial.{bare_value}
use Rattle.cqlp_note.proofs.Wholes.{IsLong, known_never, no_plain, value_never}
use Rattle.cqlp_note.proofs.whole.plain_value.Goals as goal

pub returns-in-Some-read_natural : goal.returns-in-Some-read_natural
returns-in-Some-read_natural c = rw c.in-Bytes32.is (known_never c.args.input.now c.in-Some-read_natural.field-0 c.in-Some-read_natural.ensures)

pub returns-in-Text16 : goal.returns-in-Text16
returns-in-Text16 c =
    let long : IsLong c.args.notation = elim c.in-Text16.is [
      | inl text ↦ rw text tt
      | inr others ↦ elim others [
        | inl text ↦ rw text tt
        | inr others ↦ elim others [
          | inl bytes ↦ rw bytes tt
          | inr others ↦ elim others [
            | inl inet ↦ rw inet tt
            | inr content ↦ rw content.1 tt
          ]
        ]
      ]
    ] in
    no_plain c.args.notation c.args.input.now long

pub returns-in-None-bare_value : goal.returns-in-None-bare_value
returns-in-None-bare_value c =
    let input = c.args.input.now in
    let number : c.from_be_bytes-in-Bound.result ≡ from_be_bytes w32 (take 4 input) = rw c.read_array-in-Bound.ensures at c.from_be_bytes-in-Bound.ensures in
    rw c.in-Bound.is (value_never input (ap (λ (n : ℕ). bare_value n) (sym number) ∙ sym c.in-None-bare_value.ensures))

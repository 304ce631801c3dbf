-- Bytes that are written behind others in a vector that has places for them.
use Rattle.std.proofs.Common.{◌≡◌, ℕ, ◌+◌, ◌≤◌, List, ◌++◌, length, take, drop, sym, ap, ◌∙◌, append_assoc, arith}
use Rattle.std.proofs.lemmas.List.{take-take, take-append-le, length-append, length-take-le}
use Rattle.std.proofs.Math.Seq.{take-append-add}

-- the first bytes, and n of those written behind them, where `before` were the bytes and `items` are those with their zeros
pub taken_behind : (before items piece rest more : List ℕ) (total start n : ℕ) → start ≤ length before → take (length before) items ≡ before → start ≤ length items → start + n ≤ total → n ≤ length piece
    → take (start + n) (take total ((take start items ++ (piece ++ rest)) ++ more)) ≡ take start before ++ take n piece
taken_behind before items piece rest more total start n within kept fits all bound =
    let front : take start items ≡ take start before = sym (take-take start (length before) items within) ∙ ap (λ (z : List ℕ). take start z) kept in
    let size : length (take start items) ≡ start = length-take-le start items fits in
    let whole : (take start items ++ (piece ++ rest)) ++ more ≡ take start items ++ ((piece ++ rest) ++ more) = append_assoc (take start items) (piece ++ rest) more in
    let behind : take n ((piece ++ rest) ++ more) ≡ take n piece = take-append-le n (piece ++ rest) more (omega (arith, length-append piece rest)) ∙ take-append-le n piece rest bound in
    let joined : take (length (take start items) + n) (take start items ++ ((piece ++ rest) ++ more)) ≡ take start items ++ take n ((piece ++ rest) ++ more) = take-append-add (take start items) ((piece ++ rest) ++ more) n in
    take-take (start + n) total _ all ∙ ap (λ (z : List ℕ). take (start + n) z) whole ∙ rw size at joined ∙ (λ j. front j ++ behind j)

-- In how many calls bytes are written.
use Rattle.std.proofs.Common.{◌≡◌, ◌==◌, ◌&&◌, ◌≤◌, ◌<◌, ◌+◌, ◌-◌, ℕ, Bool, true, false, nat_lt, refl, ap, subst, arith}
use Rattle.std.proofs.lemmas.Bool.Decides.{nat_tests}
use Rattle.std.specs.Prelude.{Some, Result, Ok, Err, ⊤}
use Rattle.cqlp_note.specs.Streams.{counted}
use Rattle.cqlp_encode.specs.declared.page_writer.PageError.{PageError}
use Rattle.cqlp_encode.specs.declared.page_writer.PageError.TheVariants as error
use Rattle.cqlp_encode.specs.PagePlaces.{IsTaken}
use Rattle.cqlp_encode.specs.PageWriting.{PageState}
use Rattle.cqlp_encode.specs.Progress.{FewCalls}

one_of : (b : Bool) (n old new : ℕ) → (b ≡ true → 0 < n) → new ≡ counted b old → FewCalls n old new
one_of true n old new some is = record { some = omega (arith, some refl, is); few = omega (arith, is) }
one_of false n old new some is = record { some = omega (arith, is); few = omega (arith, is) }

some_taken : (n len : ℕ) → (nat_lt 0 len && (n == len)) ≡ true → 0 < n
some_taken n len all = grind (arith, nat_tests)

-- one call, of bytes that are there
pub one_call : (len n old new : ℕ) → new ≡ counted (nat_lt 0 len && (n == len)) old → FewCalls n old new
one_call len n old new is = one_of (nat_lt 0 len && (n == len)) n old new (some_taken n len) is

counted_most : (b : Bool) (n : ℕ) → counted b n ≤ n + 1
counted_most true n = omega arith
counted_most false n = omega arith

-- one call of four bytes, and another one
pub two_calls : (n old mid new : ℕ) (b b' : Bool) → mid ≡ counted b old → new ≡ counted b' mid → FewCalls (4 + n) old new
two_calls n old mid new b b' first second = record {
  some = omega (arith, first, second, counted_most b old, counted_most b' mid);
  few = omega (arith, first, second, counted_most b old, counted_most b' mid);
}

pub no_call : (n calls : ℕ) → FewCalls n calls calls
no_call n calls = record { some = omega arith; few = omega arith }

pub as_many : (n m old new : ℕ) → n ≡ m → FewCalls n old new → FewCalls m old new
as_many n m old new same few = subst (λ (k : ℕ). FewCalls k old new) same few

pub from_none : (n old new : ℕ) → FewCalls (n - 0) old new → FewCalls n old new
from_none n old new few = as_many (n - 0) n old new (omega arith) few

pub from_first : (n before old new : ℕ) → before ≡ 0 → FewCalls n old new → FewCalls (n - before) old new
from_first n before old new none few = as_many n (n - before) old new (omega (arith, none)) few

-- a cell of which a target took no more bytes than it has
pub taken_calls : (p q : PageState) (size taken old new : ℕ) (r : Result ⊤ PageError) → taken ≤ size → IsTaken p size taken r q → FewCalls taken old new → FewCalls (q.written - p.written) old new
taken_calls p q size taken old new (Ok u) most is few = as_many taken (q.written - p.written) old new (omega (arith, ap (λ (s : PageState). s.written) is.1, is.0, most)) few
taken_calls p q size taken old new (Err (error.Write k)) most is few = as_many taken (q.written - p.written) old new (omega (arith, ap (λ (s : PageState). s.written) is.2, is.1)) few
taken_calls p q size taken old new (Err e) most is few = absurd is

pub same_number : (n m : ℕ) → Some n ≡ Some m → n ≡ m
same_number n m e = cc

-- the rest of a cell
pub rest_calls : (p : PageState) (written size taken cut old new : ℕ) → cut ≡ p.cut → p.cut ≤ p.written → cut < size → size ≤ taken → taken ≤ size → written ≡ (p.written - p.cut) + size → FewCalls (taken - cut) old new → FewCalls (written - p.written) old new
rest_calls p written size taken cut old new same within less all most is few = as_many (taken - cut) (written - p.written) old new (omega (arith, same, within, less, all, most, is)) few

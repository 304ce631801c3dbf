-- How many bytes of room the reads of a run have, 4,096 each.
use Rattle.std.proofs.Common.{◌≡◌, ℕ, ◌+◌, ◌*◌, arith}
use Rattle.cqlp_note.specs.Streams.{counted_up, CountsUp}

-- no read
pub asks_none : (k was : ℕ) → k ≡ 0 → CountsUp (4096 * (0 + k)) was was
asks_none k was zero = λ fits. omega (arith, zero)

-- one read more
pub asks_one : (n k was mid new len : ℕ) → k ≡ 1 → len ≡ 4096 → CountsUp (4096 * n) was mid → new ≡ counted_up len mid → CountsUp (4096 * (n + k)) was new
asks_one n k was mid new len one long before is = λ fits. let a = before (omega arith) in omega arith

-- the reads of one run, and those of the next
pub asks_then : (m n k a b c : ℕ) → CountsUp (4096 * (m + 0)) a b → CountsUp (4096 * (n + k)) b c → CountsUp (4096 * ((m + n) + k)) a c
asks_then m n k a b c before after = λ fits. let x = before (omega arith) in let y = after (omega arith) in omega arith

-- no read more
pub asks_still : (n k was mid : ℕ) → k ≡ 0 → CountsUp (4096 * n) was mid → CountsUp (4096 * (n + k)) was mid
asks_still n k was mid zero before = λ fits. let a = before (omega arith) in omega arith

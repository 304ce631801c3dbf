-- Times in nanoseconds, in 1,920 buckets: each time below 64 has its own, and from there on each power of two has 32 of the same width.
use Rattle.std.specs.Prelude.{ℕ, ◌+◌, ◌-◌, ◌*◌, ◌/◌, ◌^◌}
use Rattle.std.specs.Int.{w64, leading_zeros}

-- how many binary digits of a time are passed over
abbrev pub dropped : (time : ℕ) → ℕ
dropped time = 58 - leading_zeros w64 time

abbrev pub bucket_of : (time : ℕ) → ℕ
bucket_of time = 32 * dropped time + time / 2 ^ dropped time

-- the binary digits that the times of a bucket differ in
abbrev pub digits_in : (bucket : ℕ) → ℕ
digits_in bucket = bucket / 32 - 1

-- the least and the greatest time in a bucket
abbrev pub least_in : (bucket : ℕ) → ℕ
least_in bucket = (bucket - 32 * digits_in bucket) * 2 ^ digits_in bucket

abbrev pub greatest_in : (bucket : ℕ) → ℕ
greatest_in bucket = least_in bucket + (2 ^ digits_in bucket - 1)

-- Where the message proper begins in a body, and what an observer keeps of it.
use Rattle.std.specs.Prelude.{◌≡◌, ℕ, ◌<◌, true, List, [], ◌++◌, length, take, drop, Option, Some, None, if◌then◌else◌}
use Rattle.cqlp_note.specs.declared.header.Header.{Header}
use Rattle.cqlp_observer_facts.specs.declared.reader.FactsReader.{FactsReader}
use Rattle.cqlp_observer_facts.specs.Reading.{before, begun, read}
use Rattle.cqlp_observer.specs.Keeping.{announces_warnings}
use Rattle.cqlp_observer.specs.Passing.{Passing, begun_with, passing, read_on}

-- Once a byte does not lie before the message proper, none does that follows: those before it are the first ones.
abbrev pub FrontComesLast : Type 0
FrontComesLast = (xs ys : List ℕ) (s : FactsReader) → before xs s < length xs → before ys (read xs s) ≡ 0

-- of so many bytes of a body the first 256 that lie behind what its header's flags announce
abbrev pub front_of : Header → List ℕ → List ℕ
front_of h b = take 256 (drop (before b (begun h)) b)

-- and, where warnings are among that, the first 256 of that
abbrev pub announced_of : Header → List ℕ → Option (List ℕ)
announced_of h b = if announces_warnings h then Some (take 256 (take (before b (begun h)) b)) else None

-- both are kept of it, and its facts are those of these bytes
abbrev pub kept_of : Header → List ℕ → Passing
kept_of h b = passing (front_of h b) (announced_of h b) (read b (begun h)) true

-- So it is in whatever pieces a body comes, one or many.
abbrev pub FrontsAreKept : Type 0
FrontsAreKept =
    (h : Header)
    → (begun_with h ≡ kept_of h [])
    × ((b : List ℕ) → read_on b (begun_with h) ≡ kept_of h b)
    × ((b c : List ℕ) → read_on c (kept_of h b) ≡ kept_of h (b ++ c))

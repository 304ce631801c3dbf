-- For each port, how many segments had it.
use Rattle.std.specs.Prelude.{ℕ, zero, suc, ◌==◌, List, [], ◌∷◌, length, replicate, slice_index, nat_lt, if◌then◌else◌}
use Rattle.std.specs.List.{slice_set}
use Rattle.cqlp_tcp_segment.specs.declared.segments.SegmentHead.{SegmentHead}
use Rattle.cqlp_tcp_connections.specs.declared.ports.Three.{Three}
use Rattle.cqlp_tcp_connections.specs.Totals.{counted}

-- No segment had any.
unfoldable pub no_ports : List ℕ
no_ports = replicate 65536 0

-- one more had this port
abbrev pub one_had : (port : ℕ) → List ℕ → List ℕ
one_had port ns = slice_set ns port (counted (slice_index ns port) 1)

-- A segment has both its ports, or one that is both.
abbrev pub passed_by : SegmentHead → List ℕ → List ℕ
passed_by h ns =
    if h.source.port == h.destination.port then one_had h.source.port ns
    else one_had h.destination.port (one_had h.source.port ns)

-- ---- the busiest

-- A port goes before those that fewer segments had, of which the last falls out.
abbrev pub three : (first second third : ℕ × ℕ) → Three
three a b c = record { first = a; second = b; third = c }

abbrev pub placed : ℕ × ℕ → Three → Three
placed p t =
    if nat_lt t.first.1 p.1 then three p t.first t.second
    else if nat_lt t.second.1 p.1 then three t.first p t.second
    else if nat_lt t.third.1 p.1 then three t.first t.second p
    else t

-- the three of the first so many ports that most segments had, and how many; 0 with 0, where there are fewer
abbrev pub busiest_of : (many : ℕ) → List ℕ → Three
busiest_of zero ns = three (0, 0) (0, 0) (0, 0)
busiest_of (suc port) ns = placed (port, slice_index ns port) (busiest_of port ns)

abbrev pub listed : Three → List (ℕ × ℕ)
listed t = t.first ∷ t.second ∷ t.third ∷ []

abbrev pub busiest : List ℕ → List (ℕ × ℕ)
busiest ns = listed (busiest_of (length ns) ns)

-- Requests that are counted under the fingerprints of their names.
use Rattle.std.specs.Prelude.{ℕ, Bool, List}
use Rattle.cqlp_capture_summary.specs.Counts.{Entry, Request}
use Rattle.cqlp_capture_summary.specs.Fingerprints.{fingerprint_of}
use Rattle.cqlp_capture_summary.specs.Names.{Name, name_of}
use Rattle.cqlp_capture_summary.specs.Summaries.{Summary, noted_request}

abbrev pub fingerprint_name : List ℕ → (is_whole : Bool) → Name
fingerprint_name bytes is_whole = name_of (fingerprint_of bytes is_whole).bytes (fingerprint_of bytes is_whole).is_whole

abbrev pub fingerprint_of_name : Name → Name
fingerprint_of_name n = fingerprint_name n.bytes n.is_whole

abbrev pub entry_by_fingerprint : Entry → Entry
entry_by_fingerprint e = record {
  name = (fingerprint_of e.name e.is_whole_name).bytes;
  is_whole_name = (fingerprint_of e.name e.is_whole_name).is_whole;
  is_error = e.is_error;
  rows = e.rows;
  bytes = e.bytes;
  took = e.took;
}

abbrev pub by_fingerprint : Request → Request
by_fingerprint r = record { entry = entry_by_fingerprint r.entry; is_answered = r.is_answered; at = r.at }

abbrev pub noted_by_fingerprint : Request → Summary → Summary
noted_by_fingerprint r s = noted_request (by_fingerprint r) s

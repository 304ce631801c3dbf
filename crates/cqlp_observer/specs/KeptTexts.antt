-- What is kept of a message, in a box if there is room for it.
use Rattle.std.specs.Prelude.{Box, Option, Some, None, false}
use Rattle.cqlp_observer.specs.declared.kept.KeptText.{KeptText}
use Rattle.cqlp_observer.specs.Announcements.{announced_of}
use Rattle.cqlp_observer.specs.Keeping.{Kept, bare_kept, kept}

abbrev pub kept_of : {A B : Type 0} → Option (Box (KeptText A) B) → Kept
kept_of None = bare_kept
kept_of (Some text) = kept text.value.front (announced_of text.value.announced) text.value.facts false

use Rattle.std.proofs.Common.{List}
use Rattle.cqlp_note.specs.declared.header.Header.{Header}
use Rattle.cqlp_loop.specs.Inboxes.{Hears, awaiting, supply}
use Rattle.cqlp_loop.proofs.inbox.Inbox.pull.Given as goal

-- what was read leads no further than to the wait
abbrev pub invariant-reads : goal.invariant-reads
invariant-reads g l = record {
  heard : (hs : List Header) → Hears l.fn.self (supply g.R.Source l.fn.source) l.self (supply g.R.Source l.source) (awaiting l.edge hs) (awaiting l.edge hs);
}

abbrev pub decreases-reads : goal.decreases-reads
decreases-reads g l = l.self.reads

-- What the program prints and reports of a conversation.
use Rattle.std.specs.Prelude.{◌≡◌, ℕ, Result, Ok, Err, IsSome, ◌⊎◌}
use Rattle.cqlp_text.specs.declared.ending.Ending.{Ending}
use Rattle.cqlp_text.specs.declared.ending.Ending.TheVariants as ending
use Rattle.cqlp_text.specs.Outputs.{Output}
use Rattle.cqlp_loop.specs.declared.fault.LoopFault.{LoopFault}
use Rattle.cqlp_loop.specs.declared.fault.LoopFault.TheVariants as fault
use Rattle.cqlp_loop.specs.Inboxes.{Supply}
use Rattle.cqlp_loop.specs.Script.{Converses}
use Rattle.cqlp_render.specs.Showing.{Concludes}

-- how the command ends where a conversation ends early
abbrev pub ending_of : LoopFault → Ending
ending_of fault.BadReply = ending.BadReply
ending_of fault.TooManyTurns = ending.TooManyTurns
ending_of fault.SocketFault = ending.SocketFault
ending_of fault.NoMemory = ending.NoMemory
ending_of fault.WriteFault = ending.WriteFault

-- What came of a conversation with this many queries: there was no connection, and nothing was printed; or what was
-- printed is what is printed of some bytes that the client's end of a connection gave.
abbrev pub ConversesWithItself : (queries : ℕ) → (out : Output) → Result (Unit {0}) LoopFault → (out' : Output) → Type 0
ConversesWithItself queries out r out' =
    ((r ≡ Err fault.SocketFault) × (out' ≡ out))
    ⊎ ((from : Supply) × (left : Supply) × Converses queries from out r left out')

-- A conversation that came to its end has the status of what is done, and of it nothing is reported; of one that ended
-- early the fault line was written.
abbrev pub Reports : Result (Unit {0}) LoopFault → (err : Output) → (status : ℕ) → (err' : Output) → Type 0
Reports (Ok u) err status err' = (status ≡ 0) × (err' ≡ err)
Reports (Err e) err status err' = Concludes (ending_of e) err status err'

-- A conversation was had, and how it ended was reported.
abbrev pub ConversesAndReports : (queries : ℕ) → (out err : Output) → (status : ℕ) → (out' err' : Output) → Type 0
ConversesAndReports queries out err status out' err' =
    (r : Result (Unit {0}) LoopFault) × ConversesWithItself queries out r out'
    × (IsSome err.given → Reports r err status err')

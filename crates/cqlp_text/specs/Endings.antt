-- How a command ends: its line and its exit status.
use Rattle.std.specs.Prelude.{ℕ, ◌≤◌, ◌≢◌, List, [], ◌∷◌, ◌++◌, codes, decimal}
use Rattle.cqlp_grammar.specs.declared.event.Finish.{Finish}
use Rattle.cqlp_grammar.specs.declared.event.Finish.TheVariants as finish
use Rattle.cqlp_text.specs.declared.ending.Ending.{Ending}
use Rattle.cqlp_text.specs.declared.ending.Ending.TheVariants as ending
use Rattle.cqlp_text.specs.Lines.{spaced}
use Rattle.cqlp_text.specs.Names.{reason_name}
use Rattle.cqlp_text.specs.Text.{in_one_line}

abbrev pub verdict : Finish → List ℕ
verdict (finish.Whole bytes) = codes "whole" ++ spaced (decimal bytes ∷ [])
verdict (finish.Cut frame_at bytes) = codes "cut" ++ spaced (decimal frame_at ∷ decimal bytes ∷ [])
verdict (finish.Refused r) = codes "refused" ++ spaced (decimal r.at ∷ reason_name r.why ∷ [])

abbrev pub ending_text : Ending → List ℕ
ending_text (ending.Finished f) = verdict f
ending_text ending.ReadFault = codes "cqlp: read fault"
ending_text ending.WriteFault = codes "cqlp: write fault"
ending_text ending.NoMemory = codes "cqlp: no memory"
ending_text ending.TooManyTurns = codes "cqlp: too many turns"
ending_text ending.BadReply = codes "cqlp: bad reply"
ending_text ending.SocketFault = codes "cqlp: socket fault"

abbrev pub ending_line : Ending → List ℕ
ending_line e = ending_text e ++ codes "\n"

-- the line of a file that cannot be opened
abbrev pub cannot_open_line : (file : List ℕ) → List ℕ
cannot_open_line file = codes "cqlp: cannot open" ++ spaced (in_one_line file ∷ []) ++ codes "\n"

-- the exit status: 0 of a whole stream, 1 of one that is cut or refused
abbrev pub finish_status : Finish → ℕ
finish_status (finish.Whole bytes) = 0
finish_status (finish.Cut frame_at bytes) = 1
finish_status (finish.Refused r) = 1

-- and 1 of a refused message of a conversation, 3 of all that failed
abbrev pub status_of : Ending → ℕ
status_of (ending.Finished f) = finish_status f
status_of ending.ReadFault = 3
status_of ending.WriteFault = 3
status_of ending.NoMemory = 3
status_of ending.TooManyTurns = 3
status_of ending.BadReply = 1
status_of ending.SocketFault = 3

-- what a status can be where a task was begun: not that of a bad command line, which is 2
abbrev pub IsStatusOfTask : (status : ℕ) → Type 0
IsStatusOfTask status = (status ≤ 3) × (status ≢ 2)

use Rattle.cqlp_text.proofs.ending.TextWriter+LinePen+W.put_ending.Goals as goal

pub returns-in-WriteFault-clause-line : goal.returns-in-WriteFault-clause-line
returns-in-WriteFault-clause-line g c = rw c.in-WriteFault.is c.put_line-in-WriteFault.ensures.line

pub returns-in-NoMemory-clause-line : goal.returns-in-NoMemory-clause-line
returns-in-NoMemory-clause-line g c = rw c.in-NoMemory.is c.put_line-in-NoMemory.ensures.line

pub returns-in-TooManyTurns-clause-line : goal.returns-in-TooManyTurns-clause-line
returns-in-TooManyTurns-clause-line g c = rw c.in-TooManyTurns.is c.put_line-in-TooManyTurns.ensures.line

pub returns-in-BadReply-clause-line : goal.returns-in-BadReply-clause-line
returns-in-BadReply-clause-line g c = rw c.in-BadReply.is c.put_line-in-BadReply.ensures.line

pub returns-in-SocketFault-clause-line : goal.returns-in-SocketFault-clause-line
returns-in-SocketFault-clause-line g c = rw c.in-SocketFault.is c.put_line-in-SocketFault.ensures.line

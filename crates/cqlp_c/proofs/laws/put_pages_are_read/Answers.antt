use Rattle.cqlp_c.proofs.PagesWritten.{put_pages_are_read}
use Rattle.cqlp_c.proofs.laws.put_pages_are_read.Goals as goal

pub returns : goal.returns
returns c = λ cs contents before after size was written p q calls begins puts whole. put_pages_are_read cs contents before after size was written p q calls begins puts whole

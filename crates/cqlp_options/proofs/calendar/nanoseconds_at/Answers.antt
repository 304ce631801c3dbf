use Rattle.std.proofs.lemmas.List.{take_rest}
use Rattle.cqlp_options.proofs.calendar.nanoseconds_at.Goals as goal

pub returns : goal.returns
returns c =
    record {
      date = c.in_ok-date.date;
      days = c.in_ok-days.days;
      seconds = c.in_ok-seconds.seconds;
      places = c.in_ok-places.places.now;
      date_is = c.in_ok-date.ensures;
      days_are = c.in_ok-days.ensures.is;
      clock = rw (← take_rest c.args.text.now 10) c.in_ok-seconds.ensures.is;
      behind = rw (← take_rest c.args.text.now 19) c.in_ok-places.ensures;
      nanoseconds_are = c.in_ok-nanoseconds.ensures;
    }

use Rattle.std.proofs.Common.{rules}
use Rattle.cqlp_options.proofs.calendar.date_in.Goals as goal

pub returns : goal.returns
returns c =
    record {
      century = c.in_ok-century.century;
      years = c.in_ok-years.years;
      month = c.in_ok-month.month;
      day = c.in_ok-day.day;
      has_century = c.in_ok-century.ensures.is;
      has_years = c.in_ok-years.ensures.is;
      has_month = c.in_ok-month.ensures.is;
      has_day = c.in_ok-day.ensures.is;
      first_mark = search rules;
      second_mark = search rules;
      is_of = search rules;
    }

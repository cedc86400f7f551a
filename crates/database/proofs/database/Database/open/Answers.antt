use Rattle.database.proofs.Names.{refl, ap, ends_answered, ends_failed, calls_answered, calls_failed}
use Rattle.database.proofs.database.Database.open.Goals as goal

pub returns-in-Ok-clause-opened : goal.returns-in-Ok-clause-opened
returns-in-Ok-clause-opened g c =
    let said = c.in-Ok.ensures in
    record {
      is_open = (refl, refl);
      pool_is = said.pool;
      calls = calls_answered said.calls;
      stops = tt;
      refuses = said.refuses;
      ends = λ honest sizes table commits stands. ends_answered (said.ends honest sizes table commits stands);
      stands = λ honest quiet sizes s opens. let both = said.opens honest sizes s opens in record {
        is_open = refl;
        going = said.going;
        fits = both.0;
        quiet = said.calls.stays_quiet honest quiet;
        sizes = both.1;
      };
    }

pub returns-in-Err-clause-unopened : goal.returns-in-Err-clause-unopened
returns-in-Err-clause-unopened g c =
    let said = c.in-Err.ensures in
    record {
      is_open = tt;
      pool_is = tt;
      calls = calls_failed said.calls;
      stops = said.stops;
      refuses = λ none. let refused = said.refuses none in (refused.0, ap g.S.Site.state refused.1);
      ends = λ honest sizes table commits stands. ends_failed (said.ends honest sizes table commits stands);
      stands = λ honest quiet sizes s opens. tt;
    }

use Rattle.listing.proofs.Ways.{digits_ways}
use Rattle.listing.proofs.+put_digits.Goals as goal

pub returns-then-left-eq0 : goal.returns-then-left-eq0
returns-then-left-eq0 t c = search digits_ways

pub returns-then-n-lt10 : goal.returns-then-n-lt10
returns-then-n-lt10 t c = search digits_ways

pub returns : goal.returns
returns t c = search digits_ways

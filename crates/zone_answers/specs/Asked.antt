-- What the code's request shows.
use Rattle.zone_answers.specs.Requests.{Request, at, local}
use Rattle.zone_answers.specs.declared.request.Request as code
use Rattle.zone_answers.specs.declared.request.Request.TheVariants as request

abbrev pub asked : code.Request → Request
asked (request.At name nanoseconds) = at name.now nanoseconds
asked (request.Local name time) = local name.now time

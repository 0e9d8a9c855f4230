use Rattle.clock_json.proofs.PlainLaws.{stops_mask}
use Rattle.clock_json.proofs.words.stops.Goals as goal

pub returns : goal.returns
returns c = stops_mask c.args.bytes c.fits-bytes.0

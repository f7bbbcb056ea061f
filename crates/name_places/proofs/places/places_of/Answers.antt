use Rattle.name_places.specs.Places.{keyed}
use Rattle.name_places.proofs.WordNumbers.{by_words}
use Rattle.name_places.proofs.places.places_of.Goals as goal

pub returns : goal.returns
returns c = by_words keyed c.args.rows.now c.in_ok-words.words c.in_ok-words.ensures c.in_ok-places.places c.in_ok-places.ensures

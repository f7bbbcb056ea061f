use Rattle.meaning_laws.proofs.VariantRows.{from_variant}
use Rattle.meaning_laws.proofs.laws.same_from_variant.Goals as goal

pub returns : goal.returns
returns c = from_variant

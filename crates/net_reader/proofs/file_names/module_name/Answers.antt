use Rattle.std.proofs.Common.{◌≡◌, true, subst, sym}
use Rattle.up_base.specs.Names.{is_name}
use Rattle.net_reader.proofs.FileNames.{base_is, fine_name}
use Rattle.net_reader.proofs.file_names.module_name.Goals as goal

pub from_valid-requires : goal.from_valid-requires
from_valid-requires c =
    let file = c.as_bytes.result.now in
    fine_name file c.in-Some.name.now (record {
      is = base_is file c.in-Some.name.now (sym c.in-Some.ensures);
      identifier = sym c.if-not-is_identifier.ensures;
      named = subst (λ f. is_name f ≡ true) (sym c.as_bytes.ensures.bytes) c.as_bytes.ensures.name;
    })

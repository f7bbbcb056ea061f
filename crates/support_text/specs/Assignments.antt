-- Assignments to a variable that is passed by reference.
use Rattle.std.specs.Prelude.{[], ◌∷◌, codes}
use Rattle.net_tree.specs.declared.declaration.NetClose.TheVariants as close
use Rattle.net_tree.specs.declared.declaration.NetPassing.TheVariants as passing
use Rattle.net_tree.specs.declared.declaration.NetVisibility.TheVariants.{Public}
use Rattle.net_tree.specs.Types as ty
use Rattle.net_tree.specs.Tree.{Procedure, assign, path, sub}

abbrev pub the_put_short : Procedure
the_put_short = record {
  head = sub Public (codes "PutShort") (record { passing = passing.Value; name = codes "v"; ty = ty.short } ∷ record { passing = passing.Reference; name = codes "t"; ty = ty.short } ∷ []);
  prologue = [];
  lines = assign (path (codes "t" ∷ [])) (path (codes "v" ∷ [])) ∷ [];
  close = close.EndSub;
}

abbrev pub the_put_boolean : Procedure
the_put_boolean = record {
  head = sub Public (codes "PutBoolean") (record { passing = passing.Value; name = codes "v"; ty = ty.boolean } ∷ record { passing = passing.Reference; name = codes "t"; ty = ty.boolean } ∷ []);
  prologue = [];
  lines = assign (path (codes "t" ∷ [])) (path (codes "v" ∷ [])) ∷ [];
  close = close.EndSub;
}

abbrev pub the_put_byte : Procedure
the_put_byte = record {
  head = sub Public (codes "PutByte") (record { passing = passing.Value; name = codes "v"; ty = ty.byte } ∷ record { passing = passing.Reference; name = codes "t"; ty = ty.byte } ∷ []);
  prologue = [];
  lines = assign (path (codes "t" ∷ [])) (path (codes "v" ∷ [])) ∷ [];
  close = close.EndSub;
}

abbrev pub the_put_integer : Procedure
the_put_integer = record {
  head = sub Public (codes "PutInteger") (record { passing = passing.Value; name = codes "v"; ty = ty.integer } ∷ record { passing = passing.Reference; name = codes "t"; ty = ty.integer } ∷ []);
  prologue = [];
  lines = assign (path (codes "t" ∷ [])) (path (codes "v" ∷ [])) ∷ [];
  close = close.EndSub;
}

abbrev pub the_put_decimal : Procedure
the_put_decimal = record {
  head = sub Public (codes "PutDecimal") (record { passing = passing.Value; name = codes "v"; ty = ty.decimal } ∷ record { passing = passing.Reference; name = codes "t"; ty = ty.decimal } ∷ []);
  prologue = [];
  lines = assign (path (codes "t" ∷ [])) (path (codes "v" ∷ [])) ∷ [];
  close = close.EndSub;
}

abbrev pub the_put_string : Procedure
the_put_string = record {
  head = sub Public (codes "PutString") (record { passing = passing.Value; name = codes "v"; ty = ty.str } ∷ record { passing = passing.Reference; name = codes "t"; ty = ty.str } ∷ []);
  prologue = [];
  lines = assign (path (codes "t" ∷ [])) (path (codes "v" ∷ [])) ∷ [];
  close = close.EndSub;
}

abbrev pub the_put_object : Procedure
the_put_object = record {
  head = sub Public (codes "PutObject") (record { passing = passing.Value; name = codes "v"; ty = ty.object } ∷ record { passing = passing.Reference; name = codes "t"; ty = ty.object } ∷ []);
  prologue = [];
  lines = assign (path (codes "t" ∷ [])) (path (codes "v" ∷ [])) ∷ [];
  close = close.EndSub;
}

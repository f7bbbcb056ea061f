-- The facts and the place without memory that those of the code stand for.
use Rattle.std.specs.Prelude.{ℕ, zero, suc, ℤ, pos, Option, Some, None, slice_get}
use Rattle.bound_tree.specs.View.{declarations_of}
use Rattle.reach_table.specs.Chains.{is_marked}
use Rattle.written_rows.specs.declared.facts.ArrayShape.{ArrayShape}
use Rattle.written_rows.specs.declared.facts.WrittenFacts.{WrittenFacts}
use Rattle.written_rows.specs.declared.scope.Scope as code
use Rattle.written_trees.specs.Facts.{Facts, list_set}
use Rattle.written_trees.specs.Names.{Scope}

abbrev pub shape_low : Option ArrayShape → (dimension : ℕ) → ℤ
shape_low None d = pos 0
shape_low (Some s) zero = s.low
shape_low (Some s) (suc zero) = s.second
shape_low (Some s) (suc (suc d)) = pos 0

abbrev pub shape_rank : Option ArrayShape → ℕ
shape_rank None = 0
shape_rank (Some s) = s.rank

abbrev pub facts_of : WrittenFacts → Facts
facts_of f = record {
  low = λ v d. shape_low (slice_get f.shapes v) d;
  rank = λ v. shape_rank (slice_get f.shapes v);
  holds_array = λ t. is_marked f.holds_array t;
  is_made = λ t. is_marked f.is_made t;
  marks = f.marks;
  statement = λ file n. list_set (slice_get f.statements file) n;
}

abbrev pub scope_of : code.Scope → Scope
scope_of s = record { declarations = declarations_of s.declared.now; facts = facts_of s.facts.now; file = s.file; procedure = s.procedure }

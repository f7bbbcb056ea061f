-- The written words of covered types, and the shapes of the variables that are written with them.
use Rattle.std.proofs.Common.{◌≡◌, refl, ap, sym, subst, ◌∙◌, ℕ, suc, ◌*◌, ℤ, Bool, true, ◌&&◌, nat_eq, List, [], None, Some, length}
use Rattle.std.specs.Prelude.{filter, sum_by}
use Rattle.std.specs.Cmp.Lexicographic.{pointwise}
use Rattle.std.proofs.lemmas.Bool.{eqb-true}
use Rattle.vb_tree.specs.BoundTree as types
use Rattle.vb_tree.specs.BoundTree.{Ty}
use Rattle.bound_tree.specs.Tree.{Declarations, Variable}
use Rattle.net_tree.specs.Tree.{Module, Project}
use Rattle.net_tree.specs.Types as words
use Rattle.net_tree.specs.Types.{TypeName}
use Rattle.vb6_run.specs.Shapes.{Shape, array, shape_by, simple, user_shapes}
use Rattle.net_run.specs.Shapes as written_shape
use Rattle.net_run.specs.Shapes.{is_same_word, is_structure, scalar, shape_of, shape_within}
use Rattle.written_trees.specs.Names.{Scope}
use Rattle.written_trees.specs.Prologues.{initial}
use Rattle.written_trees.specs.Types.{type_with}
use Rattle.run_matches.specs.CoveredVariables.{covers_type}
use Rattle.run_matches.specs.Likeness.{SameShape, same_array, same_scalar, scalar_word}
use Rattle.run_matches.specs.Upgrades.{Upgrade}
use Rattle.run_statements.specs.Frames.{HasRankOf}
use Rattle.name_laws.proofs.Lists.{both_true, same_number}

-- one scalar type, arrays of one of the same rank, or a type that one path names
abbrev pub is_written_as : TypeName → TypeName → Bool
is_written_as (words.array_of d n) (words.array_of e m) = is_same_word d e && nat_eq n m
is_written_as (words.named path) (words.named other) = pointwise (pointwise nat_eq) path other
is_written_as d e = is_same_word d e

-- what is written for a scalar type, and its shape in a project
pub record WordOf (ty : Ty) : Type 0 where
  pub word : TypeName
  pub is_word : scalar_word ty ≡ Some word
  pub is_written : (D : Declarations) (file : ℕ) (qualified : Bool) (rank : ℕ) → is_same_word (type_with D file qualified rank ty) word ≡ true
  pub is_type : (D : Declarations) (file : ℕ) (qualified : Bool) (rank : ℕ) → is_written_as (type_with D file qualified rank ty) word ≡ true
  pub shaped :
      (N : Project) (depth home : ℕ) (t : TypeName) → is_same_word t word ≡ true → shape_within N (suc depth) home t ≡ scalar word
  pub typed : (t : TypeName) → is_written_as t word ≡ true → is_same_word t word ≡ true
  pub written : (D : Declarations) (file : ℕ) (qualified : Bool) (rank : ℕ) → type_with D file qualified rank ty ≡ word
  -- a variable of it begins with nothing that has to be written
  pub plain : (S : Scope) (v : ℕ) (x : Variable) → initial S v x ty ≡ None
  pub known : (N : Project) (home : ℕ) → shape_of N home word ≡ scalar word
  pub listed : (N : Project) (home rank : ℕ) → shape_of N home (words.array_of word rank) ≡ written_shape.array (scalar word) rank

boolean_shaped : (N : Project) (depth home : ℕ) (t : TypeName) → is_same_word t words.boolean ≡ true → shape_within N (suc depth) home t ≡ scalar words.boolean
boolean_shaped N depth home words.boolean h = refl
boolean_shaped N depth home _ h = absurd (cc h)

boolean_typed : (t : TypeName) → is_written_as t words.boolean ≡ true → is_same_word t words.boolean ≡ true
boolean_typed words.boolean h = refl
boolean_typed _ h = absurd (cc h)

byte_shaped : (N : Project) (depth home : ℕ) (t : TypeName) → is_same_word t words.byte ≡ true → shape_within N (suc depth) home t ≡ scalar words.byte
byte_shaped N depth home words.byte h = refl
byte_shaped N depth home _ h = absurd (cc h)

byte_typed : (t : TypeName) → is_written_as t words.byte ≡ true → is_same_word t words.byte ≡ true
byte_typed words.byte h = refl
byte_typed _ h = absurd (cc h)

short_shaped : (N : Project) (depth home : ℕ) (t : TypeName) → is_same_word t words.short ≡ true → shape_within N (suc depth) home t ≡ scalar words.short
short_shaped N depth home words.short h = refl
short_shaped N depth home _ h = absurd (cc h)

short_typed : (t : TypeName) → is_written_as t words.short ≡ true → is_same_word t words.short ≡ true
short_typed words.short h = refl
short_typed _ h = absurd (cc h)

integer_shaped : (N : Project) (depth home : ℕ) (t : TypeName) → is_same_word t words.integer ≡ true → shape_within N (suc depth) home t ≡ scalar words.integer
integer_shaped N depth home words.integer h = refl
integer_shaped N depth home _ h = absurd (cc h)

integer_typed : (t : TypeName) → is_written_as t words.integer ≡ true → is_same_word t words.integer ≡ true
integer_typed words.integer h = refl
integer_typed _ h = absurd (cc h)

decimal_shaped : (N : Project) (depth home : ℕ) (t : TypeName) → is_same_word t words.decimal ≡ true → shape_within N (suc depth) home t ≡ scalar words.decimal
decimal_shaped N depth home words.decimal h = refl
decimal_shaped N depth home _ h = absurd (cc h)

decimal_typed : (t : TypeName) → is_written_as t words.decimal ≡ true → is_same_word t words.decimal ≡ true
decimal_typed words.decimal h = refl
decimal_typed _ h = absurd (cc h)

text_shaped : (N : Project) (depth home : ℕ) (t : TypeName) → is_same_word t words.str ≡ true → shape_within N (suc depth) home t ≡ scalar words.str
text_shaped N depth home words.str h = refl
text_shaped N depth home _ h = absurd (cc h)

text_typed : (t : TypeName) → is_written_as t words.str ≡ true → is_same_word t words.str ≡ true
text_typed words.str h = refl
text_typed _ h = absurd (cc h)

pub word_of : (ty : Ty) → covers_type ty ≡ true → WordOf ty
word_of types.boolean h = record {
  word = words.boolean;
  is_word = refl;
  is_written = λ D f q r. refl;
  is_type = λ D f q r. refl;
  shaped = boolean_shaped;
  typed = boolean_typed;
  written = λ D f q r. refl;
  plain = λ S v x. refl;
  known = λ N h. refl;
  listed = λ N h r. refl;
}
word_of types.byte h = record {
  word = words.byte;
  is_word = refl;
  is_written = λ D f q r. refl;
  is_type = λ D f q r. refl;
  shaped = byte_shaped;
  typed = byte_typed;
  written = λ D f q r. refl;
  plain = λ S v x. refl;
  known = λ N h. refl;
  listed = λ N h r. refl;
}
word_of types.integer h = record {
  word = words.short;
  is_word = refl;
  is_written = λ D f q r. refl;
  is_type = λ D f q r. refl;
  shaped = short_shaped;
  typed = short_typed;
  written = λ D f q r. refl;
  plain = λ S v x. refl;
  known = λ N h. refl;
  listed = λ N h r. refl;
}
word_of types.long h = record {
  word = words.integer;
  is_word = refl;
  is_written = λ D f q r. refl;
  is_type = λ D f q r. refl;
  shaped = integer_shaped;
  typed = integer_typed;
  written = λ D f q r. refl;
  plain = λ S v x. refl;
  known = λ N h. refl;
  listed = λ N h r. refl;
}
word_of types.currency h = record {
  word = words.decimal;
  is_word = refl;
  is_written = λ D f q r. refl;
  is_type = λ D f q r. refl;
  shaped = decimal_shaped;
  typed = decimal_typed;
  written = λ D f q r. refl;
  plain = λ S v x. refl;
  known = λ N h. refl;
  listed = λ N h r. refl;
}
word_of types.str h = record {
  word = words.str;
  is_word = refl;
  is_written = λ D f q r. refl;
  is_type = λ D f q r. refl;
  shaped = text_shaped;
  typed = text_typed;
  written = λ D f q r. refl;
  plain = λ S v x. refl;
  known = λ N h. refl;
  listed = λ N h r. refl;
}
word_of _ h = absurd (cc h)

pub simple_type : (users : ℕ → Shape) (bounds : List (ℤ × ℤ)) (ty : Ty) → covers_type ty ≡ true → shape_by users bounds ty ≡ simple ty
simple_type users bounds types.boolean h = refl
simple_type users bounds types.byte h = refl
simple_type users bounds types.integer h = refl
simple_type users bounds types.long h = refl
simple_type users bounds types.currency h = refl
simple_type users bounds types.str h = refl
simple_type users bounds _ h = absurd (cc h)

-- ---- the written types of variables

-- The type that is written for a variable in the module of a file, which is written as the module of a number, and its shape there.
pub record VariableType (U : Upgrade) (v : ℕ) (x : Variable) (file home : ℕ) : Type 0 where
  pub word : TypeName
  pub written : written_shape.Shape
  pub is_written : is_written_as (type_with U.program.declarations file x.qualified (U.facts.rank v) x.ty) word ≡ true
  pub shaped : (t : TypeName) → is_written_as t word ≡ true → shape_of U.written home t ≡ written
  pub same : SameShape U (shape_by (user_shapes U.program.declarations) x.bounds x.ty) written
  pub ranked : HasRankOf U v written

abbrev pub depth_of : Project → ℕ
depth_of N = 2 * sum_by (λ (m : Module). length (filter is_structure m.members)) N.modules

pub scalar_type : (U : Upgrade) (v : ℕ) (x : Variable) (file home : ℕ) → covers_type x.ty ≡ true → VariableType U v x file home
scalar_type U v x file home h =
    let m : WordOf x.ty = word_of x.ty h in
    record {
      word = m.word;
      written = scalar m.word;
      is_written = m.is_type U.program.declarations file x.qualified (U.facts.rank v);
      shaped = λ t e. m.shaped U.written (suc (depth_of U.written)) home t (m.typed t e);
      same =
          subst (λ s. SameShape U s (scalar m.word)) (sym (simple_type (user_shapes U.program.declarations) x.bounds x.ty h))
          (same_scalar x.ty m.word m.is_word);
      ranked = tt;
    }

array_shaped : (N : Project) (home : ℕ) (ty : Ty) (m : WordOf ty) (rank : ℕ) (t : TypeName) → is_written_as t (words.array_of m.word rank) ≡ true
    → shape_of N home t ≡ written_shape.array (scalar m.word) rank
array_shaped N home ty m rank (words.array_of d n) h =
    let b = both_true (is_same_word d m.word) (nat_eq n rank) h in
    let element : shape_within N (suc (depth_of N)) home d ≡ scalar m.word = m.shaped N (depth_of N) home d b.0 in
    let count : n ≡ rank = eqb-true n rank b.1 in
    ap (λ s. written_shape.array s n) element ∙ ap (λ k. written_shape.array (scalar m.word) k) count
array_shaped N home ty m rank _ h = absurd (cc h)

pub array_type : (U : Upgrade) (v : ℕ) (x : Variable) (e : Ty) (r file home : ℕ) → x.ty ≡ types.array e r → covers_type e ≡ true
    → VariableType U v x file home
array_type U v x e r file home is h =
    let D : Declarations = U.program.declarations in
    let m : WordOf e = word_of e h in
    let rank : ℕ = U.facts.rank v in
    let written : is_written_as (type_with D file x.qualified rank (types.array e r)) (words.array_of m.word rank) ≡ true =
    ap (λ b. b && nat_eq rank rank) (m.is_written D file x.qualified rank) ∙ same_number rank rank refl in
    record {
      word = words.array_of m.word rank;
      written = written_shape.array (scalar m.word) rank;
      is_written = subst (λ z. is_written_as (type_with D file x.qualified rank z) (words.array_of m.word rank) ≡ true) (sym is) written;
      shaped = λ t k. array_shaped U.written home e m rank t k;
      same =
          subst (λ z. SameShape U (shape_by (user_shapes D) x.bounds z) (written_shape.array (scalar m.word) rank)) (sym is)
          (subst (λ s. SameShape U (array s x.bounds) (written_shape.array (scalar m.word) rank)) (sym (simple_type (user_shapes D) [] e h))
          (same_array (simple e) x.bounds (scalar m.word) rank (same_scalar e m.word m.is_word)));
      ranked = refl;
    }

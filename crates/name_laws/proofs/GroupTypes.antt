-- What is written for variables of covered user types and classes.
use Rattle.std.proofs.Common.{◌≡◌, refl, ap, sym, subst, ◌∙◌, ℕ, true, false, cond, nat_eq, List, [], ◌∷◌, length, Option, None, Some}
use Rattle.std.specs.Cmp.Lexicographic.{pointwise}
use Rattle.vb_tree.specs.BoundTree as types
use Rattle.vb_tree.specs.BoundTree.{Ty}
use Rattle.bound_tree.specs.Tree.{Declarations, Variable}
use Rattle.net_tree.specs.Tree as net
use Rattle.net_tree.specs.Types as words
use Rattle.net_tree.specs.Types.{TypeName}
use Rattle.written_trees.specs.Facts.{Facts, is_flagged_variable}
use Rattle.written_trees.specs.Names.{Path, Scope, class_path, type_path}
use Rattle.written_trees.specs.Prologues.{initial, made_user, object_variable, typed_variable, written_variable}
use Rattle.written_trees.specs.Types.{type_with, variable_type}
use Rattle.vb6_run.specs.Shapes.{Shape, declared_shape, shape_by, user_shapes, variable_shape}
use Rattle.net_run.specs.Shapes as written_shape
use Rattle.net_run.specs.Shapes.{shape_of}
use Rattle.run_matches.specs.CoveredVariables.{covers_class, covers_group_type, covers_user}
use Rattle.run_matches.specs.Likeness.{SameShape, same_array, same_class, same_group, same_scalar}
use Rattle.run_matches.specs.Sites.{Site, site_of}
use Rattle.run_matches.specs.Upgrades.{Upgrade, home_of, is_unknown, type_of}
use Rattle.run_statements.specs.Frames.{HasRankOf, IsGroup}
use Rattle.run_statements.specs.Written.{IsWritten}
use Rattle.name_laws.proofs.ClassTypes.{ClassLed, class_home_is, class_leads, class_led}
use Rattle.name_laws.proofs.CoveredTypes.{is_unmade}
use Rattle.name_laws.proofs.Lists.{and_true, both_true, neither, same_number, same_numbers}
use Rattle.name_laws.proofs.TypeShapes.{is_array_shape, no_array_shape, user_type_same}
use Rattle.name_laws.proofs.Words.{VariableType, is_written_as}

-- ---- paths

name_itself : (name : List ℕ) → pointwise nat_eq name name ≡ true
name_itself [] = refl
name_itself (c ∷ cs) = and_true (nat_eq c c) (pointwise nat_eq cs cs) (same_number c c refl) (name_itself cs)

path_itself : (path : List (List ℕ)) → is_written_as (words.named path) (words.named path) ≡ true
path_itself [] = refl
path_itself (n ∷ ns) = and_true (pointwise nat_eq n n) (pointwise (pointwise nat_eq) ns ns) (name_itself n) (path_itself ns)

same_paths : (xs ys : List (List ℕ)) → pointwise (pointwise nat_eq) xs ys ≡ true → xs ≡ ys
same_paths [] [] h = refl
same_paths [] (y ∷ ys) h = absurd (cc h)
same_paths (x ∷ xs) [] h = absurd (cc h)
same_paths (x ∷ xs) (y ∷ ys) h =
    let b = both_true (pointwise nat_eq x y) (pointwise (pointwise nat_eq) xs ys) h in
    ap {B = List (List ℕ)} (λ z. z ∷ xs) (same_numbers x y b.0) ∙ ap {B = List (List ℕ)} (λ zs. y ∷ zs) (same_paths xs ys b.1)

named_typed : (path : List (List ℕ)) (t : TypeName) → is_written_as t (words.named path) ≡ true → t ≡ words.named path
named_typed path (words.named other) h = ap words.named (same_paths other path h)
named_typed path _ h = absurd (cc h)

-- ---- types

rank_free : (U : Upgrade) (v : ℕ) (s : Shape) (d : written_shape.Shape) → SameShape U s d → is_array_shape s ≡ false → HasRankOf U v d
rank_free U v _ _ (same_scalar ty w e) h = tt
rank_free U v _ _ (same_class c home e) h = tt
rank_free U v _ _ (same_group t home member fs gs e f) h = tt
rank_free U v _ _ (same_array e bounds d rank f) h = absurd (cc h)

user_type : (U : Upgrade) → IsWritten U → (v : ℕ) (x : Variable) (t file home : ℕ) → x.ty ≡ types.user t
    → covers_user U.program.declarations t ≡ true → home_of U file ≡ Some home → VariableType U v x file home
user_type U I v x t file home is covers at =
    let D : Declarations = U.program.declarations in
    let word : TypeName = words.named (type_path D file x.qualified t) in
    let same : SameShape U (user_shapes D t) (shape_of U.written home word) = user_type_same U I home file t x.qualified covers at in
    record {
      word = word;
      written = shape_of U.written home word;
      is_written =
          subst (λ z. is_written_as (type_with D file x.qualified (U.facts.rank v) z) word ≡ true) (sym is) (path_itself (type_path D file x.qualified t));
      shaped = λ z h. ap (shape_of U.written home) (named_typed (type_path D file x.qualified t) z h);
      same = subst (λ z. SameShape U (shape_by (user_shapes D) x.bounds z) (shape_of U.written home word)) (sym is) same;
      ranked = rank_free U v (user_shapes D t) (shape_of U.written home word) same (no_array_shape D (length D.types) t);
    }

class_type : (U : Upgrade) → IsWritten U → (v : ℕ) (x : Variable) (c file home : ℕ) → x.ty ≡ types.class c
    → covers_class U.program.declarations c ≡ true → VariableType U v x file home
class_type U I v x c file home is covers =
    let D : Declarations = U.program.declarations in
    let path : Path = class_path D c in
    let L : ClassLed D c = class_led D c covers in
    record {
      word = words.named path;
      written = written_shape.class L.home;
      is_written = subst (λ z. is_written_as (type_with D file x.qualified (U.facts.rank v) z) (words.named path) ≡ true) (sym is) (path_itself path);
      shaped = λ z h. ap (shape_of U.written home) (named_typed path z h) ∙ class_leads U c L I home;
      same =
          subst (λ z. SameShape U (shape_by (user_shapes D) x.bounds z) (written_shape.class L.home)) (sym is)
          (same_class c L.home (class_home_is U c L));
      ranked = tt;
    }

pub group_type : (U : Upgrade) → IsWritten U → (v : ℕ) (x : Variable) (ty : Ty) (file home : ℕ) → x.ty ≡ ty
    → covers_group_type U.program.declarations ty ≡ true → home_of U file ≡ Some home → VariableType U v x file home
group_type U I v x (types.user t) file home is covers at = user_type U I v x t file home is covers at
group_type U I v x (types.class c) file home is covers at = class_type U I v x c file home is covers
group_type U I v x _ file home is covers at = absurd (cc covers)

-- ---- declarations

pub initial_by : (U : Upgrade) → IsWritten U → (S : Scope) → S.facts ≡ U.facts → (v : ℕ) (x : Variable) (ty : Ty)
    → covers_group_type U.program.declarations ty ≡ true → initial S v x ty ≡ None
initial_by U I S same v x (types.user t) covers =
    ap (λ b. made_user b t) (ap (λ (F : Facts). F.is_made t) same ∙ is_unmade U I t covers)
initial_by U I S same v x (types.class c) covers = refl
initial_by U I S same v x _ covers = absurd (cc covers)

module _ (U : Upgrade) (I : IsWritten U) (v : ℕ) (ty : Ty) (r : IsGroup U v ty) where
  abbrev D : Declarations
  D = U.program.declarations

  abbrev x : Variable
  x = r.known.variable

  -- the shape of the type that is written for such a variable in a procedure
  pub group_shaped : (p : ℕ) (s : Site) → site_of D p ≡ Some s
      → SameShape U (variable_shape D v) (shape_of U.written s.home (variable_type D U.facts s.source_module.file v x))
  group_shaped p s e =
      let T : VariableType U v x s.source_module.file s.home = group_type U I v x ty s.source_module.file s.home r.is_type r.covers (I.homes p s e) in
      subst (λ o. SameShape U (declared_shape (user_shapes D) o) (shape_of U.written s.home (variable_type D U.facts s.source_module.file v x)))
      (sym r.known.is_variable)
      (subst (λ d. SameShape U (shape_by (user_shapes D) x.bounds x.ty) d)
      (sym (T.shaped (variable_type D U.facts s.source_module.file v x) T.is_written)) T.same)

  -- it begins with nothing that has to be written
  pub group_variable : (S : Scope) → S.facts ≡ U.facts
      → written_variable S (v, x) ≡ record { name = x.name; ty = variable_type S.declarations S.facts S.file v x; value = None }
  group_variable S same =
      let plain : is_flagged_variable S.facts v ≡ false =
      ap (λ (F : Facts). is_flagged_variable F v) same ∙ (neither (is_flagged_variable U.facts v) (is_unknown (type_of U v)) r.known.sound).0 in
      let begins : initial S v x x.ty ≡ None = ap (initial S v x) r.is_type ∙ initial_by U I S same v x ty r.covers in
      ap (λ b. cond b (object_variable x.name) (typed_variable S v x)) plain
      ∙ ap (λ o. written_as S o) begins
    where
      written_as : Scope → Option net.Exp → net.Variable
      written_as S o = record { name = x.name; ty = variable_type S.declarations S.facts S.file v x; value = o }

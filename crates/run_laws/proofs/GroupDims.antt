-- What the declarations make that are written for variables of user types and of classes.
use Rattle.std.proofs.Common.{◌≡◌, refl, sym, ap, subst, ◌∙◌, ℕ, Bool, true, false, true≢false, cond, Option, Some, None, List, []}
use Rattle.std.specs.Prelude.{slice_get}
use Rattle.up_base.proofs.Tests.{neither}
use Rattle.vb_tree.specs.BoundTree.{Ty, class, user}
use Rattle.bound_tree.specs.Tree.{Variable}
use Rattle.net_tree.specs.Tree as net_tree
use Rattle.net_tree.specs.Types.{TypeName}
use Rattle.run_base.specs.Outcomes.{gives, some_of, then}
use Rattle.run_base.specs.Positions.{Root, whole}
use Rattle.vb6_run.specs.Shapes.{Shape, declared_shape, shape_by, user_shapes, variable_shape}
use Rattle.net_run.specs.Members.{Code}
use Rattle.net_run.specs.Program.{dim_made, made_once, static_at, static_root}
use Rattle.net_run.specs.Shapes as shape
use Rattle.net_run.specs.Store as net
use Rattle.written_trees.specs.Facts.{Facts, is_flagged_variable}
use Rattle.written_trees.specs.Names.{Scope}
use Rattle.written_trees.specs.Prologues.{initial, is_static, made_user, object_variable, typed_variable, variable_dim, written_variable}
use Rattle.written_trees.specs.Types.{type_with}
use Rattle.agreeing_laws.proofs.Outputs.{after_nothing}
use Rattle.agreeing_laws.proofs.UserShapes.{group_unbounded}
use Rattle.run_matches.specs.CoveredVariables.{covers_group_type}
use Rattle.run_matches.specs.Likeness.{SameShape, same_array, same_class, same_group, same_scalar}
use Rattle.run_matches.specs.Sites.{own_variable}
use Rattle.run_matches.specs.SoundShapes.{IsSoundShape}
use Rattle.run_matches.specs.Upgrades.{Upgrade, home_of, is_flagged, is_unknown, type_of}
use Rattle.run_statements.specs.Frames.{HasRankOf, IsAutoOf, IsGroup, type_shape}
use Rattle.run_statements.specs.Kept.{own_dim}
use Rattle.memory_laws.proofs.Autos.{auto_sound}
use Rattle.memory_laws.proofs.GroupsMade.{group_shape}
use Rattle.run_laws.specs.Premises.{GroupsAreWritten}
use Rattle.run_laws.proofs.Dims.{plain_variable}

-- a variable of a user type or of a class, which may be As New, whose declaration carries no issue
pub record IsOfType (U : Upgrade) (v : ℕ) (ty : Ty) : Type 0 where
  pub variable : Variable
  pub is_variable : slice_get U.program.declarations.vars v ≡ Some variable
  pub sound : is_flagged U v ≡ false
  pub is_type : variable.ty ≡ ty
  pub covers : covers_group_type U.program.declarations ty ≡ true

pub group_of_type : (U : Upgrade) (v : ℕ) (ty : Ty) → IsGroup U v ty → IsOfType U v ty
group_of_type U v ty r =
    record { variable = r.known.variable; is_variable = r.known.is_variable; sound = r.known.sound; is_type = r.is_type; covers = r.covers }

pub auto_of_type : (U : Upgrade) (v c : ℕ) → IsAutoOf U v c → IsOfType U v (class c)
auto_of_type U v c r = record { variable = r.variable; is_variable = r.is_variable; sound = r.sound; is_type = r.is_type; covers = r.covers }

-- its shape is that of its type
pub shape_of_type : (U : Upgrade) (v : ℕ) (ty : Ty) → IsOfType U v ty → variable_shape U.program.declarations v ≡ type_shape U ty
shape_of_type U v ty r =
    ap (declared_shape (user_shapes U.program.declarations)) r.is_variable
    ∙ (ap (shape_by (user_shapes U.program.declarations) r.variable.bounds) r.is_type
    ∙ group_unbounded U.program.declarations r.variable.bounds ty r.covers)

-- what is written for its declaration
pub record GroupWritten (U : Upgrade) (S : Scope) (home v : ℕ) (ty : Ty) (r : IsOfType U v ty) : Type 0 where
  pub word : TypeName
  pub same : SameShape U (variable_shape U.program.declarations v) (shape.shape_of U.written home word)
  pub is_written : written_variable S (v, r.variable) ≡ plain_variable r.variable.name word

module _ (U : Upgrade) (written : GroupsAreWritten U) (S : Scope) (facts : S.facts ≡ U.facts) (declared : S.declarations ≡ U.program.declarations)
    (home : ℕ) (here : home_of U S.file ≡ Some home) where
  -- the name of the type leads to the structure or the class
  pub type_shaped : (v : ℕ) (ty : Ty) (r : IsOfType U v ty) (rank : ℕ) (qualified : Bool)
      → SameShape U (variable_shape U.program.declarations v) (shape.shape_of U.written home (type_with S.declarations S.file qualified rank ty))
  type_shaped v ty r rank qualified =
      subst
      (λ E. SameShape U (variable_shape U.program.declarations v) (shape.shape_of U.written home (type_with E S.file qualified rank ty)))
      (sym declared)
      (subst (λ s. SameShape U s (shape.shape_of U.written home (type_with U.program.declarations S.file qualified rank ty))) (sym (shape_of_type U v ty r))
      (written.shaped ty home S.file rank qualified r.covers here))

  -- it begins with nothing that is written
  none_initial : (v : ℕ) (x : Variable) (ty : Ty) → covers_group_type U.program.declarations ty ≡ true → initial S v x ty ≡ None
  none_initial v x (user t) h = ap (λ (F : Facts). made_user (F.is_made t) t) facts ∙ ap (λ b. made_user b t) (written.unmade t h)
  none_initial v x (class c) h = refl
  none_initial v x _ h = absurd (true≢false (sym h))

  pub group_written : (v : ℕ) (ty : Ty) (r : IsOfType U v ty) → GroupWritten U S home v ty r
  group_written v ty r =
      let x : Variable = r.variable in
      let word = λ (z : Ty). type_with S.declarations S.file x.qualified (S.facts.rank v) z in
      let unflagged : is_flagged_variable S.facts v ≡ false =
      ap (λ F. is_flagged_variable F v) facts ∙ (neither (is_flagged_variable U.facts v) (is_unknown (type_of U v)) r.sound).0 in
      record {
        word = word ty;
        same = type_shaped v ty r (S.facts.rank v) x.qualified;
        is_written =
            ap (λ b. cond b (object_variable x.name) (typed_variable S v x)) unflagged
            ∙ (ap (λ z. written_as x.name (word z) (initial S v x z)) r.is_type ∙ ap (λ o. written_as x.name (word ty) o) (none_initial v x ty r.covers));
      }
    where
      written_as : List ℕ → TypeName → Option net_tree.Exp → net_tree.Variable
      written_as name ty value = record { name = name; ty = ty; value = value }

-- The declaration of a local variable makes one of the structure or the class, under its name.
pub record GroupDim (U : Upgrade) (S : Scope) (c : Code) (v : ℕ) (ty : Ty) (r : IsOfType U v ty) : Type 0 where
  pub written : shape.Shape
  pub same : SameShape U (variable_shape U.program.declarations v) written
  pub is_made :
      (me : Option ℕ) (i : ℕ) (w : net.Memory)
      → dim_made U.written c me i (own_dim S (own_variable v r.variable)) w
      ≡ then (net.made_with written (shape.default_of written) w) (λ b t. gives [] (r.variable.name, b) t)

-- The declaration of a Static makes one at its root, where none is there.
pub record GroupStatic (U : Upgrade) (S : Scope) (c : Code) (v : ℕ) (ty : Ty) (r : IsOfType U v ty) : Type 0 where
  pub made : net_tree.Variable
  pub plain : made.value ≡ None
  pub same : SameShape U (variable_shape U.program.declarations v) (shape.shape_of U.written c.home made.ty)
  pub is_made :
      (me : Option ℕ) (i : ℕ) (at : Root) → static_root U.written c me i ≡ Some at → (w : net.Memory)
      → dim_made U.written c me i (own_dim S (own_variable v r.variable)) w
      ≡ then (made_once U.written c.home at made (w.cell (whole at)) w)
      (λ u t. gives [] (r.variable.name, net.root (shape.shape_of U.written c.home made.ty) (whole at)) t)

module _ (U : Upgrade) (written : GroupsAreWritten U) (S : Scope) (facts : S.facts ≡ U.facts) (declared : S.declarations ≡ U.program.declarations)
    (c : Code) (here : home_of U S.file ≡ Some c.home) (v : ℕ) (ty : Ty) (r : IsOfType U v ty) where
  abbrev x : Variable
  x = r.variable

  abbrev m : GroupWritten U S c.home v ty r
  m = group_written U written S facts declared c.home here v ty r

  pub group_made : is_static r.variable.owner ≡ false → GroupDim U S c v ty r
  group_made local =
      let d : shape.Shape = shape.shape_of U.written c.home m.word in
      let dim : variable_dim S (v, x) ≡ net_tree.local (plain_variable x.name m.word) =
      ap (λ b. cond b (net_tree.static_local (written_variable S (v, x))) (net_tree.local (written_variable S (v, x)))) local
      ∙ ap (λ y. net_tree.local y) m.is_written in
      record {
        written = d;
        same = m.same;
        is_made = λ me i w.
            ap (λ e. dim_made U.written c me i e w) dim
            ∙ after_nothing (then (net.made_with d (shape.default_of d) w) (λ b t. gives [] (x.name, b) t));
      }

  pub group_static_made : is_static r.variable.owner ≡ true → GroupStatic U S c v ty r
  group_static_made static =
      let d : net_tree.Variable = plain_variable x.name m.word in
      let dim : variable_dim S (v, x) ≡ net_tree.static_local d =
      ap (λ b. cond b (net_tree.static_local (written_variable S (v, x))) (net_tree.local (written_variable S (v, x)))) static
      ∙ ap (λ y. net_tree.static_local y) m.is_written in
      record {
        made = d;
        plain = refl;
        same = m.same;
        is_made = λ me i at stands w. ap (λ e. dim_made U.written c me i e w) dim ∙ ap (λ o. some_of o (static_at U.written c.home d) w) stands;
      }

-- what is written for a user type or a class is no array
written_unranked : (U : Upgrade) (v : ℕ) (s : Shape) (d : shape.Shape) → IsSoundShape U s → SameShape U s d → HasRankOf U v d
written_unranked U v _ _ c (same_scalar ty t word) = tt
written_unranked U v _ _ c (same_class k home e) = tt
written_unranked U v _ _ c (same_group t home member fs gs is fields) = tt
written_unranked U v _ _ c (same_array e bounds d rank same) = absurd c

pub group_unranked : (U : Upgrade) (v : ℕ) (ty : Ty) (r : IsGroup U v ty) (d : shape.Shape) → SameShape U (variable_shape U.program.declarations v) d
    → HasRankOf U v d
group_unranked U v ty r d same = written_unranked U v (variable_shape U.program.declarations v) d (group_shape U v ty r) same

pub auto_unranked : (U : Upgrade) (v c : ℕ) (r : IsAutoOf U v c) (d : shape.Shape) → SameShape U (variable_shape U.program.declarations v) d
    → HasRankOf U v d
auto_unranked U v c r d same = written_unranked U v (variable_shape U.program.declarations v) d (auto_sound U v c r d same) same

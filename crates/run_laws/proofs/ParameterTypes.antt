-- What is written for parameters, and which addresses they take.
use Rattle.vb_tree.specs.declared.declared.Owner.{Owner}
use Rattle.std.proofs.Common.{◌≡◌, refl, sym, ap, subst, ◌∙◌, ℕ, Bool, true, cond, Some, List, [], ◌∷◌, inl, inr, eq-eqb, nat_eq}
use Rattle.std.specs.Prelude.{slice_get}
use Rattle.up_base.proofs.Tests.{and_true}
use Rattle.vb_tree.specs.BoundTree as types
use Rattle.vb_tree.specs.BoundTree.{Ty}
use Rattle.vb_tree.specs.declared.declared.VarId.{VarId}
use Rattle.bound_tree.specs.Tree.{Declarations, Variable}
use Rattle.net_tree.specs.declared.declaration.NetPassing.{NetPassing}
use Rattle.net_tree.specs.declared.declaration.NetPassing.TheVariants as passing
use Rattle.net_tree.specs.Tree as net_tree
use Rattle.net_tree.specs.Types as words
use Rattle.net_tree.specs.Types.{TypeName}
use Rattle.run_base.specs.Positions.{Position}
use Rattle.vb6_run.specs.Shapes.{simple, group, Shape, array, endless, part_shape, variable_shape}
use Rattle.vb6_run.specs.Store.{Address, root, item, constant}
use Rattle.net_run.specs.Shapes as shape
use Rattle.net_run.specs.Store as net
use Rattle.written_trees.specs.Heads as heads
use Rattle.written_trees.specs.Facts.{Facts}
use Rattle.written_trees.specs.Names.{Scope}
use Rattle.written_trees.specs.Types.{type_with}
use Rattle.run_matches.specs.Addresses.{Same, same_item, same_root}
use Rattle.run_matches.specs.CoveredVariables.{covers_type}
use Rattle.run_matches.specs.Frames.{StandsAs}
use Rattle.run_matches.specs.Likeness.{scalar_word, SameShape, same_array, same_class, same_group, same_scalar}
use Rattle.run_matches.specs.Maps.{World}
use Rattle.run_matches.specs.Pledges.{Pledge}
use Rattle.run_matches.specs.Upgrades.{Upgrade, home_of}
use Rattle.run_statements.specs.Arrays.{array_shape}
use Rattle.run_statements.specs.Frames.{HasRankOf, IsArray, IsGroup}
use Rattle.memory_laws.proofs.Making.{readable_shape}
use Rattle.run_laws.specs.Entered.{IsTaken}
use Rattle.run_laws.specs.Premises.{GroupsAreWritten}
use Rattle.run_laws.proofs.Covered.{not_none, some_is}
use Rattle.run_laws.proofs.Usable.{array_shape_is, result_shape}
use Rattle.run_laws.proofs.Dims.{WordOf, word_of}
use Rattle.run_laws.proofs.Given.{array_taken, no_item, root_shape, word_itself}
use Rattle.run_laws.proofs.Heads.{Parameter}
use Rattle.run_matches.specs.SoundShapes.{IsSoundShape}
use Rattle.run_laws.proofs.GroupDims.{group_of_type, type_shaped}
use Rattle.run_laws.proofs.ParametersMade.{readable_type}

-- ---- addresses

place_is : (a b : ℕ × ℕ) → Some a ≡ Some b → (a.0 ≡ b.0) × (a.1 ≡ b.1)
place_is a b e = (ap (λ (z : ℕ × ℕ). z.0) (some_is e), ap (λ (z : ℕ × ℕ). z.1) (some_is e))

sound_word : (U : Upgrade) (ty : Ty) (t : TypeName) → IsSoundShape U (simple ty) → scalar_word ty ≡ Some t → shape.is_same_word t t ≡ true
sound_word U ty t (inl c) e = word_itself ty t c e
sound_word U ty t (inr k) e = absurd (not_none (sym (ap scalar_word k.2) ∙ e))

-- a shape is written in one way
written_same : (U : Upgrade) (s : Shape) (d e : shape.Shape) → IsSoundShape U s → SameShape U s d → SameShape U s e → shape.is_same_shape d e ≡ true
written_same U _ _ _ c (same_scalar ty t word) (same_scalar _ u other) =
    ap (λ z. shape.is_same_word z u) (some_is (sym word ∙ other)) ∙ sound_word U ty u c other
written_same U _ _ _ c (same_scalar ty t word) (same_class k home is) = absurd (not_none word)
written_same U _ _ _ c (same_class k home is) (same_scalar _ t word) = absurd (not_none word)
written_same U _ _ _ c (same_class k home is) (same_class _ there other) = eq-eqb home there (some_is (sym is ∙ other))
written_same U _ _ _ c (same_group t home member fs gs is each) (same_group _ there number _ hs other more) =
    let same = place_is (home, member) (there, number) (sym is ∙ other) in
    and_true (nat_eq home there) (nat_eq member number) (eq-eqb home there same.0) (eq-eqb member number same.1)
written_same U _ _ _ c (same_array x bounds d rank same) e = absurd c

abbrev element_in : Address → Shape
element_in (root s q) = s
element_in (item e q j path) = e
element_in (constant x) = endless

abbrev inside_of : Address → List ℕ
inside_of (root s q) = []
inside_of (item e q j path) = path
inside_of (constant x) = []

root_taken : (U : Upgrade) (K : Pledge) (w : World) (s : Shape) (d : shape.Shape) (a : Address) (b : net.Address) (p : Position) → IsSoundShape U s
    → SameShape U s d → Same U K w a b → a ≡ root s p → shape.is_same_shape (net.shape_at b) d ≡ true
root_taken U K w s d _ _ p c shaped (same_root t e q sh m r) is =
    written_same U s e d c (subst (λ z. SameShape U z e) (root_shape t s q p is) sh) shaped
root_taken U K w s d _ _ p c shaped (same_item f t e q k j path keeps m has part sh) is = absurd (no_item f s q p j path is)

item_taken : (U : Upgrade) (K : Pledge) (w : World) (ty : Ty) (d : shape.Shape) (a : Address) (b : net.Address) (p : Position) (i : ℕ)
    → IsSoundShape U (simple ty) → SameShape U (simple ty) d → Same U K w a b → a ≡ item (simple ty) p i []
    → shape.is_same_shape (net.shape_at b) d ≡ true
item_taken U K w ty d _ _ p i c shaped (same_root s e q sh m r) at = absurd (no_item (simple ty) s p q i [] (sym at))
item_taken U K w ty d _ _ p i c shaped (same_item f s e q k j path keeps m has part sh) at =
    let is : s ≡ simple ty = some_is (sym part ∙ (ap (λ x. part_shape x f) (ap inside_of at) ∙ ap (λ x. Some x) (ap element_in at))) in
    written_same U (simple ty) e d c (subst (λ z. SameShape U z e) is sh) shaped

-- the image of what stands as a shape has what is written for the shape exactly
pub sound_taken : (U : Upgrade) (K : Pledge) (w : World) (s : Shape) (d : shape.Shape) (a : Address) (b : net.Address) (p : Position) → IsSoundShape U s
    → SameShape U s d → Same U K w a b → StandsAs s a p → shape.is_same_shape (net.shape_at b) d ≡ true
sound_taken U K w (simple ty) d a b p c shaped same (inl at) = root_taken U K w (simple ty) d a b p c shaped same at
sound_taken U K w (simple ty) d a b p c shaped same (inr x) = item_taken U K w ty d a b p x.0 c shaped same x.1
sound_taken U K w (group t fs) d a b p c shaped same at = root_taken U K w (group t fs) d a b p c shaped same at
sound_taken U K w (array e bounds) d a b p c shaped same at = absurd c
sound_taken U K w endless d a b p c shaped same at = absurd c

-- ---- what is written

-- by value in a part of a property, else as it is in the source
abbrev pub passing_as : (by_value : Bool) → Owner → NetPassing
passing_as by_value o = cond by_value passing.Value (heads.passing_of o)

abbrev pub param_of : NetPassing → List ℕ → TypeName → net_tree.Param
param_of passed name t = record { passing = passed; name = name; ty = t }

module _ (U : Upgrade) (p : ℕ) (groups : GroupsAreWritten U) (S : Scope) (same : S.declarations ≡ U.program.declarations) (facts : S.facts ≡ U.facts) (home : ℕ)
    (here : home_of U S.file ≡ Some home) (part : Bool) where
  abbrev D : Declarations
  D = U.program.declarations

  -- the type of a parameter, and its shape, which what is given by reference has exactly
  pub record ParamWritten (v : VarId) (q : Parameter U.program p v) : Type 1 where
    pub word : TypeName
    pub written : shape.Shape
    pub is_param : heads.param_by S part v.0 (slice_get S.declarations.vars v.0) ≡ param_of (passing_as part q.variable.owner) q.variable.name word ∷ []
    pub shaped : shape.shape_of U.written home word ≡ written
    pub alike : SameShape U (variable_shape D v.0) written
    pub taken :
        (K : Pledge) (w : World) (a : Address) (b : net.Address) (z : Position) → Same U K w a b → StandsAs (variable_shape D v.0) a z
        → HasRankOf U v.0 (net.shape_at b) → shape.is_same_shape (net.shape_at b) written ≡ true

  -- what is written for a parameter
  pub param_is : (v : VarId) (q : Parameter U.program p v) (t : TypeName)
      → type_with S.declarations S.file q.variable.qualified (S.facts.rank v.0) q.variable.ty ≡ t
      → heads.param_by S part v.0 (slice_get S.declarations.vars v.0) ≡ param_of (passing_as part q.variable.owner) q.variable.name t ∷ []
  param_is v q t written =
      let y : Variable = q.variable in
      ap (λ E. heads.param_by S part v.0 (slice_get E.vars v.0)) same
      ∙ ap (heads.param_by S part v.0) q.is_variable
      ∙ ap (λ z. param_of (passing_as part y.owner) y.name z ∷ []) written

  unfoldable pub param_written : (v : VarId) (q : Parameter U.program p v) → IsTaken U v.0 → ParamWritten v q
  param_written v q (inl r) =
      let y : Variable = q.variable in
      let joined : r.variable ≡ y = some_is (sym r.is_variable ∙ q.is_variable) in
      let m : WordOf y.ty = word_of y.ty (subst (λ (z : Variable). covers_type z.ty ≡ true) joined (readable_type U v.0 r)) in
      let word : scalar_word r.variable.ty ≡ Some m.word = ap (λ (z : Variable). scalar_word z.ty) joined ∙ m.is_word in
      let alike : SameShape U (variable_shape D v.0) (shape.scalar m.word) =
      subst (λ s. SameShape U s (shape.scalar m.word)) (sym (readable_shape U v.0 r)) (same_scalar r.variable.ty m.word word) in
      record {
        word = m.word;
        written = shape.scalar m.word;
        is_param = param_is v q m.word (m.written S.declarations S.file y.qualified (S.facts.rank v.0));
        shaped = m.shaped U.written home;
        alike = alike;
        taken = λ K w a b z same stands ranked.
            sound_taken U K w (variable_shape D v.0) (shape.scalar m.word) a b z (result_shape U v.0 (inl r)) alike same stands;
      }
  param_written v q (inr (inr x)) =
      let y : Variable = q.variable in
      let ty : Ty = x.0 in
      let r : IsGroup U v.0 ty = x.1 in
      let joined : r.known.variable ≡ y = some_is (sym r.known.is_variable ∙ q.is_variable) in
      let is : y.ty ≡ ty = sym (ap (λ (z : Variable). z.ty) joined) ∙ r.is_type in
      let word : TypeName = type_with S.declarations S.file y.qualified (S.facts.rank v.0) ty in
      let d : shape.Shape = shape.shape_of U.written home word in
      let shaped : SameShape U (variable_shape D v.0) d =
      type_shaped U groups S facts same home here v.0 ty (group_of_type U v.0 ty r) (S.facts.rank v.0) y.qualified in
      record {
        word = word;
        written = d;
        is_param = param_is v q word (ap (λ z. type_with S.declarations S.file y.qualified (S.facts.rank v.0) z) is);
        shaped = refl;
        alike = shaped;
        taken = λ K w a b z alike stands ranked. sound_taken U K w (variable_shape D v.0) d a b z (result_shape U v.0 (inr x)) shaped alike stands;
      }
  param_written v q (inr (inl x)) =
      let y : Variable = q.variable in
      let element : Ty = x.0 in
      let r : IsArray U v.0 element = x.1 in
      let joined : r.known.variable ≡ y = some_is (sym r.known.is_variable ∙ q.is_variable) in
      let m : WordOf element = word_of element r.covers in
      let is : y.ty ≡ types.array element r.rank = sym (ap (λ (z : Variable). z.ty) joined) ∙ r.is_array in
      let listed : type_with S.declarations S.file y.qualified (S.facts.rank v.0) y.ty ≡ words.array_of m.word (U.facts.rank v.0) =
      ap (λ ty. type_with S.declarations S.file y.qualified (S.facts.rank v.0) ty) is
      ∙ ap (λ t. words.array_of t (S.facts.rank v.0)) (m.written S.declarations S.file y.qualified (S.facts.rank v.0))
      ∙ ap (λ (F : Facts). words.array_of m.word (F.rank v.0)) facts in
      record {
        word = words.array_of m.word (U.facts.rank v.0);
        written = array_shape U v.0 m.word;
        is_param = param_is v q (words.array_of m.word (U.facts.rank v.0)) listed;
        shaped = m.listed U.written home (U.facts.rank v.0);
        alike =
            subst (λ s. SameShape U s (array_shape U v.0 m.word)) (sym (array_shape_is U v.0 element r))
            (same_array (simple element) r.known.variable.bounds (shape.scalar m.word) (U.facts.rank v.0) (same_scalar element m.word m.is_word));
        taken = λ K w a b z same stands ranked.
            let at = subst (λ d. StandsAs d a z) (array_shape_is U v.0 element r) stands in
            array_taken U K w v.0 element m.word at.0 a b z r.covers m.is_word same at.1 ranked;
      }

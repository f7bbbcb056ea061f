-- The shape of what is written for a covered user type is that of the type.
use Rattle.std.proofs.Common.{◌≡◌, refl, ap, sym, subst, ◌∙◌, ℕ, zero, suc, ◌+◌, ◌*◌, ◌<◌, Bool, true, false, cond, List, [], ◌∷◌, ◌++◌, length, map, Option, Some, None, slice_get, append_assoc, arith, inl, inr, ⊎_elim}
use Rattle.std.specs.Prelude.{◌||◌}
use Rattle.std.specs.List.{list_all}
use Rattle.vb_tree.specs.BoundTree.{Ty}
use Rattle.vb_tree.specs.BoundTree as types
use Rattle.vb_tree.specs.declared.declared.VarId.{VarId}
use Rattle.vb_tree.specs.Tree as source
use Rattle.bound_tree.specs.declared.declared.TypeDecl.{TypeDecl}
use Rattle.bound_tree.specs.Tree.{Variable, Declarations}
use Rattle.bound_facts.specs.Members.{at_option, type_fields}
use Rattle.net_tree.specs.Tree as net
use Rattle.net_tree.specs.Types as words
use Rattle.net_tree.specs.Types.{TypeName}
use Rattle.written_trees.specs.Comments.{Comment, past, texts, up_to}
use Rattle.written_trees.specs.DeclaredMembers.{field_comments, field_member, field_type, fields_from, line_fields, statement_comments}
use Rattle.written_trees.specs.Facts.{Facts, is_flagged_variable}
use Rattle.written_trees.specs.Names.{Scope, type_path, variable_name}
use Rattle.written_trees.specs.Projects.{module_scope}
use Rattle.written_trees.specs.Prologues.{variables_of}
use Rattle.written_trees.specs.Types.{type_with, variable_type}
use Rattle.vb6_run.specs.Shapes.{Shape, Shapes, declared_shape, field_shapes, group_by, shape_by, user_shape, user_shapes}
use Rattle.vb6_run.specs.Shapes as source_shape
use Rattle.net_run.specs.Shapes as shape
use Rattle.net_run.specs.Shapes.{fields_by, most_depth, shape_of, shape_within}
use Rattle.run_matches.specs.CoveredVariables.{covers_field, covers_field_type, covers_type, covers_user, covers_user_within}
use Rattle.run_matches.specs.Likeness.{HasFieldRank, SameFields, SameShape, flagged_field, no_fields, same_array, same_class, same_field, same_group, same_scalar}
use Rattle.run_matches.specs.Upgrades.{Upgrade, field_name, field_variable, home_of, is_flagged_field, is_flagged_some, is_unknown, type_of}
use Rattle.run_matches.specs.UserTypes.{fields_declared}
use Rattle.run_statements.specs.Written.{IsWritten}
use Rattle.agreeing_laws.proofs.UserShapes.{deeper_covers, group_more}
use Rattle.name_laws.proofs.CoveredTypes.{TypeParts, depths_same, type_parts}
use Rattle.name_laws.proofs.Depths.{settled}
use Rattle.name_laws.proofs.Lists.{Among, among_append, both_true, map_append, same_numbers}
use Rattle.name_laws.proofs.Owned.{variable_of_statement}
use Rattle.name_laws.proofs.Structures.{Structure, TypeLed, file_is, number_is_below, path_leads, place_is, structure, type_led}
use Rattle.name_laws.proofs.Words.{WordOf, simple_type, word_of}
use Rattle.name_laws.proofs.WrittenTypes.{count_structures}

-- ---- shapes without an array

abbrev pub is_array_shape : Shape → Bool
is_array_shape (source_shape.array e bounds) = true
is_array_shape s = false

pub no_array_shape : (D : Declarations) (n t : ℕ) → is_array_shape (user_shape D n t) ≡ false
no_array_shape D zero t = refl
no_array_shape D (suc n) t = by (slice_get D.types t)
  where
    by : (o : Option TypeDecl) → is_array_shape (group_by D (λ u. user_shape D n u) t o) ≡ false
    by None = refl
    by (Some d) = refl

-- nothing is asked of their rank
rank_free : (U : Upgrade) (t k : ℕ) (s : Shape) (d : shape.Shape) → SameShape U s d → is_array_shape s ≡ false → HasFieldRank U t k d
rank_free U t k _ _ (same_scalar ty w e) h = tt
rank_free U t k _ _ (same_class c home e) h = tt
rank_free U t k _ _ (same_group u home member fs gs e f) h = tt
rank_free U t k _ _ (same_array e bounds d rank f) h = absurd (cc h)

-- ---- the fields of a structure

-- the variables that lines declare, which are numbered from n
abbrev declared_in : Declarations → (file n : ℕ) → List source.Line → List (ℕ × Variable)
declared_in D file n [] = []
declared_in D file n (l ∷ ls) = variables_of D file n ++ declared_in D file (suc n) ls

abbrev number_of : ℕ × Variable → ℕ
number_of v = v.0

numbers_are : (D : Declarations) (file n : ℕ) (ls : List source.Line) → fields_declared D file n ls ≡ map number_of (declared_in D file n ls)
numbers_are D file n [] = refl
numbers_are D file n (l ∷ ls) =
    ap (λ (ks : List ℕ). map number_of (variables_of D file n) ++ ks) (numbers_are D file (suc n) ls)
    ∙ sym (map_append number_of (variables_of D file n) (declared_in D file (suc n) ls))

abbrev AreDeclared : Declarations → List (ℕ × Variable) → Type 0
AreDeclared D vs = (v : ℕ × Variable) → Among vs v → slice_get D.vars v.0 ≡ Some v.1

are_declared : (D : Declarations) (file n : ℕ) (ls : List source.Line) → AreDeclared D (declared_in D file n ls)
are_declared D file n [] v h = absurd h
are_declared D file n (l ∷ ls) v h =
    ⊎_elim (variable_of_statement D file n v) (are_declared D file (suc n) ls v) (among_append (variables_of D file n) (declared_in D file (suc n) ls) v h)

module _ (S : Scope) (of : TypeName → shape.Shape) where
  -- the fields that are written for variables
  abbrev written_fields : List (ℕ × Variable) → shape.Fields → shape.Fields
  written_fields [] more = more
  written_fields (v ∷ vs) more = shape.next_field v.1.name (of (field_type S v)) (written_fields vs more)

  without_comments : (units : List (List ℕ)) (fs : List net.Field) → fields_by of (field_comments units ++ fs) ≡ fields_by of fs
  without_comments [] fs = refl
  without_comments (u ∷ us) fs = without_comments us fs

  of_variables : (vs : List (ℕ × Variable)) (fs : List net.Field) → fields_by of (map (field_member S) vs ++ fs) ≡ written_fields vs (fields_by of fs)
  of_variables [] fs = refl
  of_variables (v ∷ vs) fs = ap (shape.next_field v.1.name (of (field_type S v))) (of_variables vs fs)

  written_append : (xs ys : List (ℕ × Variable)) (more : shape.Fields) → written_fields (xs ++ ys) more ≡ written_fields xs (written_fields ys more)
  written_append [] ys more = refl
  written_append (x ∷ xs) ys more = ap (shape.next_field x.1.name (of (field_type S x))) (written_append xs ys more)

  of_comments : (units : List (List ℕ)) → fields_by of (field_comments units) ≡ shape.no_fields
  of_comments [] = refl
  of_comments (u ∷ us) = of_comments us

  fields_are : (cs : List Comment) (n : ℕ) (ls : List source.Line)
      → fields_by of (fields_from S cs n ls) ≡ written_fields (declared_in S.declarations S.file n ls) shape.no_fields
  fields_are cs n [] = of_comments (texts cs)
  fields_are cs n (l ∷ ls) =
      let vs = variables_of S.declarations S.file n in
      let rest = fields_from S (past l.place.line cs) (suc n) ls in
      let more = declared_in S.declarations S.file (suc n) ls in
      without_comments (texts (up_to l.place.line cs)) (line_fields S n l ++ rest)
      ∙ ap (fields_by of) (append_assoc (field_comments (statement_comments S n l)) (map (field_member S) vs) rest)
      ∙ without_comments (statement_comments S n l) (map (field_member S) vs ++ rest)
      ∙ of_variables vs rest
      ∙ ap (written_fields vs) (fields_are (past l.place.line cs) (suc n) ls)
      ∙ sym (written_append vs more shape.no_fields)

-- ---- one level

module _ (U : Upgrade) (test : ℕ → Bool) (users : ℕ → Shape) (S : Scope) (facts : S.facts ≡ U.facts) (declarations : S.declarations ≡ U.program.declarations)
    (of : TypeName → shape.Shape) (t : ℕ)
    (types_same : (v : ℕ) (x : Variable) → covers_field_type test x.ty ≡ true → SameShape U (shape_by users x.bounds x.ty) (of (variable_type S.declarations S.facts S.file v x)))
    (no_arrays : (x : Variable) → covers_field_type test x.ty ≡ true → is_array_shape (shape_by users x.bounds x.ty) ≡ false) where
  abbrev D : Declarations
  D = U.program.declarations

  one_field : (i k : ℕ) (x : Variable) (rest : Shapes) (others : shape.Fields) → field_variable U t i ≡ Some k → slice_get D.vars k ≡ Some x
      → covers_field_type test x.ty ≡ true → SameFields U t (suc i) rest others
      → SameFields U t i (source_shape.next_shape (shape_by users x.bounds x.ty) rest) (shape.next_field x.name (of (field_type S (k, x))) others)
  one_field i k x rest others at is covers more =
      subst
      (λ (name : List ℕ). SameFields U t i (source_shape.next_shape (shape_by users x.bounds x.ty) rest) (shape.next_field name (of (field_type S (k, x))) others))
      named (by (is_flagged_variable S.facts k) refl)
    where
      named : field_name U t i ≡ x.name
      named = ap (variable_name D) at ∙ ap variable_named is
        where
          variable_named : Option Variable → List ℕ
          variable_named None = []
          variable_named (Some y) = y.name

      by : (b : Bool) → is_flagged_variable S.facts k ≡ b
          → SameFields U t i (source_shape.next_shape (shape_by users x.bounds x.ty) rest)
          (shape.next_field (field_name U t i) (of (cond b words.object (variable_type S.declarations S.facts S.file k x))) others)
      by true e =
          let flagged : is_flagged_field U t i ≡ true =
          ap (is_flagged_some U) at
          ∙ ap (λ b. b || is_unknown (type_of U k)) (ap (λ (f : Facts). is_flagged_variable f k) (sym facts) ∙ e) in
          flagged_field t i (shape_by users x.bounds x.ty) (of words.object) rest others flagged more
      by false e =
          let same = types_same k x covers in
          same_field t i (shape_by users x.bounds x.ty) (of (variable_type S.declarations S.facts S.file k x)) rest others same
          (rank_free U t i (shape_by users x.bounds x.ty) (of (variable_type S.declarations S.facts S.file k x)) same (no_arrays x covers)) more

  same_fields : (i : ℕ) (fs : List VarId) (vs : List (ℕ × Variable)) → map number_of vs ≡ map (λ (f : VarId). f.0) fs
      → ((j : ℕ) → slice_get (map (λ (f : VarId). f.0) fs) j ≡ field_variable U t (i + j)) → AreDeclared D vs
      → list_all (λ (f : VarId). covers_field test (slice_get D.vars f.0)) fs ≡ true
      → SameFields U t i (field_shapes D users fs) (written_fields S of vs shape.no_fields)
  same_fields i [] [] e at declared covers = no_fields t i
  same_fields i [] (v ∷ vs) e at declared covers = absurd (cc e)
  same_fields i (f ∷ fs) [] e at declared covers = absurd (cc e)
  same_fields i (f ∷ fs) (v ∷ vs) e at declared covers =
      let number : v.0 ≡ f.0 = ap head_or e in
      let rest : map number_of vs ≡ map (λ (f : VarId). f.0) fs = ap tail_of e in
      let both = both_true (covers_field test (slice_get D.vars f.0)) (list_all (λ (f : VarId). covers_field test (slice_get D.vars f.0)) fs) covers in
      let is : slice_get D.vars v.0 ≡ Some v.1 = declared v (inl refl) in
      let here : field_variable U t i ≡ Some v.0 =
      ap (field_variable U t) (let q : i ≡ i + 0 = omega arith in q) ∙ sym (at 0) ∙ ap Some (sym number) in
      let more : SameFields U t (suc i) (field_shapes D users fs) (written_fields S of vs shape.no_fields) =
      same_fields (suc i) fs vs rest (λ j. at (suc j) ∙ ap (field_variable U t) (let q : i + suc j ≡ suc i + j = omega arith in q)) (λ u m. declared u (inr m)) both.1 in
      let shaped : shape_by users v.1.bounds v.1.ty ≡ declared_shape users (slice_get D.vars f.0) =
      ap (declared_shape users) (sym is) ∙ ap (λ k. declared_shape users (slice_get D.vars k)) number in
      let passes : covers_field_type test v.1.ty ≡ true = ap (covers_field test) (sym is) ∙ ap (λ k. covers_field test (slice_get D.vars k)) number ∙ both.0 in
      subst
      (λ (s : Shape). SameFields U t i (source_shape.next_shape s (field_shapes D users fs)) (written_fields S of (v ∷ vs) shape.no_fields)) shaped
      (one_field i v.0 v.1 (field_shapes D users fs) (written_fields S of vs shape.no_fields) here is passes more)
    where
      head_or : List ℕ → ℕ
      head_or [] = 0
      head_or (k ∷ ks) = k

      tail_of : List ℕ → List ℕ
      tail_of [] = []
      tail_of (k ∷ ks) = ks

-- ---- all levels

module _ (U : Upgrade) (n depth home file : ℕ) (enough : n < depth)
    (users_same : (u : ℕ) (q : Bool) → covers_user_within U.program.declarations n u ≡ true
    → SameShape U (user_shape U.program.declarations n u) (shape_within U.written depth home (words.named (type_path U.program.declarations file q u))))
    (v : ℕ) (x : Variable) where
  abbrev written_for : Ty → TypeName
  written_for ty = type_with U.program.declarations file x.qualified (U.facts.rank v) ty

  abbrev IsSame : Ty → Type 0
  IsSame ty = SameShape U (shape_by (user_shape U.program.declarations n) x.bounds ty) (shape_within U.written depth home (written_for ty))

  scalar_same : (ty : Ty) → covers_type ty ≡ true → (k : ℕ) → depth ≡ suc k → IsSame ty
  scalar_same ty h k e =
      let m : WordOf ty = word_of ty h in
      let written : shape_within U.written depth home (written_for ty) ≡ shape.scalar m.word =
      ap (λ k. shape_within U.written k home (written_for ty)) e
      ∙ m.shaped U.written k home (written_for ty) (m.is_written U.program.declarations file x.qualified (U.facts.rank v)) in
      subst (λ s. SameShape U s (shape_within U.written depth home (written_for ty)))
      (sym (simple_type (user_shape U.program.declarations n) x.bounds ty h))
      (subst (λ d. SameShape U (source_shape.simple ty) d) (sym written) (same_scalar ty m.word m.is_word))

  scalar_at : (ty : Ty) → covers_type ty ≡ true → (k : ℕ) → depth ≡ k → IsSame ty
  scalar_at ty h zero e = absurd (omega (arith, e, enough))
  scalar_at ty h (suc k) e = scalar_same ty h k e

  -- the type of a field
  field_same : (ty : Ty) → covers_field_type (covers_user_within U.program.declarations n) ty ≡ true → IsSame ty
  field_same types.boolean h = scalar_at types.boolean refl depth refl
  field_same types.byte h = scalar_at types.byte refl depth refl
  field_same types.integer h = scalar_at types.integer refl depth refl
  field_same types.long h = scalar_at types.long refl depth refl
  field_same types.currency h = scalar_at types.currency refl depth refl
  field_same types.str h = scalar_at types.str refl depth refl
  field_same (types.user u) h = users_same u x.qualified h
  field_same _ h = absurd (cc h)

  field_no_array : (ty : Ty) → covers_field_type (covers_user_within U.program.declarations n) ty ≡ true
      → is_array_shape (shape_by (user_shape U.program.declarations n) x.bounds ty) ≡ false
  field_no_array types.boolean h = refl
  field_no_array types.byte h = refl
  field_no_array types.integer h = refl
  field_no_array types.long h = refl
  field_no_array types.currency h = refl
  field_no_array types.str h = refl
  field_no_array (types.user u) h = no_array_shape U.program.declarations n u
  field_no_array _ h = absurd (cc h)

module _ (U : Upgrade) (I : IsWritten U) where
  abbrev E : Declarations
  E = U.program.declarations

  abbrev N : net.Project
  N = U.written

  -- a user type down to a depth, and what is written for its name where that is deep enough
  user_same : (n depth home file t : ℕ) (q : Bool) → n < depth → covers_user_within E n t ≡ true → home_of U file ≡ Some home
      → SameShape U (user_shape E n t) (shape_within N depth home (words.named (type_path E file q t)))
  user_same zero depth home file t q l c h = absurd (cc c)
  user_same (suc n) zero home file t q l c h = absurd (omega (arith, l))
  user_same (suc n) (suc depth) home file t q l c h =
      let P : TypeParts E n t = type_parts E n t c in
      let d : TypeDecl = P.declared in
      let L : TypeLed E t d = type_led E t d P.leads in
      let X : Structure U I t d P.is_declared L = structure U I t d P.is_declared L in
      let S : Scope = module_scope U.program U.facts L.placed.0 in
      let of : TypeName → shape.Shape = shape_within N depth L.home in
      let first : ℕ = suc X.place.at.statement in
      let file_same : S.file ≡ d.module = file_is U I t d P.is_declared L in
      let home_same : home_of U S.file ≡ Some L.home = ap (home_of U) file_same ∙ L.is_home in
      let enough : n < depth = omega (arith, l) in
      let numbers : map number_of (declared_in E S.file first X.lines) ≡ map (λ (f : VarId). f.0) d.fields =
      ap (λ k. map number_of (declared_in E k first X.lines)) file_same ∙ sym (numbers_are E d.module first X.lines)
      ∙ same_numbers (fields_declared E d.module first X.lines) (map (λ (f : VarId). f.0) d.fields) X.fields in
      let users : (u : ℕ) (q : Bool) → covers_user_within E n u ≡ true
      → SameShape U (user_shape E n u) (shape_within N depth L.home (words.named (type_path E S.file q u))) =
      λ u q c. user_same n depth L.home S.file u q enough c home_same in
      let fields : SameFields U t 0 (field_shapes E (user_shape E n) d.fields)
      (written_fields S of (declared_in E S.file first X.lines) shape.no_fields) =
      same_fields U (covers_user_within E n) (user_shape E n) S refl refl of t
      (λ v x c. field_same U n depth L.home S.file enough users v x x.ty c) (λ x c. field_no_array U n depth L.home S.file enough users 0 x x.ty c)
      0 d.fields (declared_in E S.file first X.lines) numbers
      (λ j. ap (λ k. slice_get (map (λ (f : VarId). f.0) d.fields) k) (let z : j ≡ 0 + j = omega arith in z)
      ∙ ap (λ o. at_option (type_fields o) (0 + j)) (sym P.is_declared)) (are_declared E S.file first X.lines) P.fields in
      let written : shape_within N (suc depth) home (words.named (type_path E file q t))
      ≡ shape.structured L.home X.number (written_fields S of (declared_in E S.file first X.lines) shape.no_fields) =
      path_leads U I t d P.is_declared L (shape_within N depth) file home q h
      ∙ ap (shape.structured L.home X.number) (fields_are S of X.place.inside first X.lines) in
      subst (λ o. SameShape U (group_by E (λ u. user_shape E n u) t o) (shape_within N (suc depth) home (words.named (type_path E file q t)))) (sym P.is_declared)
      (subst (λ z. SameShape U (source_shape.group t (field_shapes E (user_shape E n) d.fields)) z) (sym written)
      (same_group t L.home X.number (field_shapes E (user_shape E n) d.fields)
      (written_fields S of (declared_in E S.file first X.lines) shape.no_fields) (place_is U I t d P.is_declared L) fields))

  -- ---- how deep they are

  abbrev M : ℕ
  M = count_structures N.modules

  covered_below : (n t : ℕ) → covers_user_within E n t ≡ true → t < M
  covered_below zero t c = absurd (cc c)
  covered_below (suc n) t c =
      let P : TypeParts E n t = type_parts E n t c in
      number_is_below U I t P.declared P.is_declared (type_led E t P.declared P.leads)

  covered_there : (t : ℕ) → covers_user E t ≡ true → covers_user_within E (suc M) t ≡ true
  covered_there t c =
      settled (covers_user_within E) M (λ n u h. deeper_covers E n u h) covered_below
      (λ n closed u h. group_more E (covers_user_within E (suc n)) (covers_user_within E n) closed u (slice_get E.types u) h) (length E.types) t c

  deep_enough : (n : ℕ) → suc n < suc (suc (2 * n))
  deep_enough n = omega arith

  -- what is written for the name of a covered user type in the module of a file has its shape
  pub user_type_same : (home file t : ℕ) (q : Bool) → covers_user E t ≡ true → home_of U file ≡ Some home
      → SameShape U (user_shapes E t) (shape_of N home (words.named (type_path E file q t)))
  user_type_same home file t q c h =
      let there = covered_there t c in
      subst (λ s. SameShape U s (shape_of N home (words.named (type_path E file q t)))) (depths_same E (suc M) (length E.types) t there c)
      (user_same (suc M) (most_depth N) home file t q (deep_enough M) there h)

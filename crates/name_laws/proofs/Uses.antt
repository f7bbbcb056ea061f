-- The variables that clean, covered lines use can be read.
use Rattle.std.proofs.Common.{◌≡◌, refl, ap, sym, subst, ◌∙◌, ◌&&◌, cond, not, ℕ, zero, suc, Bool, true, false, List, [], ◌∷◌, map, Option, Some, None, slice_get}
use Rattle.std.specs.List.{Contains, list_any}
use Rattle.std.proofs.lemmas.Bool.{eqb-true}
use Rattle.vb_tree.specs.BoundTree as types
use Rattle.vb_tree.specs.BoundTree.{Ty}
use Rattle.vb_tree.specs.declared.declared.VarId.{VarId}
use Rattle.bound_tree.specs.declared.marks.Marks.{Marks}
use Rattle.bound_tree.specs.Targets.{Aims, aims_of, steps}
use Rattle.bound_tree.specs.Tree.{Variable, Declarations, Line, Program}
use Rattle.bound_tree.specs.declared.body.Mention.{Mention}
use Rattle.bound_facts.specs.Clean.{variable, point_broken, IsClean}
use Rattle.bound_facts.specs.Locks.{is_same_type}
use Rattle.bound_facts.specs.Members.{class_files, field_of}
use Rattle.run_base.specs.Machines.{nth_line, line_in, line_at}
use Rattle.vb6_run.specs.Forms.{SourceLine, with_aims, body_of}
use Rattle.vb6_run.specs.Lines.{source_lines}
use Rattle.vb6_run.specs.Programs.{machine_of}
use Rattle.run_matches.specs.CleanLines.{IsCleanLine, IsSoundPoint, lines_at, or_none, line_points}
use Rattle.run_matches.specs.CoveredVariables.{covers_variable, is_reached, covers_some, is_mention_of, covers_use, covers_array_use, covers_array_variable, covers_auto_use, covers_made, covers_some_array, is_named_apart, covers_group_type, covers_group_use, covers_group_variable, covers_some_group, field_type_in, field_type_of, is_member, member_type_in, member_type_of, takes_value_at}
use Rattle.run_matches.specs.CoveredExprs.{uses_in, is_taking}
use Rattle.run_matches.specs.SoundShapes.{IsField}
use Rattle.run_matches.specs.Upgrades.{Upgrade, field_variable, is_unknown, runnable_of, type_of_some}
use Rattle.written_trees.specs.Names.{Scope}
use Rattle.name_laws.proofs.Inward.{seen_inward}
use Rattle.run_statements.specs.Frames.{AreReadable, IsArray, IsAutoOf, IsGroup, IsMember, IsReadable}
use Rattle.run_statements.specs.Written.{IsWritten}
use Rattle.name_laws.proofs.Lists.{both_true, some_same, any_among}
use Rattle.bound_tree.specs.RuleSets.{is_broken}
use Rattle.written_trees.specs.Facts.{line_set}
use Rattle.name_laws.proofs.Autos.{AutoUse, auto_use, usable_auto}
use Rattle.name_laws.proofs.Arrows.{lines_unbroken, mentioned_path, mention_is_point}
use Rattle.name_laws.proofs.CoveredTypes.{holds_no_array}
use Rattle.name_laws.proofs.Members.{object_member}
use Rattle.name_laws.proofs.SoundPoints.{clean_sound, is_unflagged, sound_unbroken}
use Rattle.name_laws.proofs.Sets.{unbroken_line, unbroken_that}
use Rattle.name_laws.proofs.Owns.{group_parts, readable, usable_array, usable_group, uses_exact}
use Rattle.run_matches.specs.Frames.{is_scalar_in}

-- a covered use is of a variable that is reached
pub record CoveredUse (P : Program) (p v : ℕ) : Type 0 where
  pub used : Variable
  pub is_used : slice_get P.declarations.vars v ≡ Some used
  pub reached : is_reached P.declarations p v used.name used.owner ≡ true
  pub covers : covers_variable used ≡ true

pub use_is : (P : Program) (p v : ℕ) → covers_some P.declarations p v (slice_get P.declarations.vars v) ≡ true → CoveredUse P p v
use_is P p v h = by (slice_get P.declarations.vars v) refl h
  where
    by : (o : Option Variable) → slice_get P.declarations.vars v ≡ o → covers_some P.declarations p v o ≡ true → CoveredUse P p v
    by None e k = absurd (cc k)
    by (Some x) e k =
        let b = both_true (is_reached P.declarations p v x.name x.owner) (covers_variable x) k in
        record { used = x; is_used = e; reached = b.0; covers = b.1 }

-- a covered use of an array is of a variable that is reached
pub record ArrayUse (P : Program) (p v : ℕ) (element : Ty) : Type 0 where
  pub used : Variable
  pub is_used : slice_get P.declarations.vars v ≡ Some used
  pub reached : is_reached P.declarations p v used.name used.owner ≡ true
  pub covers : covers_array_variable element used ≡ true
  pub apart : is_named_apart (slice_get P.declarations.procs p) used.name ≡ true

array_use_of : (P : Program) (p v : ℕ) (element : Ty) → covers_some_array P.declarations p v element (slice_get P.declarations.vars v) ≡ true
    → ArrayUse P p v element
array_use_of P p v element h = by (slice_get P.declarations.vars v) refl h
  where
    by : (o : Option Variable) → slice_get P.declarations.vars v ≡ o → covers_some_array P.declarations p v element o ≡ true → ArrayUse P p v element
    by None e k = absurd (cc k)
    by (Some x) e k =
        let apart = is_named_apart (slice_get P.declarations.procs p) x.name in
        let b = both_true (is_reached P.declarations p v x.name x.owner) (covers_array_variable element x && apart) k in
        let c = both_true (covers_array_variable element x) apart b.1 in
        record { used = x; is_used = e; reached = b.0; covers = c.0; apart = c.1 }

-- what a line mentions, and what is covered of it
pub array_parts : (P : Program) (p : ℕ) (mentions : List Mention) (v : VarId) (element : Ty) → covers_array_use P p mentions v element ≡ true
    → (list_any (is_mention_of v) mentions ≡ true) × ArrayUse P p v.0 element
array_parts P p mentions v element h =
    let covers = covers_some_array P.declarations p v.0 element (slice_get P.declarations.vars v.0) in
    let b = both_true (list_any (is_mention_of v) mentions) covers h in
    (b.0, array_use_of P p v.0 element b.1)

pub used_parts : (P : Program) (p : ℕ) (mentions : List Mention) (v : VarId) → covers_use P p mentions v ≡ true
    → (list_any (is_mention_of v) mentions ≡ true) × CoveredUse P p v.0
used_parts P p mentions v h =
    let b = both_true (list_any (is_mention_of v) mentions) (covers_some P.declarations p v.0 (slice_get P.declarations.vars v.0)) h in
    (b.0, use_is P p v.0 b.1)

-- the lines of the procedure with a line
pub record HasLine (P : Program) (p k : ℕ) (l : Line) : Type 0 where
  pub lines : List Line
  pub are_lines : slice_get P.bodies p ≡ Some lines
  pub is_line : slice_get lines k ≡ Some l

pub has_line : (P : Program) (p k : ℕ) (l : Line) → nth_line (lines_at P p) (suc k) ≡ Some l → HasLine P p k l
has_line P p k l h = by (slice_get P.bodies p) refl h
  where
    by : (o : Option (List Line)) → slice_get P.bodies p ≡ o → slice_get (or_none o) k ≡ Some l → HasLine P p k l
    by None e f = absurd (cc f)
    by (Some lines) e f = record { lines = lines; are_lines = e; is_line = f }

-- ---- of user types and classes

-- a covered use of a variable of a user type or a class is of one that is reached
pub record GroupUse (P : Program) (p v : ℕ) (ty : Ty) : Type 0 where
  pub used : Variable
  pub is_used : slice_get P.declarations.vars v ≡ Some used
  pub reached : is_reached P.declarations p v used.name used.owner ≡ true
  pub is_type : used.ty ≡ ty
  pub covers : covers_group_variable P.declarations used ≡ true

same_user : (t : ℕ) (ty : Ty) → is_same_type ty (types.user t) ≡ true → types.user t ≡ ty
same_user t (types.user u) h = ap types.user (sym (eqb-true u t h))
same_user t _ h = absurd (cc h)

same_class : (c : ℕ) (ty : Ty) → is_same_type ty (types.class c) ≡ true → types.class c ≡ ty
same_class c (types.class d) h = ap types.class (sym (eqb-true d c h))
same_class c _ h = absurd (cc h)

same_group : (D : Declarations) (of ty : Ty) → covers_group_type D of ≡ true → is_same_type ty of ≡ true → of ≡ ty
same_group D (types.user t) ty h e = same_user t ty e
same_group D (types.class c) ty h e = same_class c ty e
same_group D _ ty h e = absurd (cc h)

group_use_of : (P : Program) (p v : ℕ) (ty : Ty) → covers_some_group P.declarations p v ty (slice_get P.declarations.vars v) ≡ true
    → GroupUse P p v ty
group_use_of P p v ty h = by (slice_get P.declarations.vars v) refl h
  where
    by : (o : Option Variable) → slice_get P.declarations.vars v ≡ o → covers_some_group P.declarations p v ty o ≡ true → GroupUse P p v ty
    by None e k = absurd (cc k)
    by (Some x) e k =
        let b = both_true (is_reached P.declarations p v x.name x.owner) (is_same_type ty x.ty && covers_group_variable P.declarations x) k in
        let c = both_true (is_same_type ty x.ty) (covers_group_variable P.declarations x) b.1 in
        let same : x.ty ≡ ty = same_group P.declarations x.ty ty (group_parts P.declarations x c.1).covers c.0 in
        record { used = x; is_used = e; reached = b.0; is_type = same; covers = c.1 }

pub group_use : (P : Program) (p : ℕ) (mentions : List Mention) (v : VarId) (ty : Ty) → covers_group_use P p mentions v ty ≡ true
    → (list_any (is_mention_of v) mentions ≡ true) × GroupUse P p v.0 ty
group_use P p mentions v ty h =
    let covers = covers_some_group P.declarations p v.0 ty (slice_get P.declarations.vars v.0) in
    let b = both_true (list_any (is_mention_of v) mentions) covers h in
    (b.0, group_use_of P p v.0 ty b.1)

-- ---- what can be read

-- what is known of what a line mentions, where no chain from there leads to what breaks a rule
module _ (U : Upgrade) (I : IsWritten U) (p : ℕ) (mentions : List Mention)
    (sound : (v : VarId) → list_any (is_mention_of v) mentions ≡ true → IsSoundPoint U.program U.facts.marks (variable v.0)) where
  abbrev D : Declarations
  D = U.program.declarations

  unbroken : (v : VarId) → list_any (is_mention_of v) mentions ≡ true → point_broken D U.facts.marks (variable v.0) ≡ false
  unbroken v h = sound_unbroken U.program U.facts.marks (variable v.0) (sound v h)

  scalar_readable : (v : VarId) → covers_use U.program p mentions v ≡ true → IsReadable U v.0
  scalar_readable v h =
      let b = used_parts U.program p mentions v h in
      let used : CoveredUse U.program p v.0 = b.1 in
      readable U I.known v.0 used.used used.is_used used.covers (unbroken v b.0)

  array_readable : (v : VarId) (element : Ty) → covers_array_use U.program p mentions v element ≡ true → IsArray U v.0 element
  array_readable v element h =
      let b = array_parts U.program p mentions v element h in
      let used : ArrayUse U.program p v.0 element = b.1 in
      usable_array U I v.0 used.used element used.is_used used.covers (unbroken v b.0)

  group_readable : (v : VarId) (ty : Ty) → covers_group_use U.program p mentions v ty ≡ true → IsGroup U v.0 ty
  group_readable v ty h =
      let b = group_use U.program p mentions v ty h in
      let used : GroupUse U.program p v.0 ty = b.1 in
      subst (λ z. IsGroup U v.0 z) used.is_type (usable_group U I v.0 used.used used.is_used used.covers (sound v b.0))

  auto_readable : (v : VarId) (ty : Ty) → covers_auto_use U.program p mentions v ty ≡ true
      → (class : ℕ) × (ty ≡ types.class class) × IsAutoOf U v.0 class × (covers_made U.program class ≡ true)
  auto_readable v ty h =
      let b = auto_use U.program p mentions v ty h in
      let u : AutoUse U.program p v.0 ty = b.1 in
      (u.parts.class, u.is_type, usable_auto U v.0 u.used u.is_used u.parts (sound v b.0), u.made)

  -- a field that is mentioned
  field_readable : (t k : ℕ) (ty : Ty) → field_type_in D mentions t k ≡ Some ty → IsField U t k ty
  field_readable t k ty h = by (field_variable U t k) refl h
    where
      by_variable : (v : ℕ) → field_variable U t k ≡ Some v → list_any (is_mention_of (record { 0 = v })) mentions ≡ true → (o : Option Variable)
          → slice_get D.vars v ≡ o → type_of_some o ≡ Some ty → is_unknown (type_of_some o) ≡ false → IsField U t k ty
      by_variable v e m None is at known = absurd (cc at)
      by_variable v e m (Some x) is at known = record {
        variable = v;
        declares = e;
        is_type = ap type_of_some is ∙ at;
        sound = is_unflagged U v x is known (unbroken (record { 0 = v }) m);
      }

      by_test : (v : ℕ) → field_variable U t k ≡ Some v → (a b : Bool) → list_any (is_mention_of (record { 0 = v })) mentions ≡ a
          → is_unknown (type_of_some (slice_get D.vars v)) ≡ b → cond (a && not b) (type_of_some (slice_get D.vars v)) None ≡ Some ty → IsField U t k ty
      by_test v e true false m known at = by_variable v e m (slice_get D.vars v) refl at known
      by_test v e true true m known at = absurd (cc at)
      by_test v e false b m known at = absurd (cc at)

      by : (o : Option ℕ) → field_variable U t k ≡ o → field_type_of D mentions o ≡ Some ty → IsField U t k ty
      by None e at = absurd (cc at)
      by (Some v) e at =
          by_test v e (list_any (is_mention_of (record { 0 = v })) mentions) (is_unknown (type_of_some (slice_get D.vars v))) refl refl at

  -- a variable of an object that is mentioned
  member_readable : (c k : ℕ) (ty : Ty) → member_type_in D mentions c k ≡ Some ty → IsMember U c k ty
  member_readable c k ty h = by_number (field_of D (types.class c) k) refl h
    where
      by_variable : (v file : ℕ) → slice_get (class_files D.project) c ≡ Some file → field_of D (types.class c) k ≡ Some v
          → list_any (is_mention_of (record { 0 = v })) mentions ≡ true → (o : Option Variable) → slice_get D.vars v ≡ o → is_member D file v o ≡ true
          → type_of_some o ≡ Some ty → IsMember U c k ty
      by_variable v file f e m None is test at = absurd (cc at)
      by_variable v file f e m (Some x) is test at =
          subst (λ z. IsMember U c k z) (some_same x.ty ty at) (object_member U I c k file v x f e is test (unbroken (record { 0 = v }) m))

      by_test : (v file : ℕ) → slice_get (class_files D.project) c ≡ Some file → field_of D (types.class c) k ≡ Some v → (a b : Bool)
          → list_any (is_mention_of (record { 0 = v })) mentions ≡ a → is_member D file v (slice_get D.vars v) ≡ b
          → cond (a && b) (type_of_some (slice_get D.vars v)) None ≡ Some ty → IsMember U c k ty
      by_test v file f e true true m test at = by_variable v file f e m (slice_get D.vars v) refl test at
      by_test v file f e true false m test at = absurd (cc at)
      by_test v file f e false b m test at = absurd (cc at)

      by_file : (v : ℕ) → field_of D (types.class c) k ≡ Some v → (o : Option ℕ) → slice_get (class_files D.project) c ≡ o
          → member_type_of D mentions o (Some v) ≡ Some ty → IsMember U c k ty
      by_file v e None f at = absurd (cc at)
      by_file v e (Some file) f at =
          by_test v file f e (list_any (is_mention_of (record { 0 = v })) mentions) (is_member D file v (slice_get D.vars v)) refl refl at

      by_number : (o : Option ℕ) → field_of D (types.class c) k ≡ o → member_type_of D mentions (slice_get (class_files D.project) c) o ≡ Some ty
          → IsMember U c k ty
      by_number None e at = absurd (cc at)
      by_number (Some v) e at = by_file v e (slice_get (class_files D.project) c) refl at

  mentioned_readable : (T : Scope) → T.facts ≡ U.facts → AreReadable U T (uses_in U.program p mentions)
  mentioned_readable T same = record {
    scalars = scalar_readable;
    arrays = array_readable;
    groups = group_readable;
    autos = auto_readable;
    fields = field_readable;
    made = λ c h. h;
    members = member_readable;
    given = λ ty h. h;
    flat = holds_no_array U I;
    exact = λ v h. ap (λ b. b && is_scalar_in (slice_get U.program.declarations.vars v.0)) (uses_exact U I.known v.0 h);
    facts = same;
    types = λ v ty h. h;
    gives = λ q h. h;
    takes = λ q n ty h.
        both_true (is_taking U.program.declarations n ty (slice_get U.program.declarations.procs q)) (takes_value_at U.program q n) h;
    results = λ q ty h. h;
    inward = λ q h. seen_inward U.program U.known I.known q h;
    sees_inward = λ q h. h;
    relied = λ v h. h;
  }

-- in a clean procedure
mention_sound : (P : Program) (M : Marks) (p k : ℕ) (l : Line) (v : VarId) → IsClean P M p → nth_line (lines_at P p) (suc k) ≡ Some l
    → list_any (is_mention_of v) l.bindings.mentions ≡ true → IsSoundPoint P M (variable v.0)
mention_sound P M p k l v clean e h =
    let at : HasLine P p k l = has_line P p k l e in
    let m = any_among (is_mention_of v) l.bindings.mentions h in
    clean_sound P M p (variable v.0) clean (mentioned_path P p k at.lines l v m.0 at.are_lines at.is_line m.1 m.2)

pub uses_are_readable : (U : Upgrade) → IsWritten U → (p k : ℕ) (l : Line) → IsClean U.program U.facts.marks p → nth_line (lines_at U.program p) (suc k) ≡ Some l
    → (T : Scope) → T.facts ≡ U.facts → AreReadable U T (uses_in U.program p l.bindings.mentions)
uses_are_readable U I p k l clean e T same =
    mentioned_readable U I p l.bindings.mentions (λ v h. mention_sound U.program U.facts.marks p k l v clean e h) T same

-- the line that is clean by itself
pub clean_line_is : (P : Program) (M : Marks) (p number : ℕ) (l : Line) (C : IsCleanLine P M p number) → nth_line (lines_at P p) number ≡ Some l → C.itself.line ≡ l
clean_line_is P M p number l C e = some_same C.itself.line l (sym C.itself.is_line ∙ e)

-- what a clean line mentions leads to nothing that breaks a rule
line_sound : (P : Program) (M : Marks) (p number : ℕ) (l : Line) (v : VarId) → IsCleanLine P M p number → nth_line (lines_at P p) number ≡ Some l
    → list_any (is_mention_of v) l.bindings.mentions ≡ true → IsSoundPoint P M (variable v.0)
line_sound P M p number l v C e h =
    let m = any_among (is_mention_of v) l.bindings.mentions h in
    C.itself.mentions (variable v.0)
    (subst (λ (k : Line). Contains (line_points P.declarations p k) (variable v.0)) (sym (clean_line_is P M p number l C e))
    (mention_is_point P.declarations p l v m.0 m.1 m.2))

-- nor breaks it one
pub mentioned_unbroken : (P : Program) (M : Marks) (p number : ℕ) (l : Line) (v : VarId) → IsCleanLine P M p number → nth_line (lines_at P p) number ≡ Some l
    → list_any (is_mention_of v) l.bindings.mentions ≡ true → point_broken P.declarations M (variable v.0) ≡ false
mentioned_unbroken P M p number l v C e h = sound_unbroken P M (variable v.0) (line_sound P M p number l v C e h)

-- in a line that is clean by itself
pub line_uses_are_readable : (U : Upgrade) → IsWritten U → (p number : ℕ) (l : Line) → IsCleanLine U.program U.facts.marks p number → nth_line (lines_at U.program p) number ≡ Some l
    → (T : Scope) → T.facts ≡ U.facts → AreReadable U T (uses_in U.program p l.bindings.mentions)
line_uses_are_readable U I p number l C e T same =
    mentioned_readable U I p l.bindings.mentions (λ v h. line_sound U.program U.facts.marks p number l v C e h) T same

-- ---- what lines break

-- a line of a clean procedure breaks no rule
pub clean_unbroken : (U : Upgrade) (p k : ℕ) → IsClean U.program U.facts.marks p → is_broken (line_set U.facts p k) ≡ false
clean_unbroken U p k clean = unbroken_line (slice_get U.facts.marks.lines p) k (lines_unbroken U.program U.facts.marks p clean)

-- nor does one that is clean by itself
pub clean_line_unbroken : (U : Upgrade) (p k : ℕ) → IsCleanLine U.program U.facts.marks p (suc k) → is_broken (line_set U.facts p k) ≡ false
clean_line_unbroken U p k clean = unbroken_that (slice_get U.facts.marks.lines p) k clean.itself.unbroken

-- ---- the lines of the machine

abbrev form_in : Option SourceLine → Option Line
form_in None = None
form_in (Some y) = Some y.form

aimed_at : (lines : List Line) (aims : List Aims) (k : ℕ) (l : SourceLine) → slice_get (with_aims lines aims) k ≡ Some l → slice_get lines k ≡ Some l.form
aimed_at [] aims k l e = absurd (cc e)
aimed_at (x ∷ xs) [] k l e = absurd (cc e)
aimed_at (x ∷ xs) (a ∷ aims) zero l e = ap form_in e
aimed_at (x ∷ xs) (a ∷ aims) (suc k) l e = aimed_at xs aims k l e

bound_in : (bodies : List (List Line)) (i k : ℕ) (l : SourceLine) → line_in (slice_get (map body_of bodies) i) (suc k) ≡ Some l
    → nth_line (or_none (slice_get bodies i)) (suc k) ≡ Some l.form
bound_in [] i k l h = absurd (cc h)
bound_in (lines ∷ bodies) zero k l h = aimed_at lines (aims_of (steps (source_lines lines))) k l h
bound_in (lines ∷ bodies) (suc i) k l h = bound_in bodies i k l h

-- a line of the machine is the bound line of its number
pub line_is_bound : (U : Upgrade) (p k : ℕ) (l : SourceLine) → line_at (machine_of (runnable_of U)) p (suc k) ≡ Some l
    → nth_line (lines_at U.program p) (suc k) ≡ Some l.form
line_is_bound U p k l e = bound_in U.program.bodies p k l e

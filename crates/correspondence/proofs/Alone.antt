-- The variables of a covered procedure have their names alone.
use Rattle.std.proofs.Common.{◌≡◌, ◌⊎◌, ℕ, zero, suc, ◌+◌, Bool, true, false, not, ◌&&◌, cond, nat_eq, List, [], ◌∷◌, ◌++◌, map, Option, Some, None, refl, sym, ap, ◌∙◌, subst, inl, inr, arith}
use Rattle.std.specs.Cmp.Lexicographic.{bytes_decides, pointwise}
use Rattle.std.specs.List.{list_all}
use Rattle.std.specs.Prelude.{◌||◌, slice_get}
use Rattle.up_base.specs.Names.{is_same_name, lower_case}
use Rattle.up_base.proofs.Lists.{both_true}
use Rattle.vb_tree.specs.Blocks.{is_code}
use Rattle.vb_tree.specs.Tree.{Form}
use Rattle.vb_tree.specs.Tree as source
use Rattle.vb_tree.specs.declared.declared.Owner.{Owner}
use Rattle.vb_tree.specs.declared.declared.Owner.TheVariants as owner
use Rattle.vb_tree.specs.declared.declared.VarId.{VarId}
use Rattle.bound_tree.specs.Tree.{Variable, Constant, Procedure, Declarations, Program}
use Rattle.written_trees.specs.Prologues.{declares, is_statement, variables_from, variables_of, constants_of, is_static}
use Rattle.vb6_run.specs.Programs.{answer_in, is_local_of, owned_from, is_static_of}
use Rattle.run_matches.specs.Callees.{answer_owns, frame_owns, own_of_some, parameter_owns}
use Rattle.run_matches.specs.CoveredVariables.{are_different, belongs_to, covers_declared, covers_owner, has_extents, is_named_in}
use Rattle.net_run.specs.Members.{is_same_flag}
use Rattle.run_matches.specs.Covered.{has_no_static, is_class_number, covers_body, covers_all_calls, covers_head, covers_joined, covers_names, covers_own, covers_owns, covers_parameter, covers_procedure, covers_result, covers_site, covers_variables, has_result, is_answer_of, is_parameter_of}
use Rattle.run_matches.specs.Sites.{Own, own_variable, own_constant, own_name, own_variables, own_constants, statement_owns, owns_from, owns_of, Site, site_of, site_lines, first_statement, local_numbers, static_numbers}
use Rattle.correspondence.specs.Lists.{In}
use Rattle.correspondence.specs.Uses.{IsAlone}
use Rattle.correspondence.proofs.Among.{has_any, in_either, in_left, in_map, in_right, from_map}
use Rattle.correspondence.proofs.Naming.{some_same}
use Rattle.correspondence.proofs.Variables.{declared_owner}

same_list : (a c : List ℕ) → pointwise nat_eq a c ≡ true → a ≡ c
same_list a c h = (bytes_decides a c).0 h

same_turned : (a c : List ℕ) → is_same_name a c ≡ true → is_same_name c a ≡ true
same_turned a c h = (bytes_decides (lower_case c) (lower_case a)).1 (sym (same_list (lower_case a) (lower_case c) h))

-- ---- what lines declare is declared

abbrev IsNumber : (k : ℕ) → List Variable → ℕ × Variable → Type 0
IsNumber k vs v = (i : ℕ) × (v.0 ≡ k + i) × (slice_get vs i ≡ Some v.1)

first_number : (k : ℕ) (x : Variable) (xs : List Variable) (v : ℕ × Variable) → v ≡ (k, x) → IsNumber k (x ∷ xs) v
first_number k x xs v e =
    let here : v.0 ≡ k = ap (λ (u : ℕ × Variable). u.0) e in
    (0, omega (arith, here), ap Some (sym (ap (λ (u : ℕ × Variable). u.1) e)))

next_number : (k : ℕ) (x : Variable) (xs : List Variable) (v : ℕ × Variable) → IsNumber (suc k) xs v → IsNumber k (x ∷ xs) v
next_number k x xs v h = let place = h.1 in (suc h.0, omega (arith, place), h.2)

variables_are : (file n k : ℕ) (vs : List Variable) (v : ℕ × Variable) → In v (variables_from file n k vs) → IsNumber k vs v
variables_are file n k [] v h = absurd h
variables_are file n k (x ∷ xs) v h = by (is_statement file n x.place x.statement) h (λ m. variables_are file n (suc k) xs v m)
  where
    by : (c : Bool) → In v (cond c ((k, x) ∷ variables_from file n (suc k) xs) (variables_from file n (suc k) xs))
        → (In v (variables_from file n (suc k) xs) → IsNumber (suc k) xs v) → IsNumber k (x ∷ xs) v
    by true (inl e) more = first_number k x xs v e
    by true (inr m) more = next_number k x xs v (more m)
    by false m more = next_number k x xs v (more m)

abbrev IsOwn : Declarations → Own → Type 0
IsOwn D (own_variable v x) = slice_get D.vars v ≡ Some x
IsOwn D (own_constant c x) = Unit {0}

variable_own : (D : Declarations) (file n : ℕ) (o : Own) → In o (own_variables (variables_of D file n)) → IsOwn D o
variable_own D file n o h =
    let found = from_map (λ (v : ℕ × Variable). own_variable v.0 v.1) (variables_of D file n) o h in
    let number = variables_are file n 0 D.vars found.0 found.1 in
    let place = number.1 in
    let same : number.0 ≡ found.0.0 = omega (arith, place) in
    subst (IsOwn D) (sym found.2) (sym (ap (slice_get D.vars) same) ∙ number.2)

constant_own : (D : Declarations) (file n : ℕ) (o : Own) → In o (own_constants (constants_of D file n)) → IsOwn D o
constant_own D file n o h =
    let found = from_map (λ (c : ℕ × Constant). own_constant c.0 c.1) (constants_of D file n) o h in
    subst (IsOwn D) (sym found.2) tt

statement_own : (D : Declarations) (file n : ℕ) (o : Own) → In o (statement_owns D file n) → IsOwn D o
statement_own D file n o h = by (in_either (own_variables (variables_of D file n)) (own_constants (constants_of D file n)) o h)
  where
    by : In o (own_variables (variables_of D file n)) ⊎ In o (own_constants (constants_of D file n)) → IsOwn D o
    by (inl i) = variable_own D file n o i
    by (inr i) = constant_own D file n o i

lines_own : (D : Declarations) (file : ℕ) (test : Form → Bool) (n : ℕ) (lines : List source.Line) (o : Own) → In o (owns_from D file test n lines) → IsOwn D o
lines_own D file test n [] o h = absurd h
lines_own D file test n (l ∷ ls) o h =
    by (test l.form) (in_either (cond (test l.form) (statement_owns D file n) []) (owns_from D file test (suc n) ls) o h) (λ i. lines_own D file test (suc n) ls o i)
  where
    by : (c : Bool) → In o (cond c (statement_owns D file n) []) ⊎ In o (owns_from D file test (suc n) ls)
        → (In o (owns_from D file test (suc n) ls) → IsOwn D o) → IsOwn D o
    by true (inl i) more = statement_own D file n o i
    by false (inl i) more = absurd i
    by c (inr i) more = more i

own_is : (D : Declarations) (s : Site) (o : Own) → In o (owns_of D s) → IsOwn D o
own_is D s o h =
    let file = s.source_module.file in
    by (in_either (owns_from D file declares (first_statement s) (site_lines s)) (owns_from D file is_code (first_statement s) (site_lines s)) o h)
  where
    by : In o (owns_from D s.source_module.file declares (first_statement s) (site_lines s))
        ⊎ In o (owns_from D s.source_module.file is_code (first_statement s) (site_lines s)) → IsOwn D o
    by (inl i) = lines_own D s.source_module.file declares (first_statement s) (site_lines s) o i
    by (inr i) = lines_own D s.source_module.file is_code (first_statement s) (site_lines s) o i

-- ---- the variables of the procedure are declared by its lines

local_of_number : (os : List Own) (u : ℕ) → In u (local_numbers os) → (z : Variable) × In (own_variable u z) os
local_of_number [] u h = absurd h
local_of_number (own_constant c x ∷ os) u i = let more = local_of_number os u i in (more.0, inr more.1)
local_of_number (own_variable v x ∷ os) u i = by (is_static x.owner) i (λ j. local_of_number os u j)
  where
    by : (c : Bool) → In u (cond c [] (v ∷ []) ++ local_numbers os) → (In u (local_numbers os) → (z : Variable) × In (own_variable u z) os)
        → (z : Variable) × In (own_variable u z) (own_variable v x ∷ os)
    by true j more = let r = more j in (r.0, inr r.1)
    by false (inl e) more = (x, inl (ap (λ (w : ℕ). own_variable w x) e))
    by false (inr j) more = let r = more j in (r.0, inr r.1)

static_of_number : (os : List Own) (u : ℕ) → In u (static_numbers os) → (z : Variable) × In (own_variable u z) os
static_of_number [] u h = absurd h
static_of_number (own_constant c x ∷ os) u i = let more = static_of_number os u i in (more.0, inr more.1)
static_of_number (own_variable v x ∷ os) u i = by (is_static x.owner) i (λ j. static_of_number os u j)
  where
    by : (c : Bool) → In u (cond c (v ∷ []) [] ++ static_numbers os) → (In u (static_numbers os) → (z : Variable) × In (own_variable u z) os)
        → (z : Variable) × In (own_variable u z) (own_variable v x ∷ os)
    by true (inl e) more = (x, inl (ap (λ (w : ℕ). own_variable w x) e))
    by true (inr j) more = let r = more j in (r.0, inr r.1)
    by false j more = let r = more j in (r.0, inr r.1)

owned_at : (test : Owner → Bool) (k : ℕ) (xs : List Variable) (i j : ℕ) (y : Variable) → j ≡ k + i → slice_get xs i ≡ Some y → test y.owner ≡ true
    → In j (owned_from test k xs)
owned_at test k [] i j y n e h = absurd (cc e)
owned_at test k (x ∷ xs) zero j y n e h =
    here (test x.owner) (ap (λ (z : Variable). test z.owner) (some_same x y e) ∙ h)
  where
    here : (c : Bool) → c ≡ true → In j (cond c (k ∷ owned_from test (suc k) xs) (owned_from test (suc k) xs))
    here true f = inl (omega (arith, n))
    here false f = absurd (cc f)
owned_at test k (x ∷ xs) (suc i) j y n e h = behind (test x.owner) (owned_at test (suc k) xs i j y (omega (arith, n)) e h)
  where
    behind : (c : Bool) → In j (owned_from test (suc k) xs) → In j (cond c (k ∷ owned_from test (suc k) xs) (owned_from test (suc k) xs))
    behind true i = inr i
    behind false i = i

-- ---- different names

different : (os : List Own) (a c : Own) → are_different (map own_name os) ≡ true → In a os → In c os → is_same_name (own_name a) (own_name c) ≡ true → a ≡ c
different [] a c h i j e = absurd i
different (o ∷ os) a c h i j e =
    let both = both_true (not (is_named_in (own_name o) (map own_name os))) (are_different (map own_name os)) h in
    by both.0 i j (λ k l. different os a c both.1 k l e)
  where
    not_named : (d : Own) → not (is_named_in (own_name o) (map own_name os)) ≡ true → In d os → is_same_name (own_name o) (own_name d) ≡ true → ⊥
    not_named d n k f =
        let named : is_named_in (own_name o) (map own_name os) ≡ true =
        has_any (is_same_name (own_name o)) (map own_name os) (own_name d) (in_map own_name os d k) f in
        absurd (cc (sym n ∙ ap not named))

    by : not (is_named_in (own_name o) (map own_name os)) ≡ true → (a ≡ o) ⊎ In a os → (c ≡ o) ⊎ In c os → (In a os → In c os → a ≡ c) → a ≡ c
    by n (inl f) (inl g) more = f ∙ sym g
    by n (inl f) (inr l) more = absurd (not_named c n l (sym (ap (λ (d : Own). is_same_name (own_name d) (own_name c)) f) ∙ e))
    by n (inr k) (inl g) more =
        absurd (not_named a n k (same_turned (own_name a) (own_name o) (sym (ap (λ (d : Own). is_same_name (own_name a) (own_name d)) g) ∙ e)))
    by n (inr k) (inr l) more = more k l

-- ---- covered procedures

record Covers (P : Program) (p : ℕ) (s : Site) : Type 0 where
  locals : pointwise nat_eq (local_numbers (owns_of P.declarations s)) (owned_from (is_local_of p) 0 P.declarations.vars) ≡ true
  statics : pointwise nat_eq (static_numbers (owns_of P.declarations s)) (owned_from (is_static_of p) 0 P.declarations.vars) ≡ true
  procedure : Procedure
  params : pointwise nat_eq (map (λ (v : VarId). v.0) procedure.params) (owned_from (is_parameter_of p) 0 P.declarations.vars) ≡ true
  answer : pointwise nat_eq (answer_in procedure.answer) (owned_from (is_answer_of p) 0 P.declarations.vars) ≡ true
  apart : are_different (map own_name (frame_owns P.declarations (Some procedure) s)) ≡ true
  vars : covers_variables P p ≡ true

covered_parts : (P : Program) (p : ℕ) (s : Site) → site_of P.declarations p ≡ Some s → covers_procedure P p ≡ true → Covers P p s
covered_parts P p s e h =
    let D = P.declarations in
    let os = owns_of D s in
    let whole = both_true (covers_all_calls P p (slice_get P.bodies p)) (covers_names D && (covers_head P p (slice_get D.procs p)
    && (covers_site D p (site_of D p) && (covers_variables P p && covers_body P p (slice_get P.bodies p))))) h in
    let a = both_true (covers_names D) (covers_head P p (slice_get D.procs p)
    && (covers_site D p (site_of D p) && (covers_variables P p && covers_body P p (slice_get P.bodies p)))) whole.1 in
    let b = both_true (covers_head P p (slice_get D.procs p)) (covers_site D p (site_of D p) && (covers_variables P p && covers_body P p (slice_get P.bodies p))) a.1 in
    let c = both_true (covers_site D p (site_of D p)) (covers_variables P p && covers_body P p (slice_get P.bodies p)) b.1 in
    let d = both_true (covers_variables P p) (covers_body P p (slice_get P.bodies p)) c.1 in
    let site : covers_site D p (Some s) ≡ true = sym (ap (covers_site D p) e) ∙ c.0 in
    let names = are_different (map own_name (frame_owns D (slice_get D.procs p) s)) in
    let alike = list_all has_no_static os || is_same_flag (is_class_number D (slice_get D.procs p)) s.source_module.class in
    let f = both_true (covers_owns D p os) names (both_true alike (covers_owns D p os && names) site).1 in
    let locals = pointwise nat_eq (local_numbers os) (owned_from (is_local_of p) 0 D.vars) in
    let statics = pointwise nat_eq (static_numbers os) (owned_from (is_static_of p) 0 D.vars) in
    let g = both_true (locals && statics) (list_all (covers_own D p) os) f.0 in
    let j = both_true locals statics g.0 in
    by (slice_get D.procs p) b.0 f.1 j.0 j.1 d.0
  where
    by : (o : Option Procedure) → covers_head P p o ≡ true → are_different (map own_name (frame_owns P.declarations o s)) ≡ true
        → pointwise nat_eq (local_numbers (owns_of P.declarations s)) (owned_from (is_local_of p) 0 P.declarations.vars) ≡ true
        → pointwise nat_eq (static_numbers (owns_of P.declarations s)) (owned_from (is_static_of p) 0 P.declarations.vars) ≡ true
        → covers_variables P p ≡ true → Covers P p s
    by None h names locals statics vars = absurd (cc h)
    by (Some x) h names locals statics vars =
        let D = P.declarations in
        let params = pointwise nat_eq (map (λ (v : VarId). v.0) x.params) (owned_from (is_parameter_of p) 0 D.vars) in
        let answer = pointwise nat_eq (answer_in x.answer) (owned_from (is_answer_of p) 0 D.vars) in
        let a = both_true (covers_joined D p x) (list_all (covers_parameter P p) x.params && covers_result D p x) h in
        let b = both_true (list_all (covers_parameter P p) x.params) (covers_result D p x) a.1 in
        let d = both_true (has_result D p x x.kind) (params && answer) b.1 in
        let e = both_true params answer d.1 in
        record { locals = locals; statics = statics; procedure = x; params = e.0; answer = e.1; apart = names; vars = vars }

passes_at : (test : Variable → Bool) (xs : List Variable) (i : ℕ) (x : Variable) → list_all test xs ≡ true → slice_get xs i ≡ Some x → test x ≡ true
passes_at test [] i x h e = absurd (cc e)
passes_at test (y ∷ ys) zero x h e = sym (ap test (some_same y x e)) ∙ (both_true (test y) (list_all test ys) h).0
passes_at test (y ∷ ys) (suc i) x h e = passes_at test ys i x (both_true (test y) (list_all test ys) h).1 e

-- ---- a variable of the procedure is among what its frame has

id_of_number : (ids : List VarId) (v : ℕ) → In v (map (λ (i : VarId). i.0) ids) → In (record { 0 = v }) ids
id_of_number [] v h = absurd h
id_of_number (i ∷ ids) v (inl e) = inl (λ j. record { 0 = e j })
id_of_number (i ∷ ids) v (inr h) = inr (id_of_number ids v h)

parameter_among : (D : Declarations) (ids : List VarId) (i : VarId) (x : Variable) → slice_get D.vars i.0 ≡ Some x → In i ids → In (own_variable i.0 x) (parameter_owns D ids)
parameter_among D [] i x e h = absurd h
parameter_among D (j ∷ ids) i x e (inl same) =
    in_left (own_of_some j.0 (slice_get D.vars j.0)) (parameter_owns D ids) (own_variable i.0 x)
    (subst (λ (k : VarId). In (own_variable i.0 x) (own_of_some k.0 (slice_get D.vars k.0))) same
    (subst (λ o. In (own_variable i.0 x) (own_of_some i.0 o)) (sym e) (inl refl)))
parameter_among D (j ∷ ids) i x e (inr h) =
    in_right (own_of_some j.0 (slice_get D.vars j.0)) (parameter_owns D ids) (own_variable i.0 x) (parameter_among D ids i x e h)

answer_among : (D : Declarations) (o : Option VarId) (v : ℕ) (x : Variable) → slice_get D.vars v ≡ Some x → In v (answer_in o) → In (own_variable v x) (answer_owns D o)
answer_among D None v x e h = absurd h
answer_among D (Some i) v x e (inl same) =
    subst (λ n. In (own_variable v x) (own_of_some n (slice_get D.vars n))) same (subst (λ o. In (own_variable v x) (own_of_some v o)) (sym e) (inl refl))
answer_among D (Some i) v x e (inr h) = absurd h

module _ (P : Program) (p : ℕ) (s : Site) (C : Covers P p s) (v : ℕ) (x : Variable) (e : slice_get P.declarations.vars v ≡ Some x) where
  abbrev D : Declarations
  D = P.declarations

  abbrev params : List Own
  params = parameter_owns D C.procedure.params

  abbrev rest : List Own
  rest = answer_owns D C.procedure.answer ++ owns_of D s

  number_of : (test : Owner → Bool) → test x.owner ≡ true → In v (owned_from test 0 D.vars)
  number_of test h = owned_at test 0 D.vars v v x (omega arith) e h

  declared_among : (z : Variable) × In (own_variable v z) (owns_of D s) → In (own_variable v x) (owns_of D s)
  declared_among found =
      let same : found.0 ≡ x = some_same found.0 x (sym (own_is D s (own_variable v found.0) found.1) ∙ e) in
      subst (λ (y : Variable). In (own_variable v y) (owns_of D s)) same found.1

  local_among : is_local_of p x.owner ≡ true → In (own_variable v x) (owns_of D s)
  local_among local =
      declared_among (local_of_number (owns_of D s) v
      (subst (In v) (sym (same_list (local_numbers (owns_of D s)) (owned_from (is_local_of p) 0 D.vars) C.locals)) (number_of (is_local_of p) local)))

  static_among : is_static_of p x.owner ≡ true → In (own_variable v x) (owns_of D s)
  static_among static =
      declared_among (static_of_number (owns_of D s) v
      (subst (In v) (sym (same_list (static_numbers (owns_of D s)) (owned_from (is_static_of p) 0 D.vars) C.statics)) (number_of (is_static_of p) static)))

  given_among : is_parameter_of p x.owner ≡ true → In (own_variable v x) (params ++ rest)
  given_among h =
      in_left params rest (own_variable v x)
      (parameter_among D C.procedure.params (record { 0 = v }) x e
      (id_of_number C.procedure.params v
      (subst (In v) (sym (same_list (map (λ (i : VarId). i.0) C.procedure.params) (owned_from (is_parameter_of p) 0 D.vars) C.params))
      (number_of (is_parameter_of p) h))))

  among_by : (o : Owner) → x.owner ≡ o → belongs_to p o ≡ true → covers_owner o ≡ true → In (own_variable v x) (params ++ rest)
  among_by (owner.Module file) is h c = absurd (cc h)
  among_by (owner.Local q) is h c =
      in_right params rest (own_variable v x)
      (in_right (answer_owns D C.procedure.answer) (owns_of D s) (own_variable v x) (local_among (ap (is_local_of p) is ∙ h)))
  among_by (owner.Static q) is h c =
      in_right params rest (own_variable v x)
      (in_right (answer_owns D C.procedure.answer) (owns_of D s) (own_variable v x) (static_among (ap (is_static_of p) is ∙ h)))
  among_by (owner.Value q) is h c = given_among (ap (is_parameter_of p) is ∙ h)
  among_by (owner.Reference q) is h c = given_among (ap (is_parameter_of p) is ∙ h)
  among_by (owner.Answer q) is h c =
      in_right params rest (own_variable v x)
      (in_left (answer_owns D C.procedure.answer) (owns_of D s) (own_variable v x)
      (answer_among D C.procedure.answer v x e
      (subst (In v) (sym (same_list (answer_in C.procedure.answer) (owned_from (is_answer_of p) 0 D.vars) C.answer))
      (number_of (is_answer_of p) (ap (is_answer_of p) is ∙ h)))))
  among_by (owner.Field t) is h c = absurd (cc h)

  own_among : belongs_to p x.owner ≡ true → In (own_variable v x) (frame_owns D (Some C.procedure) s)
  own_among h =
      let each = both_true (list_all (λ (y : Variable). cond (belongs_to p y.owner) (covers_declared D y) true) D.vars) (has_extents P) C.vars in
      let passes = passes_at (λ (y : Variable). cond (belongs_to p y.owner) (covers_declared D y) true) D.vars v x each.0 e in
      let covers : covers_declared D x ≡ true = sym (ap {B = Bool} (λ (c : Bool). cond c (covers_declared D x) true) h) ∙ passes in
      among_by x.owner refl h (declared_owner D x covers)

pub alone_in : (P : Program) (p : ℕ) (s : Site) → site_of P.declarations p ≡ Some s → covers_procedure P p ≡ true → (v : ℕ) (x : Variable)
    → slice_get P.declarations.vars v ≡ Some x → belongs_to p x.owner ≡ true → IsAlone P.declarations p v x
alone_in P p s e h v x at own = λ u y f g same.
    let C = covered_parts P p s e h in
    let is : own_variable u y ≡ own_variable v x =
    different (frame_owns P.declarations (Some C.procedure) s) (own_variable u y) (own_variable v x) C.apart (own_among P p s C u y f g) (own_among P p s C v x at own) same in
    cc is

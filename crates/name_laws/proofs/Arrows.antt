-- What a clean procedure leads to: its variables and its constants, and what lines mention.
use Rattle.std.proofs.Common.{◌≡◌, refl, ap, sym, subst, ◌∙◌, ℕ, zero, suc, ◌+◌, nat_eq, true, false, List, [], ◌∷◌, ◌++◌, map, Option, Some, slice_get, option_to_list, inl, arith}
use Rattle.std.specs.Prelude.{◌&&◌}
use Rattle.std.specs.List.{flat_map, Contains}
use Rattle.std.proofs.lemmas.Bool.{eqb-true}
use Rattle.vb_tree.specs.declared.declared.Owner.{Owner}
use Rattle.vb_tree.specs.declared.declared.Owner.TheVariants as owner
use Rattle.vb_tree.specs.declared.declared.VarId.{VarId}
use Rattle.up_base.specs.declared.place.Place.{Place}
use Rattle.bound_tree.specs.declared.body.Mention.{Mention}
use Rattle.bound_tree.specs.declared.body.Mention.TheVariants as mention
use Rattle.bound_tree.specs.declared.marks.Marks.{Marks}
use Rattle.bound_tree.specs.declared.rule_set.RuleSet.{RuleSet}
use Rattle.bound_tree.specs.Tree.{Variable, Constant, Declarations, Program, Line}
use Rattle.bound_facts.specs.Calls.{calls, line_calls}
use Rattle.bound_facts.specs.Clean.{Point, procedure, variable, constant, user_type, Arrow, to_all, mentioned, created_points, line_arrows, owner_point, lettered_point, variable_arrows, constant_arrows, type_arrows, captured_arrows, procedure_arrows, call_arrow, arrows, Path, stays, goes, set_broken, sets_broken, is_statement, variables_broken, constants_broken, statement_broken, variable_broken, constant_broken, point_broken, IsClean}
use Rattle.bound_facts.specs.Items.{items_from, project_items}
use Rattle.bound_facts.specs.Locks.{user_in}
use Rattle.bound_facts.specs.Parts.{line_uses}
use Rattle.written_trees.specs.Facts.{Facts, is_flagged_variable, is_flagged_constant}
use Rattle.run_matches.specs.CleanLines.{line_points, result_points}
use Rattle.run_matches.specs.CoveredVariables.{belongs_to, is_mention_of}
use Rattle.name_laws.proofs.Lists.{neither, second_false, same_number, some_same, Among, contains, among_at, among_left, among_right, map_among, flat_among}
use Rattle.name_laws.proofs.Sets.{unbroken_set}

-- ---- arrows to what a procedure owns

owner_is : (p : ℕ) (o : Owner) → belongs_to p o ≡ true → Among (owner_point o) (procedure p)
owner_is p (owner.Module file) h = absurd (cc h)
owner_is p (owner.Local q) h = inl (ap procedure (sym (eqb-true p q.0 h)))
owner_is p (owner.Static q) h = inl (ap procedure (sym (eqb-true p q.0 h)))
owner_is p (owner.Value q) h = inl (ap procedure (sym (eqb-true p q.0 h)))
owner_is p (owner.Reference q) h = inl (ap procedure (sym (eqb-true p q.0 h)))
owner_is p (owner.Answer q) h = inl (ap procedure (sym (eqb-true p q.0 h)))
owner_is p (owner.Field t) h = absurd (cc h)

abbrev arrow_to : Point → Point → Arrow
arrow_to b a = (a, b)

own_arrow : (p : ℕ) (o : Owner) (b : Point) → belongs_to p o ≡ true → Among (map (arrow_to b) (owner_point o)) (arrow_to b (procedure p))
own_arrow p o b h = map_among (arrow_to b) (owner_point o) (procedure p) (owner_is p o h)

pub variable_arrow : (p k i : ℕ) (vs : List Variable) (x : Variable) → slice_get vs i ≡ Some x → belongs_to p x.owner ≡ true
    → Among (variable_arrows k vs) (procedure p, variable (k + i))
variable_arrow p k i [] x e h = absurd (cc e)
variable_arrow p k zero (v ∷ vs) x e h =
    let first = map (arrow_to (variable k)) (owner_point v.owner) in
    let second = to_all (variable k) (map user_type (option_to_list (user_in v.named)) ++ lettered_point v.place v.lettered) in
    subst (λ (n : ℕ). Among (variable_arrows k (v ∷ vs)) (procedure p, variable n)) (let q : k ≡ k + 0 = omega arith in q)
    (among_left (first ++ second) (variable_arrows (suc k) vs) (procedure p, variable k) (among_left first second (procedure p, variable k)
    (own_arrow p v.owner (variable k) (ap (λ (y : Variable). belongs_to p y.owner) (some_same v x e) ∙ h))))
variable_arrow p k (suc i) (v ∷ vs) x e h =
    let first = map (arrow_to (variable k)) (owner_point v.owner) in
    let second = to_all (variable k) (map user_type (option_to_list (user_in v.named)) ++ lettered_point v.place v.lettered) in
    subst (λ (n : ℕ). Among (variable_arrows k (v ∷ vs)) (procedure p, variable n)) (let q : suc k + i ≡ k + suc i = omega arith in q)
    (among_right (first ++ second) (variable_arrows (suc k) vs) (procedure p, variable (suc k + i)) (variable_arrow p (suc k) i vs x e h))

constant_arrow : (p k i : ℕ) (cs : List Constant) (x : Constant) → slice_get cs i ≡ Some x → belongs_to p x.owner ≡ true
    → Among (constant_arrows k cs) (procedure p, constant (k + i))
constant_arrow p k i [] x e h = absurd (cc e)
constant_arrow p k zero (c ∷ cs) x e h =
    subst (λ (n : ℕ). Among (constant_arrows k (c ∷ cs)) (procedure p, constant n)) (let q : k ≡ k + 0 = omega arith in q)
    (among_left (map (arrow_to (constant k)) (owner_point c.owner)) (constant_arrows (suc k) cs) (procedure p, constant k)
    (own_arrow p c.owner (constant k) (ap (λ (y : Constant). belongs_to p y.owner) (some_same c x e) ∙ h)))
constant_arrow p k (suc i) (c ∷ cs) x e h =
    subst (λ (n : ℕ). Among (constant_arrows k (c ∷ cs)) (procedure p, constant n)) (let q : suc k + i ≡ k + suc i = omega arith in q)
    (among_right (map (arrow_to (constant k)) (owner_point c.owner)) (constant_arrows (suc k) cs) (procedure p, constant (suc k + i))
    (constant_arrow p (suc k) i cs x e h))

-- ---- among all arrows

module _ (P : Program) where
  abbrev pub before : List Arrow
  before = map call_arrow (calls P) ++ project_items (line_arrows P.declarations) P.bodies

  abbrev pub owned : List Arrow
  owned = before ++ variable_arrows 0 P.declarations.vars ++ constant_arrows 0 P.declarations.consts

  pub owned_is_arrow : (a : Arrow) → Among owned a → Among (arrows P) a
  owned_is_arrow a h =
      let D = P.declarations in
      among_left (owned ++ type_arrows 0 D.types ++ procedure_arrows D.project.modules 0 D.procs) (captured_arrows D 0 D.procs) a
      (among_left (owned ++ type_arrows 0 D.types) (procedure_arrows D.project.modules 0 D.procs) a (among_left owned (type_arrows 0 D.types) a h))

  pub variable_is_arrow : (a : Arrow) → Among (variable_arrows 0 P.declarations.vars) a → Among (arrows P) a
  variable_is_arrow a h =
      owned_is_arrow a
      (among_left (before ++ variable_arrows 0 P.declarations.vars) (constant_arrows 0 P.declarations.consts) a
      (among_right before (variable_arrows 0 P.declarations.vars) a h))

  constant_is_arrow : (a : Arrow) → Among (constant_arrows 0 P.declarations.consts) a → Among (arrows P) a
  constant_is_arrow a h =
      owned_is_arrow a (among_right (before ++ variable_arrows 0 P.declarations.vars) (constant_arrows 0 P.declarations.consts) a h)

  pub one_arrow : (a b : Point) → Among (arrows P) (a, b) → Path (arrows P) a b
  one_arrow a b h = goes a a b (stays a) (contains (arrows P) (a, b) h)

  pub variable_unbroken : (M : Marks) (p v : ℕ) (x : Variable) → IsClean P M p → slice_get P.declarations.vars v ≡ Some x → belongs_to p x.owner ≡ true
      → point_broken P.declarations M (variable v) ≡ false
  variable_unbroken M p v x clean e h =
      clean (variable v) (one_arrow (procedure p) (variable v) (variable_is_arrow (procedure p, variable v)
      (subst (λ (n : ℕ). Among (variable_arrows 0 P.declarations.vars) (procedure p, variable n)) (let z : 0 + v ≡ v = omega arith in z)
      (variable_arrow p 0 v P.declarations.vars x e h))))

  pub constant_unbroken : (M : Marks) (p c : ℕ) (x : Constant) → IsClean P M p → slice_get P.declarations.consts c ≡ Some x → belongs_to p x.owner ≡ true
      → point_broken P.declarations M (constant c) ≡ false
  constant_unbroken M p c x clean e h =
      clean (constant c) (one_arrow (procedure p) (constant c) (constant_is_arrow (procedure p, constant c)
      (subst (λ (n : ℕ). Among (constant_arrows 0 P.declarations.consts) (procedure p, constant n)) (let z : 0 + c ≡ c = omega arith in z)
      (constant_arrow p 0 c P.declarations.consts x e h))))

-- ---- what lines give

items_there : {X : Type 0} (items : ℕ → Line → List X) (i j : ℕ) (bodies : List (List Line)) (lines : List Line) (l : Line) (x : X)
    → slice_get bodies j ≡ Some lines → Among lines l → Among (items (i + j) l) x → Among (items_from items i bodies) x
items_there items i j [] lines l x e m h = absurd (cc e)
items_there items i zero (ls ∷ rest) lines l x e m h =
    let same : ls ≡ lines = some_same ls lines e in
    let at : i + 0 ≡ i = omega arith in
    among_left (flat_map (items i) ls) (items_from items (i + 1) rest) x
    (flat_among (items i) ls l x (subst (λ ks. Among ks l) (sym same) m) (subst (λ n. Among (items n l) x) at h))
items_there items i (suc j) (ls ∷ rest) lines l x e m h =
    let at : i + suc j ≡ i + 1 + j = omega arith in
    among_right (flat_map (items i) ls) (items_from items (i + 1) rest) x
    (items_there items (i + 1) j rest lines l x e m (subst (λ n. Among (items n l) x) at h))

-- what a line of a procedure gives is among what all lines give
pub project_items_there : {X : Type 0} (items : ℕ → Line → List X) (bodies : List (List Line)) (p : ℕ) (lines : List Line) (l : Line) (x : X)
    → slice_get bodies p ≡ Some lines → Among lines l → Among (items p l) x → Among (project_items items bodies) x
project_items_there items bodies p lines l x e m h =
    let at : p ≡ 0 + p = omega arith in
    items_there items 0 p bodies lines l x e m (subst (λ n. Among (items n l) x) at h)

-- ---- what is unbroken

same_statement : (q : Place) (n : ℕ) → is_statement q n q n ≡ true
same_statement q n = ap (λ b. b && nat_eq n n) (same_number q.file q.file refl) ∙ same_number n n refl

variable_sound : (sets : List RuleSet) (q : Place) (n k i : ℕ) (vs : List Variable) (x : Variable) → slice_get vs i ≡ Some x → x.place ≡ q → x.statement ≡ n
    → variables_broken sets q n k vs ≡ false → set_broken (slice_get sets (k + i)) ≡ false
variable_sound sets q n k i [] x e r s h = absurd (cc e)
variable_sound sets q n k zero (v ∷ vs) x e r s h =
    let a = neither (is_statement q n v.place v.statement && set_broken (slice_get sets k)) (variables_broken sets q n (suc k) vs) h in
    let same = some_same v x e in
    let at : is_statement q n v.place v.statement ≡ true =
    ap (λ (y : Variable). is_statement q n y.place y.statement) same ∙ ap (λ (z : Place). is_statement q n z x.statement) r
    ∙ ap (λ (m : ℕ). is_statement q n q m) s ∙ same_statement q n in
    subst (λ (m : ℕ). set_broken (slice_get sets m) ≡ false) (let z : k ≡ k + 0 = omega arith in z)
    (second_false (is_statement q n v.place v.statement) (set_broken (slice_get sets k)) at a.0)
variable_sound sets q n k (suc i) (v ∷ vs) x e r s h =
    let a = neither (is_statement q n v.place v.statement && set_broken (slice_get sets k)) (variables_broken sets q n (suc k) vs) h in
    subst (λ (m : ℕ). set_broken (slice_get sets m) ≡ false) (let z : suc k + i ≡ k + suc i = omega arith in z)
    (variable_sound sets q n (suc k) i vs x e r s a.1)

constant_sound : (sets : List RuleSet) (q : Place) (n k i : ℕ) (cs : List Constant) (x : Constant) → slice_get cs i ≡ Some x → x.place ≡ q → x.statement ≡ n
    → constants_broken sets q n k cs ≡ false → set_broken (slice_get sets (k + i)) ≡ false
constant_sound sets q n k i [] x e r s h = absurd (cc e)
constant_sound sets q n k zero (c ∷ cs) x e r s h =
    let a = neither (is_statement q n c.place c.statement && set_broken (slice_get sets k)) (constants_broken sets q n (suc k) cs) h in
    let same = some_same c x e in
    let at : is_statement q n c.place c.statement ≡ true =
    ap (λ (y : Constant). is_statement q n y.place y.statement) same ∙ ap (λ (z : Place). is_statement q n z x.statement) r
    ∙ ap (λ (m : ℕ). is_statement q n q m) s ∙ same_statement q n in
    subst (λ (m : ℕ). set_broken (slice_get sets m) ≡ false) (let z : k ≡ k + 0 = omega arith in z)
    (second_false (is_statement q n c.place c.statement) (set_broken (slice_get sets k)) at a.0)
constant_sound sets q n k (suc i) (c ∷ cs) x e r s h =
    let a = neither (is_statement q n c.place c.statement && set_broken (slice_get sets k)) (constants_broken sets q n (suc k) cs) h in
    subst (λ (m : ℕ). set_broken (slice_get sets m) ≡ false) (let z : suc k + i ≡ k + suc i = omega arith in z)
    (constant_sound sets q n (suc k) i cs x e r s a.1)

-- a variable of a statement that breaks no rule carries no issue
pub variable_unflagged : (D : Declarations) (F : Facts) (v : ℕ) (x : Variable) → slice_get D.vars v ≡ Some x → point_broken D F.marks (variable v) ≡ false
    → is_flagged_variable F v ≡ false
variable_unflagged D F v x e h =
    let s : statement_broken D F.marks x.place x.statement ≡ false = subst (λ (o : Option Variable). variable_broken D F.marks o ≡ false) e h in
    let n = neither (variables_broken F.marks.vars x.place x.statement 0 D.vars) (constants_broken F.marks.consts x.place x.statement 0 D.consts) s in
    unbroken_set F.marks.vars v
    (subst (λ (m : ℕ). set_broken (slice_get F.marks.vars m) ≡ false) (let z : 0 + v ≡ v = omega arith in z)
    (variable_sound F.marks.vars x.place x.statement 0 v D.vars x e refl refl n.0))

pub constant_unflagged : (D : Declarations) (F : Facts) (c : ℕ) (x : Constant) → slice_get D.consts c ≡ Some x → point_broken D F.marks (constant c) ≡ false
    → is_flagged_constant F c ≡ false
constant_unflagged D F c x e h =
    let s : statement_broken D F.marks x.place x.statement ≡ false = subst (λ (o : Option Constant). constant_broken D F.marks o ≡ false) e h in
    let n = neither (variables_broken F.marks.vars x.place x.statement 0 D.vars) (constants_broken F.marks.consts x.place x.statement 0 D.consts) s in
    unbroken_set F.marks.consts c
    (subst (λ (m : ℕ). set_broken (slice_get F.marks.consts m) ≡ false) (let z : 0 + c ≡ c = omega arith in z)
    (constant_sound F.marks.consts x.place x.statement 0 c D.consts x e refl refl n.1))

pub lines_unbroken : (P : Program) (M : Marks) (p : ℕ) → IsClean P M p → sets_broken (slice_get M.lines p) ≡ false
lines_unbroken P M p clean = (neither (set_broken (slice_get M.heads p)) (sets_broken (slice_get M.lines p)) (clean (procedure p) (stays (procedure p)))).1

-- ---- mentions

mention_point : (D : Declarations) (v : VarId) (m : Mention) → is_mention_of v m ≡ true → Among (mentioned D m) (variable v.0)
mention_point D v (mention.Var u) h = inl (ap variable (sym (eqb-true v.0 u.0 h)))
mention_point D v (mention.Const c) h = absurd (cc h)
mention_point D v (mention.Type t) h = absurd (cc h)
mention_point D v (mention.Proc q) h = absurd (cc h)
mention_point D v (mention.Class c) h = absurd (cc h)

-- an arrow leads from a procedure to a variable that one of its lines mentions
pub mention_arrow : (D : Declarations) (p : ℕ) (l : Line) (v : VarId) (m : Mention) → Among l.bindings.mentions m → is_mention_of v m ≡ true
    → Among (line_arrows D p l) (procedure p, variable v.0)
mention_arrow D p l v m a h =
    let points = flat_map (mentioned D) l.bindings.mentions ++ flat_map (created_points D) (line_uses l) in
    let point : Among points (variable v.0) =
    among_left (flat_map (mentioned D) l.bindings.mentions) (flat_map (created_points D) (line_uses l)) (variable v.0)
    (flat_among (mentioned D) l.bindings.mentions m (variable v.0) a (mention_point D v m h)) in
    let from : Point → Arrow = λ q. (procedure p, q) in
    map_among from points (variable v.0) point

-- a variable that a line mentions is among its points
pub mention_is_point : (D : Declarations) (p : ℕ) (l : Line) (v : VarId) (m : Mention) → Among l.bindings.mentions m → is_mention_of v m ≡ true
    → Contains (line_points D p l) (variable v.0)
mention_is_point D p l v m a h =
    contains (line_points D p l) (variable v.0)
    (among_left (map (λ (a : Arrow). a.1) (line_arrows D p l)) (map (λ (c : ℕ × ℕ). procedure c.1) (line_calls D p l) ++ result_points D p l.source.form)
    (variable v.0) (map_among (λ (a : Arrow). a.1) (line_arrows D p l) (procedure p, variable v.0) (mention_arrow D p l v m a h)))

-- a chain leads from the procedure to it
pub mentioned_path : (P : Program) (p k : ℕ) (lines : List Line) (l : Line) (v : VarId) (m : Mention) → slice_get P.bodies p ≡ Some lines
    → slice_get lines k ≡ Some l → Among l.bindings.mentions m → is_mention_of v m ≡ true → Path (arrows P) (procedure p) (variable v.0)
mentioned_path P p k lines l v m e f a h =
    let arrow : Arrow = (procedure p, variable v.0) in
    let first = map call_arrow (calls P) in
    let second = project_items (line_arrows P.declarations) P.bodies in
    let there : Among second arrow =
    project_items_there (line_arrows P.declarations) P.bodies p lines l arrow e (among_at lines k l f) (mention_arrow P.declarations p l v m a h) in
    one_arrow P (procedure p) (variable v.0)
    (owned_is_arrow P arrow
    (among_left (before P ++ variable_arrows 0 P.declarations.vars) (constant_arrows 0 P.declarations.consts) arrow
    (among_left (before P) (variable_arrows 0 P.declarations.vars) arrow (among_right first second arrow there))))

-- What the tests of covered procedures and lines say.
use Rattle.std.proofs.Common.{◌≡◌, refl, sym, ap, subst, ◌∙◌, ℕ, zero, suc, Bool, true, false, cond, not, ◌&&◌, nat_eq, true≢false, Option, Some, None, option_map, List, [], ◌∷◌, map, eq-eqb, eqb-true}
use Rattle.std.specs.Prelude.{◌||◌, slice_get}
use Rattle.std.specs.Cmp.Lexicographic.{pointwise}
use Rattle.std.specs.List.{list_all}
use Rattle.up_base.proofs.Lists.{all_first, all_rest, all_leads}
use Rattle.up_base.proofs.Tests.{both_true}
use Rattle.up_base.specs.Names.{is_same_name, lower_case}
use Rattle.vb_tree.specs.BoundTree as types
use Rattle.vb_tree.specs.BoundTree.{Ty}
use Rattle.vb_tree.specs.declared.declared.ProcKind.TheVariants as kind
use Rattle.vb_tree.specs.declared.declared.VarId.{VarId}
use Rattle.vb_tree.specs.declared.form_parts.Label6.{Label6}
use Rattle.vb_tree.specs.Tree.{Form}
use Rattle.vb_tree.specs.Tree as source
use Rattle.bound_tree.specs.Labels.{label_of}
use Rattle.bound_tree.specs.Targets.{Aims, aims_at, aims_from, step_of, steps, Step}
use Rattle.bound_tree.specs.Tree.{Expr, Line, Procedure, Program, Variable, Declarations}
use Rattle.vb6_run.specs.Forms.{SourceLine, body_of, tests_in, with_aims}
use Rattle.vb6_run.specs.Lines.{source_lines}
use Rattle.vb6_run.specs.Programs.{answer_in, is_static_of, is_local_of, owned_from}
use Rattle.written_trees.specs.Types.{element_type}
use Rattle.run_matches.specs.Formed.{is_formed}
use Rattle.run_matches.specs.CoveredVariables.{belongs_to, covers_array_owner, covers_auto_owner, covers_bounds, covers_declared, covers_group_type, has_extents, is_array_of, are_different, covers_owner, covers_type}
use Rattle.run_matches.specs.CoveredExprs.{Uses, uses_in}
use Rattle.run_matches.specs.UserTypes.{is_class_type}
use Rattle.run_matches.specs.CoveredLines.{covers_form, covers_in_block, covers_label, covers_line, has_sound_label, has_sound_label_in, jump_of}
use Rattle.net_run.specs.Members.{is_same_flag}
use Rattle.run_matches.specs.Covered.{covers_body, covers_head, covers_joined, covers_names, covers_owns, covers_procedure, covers_site, covers_variables, keeps_blocks, keeps_blocks_in, covers_own, covers_all_calls, covers_calls, covers_parameter, covers_result, has_no_static, has_result, is_answer_of, is_parameter_of, is_class_number}
use Rattle.run_matches.specs.Callees.{frame_owns}
use Rattle.run_matches.specs.Sites.{Site, own_name, owns_of, site_of, local_numbers, static_numbers}
use Rattle.run_laws.proofs.StaticPlaces.{IsPlacedAlike, placed_alike}

pub some_is : {A : Type 0} {x y : A} → ◌≡◌ {A = Option A} (Some x) (Some y) → x ≡ y
some_is e = cc e

pub not_none : {A : Type 0} {x : A} → ◌≡◌ {A = Option A} None (Some x) → ⊥
not_none e = cc e

pub not_some : {A : Type 0} {x : A} → ◌≡◌ {A = Option A} (Some x) None → ⊥
not_some e = cc e

-- ---- lists

pub all_at : {A : Type 0} (f : A → Bool) (xs : List A) (k : ℕ) (x : A) → list_all f xs ≡ true → slice_get xs k ≡ Some x → f x ≡ true
all_at f [] k x h e = absurd (not_none e)
all_at f (y ∷ xs) zero x h e = ap f (sym (some_is e)) ∙ all_first f y xs h
all_at f (y ∷ xs) (suc k) x h e = all_at f xs k x (all_rest f y xs h) e

pub same_numbers : (xs ys : List ℕ) → pointwise nat_eq xs ys ≡ true → xs ≡ ys
same_numbers [] [] h = refl
same_numbers [] (y ∷ ys) h = absurd (true≢false (sym h))
same_numbers (x ∷ xs) [] h = absurd (true≢false (sym h))
same_numbers (x ∷ xs) (y ∷ ys) h =
    let both = both_true (nat_eq x y) (pointwise nat_eq xs ys) h in
    let one : x ≡ y = eqb-true x y both.0 in
    let more : xs ≡ ys = same_numbers xs ys both.1 in
    λ i. one i ∷ more i

same_number : (n : ℕ) → nat_eq n n ≡ true
same_number n = eq-eqb n n refl

same_units : (xs : List ℕ) → pointwise nat_eq xs xs ≡ true
same_units [] = refl
same_units (x ∷ xs) = ap (λ b. b && pointwise nat_eq xs xs) (same_number x) ∙ same_units xs

pub same_name : (name : List ℕ) → is_same_name name name ≡ true
same_name name = same_units (lower_case name)

-- ---- procedures

record Head (P : Program) (p : ℕ) (o : Option Procedure) : Type 0 where
  procedure : Procedure
  is_procedure : o ≡ Some procedure
  joined : covers_joined P.declarations p procedure ≡ true
  params : list_all (covers_parameter P p) procedure.params ≡ true
  result : has_result P.declarations p procedure procedure.kind ≡ true
  parameters : map (λ (v : VarId). v.0) procedure.params ≡ owned_from (is_parameter_of p) 0 P.declarations.vars
  answers : answer_in procedure.answer ≡ owned_from (is_answer_of p) 0 P.declarations.vars

head_parts : (P : Program) (p : ℕ) (o : Option Procedure) → covers_head P p o ≡ true → Head P p o
head_parts P p None h = absurd (true≢false (sym h))
head_parts P p (Some x) h =
    let D : Declarations = P.declarations in
    let numbers = pointwise nat_eq (map (λ (v : VarId). v.0) x.params) (owned_from (is_parameter_of p) 0 D.vars)
    && pointwise nat_eq (answer_in x.answer) (owned_from (is_answer_of p) 0 D.vars) in
    let a = both_true (covers_joined D p x) (list_all (covers_parameter P p) x.params && covers_result D p x) h in
    let b = both_true (list_all (covers_parameter P p) x.params) (covers_result D p x) a.1 in
    let d = both_true (has_result D p x x.kind) numbers b.1 in
    let e = both_true (pointwise nat_eq (map (λ (v : VarId). v.0) x.params) (owned_from (is_parameter_of p) 0 D.vars))
    (pointwise nat_eq (answer_in x.answer) (owned_from (is_answer_of p) 0 D.vars)) d.1 in
    record {
      procedure = x;
      is_procedure = refl;
      joined = a.0;
      params = b.0;
      result = d.0;
      parameters = same_numbers (map (λ (v : VarId). v.0) x.params) (owned_from (is_parameter_of p) 0 D.vars) e.0;
      answers = same_numbers (answer_in x.answer) (owned_from (is_answer_of p) 0 D.vars) e.1;
    }

record Stands (D : Declarations) (p : ℕ) (o : Option Site) : Type 0 where
  site : Site
  is_site : o ≡ Some site
  alike : (list_all has_no_static (owns_of D site) || is_same_flag (is_class_number D (slice_get D.procs p)) site.source_module.class) ≡ true
  owns : covers_owns D p (owns_of D site) ≡ true
  different : are_different (map own_name (frame_owns D (slice_get D.procs p) site)) ≡ true

site_parts : (D : Declarations) (p : ℕ) (o : Option Site) → covers_site D p o ≡ true → Stands D p o
site_parts D p None h = absurd (true≢false (sym h))
site_parts D p (Some s) h =
    let names = are_different (map own_name (frame_owns D (slice_get D.procs p) s)) in
    let b = both_true (list_all has_no_static (owns_of D s) || is_same_flag (is_class_number D (slice_get D.procs p)) s.source_module.class)
    (covers_owns D p (owns_of D s) && names) h in
    let both = both_true (covers_owns D p (owns_of D s)) names b.1 in
    record { site = s; is_site = refl; alike = b.0; owns = both.0; different = both.1 }

record Body (P : Program) (p : ℕ) (o : Option (List Line)) : Type 0 where
  lines : List Line
  are_lines : o ≡ Some lines
  covers : list_all (covers_line P p) lines ≡ true
  in_blocks : list_all (covers_in_block P p lines) (body_of lines) ≡ true

body_parts : (P : Program) (p : ℕ) (o : Option (List Line)) → covers_body P p o ≡ true → Body P p o
body_parts P p None h = absurd (true≢false (sym h))
body_parts P p (Some lines) h =
    let both = both_true (list_all (covers_line P p) lines) (list_all (covers_in_block P p lines) (body_of lines)) h in
    record { lines = lines; are_lines = refl; covers = both.0; in_blocks = both.1 }

-- what is known of a covered procedure
pub record CoveredProcedure (P : Program) (p : ℕ) : Type 0 where
  pub names : covers_names P.declarations ≡ true
  pub procedure : Procedure
  pub is_procedure : slice_get P.declarations.procs p ≡ Some procedure
  pub joined : covers_joined P.declarations p procedure ≡ true
  pub params : list_all (covers_parameter P p) procedure.params ≡ true
  pub result : has_result P.declarations p procedure procedure.kind ≡ true
  pub parameters : map (λ (v : VarId). v.0) procedure.params ≡ owned_from (is_parameter_of p) 0 P.declarations.vars
  pub answers : answer_in procedure.answer ≡ owned_from (is_answer_of p) 0 P.declarations.vars
  pub site : Site
  pub is_site : site_of P.declarations p ≡ Some site
  pub alike : IsPlacedAlike P.declarations procedure site
  pub locals : local_numbers (owns_of P.declarations site) ≡ owned_from (is_local_of p) 0 P.declarations.vars
  pub statics : static_numbers (owns_of P.declarations site) ≡ owned_from (is_static_of p) 0 P.declarations.vars
  pub owns : list_all (covers_own P.declarations p) (owns_of P.declarations site) ≡ true
  pub different : are_different (map own_name (frame_owns P.declarations (Some procedure) site)) ≡ true
  pub variables : covers_variables P p ≡ true
  pub lines : List Line
  pub are_lines : slice_get P.bodies p ≡ Some lines
  pub covers : list_all (covers_line P p) lines ≡ true
  pub in_blocks : list_all (covers_in_block P p lines) (body_of lines) ≡ true
  pub calls : list_all (covers_calls P p) lines ≡ true

called_all : (P : Program) (p : ℕ) (o : Option (List Line)) (lines : List Line) → covers_all_calls P p o ≡ true → o ≡ Some lines
    → list_all (covers_calls P p) lines ≡ true
called_all P p None lines h e = absurd (true≢false (sym h))
called_all P p (Some ls) lines h e = subst (λ xs. list_all (covers_calls P p) xs ≡ true) (some_is e) h

pub covered_parts : (P : Program) (p : ℕ) → covers_procedure P p ≡ true → CoveredProcedure P p
covered_parts P p h =
    let D : Declarations = P.declarations in
    let head = covers_head P p (slice_get D.procs p) in
    let at = covers_site D p (site_of D p) in
    let body = covers_body P p (slice_get P.bodies p) in
    let whole = both_true (covers_all_calls P p (slice_get P.bodies p)) (covers_names D && (head && (at && (covers_variables P p && body)))) h in
    let a = both_true (covers_names D) (head && (at && (covers_variables P p && body))) whole.1 in
    let b = both_true head (at && (covers_variables P p && body)) a.1 in
    let c = both_true at (covers_variables P p && body) b.1 in
    let d = both_true (covers_variables P p) body c.1 in
    let x : Head P p (slice_get D.procs p) = head_parts P p (slice_get D.procs p) b.0 in
    let s : Stands D p (site_of D p) = site_parts D p (site_of D p) c.0 in
    let y : Body P p (slice_get P.bodies p) = body_parts P p (slice_get P.bodies p) d.1 in
    let os = owns_of D s.site in
    let locals = pointwise nat_eq (local_numbers os) (owned_from (is_local_of p) 0 D.vars) in
    let statics = pointwise nat_eq (static_numbers os) (owned_from (is_static_of p) 0 D.vars) in
    let m = both_true (locals && statics) (list_all (covers_own D p) os) s.owns in
    let l = both_true locals statics m.0 in
    record {
      names = a.0;
      procedure = x.procedure;
      is_procedure = x.is_procedure;
      joined = x.joined;
      params = x.params;
      result = x.result;
      parameters = x.parameters;
      answers = x.answers;
      site = s.site;
      alike = placed_alike D p x.procedure s.site x.is_procedure s.alike;
      is_site = s.is_site;
      locals = same_numbers (local_numbers os) (owned_from (is_local_of p) 0 D.vars) l.0;
      statics = same_numbers (static_numbers os) (owned_from (is_static_of p) 0 D.vars) l.1;
      owns = m.1;
      different = subst (λ o. are_different (map own_name (frame_owns D o s.site)) ≡ true) x.is_procedure s.different;
      variables = d.0;
      lines = y.lines;
      are_lines = y.are_lines;
      covers = y.covers;
      in_blocks = y.in_blocks;
      calls = called_all P p (slice_get P.bodies p) y.lines whole.0 y.are_lines;
    }

abbrev own_covered : Declarations → (p : ℕ) → Variable → Bool
own_covered D p x = cond (belongs_to p x.owner) (covers_declared D x) true

-- what the procedure owns is covered
pub own_covered_at : (P : Program) (p v : ℕ) (x : Variable) → covers_variables P p ≡ true → slice_get P.declarations.vars v ≡ Some x
    → belongs_to p x.owner ≡ true → covers_declared P.declarations x ≡ true
own_covered_at P p v x h e owned =
    sym (ap (λ b. cond b (covers_declared P.declarations x) true) owned)
    ∙ all_at (own_covered P.declarations p) P.declarations.vars v x
    (both_true (list_all (own_covered P.declarations p) P.declarations.vars) (has_extents P) h).0 e

pub extents_given : (P : Program) (p : ℕ) → covers_variables P p ≡ true → has_extents P ≡ true
extents_given P p h = (both_true (list_all (own_covered P.declarations p) P.declarations.vars) (has_extents P) h).1

-- no array, where there can be none
pub no_array_declared : (D : Declarations) (x : Variable) (e : Ty) (rank : ℕ) → x.ty ≡ types.array e rank → covers_array_owner x.owner ≡ false
    → covers_declared D x ≡ true → ⊥
no_array_declared D x e rank is none h = true≢false (sym h ∙ neither)
  where
    scalar : Ty → Bool
    scalar ty = covers_owner x.owner && (covers_type ty && not x.auto)

    group : Ty → Bool
    group ty = covers_owner x.owner && (covers_group_type D ty && not x.auto)

    array : Ty → Bool
    array ty = covers_type (element_type ty) && (is_array_of (element_type ty) ty && (covers_bounds ty x.bounds && not x.auto))

    auto : Ty → Bool
    auto ty = covers_auto_owner x.owner && ((is_class_type ty && covers_group_type D ty) && x.auto)

    by : (b c : Bool) → ((b && false) || (false || ((b && false) || (c && false)))) ≡ false
    by true true = refl
    by true false = refl
    by false true = refl
    by false false = refl

    neither : covers_declared D x ≡ false
    neither =
        ap (λ ty. scalar ty || ((covers_array_owner x.owner && array ty) || (group ty || auto ty))) is
        ∙ ap (λ b. scalar (types.array e rank) || ((b && array (types.array e rank)) || (group (types.array e rank) || auto (types.array e rank)))) none
        ∙ by (covers_owner x.owner) (covers_auto_owner x.owner)

-- ---- lines

pub form_covered : (P : Program) (p : ℕ) (l : Line) → covers_line P p l ≡ true
    → covers_form (uses_in P p l.bindings.mentions) l.source.form l.bindings.exprs ≡ true
form_covered P p l h =
    (both_true (covers_form (uses_in P p l.bindings.mentions) l.source.form l.bindings.exprs) (list_all is_formed l.bindings.exprs) h).0

form_keeps_blocks : (uses : Uses) (f : Form) (es : List Expr) → covers_form uses f es ≡ true → keeps_blocks_in f es ≡ true
form_keeps_blocks uses (source.for_head counter start limit step) [] h = absurd (true≢false (sym h))
form_keeps_blocks uses (source.for_head counter start limit step) (e ∷ []) h = absurd (true≢false (sym h))
form_keeps_blocks uses (source.for_head counter start limit step) (e ∷ x ∷ []) h = absurd (true≢false (sym h))
form_keeps_blocks uses (source.for_head counter start limit step) (e ∷ x ∷ y ∷ es) h = refl
form_keeps_blocks uses (source.for_each name suffix e) es h = absurd (true≢false (sym h))
form_keeps_blocks uses _ es h = refl

pub blocks_are_kept : (P : Program) (p : ℕ) (lines : List Line) → list_all (covers_line P p) lines ≡ true → list_all keeps_blocks lines ≡ true
blocks_are_kept P p lines h =
    all_leads (covers_line P p) keeps_blocks (λ l e. form_keeps_blocks (uses_in P p l.bindings.mentions) l.source.form l.bindings.exprs (form_covered P p l e)) lines h

-- labels that can be written
form_has_sound_label : (uses : Uses) (f : Form) (es : List Expr) → covers_form uses f es ≡ true → has_sound_label_in f ≡ true
form_has_sound_label uses (source.label a) es h = h
form_has_sound_label uses _ es h = refl

pub labels_are_sound : (P : Program) (p : ℕ) (lines : List Line) → list_all (covers_line P p) lines ≡ true → list_all has_sound_label lines ≡ true
labels_are_sound P p lines h =
    all_leads (covers_line P p) has_sound_label
    (λ l e. form_has_sound_label (uses_in P p l.bindings.mentions) l.source.form l.bindings.exprs (form_covered P p l e)) lines h

form_jumps_soundly : (uses : Uses) (f : Form) (es : List Expr) (a : Label6) → covers_form uses f es ≡ true → jump_of f ≡ Some a → covers_label (label_of a) ≡ true
form_jumps_soundly uses (source.goto b) es a h e = ap (λ c. covers_label (label_of c)) (sym (some_is e)) ∙ h
form_jumps_soundly uses (source.on_error_goto b) es a h e = ap (λ c. covers_label (label_of c)) (sym (some_is e)) ∙ h
form_jumps_soundly uses (source.resume_at b) es a h e = ap (λ c. covers_label (label_of c)) (sym (some_is e)) ∙ h
form_jumps_soundly uses _ es a h e = absurd (not_none e)

pub jumps_soundly : (P : Program) (p : ℕ) (l : Line) (a : Label6) → covers_line P p l ≡ true → jump_of l.source.form ≡ Some a → covers_label (label_of a) ≡ true
jumps_soundly P p l a h e = form_jumps_soundly (uses_in P p l.bindings.mentions) l.source.form l.bindings.exprs a (form_covered P p l h) e

-- ---- the lines of a body

-- each is a bound line
pub form_at : (ls : List Line) (aims : List Aims) (k : ℕ) (l : SourceLine) → slice_get (with_aims ls aims) k ≡ Some l → slice_get ls k ≡ Some l.form
form_at [] aims k l e = absurd (not_none e)
form_at (x ∷ ls) [] k l e = absurd (not_none e)
form_at (x ∷ ls) (a ∷ aims) zero l e = ap (λ (o : Option SourceLine). option_map (λ (m : SourceLine). m.form) o) e
form_at (x ∷ ls) (a ∷ aims) (suc k) l e = form_at ls aims k l e

-- and each bound line is one
line_from : (all : List Step) (n : ℕ) (ls : List Line) (k : ℕ) (l : Line) → slice_get ls k ≡ Some l
    → (m : SourceLine) × (slice_get (with_aims ls (aims_from all n (steps (source_lines ls)))) k ≡ Some m) × (m.form ≡ l)
line_from all n [] k l e = absurd (not_none e)
line_from all n (x ∷ ls) zero l e =
    (record { form = x; aims = aims_at all n (step_of x.source.form); tests = tests_in x.source.form }, refl, some_is e)
line_from all n (x ∷ ls) (suc k) l e = line_from all (suc n) ls k l e

pub bound_line : (ls : List Line) (k : ℕ) (l : Line) → slice_get ls k ≡ Some l → (m : SourceLine) × (slice_get (body_of ls) k ≡ Some m) × (m.form ≡ l)
bound_line ls k l e = line_from (steps (source_lines ls)) 1 ls k l e

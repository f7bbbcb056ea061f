-- The names that a project declares, where none is reserved.
use Rattle.std.proofs.Common.{◌≡◌, refl, ℕ, suc, Bool, true, false, cond, not, ◌&&◌, List, [], ◌∷◌, Option, Some, None, slice_get, codes}
use Rattle.std.specs.Prelude.{◌||◌}
use Rattle.std.specs.List.{list_all}
use Rattle.up_base.specs.Names.{is_same_name}
use Rattle.vb_tree.specs.declared.declared.ProcKind.{ProcKind}
use Rattle.vb_tree.specs.declared.declared.ProcKind.TheVariants as kind
use Rattle.vb_tree.specs.Tree.{Module}
use Rattle.bound_tree.specs.Tree.{Variable, Constant, Procedure, Declarations}
use Rattle.written_trees.specs.Lines.{counter_name}
use Rattle.written_trees.specs.Names.{first_name, procedure_name, procedure_name_of}
use Rattle.written_trees.specs.Properties.{separate_name}
use Rattle.written_trees.specs.Prologues.{is_statement, variables_from, constants_from}
use Rattle.net_run.specs.Names.{support_name}
use Rattle.run_matches.specs.Covered.{is_free_name, covers_names}
use Rattle.name_laws.proofs.Lists.{both_true, and_true, all_at}

-- ---- what free names aren't

none_of : (a b c : Bool) → not ((a || b) || c) ≡ true → (a ≡ false) × (b ≡ false) × (c ≡ false)
none_of true b c h = absurd (cc h)
none_of false true c h = absurd (cc h)
none_of false false true h = absurd (cc h)
none_of false false false h = (refl, refl, refl)

abbrev pub IsNoFree : List ℕ → Type 0
IsNoFree name = (n : List ℕ) → is_free_name n ≡ true → is_same_name n name ≡ false

pub no_support : IsNoFree support_name
no_support n h = (none_of (is_same_name n (codes "UpgradeSupport")) (is_same_name n (codes "System")) (is_same_name n (codes "Microsoft")) h).0

pub no_library : IsNoFree (codes "Microsoft")
no_library n h = (none_of (is_same_name n (codes "UpgradeSupport")) (is_same_name n (codes "System")) (is_same_name n (codes "Microsoft")) h).2

pub no_mathematics : IsNoFree (codes "System")
no_mathematics n h = (none_of (is_same_name n (codes "UpgradeSupport")) (is_same_name n (codes "System")) (is_same_name n (codes "Microsoft")) h).1

-- ---- declarations

pub record HasFreeNames (D : Declarations) : Type 0 where
  pub modules : list_all (λ (m : Module). is_free_name m.name) D.project.modules ≡ true
  pub vars : list_all (λ (x : Variable). is_free_name x.name) D.vars ≡ true
  pub consts : list_all (λ (c : Constant). is_free_name c.name) D.consts ≡ true
  pub procs : list_all (λ (q : Procedure). is_free_name q.name) D.procs ≡ true

pub free_names : (D : Declarations) → covers_names D ≡ true → HasFreeNames D
free_names D h =
    let a = both_true (list_all (λ (m : Module). is_free_name m.name) D.project.modules)
    (list_all (λ (x : Variable). is_free_name x.name) D.vars
    && (list_all (λ (c : Constant). is_free_name c.name) D.consts && list_all (λ (q : Procedure). is_free_name q.name) D.procs)) h in
    let b = both_true (list_all (λ (x : Variable). is_free_name x.name) D.vars)
    (list_all (λ (c : Constant). is_free_name c.name) D.consts && list_all (λ (q : Procedure). is_free_name q.name) D.procs) a.1 in
    let c = both_true (list_all (λ (c : Constant). is_free_name c.name) D.consts) (list_all (λ (q : Procedure). is_free_name q.name) D.procs) b.1 in
    record { modules = a.0; vars = b.0; consts = c.0; procs = c.1 }

pub variable_free : (D : Declarations) → HasFreeNames D → (v : ℕ) (x : Variable) → slice_get D.vars v ≡ Some x → is_free_name x.name ≡ true
variable_free D F v x e = all_at (λ (x : Variable). is_free_name x.name) D.vars v x F.vars e

pub procedure_free : (D : Declarations) → HasFreeNames D → (p : ℕ) (q : Procedure) → slice_get D.procs p ≡ Some q → is_free_name q.name ≡ true
procedure_free D F p q e = all_at (λ (q : Procedure). is_free_name q.name) D.procs p q F.procs e

-- the parts of a property have a free name
pub procedure_name_free : (D : Declarations) → HasFreeNames D → (p : ℕ) → is_free_name (procedure_name D p) ≡ true
procedure_name_free D F p = by (slice_get D.procs p)
  where
    named : (i : ℕ) (o : Option Procedure) → slice_get D.procs i ≡ o → is_free_name (procedure_name_of o) ≡ true
    named i None e = refl
    named i (Some q) e = procedure_free D F i q e

    by : (o : Option Procedure) → is_free_name (first_name D o) ≡ true
    by None = refl
    by (Some q) = named q.first.0 (slice_get D.procs q.first.0) refl

pub separate_free : (k : ProcKind) (name : List ℕ) → is_free_name name ≡ true → is_free_name (separate_name k name) ≡ true
separate_free kind.Sub name h = h
separate_free kind.Function name h = h
separate_free kind.Get name h = refl
separate_free kind.Let name h = refl
separate_free kind.Set name h = refl

pub counter_free : (k : ℕ) → is_free_name (counter_name k) ≡ true
counter_free k = refl

-- ---- those of a statement

abbrev pub is_free_variable : ℕ × Variable → Bool
is_free_variable v = is_free_name v.1.name

abbrev pub is_free_constant : ℕ × Constant → Bool
is_free_constant c = is_free_name c.1.name

pub variables_free : (file n k : ℕ) (vs : List Variable) → list_all (λ (x : Variable). is_free_name x.name) vs ≡ true
    → list_all is_free_variable (variables_from file n k vs) ≡ true
variables_free file n k [] h = refl
variables_free file n k (v ∷ vs) h =
    let b = both_true (is_free_name v.name) (list_all (λ (x : Variable). is_free_name x.name) vs) h in
    by (is_statement file n v.place v.statement) b.0 (variables_free file n (suc k) vs b.1)
  where
    by : (t : Bool) → is_free_name v.name ≡ true → list_all is_free_variable (variables_from file n (suc k) vs) ≡ true
        → list_all is_free_variable (cond t ((k, v) ∷ variables_from file n (suc k) vs) (variables_from file n (suc k) vs)) ≡ true
    by true e more = and_true (is_free_name v.name) (list_all is_free_variable (variables_from file n (suc k) vs)) e more
    by false e more = more

pub constants_free : (file n k : ℕ) (cs : List Constant) → list_all (λ (c : Constant). is_free_name c.name) cs ≡ true
    → list_all is_free_constant (constants_from file n k cs) ≡ true
constants_free file n k [] h = refl
constants_free file n k (c ∷ cs) h =
    let b = both_true (is_free_name c.name) (list_all (λ (c : Constant). is_free_name c.name) cs) h in
    by (is_statement file n c.place c.statement) b.0 (constants_free file n (suc k) cs b.1)
  where
    by : (t : Bool) → is_free_name c.name ≡ true → list_all is_free_constant (constants_from file n (suc k) cs) ≡ true
        → list_all is_free_constant (cond t ((k, c) ∷ constants_from file n (suc k) cs) (constants_from file n (suc k) cs)) ≡ true
    by true e more = and_true (is_free_name c.name) (list_all is_free_constant (constants_from file n (suc k) cs)) e more
    by false e more = more

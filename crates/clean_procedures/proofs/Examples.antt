-- Worked examples, computed: which points lead to which, and which are broken.
use Rattle.std.proofs.Common.{◌≡◌, ℕ, Bool, true, false, List, [], ◌∷◌, None, refl, arith, codes}
use Rattle.vb_tree.specs.BoundTree.{Ty, long, user, str}
use Rattle.vb_tree.specs.declared.declared.Owner.{Owner}
use Rattle.vb_tree.specs.declared.declared.Owner.TheVariants as owner
use Rattle.vb_tree.specs.declared.declared.ProcId.{ProcId}
use Rattle.vb_tree.specs.declared.declared.ProcKind.TheVariants as kind
use Rattle.vb_tree.specs.declared.declared.TypeId.{TypeId}
use Rattle.vb_tree.specs.declared.declared.VarId.{VarId}
use Rattle.vb_tree.specs.declared.form_parts.Compare.TheVariants as compare
use Rattle.vb_tree.specs.declared.form_parts.Visibility.TheVariants as word
use Rattle.vb_tree.specs.declared.project.ProjectKind.TheVariants.{Exe}
use Rattle.vb_tree.specs.Tree.{Form, Module, alone, invoke, no_args, option_compare, option_explicit}
use Rattle.vb_tree.specs.Tree as vb
use Rattle.bound_tree.specs.declared.body.Mention.{Mention}
use Rattle.bound_tree.specs.declared.body.Mention.TheVariants as mention
use Rattle.bound_tree.specs.declared.declared.Named.TheVariants as named
use Rattle.bound_tree.specs.declared.declared.Scope.TheVariants as scope
use Rattle.bound_tree.specs.declared.marks.Marks.{Marks}
use Rattle.bound_tree.specs.RuleSets.{has, none, with_rule}
use Rattle.bound_tree.specs.Tree.{Expr, typed, call, no_object, no_passed, Line, Variable, Procedure, Program}
use Rattle.bound_facts.specs.Clean.{procedure, variable, user_type, IsClean, Path, stays, goes, arrows, point_broken}
use Rattle.clean_procedures.specs.Broken.{broken_points}
use Rattle.clean_procedures.specs.Pairs.{all_pairs, pair}

abbrev v : ℕ → VarId
v n = record { 0 = n }

abbrev p : ℕ → ProcId
p n = record { 0 = n }

abbrev t : ℕ → TypeId
t n = record { 0 = n }

abbrev line_of : Form → vb.Line
line_of form = record { place = record { file = 1; line = 1 }; text = []; form = form }

abbrev module_of : (file : ℕ) → Form → Module
module_of file form = record { file = file; name = codes "M"; class = false; members = alone (line_of form) ∷ []; comments = [] }

abbrev var : (file statement : ℕ) → Owner → Ty → Variable
var file statement o ty = record {
  name = codes "x";
  place = record { file = file; line = 1 };
  statement = statement;
  owner = o;
  ty = ty;
  named = ty;
  qualified = false;
  lettered = None;
  bounds = [];
  auto = false;
  preset = None;
}

abbrev proc : (file : ℕ) → Procedure
proc file = record {
  name = codes "P";
  place = record { file = file; line = 1 };
  module_number = file;
  kind = kind.Sub;
  visibility = word.Public;
  params = [];
  result = long;
  answer = None;
  first = p 0;
}

abbrev saying : List Expr → List Mention → Line
saying exprs mentions = record { source = line_of (invoke vb.me no_args); bindings = record { exprs = exprs; rules = none; mentions = mentions } }

-- Module 1 has procedures 0 and 1 and the variables 0 and 1 in one statement; module 2 compares texts without case and has procedure 2
-- with the local variable 2 of the user type 0, whose field is variable 3. Procedure 0 calls 1, which mentions variable 1.
abbrev P : Program
P = record {
  declarations = record {
    project = record {
      file = record { kind = Exe; startup = None; entries = []; dropped = [] };
      modules = module_of 1 option_explicit ∷ module_of 2 (option_compare compare.Text) ∷ [];
    };
    names = [];
    vars = var 1 4 (owner.Module 1) long ∷ var 1 4 (owner.Module 1) str ∷ var 2 7 (owner.Local (p 2)) (user 0) ∷ var 2 5 (owner.Field (t 0)) long ∷ [];
    consts = [];
    procs = proc 1 ∷ proc 1 ∷ proc 2 ∷ [];
    types = record { name = codes "T"; place = record { file = 2; line = 1 }; «module» = 2; fields = v 3 ∷ [] } ∷ [];
    enums = [];
    defaults = [];
  };
  bodies = (saying (typed long (call (p 1) false no_object no_passed) ∷ []) [] ∷ []) ∷ (saying [] (mention.Var (v 1) ∷ []) ∷ []) ∷ [] ∷ [];
}

which_lead_to_which :
    all_pairs P ≡ pair (procedure 0) (procedure 1) ∷ pair (procedure 1) (variable 1) ∷ pair (procedure 2) (variable 2) ∷ pair (variable 2) (user_type 0) ∷ pair (user_type 0) (variable 3) ∷ []
which_lead_to_which = refl

-- a pass by which variable 0 breaks a rule
abbrev m : Marks
m = record { lines = []; heads = []; vars = with_rule none 1 ∷ []; consts = []; types = []; enums = [] }

-- both variables of the statement are broken, and the procedure of the module that compares texts without case
which_are_broken : broken_points P.declarations (m ∷ []) ≡ variable 0 ∷ variable 1 ∷ procedure 2 ∷ []
unfolding none with_rule has
which_are_broken = refl

the_variable_is_broken : point_broken P.declarations m (variable 1) ≡ true
unfolding none with_rule has
the_variable_is_broken = refl

-- so procedure 0 isn't clean: the first arrow is its call, the second what that one mentions
a_path_to_it : Path (arrows P) (procedure 0) (variable 1)
a_path_to_it = goes (procedure 0) (procedure 1) (variable 1) (goes (procedure 0) (procedure 0) (procedure 1) (stays (procedure 0)) (0, omega arith, refl)) (1, omega arith, refl)

-- Module 1 has a variable with the name of the support module, and a procedure with no line.
abbrev Q : Program
Q = record {
  declarations = record {
    project = record {
      file = record { kind = Exe; startup = None; entries = []; dropped = [] };
      modules = module_of 1 option_explicit ∷ [];
    };
    names = record { name = codes "UpgradeSupport"; scope = scope.Private 1; named = named.Var (v 0) } ∷ record { name = codes "P"; scope = scope.Public 1; named = named.Proc (p 0) } ∷ [];
    vars = record (var 1 1 (owner.Module 1) long) { name = codes "UpgradeSupport" } ∷ [];
    consts = [];
    procs = proc 1 ∷ [];
    types = [];
    enums = [];
    defaults = [];
  };
  bodies = [] ∷ [];
}

it_leads_to_what_captures : all_pairs Q ≡ pair (procedure 0) (variable 0) ∷ []
it_leads_to_what_captures = refl

-- a pass by which the variable breaks the rule on names that are taken
abbrev taken : Marks
taken = record { lines = []; heads = []; vars = with_rule none 20 ∷ []; consts = []; types = []; enums = [] }

what_captures_is_broken : point_broken Q.declarations taken (variable 0) ≡ true
unfolding none with_rule has
what_captures_is_broken = refl

-- the arrow before it leads to the Option line
a_path_to_what_captures : Path (arrows Q) (procedure 0) (variable 0)
a_path_to_what_captures = goes (procedure 0) (procedure 0) (variable 0) (stays (procedure 0)) (1, omega arith, refl)

both : (b : Bool) → b ≡ true → b ≡ false → ⊥
both b e h = absurd (cc (e, h))

it_is_not_clean : IsClean Q taken 0 → ⊥
it_is_not_clean clean = both (point_broken Q.declarations taken (variable 0)) what_captures_is_broken (clean (variable 0) a_path_to_what_captures)

-- Local variables that no line declares. In a module without Option Explicit a word that could be a variable and is declared nowhere is one
-- of its procedure, from the line of its first use on.
use Rattle.std.specs.Prelude.{ℕ, zero, suc, ◌+◌, Bool, true, false, cond, ◌||◌, ◌&&◌, not, is_some, Option, Some, None, List, [], ◌∷◌, ◌++◌, map, filter, length}
use Rattle.std.specs.List.{flat_map, list_any}
use Rattle.up_base.specs.declared.place.Place.{Place}
use Rattle.up_base.specs.Names.{is_same_name, lower_case}
use Rattle.vb_tree.specs.BoundTree.{Ty, unknown}
use Rattle.vb_tree.specs.declared.declared.Owner.TheVariants as owner
use Rattle.vb_tree.specs.declared.declared.ProcId.{ProcId}
use Rattle.vb_tree.specs.declared.token.Suffix.{Suffix}
use Rattle.vb_tree.specs.Blocks.{is_code}
use Rattle.vb_tree.specs.FlatLines.{flat_lines, member_lines}
use Rattle.vb_tree.specs.Tree.{Exp, word, bracketed, member, index, unary, binary, paren, bang, type_of, Args, no_args, next_arg, Given, omitted, given, Form, Line, Nodes, Member, proc, Module, Project}
use Rattle.bound_tree.specs.declared.declared.Named.TheVariants as named
use Rattle.bound_tree.specs.declared.declared.NamedEntry.{NamedEntry}
use Rattle.bound_tree.specs.declared.declared.Scope.TheVariants.{Local}
use Rattle.bound_tree.specs.declared.rule_set.RuleSet.{RuleSet}
use Rattle.bound_tree.specs.RuleSets.{none, with_if}
use Rattle.bound_tree.specs.Tree.{Declarations, Variable}
use Rattle.declared_names.specs.Rules.{is_module_name, is_reserved}
use Rattle.name_tables.specs.declared.uses.Spelling.{Spelling}
use Rattle.name_tables.specs.declared.uses.Spelling.TheVariants as spelling
use Rattle.name_tables.specs.Scopes.{is_plain}
use Rattle.expression_words.specs.declared.lookups.Lookup.{Lookup}
use Rattle.expression_words.specs.Meanings.{Scope, no_with, is_type_word, is_undeclared, keyword_of, spelling_of, use_of}
use Rattle.bound_exprs.specs.Resolved.{as_qualifier, as_value, with_list}
use Rattle.declarations.specs.ModuleFacts.{facts_in, needs_declaration}
use Rattle.declarations.specs.NamedTypes.{Choice, single}
use Rattle.binder.specs.Parts.{Part, parts, lookup_of}

-- ---- words

-- a word that stands alone, with how it is looked up
pub record Word : Type 0 where
  pub lookup : Lookup
  pub spelling : Spelling
  pub name : List ℕ
  pub suffix : Suffix

abbrev pub could_be_variable : Lookup → Spelling → List ℕ → Bool
could_be_variable r s key = is_plain r.first && not (is_type_word s key)

abbrev pub word_if : Lookup → Spelling → List ℕ → Suffix → List Word
word_if r how name s = cond (could_be_variable r how (lower_case name)) (record { lookup = r; spelling = how; name = name; suffix = s } ∷ []) []

-- True and its like stand for values
abbrev pub plain_word : Lookup → List ℕ → Suffix → List Word
plain_word r name s = cond (is_some (keyword_of (lower_case name))) [] (word_if r (spelling_of s) name s)

-- the words of an expression that could be variables, from the left
abbrev mutual
  pub words_in : Lookup → Exp → List Word
  words_in r (word name s) = plain_word r name s
  words_in r (bracketed name s) = word_if r spelling.Bracketed name s
  words_in r (member e name) = words_in as_qualifier e
  words_in r (index e args) = words_in (with_list r) e ++ words_in_args args
  words_in r (unary op e) = words_in as_value e
  words_in r (binary op e f) = words_in as_value e ++ words_in as_value f
  words_in r (paren e) = words_in as_value e
  words_in r (bang e name) = words_in as_value e
  words_in r (type_of e name) = words_in as_value e
  words_in r _ = []

  pub words_in_args : Args → List Word
  words_in_args no_args = []
  words_in_args (next_arg name marked arg rest) = words_in_given arg ++ words_in_args rest

  pub words_in_given : Given → List Word
  words_in_given omitted = []
  words_in_given (given e) = words_in as_value e

abbrev pub part_words : Part → List Word
part_words p = words_in (lookup_of p.task) p.exp

abbrev pub line_words : Form → List Word
line_words f = flat_map part_words (parts f)

-- ---- procedures

-- a procedure: the file of its module, the number of its first line among the lines of the module, and its body
pub record Home : Type 0 where
  pub file : ℕ
  pub first : ℕ
  pub body : Nodes

abbrev pub homes_of : (file n : ℕ) → Member → List Home
homes_of file n (proc head body close) = record { file = file; first = n + 1; body = body } ∷ []
homes_of file n _ = []

-- those of members whose first line is the line n of their module
abbrev pub homes_in : (file n : ℕ) → List Member → List Home
homes_in file n [] = []
homes_in file n (m ∷ ms) = homes_of file n m ++ homes_in file (n + length (member_lines m)) ms

abbrev pub homes : Project → List Home
homes P = flat_map (λ (m : Module). homes_in m.file 0 m.members) P.modules

-- a code line and its number among the lines of its module
pub record Placed : Type 0 where
  pub line : Line
  pub statement : ℕ

-- the code lines among lines that are numbered from n
abbrev pub placed_from : (n : ℕ) → List Line → List Placed
placed_from n [] = []
placed_from n (l ∷ ls) = cond (is_code l.form) (record { line = l; statement = n } ∷ placed_from (n + 1) ls) (placed_from (n + 1) ls)

abbrev pub placed : Home → List Placed
placed h = placed_from h.first (flat_lines h.body)

-- ---- variables

-- a variable that no line declares, where it is used first
pub record Implicit : Type 0 where
  pub file : ℕ
  pub procedure : ProcId
  pub place : Place
  pub statement : ℕ
  pub name : List ℕ
  pub suffix : Suffix

abbrev pub is_missing : Scope → Word → Bool
is_missing S w = is_undeclared (use_of S w.lookup w.spelling (lower_case w.name))

abbrev pub implicit_at : (file : ℕ) → ProcId → Placed → Word → Implicit
implicit_at file p l w = record { file = file; procedure = p; place = l.line.place; statement = l.statement; name = w.name; suffix = w.suffix }

abbrev pub is_among : List Implicit → Implicit → Bool
is_among all x = list_any (λ (y : Implicit). is_same_name y.name x.name) all

-- each name once, where it stands first
abbrev pub with_new : List Implicit → List Implicit → List Implicit
with_new all [] = all
with_new all (x ∷ xs) = with_new (cond (is_among all x) all (all ++ x ∷ [])) xs

-- what the words of a line are that are declared nowhere
abbrev pub implicit_words : Scope → ProcId → Placed → List Word → List Implicit
implicit_words S p l ws = map (implicit_at S.site.file p l) (filter (is_missing S) ws)

abbrev pub implicit_in : Scope → ProcId → (explicit : Bool) → Placed → List Implicit
implicit_in S p explicit l = cond explicit [] (implicit_words S p l (line_words l.line.form))

-- The variables of a procedure, numbered from a number; and for each of its code lines the number of the first one that is used in later
-- lines alone, or the number behind the last one.
pub record Locals : Type 0 where
  pub variables : List Implicit
  pub laters : List ℕ

abbrev pub variables_in : Scope → ProcId → (explicit : Bool) → List Placed → List Implicit
variables_in S p explicit lines = with_new [] (flat_map (implicit_in S p explicit) lines)

abbrev pub laters_after : Scope → ProcId → (explicit : Bool) → (first : ℕ) → List Implicit → List Placed → List ℕ
laters_after S p explicit first all [] = []
laters_after S p explicit first all (l ∷ ls) =
    let more = with_new all (implicit_in S p explicit l) in
    (first + length more) ∷ laters_after S p explicit first more ls

abbrev pub locals_in : Scope → ProcId → (explicit : Bool) → (first : ℕ) → List Placed → Locals
locals_in S p explicit first lines = record { variables = variables_in S p explicit lines; laters = laters_after S p explicit first [] lines }

-- where the lines of a procedure are looked at before any such variable is declared
abbrev pub written_scope : Declarations → (file : ℕ) → ProcId → Scope
written_scope D file p = record {
  declarations = D;
  written = D;
  later = 4294967295;
  site = record { file = file; procedure = Some p };
  kept = no_with;
  missing = 3;
}

abbrev pub is_explicit : Declarations → Home → Bool
is_explicit D h = needs_declaration h.file (map facts_in D.project.modules)

abbrev pub locals_of : Declarations → ProcId → (first : ℕ) → Home → Locals
locals_of D p first h = locals_in (written_scope D h.file p) p (is_explicit D h) first (placed h)

abbrev pub procedure_id : ℕ → ProcId
procedure_id n = record { 0 = n }

-- those of procedures from the one with the number p on
abbrev pub locals_from : Declarations → (p first : ℕ) → List Home → List Locals
locals_from D p first [] = []
locals_from D p first (h ∷ hs) =
    let l = locals_of D (procedure_id p) first h in
    l ∷ locals_from D (p + 1) (first + length l.variables) hs

-- they are numbered behind all declared variables
abbrev pub project_locals : Declarations → List Locals
project_locals D = locals_from D 0 (length D.vars) (homes D.project)

abbrev pub all_variables : List Locals → List Implicit
all_variables ls = flat_map (λ (l : Locals). l.variables) ls

-- ---- declarations

-- whether the name is one of what each written project has
abbrev pub is_taken : Declarations → List ℕ → Bool
is_taken D name = is_reserved name || is_module_name D.project.modules name

abbrev pub rules_of : Declarations → Implicit → RuleSet
rules_of D x = with_if none 20 (is_taken D x.name)

-- by its suffix or its first letter, else Variant
abbrev pub choice_of : Declarations → Implicit → Choice
choice_of D x = single D x.file x.name x.suffix false None

abbrev pub declared_as : (taken : Bool) → Implicit → Choice → Variable
declared_as taken x c = record {
  name = x.name;
  place = x.place;
  statement = x.statement;
  owner = owner.Local x.procedure;
  ty = cond taken unknown c.ty;
  named = c.ty;
  qualified = false;
  lettered = c.lettered;
  bounds = [];
  auto = false;
  preset = None;
}

abbrev pub variable_of : Declarations → Implicit → Variable
variable_of D x = declared_as (is_taken D x.name) x (choice_of D x)

abbrev pub entry_at : (k : ℕ) → Implicit → NamedEntry
entry_at k x = record { name = x.name; scope = Local x.procedure; named = named.Var (record { 0 = k }) }

-- the names of variables that are numbered from k
abbrev pub entries_from : (k : ℕ) → List Implicit → List NamedEntry
entries_from k [] = []
entries_from k (x ∷ xs) = entry_at k x ∷ entries_from (k + 1) xs

-- all declarations, these behind those that lines declare
abbrev pub with_locals : Declarations → List Implicit → Declarations
with_locals D all = record D { names = D.names ++ entries_from (length D.vars) all; vars = D.vars ++ map (variable_of D) all }

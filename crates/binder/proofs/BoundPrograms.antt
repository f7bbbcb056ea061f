-- What is made of all declarations, of which so many stand in lines, is the project that is bound to those in lines.
use Rattle.std.proofs.Common.{◌≡◌, ℕ, suc, ◌+◌, ◌<◌, List, [], ◌∷◌, ◌++◌, drop, get_or, length, map, refl, sym, ap, ◌∙◌, append_assoc, length-append, replicate, subst, take, arith, Global}
use Rattle.std.specs.Prelude.{Option, Some, None, Vec, option_map, slice_get}
use Rattle.std.specs.Borrow.{Bor}
use Rattle.std.specs.List.{flat_map}
use Rattle.std.specs.Option.{option_copied}
use Rattle.std.specs.Slice.{IsItemAt}
use Rattle.std.proofs.lemmas.List.{at_drop_more, length-map, map-append, take_at}
use Rattle.std.proofs.lemmas.Option.{slice_get-map, slice_get_past, slice_get_read}
use Rattle.vb_tree.specs.FlatLines.{member_lines}
use Rattle.vb_tree.specs.declared.declared.ProcId.{ProcId}
use Rattle.vb_tree.specs.Tree.{Member, Module, Nodes, Project, alone, group, proc}
use Rattle.bound_tree.specs.declared.body.Bound.{Bound}
use Rattle.bound_tree.specs.declared.body.BoundBody.{BoundBody}
use Rattle.bound_tree.specs.declared.declared.Declared.{Declared}
use Rattle.bound_tree.specs.declared.declared.NamedEntry.{NamedEntry}
use Rattle.bound_tree.specs.declared.marks.Marks.{Marks}
use Rattle.bound_tree.specs.declared.rule_set.RuleSet.{RuleSet}
use Rattle.bound_tree.specs.RuleSets.{none}
use Rattle.bound_tree.specs.Source.{procedures_in, procedures_of}
use Rattle.bound_tree.specs.Tree.{Bindings, Declarations, Line, Program, Variable}
use Rattle.bound_tree.specs.View as bound
use Rattle.bound_tree.specs.View.{bindings_of, bodies_of, declarations_of, program_of, with_body}
use Rattle.expression_words.specs.Meanings.{no_with}
use Rattle.binder.specs.declared.binding.Counted.{Counted}
use Rattle.binder.specs.declared.binding.Found.{Found}
use Rattle.binder.specs.declared.binding.Plan.{Plan}
use Rattle.binder.specs.declared.binding.Tables.{Tables}
use Rattle.binder.specs.declared.homes.Home as written
use Rattle.binder.specs.declared.locals.Locals as code
use Rattle.binder.specs.Bodies.{bound_body}
use Rattle.binder.specs.ImplicitLocals.{Home, Implicit, Locals, all_variables, entries_from, homes, homes_in, homes_of, locals_from, locals_of, procedure_id, project_locals, rules_of, variable_of}
use Rattle.binder.specs.Programs.{IsBound, all_bodies, all_declarations, bodies_from, body_rules, body_with, bound_marks, bound_program, inside}
use Rattle.binder.specs.View.{AreTablesOf, IsFound, IsMade, IsPlan, body_shown, front_of, home_of, lines_shown, locals_shown, marks_by, rules_shown}
use Rattle.binder.proofs.Sources.{at_seam, body_is, nodes_sources}

-- ---- procedures

abbrev bodies_in : List Home → List Nodes
bodies_in hs = map (λ (h : Home). h.body) hs

member_bodies : (file n : ℕ) (m : Member) → bodies_in (homes_of file n m) ≡ procedures_in m
member_bodies file n (alone l) = refl
member_bodies file n (group head lines close) = refl
member_bodies file n (proc head body close) = refl

module_bodies : (file n : ℕ) (ms : List Member) → bodies_in (homes_in file n ms) ≡ flat_map procedures_in ms
module_bodies file n [] = refl
module_bodies file n (m ∷ ms) =
    map-append (λ (h : Home). h.body) (homes_of file n m) (homes_in file (n + length (member_lines m)) ms)
    ∙ ap (λ (xs : List Nodes). xs ++ bodies_in (homes_in file (n + length (member_lines m)) ms)) (member_bodies file n m)
    ∙ ap (λ (xs : List Nodes). procedures_in m ++ xs) (module_bodies file (n + length (member_lines m)) ms)

all_modules : (ms : List Module) → bodies_in (flat_map (λ (m : Module). homes_in m.file 0 m.members) ms) ≡ flat_map (λ (m : Module). flat_map procedures_in m.members) ms
all_modules [] = refl
all_modules (m ∷ ms) =
    map-append (λ (h : Home). h.body) (homes_in m.file 0 m.members) (flat_map (λ (x : Module). homes_in x.file 0 x.members) ms)
    ∙ ap (λ (xs : List Nodes). xs ++ bodies_in (flat_map (λ (x : Module). homes_in x.file 0 x.members) ms)) (module_bodies m.file 0 m.members)
    ∙ ap (λ (xs : List Nodes). flat_map procedures_in m.members ++ xs) (all_modules ms)

homes_are : (P : Project) → bodies_in (homes P) ≡ procedures_of P
homes_are P = all_modules P.modules

locals_counted : (D : Declarations) (p first : ℕ) (hs : List Home) → length (locals_from D p first hs) ≡ length hs
locals_counted D p first [] = refl
locals_counted D p first (h ∷ hs) = ap suc (locals_counted D (p + 1) (first + length (locals_of D (procedure_id p) first h).variables) hs)

-- ---- bodies

-- the item behind so many others
at_place : {X : Type 0} (before : List X) (x : X) (rest : List X) (p : ℕ) → p ≡ length before → slice_get (before ++ x ∷ rest) p ≡ Some x
at_place before x rest p counted = ap (λ (n : ℕ). slice_get (before ++ x ∷ rest) n) counted ∙ at_seam before x rest

one_longer : {X : Type 0} (before : List X) (x : X) (p : ℕ) → p ≡ length before → p + 1 ≡ length (before ++ x ∷ [])
one_longer before x p counted = omega (arith, counted, length-append before (x ∷ []))

-- the body of a procedure, by its locals
abbrev body_at : (W A : Declarations) (p : ℕ) → Home → Locals → List Line
body_at W A p h l = bound_body (inside W A (procedure_id p) h l) h.body

first_body : (W A : Declarations) (before : List Locals) (l : Locals) (rest : List Locals) (h : Home) (hs : List Home) (p : ℕ) → p ≡ length before
    → bodies_from W A (before ++ l ∷ rest) p (h ∷ hs) ≡ body_at W A p h l ∷ bodies_from W A (before ++ l ∷ rest) (p + 1) hs
first_body W A before l rest h hs p counted =
    ap (λ (o : Option Locals). body_with W A (procedure_id p) h o ++ bodies_from W A (before ++ l ∷ rest) (p + 1) hs) (at_place before l rest p counted)

-- bodies that show what is bound from a procedure on are shown as that
bodies_shown : (W A : Declarations) (before rest : List Locals) (past bs : List BoundBody) (hs : List Home) (p : ℕ)
    → length rest ≡ length hs → p ≡ length before → p ≡ length past
    → map body_shown bs ≡ map lines_shown (bodies_from W A (before ++ rest) p hs)
    → bodies_of (past ++ bs) p (bodies_in hs) ≡ bodies_from W A (before ++ rest) p hs
bodies_shown W A before rest past bs [] p same counted passed shown = refl
bodies_shown W A before [] past bs (h ∷ hs) p same counted passed shown = absurd (omega (arith, same))
bodies_shown W A before (l ∷ rest) past [] (h ∷ hs) p same counted passed shown =
    let opened : bodies_from W A (before ++ l ∷ rest) p (h ∷ hs) ≡ body_at W A p h l ∷ bodies_from W A (before ++ l ∷ rest) (p + 1) hs = first_body W A before l rest h hs p counted in
    absurd (omega (arith, ap length (shown ∙ ap (λ (xs : List (List Line)). map lines_shown xs) opened)))
bodies_shown W A before (l ∷ rest) past (b ∷ bs) (h ∷ hs) p same counted passed shown =
    let opened : bodies_from W A (before ++ l ∷ rest) p (h ∷ hs) ≡ body_at W A p h l ∷ bodies_from W A (before ++ l ∷ rest) (p + 1) hs = first_body W A before l rest h hs p counted in
    let all : map body_shown (b ∷ bs) ≡ map lines_shown (body_at W A p h l ∷ bodies_from W A (before ++ l ∷ rest) (p + 1) hs) =
    shown ∙ ap (λ (xs : List (List Line)). map lines_shown xs) opened in
    let own : body_shown b ≡ lines_shown (body_at W A p h l) = ap (λ (xs : List (List Bindings)). get_or xs 0 (body_shown b)) all in
    let others : map body_shown bs ≡ map lines_shown (bodies_from W A (before ++ l ∷ rest) (p + 1) hs) = ap (λ (xs : List (List Bindings)). drop 1 xs) all in
    let one : (before ++ l ∷ []) ++ rest ≡ before ++ l ∷ rest = append_assoc before (l ∷ []) rest in
    let two : (past ++ b ∷ []) ++ bs ≡ past ++ b ∷ bs = append_assoc past (b ∷ []) bs in
    let behind : bodies_of ((past ++ b ∷ []) ++ bs) (p + 1) (bodies_in hs) ≡ bodies_from W A ((before ++ l ∷ []) ++ rest) (p + 1) hs =
    bodies_shown W A (before ++ l ∷ []) rest (past ++ b ∷ []) bs hs (p + 1) (omega (arith, same)) (one_longer before l p counted) (one_longer past b p passed)
    (others ∙ ap (λ (ls : List Locals). map lines_shown (bodies_from W A ls (p + 1) hs)) (sym one)) in
    ap (λ (o : Option BoundBody). with_body h.body o ++ bodies_of (past ++ b ∷ bs) (p + 1) (bodies_in hs)) (at_place past b bs p passed)
    ∙ ap (λ (xs : List (List Line)). xs ++ bodies_of (past ++ b ∷ bs) (p + 1) (bodies_in hs))
    (body_is h.body b (body_at W A p h l) (nodes_sources (inside W A (procedure_id p) h l) no_with 0 h.body) own)
    ∙ ap (λ (xs : List (List Line)). body_at W A p h l ∷ xs)
    (ap (λ (xs : List BoundBody). bodies_of xs (p + 1) (bodies_in hs)) (sym two) ∙ behind ∙ ap (λ (ls : List Locals). bodies_from W A ls (p + 1) hs) one)
    ∙ sym opened

-- the body of one more procedure is put behind those so far
pub body_put : (W A : Declarations) (p : ProcId) (h : Home) (o : Option (Bor code.Locals)) (l : Bor code.Locals) (laters : List ℕ) (before after : List BoundBody) (b : BoundBody)
    → o ≡ Some l → laters ≡ l.now.laters.items
    → ((all : List Implicit) → map bindings_of b.lines ≡ lines_shown (bound_body (inside W A p h (record { variables = all; laters = laters })) h.body))
    → after ≡ before ++ b ∷ []
    → map body_shown after ≡ map body_shown before ++ map lines_shown (body_with W A p h (option_map (λ (x : Bor code.Locals). locals_shown x.now) o))
body_put W A p h o l laters before after b is same made put =
    let all : List Implicit = (locals_shown l.now).variables in
    ap (λ (bs : List BoundBody). map body_shown bs) put
    ∙ map-append body_shown before (b ∷ [])
    ∙ ap (λ (x : List Bindings). map body_shown before ++ x ∷ [])
    (made all ∙ ap (λ (ns : List ℕ). lines_shown (bound_body (inside W A p h (record { variables = all; laters = ns })) h.body)) same)
    ∙ ap (λ (x : Option (Bor code.Locals)). map body_shown before ++ map lines_shown (body_with W A p h (option_map (λ (y : Bor code.Locals). locals_shown y.now) x))) (sym is)

lent_at : {X : Type 0} (xs : List X) (i : ℕ) (r : Option (Bor X)) → IsItemAt xs i r → option_copied r ≡ slice_get xs i
lent_at xs i None h = sym (slice_get_past xs i h.3)
lent_at xs i (Some x) h = sym (slice_get_read xs (length xs) i x.now refl h.3.0 h.1)

locals_at : (r : Option (Bor code.Locals)) (ls : List code.Locals) (p : ℕ) → IsItemAt ls p r
    → option_map (λ (x : Bor code.Locals). locals_shown x.now) r ≡ slice_get (map locals_shown ls) p
locals_at r ls p h = lent r ∙ ap (λ (o : Option code.Locals). option_map locals_shown o) (lent_at ls p r h) ∙ sym (slice_get-map locals_shown ls p)
  where
    lent : (o : Option (Bor code.Locals)) → option_map (λ (x : Bor code.Locals). locals_shown x.now) o ≡ option_map locals_shown (option_copied o)
    lent None = refl
    lent (Some x) = refl

-- the loop over procedures
pub bodies_more : (W A : Declarations) (ls : List code.Locals) (p q : ℕ) (hs : List written.Home) (i : ℕ) (h : written.Home) (r : Option (Bor code.Locals)) (before after : List (List Bindings))
    → i < length hs → h ≡ get_or hs i h
    → after ≡ before ++ map lines_shown (body_with W A (procedure_id p) (home_of h) (option_map (λ (x : Bor code.Locals). locals_shown x.now) r))
    → IsItemAt ls p r → q ≡ p + 1
    → after ++ map lines_shown (bodies_from W A (map locals_shown ls) q (map home_of (drop (i + 1) hs)))
    ≡ before ++ map lines_shown (bodies_from W A (map locals_shown ls) p (map home_of (drop i hs)))
bodies_more W A ls p q hs i h r before after within item put own behind =
    let rest : List Home = map home_of (drop (i + 1) hs) in
    let all : List Locals = map locals_shown ls in
    let o : Option Locals = slice_get all p in
    ap (λ (n : ℕ). after ++ map lines_shown (bodies_from W A all n rest)) behind
    ∙ ap (λ (bs : List (List Bindings)). bs ++ map lines_shown (bodies_from W A all (p + 1) rest))
    (put ∙ ap (λ (x : Option Locals). before ++ map lines_shown (body_with W A (procedure_id p) (home_of h) x)) (locals_at r ls p own))
    ∙ append_assoc before (map lines_shown (body_with W A (procedure_id p) (home_of h) o)) (map lines_shown (bodies_from W A all (p + 1) rest))
    ∙ ap (λ (bs : List (List Bindings)). before ++ bs) (sym (map-append lines_shown (body_with W A (procedure_id p) (home_of h) o) (bodies_from W A all (p + 1) rest)))
    ∙ ap (λ (y : written.Home). before ++ map lines_shown (bodies_from W A all p (map home_of (y ∷ drop (i + 1) hs)))) item
    ∙ sym (at_drop_more (λ (xs : List written.Home). before ++ map lines_shown (bodies_from W A all p (map home_of xs))) hs i h within)

-- ---- rules

body_rules_shown : (ls : List Line) → rules_shown (lines_shown ls) ≡ body_rules ls
body_rules_shown [] = refl
body_rules_shown (l ∷ ls) = ap (λ (rs : List RuleSet). l.bindings.rules ∷ rs) (body_rules_shown ls)

all_rules_shown : (bs : List (List Line)) → map rules_shown (map lines_shown bs) ≡ map body_rules bs
all_rules_shown [] = refl
all_rules_shown (b ∷ bs) =
    ap (λ (rs : List RuleSet). rs ∷ map rules_shown (map lines_shown bs)) (body_rules_shown b) ∙ ap (λ (rss : List (List RuleSet)). body_rules b ∷ rss) (all_rules_shown bs)

none_each : (vs : List Variable) → replicate (length vs) none ≡ map (λ (v : Variable). none) vs
none_each [] = refl
none_each (v ∷ vs) = ap (λ (rs : List RuleSet). none ∷ rs) (none_each vs)

abbrev with_rules : List (List RuleSet) → List RuleSet → Marks
with_rules lines vars = record { lines = lines; heads = []; vars = vars; consts = []; types = []; enums = [] }

marks_are : (D : Declarations) → marks_by (map lines_shown (all_bodies D)) (length D.vars) (map (rules_of D) (all_variables (project_locals D))) ≡ bound_marks D
marks_are D =
    ap (λ (rss : List (List RuleSet)). with_rules rss (replicate (length D.vars) none ++ map (rules_of D) (all_variables (project_locals D)))) (all_rules_shown (all_bodies D))
    ∙ ap (λ (rs : List RuleSet). with_rules (map body_rules (all_bodies D)) (rs ++ map (rules_of D) (all_variables (project_locals D)))) (none_each D.vars)

-- ---- declarations

-- those that stand in lines, among all
pub front_is : (D : Declarations) → front_of (all_declarations D) (length D.names) (length D.vars) ≡ D
front_is D =
    let all = all_variables (project_locals D) in
    ap (λ (xs : List NamedEntry). record D { names = xs; vars = take (length D.vars) (D.vars ++ map (variable_of D) all) }) (take_at D.names (entries_from (length D.vars) all) (length D.names) refl)
    ∙ ap (λ (xs : List Variable). record D { vars = xs }) (take_at D.vars (map (variable_of D) all) (length D.vars) refl)

-- what is found is put behind them
pub extended : (D E : Declarations) (f : Found) → IsFound f D
    → E ≡ record D { names = D.names ++ f.entries.items; vars = D.vars ++ map bound.variable_of f.vars.items }
    → E ≡ all_declarations D
extended D E f found more =
    more
    ∙ ap (λ (xs : List NamedEntry). record D { names = D.names ++ xs; vars = D.vars ++ map bound.variable_of f.vars.items }) found.entries
    ∙ ap (λ (xs : List Variable). record D { names = D.names ++ entries_from (length D.vars) (all_variables (project_locals D)); vars = D.vars ++ xs }) found.vars

-- ---- the whole

-- the lengths, locals and rules of declarations that stand in lines
pub record AreCounted (c : Counted) (D : Declarations) : Type 0 where
  pub names : c.names ≡ length D.names
  pub vars : c.vars ≡ length D.vars
  pub locals : map locals_shown c.locals.items ≡ project_locals D
  pub rules : c.rules.items ≡ map (rules_of D) (all_variables (project_locals D))

pub front_counted : (D E : Declarations) (c : Counted) → E ≡ all_declarations D → AreCounted c D → front_of E c.names c.vars ≡ D
front_counted D E c whole counted =
    ap (λ (X : Declarations). front_of X c.names c.vars) whole
    ∙ ap (λ (n : ℕ). front_of (all_declarations D) n c.vars) counted.names
    ∙ ap (λ (n : ℕ). front_of (all_declarations D) (length D.names) n) counted.vars
    ∙ front_is D

abbrev shown_program : Declarations → List (List Line) → Program
shown_program D bs = record { declarations = D; bodies = bs }

pub made_is_bound : (d e : Declared) (b : Bound) (c : Counted) → declarations_of e ≡ all_declarations (declarations_of d) → e.marks ≡ d.marks
    → AreCounted c (declarations_of d) → IsMade b e c → IsBound d b
made_is_bound d e b c whole kept counted made =
    let D = declarations_of d in
    let same : declarations_of b.declared ≡ all_declarations D = ap declarations_of made.declared ∙ whole in
    let shown : map body_shown b.bodies ≡ map lines_shown (all_bodies D) =
    made.bodies
    ∙ ap (λ (X : Declarations). map lines_shown (bodies_from X (declarations_of e) (map locals_shown c.locals.items) 0 (homes (declarations_of e).project))) (front_counted D (declarations_of e) c whole counted)
    ∙ ap (λ (X : Declarations). map lines_shown (bodies_from D X (map locals_shown c.locals.items) 0 (homes X.project))) whole
    ∙ ap (λ (ls : List Locals). map lines_shown (bodies_from D (all_declarations D) ls 0 (homes D.project))) counted.locals in
    let bodies : bodies_of b.bodies 0 (procedures_of D.project) ≡ all_bodies D =
    ap (λ (ps : List Nodes). bodies_of b.bodies 0 ps) (sym (homes_are D.project))
    ∙ bodies_shown D (all_declarations D) [] (project_locals D) [] b.bodies (homes D.project) 0 (locals_counted D 0 (length D.vars) (homes D.project)) refl refl shown in
    record {
      program =
          ap (λ (X : Declarations). shown_program X (bodies_of b.bodies 0 (procedures_of X.project))) same
          ∙ ap (λ (xs : List (List Line)). shown_program (all_declarations D) xs) bodies;
      marks =
          made.marks
          ∙ ap (λ (bs : List (List Bindings)). marks_by bs c.vars c.rules.items) shown
          ∙ ap (λ (n : ℕ). marks_by (map lines_shown (all_bodies D)) n c.rules.items) counted.vars
          ∙ ap (λ (rs : List RuleSet). marks_by (map lines_shown (all_bodies D)) (length D.vars) rs) counted.rules
          ∙ marks_are D;
      declared_marks = ap (λ (x : Declared). x.marks) made.declared ∙ kept;
      interfaces = made.interfaces;
      interface_parts = made.interface_parts;
    }

-- the same, by what was planned
pub counted_of : (d : Declared) (p : Plan) (c : Counted) → IsPlan p (declarations_of d) → c.names ≡ length d.names → c.vars ≡ length d.vars
    → c.locals ≡ p.found.locals → c.rules ≡ p.found.rules → AreCounted c (declarations_of d)
counted_of d p c plan names vars locals rules = record {
  names = names;
  vars = vars ∙ sym (length-map d.vars bound.variable_of);
  locals = ap (λ (v : Vec code.Locals Global). map locals_shown v.items) locals ∙ plan.found.locals;
  rules = ap (λ (v : Vec RuleSet Global). v.items) rules ∙ plan.found.rules;
}

pub tables_stay : (d : Declared) (E : Declarations) (p : Plan) (c : Counted) → IsPlan p (declarations_of d) → AreCounted c (declarations_of d) → c.tables ≡ p.tables
    → E ≡ record (declarations_of d) { names = d.names ++ p.found.entries.items; vars = map bound.variable_of d.vars ++ map bound.variable_of p.found.vars.items }
    → AreTablesOf c.tables (front_of E c.names c.vars)
tables_stay d E p c plan counted same more =
    subst (λ (t : Tables). AreTablesOf t (front_of E c.names c.vars)) (sym same)
    (subst (λ (X : Declarations). AreTablesOf p.tables X) (sym (front_counted (declarations_of d) E c (extended (declarations_of d) E p.found plan.found more) counted)) plan.tables)

pub planned_is_bound : (d e : Declared) (b : Bound) (p : Plan) (c : Counted) → IsPlan p (declarations_of d) → AreCounted c (declarations_of d)
    → declarations_of e ≡ record (declarations_of d) { names = d.names ++ p.found.entries.items; vars = map bound.variable_of d.vars ++ map bound.variable_of p.found.vars.items }
    → e.marks ≡ d.marks → IsMade b e c → IsBound d b
planned_is_bound d e b p c plan counted more kept made =
    made_is_bound d e b c (extended (declarations_of d) (declarations_of e) p.found plan.found more) kept counted made

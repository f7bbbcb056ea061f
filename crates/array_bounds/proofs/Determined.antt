-- What the rules ask of the facts is determined by the project, and so are the marks.
use mathlib.Core.Path.{fun_ext}
use Rattle.std.proofs.Common.{◌≡◌, ℕ, suc, ◌+◌, ◌<◌, Bool, true, false, List, [], ◌∷◌, ◌++◌, map, length, refl, ap, sym, ◌∙◌, arith, nat_eq, nat_lt, Some, None}
use Rattle.std.specs.Prelude.{◌||◌, ◌&&◌, not, Option, option_to_list, slice_get}
use Rattle.std.specs.List.{Contains, flat_map, list_any}
use Rattle.std.proofs.lemmas.Bool.{ltb-false, ltb-true}
use Rattle.std.proofs.lemmas.List.Elements.{Contains-append_left, Contains-append_right}
use Rattle.vb_tree.specs.BoundTree.{Ty, array}
use Rattle.vb_tree.specs.declared.declared.VarId.{VarId}
use Rattle.bound_tree.specs.declared.marks.Marks.{Marks}
use Rattle.bound_tree.specs.declared.rule_set.RuleSet.{RuleSet}
use Rattle.bound_tree.specs.RuleSets.{none, with_if}
use Rattle.bound_tree.specs.Tree.{Expr, typed, Term, element, library, Exprs, no_exprs, next_expr, Passed, no_passed, next_passed, Line, Variable, Procedure, Declarations, Program}
use Rattle.bound_facts.specs.Bounds.{RankIs, array_at, least_rank, no_rank}
use Rattle.bound_facts.specs.Calls.{count_variables}
use Rattle.bound_facts.specs.Effects.{params_of}
use Rattle.bound_facts.specs.Folded.{folded}
use Rattle.bound_facts.specs.Node.{args_at, called, is_array_type, type_at}
use Rattle.bound_facts.specs.Nodes.{line_nodes}
use Rattle.array_bounds.specs.Declaring.{breaks_variable, is_array_of_made, is_array_or_holds, splits_variable, type_of_kind}
use Rattle.array_bounds.specs.Elements.{asks_above, breaks_forms, breaks_node, count, dimension_in, gives_fixed, given_expr, is_above, is_bound_lib, is_resized_at, misfits, misfits_in, rank_at}
use Rattle.array_bounds.specs.Facts.{AreFacts}
use Rattle.array_bounds.specs.Known.{Known}
use Rattle.array_bounds.specs.Locking.{bound_element, bound_elements, breaks_locks, elements, line_elements, locks_by, locks_from, may_lock, others_enter}
use Rattle.array_bounds.specs.Resizing.{breaks_form, breaks_lows}
use Rattle.array_bounds.specs.Rows.{AreMarks, AreMarksOf, head_rules, line_rules, variable_rules, variables_rules}
use Rattle.array_bounds.specs.Types.{is_fixed_array, is_user_that}
use Rattle.array_bounds.proofs.Locked.{same_test}

one_rank : {P : Program} {a r s : ℕ} → RankIs P a r → RankIs P a s → r ≡ s
one_rank (least_rank r own least) (least_rank s more small) = let up = least s more in let down = small r own in omega arith
one_rank (least_rank r own least) (no_rank never) = absurd (never r own)
one_rank (no_rank never) (least_rank s more small) = absurd (never s more)
one_rank (no_rank never) (no_rank too) = refl

module _ (P : Program) (F G : Known) (f : AreFacts P F) (g : AreFacts P G) where
  rank_by : (a : ℕ) (b : Bool) → nat_lt a (count_variables P) ≡ b → F.rank a ≡ G.rank a
  rank_by a true e = let low = ltb-true a (count_variables P) e in one_rank (f.rank_is a low) (g.rank_is a low)
  rank_by a false e = let past = ltb-false a (count_variables P) e in f.no_rank a past ∙ sym (g.no_rank a past)

  ranks : F.rank ≡ G.rank
  ranks = fun_ext (λ a. rank_by a (nat_lt a (count_variables P)) refl)

  resized : F.resized ≡ G.resized
  resized = fun_ext (λ v. same_test (F.resized v) (G.resized v) (f.resized_are v) (g.resized_are v))

  hold_array : F.holds_array ≡ G.holds_array
  hold_array = fun_ext (λ t. same_test (F.holds_array t) (G.holds_array t) (f.holds_array_are t) (g.holds_array_are t))

  hold_made : F.holds_made ≡ G.holds_made
  hold_made = fun_ext (λ t. same_test (F.holds_made t) (G.holds_made t) (f.holds_made_are t) (g.holds_made_are t))

  split : (a : ℕ) → a < count_variables P → F.splits a ≡ G.splits a
  split a low = same_test (F.splits a) (G.splits a) (f.splits_are a low) (g.splits_are a low)

  torn : (a : ℕ) → a < count_variables P → F.tears a ≡ G.tears a
  torn a low = same_test (F.tears a) (G.tears a) (f.tears_are a low) (g.tears_are a low)

  -- the same procedures lock the types of a list
  abbrev Agree : List Ty → Type 0
  Agree types = (ty : Ty) → Contains types ty → F.locks ty ≡ G.locks ty

  lock : Agree (elements P)
  lock ty among = fun_ext (λ p. same_test (F.locks ty p) (G.locks ty p) (f.locks_are ty among p) (g.locks_are ty among p))

  first : (xs ys : List Ty) → Agree (xs ++ ys) → Agree xs
  first xs ys all ty h = all ty (Contains-append_left xs ys ty h)

  second : (xs ys : List Ty) → Agree (xs ++ ys) → Agree ys
  second xs ys all ty h = all ty (Contains-append_right xs ys ty h)

  map_same : {X Y : Type 0} (one other : X → Y) (types : X → List Ty) → ((x : X) → Agree (types x) → one x ≡ other x) → (xs : List X) → Agree (flat_map types xs) → map one xs ≡ map other xs
  map_same one other types same [] all = refl
  map_same one other types same (x ∷ xs) all =
      ap (λ y. y ∷ map one xs) (same x (first (types x) (flat_map types xs) all)) ∙ ap (λ ys. other x ∷ ys) (map_same one other types same xs (second (types x) (flat_map types xs) all))

  any_same : {X : Type 0} (one other : X → Bool) (types : X → List Ty) → ((x : X) → Agree (types x) → one x ≡ other x) → (xs : List X) → Agree (flat_map types xs) → list_any one xs ≡ list_any other xs
  any_same one other types same [] all = refl
  any_same one other types same (x ∷ xs) all =
      ap (λ b. b || list_any one xs) (same x (first (types x) (flat_map types xs) all)) ∙ ap (λ b. other x || b) (any_same one other types same xs (second (types x) (flat_map types xs) all))

  -- ---- elements that are given by reference

  may_same : (D : Declarations) (p : ℕ) (all : Passed) (i : ℕ) (o : Option Ty) → Agree (option_to_list o) → may_lock D F p all i o ≡ may_lock D G p all i o
  may_same D p all i None agree = refl
  may_same D p all i (Some ty) agree = ap (λ (locks : ℕ → Bool). locks p || others_enter D locks i 0 all) (agree ty (0, omega arith, refl))

  from_same : (D : Declarations) (p : ℕ) (all : Passed) (i : ℕ) (rest : Passed) → Agree (bound_elements rest) → locks_from D F p all i rest ≡ locks_from D G p all i rest
  from_same D p all i no_passed agree = refl
  from_same D p all i (next_passed a rest) agree =
      ap (λ b. b || locks_from D F p all (i + 1) rest) (may_same D p all i (bound_element a) (first (option_to_list (bound_element a)) (bound_elements rest) agree))
      ∙ ap (λ b. may_lock D G p all i (bound_element a) || b) (from_same D p all (i + 1) rest (second (option_to_list (bound_element a)) (bound_elements rest) agree))

  by_same : (D : Declarations) (o : Option ℕ) (args : Passed) → Agree (bound_elements args) → locks_by D F o args ≡ locks_by D G o args
  by_same D None args agree = refl
  by_same D (Some p) args agree = from_same D p args 0 args agree

  locks_same : (D : Declarations) (l : Line) → Agree (line_elements l) → breaks_locks D F l ≡ breaks_locks D G l
  locks_same D l agree =
      any_same (λ e. locks_by D F (called e) (args_at e)) (λ e. locks_by D G (called e) (args_at e)) (λ e. bound_elements (args_at e)) (λ e. by_same D (called e) (args_at e)) (line_nodes l) agree

  -- ---- uses of arrays

  rank_same : (o : Option ℕ) → rank_at F o ≡ rank_at G o
  rank_same None = refl
  rank_same (Some a) = ap (λ (rank : ℕ → ℕ). rank a) ranks

  above_same : (D : Declarations) (args : Exprs) → asks_above D F args ≡ asks_above D G args
  above_same D (next_expr e (next_expr d rest)) = ap (λ r. is_above (dimension_in (folded d)) r) (rank_same (array_at D e))
  above_same D (next_expr e no_exprs) = refl
  above_same D no_exprs = refl

  misfits_same : (D : Declarations) (t : Term) → misfits_in D F t ≡ misfits_in D G t
  misfits_same D (element e indexes) = ap (λ r. not (nat_eq (count indexes) r)) (rank_same (array_at D e))
  misfits_same D (library function args) = ap (λ b. is_bound_lib function && b) (above_same D args)
  misfits_same D _ = refl

  resized_same : (w : Option VarId) → is_resized_at F w ≡ is_resized_at G w
  resized_same None = refl
  resized_same (Some w) = ap (λ (test : ℕ → Bool). test w.0) resized

  gives_same : (params : List VarId) (i : ℕ) (args : Passed) → gives_fixed F params i args ≡ gives_fixed G params i args
  gives_same params i no_passed = refl
  gives_same params i (next_passed a rest) =
      ap (λ b. (is_fixed_array (type_at (given_expr a)) && b) || gives_fixed F params (i + 1) rest) (resized_same (slice_get params i))
      ∙ ap (λ b. (is_fixed_array (type_at (given_expr a)) && is_resized_at G (slice_get params i)) || b) (gives_same params (i + 1) rest)

  node_same : (D : Declarations) (e : Expr) → breaks_node D F e ≡ breaks_node D G e
  node_same D (typed ty t) =
      ap (λ b. b || gives_fixed F (params_of D.procs (called (typed ty t))) 0 (args_at (typed ty t))) (misfits_same D t)
      ∙ ap (λ b. misfits D G (typed ty t) || b) (gives_same (params_of D.procs (called (typed ty t))) 0 (args_at (typed ty t)))

  forms_same : (D : Declarations) (l : Line) → breaks_forms D F l ≡ breaks_forms D G l
  forms_same D l = let same : breaks_node D F ≡ breaks_node D G = fun_ext (node_same D) in ap (λ (test : Expr → Bool). breaks_form l.source.form l.bindings.exprs || list_any test (line_nodes l)) same

  -- ---- the sets

  line_same : (D : Declarations) (l : Line) → Agree (line_elements l) → line_rules D F l ≡ line_rules D G l
  line_same D l agree =
      ap (λ b. with_if (with_if (with_if none 9 (breaks_lows l)) 10 b) 11 (breaks_forms D F l)) (locks_same D l agree)
      ∙ ap (λ b. with_if (with_if (with_if none 9 (breaks_lows l)) 10 (breaks_locks D G l)) 11 b) (forms_same D l)

  lines_same : map (map (line_rules P.declarations F)) P.bodies ≡ map (map (line_rules P.declarations G)) P.bodies
  lines_same =
      map_same (map (line_rules P.declarations F)) (map (line_rules P.declarations G)) (flat_map line_elements)
      (λ body. map_same (line_rules P.declarations F) (line_rules P.declarations G) line_elements (line_same P.declarations) body) P.bodies lock

  head_same : (D : Declarations) (q : Procedure) → head_rules D F q ≡ head_rules D G q
  head_same D q = ap (λ b. with_if none 11 b) (by_type (type_of_kind D q q.kind))
    where
      by_type : (o : Option Ty) → is_array_or_holds F o ≡ is_array_or_holds G o
      by_type None = refl
      by_type (Some ty) = ap (λ (holds : ℕ → Bool). is_array_type ty || is_user_that holds ty) hold_array

  heads_same : (D : Declarations) → map (head_rules D F) D.procs ≡ map (head_rules D G) D.procs
  heads_same D = let same : head_rules D F ≡ head_rules D G = fun_ext (head_same D) in ap (λ (rules : Procedure → RuleSet). map rules D.procs) same

  made_same : (ty : Ty) → is_array_of_made F ty ≡ is_array_of_made G ty
  made_same (array ty rank) = ap (λ (holds : ℕ → Bool). is_user_that holds ty) hold_made
  made_same _ = refl

  variable_same : (k : ℕ) (v : Variable) → k < count_variables P → variable_rules F k v ≡ variable_rules G k v
  variable_same k v low =
      ap (λ b. with_if (with_if none 9 (is_array_type v.ty && b)) 11 (breaks_variable F k v)) (split k low)
      ∙ ap (λ b. with_if (with_if none 9 (splits_variable G k v)) 11 ((is_array_type v.ty && b) || is_array_of_made F v.ty)) (torn k low)
      ∙ ap (λ b. with_if (with_if none 9 (splits_variable G k v)) 11 ((is_array_type v.ty && G.tears k) || b)) (made_same v.ty)

  variables_same : (k : ℕ) (vs : List Variable) → k + length vs ≡ count_variables P → variables_rules F k vs ≡ variables_rules G k vs
  variables_same k [] all = refl
  variables_same k (v ∷ vs) all =
      ap (λ set. set ∷ variables_rules F (suc k) vs) (variable_same k v (omega (arith, all))) ∙ ap (λ sets. variable_rules G k v ∷ sets) (variables_same (suc k) vs (omega (arith, all)))

  pub marks_same : (m : Marks) → AreMarksOf P F m → AreMarksOf P G m
  marks_same m are = record {
    lines = are.lines ∙ lines_same;
    heads = are.heads ∙ heads_same P.declarations;
    vars = are.vars ∙ variables_same 0 P.declarations.vars (omega arith);
    consts = are.consts;
    types = are.types;
    enums = are.enums;
  }

pub marks_by_facts : (P : Program) (m : Marks) → AreMarks P m → (G : Known) → AreFacts P G → AreMarksOf P G m
marks_by_facts P m are G facts = marks_same P are.0 G are.1 facts m are.2

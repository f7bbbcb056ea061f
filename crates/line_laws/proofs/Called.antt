-- What the expressions of a line call are calls of the line.
use Rattle.std.proofs.Common.{◌≡◌, ⊎_elim, sym, subst, ℕ, zero, suc, ◌<◌, Bool, true, ◌&&◌, ◌||◌, Option, Some, List, [], ◌∷◌, ◌++◌, length, true≢false, arith}
use Rattle.std.proofs.lemmas.Bool.{or_cases}
use Rattle.std.specs.Prelude.{slice_index_or}
use Rattle.std.specs.List.{Contains, flat_map}
use Rattle.std.proofs.lemmas.List.Elements.{Contains-append_left, Contains-append_right, Contains-push}
use Rattle.vb_tree.specs.BoundTree as types
use Rattle.vb_tree.specs.BoundTree.{Ty}
use Rattle.vb_tree.specs.Tree.{Exp, Form}
use Rattle.vb_tree.specs.Tree as source_form
use Rattle.bound_tree.specs.Tree.{Declarations, Expr, typed, Term, constant, variable, field, element, call, library, unary, binary, convert, new_object, me, with_object, err_number, err_raise, err_clear, is_same, loose, Object, no_object, of_object, Exprs, no_exprs, next_expr, by_value, by_reference, Passed, no_passed, next_passed, Line}
use Rattle.bound_facts.proofs.Chains.{both_true}
use Rattle.bound_facts.specs.Calls.{initialized, line_calls, node_calls, pair_to}
use Rattle.bound_facts.specs.Locks.{is_same_type}
use Rattle.bound_facts.specs.Members.{initializer}
use Rattle.bound_facts.specs.Node.{called, type_at}
use Rattle.bound_facts.specs.Nodes.{nodes, nodes_in, nodes_of_all, nodes_of_object, nodes_of_passed}
use Rattle.bound_facts.specs.Parts.{line_uses, target_nodes, used_nodes}
use Rattle.run_matches.specs.CoveredExprs.{Uses, covers_group, covers_object, covers_place, is_changeable}
use Rattle.run_matches.specs.CoveredLines.{is_auto_target, covers_form, covers_property, covers_property_term, covers_set, covers_set_member, covers_set_variable, is_member_ordered}
use Rattle.run_matches.specs.UserTypes.{is_class_type}
use Rattle.run_statements.specs.Frames.{Demands, AllCalled, AllCalledIn, AllCalledAll, AllCalledFor, AllCalledOf}
use Rattle.run_statements.specs.Kept.{made_at}

abbrev pub AllIn : {A : Type 0} → (A → Type 0) → List A → Type 0
AllIn P [] = Unit {0}
AllIn P (x ∷ xs) = P x × AllIn P xs

-- ---- lists

contains_first : {A : Type 0} (x : A) (xs : List A) → Contains (x ∷ xs) x
contains_first x xs = Contains-append_left (x ∷ []) xs x (Contains-push [] x)

contains_next : {A : Type 0} (x y : A) (xs : List A) → Contains xs y → Contains (x ∷ xs) y
contains_next x y xs h = Contains-append_right (x ∷ []) xs y h

contains_flat : {A B : Type 0} (f : A → List B) (xs : List A) (x : A) (y : B) (k : ℕ) → k < length xs → slice_index_or xs k x ≡ x → Contains (f x) y
    → Contains (flat_map f xs) y
contains_flat f [] x y k lt e h = absurd (omega arith)
contains_flat f (z ∷ zs) x y zero lt e h = Contains-append_left (f z) (flat_map f zs) y (subst (λ a. Contains (f a) y) (sym e) h)
contains_flat f (z ∷ zs) x y (suc k) lt e h = Contains-append_right (f z) (flat_map f zs) y (contains_flat f zs x y k (omega arith) e h)

-- ---- nodes

module _ (Q : Demands) where
  -- what is demanded of a node by itself
  abbrev pub NodeHas : Expr → Type 0
  NodeHas (typed ty (variable v qualified)) = Q.autos v.0
  NodeHas (typed ty (call p qualified of args)) = Q.calls p.0 qualified of args
  NodeHas (typed ty (element e indexes)) = Q.elements e indexes
  NodeHas (typed ty (library f args)) = Q.bounds f args
  NodeHas (typed ty (new_object c)) = Q.news c.0
  NodeHas (typed ty (with_object root)) = Q.withs ty root
  NodeHas (typed ty t) = Unit {0}

  abbrev OfNodes : List Expr → Type 0
  OfNodes es = (d : Expr) → Contains es d → NodeHas d

  of_left : (xs ys : List Expr) → OfNodes (xs ++ ys) → OfNodes xs
  of_left xs ys h d c = h d (Contains-append_left xs ys d c)

  of_right : (xs ys : List Expr) → OfNodes (xs ++ ys) → OfNodes ys
  of_right xs ys h d c = h d (Contains-append_right xs ys d c)

  of_rest : (x : Expr) (xs : List Expr) → OfNodes (x ∷ xs) → OfNodes xs
  of_rest x xs h d c = h d (contains_next x d xs c)

  mutual
    nodes_called : (e : Expr) → OfNodes (nodes e) → AllCalled Q e
    nodes_called (typed ty (constant x origin)) h = tt
    nodes_called (typed ty (variable v qualified)) h = h (typed ty (variable v qualified)) (contains_first (typed ty (variable v qualified)) [])
    nodes_called (typed ty (field e k)) h = nodes_called e (of_rest (typed ty (field e k)) (nodes e) h)
    nodes_called (typed ty (element e indexes)) h = (
      h (typed ty (element e indexes)) (contains_first (typed ty (element e indexes)) (nodes_in (element e indexes))),
      exprs_called indexes (of_right (nodes e) (nodes_of_all indexes) (of_rest (typed ty (element e indexes)) (nodes_in (element e indexes)) h)),
    )
    nodes_called (typed ty (call p qualified of args)) h = (
      h (typed ty (call p qualified of args)) (contains_first (typed ty (call p qualified of args)) (nodes_in (call p qualified of args))),
      passed_called args
          (of_right (nodes_of_object of) (nodes_of_passed args) (of_rest (typed ty (call p qualified of args)) (nodes_in (call p qualified of args)) h)),
      object_called of
          (of_left (nodes_of_object of) (nodes_of_passed args) (of_rest (typed ty (call p qualified of args)) (nodes_in (call p qualified of args)) h)),
    )
    nodes_called (typed ty (library f args)) h = (
      h (typed ty (library f args)) (contains_first (typed ty (library f args)) (nodes_of_all args)),
      exprs_called args (of_rest (typed ty (library f args)) (nodes_of_all args) h),
    )
    nodes_called (typed ty (unary op e)) h = nodes_called e (of_rest (typed ty (unary op e)) (nodes e) h)
    nodes_called (typed ty (binary op d e)) h =
        let more = of_rest (typed ty (binary op d e)) (nodes d ++ nodes e) h in
        (nodes_called d (of_left (nodes d) (nodes e) more), nodes_called e (of_right (nodes d) (nodes e) more))
    nodes_called (typed ty (convert to e)) h = nodes_called e (of_rest (typed ty (convert to e)) (nodes e) h)
    nodes_called (typed ty (new_object c)) h = h (typed ty (new_object c)) (contains_first (typed ty (new_object c)) [])
    nodes_called (typed ty me) h = tt
    nodes_called (typed ty (with_object root)) h = h (typed ty (with_object root)) (contains_first (typed ty (with_object root)) [])
    nodes_called (typed ty err_number) h = tt
    nodes_called (typed ty (err_raise e)) h = nodes_called e (of_rest (typed ty (err_raise e)) (nodes e) h)
    nodes_called (typed ty err_clear) h = tt
    nodes_called (typed ty (is_same d e)) h =
        let more = of_rest (typed ty (is_same d e)) (nodes d ++ nodes e) h in
        (nodes_called d (of_left (nodes d) (nodes e) more), nodes_called e (of_right (nodes d) (nodes e) more))
    nodes_called (typed ty (loose e rules)) h = tt

    object_called : (of : Object) → OfNodes (nodes_of_object of) → AllCalledOf Q of
    object_called no_object h = tt
    object_called (of_object e) h = nodes_called e h

    exprs_called : (args : Exprs) → OfNodes (nodes_of_all args) → AllCalledAll Q args
    exprs_called no_exprs h = tt
    exprs_called (next_expr e rest) h =
        (nodes_called e (of_left (nodes e) (nodes_of_all rest) h), exprs_called rest (of_right (nodes e) (nodes_of_all rest) h))

    passed_called : (args : Passed) → OfNodes (nodes_of_passed args) → AllCalledFor Q args
    passed_called no_passed h = tt
    passed_called (next_passed (by_value e) rest) h =
        (nodes_called e (of_left (nodes e) (nodes_of_passed rest) h), passed_called rest (of_right (nodes e) (nodes_of_passed rest) h))
    passed_called (next_passed (by_reference e) rest) h =
        (nodes_called e (of_left (nodes e) (nodes_of_passed rest) h), passed_called rest (of_right (nodes e) (nodes_of_passed rest) h))

  all_called : (es : List Expr) → OfNodes (flat_map nodes es) → AllIn (AllCalled Q) es
  all_called [] h = tt
  all_called (e ∷ es) h =
      (nodes_called e (of_left (nodes e) (flat_map nodes es) h), all_called es (of_right (nodes e) (flat_map nodes es) h))

-- ---- lines

called_first : (D : Declarations) (p q : ℕ) (o : Option ℕ) (more : List (ℕ × ℕ)) → o ≡ Some q → Contains (pair_to p o more) (p, q)
called_first D p q o more e = subst (λ o. Contains (pair_to p o more) (p, q)) (sym e) (contains_first (p, q) more)

-- what a line uses is among what it calls
pub use_calls : (D : Declarations) (p q : ℕ) (l : Line) (d : Expr) → Contains (line_uses l) d → called d ≡ Some q → Contains (line_calls D p l) (p, q)
use_calls D p q l d m e =
    contains_flat (node_calls D p) (line_uses l) d (p, q) m.0 m.1 m.2 (called_first D p q (called d) (pair_to p (initialized D d) []) e)

-- so is the Class_Initialize of a new object
same_made : (a b : ℕ) → ◌≡◌ {A = Option ℕ} (Some a) (Some b) → a ≡ b
same_made a b e = cc e

makes_first : (D : Declarations) (p q class : ℕ) (d : Expr) → made_at d ≡ Some class → initializer D class ≡ Some q → Contains (node_calls D p d) (p, q)
makes_first D p q class (typed ty (new_object c)) is e =
    called_first D p q (initializer D c.0) [] (subst (λ n. initializer D n ≡ Some q) (sym (same_made c.0 class is)) e)
makes_first D p q class (typed ty _) is e = absurd (cc is)

pub use_makes : (D : Declarations) (p q class : ℕ) (l : Line) (d : Expr) → Contains (line_uses l) d → made_at d ≡ Some class
    → initializer D class ≡ Some q → Contains (line_calls D p l) (p, q)
use_makes D p q class l d m is e =
    contains_flat (node_calls D p) (line_uses l) d (p, q) m.0 m.1 m.2 (makes_first D p q class d is e)

-- what is demanded of the target of a Set: of a variable nothing, since no object is made for it there
abbrev pub TargetCalled : Demands → Expr → Type 0
TargetCalled Q (typed ty (variable v qualified)) = Unit {0}
TargetCalled Q (typed ty t) = AllCalledIn Q ty t

-- a Set stores to a variable
target_called : (Q : Demands) (uses : Uses) (ty : Ty) (t : Term) → is_class_type ty ≡ true → covers_place uses (typed ty t) ≡ true → TargetCalled Q (typed ty t)
target_called Q uses ty (variable v qualified) of covers = tt
target_called Q uses (types.user s) (field e k) of covers = absurd (true≢false (sym of))
target_called Q uses _ (field e k) of covers = absurd (true≢false (sym covers))
target_called Q uses ty _ of covers = absurd (true≢false (sym covers))

-- to an As New one
auto_called : (Q : Demands) (uses : Uses) (ty : Ty) (t : Term) → is_auto_target uses (typed ty t) ≡ true → TargetCalled Q (typed ty t)
auto_called Q uses ty (variable v qualified) is = tt
auto_called Q uses ty _ is = absurd (true≢false (sym is))

-- or to what stands in its object
member_called : (Q : Demands) (uses : Uses) (ty : Ty) (t : Term) (e : Expr) → is_member_ordered uses (typed ty t) e ≡ true
    → OfNodes Q (target_nodes (typed ty t)) → TargetCalled Q (typed ty t)
member_called Q uses ty (field d k) e ordered h = nodes_called Q d h
member_called Q uses ty _ e ordered h = absurd (true≢false (sym ordered))

-- a property is called
property_called : (Q : Demands) (uses : Uses) (ty : Ty) (t : Term) (e : Expr) → covers_property_term uses t e ≡ true → OfNodes Q (target_nodes (typed ty t))
    → TargetCalled Q (typed ty t)
property_called Q uses ty (call p qualified of args) e covers h = nodes_called Q (typed ty (call p qualified of args)) h
property_called Q uses ty _ e covers h = absurd (true≢false (sym covers))

set_target_called : (Q : Demands) (uses : Uses) (ty : Ty) (t : Term) (e : Expr) → covers_set uses (typed ty t ∷ e ∷ []) ≡ true
    → OfNodes Q (target_nodes (typed ty t)) → TargetCalled Q (typed ty t)
set_target_called Q uses ty t e covers h =
    let to : Expr = typed ty t in
    let places : Bool = covers_place uses to && covers_group uses e in
    let plain : Bool = is_changeable uses to && (is_same_type ty (type_at e) && places) in
    let auto : Bool = is_auto_target uses to && (is_same_type ty (type_at e) && covers_group uses e) in
    let objects : Bool = covers_object uses to && covers_group uses e in
    let sets : Bool = covers_set_variable uses to e || covers_set_member uses to e in
    ⊎_elim
    (λ y.
    let first = both_true (is_class_type ty) sets y in
    ⊎_elim
    (λ x.
    ⊎_elim
    (λ z.
    let second = both_true (is_changeable uses to) (is_same_type ty (type_at e) && places) z in
    target_called Q uses ty t first.0
    (both_true (covers_place uses to) (covers_group uses e) (both_true (is_same_type ty (type_at e)) places second.1).1).0)
    (λ z. auto_called Q uses ty t (both_true (is_auto_target uses to) (is_same_type ty (type_at e) && covers_group uses e) z).0)
    (or_cases plain auto x))
    (λ x.
    member_called Q uses ty t e (both_true (is_member_ordered uses to e) (is_same_type ty (type_at e) && objects) x).0 h)
    (or_cases (covers_set_variable uses to e) (covers_set_member uses to e) first.1))
    (λ y. property_called Q uses ty t e (both_true (is_same_type ty (type_at e)) (covers_property_term uses t e) y).1 h)
    (or_cases (is_class_type ty && sets) (covers_property uses to e) covers)

abbrev pub SetCalled : Demands → List Expr → Type 0
SetCalled Q [] = Unit {0}
SetCalled Q (to ∷ es) = TargetCalled Q to × AllIn (AllCalled Q) es

set_called : (Q : Demands) (uses : Uses) (target value : Exp) (es : List Expr) → covers_set uses es ≡ true
    → OfNodes Q (used_nodes (source_form.set target value) es) → SetCalled Q es
set_called Q uses target value [] covers h = tt
set_called Q uses target value (to ∷ []) covers h = absurd (true≢false (sym covers))
set_called Q uses target value (typed ty t ∷ e ∷ []) covers h =
    (set_target_called Q uses ty t e covers (of_left Q (target_nodes (typed ty t)) (flat_map nodes (e ∷ [])) h), all_called Q (e ∷ []) (of_right Q (target_nodes (typed ty t)) (flat_map nodes (e ∷ [])) h))
set_called Q uses target value (to ∷ e ∷ d ∷ es) covers h = absurd (true≢false (sym covers))

-- what is demanded of the expressions of a line
abbrev pub FormCalled : Demands → Form → List Expr → Type 0
FormCalled Q (source_form.set target value) es = SetCalled Q es
FormCalled Q _ es = AllIn (AllCalled Q) es

form_called : (Q : Demands) (uses : Uses) (f : Form) (es : List Expr) → covers_form uses f es ≡ true → OfNodes Q (used_nodes f es) → FormCalled Q f es
form_called Q uses (source_form.set target value) es covers h = set_called Q uses target value es covers h
form_called Q uses _ es covers h = all_called Q es h

-- what holds of the nodes of a covered line holds of those of its expressions
pub line_called : (Q : Demands) (uses : Uses) (l : Line) → covers_form uses l.source.form l.bindings.exprs ≡ true
    → ((d : Expr) → Contains (line_uses l) d → NodeHas Q d) → FormCalled Q l.source.form l.bindings.exprs
line_called Q uses l covers h = form_called Q uses l.source.form l.bindings.exprs covers h

-- What is written for the members of a place leads to them, behind a path and behind what a With keeps.
use Rattle.std.proofs.Common.{◌≡◌, refl, sym, ap, subst, ◌∙◌, ℕ, Bool, true, false, List, [], ◌∷◌, ◌++◌, append_assoc, append-nil}
use Rattle.vb_tree.specs.BoundTree.{Ty}
use Rattle.bound_tree.specs.Tree.{Expr, typed, field, with_object}
use Rattle.bound_tree.specs.Tree as bound
use Rattle.bound_tree.specs.declared.expression.Root as expression
use Rattle.net_tree.specs.Tree.{Exp, Exps, call_of, path, dot, with_dot, me}
use Rattle.run_base.specs.Outcomes.{Outcome, gives, then}
use Rattle.net_run.specs.Expressions.{address_from, finished, members_from, own_object, parts_by, reach, started}
use Rattle.net_run.specs.Making.{Jobs}
use Rattle.net_run.specs.Names.{Scope, Reached, at_place, member_at, path_start}
use Rattle.net_run.specs.Store.{Address, Memory}
use Rattle.written_trees.specs.Exprs.{exp_of, member_of}
use Rattle.written_trees.specs.Names as written
use Rattle.written_trees.specs.Names.{member}
use Rattle.row_laws.proofs.Composing.{after_nil, then_assoc, then_gives}

-- members of members
abbrev pub members : Exp → List (List ℕ) → Exp
members a [] = a
members a (name ∷ more) = members (member a name) more

-- all but what a With keeps, for which nothing is written by itself
abbrev pub is_alone : Expr → Bool
is_alone (typed ty (with_object r)) = false
is_alone (typed ty t) = true

path_members : (names more : List (List ℕ)) → members (path names) more ≡ path (names ++ more)
path_members names [] = ap path (sym (append-nil names))
path_members names (name ∷ more) = path_members (names ++ name ∷ []) more ∙ ap path (append_assoc names (name ∷ []) more)

module _ (S : Scope) (oracle : Jobs) where
  member_then : (r : Outcome Memory Reached) (name : List ℕ) (more : List (List ℕ))
      → then (then (address_from S oracle r) (λ a w. gives [] (member_at S a name w) w)) (λ r w. members_from S oracle r more w)
      ≡ then r (λ r w. members_from S oracle r (name ∷ more) w)
  member_then r name more =
      let goes : Address → Memory → Outcome Memory Reached = λ a w. gives [] (member_at S a name w) w in
      let ends : Reached → Memory → Outcome Memory Reached = λ r w. members_from S oracle r more w in
      then_assoc (address_from S oracle r) goes ends
      ∙ ap (λ j. then (address_from S oracle r) j) (λ i a w. after_nil (members_from S oracle (member_at S a name w) more w) i)
      ∙ then_assoc (then r (parts_by S oracle)) finished (λ a w. members_from S oracle (member_at S a name w) more w)
      ∙ then_assoc r (parts_by S oracle) (λ ps w. then (finished ps w) (λ a w. members_from S oracle (member_at S a name w) more w))
      ∙ ap (λ j. then r j)
      (λ i r w. (sym (then_assoc (parts_by S oracle r w) finished (λ a w. members_from S oracle (member_at S a name w) more w))
      ∙ ap (λ z. then (then z finished) (λ a w. members_from S oracle (member_at S a name w) more w)) (sym (after_nil (parts_by S oracle r w)))) i)

  -- members behind the member of an expression
  dot_members : (e : Exp) (name : List ℕ) (more : List (List ℕ)) (t : Memory)
      → reach S oracle false (members (dot e name) more) t ≡ then (reach S oracle false (dot e name) t) (λ r w. members_from S oracle r more w)
  dot_members e name [] t = sym (then_gives (reach S oracle false (dot e name) t))
  dot_members e name (next ∷ more) t = dot_members (dot e name) next more t ∙ member_then (reach S oracle false (dot e name) t) next more

  -- and behind a member of what a With keeps
  with_members : (name : List ℕ) (more : List (List ℕ)) (t : Memory)
      → reach S oracle false (members (with_dot name) more) t ≡ members_from S oracle (member_at S S.around name t) more t
  with_members name [] t = refl
  with_members name (next ∷ more) t =
      dot_members (with_dot name) next more t ∙ member_then (gives [] (member_at S S.around name t) t) next more
      ∙ after_nil (members_from S oracle (member_at S S.around name t) (next ∷ more) t)

  -- a member of what is reached
  abbrev pub member_behind : (Memory → Outcome Memory Reached) → (name : List ℕ) → Memory → Outcome Memory Reached
  member_behind r name t = then (address_from S oracle (r t)) (λ a w. gives [] (member_at S a name w) w)

  module _ (T : written.Scope) where
    -- What is written for an expression reaches what is told, and with members behind it them.
    pub record Reaches (e : Expr) (r : Memory → Outcome Memory Reached) : Type 0 where
      pub reached : is_alone e ≡ true → (t : Memory) → reach S oracle false (exp_of T e) t ≡ r t
      pub members :
          (name : List ℕ) (more : List (List ℕ)) (t : Memory)
          → reach S oracle false (members (member_of e (exp_of T e) name) more) t ≡ then (r t) (λ z w. members_from S oracle z (name ∷ more) w)

    -- it leads to an address
    abbrev pub LeadsTo : Expr → Address → Type 0
    LeadsTo e b = Reaches e (λ t. gives [] (at_place b) t)

    -- an expression that is written as a path
    pub path_reaches : (e : Expr) (z : Reached) (names : List (List ℕ)) → exp_of T e ≡ path names
        → ((name : List ℕ) → member_of e (path names) name ≡ path (names ++ name ∷ []))
        → ((more : List (List ℕ)) (t : Memory) → started S oracle (path_start S false (names ++ more)) t ≡ members_from S oracle z more t)
        → Reaches e (λ t. gives [] z t)
    path_reaches e z names is behind leads = record {
      reached = λ alone t.
          ap (λ y. reach S oracle false y t) is ∙ ap (λ y. started S oracle (path_start S false y) t) (sym (append-nil names)) ∙ leads [] t;
      members = λ name more t.
          ap (λ y. reach S oracle false (members (member_of e y name) more) t) is ∙ ap (λ y. reach S oracle false (members y more) t) (behind name)
          ∙ ap (λ y. reach S oracle false y t) (path_members (names ++ name ∷ []) more)
          ∙ ap (λ y. started S oracle (path_start S false y) t) (append_assoc names (name ∷ []) more) ∙ leads (name ∷ more) t
          ∙ sym (after_nil (members_from S oracle z (name ∷ more) t));
    }

    pub path_leads : (e : Expr) (b : Address) (names : List (List ℕ)) → exp_of T e ≡ path names
        → ((name : List ℕ) → member_of e (path names) name ≡ path (names ++ name ∷ []))
        → ((more : List (List ℕ)) (t : Memory) → started S oracle (path_start S false (names ++ more)) t ≡ members_from S oracle (at_place b) more t)
        → LeadsTo e b
    path_leads e b names is behind leads = path_reaches e (at_place b) names is behind leads

    pub member_reached : (e : Expr) (r : Memory → Outcome Memory Reached) → Reaches e r → (name : List ℕ) (t : Memory)
        → reach S oracle false (member_of e (exp_of T e) name) t ≡ member_behind r name t
    member_reached e r x name t = x.members name [] t ∙ sym (member_then (r t) name []) ∙ then_gives (member_behind r name t)

    -- what a member reaches is the member of what is reached
    pub behind_reaches : (e : Expr) (r : Memory → Outcome Memory Reached) → Reaches e r → (d : Expr) (name : List ℕ)
        → exp_of T d ≡ member_of e (exp_of T e) name
        → ((next : List ℕ) → member_of d (member_of e (exp_of T e) name) next ≡ member (member_of e (exp_of T e) name) next)
        → Reaches d (member_behind r name)
    behind_reaches e r x d name is behind = record {
      reached = λ alone t. ap (λ z. reach S oracle false z t) is ∙ member_reached e r x name t;
      members = λ next more t.
          ap (λ z. reach S oracle false (members (member_of d z next) more) t) is ∙ ap (λ z. reach S oracle false (members z more) t) (behind next)
          ∙ x.members name (next ∷ more) t ∙ sym (member_then (r t) name (next ∷ more));
    }

    pub member_reaches : (e : Expr) (r : Memory → Outcome Memory Reached) → Reaches e r → (ty : Ty) (k : ℕ) (name : List ℕ)
        → exp_of T (typed ty (field e k)) ≡ member_of e (exp_of T e) name → Reaches (typed ty (field e k)) (member_behind r name)
    member_reaches e r x ty k name is = behind_reaches e r x (typed ty (field e k)) name is (λ next. refl)

    -- a member of what leads to an address
    pub member_leads : (e : Expr) (a b : Address) → LeadsTo e a → (ty : Ty) (k : ℕ) (name : List ℕ)
        → exp_of T (typed ty (field e k)) ≡ member_of e (exp_of T e) name → ((t : Memory) → member_at S a name t ≡ at_place b)
        → LeadsTo (typed ty (field e k)) b
    member_leads e a b x ty k name is found =
        subst (λ r. Reaches (typed ty (field e k)) r) (λ i t. gives [] (found t i) t) (member_reaches e (λ t. gives [] (at_place a) t) x ty k name is)

    -- what a With keeps
    pub with_leads : (ty : Ty) (r : expression.Root) → LeadsTo (typed ty (with_object r)) S.around
    with_leads ty r = record {
      reached = λ alone t. cc alone;
      members = λ name more t.
          with_members name more t ∙ sym (after_nil (members_from S oracle (member_at S S.around name t) more t))
          ∙ sym (after_nil (members_from S oracle (at_place S.around) (name ∷ more) t));
    }

    -- what is written as a call
    pub call_leads : (e : Expr) (a : Exp) (args : Exps) → exp_of T e ≡ call_of a args
        → ((name : List ℕ) → member_of e (call_of a args) name ≡ dot (call_of a args) name)
        → Reaches e (λ t. reach S oracle false (call_of a args) t)
    call_leads e a args is behind = record {
      reached = λ alone t. ap (λ z. reach S oracle false z t) is;
      members = λ name more t.
          ap (λ z. reach S oracle false (members (member_of e z name) more) t) is ∙ ap (λ z. reach S oracle false (members z more) t) (behind name)
          ∙ dot_members (call_of a args) name more t ∙ member_then (reach S oracle false (call_of a args) t) name more;
    }

    -- Me
    pub me_leads : (ty : Ty) → LeadsTo (typed ty bound.me) (own_object S)
    me_leads ty = record {
      reached = λ alone t. refl;
      members = λ name more t. dot_members me name more t ∙ member_then (reach S oracle false me t) name more;
    }

-- What a line calls: its procedure reaches it, and promises no more than it keeps.
use Rattle.std.proofs.Common.{◌≡◌, ◌⊎◌, inl, inr, refl, sym, ap, subst, ◌∙◌, ℕ, zero, suc, ◌+◌, Bool, true, false, cond, not, ◌&&◌, ◌||◌, nat_eq, true≢false, Option, Some, None, List, [], ◌∷◌, ◌++◌, map, eq-eqb, arith}
use Rattle.std.specs.Prelude.{filter, is_some, nat_lt, slice_get}
use Rattle.std.specs.List.{Contains, flat_map, list_any}
use Rattle.vb_tree.specs.BoundTree.{Ty}
use Rattle.bound_tree.specs.declared.marks.Marks.{Marks}
use Rattle.bound_tree.specs.Tree.{Declarations, Expr, Line, Procedure, Program}
use Rattle.reach_table.specs.Chains.{Chain, empty, longer}
use Rattle.bound_facts.specs.Calls.{Reaches, calls, count_procedures, initialized, initializer_of, line_calls, node_calls, pair_to}
use Rattle.bound_facts.specs.Clean.{Arrow, IsClean, Path, Point, arrows, call_arrow, captured_arrows, constant_arrows, goes, line_arrows, procedure, procedure_arrows, stays, type_arrows, variable_arrows}
use Rattle.bound_facts.specs.Facts.{AreFacts, Known}
use Rattle.bound_facts.specs.Items.{items_from, project_items}
use Rattle.bound_facts.specs.Leading.{LeadsTo, is_in, is_within, within}
use Rattle.bound_facts.specs.Locks.{Keeps}
use Rattle.bound_facts.specs.Node.{asks, called, created}
use Rattle.bound_facts.specs.Parts.{line_uses}
use Rattle.bound_facts.specs.SelfMade.{enters, is_plain_store, unplain, unplain_items}
use Rattle.run_matches.specs.Covered.{IsCovered}
use Rattle.run_matches.specs.Pledges.{is_inward, is_self_made, stands_in_class}
use Rattle.run_matches.specs.Upgrades.{Upgrade}
use Rattle.bound_facts.specs.SelfMade.{module_of}
use Rattle.name_laws.proofs.Lists.{Among, among, among_at, among_left, among_right, contains, flat_among, map_among, among_append}
use Rattle.name_laws.proofs.Counting.{within as within_list}
use Rattle.run_laws.proofs.Covered.{not_none}

-- ---- items of lines

no_more : (i : ℕ) → i ≡ i + 0
no_more i = omega arith

one_more : (i p : ℕ) → i + suc p ≡ (i + 1) + p
one_more i p = omega arith

items_among : {X : Type 0} (items : ℕ → Line → List X) (i p k : ℕ) (bodies : List (List Line)) (lines : List Line) (l : Line) (y : X)
    → slice_get bodies p ≡ Some lines → slice_get lines k ≡ Some l → Among (items (i + p) l) y → Among (items_from items i bodies) y
items_among items i p k [] lines l y e at h = absurd (not_none e)
items_among items i zero k (b ∷ bodies) lines l y e at h =
    let same : b ≡ lines = cc e in
    among_left (flat_map (items i) b) (items_from items (i + 1) bodies) y
    (flat_among (items i) b l y (subst (λ ls. Among ls l) (sym same) (among_at lines k l at)) (subst (λ j. Among (items j l) y) (sym (no_more i)) h))
items_among items i (suc p) k (b ∷ bodies) lines l y e at h =
    among_right (flat_map (items i) b) (items_from items (i + 1) bodies) y
    (items_among items (i + 1) p k bodies lines l y e at (subst (λ j. Among (items j l) y) (one_more i p) h))

-- a line of a procedure, by its number from 0
pub record IsLineOf (P : Program) (p : ℕ) (l : Line) : Type 0 where
  pub lines : List Line
  pub are_lines : slice_get P.bodies p ≡ Some lines
  pub place : ℕ
  pub stands : slice_get lines place ≡ Some l

none_more : (p : ℕ) → p ≡ 0 + p
none_more p = omega arith

project_among : {X : Type 0} (items : ℕ → Line → List X) (P : Program) (p : ℕ) (l : Line) (y : X) → IsLineOf P p l → Among (items p l) y
    → Among (project_items items P.bodies) y
project_among items P p l y s h = items_among items 0 p s.place P.bodies s.lines l y s.are_lines s.stands (subst (λ j. Among (items j l) y) (none_more p) h)

-- ---- chains

chain_then : (pairs : List (ℕ × ℕ)) (a b c : ℕ) → Chain pairs a b → Chain pairs b c → Chain pairs a c
chain_then pairs a _ _ x (empty b) = x
chain_then pairs a b _ x (longer _ d c y h) = longer a d c (chain_then pairs a b d x y) h

path_then : (pairs : List Arrow) (a b c : Point) → Path pairs a b → Path pairs b c → Path pairs a c
path_then pairs a _ _ x (stays b) = x
path_then pairs a b _ x (goes _ d c y h) = goes a d c (path_then pairs a b d x y) h

filter_among : {X : Type 0} (f : X → Bool) (xs : List X) (x : X) → f x ≡ true → Among xs x → Among (filter f xs) x
filter_among f [] x h m = absurd m
filter_among f (y ∷ ys) x h m = by (f y) refl m (λ n. filter_among f ys x h n)
  where
    by : (b : Bool) → f y ≡ b → Among (y ∷ ys) x → (Among ys x → Among (filter f ys) x) → Among (cond b (y ∷ filter f ys) (filter f ys)) x
    by true e (inl s) rest = inl s
    by true e (inr n) rest = inr (rest n)
    by false e (inl s) rest = absurd (true≢false (sym h ∙ sym (ap f s) ∙ e))
    by false e (inr n) rest = rest n

both_lt : (a b : Bool) → a ≡ true → b ≡ true → (a && b) ≡ true
both_lt true b h e = e
both_lt false b h e = absurd (true≢false (sym h))

module _ (P : Program) (p q : ℕ) (x : Procedure) (is : slice_get P.declarations.procs p ≡ Some x) (known : nat_lt q (count_procedures P) ≡ true) (l : Line)
    (stands : IsLineOf P p l) (call : Contains (line_calls P.declarations p l) (p, q)) where
  call_among : Among (calls P) (p, q)
  call_among = project_among (line_calls P.declarations) P p l (p, q) stands (among (line_calls P.declarations p l) (p, q) call)

  call_within : Contains (within (count_procedures P) (calls P)) (p, q)
  call_within =
      contains (within (count_procedures P) (calls P)) (p, q)
      (filter_among (is_within (count_procedures P)) (calls P) (p, q)
      (both_lt (nat_lt p (count_procedures P)) (nat_lt q (count_procedures P)) (within_list P.declarations.procs p x is) known) call_among)

  pub reaches_called : Reaches P p q
  reaches_called = longer p p q (empty p) call_within

  pub covered_called : IsCovered P p → IsCovered P q
  covered_called h r c = h r (chain_then (within (count_procedures P) (calls P)) p q r reaches_called c)

  call_is_arrow : Among (arrows P) (procedure p, procedure q)
  call_is_arrow =
      let D : Declarations = P.declarations in
      let first = map call_arrow (calls P) in
      let second = first ++ project_items (line_arrows D) P.bodies in
      let third = second ++ variable_arrows 0 D.vars in
      let fourth = third ++ constant_arrows 0 D.consts in
      let fifth = fourth ++ type_arrows 0 D.types in
      let sixth = fifth ++ procedure_arrows D.project.modules 0 D.procs in
      let a : Arrow = (procedure p, procedure q) in
      among_left sixth (captured_arrows D 0 D.procs) a
      (among_left fifth (procedure_arrows D.project.modules 0 D.procs) a
      (among_left fourth (type_arrows 0 D.types) a
      (among_left third (constant_arrows 0 D.consts) a
      (among_left second (variable_arrows 0 D.vars) a
      (among_left first (project_items (line_arrows D) P.bodies) a (map_among call_arrow (calls P) (p, q) call_among))))))

  pub clean_called : (M : Marks) → IsClean P M p → IsClean P M q
  clean_called M h b way =
      h b
      (path_then (arrows P) (procedure p) (procedure q) b
      (goes (procedure p) (procedure p) (procedure q) (stays (procedure p)) (contains (arrows P) (procedure p, procedure q) call_is_arrow)) way)

  -- what leads from the callee leads from the caller
  leads_called : (list : List ℕ) → LeadsTo (count_procedures P) (calls P) list q → LeadsTo (count_procedures P) (calls P) list p
  leads_called list h = (h.0, h.1, chain_then (within (count_procedures P) (calls P)) p q h.0 reaches_called h.2)

  pub keeps_called : (ty : Ty) → Keeps P p ty → Keeps P q ty
  keeps_called ty h locks = h (record { holds = locks.holds; are_held = locks.are_held; reaches = leads_called _ locks.reaches })

  -- ---- the caller isn't self-made

  first_is : (o : Option ℕ) (more : List (ℕ × ℕ)) → Among (pair_to p o more) (p, q) → (is_some o ≡ true) ⊎ Among more (p, q)
  first_is None more m = inr m
  first_is (Some r) more m = inl refl

  created_is : (o : Option ℕ) → is_some (initializer_of P.declarations o) ≡ true → is_some o ≡ true
  created_is None h = h
  created_is (Some c) h = refl

  enters_by : (d : Expr) → Among (node_calls P.declarations p d) (p, q) → enters P.declarations d ≡ true
  enters_by d m = by (first_is (called d) (pair_to p (initialized P.declarations d) []) m)
    where
      first_true : (a b : Bool) → a ≡ true → (a || b) ≡ true
      first_true true b h = refl
      first_true false b h = absurd (true≢false (sym h))

      second_true : (a b : Bool) → b ≡ true → (a || b) ≡ true
      second_true true b h = refl
      second_true false b h = h

      later : (is_some (initialized P.declarations d) ≡ true) ⊎ Among {X = ℕ × ℕ} [] (p, q) → enters P.declarations d ≡ true
      later (inl h) =
          second_true (is_some (called d)) (is_some (created P.declarations d) || asks d)
          (first_true (is_some (created P.declarations d)) (asks d) (created_is (created P.declarations d) h))
      later (inr h) = absurd h

      by : (is_some (called d) ≡ true) ⊎ Among (pair_to p (initialized P.declarations d) []) (p, q) → enters P.declarations d ≡ true
      by (inl h) = first_true (is_some (called d)) (is_some (created P.declarations d) || asks d) h
      by (inr h) = later (first_is (initialized P.declarations d) [] h)

  any_enters : (ds : List Expr) → Among (flat_map (node_calls P.declarations p) ds) (p, q) → list_any (enters P.declarations) ds ≡ true
  any_enters [] m = absurd m
  any_enters (d ∷ ds) m =
      by (among_append (node_calls P.declarations p d) (flat_map (node_calls P.declarations p) ds) (p, q) m) (λ n. any_enters ds n)
    where
      any_first : (a b : Bool) → a ≡ true → (a || b) ≡ true
      any_first true b h = refl
      any_first false b h = absurd (true≢false (sym h))

      any_later : (a b : Bool) → b ≡ true → (a || b) ≡ true
      any_later true b h = refl
      any_later false b h = h

      by : Among (node_calls P.declarations p d) (p, q) ⊎ Among (flat_map (node_calls P.declarations p) ds) (p, q)
          → (Among (flat_map (node_calls P.declarations p) ds) (p, q) → list_any (enters P.declarations) ds ≡ true)
          → (enters P.declarations d || list_any (enters P.declarations) ds) ≡ true
      by (inl n) more = any_first (enters P.declarations d) (list_any (enters P.declarations) ds) (enters_by d n)
      by (inr n) more = any_later (enters P.declarations d) (list_any (enters P.declarations) ds) (more n)

  and_false : (a b : Bool) → b ≡ true → (a && not b) ≡ false
  and_false true b h = ap not h
  and_false false b h = refl

  is_unplain : Among (unplain_items P.declarations p l) p
  is_unplain =
      subst (λ b. Among (cond b [] (p ∷ [])) p)
      (sym (and_false (is_plain_store P.declarations p l.source.form l.bindings.exprs) (list_any (enters P.declarations) (line_uses l))
      (any_enters (line_uses l) (among (line_calls P.declarations p l) (p, q) call)))) (inl refl)

  in_list : (ns : List ℕ) (n : ℕ) → Among ns n → is_in ns n ≡ true
  in_list [] n m = absurd m
  in_list (k ∷ ns) n (inl e) = ap (λ b. b || is_in ns n) (subst (λ j. nat_eq n j ≡ true) (sym e) (eq-eqb n n refl))
  in_list (k ∷ ns) n (inr m) = by (nat_eq n k) (in_list ns n m)
    where
      by : (b : Bool) → is_in ns n ≡ true → (b || is_in ns n) ≡ true
      by true h = refl
      by false h = h

  pub unplain_caller : (F : Known) → AreFacts P F → F.unplain p ≡ true
  unplain_caller F h =
      h.unplain_are p
      ∙ both_lt (nat_lt p (count_procedures P)) (is_in (unplain P) p) (within_list P.declarations.procs p x is)
      (in_list (unplain P) p (project_among (unplain_items P.declarations) P p l p stands is_unplain))

-- a steady caller calls inward procedures alone
pub inward_called : (U : Upgrade) → AreFacts U.program U.known → (p q : ℕ) (x : Procedure) → slice_get U.program.declarations.procs p ≡ Some x
    → nat_lt q (count_procedures U.program) ≡ true → (l : Line) → IsLineOf U.program p l → Contains (line_calls U.program.declarations p l) (p, q)
    → (is_inward U p || is_self_made U p) ≡ true → is_inward U q ≡ true
inward_called U known p q x is within l stands call steady = by (U.known.outward q) refl
  where
    no_steady : (a b c : Bool) → a ≡ true → b ≡ true → (not a || (not b && c)) ≡ true → ⊥
    no_steady true true c d e h = true≢false (sym h)
    no_steady true false c d e h = true≢false (sym e)
    no_steady false b c d e h = true≢false (sym d)

    by : (b : Bool) → U.known.outward q ≡ b → not b ≡ true
    by false e = refl
    by true e =
        absurd
        (no_steady (U.known.outward p) (U.known.unplain p) (stands_in_class U (module_of (slice_get U.program.declarations.procs p)))
        ((known.outward_are p).1 (leads_called U.program p q x is within l stands call _ ((known.outward_are q).0 e)))
        (unplain_caller U.program p q x is within l stands call U.known known) steady)

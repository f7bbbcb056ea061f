-- A procedure that stores to a variable of a module doesn't promise to change nothing but its own; one that is self-made stores to its object.
use Rattle.std.proofs.Common.{◌≡◌, refl, ap, sym, ◌∙◌, ℕ, zero, suc, ◌<◌, Bool, true, false, cond, not, ◌&&◌, nat_eq, List, [], ◌∷◌, length, Some, slice_get, nat_lt, arith, inl, inr, true≢false}
use Rattle.std.specs.Prelude.{◌||◌}
use Rattle.std.specs.List.{list_any}
use Rattle.std.proofs.lemmas.Bool.Decides.{nat_tests}
use Rattle.vb_tree.specs.Tree.{Form}
use Rattle.vb_tree.specs.Tree as source
use Rattle.bound_tree.specs.Tree.{Procedure, Declarations, Program, Expr, Line}
use Rattle.reach_table.specs.Chains.{empty}
use Rattle.bound_facts.specs.Calls.{count_procedures}
use Rattle.bound_facts.specs.CanRaise.{can_raise}
use Rattle.bound_facts.specs.Effects.{is_outside, changes_outside, is_loud, is_outward_node, is_outward_line, outward_items, outward}
use Rattle.bound_facts.specs.Leading.{is_in}
use Rattle.bound_facts.specs.Node.{root}
use Rattle.bound_facts.specs.Parts.{line_stores, line_uses, stores}
use Rattle.bound_facts.specs.SelfMade.{module_of, is_mine, is_plain_store, is_plain_line, enters, unplain_items, unplain}
use Rattle.run_base.specs.Machines.{nth_line}
use Rattle.run_matches.specs.CleanLines.{lines_at}
use Rattle.run_matches.specs.CoveredLines.{covers_line}
use Rattle.run_matches.specs.Pledges.{is_inward, is_self_made, stands_in_class}
use Rattle.run_matches.specs.Upgrades.{Upgrade}
use Rattle.run_statements.specs.Kept.{IsOwnStore, StoresAreOwn}
use Rattle.run_statements.specs.Written.{IsWritten}
use Rattle.name_laws.proofs.Lists.{same_number, Among, among, among_at}
use Rattle.name_laws.proofs.Arrows.{project_items_there}
use Rattle.name_laws.proofs.Uses.{HasLine, has_line}

-- ---- lists

any_of : {X : Type 0} (p : X → Bool) (xs : List X) (x : X) → Among xs x → p x ≡ true → list_any p xs ≡ true
any_of p [] x m h = absurd m
any_of p (y ∷ ys) x (inl e) h = ap (λ b. b || list_any p ys) (ap p e ∙ h)
any_of p (y ∷ ys) x (inr m) h = either (p y) (list_any p ys) (any_of p ys x m h)
  where
    either : (a b : Bool) → b ≡ true → (a || b) ≡ true
    either true b e = refl
    either false b e = e

in_list : (list : List ℕ) (n : ℕ) → Among list n → is_in list n ≡ true
in_list list n m = any_of (nat_eq n) list n m (same_number n n refl)

below : {X : Type 0} (xs : List X) (i : ℕ) (x : X) → slice_get xs i ≡ Some x → i < length xs
below [] i x e = absurd (cc e)
below (y ∷ ys) zero x e = omega arith
below (y ∷ ys) (suc i) x e = let h = below ys i x e in omega (arith, h)

is_below : {X : Type 0} (xs : List X) (i : ℕ) (x : X) → slice_get xs i ≡ Some x → nat_lt i (length xs) ≡ true
is_below xs i x e = let h = below xs i x e in grind (arith, nat_tests, h)

item_if : (b : Bool) (n : ℕ) → b ≡ true → Among (cond b (n ∷ []) []) n
item_if true n h = inl refl
item_if false n h = absurd (cc h)

item_unless : (b : Bool) (n : ℕ) → b ≡ false → Among (cond b [] (n ∷ [])) n
item_unless true n h = absurd (cc h)
item_unless false n h = inl refl

second_or : (a b c : Bool) → b ≡ true → (a || (b || c)) ≡ true
second_or true b c h = refl
second_or false true c h = refl
second_or false false c h = absurd (cc h)

and_first : (a b : Bool) → a ≡ false → (a && b) ≡ false
and_first true b h = absurd (cc h)
and_first false b h = refl

-- ---- what is known of the procedure

module _ (P : Program) (p k : ℕ) (x : Procedure) (is_procedure : slice_get P.declarations.procs p ≡ Some x) (l : Line) (at : HasLine P p k l) where
  counted : nat_lt p (count_procedures P) ≡ true
  counted = is_below P.declarations.procs p x is_procedure

  -- a line that stores outside makes it outward
  is_outward : (e : Expr) → Among (line_stores l) e → is_outside P.declarations.vars p (root e) ≡ true → (nat_lt p (count_procedures P) && is_in (outward P) p) ≡ true
  is_outward e m h =
      let changes : changes_outside P.declarations.vars p l ≡ true = any_of (λ e. is_outside P.declarations.vars p (root e)) (line_stores l) e m h in
      let line : is_outward_line P.declarations p l ≡ true =
      second_or (is_loud l.source.form) (changes_outside P.declarations.vars p l) (list_any (is_outward_node P.declarations) (line_uses l)) changes in
      let there : Among (outward P) p =
      project_items_there (outward_items P.declarations) P.bodies p at.lines l p at.are_lines (among_at at.lines k l at.is_line)
      (item_if (is_outward_line P.declarations p l) p line) in
      ap (λ b. b && is_in (outward P) p) counted ∙ in_list (outward P) p there

  -- a line that isn't plain makes it unplain
  is_unplain : is_plain_store P.declarations p l.source.form l.bindings.exprs ≡ false → (nat_lt p (count_procedures P) && is_in (unplain P) p) ≡ true
  is_unplain h =
      let line : is_plain_line P.declarations p l ≡ false =
      and_first (is_plain_store P.declarations p l.source.form l.bindings.exprs) (not (list_any (enters P.declarations) (line_uses l))) h in
      let there : Among (unplain P) p =
      project_items_there (unplain_items P.declarations) P.bodies p at.lines l p at.are_lines (among_at at.lines k l at.is_line)
      (item_unless (is_plain_line P.declarations p l) p line) in
      ap (λ b. b && is_in (unplain P) p) counted ∙ in_list (unplain P) p there

-- ---- a line that is plain stores to what is the procedure's or its object's

only_one : (to e : Expr) → Among (to ∷ []) e → to ≡ e
only_one to e (inl h) = h
only_one to e (inr h) = absurd h

not_plain : (D : Declarations) (p : ℕ) (f : Form) (es : List Expr) (e : Expr) → Among (stores f es) e → is_mine D p e ≡ false → is_plain_store D p f es ≡ false
not_plain D p (source.assign left right) [] e m h = refl
not_plain D p (source.assign left right) (to ∷ []) e m h = refl
not_plain D p (source.assign left right) (to ∷ d ∷ es) e m h = and_first (is_mine D p to) (not (can_raise D d)) (ap (is_mine D p) (only_one to e m) ∙ h)
not_plain D p _ es e m h = refl

-- ---- the law

pub stores_are_own : (U : Upgrade) → IsWritten U → (p : ℕ) (x : Procedure) → slice_get U.program.declarations.procs p ≡ Some x → (k : ℕ) (l : Line)
    → nth_line (lines_at U.program p) (suc k) ≡ Some l → covers_line U.program p l ≡ true → StoresAreOwn U p l
stores_are_own U I p x is_procedure k l here covers steady e m = by (is_outside U.program.declarations.vars p (root e)) refl
  where
    at : HasLine U.program p k l
    at = has_line U.program p k l here

    there : Among (line_stores l) e
    there = among (line_stores l) e m

    by : (b : Bool) → is_outside U.program.declarations.vars p (root e) ≡ b → IsOwnStore U p e
    by false h = inl h
    by true h = inr (inward, (self_made, mine (is_mine U.program.declarations p e) refl))
      where
        inward : is_inward U p ≡ false
        inward = ap not ((I.known.outward_are p).1 (p, is_outward U.program p k x is_procedure l at e there h, empty p))

        self_made : is_self_made U p ≡ true
        self_made = sym (ap (λ b. b || is_self_made U p) inward) ∙ steady

        mine : (b : Bool) → is_mine U.program.declarations p e ≡ b → b ≡ true
        mine true q = refl
        mine false q =
            let unplain : U.known.unplain p ≡ true =
            I.known.unplain_are p ∙ is_unplain U.program p k x is_procedure l at (not_plain U.program.declarations p l.source.form l.bindings.exprs e there q) in
            absurd (true≢false (sym self_made ∙ ap (λ b. not b && stands_in_class U (module_of (slice_get U.program.declarations.procs p))) unplain))

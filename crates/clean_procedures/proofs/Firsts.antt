-- What is noted for a file is the number of the first member of its module whose name captures others.
use Rattle.std.proofs.Common.{◌≡◌, ℕ, suc, Bool, true, false, cond, List, [], ◌∷◌, ◌++◌, map, Option, Some, None, refl, ap, sym, subst, ◌∙◌, nat_eq, not, take}
use Rattle.std.specs.Prelude.{◌&&◌, ◌||◌, is_some}
use Rattle.std.specs.List.{flat_map}
use Rattle.std.proofs.lemmas.Bool.{eqb-true}
use Rattle.std.proofs.lemmas.List.{map-append}
use Rattle.vb_tree.specs.Tree.{Module}
use Rattle.bound_tree.specs.declared.declared.Named.{Named}
use Rattle.bound_tree.specs.declared.declared.Named.TheVariants as named
use Rattle.bound_tree.specs.declared.declared.NamedEntry.{NamedEntry}
use Rattle.bound_tree.specs.declared.declared.Scope.{Scope}
use Rattle.bound_tree.specs.declared.declared.Scope.TheVariants as scope
use Rattle.bound_tree.specs.Tree.{Procedure, Declarations}
use Rattle.bound_facts.specs.Clean.{Point, procedure, variable, constant, user_type, captured_arrows, captures, capturing, capturing_in, is_member_of, named_point, to_all}
use Rattle.clean_procedures.specs.Captured.{First, first_in, first_of, firsts_of, has_first, member_file, with_name, with_name_in, with_names}
use Rattle.clean_procedures.specs.Numbers.{number, number_arrow}
use Rattle.clean_procedures.specs.Pairs.{Pair, captured_pairs, first_pairs, firsts_pairs}

-- ---- the first of two

abbrev either : Option ℕ → Option ℕ → Option ℕ
either None n = n
either (Some m) n = Some m

abbrev head_number : List Point → Option ℕ
head_number [] = None
head_number (p ∷ ps) = Some (number p)

either_none : (m : Option ℕ) → m ≡ either m None
either_none None = refl
either_none (Some k) = refl

either_three : (l m n : Option ℕ) → either (either l m) n ≡ either l (either m n)
either_three None m n = refl
either_three (Some k) m n = refl

either_some : (m n : Option ℕ) → is_some m ≡ true → m ≡ either m n
either_some None n h = absurd (cc h)
either_some (Some k) n h = refl

heads_join : (ps qs : List Point) → head_number (ps ++ qs) ≡ either (head_number ps) (head_number qs)
heads_join [] qs = refl
heads_join (p ∷ ps) qs = refl

found : (b : Bool) (k : ℕ) (m n : Option ℕ) → cond b (Some k) (either m n) ≡ either (cond b (Some k) m) n
found true k m n = refl
found false k m n = refl

in_both : (file : ℕ) (fs gs : List First) → first_in file (fs ++ gs) ≡ either (first_in file fs) (first_in file gs)
in_both file [] gs = refl
in_both file (f ∷ fs) gs =
    ap (λ (o : Option ℕ). cond (nat_eq f.0 file) (Some f.1) o) (in_both file fs gs) ∙ found (nat_eq f.0 file) f.1 (first_in file fs) (first_in file gs)

-- ---- one name

one_point : (b : Bool) (p : Point) → cond b (Some (number p)) None ≡ head_number (cond b (p ∷ []) [])
one_point true p = refl
one_point false p = refl

no_point : (b : Bool) → None ≡ head_number (cond b [] [])
no_point true = refl
no_point false = refl

one_first : (f file : ℕ) (what : Named) → first_in file (first_of f what) ≡ head_number (cond (nat_eq f file) (named_point what) [])
one_first f file (named.Var v) = one_point (nat_eq f file) (variable v.0)
one_first f file (named.Const c) = one_point (nat_eq f file) (constant c.0)
one_first f file (named.Proc p) = one_point (nat_eq f file) (procedure p.0)
one_first f file (named.Type t) = one_point (nat_eq f file) (user_type t.0)
one_first f file (named.Enum e) = no_point (nat_eq f file)

-- what a member of module f adds for a module, where c says whether its name captures others
abbrev added : (f file : ℕ) → Bool → Named → Option ℕ
added f file c what = head_number (cond (nat_eq f file && c) (named_point what) [])

and_true : (b : Bool) → b ≡ (b && true)
and_true true = refl
and_true false = refl

adds_none : (f file : ℕ) (what : Named) → None ≡ added f file false what
adds_none f file what = no_and (nat_eq f file) (named_point what)
  where
    no_and : (b : Bool) (ps : List Point) → None ≡ head_number (cond (b && false) ps [])
    no_and true ps = refl
    no_and false ps = refl

-- a file that has its point keeps it
has_already : (f file : ℕ) (fs : List First) (what : Named) (e : Bool) → nat_eq f file ≡ e → has_first f fs ≡ true → first_in file fs ≡ either (first_in file fs) (head_number (cond e (named_point what) []))
has_already f file fs what true e h = either_some (first_in file fs) (head_number (named_point what)) (subst (λ k. has_first k fs ≡ true) (eqb-true f file e) h)
has_already f file fs what false e h = either_none (first_in file fs)

member_is : (f file : ℕ) (fs : List First) (what : Named) (h c : Bool) → has_first f fs ≡ h → first_in file (cond (h || not c) fs (fs ++ first_of f what)) ≡ either (first_in file fs) (added f file c what)
member_is f file fs what true true e =
    has_already f file fs what (nat_eq f file) refl e ∙ ap (λ b. either (first_in file fs) (head_number (cond b (named_point what) []))) (and_true (nat_eq f file))
member_is f file fs what true false e = either_none (first_in file fs) ∙ ap (either (first_in file fs)) (adds_none f file what)
member_is f file fs what false true e =
    in_both file fs (first_of f what) ∙ ap (either (first_in file fs)) (one_first f file what)
    ∙ ap (λ b. either (first_in file fs) (head_number (cond b (named_point what) []))) (and_true (nat_eq f file))
member_is f file fs what false false e = either_none (first_in file fs) ∙ ap (either (first_in file fs)) (adds_none f file what)

name_is : (ms : List Module) (file : ℕ) (fs : List First) (x : NamedEntry) (s : Scope)
    → first_in file (with_name_in ms fs x (member_file s)) ≡ either (first_in file fs) (head_number (cond (is_member_of file s && captures ms x.name x.named) (named_point x.named) []))
name_is ms file fs x (scope.Public f) = member_is f file fs x.named (has_first f fs) (captures ms x.name x.named) refl
name_is ms file fs x (scope.Private f) = member_is f file fs x.named (has_first f fs) (captures ms x.name x.named) refl
name_is ms file fs x (scope.Local p) = either_none (first_in file fs)

-- ---- all names

names_are : (ms : List Module) (file : ℕ) (fs : List First) (xs : List NamedEntry) → first_in file (with_names ms fs xs) ≡ either (first_in file fs) (head_number (flat_map (capturing_in ms file) xs))
names_are ms file fs [] = either_none (first_in file fs)
names_are ms file fs (x ∷ xs) =
    let rest = head_number (flat_map (capturing_in ms file) xs) in
    names_are ms file (with_name ms fs x) xs ∙ ap (λ (o : Option ℕ). either o rest) (name_is ms file fs x x.scope)
    ∙ either_three (first_in file fs) (head_number (capturing_in ms file x)) rest
    ∙ ap (either (first_in file fs)) (sym (heads_join (capturing_in ms file x) (flat_map (capturing_in ms file) xs)))

first_is : (D : Declarations) (file : ℕ) → first_in file (firsts_of D) ≡ head_number (flat_map (capturing_in D.project.modules file) D.names)
first_is D file = names_are D.project.modules file [] D.names

-- ---- the pairs are the numbers of the arrows

to_first : (k : ℕ) (ps : List Point) → first_pairs k (head_number ps) ≡ map number_arrow (to_all (procedure k) (take 1 ps))
to_first k [] = refl
to_first k (p ∷ ps) = refl

procedure_is : (D : Declarations) (k file : ℕ) → first_pairs k (first_in file (firsts_of D)) ≡ map number_arrow (to_all (procedure k) (capturing D file))
procedure_is D k file = ap (first_pairs k) (first_is D file) ∙ to_first k (flat_map (capturing_in D.project.modules file) D.names)

procedures_are : (D : Declarations) (k : ℕ) (ps : List Procedure) → firsts_pairs (firsts_of D) k ps ≡ map number_arrow (captured_arrows D k ps)
procedures_are D k [] = refl
procedures_are D k (p ∷ ps) =
    ap (λ (rest : List Pair). first_pairs k (first_in p.module_number (firsts_of D)) ++ rest) (procedures_are D (suc k) ps)
    ∙ ap (λ (first : List Pair). first ++ map number_arrow (captured_arrows D (suc k) ps)) (procedure_is D k p.module_number)
    ∙ sym (map-append number_arrow (to_all (procedure k) (capturing D p.module_number)) (captured_arrows D (suc k) ps))

pub captured_are : (D : Declarations) → captured_pairs D ≡ map number_arrow (captured_arrows D 0 D.procs)
captured_are D = procedures_are D 0 D.procs

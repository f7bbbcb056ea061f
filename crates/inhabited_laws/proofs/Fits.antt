-- Premises of the theorem that a program meets by tests on its declarations and its lines.
use Rattle.std.proofs.Common.{◌≡◌, refl, sym, ap, subst, ℕ, zero, suc, Bool, true, false, not, ◌&&◌, List, [], ◌∷◌, length, Some}
use Rattle.std.proofs.lemmas.Bool.{eqb-true, true≢false}
use Rattle.std.specs.Prelude.{IsTrue, ◌↔◌, nat_eq, nat_lt, slice_get}
use Rattle.std.specs.List.{Contains, list_all}
use Rattle.vb_tree.specs.BoundTree.{Ty, array, user}
use Rattle.vb_tree.specs.declared.bound.LibCall.TheVariants as lib
use Rattle.bound_tree.specs.RuleSets.{has}
use Rattle.bound_tree.specs.Tree.{Declarations, Expr, typed, element, call, library, Exprs, no_exprs, next_expr, Line, Passed, no_passed, next_passed, by_value, by_reference, Procedure, Variable}
use Rattle.bound_facts.specs.Leading.{is_in}
use Rattle.bound_facts.specs.Parts.{Resize, line_uses, resized_by}
use Rattle.written_trees.specs.Arguments.{is_property_kind}
use Rattle.written_trees.specs.Facts.{Facts, Holds, head_set, types_with}
use Rattle.written_trees.specs.Properties.{carries_shape}
use Rattle.run_base.specs.Machines.{nth_line}
use Rattle.run_matches.specs.CleanLines.{lines_at, or_none}
use Rattle.run_matches.specs.Formed.{types_of}
use Rattle.run_matches.specs.Sites.{Site}
use Rattle.run_matches.specs.Upgrades.{Upgrade, home_of, parameter_rank}
use Rattle.run_statements.specs.Fitting.{FitsLine, FitsNode, FitsPassed, rank_of}
use Rattle.run_statements.specs.Written.{FirstsAreParts, PartsStandTogether}
use Rattle.name_laws.proofs.Lists.{all_among, all_at, among, both_true, none_of_both, some_same}
use Rattle.run_laws.proofs.Covered.{not_none}

not_both : (b : Bool) → not b ≡ true → b ≡ true → ⊥
not_both true h e = true≢false (sym h)
not_both false h e = true≢false (sym e)

-- ---- procedures

-- a procedure that is no part of a property
abbrev pub is_whole : Procedure → Bool
is_whole x = not (is_property_kind x.kind)

pub no_parts : (D : Declarations) → list_all is_whole D.procs ≡ true → PartsStandTogether D
no_parts D h n q s e is_part at = absurd (not_both (is_property_kind q.kind) (all_at is_whole D.procs n q h e) is_part)

pub no_firsts : (D : Declarations) → list_all is_whole D.procs ≡ true → FirstsAreParts D
no_firsts D h n q e is_part = absurd (not_both (is_property_kind q.kind) (all_at is_whole D.procs n q h e) is_part)

and_none : (a b : Bool) → b ≡ false → (a && b) ≡ false
and_none true b e = e
and_none false b e = refl

-- where no head is marked, no property is written in parts
pub unshaped : (F : Facts) (first k : ℕ) (qs : List Procedure) → ((p : ℕ) → has (head_set F p) 7 ≡ false) → carries_shape F first k qs ≡ false
unshaped F first k [] h = refl
unshaped F first k (q ∷ qs) h =
    none_of_both (nat_eq q.first.0 first && has (head_set F k) 7) (carries_shape F first (suc k) qs)
    (and_none (nat_eq q.first.0 first) (has (head_set F k) 7) (h k)) (unshaped F first (suc k) qs h)

-- the module of a site is the one of its file
abbrev pub HasHome : Upgrade → Site → Type 0
HasHome U s = home_of U s.source_module.file ≡ Some s.home

pub at_site : (P : Site → Type 0) (x y : Site) → Some x ≡ Some y → P x → P y
at_site P x y e h = subst P (some_same x y e) h

pub at_procedure : (P : Procedure → Type 0) (x y : Procedure) → Some x ≡ Some y → P x → P y
at_procedure P x y e h = subst P (some_same x y e) h

-- ---- lines

all_lines : (test : Line → Bool) (bodies : List (List Line)) (p k : ℕ) (l : Line) → list_all (list_all test) bodies ≡ true
    → slice_get (or_none (slice_get bodies p)) k ≡ Some l → test l ≡ true
all_lines test [] p k l h e = absurd (not_none e)
all_lines test (b ∷ bs) zero k l h e = all_at test b k l (both_true (list_all test b) (list_all (list_all test) bs) h).0 e
all_lines test (b ∷ bs) (suc p) k l h e = all_lines test bs p k l (both_true (list_all test b) (list_all (list_all test) bs) h).1 e

-- ---- uses of arrays

abbrev fits_passed : Upgrade → (procedure place : ℕ) → Passed → Bool
fits_passed U q i no_passed = true
fits_passed U q i (next_passed (by_value e) rest) = fits_passed U q (suc i) rest
fits_passed U q i (next_passed (by_reference e) rest) = nat_eq (rank_of U e) (parameter_rank U q i) && fits_passed U q (suc i) rest

-- the bounds of an array by no dimension
abbrev is_short : Exprs → Bool
is_short no_exprs = true
is_short (next_expr a no_exprs) = true
is_short (next_expr a (next_expr d rest)) = false

abbrev fits_node : Upgrade → Expr → Bool
fits_node U (typed ty (element a indexes)) = nat_eq (length (types_of indexes)) (rank_of U a)
fits_node U (typed ty (call q qualified of args)) = fits_passed U q.0 0 args
fits_node U (typed ty (library f args)) = is_short args
fits_node U (typed ty t) = true

passed_fit : (U : Upgrade) (q i : ℕ) (args : Passed) → fits_passed U q i args ≡ true → FitsPassed U q i args
passed_fit U q i no_passed h = tt
passed_fit U q i (next_passed (by_value e) rest) h = (tt, passed_fit U q (suc i) rest h)
passed_fit U q i (next_passed (by_reference e) rest) h =
    let both : (nat_eq (rank_of U e) (parameter_rank U q i) ≡ true) × (fits_passed U q (suc i) rest ≡ true) = both_true _ _ h in
    ((λ s t. eqb-true (rank_of U e) (parameter_rank U q i) both.0), passed_fit U q (suc i) rest both.1)

node_fits : (U : Upgrade) (e : Expr) → fits_node U e ≡ true → FitsNode U e
node_fits U (typed ty (element a indexes)) h = λ s. eqb-true (length (types_of indexes)) (rank_of U a) h
node_fits U (typed ty (call q qualified of args)) h = passed_fit U q.0 0 args h
node_fits U (typed ty (library lib.UBound no_exprs)) h = tt
node_fits U (typed ty (library lib.UBound (next_expr a no_exprs))) h = tt
node_fits U (typed ty (library lib.UBound (next_expr a (next_expr d rest)))) h = absurd (true≢false (sym h))
node_fits U (typed ty (library lib.LBound no_exprs)) h = tt
node_fits U (typed ty (library lib.LBound (next_expr a no_exprs))) h = tt
node_fits U (typed ty (library lib.LBound (next_expr a (next_expr d rest)))) h = absurd (true≢false (sym h))
node_fits U (typed ty (library f args)) h = tt
node_fits U (typed ty t) h = tt

abbrev pub fits_uses : Upgrade → Line → Bool
fits_uses U l = list_all (fits_node U) (line_uses l)

pub uses_fit : (U : Upgrade) → list_all (list_all (fits_uses U)) U.program.bodies ≡ true → (p k : ℕ) (l : Line)
    → nth_line (lines_at U.program p) (suc k) ≡ Some l → (d : Expr) → Contains (line_uses l) d → FitsNode U d
uses_fit U h p k l e d c =
    node_fits U d (all_among (fits_node U) (line_uses l) d (all_lines (fits_uses U) U.program.bodies p k l h e) (among (line_uses l) d c))

-- ---- lines that make no array anew

abbrev is_nil : List Resize → Bool
is_nil [] = true
is_nil (r ∷ rs) = false

abbrev pub is_still : Line → Bool
is_still l = is_nil (resized_by l.source.form l.bindings.exprs)

no_item : (rs : List Resize) (r : Resize) → is_nil rs ≡ true → Contains rs r → ⊥
no_item [] r h c = among [] r c
no_item (x ∷ xs) r h c = true≢false (sym h)

pub still_fits : (U : Upgrade) (p : ℕ) (l : Line) → is_still l ≡ true → FitsLine U p l
still_fits U p l h r c s = absurd (no_item (resized_by l.source.form l.bindings.exprs) r h c)

pub still_lines_fit : (U : Upgrade) → list_all (list_all is_still) U.program.bodies ≡ true → (p k : ℕ) (l : Line)
    → nth_line (lines_at U.program p) (suc k) ≡ Some l → FitsLine U p l
still_lines_fit U h p k l e = still_fits U p l (all_lines is_still U.program.bodies p k l h e)

-- ---- declarations

-- a fixed array has one dimension
abbrev is_ranked_type : Ty → Bool
is_ranked_type (array e zero) = true
is_ranked_type (array e (suc rank)) = nat_eq rank 0
is_ranked_type ty = true

abbrev pub is_ranked : Variable → Bool
is_ranked x = is_ranked_type x.ty

pub one_not : ◌≡◌ {A = ℕ} 1 0 → ⊥
one_not e = cc

pub one_rank : (vars : List Variable) → list_all is_ranked vars ≡ true → (v : ℕ) (x : Variable) (e : Ty) (rank : ℕ) → slice_get vars v ≡ Some x
    → x.ty ≡ array e (suc rank) → 1 ≡ suc rank
one_rank vars h v x e rank at is = ap suc (sym (eqb-true rank 0 (subst (λ ty. is_ranked_type ty ≡ true) is (all_at is_ranked vars v x h at))))

abbrev is_user_of : ℕ → Ty → Bool
is_user_of t (user u) = nat_eq u t
is_user_of t ty = false

abbrev is_named_type : Ty → Ty → Bool
is_named_type (user t) named = is_user_of t named
is_named_type ty named = true

-- a user type is the one that the declaration names
abbrev pub is_named : Variable → Bool
is_named x = is_named_type x.ty x.named

named_so : (t : ℕ) (named : Ty) → is_user_of t named ≡ true → named ≡ user t
named_so t (user u) h = ap user (eqb-true u t h)
named_so t ty h = absurd (true≢false (sym h))

pub all_named : (vars : List Variable) → list_all is_named vars ≡ true → (v : ℕ) (x : Variable) (t : ℕ) → slice_get vars v ≡ Some x → x.ty ≡ user t
    → x.named ≡ user t
all_named vars h v x t at is = named_so t x.named (subst (λ ty. is_named_type ty x.named ≡ true) is (all_at is_named vars v x h at))

-- no user type has a field that passes
pub none_hold : (D : Declarations) (test : Ty → Bool) → types_with D test 0 D.types ≡ [] → (t : ℕ) → IsTrue false ↔ Holds D test t
none_hold D test none t = (
  (λ h. absurd (true≢false (sym h))),
  (λ h. absurd (true≢false (sym (subst (λ ts. is_in ts h.0 ≡ true) none (both_true (nat_lt h.0 (length D.types)) (is_in (types_with D test 0 D.types) h.0) h.1).1)))),
)

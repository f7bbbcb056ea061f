-- Of the paths of functions of the support module each is noted once.
use Rattle.std.proofs.Common.{◌≡◌, ℕ, Bool, true, false, not, ◌&&◌, ◌||◌, cond, List, [], ◌∷◌, ◌++◌, codes, refl, sym, ap, ◌∙◌}
use Rattle.std.specs.Cmp.Lexicographic.{bytes_decides}
use Rattle.std.specs.List.{flat_map, fold}
use Rattle.std.proofs.lemmas.Bool.{false≢true}
use Rattle.std.proofs.lemmas.List.Folds.{list_any-append}
use Rattle.std.proofs.lemmas.Slice.Eq.{slice_eq-Decides}
use Rattle.net_tree.specs.Spelling.{is_same_text}
use Rattle.net_tree.specs.Tree.{Module}
use Rattle.support_text.specs.Needs.{is_path}
use Rattle.written_trees.specs.Names.{Path, support}
use Rattle.support_modules.specs.Flags.{with_path, with_paths_of}
use Rattle.support_modules.specs.Paths.{is_among, paths_of_module}
use Rattle.support_modules.proofs.WalkedPaths.{fold_listed}

-- ---- whether a path is new

new_by : (paths : List Path) (outer inner : List ℕ) (b : Bool) → is_same_text outer (codes "UpgradeSupport") ≡ b → (b && not (is_among paths (support inner))) ≡ (b && not (is_among paths (outer ∷ inner ∷ [])))
new_by paths outer inner false h = refl
new_by paths outer inner true h = ap (λ word. not (is_among paths (word ∷ inner ∷ []))) (sym ((bytes_decides outer (codes "UpgradeSupport")).0 h))

pub new_path : (paths : List Path) (outer inner : List ℕ) →
    (is_same_text outer (codes "UpgradeSupport") && not (is_among paths (support inner))) ≡ (is_same_text outer (codes "UpgradeSupport") && not (is_among paths (outer ∷ inner ∷ [])))
new_path paths outer inner = new_by paths outer inner (is_same_text outer (codes "UpgradeSupport")) refl

-- ---- what is noted

and_false : (a c : Bool) → c ≡ c || (a && false)
and_false true true = refl
and_false true false = refl
and_false false true = refl
and_false false false = refl

and_both_false : (a b c : Bool) → c ≡ c || (a && (b && false))
and_both_false true b c = and_false b c
and_both_false false b true = refl
and_both_false false b false = refl

or_false : (a : Bool) → a ≡ a || false
or_false true = refl
or_false false = refl

same_paths : (p q : Path) → is_path p q ≡ true → p ≡ q
same_paths p q h = (slice_eq-Decides bytes_decides p q (is_path p q) refl).0 h

there : (b : Bool) → b ≡ true → b ≡ b || true
there true h = refl
there false h = absurd (false≢true h)

-- one more that isn't noted is none that is looked for, or it stands there
not_noted : (paths : List Path) (p wanted : Path) → is_among paths p ≡ true → is_among paths wanted ≡ is_among paths wanted || is_path p wanted
not_noted paths p wanted h = by_test (is_path p wanted) refl
  where
    by_test : (b : Bool) → is_path p wanted ≡ b → is_among paths wanted ≡ is_among paths wanted || b
    by_test false e = or_false (is_among paths wanted)
    by_test true e = there (is_among paths wanted) (ap (is_among paths) (sym (same_paths p wanted e)) ∙ h)

one_noted : (paths : List Path) (p wanted : Path) → is_among (paths ++ p ∷ []) wanted ≡ is_among paths wanted || is_path p wanted
one_noted paths p wanted =
    list_any-append (λ q. is_path q wanted) paths (p ∷ [])
    ∙ ap (λ b. is_among paths wanted || b) (sym (or_false (is_path p wanted)))

by_place : (paths : List Path) (p wanted : Path) (b : Bool) → is_among paths p ≡ b → is_among (cond (not b) (paths ++ p ∷ []) paths) wanted ≡ is_among paths wanted || is_path p wanted
by_place paths p wanted true h = not_noted paths p wanted h
by_place paths p wanted false h = one_noted paths p wanted

by_name : (paths : List Path) (outer inner name : List ℕ) (b : Bool) → is_same_text outer (codes "UpgradeSupport") ≡ b →
    is_among (cond (b && not (is_among paths (outer ∷ inner ∷ []))) (paths ++ (outer ∷ inner ∷ []) ∷ []) paths) (support name) ≡ is_among paths (support name) || is_path (outer ∷ inner ∷ []) (support name)
by_name paths outer inner name true h = by_place paths (outer ∷ inner ∷ []) (support name) (is_among paths (outer ∷ inner ∷ [])) refl
by_name paths outer inner name false h =
    or_false (is_among paths (support name))
    ∙ ap (λ b. is_among paths (support name) || (b && (is_same_text inner name && true))) (sym h)

with_one : (name : List ℕ) (paths : List Path) (p : Path) → is_among (with_path paths p) (support name) ≡ is_among paths (support name) || is_path p (support name)
with_one name paths [] = or_false (is_among paths (support name))
with_one name paths (outer ∷ []) = and_false (is_same_text outer (codes "UpgradeSupport")) (is_among paths (support name))
with_one name paths (outer ∷ inner ∷ []) = by_name paths outer inner name (is_same_text outer (codes "UpgradeSupport")) refl
with_one name paths (outer ∷ inner ∷ other ∷ more) = and_both_false (is_same_text outer (codes "UpgradeSupport")) (is_same_text inner name) (is_among paths (support name))

or_on : (a b c : Bool) → (a || b) || c ≡ a || (b || c)
or_on true b c = refl
or_on false b c = refl

with_all : (name : List ℕ) (paths more : List Path) → is_among (fold with_path paths more) (support name) ≡ is_among paths (support name) || is_among more (support name)
with_all name paths [] = or_false (is_among paths (support name))
with_all name paths (p ∷ more) =
    with_all name (with_path paths p) more
    ∙ ap (λ b. b || is_among more (support name)) (with_one name paths p)
    ∙ or_on (is_among paths (support name)) (is_path p (support name)) (is_among more (support name))

pub noted_among : (modules : List Module) (name : List ℕ) → is_among (fold with_paths_of [] modules) (support name) ≡ is_among (flat_map paths_of_module modules) (support name)
noted_among modules name =
    ap (λ paths. is_among paths (support name)) (fold_listed with_path with_paths_of paths_of_module (λ paths m. refl) [] modules)
    ∙ with_all name [] (flat_map paths_of_module modules)

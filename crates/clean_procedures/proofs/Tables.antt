-- What the code's tables and choices are.
use Rattle.std.proofs.Common.{◌≡◌, ℕ, zero, suc, Bool, true, false, cond, List, [], ◌∷◌, ◌++◌, map, refl, ap, ◌∙◌, codes}
use Rattle.std.specs.Prelude.{filter, slice_get}
use Rattle.vb_tree.specs.BoundTree.{Ty, user, array}
use Rattle.vb_tree.specs.Tree.{Module}
use Rattle.bound_tree.specs.Tree.{Declarations}
use Rattle.bound_facts.specs.Locks.{user_in}
use Rattle.bound_facts.specs.Members.{class_files, class_sub, initializer, terminator}
use Rattle.clean_procedures.specs.Classes.{class_file, class_table, files_of, initializer_in, subs_in, terminator_in}
use Rattle.clean_procedures.specs.Pairs.{user_of}
use Rattle.clean_procedures.specs.declared.classes.ClassSubs.{ClassSubs}

-- ---- classes

one_file : (b : Bool) (m : Module) (ms : List Module) → cond b (m.file ∷ []) [] ++ map (λ (x : Module). x.file) ms ≡ map (λ (x : Module). x.file) (cond b (m ∷ ms) ms)
one_file true m ms = refl
one_file false m ms = refl

pub files_are : (ms : List Module) → files_of ms ≡ map (λ (m : Module). m.file) (filter (λ (m : Module). m.class) ms)
files_are [] = refl
files_are (m ∷ ms) = ap (λ (fs : List ℕ). class_file m ++ fs) (files_are ms) ∙ one_file m.class m (filter (λ (x : Module). x.class) ms)

begins_at : (D : Declarations) (files : List ℕ) (c : ℕ) → initializer_in (slice_get (map (subs_in D) files) c) ≡ class_sub D (codes "Class_Initialize") (slice_get files c)
begins_at D [] c = refl
begins_at D (f ∷ files) zero = refl
begins_at D (f ∷ files) (suc c) = begins_at D files c

ends_at : (D : Declarations) (files : List ℕ) (c : ℕ) → terminator_in (slice_get (map (subs_in D) files) c) ≡ class_sub D (codes "Class_Terminate") (slice_get files c)
ends_at D [] c = refl
ends_at D (f ∷ files) zero = refl
ends_at D (f ∷ files) (suc c) = ends_at D files c

pub initializer_is : (D : Declarations) (table : List ClassSubs) (c : ℕ) → table ≡ class_table D → initializer_in (slice_get table c) ≡ initializer D c
initializer_is D table c is = ap (λ (t : List ClassSubs). initializer_in (slice_get t c)) is ∙ begins_at D (class_files D.project) c

pub terminator_is : (D : Declarations) (table : List ClassSubs) (c : ℕ) → table ≡ class_table D → terminator_in (slice_get table c) ≡ terminator D c
terminator_is D table c is = ap (λ (t : List ClassSubs). terminator_in (slice_get t c)) is ∙ ends_at D (class_files D.project) c

-- ---- types

pub user_in_is : (t : Ty) (rank : ℕ) → user_in (array t rank) ≡ user_of t
user_in_is (user t) rank = refl
user_in_is _ rank = refl

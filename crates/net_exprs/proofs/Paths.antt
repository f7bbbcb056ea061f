-- A path that is read name by name.
use Rattle.std.proofs.Common.{◌≡◌, ℕ, zero, suc, ◌+◌, ◌≤◌, ◌<◌, Bool, true, false, ◌&&◌, ◌==◌, if◌then◌else◌, List, [], ◌∷◌, ◌++◌, length, codes, refl, sym, ap, ◌∙◌, arith, append_assoc, Option, Some, None}
use Rattle.std.specs.List.{list_all}
use Rattle.std.proofs.lemmas.List.Folds.{list_all-append}
use Rattle.up_base.specs.Names.{is_name}
use Rattle.net_exprs.specs.Answers.{Misfits}
use Rattle.net_exprs.specs.Fitting.{fits_name, fits_path}
use Rattle.net_exprs.specs.Names.{name_at, path_at, path_behind, path_from}
use Rattle.net_exprs.specs.Readers.{after, behind}
use Rattle.net_exprs.proofs.Words.{by_test}

abbrev Found : Type 0
Found = Option (List (List ℕ) × List ℕ)

abbrev with_names : List (List ℕ) → Found → Found
with_names before o = behind o (λ names rest. Some (before ++ names, rest))

-- names were read, and the path goes on at what is left
pub record PathLeft (text : List ℕ) (before : List (List ℕ)) (rest : List ℕ) : Type 0 where
  pub most : ℕ
  pub long : length rest ≤ most
  pub is : path_at text ≡ with_names before (path_from (suc most) rest)

-- what a full stop leads to, and its absence
stopped : (List ℕ → Found) → (name b : List ℕ) → Option (List ℕ) → Found
stopped go name b (Some s) = behind (go s) (λ names rest. Some (name ∷ names, rest))
stopped go name b None = Some (name ∷ [], b)

path_stopped : (go : List ℕ → Found) (name b : List ℕ) → path_behind go name b ≡ stopped go name b (after (codes ".") b)
unfolding stopped
path_stopped go name [] = refl
path_stopped go name (c ∷ s) =
    by_test (c == 46)
    (λ t. (elim t [ true ↦ behind (go s) (λ names rest. Some (name ∷ names, rest)) | false ↦ Some (name ∷ [], c ∷ s) ]) ≡ stopped go name (c ∷ s) (if t then Some s else None))
    (λ t. refl) (λ t. refl)

-- what is read from a name on
from_name : (m : ℕ) (rest name b : List ℕ) → name_at rest ≡ Some (name, b) → path_from (suc m) rest ≡ stopped (path_from m) name b (after (codes ".") b)
from_name m rest name b h = ap (λ o. behind o (path_behind (path_from m))) h ∙ path_stopped (path_from m) name b

pub path_goes_on : (text : List ℕ) (before : List (List ℕ)) (rest name b more : List ℕ) → PathLeft text before rest → name_at rest ≡ Some (name, b) → length b < length rest
    → after (codes ".") b ≡ Some more → length more + 1 ≡ length b → PathLeft text (before ++ name ∷ []) more
unfolding stopped
path_goes_on text before rest name b more left h less stop fewer = go left.most left.long left.is
  where
    again : (o : Found) → with_names before (behind o (λ names rest. Some (name ∷ names, rest))) ≡ with_names (before ++ name ∷ []) o
    again None = refl
    again (Some part) = ap (λ names. Some (names, part.1)) (sym (append_assoc before (name ∷ []) part.0))

    go : (m : ℕ) → length rest ≤ m → path_at text ≡ with_names before (path_from (suc m) rest) → PathLeft text (before ++ name ∷ []) more
    go zero long is = absurd (omega (arith, less, long))
    go (suc k) long is = record {
      most = k;
      long = omega (arith, less, long, fewer);
      is = is ∙ ap (with_names before) (from_name (suc k) rest name b h ∙ ap (stopped (path_from (suc k)) name b) stop) ∙ again (path_from (suc k) more);
    }

-- ---- names that fit, and names that don't

pub path_fits : (names : List (List ℕ)) (name : List ℕ) → fits_path names ≡ true → fits_name name ≡ true → fits_path (names ++ name ∷ []) ≡ true
path_fits names name h k = list_all-append is_name names (name ∷ []) ∙ rw (h, k) refl

all_behind : (p : List ℕ → Bool) (xs ys : List (List ℕ)) → list_all p ys ≡ false → list_all p (xs ++ ys) ≡ false
all_behind p [] ys h = h
all_behind p (x ∷ xs) ys h = by_test (p x) (λ b. b && list_all p (xs ++ ys) ≡ false) (λ t. all_behind p xs ys h) (λ t. refl)

pub path_misfits : (text : List ℕ) (before : List (List ℕ)) (rest : List ℕ) → PathLeft text before rest → Misfits fits_name (name_at rest) → Misfits fits_path (path_at text)
unfolding stopped
path_misfits text before rest left h = rw left.is (go (name_at rest) h)
  where
    first : (name : List ℕ) (names : List (List ℕ)) → is_name name ≡ false → fits_path (before ++ name ∷ names) ≡ false
    first name names k = all_behind is_name before (name ∷ names) (rw k refl)

    named : (name b : List ℕ) (o : Option (List ℕ)) → is_name name ≡ false → Misfits fits_path (with_names before (stopped (path_from left.most) name b o))
    named name b None k = first name [] k
    named name b (Some s) k = more (path_from left.most s)
      where
        more : (o : Found) → Misfits fits_path (with_names before (behind o (λ names rest. Some (name ∷ names, rest))))
        more None = tt
        more (Some part) = first name part.0 k

    go : (o : Option (List ℕ × List ℕ)) → Misfits fits_name o → Misfits fits_path (with_names before (behind o (path_behind (path_from left.most))))
    go None k = tt
    go (Some part) k = rw (path_stopped (path_from left.most) part.0 part.1) (named part.0 part.1 (after (codes ".") part.1) k)

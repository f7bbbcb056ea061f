-- The ranks of an array type that are read one by one.
use Rattle.std.proofs.Common.{◌≡◌, ℕ, zero, suc, ◌≤◌, ◌<◌, true, false, ◌&&◌, if◌then◌else◌, List, [], ◌∷◌, length, codes, sym, ap, ◌∙◌, arith, Option, Some, None}
use Rattle.std.specs.Cmp.Lexicographic.{bytes_decides}
use Rattle.net_tree.specs.Spelling.{is_same_path, is_same_text}
use Rattle.net_tree.specs.Types as ty
use Rattle.net_tree.specs.Types.{TypeName}
use Rattle.net_exprs.specs.Answers.{Misfits}
use Rattle.net_exprs.specs.Fitting.{fits_path, fits_type}
use Rattle.net_exprs.specs.Readers.{behind, word_at}
use Rattle.net_exprs.specs.Names.{path_at}
use Rattle.net_exprs.specs.Types.{arrays_behind, arrays_from, base_at, basic_type_of, path_type, rank_at, type_at}
use Rattle.net_exprs.proofs.Answering.{misfits_behind}
use Rattle.net_exprs.proofs.ArrayFits.{unfit_element}
use Rattle.net_exprs.proofs.Words.{both_true, by_test, never}

-- a type was read, and what is left may go on with more ranks
pub record RanksLeft (text : List ℕ) (t : TypeName) (rest : List ℕ) : Type 0 where
  pub most : ℕ
  pub long : length rest ≤ most
  pub is : type_at text ≡ Some (arrays_from most t rest)

pub ranks_begin : (text : List ℕ) (t : TypeName) (rest : List ℕ) → base_at text ≡ Some (t, rest) → RanksLeft text t rest
ranks_begin text t rest h =
    record { most = length rest; long = omega arith; is = ap (λ o. behind o (λ t rest. Some (arrays_from (length rest) t rest))) h }

pub ranks_go_on : (text : List ℕ) (t : TypeName) (rest : List ℕ) (r : ℕ) (beyond : List ℕ) → RanksLeft text t rest → rank_at rest ≡ Some (r, beyond) → length beyond < length rest
    → RanksLeft text (ty.array_of t r) beyond
ranks_go_on text t rest r beyond left h less = go left.most left.long left.is
  where
    go : (m : ℕ) → length rest ≤ m → type_at text ≡ Some (arrays_from m t rest) → RanksLeft text (ty.array_of t r) beyond
    go zero long is = absurd (omega (arith, less, long))
    go (suc k) long is = record { most = k; long = omega (arith, less, long); is = is ∙ ap (λ o. Some (arrays_behind (arrays_from k) t rest o)) h }

-- ---- what doesn't fit

arrays_misfit : (m : ℕ) (t : TypeName) (s : List ℕ) → fits_type t ≡ false → fits_type (arrays_from m t s).0 ≡ false
arrays_misfit zero t s h = h
arrays_misfit (suc m) t s h = go (λ r s. arrays_misfit m (ty.array_of t r) s (unfit_element t r h)) (rank_at s)
  where
    go : ((r : ℕ) (s : List ℕ) → fits_type (arrays_from m (ty.array_of t r) s).0 ≡ false) → (o : Option (ℕ × List ℕ)) → fits_type (arrays_behind (arrays_from m) t s o).0 ≡ false
    go more None = h
    go more (Some rank) = more rank.0 rank.1

pub base_misfits : (text : List ℕ) → Misfits fits_type (base_at text) → Misfits fits_type (type_at text)
base_misfits text h = misfits_behind fits_type fits_type (base_at text) (λ t rest. Some (arrays_from (length rest) t rest)) (λ t rest k. arrays_misfit (length rest) t rest k) h

pub rank_misfits : (text : List ℕ) (t : TypeName) (rest : List ℕ) (r : ℕ) (beyond : List ℕ) → RanksLeft text t rest → rank_at rest ≡ Some (r, beyond) → length beyond < length rest
    → fits_type (ty.array_of t r) ≡ false → Misfits fits_type (type_at text)
rank_misfits text t rest r beyond left h less unfit =
    let more = ranks_go_on text t rest r beyond left h less in
    rw more.is (arrays_misfit more.most (ty.array_of t r) beyond unfit)

-- System.Array fits
library_fits : (names : List (List ℕ)) → is_same_path names (codes "System" ∷ codes "Array" ∷ []) ≡ true → fits_path names ≡ true
library_fits [] h = never h
library_fits (n ∷ []) h = never (both_true (is_same_text n (codes "System")) false h).1
library_fits (n ∷ m ∷ []) h =
    let parts = both_true (is_same_text n (codes "System")) (is_same_text m (codes "Array") && true) h in
    let second = both_true (is_same_text m (codes "Array")) true parts.1 in
    ap (λ x. fits_path (x ∷ m ∷ [])) ((bytes_decides n (codes "System")).0 parts.0) ∙ ap (λ x. fits_path (codes "System" ∷ x ∷ [])) ((bytes_decides m (codes "Array")).0 second.0)
library_fits (n ∷ m ∷ o ∷ names) h =
    let parts = both_true (is_same_text n (codes "System")) (is_same_text m (codes "Array") && false) h in
    never (both_true (is_same_text m (codes "Array")) false parts.1).1

-- a path that doesn't fit names no type that does
pub path_type_misfits : (text : List ℕ) → basic_type_of (word_at text).0 ≡ None → Misfits fits_path (path_at text) → Misfits fits_type (base_at text)
path_type_misfits text none h = rw none (misfits_behind fits_path fits_type (path_at text) (λ names rest. Some (path_type names, rest)) named h)
  where
    named : (names : List (List ℕ)) (rest : List ℕ) → fits_path names ≡ false → fits_type (path_type names) ≡ false
    named names rest k =
        by_test (is_same_path names (codes "System" ∷ codes "Array" ∷ [])) (λ b. fits_type (if b then ty.system_array else ty.named names) ≡ false)
        (λ t. never (sym k ∙ library_fits names t)) (λ t. k)

-- a word of the language has letters
pub basic_is_word : (w : List ℕ) (t : TypeName) → basic_type_of w ≡ Some t → 0 < length w
unfolding basic_type_of
basic_is_word [] t h = absurd cc
basic_is_word (c ∷ w) t h = omega arith

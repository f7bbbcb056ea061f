-- Files that are put one after the other: one more, and where the putting stops.
use Rattle.std.proofs.Common.{◌≡◌, ℕ, zero, suc, ◌+◌, ◌<◌, List, [], ◌∷◌, ◌++◌, length, map, take, drop, get_or, Option, Some, None, Bool, true, add-one, refl, sym, ap, ◌∙◌, subst, arith}
use Rattle.std.specs.Prelude.{slice_get, slice_set, Result, Ok, Err}
use Rattle.std.proofs.lemmas.List.{take_more}
use Rattle.std.specs.List.{list_all}
use Rattle.std.proofs.lemmas.Option.{slice_get-get_or}
use Rattle.std.proofs.lemmas.List.Elements.{All-get_or}
use Rattle.std.proofs.lemmas.List.Sums.{AllPass-from_list_all}
use Rattle.up_base.specs.Outside.{Files, IfTold, CountsCall, IsPut, ChangesOnly}
use Rattle.wizard_cli.specs.Headline.{in_folder, moved, PutAll, PutUpTo}

abbrev Entry : Type 0
Entry = List ℕ × List ℕ

pub no_put : (b : Option Files) → IfTold b b (PutAll [])
no_put None = tt
no_put (Some files) = λ n. refl

pub no_call : (b : Option ℕ) → IfTold b b (λ x y. y ≡ x + 0)
no_call None = tt
no_call (Some x) = omega arith

one_more : (xs : List Entry) (f : Entry) (before between after : Files) → PutAll xs before between → between f.0 ≡ between f.0 → after f.0 ≡ Some f.1 → ChangesOnly f.0 between after → PutAll (xs ++ f ∷ []) before after
one_more [] f before between after put same holds only =
    (after, holds, λ n other. only n other ∙ put n, λ n. refl)
one_more (x ∷ xs) f before between after put same holds only =
    (put.0, put.1, put.2, one_more xs f put.0 between after put.3 same holds only)

-- an Ok beside errors of the type E
abbrev pub ok_of : (E : Type 0) → Unit {0} → Result Unit E
ok_of E u = Ok u

pub put_more : (E : Type 0) (b m a : Option Files) (files : List Entry) (k : ℕ) (f : Entry) (u : Unit {0}) → k < length files → f ≡ get_or files k f → IfTold b m (PutAll (take k files)) → IfTold m a (IsPut f.0 f.1 (ok_of E u)) → IfTold b a (PutAll (take (k + 1) files))
put_more E b m None files k f u within is whole put = tt
put_more E b None (Some after) files k f u within is whole put = absurd put
put_more E None (Some between) (Some after) files k f u within is whole put = whole
put_more E (Some before) (Some between) (Some after) files k f u within is whole put =
    subst (λ xs. PutAll xs before after) (ap (λ x. take k files ++ x ∷ []) is ∙ sym (take_more files k f within))
    (one_more (take k files) f before between after whole refl put.0 put.1)

pub call_more : (b m a : Option ℕ) (k : ℕ) → IfTold b m (λ x y. y ≡ x + k) → CountsCall m a → IfTold b a (λ x y. y ≡ x + (k + 1))
call_more b m None k so_far one = tt
call_more b None (Some y) k so_far one = absurd one
call_more None (Some z) (Some y) k so_far one = so_far
call_more (Some x) (Some z) (Some y) k so_far one = omega arith

got : (files : List Entry) (k : ℕ) (f : Entry) → k < length files → f ≡ get_or files k f → slice_get files k ≡ Some f
got files k f within is = slice_get-get_or files k f within ∙ ap Some (sym is)

pub put_cut : {E : Type 0} (b m a : Option Files) (files : List Entry) (k : ℕ) (f : Entry) (e : E) → k < length files → f ≡ get_or files k f → IfTold b m (PutAll (take k files)) → IfTold m a (IsPut f.0 f.1 (Err e)) → IfTold b a (PutUpTo files k)
put_cut b m None files k f e within is whole put = tt
put_cut b None (Some after) files k f e within is whole put = absurd put
put_cut None (Some between) (Some after) files k f e within is whole put = whole
put_cut (Some before) (Some between) (Some after) files k f e within is whole put =
    record { between = between; whole = whole; last = f; is_last = got files k f within is; cut = put }

-- the first files moved, and the rest as they were
abbrev pub moved_to : ℕ → List Entry → List Entry
moved_to i files = map moved (take i files) ++ drop i files

pub moved_more : (files : List Entry) (i : ℕ) (f : Entry) → i < length files → slice_set (moved_to i files) i (moved (get_or files i f)) ≡ moved_to (suc i) files
moved_more [] i f within = absurd (omega arith)
moved_more (x ∷ xs) zero f within = refl
moved_more (x ∷ xs) (suc i) f within = ap (λ fs. moved x ∷ fs) (moved_more xs i f (omega arith))

-- the item at the place is still as it was
pub not_moved : (files : List Entry) (i : ℕ) (f : Entry) → i < length files → get_or (moved_to i files) i f ≡ get_or files i f
not_moved [] i f within = absurd (omega arith)
not_moved (x ∷ xs) zero f within = refl
not_moved (x ∷ xs) (suc i) f within = not_moved xs i f (omega arith)

pub length_moved_to : (files : List Entry) (i : ℕ) → length (moved_to i files) ≡ length files
length_moved_to [] zero = refl
length_moved_to [] (suc i) = refl
length_moved_to (x ∷ xs) zero = refl
length_moved_to (x ∷ xs) (suc i) = ap (λ n. suc n) (length_moved_to xs i)

-- one more file, moved under its new name
pub moved_next : (files items : List Entry) (i : ℕ) (f : Entry) (name : List ℕ) → items ≡ moved_to i files → i < length files → name ≡ in_folder (get_or items i f).0 → slice_set items i (name, (get_or items i f).1) ≡ moved_to (i + 1) files
moved_next files items i f name so_far within folder =
    let same = ap (λ xs. get_or xs i f) so_far ∙ not_moved files i f within in
    ap (λ n. slice_set items i (n, (get_or items i f).1)) folder
    ∙ ap (λ g. slice_set items i (moved g)) same
    ∙ ap (λ xs. slice_set xs i (moved (get_or files i f))) so_far
    ∙ moved_more files i f within
    ∙ ap (λ n. moved_to n files) (sym (add-one i))

-- what holds of each file holds of the one at the place, which is as it was
pub passes_next : (p : Entry → Bool) (files items : List Entry) (i : ℕ) (f : Entry) → items ≡ moved_to i files → i < length files → list_all p files ≡ true → p (get_or items i f) ≡ true
passes_next p files items i f so_far within all =
    ap p (ap (λ xs. get_or xs i f) so_far ∙ not_moved files i f within) ∙ All-get_or (λ g. p g ≡ true) files i f within (AllPass-from_list_all p files all)

-- Files that are compared one after the other: one more, and the one that isn't held as it would be written.
use Rattle.std.proofs.Common.{◌≡◌, ℕ, ◌+◌, ◌<◌, List, [], ◌∷◌, ◌++◌, length, take, get_or, Option, Some, None, sym, ap, ◌∙◌, subst}
use Rattle.std.specs.Prelude.{IfSome, slice_get}
use Rattle.std.proofs.lemmas.List.{take_more}
use Rattle.std.proofs.lemmas.Option.{same_Some, slice_get-get_or}
use Rattle.up_base.specs.Outside.{Files}
use Rattle.wizard_cli.specs.Headline.{HoldFiles}
use Rattle.wizard_cli.specs.Steps.{ComparesTo, IsUnlikeAt}

abbrev Entry : Type 0
Entry = List ℕ × List ℕ

pub none_held : (held : Option Files) → IfSome held (HoldFiles [])
none_held None = tt
none_held (Some files) = tt

hold_one_more : (xs : List Entry) (f : Entry) (files : Files) → HoldFiles xs files → files f.0 ≡ Some f.1 → HoldFiles (xs ++ f ∷ []) files
hold_one_more [] f files h is = (is, tt)
hold_one_more (x ∷ xs) f files h is = (h.0, hold_one_more xs f files h.1 is)

pub hold_more : (held now : Option Files) (files : List Entry) (k : ℕ) (f : Entry) → now ≡ held → k < length files → f ≡ get_or files k f → IfSome held (HoldFiles (take k files)) → IfSome now (λ fs. fs f.0 ≡ Some f.1)
    → IfSome held (HoldFiles (take (k + 1) files))
hold_more held now files k f same within is before one =
    subst (λ xs. IfSome held (HoldFiles xs)) (ap (λ x. take k files ++ x ∷ []) is ∙ sym (take_more files k f within))
    (by held before (subst (λ h. IfSome h (λ fs. fs f.0 ≡ Some f.1)) same one))
  where
    by : (h : Option Files) → IfSome h (HoldFiles (take k files)) → IfSome h (λ fs. fs f.0 ≡ Some f.1) → IfSome h (HoldFiles (take k files ++ f ∷ []))
    by None before one = tt
    by (Some fs) before one = hold_one_more (take k files) f fs before one

pub unlike_at : (held now : Option Files) (files : List Entry) (k : ℕ) (f : Entry) → now ≡ held → k < length files → f ≡ get_or files k f → IfSome now (λ fs. ¬ (fs f.0 ≡ Some f.1)) → IfSome held (IsUnlikeAt files k)
unlike_at held now files k f same within is unlike = by held (subst (λ h. IfSome h (λ fs. ¬ (fs f.0 ≡ Some f.1))) same unlike)
  where
    by : (h : Option Files) → IfSome h (λ fs. ¬ (fs f.0 ≡ Some f.1)) → IfSome h (IsUnlikeAt files k)
    by None u = tt
    by (Some fs) u = λ name bytes at holds.
        let it : f ≡ (name, bytes) = same_Some f (name, bytes) (sym (slice_get-get_or files k f within ∙ ap Some (sym is)) ∙ at) in
        u (ap (λ (g : Entry). fs g.0) it ∙ holds ∙ ap (λ (g : Entry). Some g.1) (sym it))

-- the one at the place, by its name and bytes
pub unlike_there : (held : Option Files) (files : List Entry) (k : ℕ) (name bytes : List ℕ) → slice_get files k ≡ Some (name, bytes) → IfSome held (IsUnlikeAt files k) → IfSome held (λ fs. ¬ (fs name ≡ Some bytes))
unlike_there None files k name bytes at u = tt
unlike_there (Some fs) files k name bytes at u = u name bytes at

pub all_taken : (held : Option Files) (files : List Entry) (k : ℕ) → take k files ≡ files → IfSome held (HoldFiles (take k files)) → IfSome held (HoldFiles files)
all_taken held files k same h = subst (λ xs. IfSome held (HoldFiles xs)) same h

-- ---- where the comparing stopped, by the one that was taken out at the place

taken : (files : List Entry) (k : ℕ) (f : Entry) → k < length files → f ≡ get_or files k f → slice_get files k ≡ Some (f.0, f.1)
taken files k f within is = slice_get-get_or files k f within ∙ ap Some (sym is)

-- what is known of it in the list that was lent
pub stopped_at : (held : Option Files) (before after : Option ℕ) (files lent : List Entry) (k : ℕ) (f : Entry) → lent ≡ files → k < length lent → f ≡ get_or files k f → ComparesTo lent held before after k
    → (place : ℕ) × (bytes : List ℕ) × (slice_get files place ≡ Some (f.0, bytes)) × ComparesTo files held before after place
stopped_at held before after files lent k f same within is comes =
    (k, f.1, taken files k f (subst (λ xs. k < length xs) same within) is, subst (λ xs. ComparesTo xs held before after k) same comes)

pub differs_at : (held : Option Files) (before after : Option ℕ) (files lent : List Entry) (k : ℕ) (f : Entry) → lent ≡ files → k < length lent → f ≡ get_or files k f → ComparesTo lent held before after k → IfSome held (IsUnlikeAt lent k)
    → (place : ℕ) × (bytes : List ℕ) × (slice_get files place ≡ Some (f.0, bytes)) × ComparesTo files held before after place × IfSome held (λ fs. ¬ (fs f.0 ≡ Some bytes))
differs_at held before after files lent k f same within is comes unlike =
    let there = taken files k f (subst (λ xs. k < length xs) same within) is in
    (k, f.1, there, subst (λ xs. ComparesTo xs held before after k) same comes, unlike_there held files k f.0 f.1 there (subst (λ xs. IfSome held (IsUnlikeAt xs k)) same unlike))

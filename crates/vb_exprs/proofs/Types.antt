-- A type is as long as it can be.
use Rattle.std.proofs.Common.{◌≡◌, ℕ, List, ◌∷◌, ◌++◌, sym, ap, ◌∙◌, subst, true, false}
use Rattle.up_base.specs.Names.{is_name}
use Rattle.vb_tree.specs.Expressions.{Symbol, leaf, naming, access, Naming, name_of, name_in, IsWord, WrittenType, single, dotted, type_spelling, type_in, IsType}
use Rattle.vb_exprs.specs.Reading.{NoPartAfter}

-- a name that nothing lengthens
pub type_single : (ty : WrittenType) (now rest after : List Symbol) (n : Naming) (first : List ℕ) → now ≡ leaf (naming n) ∷ after → name_of n ≡ first → ((w : Symbol) (more : List Symbol) → IsWord w → after ≡ access false ∷ w ∷ more → is_name (first ++ 46 ∷ name_in w) ≡ false) → now ≡ type_spelling ty ++ rest → IsType ty → (first ≡ type_in ty) × (after ≡ rest)
type_single (single m) now rest after n first e f short s h = (sym f ∙ ap name_of (let g : n ≡ m = cc in g), cc)
type_single (dotted m w) now rest after n first e f short s h =
    let same : n ≡ m = cc in
    let no = short w rest h.0 cc in
    absurd (cc (ap (λ x. is_name (x ++ 46 ∷ name_in w)) (sym (ap name_of same) ∙ f), no, h.1))

-- a name with its library
pub type_dotted : (ty : WrittenType) (now rest beyond : List Symbol) (n : Naming) (first : List ℕ) (w : Symbol) → now ≡ leaf (naming n) ∷ access false ∷ w ∷ beyond → name_of n ≡ first → is_name (first ++ 46 ∷ name_in w) ≡ true → now ≡ type_spelling ty ++ rest → NoPartAfter ty rest → (first ++ 46 ∷ name_in w ≡ type_in ty) × (beyond ≡ rest)
type_dotted (single m) now rest beyond n first w e f fits s h =
    let same : n ≡ m = cc in
    let after : rest ≡ access false ∷ w ∷ beyond = cc in
    let no = subst (NoPartAfter (single m)) after h in
    absurd (cc (ap (λ x. is_name (x ++ 46 ∷ name_in w)) (sym (ap name_of same) ∙ f), no, fits))
type_dotted (dotted m v) now rest beyond n first w e f fits s h =
    let same : n ≡ m = cc in
    let part : w ≡ v = cc in
    (ap (λ x. x ++ 46 ∷ name_in w) (sym f ∙ ap name_of same) ∙ ap (λ x. name_of m ++ 46 ∷ name_in x) part, cc)

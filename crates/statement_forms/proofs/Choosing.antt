-- The first kind that fits.
use Rattle.std.proofs.Common.{◌≡◌, ℕ, List, [], ◌∷◌, ◌++◌, sym, subst, Result, Ok, Err, ◌⊎◌, inl, inr, true, false}
use Rattle.vb_tree.specs.declared.form.Form6.{Form6}
use Rattle.vb_tree.specs.declared.token.Token.{Token}
use Rattle.vb_tree.specs.Tree.{Form}
use Rattle.vb_tree.specs.View.{form_of}
use Rattle.form_parts.specs.declared.answer.PartFail.{PartFail}
use Rattle.form_parts.specs.declared.answer.PartFail.TheVariants as fail
use Rattle.statement_forms.specs.LineForms.{FormKind, Fits, FirstIn}
use Rattle.statement_forms.specs.Answer.{Reads, first_found, not_found}

neither : (k : FormKind) (ks : List FormKind) (ts : List Token) (f : Form) (n : ℕ) → (Fits k ts f n → ⊥) → (FirstIn ks ts f n → ⊥) → FirstIn (k ∷ ks) ts f n → ⊥
neither k ks ts f n a b (inl h) = a h
neither k ks ts f n a b (inr h) = b h.1

module _ (k : FormKind) (ks : List FormKind) (ts : List Token) where
  found_first : (q r : Result Form6 PartFail) → Reads (Fits k ts) q → Reads (FirstIn ks ts) r → Reads (FirstIn (k ∷ ks) ts) (first_found q r)
  found_first (Ok f) r h l = (h.0, inl h.1, h.2)
  found_first (Err fail.TooDeep) r h l = (h.0, inl h.1, h.2)
  found_first (Err fail.Mem) r h l = tt
  found_first (Err fail.NotFound) (Ok f) h l = (l.0, inr (λ g m p. h (g, m) p, l.1), l.2)
  found_first (Err fail.NotFound) (Err fail.NotFound) h l = λ x p. neither k ks ts x.0 x.1 (h x) (l x) p
  found_first (Err fail.NotFound) (Err fail.TooDeep) h l = (l.0, inr (λ g m p. h (g, m) p, l.1), l.2)
  found_first (Err fail.NotFound) (Err fail.Mem) h l = tt

  pub chosen : (q r whole : Result Form6 PartFail) → Reads (Fits k ts) q → Reads (FirstIn ks ts) r → whole ≡ first_found q r → Reads (FirstIn (k ∷ ks) ts) whole
  chosen q r whole h l same = subst (λ z. Reads (FirstIn (k ∷ ks) ts) z) (sym same) (found_first q r h l)

pub last_chosen : (k : FormKind) (ts : List Token) (q : Result Form6 PartFail) → Reads (Fits k ts) q → Reads (FirstIn (k ∷ []) ts) q
last_chosen k ts (Ok f) h = (h.0, inl h.1, h.2)
last_chosen k ts (Err fail.NotFound) h = λ x p. neither k [] ts x.0 x.1 (h x) (λ z. z) p
last_chosen k ts (Err fail.TooDeep) h = (h.0, inl h.1, h.2)
last_chosen k ts (Err fail.Mem) h = tt

first_front : (ks ls : List FormKind) (ts : List Token) (f : Form) (n : ℕ) → FirstIn ks ts f n → FirstIn (ks ++ ls) ts f n
first_front [] ls ts f n h = absurd h
first_front (k ∷ ks) ls ts f n (inl h) = inl h
first_front (k ∷ ks) ls ts f n (inr h) = inr (h.0, first_front ks ls ts f n h.1)

module _ (ls : List FormKind) (ts : List Token) where
  none_fits : (ks : List FormKind) (k : FormKind) → ((f : Form) (n : ℕ) → FirstIn (k ∷ ks) ts f n → ⊥) → (f : Form) (n : ℕ) → Fits k ts f n → ⊥
  none_fits ks k none f n h = none f n (inl h)

  none_later : (ks : List FormKind) (k : FormKind) → ((f : Form) (n : ℕ) → FirstIn (k ∷ ks) ts f n → ⊥) → (f : Form) (n : ℕ) → FirstIn ks ts f n → ⊥
  none_later ks k none f n h = none f n (inr (none_fits ks k none, h))

  first_behind : (ks : List FormKind) (f : Form) (n : ℕ) → ((g : Form) (m : ℕ) → FirstIn ks ts g m → ⊥) → FirstIn ls ts f n → FirstIn (ks ++ ls) ts f n
  first_behind [] f n none h = h
  first_behind (k ∷ ks) f n none h = inr (none_fits ks k none, first_behind ks f n (none_later ks k none) h)

  first_parted : (ks : List FormKind) (f : Form) (n : ℕ) → FirstIn (ks ++ ls) ts f n → FirstIn ks ts f n ⊎ FirstIn ls ts f n
  first_parted [] f n h = inr h
  first_parted (k ∷ ks) f n (inl h) = inl (inl h)
  first_parted (k ∷ ks) f n (inr h) = go (first_parted ks f n h.1)
    where
      go : FirstIn ks ts f n ⊎ FirstIn ls ts f n → FirstIn (k ∷ ks) ts f n ⊎ FirstIn ls ts f n
      go (inl p) = inl (inr (h.0, p))
      go (inr p) = inr p

  pub in_front : (ks : List FormKind) (q : Result Form6 PartFail) → Reads (FirstIn ks ts) q → not_found q ≡ false → Reads (FirstIn (ks ++ ls) ts) q
  in_front ks (Ok f) h e = (h.0, first_front ks ls ts (form_of f) h.0 h.1, h.2)
  in_front ks (Err fail.NotFound) h e = absurd (cc)
  in_front ks (Err fail.TooDeep) h e = (h.0, first_front ks ls ts h.0.0 h.0.1 h.1, h.2)
  in_front ks (Err fail.Mem) h e = tt

  none_of : (ks : List FormKind) (q : Result Form6 PartFail) → Reads (FirstIn ks ts) q → not_found q ≡ true → (f : Form) (n : ℕ) → FirstIn ks ts f n → ⊥
  none_of ks (Ok f) h e = absurd (cc)
  none_of ks (Err fail.NotFound) h e = λ f n p. h (f, n) p
  none_of ks (Err fail.TooDeep) h e = absurd (cc)
  none_of ks (Err fail.Mem) h e = absurd (cc)

  either_none : (ks : List FormKind) (f : Form) (n : ℕ) → ((g : Form) (m : ℕ) → FirstIn ks ts g m → ⊥) → (FirstIn ls ts f n → ⊥) → FirstIn ks ts f n ⊎ FirstIn ls ts f n → ⊥
  either_none ks f n a b (inl p) = a f n p
  either_none ks f n a b (inr p) = b p

  pub further : (ks : List FormKind) (q r : Result Form6 PartFail) → Reads (FirstIn ks ts) q → not_found q ≡ true → Reads (FirstIn ls ts) r → Reads (FirstIn (ks ++ ls) ts) r
  further ks q (Ok f) h e l = (l.0, first_behind ks (form_of f) l.0 (none_of ks q h e) l.1, l.2)
  further ks q (Err fail.NotFound) h e l = λ x p. either_none ks x.0 x.1 (none_of ks q h e) (l x) (first_parted ks x.0 x.1 p)
  further ks q (Err fail.TooDeep) h e l = (l.0, first_behind ks l.0.0 l.0.1 (none_of ks q h e) l.1, l.2)
  further ks q (Err fail.Mem) h e l = tt
